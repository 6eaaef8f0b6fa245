-- What is so of each node that a machine makes is so of the node at each path.
use Rattle.std.proofs.Common.{◌≡◌, ℕ, suc, Bool, true, false, if◌then◌else◌, List, [], ◌∷◌, Option, Some, None, refl}
use Rattle.oz_search.specs.declared.tree.Kind.{Kind}
use Rattle.oz_search.specs.declared.tree.Kind.TheVariants.{Alternatives, End}
use Rattle.oz_search.specs.Searches.{Search}
use Rattle.oz_search.specs.Paths.{is_among}
use Rattle.oz_search.specs.Nodes.{Reached, Maker, Met, Node, NotANode, met_last, met_by_kind, met_next, met_from}

module _ {B L C : Type 0} (s : Search B L) where
  last_node : (at : ℕ) (o : Option (Reached C L)) (r : Reached C L) → met_last s at o ≡ Node r → o ≡ Some r
  last_node at None r e = absurd (cc (e))
  last_node at (Some x) r e = cc

  kind_goes : (at : ℕ) (b : B) (kind : Kind L) (next : Met C L) (r : Reached C L) → met_by_kind s at b kind next ≡ Node r → next ≡ Node r
  kind_goes at b (Alternatives n) next r e = by (is_among s n b) e
    where
      by : (t : Bool) → (if t then next else NotANode (suc at)) ≡ Node r → next ≡ Node r
      by true e = e
      by false e = absurd (cc (e))
  kind_goes at b (End l) next r e = absurd (cc (e))

  next_goes : (at : ℕ) (b : B) (next : C → Met C L) (o : Option (Reached C L)) (r : Reached C L) → met_next s at b next o ≡ Node r → (x : Reached C L) × (o ≡ Some x) × (next x.config ≡ Node r)
  next_goes at b next None r e = absurd (cc (e))
  next_goes at b next (Some x) r e = (x, refl, kind_goes at b x.report.kind (next x.config) r e)

  -- each node rests that is run from what was made, and what a commitment to it makes was made
  module _ (m : Maker B L C) (Made Rests : C → Type 0) (runs : (f : ℕ) (c : C) → Made c → (r : Reached C L) → m.run f c ≡ Some r → Rests r.config) (commits : (b : B) (d : C) → Rests d → Made (m.commit b d)) where
    pub met_rests : (fuel at : ℕ) (c : C) (p : List B) → Made c → (r : Reached C L) → met_from s m fuel at c p ≡ Node r → Rests r.config
    met_rests fuel at c [] h r e = runs fuel c h r (last_node at (m.run fuel c) r e)
    met_rests fuel at c (b ∷ p) h r e =
        let next = next_goes at b (λ d. met_from s m fuel (suc at) (m.commit b d) p) (m.run fuel c) r e in
        met_rests fuel (suc at) (m.commit b next.0.config) p (commits b next.0.config (runs fuel c h next.0 next.1)) r next.2

-- Nodes at their paths, and what is at the paths that go on from them.
use Rattle.std.proofs.Common.{◌≡◌, ℕ, suc, ◌+◌, Bool, true, false, cond, List, [], ◌∷◌, ◌++◌, length, length-append, Option, Some, None, Result, IfOk, refl, sym, ap, subst, arith, ◌∙◌}
use Rattle.std.proofs.lemmas.Result.{IfOk-weaker}
use Rattle.oz_machine.specs.Courses.{Loaded}
use Rattle.oz_search.specs.Searches.{Search}
use Rattle.oz_search.specs.Nodes.{Reached, Maker, IsMaker, Met, Node, NotANode, met_last, met_by_kind, met_next}
use Rattle.oz_search.specs.Paths.{is_among}
use Rattle.oz_search.specs.declared.tree.Kind.{Kind}
use Rattle.oz_search.specs.declared.tree.Kind.TheVariants.{Alternatives, End}
use Rattle.oz_semantics.specs.declared.configuration.Configuration.{Configuration}
use Rattle.recompute.specs.Origins.{Origin, met_by}
use Rattle.recompute.specs.Places.{StandsAt, OpensAt}
use Rattle.recompute.specs.Ways.{reached, offers, MakesNode, Opens, met_behind, answer_of}
use Rattle.recompute.specs.declared.explorer.Solved.TheVariants as solved
use Rattle.recompute.specs.declared.waypoint.Waypoint.{Waypoint}
use Rattle.recompute.proofs.WayLaws.{by_offer, met_below, met_there, met_missing, offered, refused, opened_node}

module _ {B L : Type 0} (k : Search B L) (m : Maker B L Configuration) where
  -- ---- a path that goes on from a node

  -- there is a node only where one was made
  node_made : (at : ℕ) (r : Option (Reached Configuration L)) (y : Reached Configuration L) → met_last k at r ≡ Node y → r ≡ Some y
  node_made at None y e = absurd (cc (e))
  node_made at (Some z) y e = cc (e)

  -- where there is a node behind a branch, the node before it offers that branch
  passes_among : (at : ℕ) (t : Bool) (x : Met Configuration L) (y : Reached Configuration L) → cond t x (NotANode (suc at)) ≡ Node y → (t ≡ true) × (x ≡ Node y)
  passes_among at true x y e = (refl, e)
  passes_among at false x y e = absurd (cc (e))

  passes : (at : ℕ) (b : B) (kind : Kind L) (x : Met Configuration L) (y : Reached Configuration L) → met_by_kind k at b kind x ≡ Node y → (offers k kind b ≡ true) × (x ≡ Node y)
  passes at b (Alternatives n) x y e = passes_among at (is_among k n b) x y e
  passes at b (End l) x y e = absurd (cc (e))

  -- what is behind the node at a path is what is at the longer path
  behind_node : (fuel at n : ℕ) (c : Configuration) (p q : List B) (x : Waypoint B L) → n ≡ at + length p → met_below k m fuel at c p ≡ Node (reached x)
      → met_below k m fuel at c (p ++ q) ≡ met_behind k m fuel n x q
  behind_node fuel at n c [] q x sum e =
      let same : at ≡ n = omega (arith, sum) in
      met_there k m fuel at c x q (node_made at (m.run fuel c) (reached x) e) ∙ ap (λ i. met_behind k m fuel i x q) same
  behind_node fuel at n c (b ∷ p) q x sum e = by (λ d g. behind_node fuel (suc at) n d p q x (omega (arith, sum)) g) (m.run fuel c) refl e
    where
      by : ((d : Configuration) → met_below k m fuel (suc at) d p ≡ Node (reached x) → met_below k m fuel (suc at) d (p ++ q) ≡ met_behind k m fuel n x q)
          → (r : Option (Reached Configuration L)) → m.run fuel c ≡ r
          → met_next k at b (λ d. met_below k m fuel (suc at) (m.commit b d) p) r ≡ Node (reached x)
          → met_below k m fuel at c (b ∷ (p ++ q)) ≡ met_behind k m fuel n x q
      by further None i g = absurd (cc (g))
      by further (Some z) i g =
          let next = passes at b z.report.kind (met_below k m fuel (suc at) (m.commit b z.config) p) (reached x) g in
          ap (met_next k at b (λ d. met_below k m fuel (suc at) (m.commit b d) (p ++ q))) i
          ∙ by_offer k at b z.report.kind (met_below k m fuel (suc at) (m.commit b z.config) (p ++ q)) next.0
          ∙ further (m.commit b z.config) next.1

  -- so it is at a path that goes on from where a node stands
  behind_standing : (o : Origin) (p q : List B) (x : Waypoint B L) → StandsAt k m o p x → met_by k m o o.budget (p ++ q) ≡ met_behind k m o.budget (length p) x q
  behind_standing o p q x stands =
      let sum : length p ≡ 0 + length p = omega arith in
      behind_node o.budget 0 (length p) o.config p q x sum stands.1

  length_child : (p : List B) (b : B) → suc (length p) ≡ length (p ++ b ∷ [])
  length_child p b = omega (arith, length-append p (b ∷ []))

  -- ---- what is answered

  -- what is known of a node is what there is at its path
  pub stands_solved : (o : Origin) (p : List B) (x : Waypoint B L) → StandsAt k m o p x → solved.Node x.report ≡ answer_of (met_by k m o o.budget p)
  stands_solved o p x stands = sym (ap answer_of stands.1)

  -- ---- the root

  pub root_stands : (o : Origin) (fuel : ℕ) (b : B) (d : Loaded) (x : Waypoint B L) → fuel ≡ o.budget → d.kernel ≡ o.kernel → d.config ≡ o.config → MakesNode m b fuel d (Some x) → StandsAt k m o [] x
  root_stands o fuel b d x f i c made =
      (made.1 ∙ i, ap (met_last k 0) (subst (λ (n : ℕ). m.run n o.config ≡ Some (reached x)) f (subst (λ (y : Configuration). m.run fuel y ≡ Some (reached x)) c made.0)))

  pub root_short : (o : Origin) (fuel : ℕ) (b : B) (d : Loaded) → fuel ≡ o.budget → d.config ≡ o.config → MakesNode m b fuel d None → solved.OutOfFuel 0 ≡ answer_of (met_by k m o o.budget [])
  root_short o fuel b d f c made =
      sym (ap (λ r. answer_of (met_last k 0 r)) (subst (λ (n : ℕ). m.run n o.config ≡ None) f (subst (λ (y : Configuration). m.run fuel y ≡ None) c made)))

  -- ---- a child

  module _ (is : IsMaker m) where
    pub child_stands : (o : Origin) (fuel : ℕ) (b : B) (p : List B) (x z : Waypoint B L) (d : Loaded) → fuel ≡ o.budget → StandsAt k m o p x
        → Opens k m x b (Some d) → MakesNode m b fuel d (Some z) → StandsAt k m o (p ++ b ∷ []) z
    child_stands o fuel b p x z d f stands opens made =
        let node : m.run o.budget (m.commit b x.machine.config) ≡ Some (reached z) =
        subst (λ (n : ℕ). m.run n (m.commit b x.machine.config) ≡ Some (reached z)) f (opened_node k m is fuel b x d (Some (reached z)) opens made.0) in (
          made.1 ∙ opens.1 ∙ stands.0,
          behind_standing o p (b ∷ []) x stands
              ∙ offered k m o.budget (length p) x b [] opens.0
              ∙ met_there k m o.budget (suc (length p)) (m.commit b x.machine.config) z [] node,
        )

    pub child_short : (o : Origin) (fuel : ℕ) (b : B) (p : List B) (x : Waypoint B L) (d : Loaded) → fuel ≡ o.budget → StandsAt k m o p x
        → Opens k m x b (Some d) → MakesNode m b fuel d None → solved.OutOfFuel (length (p ++ b ∷ [])) ≡ answer_of (met_by k m o o.budget (p ++ b ∷ []))
    child_short o fuel b p x d f stands opens made =
        let node : m.run o.budget (m.commit b x.machine.config) ≡ None =
        subst (λ (n : ℕ). m.run n (m.commit b x.machine.config) ≡ None) f (opened_node k m is fuel b x d None opens made) in
        ap (λ (n : ℕ). solved.OutOfFuel n) (sym (length_child p b))
        ∙ sym (ap answer_of
        (behind_standing o p (b ∷ []) x stands
        ∙ offered k m o.budget (length p) x b [] opens.0
        ∙ met_missing k m o.budget (suc (length p)) (m.commit b x.machine.config) [] node))

  pub child_refused : (o : Origin) (b : B) (p : List B) (x : Waypoint B L) → StandsAt k m o p x → Opens k m x b None
      → solved.NotANode (length (p ++ b ∷ [])) ≡ answer_of (met_by k m o o.budget (p ++ b ∷ []))
  child_refused o b p x stands opens =
      ap (λ (n : ℕ). solved.NotANode n) (sym (length_child p b))
      ∙ sym (ap answer_of (behind_standing o p (b ∷ []) x stands ∙ refused k m o.budget (length p) x b [] opens))

-- what was opened of a node that stands at a path was opened there
pub opens_there : {T B L E : Type 0} (k : Search B L) (maker : T → Maker B L Configuration) (o : Origin) (p q : List B) (x : Waypoint B L) (b : B) (source start : T) (r : Result (Option Loaded) E)
    → source ≡ start → p ≡ q → StandsAt k (maker start) o p x → IfOk r (Opens k (maker source) x b) → IfOk r (OpensAt k (maker start) o q b)
opens_there {T} {B} k maker o p q x b source start r same view stands =
    IfOk-weaker r (Opens k (maker source) x b) (OpensAt k (maker start) o q b)
    (λ d opens. record {
      node = x;
      stands = subst (λ (y : List B). StandsAt k (maker start) o y x) view stands;
      opens = subst (λ (s : T). Opens k (maker s) x b d) same opens;
    })

use Rattle.oz_search.specs.Histories.{History}
use Rattle.std.proofs.Common.{List, [], ◌∷◌, ◌++◌, ◌≡◌, None, true, arith, ◌∙◌, ap, sym, refl, subst}
use Rattle.oz_search.specs.Histories.{stop_of, claim_of, IsFree, IsLeftmost}
use Rattle.oz_search.specs.declared.history.Entry.TheVariants.{Claim}
use Rattle.search_law.proofs.Noted.{same_places}
use Rattle.search_law.proofs.Settings.{of_search}
use Rattle.pool_state.proofs.Keeping.{is_frontier, claimed_tie, free_from, leftmost_answer, never_stopped}
use Rattle.pool_state.proofs.SoFars.{so_far_push}
use Rattle.pool_state.specs.Branching.{by_last}
use Rattle.pool_state.specs.Pool.{Pool}
use Rattle.pool_state.proofs.pool.PoolState.take.Goals as goal

pub take_bearing-requires : goal.take_bearing-requires
take_bearing-requires g c =
    let n = g.K.SearchKind.search in
    let P : Pool g.row.K-Branch.Denot g.row.K-Leaf.Denot → Type 0 = λ p. stop_of p.history ≡ None in
    is_frontier (of_search n g.met.K.SearchKind.searches) _ _ _ _ _ _ c.self.invariant.tied (never_stopped (of_search n g.met.K.SearchKind.searches) _ _ _ _ _ _ c.self.invariant.tied (subst P (sym c.self.view_is) c.requires.running))

pub invariant_of-self-2 : goal.invariant_of-self-2
invariant_of-self-2 g c =
    let n = g.K.SearchKind.search in
    let its = of_search n g.met.K.SearchKind.searches in
    let s = c.self.inside in
    let h = s.entries.items in
    let k = c.self.invariant in
    let t = c.in-Some.taken in
    let Stops : Pool g.row.K-Branch.Denot g.row.K-Leaf.Denot → Type 0 = λ p. stop_of p.history ≡ None in
    let Free : Pool g.row.K-Branch.Denot g.row.K-Leaf.Denot → Type 0 = λ p. claim_of p.history c.args.worker ≡ None in
    let never = never_stopped its _ _ _ _ _ _ k.tied (subst Stops (sym c.self.view_is) c.requires.running) in
    let free : IsFree n h c.args.worker = free_from its _ _ _ _ _ _ k.tied never c.args.worker (subst Free (sym c.self.view_is) c.requires.free) in
    let took = rw c.in-Some.is at c.in_ok-taken.ensures.some in
    let copies = rw c.in-Some.is at c.in_ok-taken.ensures.copies in
    let Admits : g.row.K-SoFar.Denot → Type 0 = λ z. n.admits h (by_last (g.K.SearchKind.bears z) took.0) ≡ true in
    let admitted : n.admits h (by_last (g.K.SearchKind.bears s.so_far) took.0) ≡ true = subst Admits (sym k.bears) (g.met.K.SearchKind.admitted h took.0) in
    let pushed = c.push_reserved.ensures.items ∙ ap (λ (es : History g.row.K-Branch.Denot g.row.K-Leaf.Denot). es ++ Claim c.args.worker t.noted ∷ []) c.reserve.ensures.items in record {
      tied = claimed_tie its _ _ _ _ _ _ k.tied never (g.K.SearchKind.bears s.so_far) (g.met.K.SearchKind.same_number s.so_far) _ _ _ c.args.worker took.0 t.noted t.mine
          took.1 (copies.0 ∙ took.2) (copies.1 ∙ took.2) free admitted
          (c.push_reserved-2.ensures.items ∙ ap (λ (xs : List (List g.row.K-Branch.Denot)). xs ++ t.mine ∷ []) c.reserve-2.ensures.items) pushed;
      placed = same_places its h _ (Claim c.args.worker t.noted) _ k.placed pushed (λ n ls. refl);
      bears = so_far_push g.K.SearchKind.more g.K.SearchKind.first h _ (Claim c.args.worker t.noted) _ _ k.bears pushed refl;
      small = k.small;
      room = λ e. omega (arith, c.push_reserved.ensures.len, c.push_reserved.ensures.capacity, c.in_ok-reserve.ensures.ok);
    }

pub returns-clause-ok : goal.returns-clause-ok
returns-clause-ok g c =
    let n = g.K.SearchKind.search in
    let its = of_search n g.met.K.SearchKind.searches in
    let s = c.self.inside in
    let k = c.self.invariant in
    let t = c.in-Some.taken in
    let Stops : Pool g.row.K-Branch.Denot g.row.K-Leaf.Denot → Type 0 = λ p. stop_of p.history ≡ None in
    let never = never_stopped its _ _ _ _ _ _ k.tied (subst Stops (sym c.self.view_is) c.requires.running) in
    let took = rw c.in-Some.is at c.in_ok-taken.ensures.some in
    let copies = rw c.in-Some.is at c.in_ok-taken.ensures.copies in
    let Left : List g.row.K-Branch.Denot → Type 0 = λ q. IsLeftmost n s.entries.items q in
    let left : IsLeftmost n s.entries.items t.path = subst Left (sym took.2) (leftmost_answer its _ _ _ _ _ _ k.tied never (g.K.SearchKind.bears s.so_far) (g.met.K.SearchKind.same_number s.so_far) _ took.0 took.1) in
    let P : Pool g.row.K-Branch.Denot g.row.K-Leaf.Denot → Type 0 = λ p. IsLeftmost n p.history t.path × (c.push_reserved.new.self.items ≡ p.history ++ Claim c.args.worker t.path ∷ []) in
    let rest = subst P c.self.view_is (
      left,
      c.push_reserved.ensures.items
          ∙ (ap (λ (es : History g.row.K-Branch.Denot g.row.K-Leaf.Denot). es ++ Claim c.args.worker t.noted ∷ []) c.reserve.ensures.items
          ∙ ap (λ (q : List g.row.K-Branch.Denot). s.entries.items ++ Claim c.args.worker q ∷ []) copies.0),
    ) in
    (c.requires.running, rest.0, rest.1)

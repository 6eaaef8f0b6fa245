-- What the pool's maps say of its history.
use Rattle.std.proofs.Common.{add-zero, Option, Some, None, ⊎_elim, ◌≡◌, ℕ, ◌+◌, ◌<◌, ◌≤◌, ◌==◌, Bool, true, false, not, ◌&&◌, ◌||◌, List, [], ◌∷◌, ◌++◌, map, length, IsTrue, refl, ap, sym, ◌∙◌, subst, arith}
use Rattle.std.specs.List.{list_any, list_all, count_by, All}
use Rattle.std.specs.Cmp.Lexicographic.{slice_cmp}
use Rattle.std.specs.Map.{keys_of}
use Rattle.std.specs.Ordering.{is_eq, is_gt, nat_cmp, ordering_then}
use Rattle.std.specs.declared.cmp.Ordering.{Ordering}
use Rattle.std.specs.declared.cmp.Ordering.TheVariants.{Less, Equal, Greater}
use Rattle.std.proofs.lemmas.List.Folds.{list_any-append}
use Rattle.std.proofs.lemmas.List.Elements.{All-head, All-tail}
use Rattle.std.proofs.lemmas.Cmp.{upto, nat_list_cmp_total}
use Rattle.std.proofs.lemmas.Bool.Decides.{nat_tests}
use Rattle.std.proofs.lemmas.Bool.{or_cases, false_from_ne_true, and_parts, both_ways, cases_Bool}
use Rattle.oz_search.specs.Searches.{Search}
use Rattle.oz_search.specs.Histories.{History, is_alternative_claimed, is_open, is_out, is_out_to, is_offered, is_claimed, is_settled, claims_as, total_of, stop_of, Replays, IsAllowed, IsLeftmost, IsFree, claim_of, HasClaim, MayStop, IsNothingOpen, IsNothingOut}
use Rattle.oz_search.specs.Paths.{path_cmp, same_path, is_child, same_alternative, alternatives_cmp}
use Rattle.oz_search.specs.declared.history.StopCause.{StopCause}
use Rattle.oz_search.specs.declared.history.StopCause.TheVariants.{Memory, Fuel, Total}
use Rattle.oz_search.specs.declared.history.Entry.TheVariants.{Claim, Split, Leaf, Stop}
use Rattle.oz_search.specs.declared.history.Halt.{Halt}
use Rattle.search_law.specs.Counting.{one_if}
use Rattle.search_law.specs.Law.{is_at}
use Rattle.search_law.proofs.Settings.{Setting}
use Rattle.search_law.proofs.Booleans.{at_most_one, from_one, no_entry, not_true, now_claimed, now_offered, now_out, now_settled, or_false, same_open, some_not_none}
use Rattle.search_law.proofs.Places.{exact_path, is_same, same_is, same_itself, branch_itself}
use Rattle.search_law.proofs.Entries.{child_closed, claim_holds, claim_once, claimed_from, claimed_push, claimed_taken, more_claimed, more_offered, open_push, out_push, replays_push, same_claims, settle_holds, settled_push, stop_holds, stop_push, total_push}
use Rattle.search_law.proofs.OpenOrder.{open_law}
use Rattle.pool_state.specs.Branching.{by_last}
use Rattle.pool_state.specs.Frontier.{runs_with, starts, in_run, IsFirst, IsFrontier, IsCovered, first_child, TakesLeftmost, Opens}
use Rattle.pool_state.specs.Pool.{MayAsk, AnswersClaim}
use Rattle.pool_state.specs.Tied.{IsTied}
use Rattle.pool_state.specs.declared.pool.Claimed.TheVariants.{Idle, Finished}
use Rattle.pool_state.proofs.Alternatives.{alternative_offered, covers_by, numbers_by, place_by, place_level}
use Rattle.pool_state.proofs.Runs.{covers_after, runs_cons}

pub none_from : {A : Type 0} (o : Option A) → ((x : A) → o ≡ Some x → ⊥) → o ≡ None
none_from None never = refl
none_from (Some x) never = absurd (never x refl)

module _ {B L : Type 0} (its : Setting B L) where
  abbrev k : Search B L
  k = its.k

  pub no_runs : (es : List (List B × ℕ)) (h : History B L) → ((p : List B) → runs_with k p es ≡ one_if (is_open k h p)) → length es ≡ 0 → IsNothingOpen k h
  no_runs [] h opens none p = let e = opens p in grind (arith, e)
  no_runs (e ∷ es) h opens none p = absurd (omega arith)

  pub some_run : (es : List (List B × ℕ)) (h : History B L) → ((p : List B) → runs_with k p es ≡ one_if (is_open k h p)) → list_all (starts k) es ≡ true → 0 < length es
      → (p : List B) × (is_open k h p ≡ true)
  some_run [] h opens own some = absurd (omega arith)
  some_run (e ∷ es) h opens own some =
      let here = (and_parts (starts k e) (list_all (starts k) es) own).0 in
      let count = opens e.0 in
      let cons = runs_cons its e.0 e es in (e.0, grind (arith, here, count, cons))

  pub none_out : (out : List (List B)) (h : History B L) → ((p : List B) → list_any (same_path k p) out ≡ is_out k h p) → length out ≡ 0 → IsNothingOut k h
  none_out [] h outs none p = sym (outs p)
  none_out (q ∷ out) h outs none p = absurd (omega arith)

  pub some_out : (out : List (List B)) (h : History B L) → ((p : List B) → list_any (same_path k p) out ≡ is_out k h p) → 0 < length out → (p : List B) × (is_out k h p ≡ true)
  some_out [] h outs some = absurd (omega arith)
  some_out (q ∷ out) h outs some = (q, sym (outs q) ∙ ap (λ b. b || list_any (same_path k q) out) (same_itself its q))

  pub finished_at : (es : List (List B × ℕ)) (out : List (List B)) (h : History B L) → ((p : List B) → runs_with k p es ≡ one_if (is_open k h p)) → list_all (starts k) es ≡ true
      → ((p : List B) → list_any (same_path k p) out ≡ is_out k h p) → (r : Bool) → r ≡ ((length es == 0) && (length out == 0))
      → (IsTrue r → IsNothingOpen k h × IsNothingOut k h) × (IsNothingOpen k h × IsNothingOut k h → IsTrue r)
  finished_at [] [] h opens own outs r is = (λ t. (no_runs [] h opens refl, none_out [] h outs refl), λ n. is)
  finished_at [] (q ∷ out) h opens own outs r is =
      let some = some_out (q ∷ out) h outs (omega arith) in
      let no : r ≡ false = grind (arith, nat_tests, is) in (λ t. absurd (both_ways r no t), λ n. absurd (both_ways (is_out k h some.0) (n.1 some.0) some.1))
  finished_at (e ∷ es) out h opens own outs r is =
      let some = some_run (e ∷ es) h opens own (omega arith) in
      let no : r ≡ false = grind (arith, nat_tests, is) in (λ t. absurd (both_ways r no t), λ n. absurd (both_ways (is_open k h some.0) (n.0 some.0) some.1))

  pub first_is_child : (p : List B) → is_child k p 1 (first_child k p) ≡ true
  first_is_child [] = let one = its.is.numbered 1 in grind (arith, nat_tests, one)
  first_is_child (x ∷ p) = rw (branch_itself its x) (first_is_child p)

  -- ---- from left to right
  -- of runs whose keys are open and above p, none has what is left of p
  runs_above : (budget : ℕ) (h : History B L) → Replays k budget h → (p : List B) → is_open k h p ≡ true → (es : List (List B × ℕ)) → All (λ y. path_cmp k p y ≡ Less) (keys_of es) → list_all (starts k) es ≡ true
      → ((y : List B) → 1 ≤ runs_with k y es → is_open k h y ≡ true) → (q : List B) → 1 ≤ runs_with k q es → is_gt (alternatives_cmp k p q) ≡ false
  runs_above budget h replays p here [] above own opens q some = absurd (omega (arith, some))
  runs_above budget h replays p here (e ∷ es) above own opens q some =
      let owns = and_parts (starts k e) (list_all (starts k) es) own in
      let less : path_cmp k p e.0 ≡ Less = All-head (λ y. path_cmp k p y ≡ Less) e.0 (keys_of es) above in
      let key : is_open k h e.0 ≡ true = opens e.0 (omega (arith, runs_cons its e.0 e es, ap one_if owns.0)) in
      let after : is_gt (alternatives_cmp k p e.0) ≡ false =
      ⊎_elim
      (λ same. ap is_gt (place_level its p e.0 same))
      (λ apart. ⊎_elim (λ l. ap is_gt l.1) (λ g. absurd (less_greater (sym less ∙ g.0))) apart)
      (open_law B L k its.is budget h replays p e.0 here key) in
      ⊎_elim
      (λ in_it. upto nat_list_cmp_total (map k.number p) (map k.number e.0) (map k.number q) after (covers_after its q e.0 e.1 in_it))
      (λ not_in. runs_above budget h replays p here es (All-tail (λ y. path_cmp k p y ≡ Less) e.0 (keys_of es) above) owns.1
      (λ y n. opens y (omega (arith, n, runs_cons its y e es))) q (omega (arith, some, runs_cons its q e es, ap one_if not_in)))
      (cases_Bool (in_run k q e))
    where
      less_greater : Less ≡ Greater → ⊥
      less_greater e = absurd (cc (e))

  -- ---- each kind of entry keeps the tie
  module _ (budget : ℕ) (runs : List (List B × ℕ)) (out : List (List B)) (total : ℕ) (h : History B L) (tied : IsTied k budget runs out total None h) where
    pub frontier : IsFrontier k runs
    frontier = (tied.own, λ p. let o = tied.open_paths p in let m = at_most_one (is_open k h p) in omega arith)

    open_at : (q : List B) → 1 ≤ runs_with k q runs → is_open k h q ≡ true
    open_at q some = from_one (is_open k h q) (omega (arith, some, tied.open_paths q, at_most_one (is_open k h q)))

    -- the first key is open, and no open path is further to the left
    first_leftmost : (es : List (List B × ℕ)) (p : List B) → IsFirst k p es → list_all (starts k) es ≡ true → ((y : List B) → 1 ≤ runs_with k y es → is_open k h y ≡ true)
        → (1 ≤ runs_with k p es) × ((q : List B) → 1 ≤ runs_with k q es → is_gt (alternatives_cmp k p q) ≡ false)
    first_leftmost [] p first own opens = absurd first
    first_leftmost (e ∷ es) p first own opens =
        let owns = and_parts (starts k e) (list_all (starts k) es) own in
        let P : List B → Type 0 = λ y. in_run k y e ≡ true in
        let mine : in_run k p e ≡ true = subst P (sym first.0) owns.0 in
        let some : 1 ≤ runs_with k p (e ∷ es) = omega (arith, runs_cons its p e es, ap one_if mine) in (
          some,
          λ q n.
              let R : List B → Type 0 = λ y. is_gt (alternatives_cmp k y q) ≡ false in
              ⊎_elim
              (λ in_it. subst R (sym first.0) (covers_after its q e.0 e.1 in_it))
              (λ not_in. runs_above budget h tied.replays p (opens p some) es first.1 owns.1 (λ y m. opens y (omega (arith, m, runs_cons its y e es))) q (omega (arith, n, runs_cons its q e es, ap one_if not_in)))
              (cases_Bool (in_run k q e)),
        )

    -- ---- a claim, by whatever branch
    module _ (f : B → B) (keeps : (b : B) → k.number (f b) ≡ k.number b) where
      runs_by : (p : List B) → runs_with k (by_last f p) runs ≡ runs_with k p runs
      runs_by p = ap (λ g. count_by g runs) (λ i e. covers_by its f keeps p e.0 e.1 i)

      pub leftmost : (runs' : List (List B × ℕ)) (p : List B) → TakesLeftmost k runs p runs' → IsLeftmost k h (by_last f p)
      leftmost runs' p took =
          let all = first_leftmost runs p took.first tied.own open_at in (
            open_at (by_last f p) (rw (runs_by p) all.0),
            λ q here.
                let one : 1 ≤ runs_with k q runs = omega (arith, tied.open_paths q, ap one_if here) in
                ap (λ ns. is_gt (slice_cmp nat_cmp ns (map k.number q))) (numbers_by its f keeps p) ∙ all.1 q one,
          )

      pub claim_kept : (runs' : List (List B × ℕ)) (w : ℕ) (p : List B) → TakesLeftmost k runs p runs' → IsAllowed k budget h (Claim w (by_last f p))
          → IsTied k budget runs' (out ++ by_last f p ∷ []) total None (h ++ Claim w (by_last f p) ∷ [])
      claim_kept runs' w p took allowed =
          let c = by_last f p in
          let e = Claim w c in
          let none = sym tied.halted in
          let parts = and_parts (is_offered k h c) (not (is_alternative_claimed k h c)) (leftmost runs' p took).0 in
          let free_place : is_alternative_claimed k h c ≡ false = not_true (is_alternative_claimed k h c) parts.1 in
          let unclaimed : is_claimed k h c ≡ false = false_from_ne_true (is_claimed k h c) (λ t. both_ways (is_alternative_claimed k h c) free_place (claimed_taken its h c t)) in
          let unsettled : is_settled k h c ≡ false = false_from_ne_true (is_settled k h c) (λ t. both_ways (is_claimed k h c) unclaimed (tied.claimed c t)) in
          let free : (q : List B) → same_path k q c ≡ true → is_settled k h q ≡ false = λ q s. rw (same_is its q c s) unsettled in
          let first : (q : List B) → is_claimed k (h ++ e ∷ []) q ≡ true → is_offered k h q ≡ true = λ q t.
          ⊎_elim (λ old. tied.offered q old) (λ s. rw (same_is its q c s) parts.0) (or_cases (is_claimed k h q) (same_path k q c) (sym (claimed_push its h e q) ∙ t)) in record {
            replays = replays_push its budget h e tied.replays none allowed;
            open_paths = λ q. now_claimed (is_offered k h q) (is_alternative_claimed k h q) (same_alternative k q c) (runs_with k q runs')
                (ap (λ b. runs_with k q runs' + one_if b) (place_by its f keeps q p) ∙ (took.others q ∙ tied.open_paths q)) ∙ ap one_if (sym (open_push its h e q));
            own = took.own;
            out_paths = λ q. list_any-append (same_path k q) out (c ∷ []) ∙ (ap (λ b. b || (same_path k q c || false)) (tied.out_paths q) ∙ (now_out (is_claimed k h q) (is_settled k h q) (same_path k q c) (free q) ∙ sym (out_push its h e q)));
            offered = λ q t. more_offered its h e q (first q t);
            claimed = λ q s. more_claimed its h e q (tied.claimed q (sym (settled_push its h e q ∙ or_false (is_settled k h q)) ∙ s));
            once = claim_once its h w c tied.once unclaimed;
            holds = claim_holds its h w c tied.holds allowed.1 unsettled;
            spent = tied.spent ∙ sym (total_push h e ∙ add-zero (total_of h));
            within = tied.within;
            halted = sym (stop_push h e none);
          }

    -- a path that is out is claimed, and not settled
    out_claimed : (w : ℕ) (p : List B) → is_out_to k h w p ≡ true → (is_claimed k h p ≡ true) × (is_settled k h p ≡ false)
    out_claimed w p here =
        let parts = and_parts (list_any (claims_as k w p) h) (not (is_settled k h p)) here in (claimed_from its h w p parts.0, not_true (is_settled k h p) parts.1)

    -- the first child of a path that is out is in no run
    pub children_closed : (w : ℕ) (p : List B) → is_out_to k h w p ≡ true → IsCovered k runs (first_child k p) 0
    children_closed w p here =
        let closed = child_closed its h p (first_child k p) 1 (out_claimed w p here).1 (first_is_child p) in
        tied.open_paths (first_child k p) ∙ ap (λ b. one_if (b && not (is_alternative_claimed k h (first_child k p)))) closed

    module _ (w : ℕ) (p : List B) (steps : ℕ) (out' : List (List B)) (here : is_out_to k h w p ≡ true)
        (gone : (q : List B) → list_any (same_path k q) out' ≡ (list_any (same_path k q) out && not (same_path k q p))) (fits : total_of h + steps ≤ budget) where
      pub split_kept : (runs' : List (List B × ℕ)) (n : ℕ) → Opens k runs p n runs' → IsAllowed k budget h (Split w p n steps)
          → IsTied k budget runs' out' (total + steps) None (h ++ Split w p n steps ∷ [])
      split_kept runs' n opens allowed =
          let e = Split w p n steps in
          let none = sym tied.halted in
          let was = out_claimed w p here in record {
            replays = replays_push its budget h e tied.replays none allowed;
            open_paths = λ q. opens.children q ∙ (ap (λ m. m + one_if (is_child k p n q)) (tied.open_paths q)
                ∙ (now_offered (is_offered k h q) (is_alternative_claimed k h q) (is_child k p n q) (alternative_offered its h tied.offered q) (child_closed its h p q n was.1) ∙ ap one_if (sym (open_push its h e q))));
            own = opens.own;
            out_paths = λ q. gone q ∙ (ap (λ b. b && not (same_path k q p)) (tied.out_paths q) ∙ (now_settled (is_claimed k h q) (is_settled k h q) (same_path k q p) ∙ sym (out_push its h e q)));
            offered = λ q c. more_offered its h e q (tied.offered q (sym (claimed_push its h e q ∙ or_false (is_claimed k h q)) ∙ c));
            claimed = λ q s. more_claimed its h e q (⊎_elim (tied.claimed q) (λ t. rw (same_is its q p t) was.0) (or_cases (is_settled k h q) (same_path k q p) (sym (settled_push its h e q) ∙ s)));
            once = same_claims its h e (λ v q. refl) tied.once;
            holds = settle_holds its h w p e tied.holds tied.once here (λ v q. refl) (λ q. refl) (λ v c. refl);
            spent = ap (λ n. n + steps) tied.spent ∙ sym (total_push h e);
            within = rw tied.spent fits;
            halted = sym (stop_push h e none);
          }

      pub leaf_kept : (o : L) → IsAllowed k budget h (Leaf w p o steps) → IsTied k budget runs out' (total + steps) None (h ++ Leaf w p o steps ∷ [])
      leaf_kept o allowed =
          let e = Leaf w p o steps in
          let none = sym tied.halted in
          let was = out_claimed w p here in record {
            replays = replays_push its budget h e tied.replays none allowed;
            open_paths = λ q. tied.open_paths q ∙ ap one_if (same_open (is_offered k h q) (is_alternative_claimed k h q) ∙ sym (open_push its h e q));
            own = tied.own;
            out_paths = λ q. gone q ∙ (ap (λ b. b && not (same_path k q p)) (tied.out_paths q) ∙ (now_settled (is_claimed k h q) (is_settled k h q) (same_path k q p) ∙ sym (out_push its h e q)));
            offered = λ q c. more_offered its h e q (tied.offered q (sym (claimed_push its h e q ∙ or_false (is_claimed k h q)) ∙ c));
            claimed = λ q s. more_claimed its h e q (⊎_elim (tied.claimed q) (λ t. rw (same_is its q p t) was.0) (or_cases (is_settled k h q) (same_path k q p) (sym (settled_push its h e q) ∙ s)));
            once = same_claims its h e (λ v q. refl) tied.once;
            holds = settle_holds its h w p e tied.holds tied.once here (λ v q. refl) (λ q. refl) (λ v c. refl);
            spent = ap (λ n. n + steps) tied.spent ∙ sym (total_push h e);
            within = rw tied.spent fits;
            halted = sym (stop_push h e none);
          }

    pub stop_kept : (x : Halt) → IsAllowed k budget h (Stop x) → IsTied k budget runs out total (Some x) (h ++ Stop x ∷ [])
    stop_kept x allowed =
        let e = Stop x in
        let none = sym tied.halted in record {
          replays = replays_push its budget h e tied.replays none allowed;
          open_paths = λ q. tied.open_paths q ∙ ap one_if (same_open (is_offered k h q) (is_alternative_claimed k h q) ∙ sym (open_push its h e q));
          own = tied.own;
          out_paths = λ q. tied.out_paths q ∙ (same_open (is_claimed k h q) (is_settled k h q) ∙ sym (out_push its h e q));
          offered = λ q c. more_offered its h e q (tied.offered q (sym (claimed_push its h e q ∙ or_false (is_claimed k h q)) ∙ c));
          claimed = λ q s. more_claimed its h e q (tied.claimed q (sym (settled_push its h e q ∙ or_false (is_settled k h q)) ∙ s));
          once = same_claims its h e (λ v q. refl) tied.once;
          holds = stop_holds its h x tied.holds;
          spent = tied.spent ∙ sym (total_push h e ∙ add-zero (total_of h));
          within = tied.within;
          halted = sym (stop_push h e none);
        }

  -- ---- the opening, and what the lists do
  path_level : (p : List B) → path_cmp k p p ≡ Equal
  path_level [] = refl
  path_level (x ∷ p) = ap (λ r. ordering_then r (path_cmp k p p)) (its.is.level x) ∙ path_level p

  pub eq_same : (p q : List B) → is_eq (path_cmp k p q) ≡ same_path k p q
  eq_same p q = by (path_cmp k p q) (same_path k p q) refl refl
    where
      by : (o : Ordering) (b : Bool) → path_cmp k p q ≡ o → same_path k p q ≡ b → is_eq o ≡ b
      by Equal true e s = refl
      by Less false e s = refl
      by Greater false e s = refl
      by Equal false e s = absurd (both_ways (same_path k p q) s (is_same its p q (exact_path its p q e)))
      by Less true e s = let P : List B → Type 0 = λ z. path_cmp k p z ≡ Less in let t : Equal ≡ Less = sym (path_level p) ∙ subst P (sym (same_is its p q s)) e in absurd (cc (t))
      by Greater true e s = let P : List B → Type 0 = λ z. path_cmp k p z ≡ Greater in let t : Equal ≡ Greater = sym (path_level p) ∙ subst P (sym (same_is its p q s)) e in absurd (cc (t))

  pub opening : (budget : ℕ) → IsTied k budget (([], 0) ∷ []) [] 0 None []
  opening budget = record {
    replays = λ before e after eq. absurd (no_entry before e after eq);
    open_paths = elim [ [] ↦ refl | x ∷ p ↦ refl ];
    own = refl;
    out_paths = λ q. refl;
    offered = λ q c. absurd (both_ways false refl c);
    claimed = λ q c. absurd (both_ways false refl c);
    once = λ v w p a b. absurd (both_ways false refl a);
    holds = λ w p. refl;
    spent = refl;
    within = omega arith;
    halted = refl;
  }

  -- a history with no stop was stopped by nobody
  pub never_stopped : (budget : ℕ) (runs : List (List B × ℕ)) (out : List (List B)) (total : ℕ) (o : Option Halt) (h : History B L) → IsTied k budget runs out total o h → stop_of h ≡ None
      → (x : Halt) → o ≡ Some x → ⊥
  never_stopped budget runs out total o h tied none x is = some_not_none x (sym is ∙ (tied.halted ∙ none))

  -- where a path is open, there is a run
  pub not_empty : (budget : ℕ) (runs : List (List B × ℕ)) (out : List (List B)) (total : ℕ) (o : Option Halt) (h : History B L) → IsTied k budget runs out total o h → (p : List B) × (is_open k h p ≡ true) → runs ≡ [] → ⊥
  not_empty budget runs out total o h tied some none =
      let P : List (List B × ℕ) → Type 0 = λ es. runs_with k some.0 es ≡ one_if (is_open k h some.0) in
      let count = subst P none (tied.open_paths some.0) in
      absurd (omega (arith, count, ap one_if some.1))

  pub while_running : (budget : ℕ) (runs : List (List B × ℕ)) (out : List (List B)) (total : ℕ) (o : Option Halt) (h : History B L) → IsTied k budget runs out total o h → o ≡ None
      → IsTied k budget runs out total None h
  while_running budget runs out total o h tied none = let P : Option Halt → Type 0 = λ x. IsTied k budget runs out total x h in subst P none tied

  module _ (budget : ℕ) (runs : List (List B × ℕ)) (out : List (List B)) (total : ℕ) (o : Option Halt) (h : History B L) (tied : IsTied k budget runs out total o h) (none : (x : Halt) → o ≡ Some x → ⊥) where
    running : IsTied k budget runs out total None h
    running = while_running budget runs out total o h tied (none_from o none)

    pub not_stopped : stop_of h ≡ None
    not_stopped = sym tied.halted ∙ none_from o none

    pub finished_answer : (w : ℕ) → length runs ≡ 0 → length out ≡ 0 → AnswersClaim k h w Finished h
    finished_answer w r e = (not_stopped, no_runs runs h tied.open_paths r, none_out out h tied.out_paths e, refl)

    pub idle_answer : (w : ℕ) → length runs ≡ 0 → 0 < length out → AnswersClaim k h w Idle h
    idle_answer w r e = (not_stopped, no_runs runs h tied.open_paths r, some_out out h tied.out_paths e, refl)

    pub is_frontier : IsFrontier k runs
    is_frontier = frontier budget runs out total h running

    pub leftmost_answer : (f : B → B) → ((b : B) → k.number (f b) ≡ k.number b) → (runs' : List (List B × ℕ)) (p : List B) → TakesLeftmost k runs p runs' → IsLeftmost k h (by_last f p)
    leftmost_answer f keeps runs' p took = leftmost budget runs out total h running f keeps runs' p took

    again : (runs' : List (List B × ℕ)) (out' : List (List B)) (total' : ℕ) (h' : History B L) → IsTied k budget runs' out' total' None h' → IsTied k budget runs' out' total' o h'
    again runs' out' total' h' t = let P : Option Halt → Type 0 = λ x. IsTied k budget runs' out' total' x h' in subst P (sym (none_from o none)) t

    pub claimed_tie : (f : B → B) → ((b : B) → k.number (f b) ≡ k.number b) → (runs' : List (List B × ℕ)) (out' : List (List B)) (h' : History B L) (w : ℕ) (p noted mine : List B) → TakesLeftmost k runs p runs' → noted ≡ by_last f p → mine ≡ by_last f p
        → IsFree k h w → k.admits h (by_last f p) ≡ true → out' ≡ out ++ mine ∷ [] → h' ≡ h ++ Claim w noted ∷ [] → IsTied k budget runs' out' total o h'
    claimed_tie f keeps runs' out' h' w p noted mine took n m free admitted outs hs =
        again runs' out' total h' (rw (outs, hs, n, m) (claim_kept budget runs out total h running f keeps runs' w p took (leftmost budget runs out total h running f keeps runs' p took, free, admitted)))

    pub first_closed : (w : ℕ) (p : List B) → is_out_to k h w p ≡ true → IsCovered k runs (first_child k p) 0
    first_closed w p here = children_closed budget runs out total h running w p here

    module _ (w : ℕ) (p : List B) (steps : ℕ) (out' : List (List B)) (h' : History B L) (here : is_out_to k h w p ≡ true)
        (gone : (q : List B) → list_any (same_path k q) out' ≡ (list_any (same_path k q) out && not (same_path k q p))) (fits : total + steps ≤ budget) (some : 1 ≤ steps) where
      fits' : total_of h + steps ≤ budget
      fits' = rw (← tied.spent) fits

      pub split_tie : (runs' : List (List B × ℕ)) (n : ℕ) → Opens k runs p n runs' → 1 ≤ n → h' ≡ h ++ Split w p n steps ∷ [] → IsTied k budget runs' out' (total + steps) o h'
      split_tie runs' n opens many hs =
          again runs' out' (total + steps) h' (rw hs (split_kept budget runs out total h running w p steps out' here gone fits' runs' n opens (here, many, some, fits')))

      pub leaf_tie : (x : L) → h' ≡ h ++ Leaf w p x steps ∷ [] → IsTied k budget runs out' (total + steps) o h'
      leaf_tie x hs = again runs out' (total + steps) h' (rw hs (leaf_kept budget runs out total h running w p steps out' here gone fits' x (here, some, fits')))

    pub free_from : (w : ℕ) → claim_of h w ≡ None → IsFree k h w
    free_from w e p = tied.holds w p ∙ ap (λ x. is_at k x p) e

    pub out_from : (w : ℕ) (p : List B) → claim_of h w ≡ Some p → is_out_to k h w p ≡ true
    out_from w p e = tied.holds w p ∙ (ap (λ x. is_at k x p) e ∙ same_itself its p)

  pub claim_held : (h : History B L) (w : ℕ) → ((v : ℕ) (p : List B) → is_out_to k h v p ≡ is_at k (claim_of h v) p) → (p : List B) × (claim_of h w ≡ Some p) → HasClaim k h w
  claim_held h w holds c = (c.0, holds w c.0 ∙ (ap (λ x. is_at k x c.0) c.1 ∙ same_itself its c.0))

  pub may_stop : (budget : ℕ) (h : History B L) (w : ℕ) (cause : StopCause) → ((v : ℕ) (p : List B) → is_out_to k h v p ≡ is_at k (claim_of h v) p) → MayAsk h w cause → MayStop k budget h w cause
  may_stop budget h w Memory holds may = tt
  may_stop budget h w Fuel holds may = claim_held h w holds may
  may_stop budget h w (Total t) holds may = absurd may

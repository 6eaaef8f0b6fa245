-- The front of a history that replays.
use Rattle.std.proofs.Common.{◌≡◌, ℕ, ◌+◌, ◌≤◌, cond, not, ◌&&◌, ◌||◌, Bool, true, false, List, [], ◌∷◌, ◌++◌, Option, Some, refl, ap, sym, ◌∙◌, subst, arith, append_assoc, ⊎_elim}
use Rattle.std.specs.List.{list_any}
use Rattle.std.specs.BTreeMap.{insert_entry}
use Rattle.std.proofs.lemmas.List.Sums.{sum_by_push}
use Rattle.std.proofs.lemmas.Bool.{or_left, or_right, or_cases, and_parts, both_ways, false_from_ne_true}
use Rattle.oz_search.specs.declared.history.Entry.{Entry}
use Rattle.oz_search.specs.declared.history.Entry.TheVariants.{Claim, Split, Leaf, Stop}
use Rattle.oz_search.specs.declared.history.Halt.{Halt}
use Rattle.oz_search.specs.declared.tree.Kind.TheVariants.{End}
use Rattle.oz_search.specs.declared.tree.Report.{Report}
use Rattle.oz_search.specs.Searches.{Search}
use Rattle.oz_search.specs.Paths.{Taking, same_path, path_cmp, is_child, children}
use Rattle.oz_search.specs.Trees.{report}
use Rattle.oz_search.specs.Histories.{History, is_offered, is_claimed, is_alternative_claimed, is_settled, is_out_to, offers, settles, claims_as, claim_of, IsAllowed, total_of}
use Rattle.oz_search.specs.Leaves.{leaves_after, leaves_of}
use Rattle.search_law.specs.Counting.{one_if}
use Rattle.search_law.specs.Law.{is_at}
use Rattle.search_law.proofs.Settings.{Setting}
use Rattle.search_law.proofs.Booleans.{append_nil, or_false, same_open, now_due, not_true, fold_push}
use Rattle.search_law.proofs.Places.{same_is, is_kid, child_kid, IsBy}
use Rattle.search_law.proofs.Entries.{is_put, puts, put_push, more_put, kid_closed, claimed_push, settled_push, total_push, more_claimed, claimed_from, claimed_taken, claim_holds, settle_holds, stop_holds, claim_once, same_claims}
use Rattle.search_law.proofs.Fronts.{Item, Todo, Done, todos, replace, awaiting, leaves_in, steps_in, split_cost, split_steps, IsSorted, front, front_after}
use Rattle.search_law.proofs.Items.{by_item, split_sorted, leaf_sorted, leaf_leaves, split_leaves, split_steps_in, leaf_steps_in, split_awaiting, leaf_awaiting}

-- what holds at first, and after each entry, holds in the end
module _ {B L : Type 0} (Q : History B L → Entry (List B) L → Type 0) (P : History B L → Type 0) (step : (h : History B L) (e : Entry (List B) L) → Q h e → P h → P (h ++ e ∷ [])) where
  along_from : (before after : History B L) → P before → ((b : History B L) (e : Entry (List B) L) (a : History B L) → before ++ after ≡ b ++ e ∷ a → Q b e) → P (before ++ after)
  along_from before [] now cuts = subst P (sym (append_nil before)) now
  along_from before (e ∷ after) now cuts =
      let same : (before ++ e ∷ []) ++ after ≡ before ++ e ∷ after = append_assoc before (e ∷ []) after in
      subst P same (along_from (before ++ e ∷ []) after (step before e (cuts before e after refl) now) (λ b x a eq. cuts b x a (sym same ∙ eq)))

  pub along : P [] → (h : History B L) → ((b : History B L) (e : Entry (List B) L) (a : History B L) → h ≡ b ++ e ∷ a → Q b e) → P h
  along start h cuts = along_from [] h start cuts

module _ {B L : Type 0} (its : Setting B L) where
  abbrev k : Search B L
  k = its.k

  abbrev branch : Taking B
  branch = its.branch

  module _ (node : List B → Option (Report L)) where
    abbrev pub IsTold : Item B L → Type 0
    IsTold (Todo p) = Unit {0}
    IsTold (Done p o s) = node p ≡ Some (report (End o) s)

    abbrev pub AllTold : List (Item B L) → Type 0
    AllTold [] = Unit {0}
    AllTold (x ∷ f) = IsTold x × AllTold f

    told_append : (f g : List (Item B L)) → AllTold f → AllTold g → AllTold (f ++ g)
    told_append [] g a b = b
    told_append (x ∷ f) g a b = (a.0, told_append f g a.1 b)

    pub told_todos : (ps : List (List B)) → AllTold (todos ps)
    told_todos [] = tt
    told_todos (p ∷ ps) = (tt, told_todos ps)

    pub told_replace : (p : List B) (xs f : List (Item B L)) → AllTold xs → AllTold f → AllTold (replace its p xs f)
    told_replace p xs [] a b = tt
    told_replace p xs (y ∷ ys) a b = by_item its p xs AllTold y ys (λ e. told_append xs ys a b.1) (λ e. (b.0, told_replace p xs ys a b.1))

  pub front_push : (h : History B L) (e : Entry (List B) L) → front its (h ++ e ∷ []) ≡ front_after its (front its h) e
  front_push h e = fold_push (front_after its) (Todo [] ∷ []) h e

  leaves_push : (h : History B L) (e : Entry (List B) L) → leaves_of k (h ++ e ∷ []) ≡ leaves_after k (leaves_of k h) e
  leaves_push h e = fold_push (leaves_after k) [] h e

  pub split_cost_push : (h : History B L) (e : Entry (List B) L) → split_steps (h ++ e ∷ []) ≡ split_steps h + split_cost e
  split_cost_push h e = sum_by_push split_cost h e

  -- what is offered is offered by the branches that are taken, if its last branch is
  any_put : (h : History B L) (p : List B) → IsBy its p → list_any (offers k p) h ≡ true → list_any (puts its p) h ≡ true
  any_put [] p taking t = t
  any_put (Claim w q ∷ h) p taking t = any_put h p taking t
  any_put (Split w q n s ∷ h) p taking t =
      ⊎_elim
      (λ here. or_left (is_kid its q n p) (list_any (puts its p) h) (child_kid its q n p here taking))
      (λ later. or_right (is_kid its q n p) (list_any (puts its p) h) (any_put h p taking later))
      (or_cases (is_child k q n p) (list_any (offers k p) h) t)
  any_put (Leaf w q l s ∷ h) p taking t = any_put h p taking t
  any_put (Stop x ∷ h) p taking t = any_put h p taking t

  pub offered_put : (h : History B L) (p : List B) → IsBy its p → is_offered k h p ≡ true → is_put its h p ≡ true
  offered_put h p taking t =
      ⊎_elim
      (λ root. or_left (same_path k p []) (list_any (puts its p) h) root)
      (λ child. or_right (same_path k p []) (list_any (puts its p) h) (any_put h p taking child))
      (or_cases (same_path k p []) (list_any (offers k p) h) t)

  -- a claim takes the branch that is given
  abbrev pub IsTaken : Entry (List B) L → Type 0
  IsTaken (Claim w p) = IsBy its p
  IsTaken (Split w p n s) = Unit {0}
  IsTaken (Leaf w p l s) = Unit {0}
  IsTaken (Stop e) = Unit {0}

  -- p is offered, and not settled
  abbrev pub is_due : History B L → List B → Bool
  is_due h p = is_put its h p && not (is_settled k h p)

  due_push : (h : History B L) (e : Entry (List B) L) (q : List B) → one_if ((is_put its h q || puts its q e) && not (is_settled k h q || settles k q e)) ≡ one_if (is_due (h ++ e ∷ []) q)
  due_push h e q = rw (← put_push its h e q, ← settled_push its h e q) refl

  -- what is kept of a history that replays
  pub record IsKept (budget : ℕ) (h : History B L) : Type 0 where
    pub offered : (p : List B) → is_claimed k h p ≡ true → is_put its h p ≡ true
    pub claimed : (p : List B) → is_settled k h p ≡ true → is_claimed k h p ≡ true
    pub once : (v w : ℕ) (p : List B) → list_any (claims_as k v p) h ≡ true → list_any (claims_as k w p) h ≡ true → v ≡ w
    pub holds : (w : ℕ) (p : List B) → is_out_to k h w p ≡ is_at k (claim_of h w) p
    pub within : total_of h ≤ budget
    pub due : (p : List B) → awaiting its p (front its h) ≡ one_if (is_due h p)
    pub sorted : IsSorted its (front its h)
    pub leaves : leaves_in its (front its h) ≡ leaves_of k h
    pub steps : split_steps h + steps_in (front its h) ≡ total_of h

  module _ (budget : ℕ) (h : History B L) (kept : IsKept budget h) where
    out_is : (w : ℕ) (p : List B) → is_out_to k h w p ≡ true → (is_claimed k h p ≡ true) × (is_settled k h p ≡ false)
    out_is w p here =
        let parts = and_parts (list_any (claims_as k w p) h) (not (is_settled k h p)) here in (claimed_from its h w p parts.0, not_true (is_settled k h p) parts.1)

    -- what is out waiting in the front its
    pub out_awaits : (w : ℕ) (p : List B) → is_out_to k h w p ≡ true → 1 ≤ awaiting its p (front its h)
    out_awaits w p here =
        let was = out_is w p here in
        let both : is_due h p ≡ true = rw (kept.offered p was.0, was.1) refl in
        let one : awaiting its p (front its h) ≡ 1 = kept.due p ∙ ap one_if both in
        omega (arith, one)

    claim_keeps : (w : ℕ) (p : List B) → IsAllowed k budget h (Claim w p) → IsBy its p → IsKept budget (h ++ Claim w p ∷ [])
    claim_keeps w p allowed taking =
        let e = Claim w p in
        let parts = and_parts (is_offered k h p) (not (is_alternative_claimed k h p)) allowed.0.0 in
        let untaken : is_alternative_claimed k h p ≡ false = not_true (is_alternative_claimed k h p) parts.1 in
        let unclaimed : is_claimed k h p ≡ false = false_from_ne_true (is_claimed k h p) (λ t. both_ways (is_alternative_claimed k h p) untaken (claimed_taken its h p t)) in
        let unsettled : is_settled k h p ≡ false = false_from_ne_true (is_settled k h p) (λ t. both_ways (is_claimed k h p) unclaimed (kept.claimed p t)) in
        let put : is_put its h p ≡ true = offered_put h p taking parts.0 in
        let first : (q : List B) → is_claimed k (h ++ e ∷ []) q ≡ true → is_put its h q ≡ true = λ q c.
        ⊎_elim (λ old. kept.offered q old) (λ s. rw (same_is its q p s) put) (or_cases (is_claimed k h q) (same_path k q p) (sym (claimed_push its h e q) ∙ c)) in
        let same = front_push h e in
        let cost = split_cost_push h e in
        let total = total_push h e in
        let before = kept.steps in
        let sofar = kept.within in record {
          offered = λ q c. more_put its h e q (first q c);
          claimed = λ q s. more_claimed its h e q (kept.claimed q (sym (settled_push its h e q ∙ or_false (is_settled k h q)) ∙ s));
          once = claim_once its h w p kept.once unclaimed;
          holds = claim_holds its h w p kept.holds allowed.1 unsettled;
          within = omega (arith, total, sofar);
          due = λ q. ap (awaiting its q) same ∙ (kept.due q ∙ (ap one_if (same_open (is_put its h q) (is_settled k h q)) ∙ due_push h e q));
          sorted = subst (IsSorted its) (sym same) kept.sorted;
          leaves = ap (leaves_in its) same ∙ (kept.leaves ∙ sym (leaves_push h e));
          steps = let s = ap steps_in same in omega (arith, s, cost, total, before);
        }

    split_keeps : (w : ℕ) (p : List B) (n s : ℕ) → IsAllowed k budget h (Split w p n s) → IsKept budget (h ++ Split w p n s ∷ [])
    split_keeps w p n s allowed =
        let e = Split w p n s in
        let was = out_is w p allowed.0 in
        let waiting = out_awaits w p allowed.0 in
        let same = front_push h e in
        let cost = split_cost_push h e in
        let total = total_push h e in
        let before = kept.steps in
        let fits = allowed.3 in record {
          offered = λ q c. more_put its h e q (kept.offered q (sym (claimed_push its h e q ∙ or_false (is_claimed k h q)) ∙ c));
          claimed = λ q t. more_claimed its h e q (⊎_elim (kept.claimed q) (λ u. rw (same_is its q p u) was.0) (or_cases (is_settled k h q) (same_path k q p) (sym (settled_push its h e q) ∙ t)));
          once = same_claims its h e (λ v q. refl) kept.once;
          holds = settle_holds its h w p e kept.holds kept.once allowed.0 (λ v q. refl) (λ q. refl) (λ v c. refl);
          within = omega (arith, total, fits);
          due = λ q.
              ap (awaiting its q) same
              ∙ (now_due (is_put its h q) (is_settled k h q) (same_path k q p) (is_kid its p n q) (awaiting its q (replace its p (todos (children branch p n)) (front its h)))
              (let a = split_awaiting its p n q (front its h) waiting in let d = kept.due q in omega (arith, a, d))
              (kid_closed its h p q n was.1) (λ u. rw (same_is its q p u) (kept.offered p was.0)) (λ u. rw (same_is its q p u) was.1) (λ t. kept.offered q (kept.claimed q t))
              ∙ due_push h e q);
          sorted = subst (IsSorted its) (sym same) (split_sorted its p n (front its h) kept.sorted);
          leaves = ap (leaves_in its) same ∙ (split_leaves its p n (front its h) ∙ (kept.leaves ∙ sym (leaves_push h e)));
          steps = let f = ap steps_in same in let g = split_steps_in its p n (front its h) waiting in omega (arith, f, g, cost, total, before);
        }

    leaf_keeps : (w : ℕ) (p : List B) (o : L) (s : ℕ) → IsAllowed k budget h (Leaf w p o s) → IsKept budget (h ++ Leaf w p o s ∷ [])
    leaf_keeps w p o s allowed =
        let e = Leaf w p o s in
        let was = out_is w p allowed.0 in
        let waiting = out_awaits w p allowed.0 in
        let same = front_push h e in
        let cost = split_cost_push h e in
        let total = total_push h e in
        let before = kept.steps in
        let fits = allowed.2 in record {
          offered = λ q c. more_put its h e q (kept.offered q (sym (claimed_push its h e q ∙ or_false (is_claimed k h q)) ∙ c));
          claimed = λ q t. more_claimed its h e q (⊎_elim (kept.claimed q) (λ u. rw (same_is its q p u) was.0) (or_cases (is_settled k h q) (same_path k q p) (sym (settled_push its h e q) ∙ t)));
          once = same_claims its h e (λ v q. refl) kept.once;
          holds = settle_holds its h w p e kept.holds kept.once allowed.0 (λ v q. refl) (λ q. refl) (λ v c. refl);
          within = omega (arith, total, fits);
          due = λ q.
              ap (awaiting its q) same
              ∙ (now_due (is_put its h q) (is_settled k h q) (same_path k q p) false (awaiting its q (replace its p (Done p o s ∷ []) (front its h)))
              (let a = leaf_awaiting its p o s q (front its h) waiting in let d = kept.due q in omega (arith, a, d))
              (λ k. absurd (cc (k))) (λ u. rw (same_is its q p u) (kept.offered p was.0)) (λ u. rw (same_is its q p u) was.1) (λ t. kept.offered q (kept.claimed q t))
              ∙ due_push h e q);
          sorted = subst (IsSorted its) (sym same) (leaf_sorted its p o s (front its h) kept.sorted);
          leaves = ap (leaves_in its) same ∙ (leaf_leaves its p o s (front its h) waiting kept.sorted ∙ (ap (λ l. cond (k.fails o) l (insert_entry (path_cmp k) l p o)) kept.leaves ∙ sym (leaves_push h e)));
          steps = let f = ap steps_in same in let g = leaf_steps_in its p o s (front its h) waiting in omega (arith, f, g, cost, total, before);
        }

    stop_keeps : (x : Halt) → IsKept budget (h ++ Stop x ∷ [])
    stop_keeps x =
        let e = Stop x in
        let same = front_push h e in
        let cost = split_cost_push h e in
        let total = total_push h e in
        let before = kept.steps in
        let sofar = kept.within in record {
          offered = λ q c. more_put its h e q (kept.offered q (sym (claimed_push its h e q ∙ or_false (is_claimed k h q)) ∙ c));
          claimed = λ q s. more_claimed its h e q (kept.claimed q (sym (settled_push its h e q ∙ or_false (is_settled k h q)) ∙ s));
          once = same_claims its h e (λ v q. refl) kept.once;
          holds = stop_holds its h x kept.holds;
          within = omega (arith, total, sofar);
          due = λ q. ap (awaiting its q) same ∙ (kept.due q ∙ (ap one_if (same_open (is_put its h q) (is_settled k h q)) ∙ due_push h e q));
          sorted = subst (IsSorted its) (sym same) kept.sorted;
          leaves = ap (leaves_in its) same ∙ (kept.leaves ∙ sym (leaves_push h e));
          steps = let s = ap steps_in same in omega (arith, s, cost, total, before);
        }

    pub entry_keeps : (e : Entry (List B) L) → IsAllowed k budget h e → IsTaken e → IsKept budget (h ++ e ∷ [])
    entry_keeps (Claim w p) a t = claim_keeps w p a t
    entry_keeps (Split w p n s) a t = split_keeps w p n s a
    entry_keeps (Leaf w p o s) a t = leaf_keeps w p o s a
    entry_keeps (Stop x) a t = stop_keeps x

  pub kept_at_first : (budget : ℕ) → IsKept budget []
  kept_at_first budget = record {
    offered = λ q c. absurd (both_ways false refl c);
    claimed = λ q c. absurd (both_ways false refl c);
    once = λ v w p a b. absurd (both_ways false refl a);
    holds = λ w p. refl;
    within = omega arith;
    due = λ p. let step : (b : Bool) → one_if b + 0 ≡ one_if ((b || false) && true) = elim [ true ↦ refl | false ↦ refl ] in step (same_path k p []);
    sorted = (tt, tt);
    leaves = refl;
    steps = refl;
  }

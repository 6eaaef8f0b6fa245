-- What one entry more changes in a history.
use Rattle.std.proofs.Common.{cond, eqb-true, eq-eqb, Option, Some, None, ⊎_elim, ◌≡◌, ℕ, ◌+◌, ◌==◌, Bool, true, false, not, ◌&&◌, ◌||◌, List, [], ◌∷◌, ◌++◌, refl, ap, sym, ◌∙◌}
use Rattle.std.specs.List.{list_any}
use Rattle.std.proofs.lemmas.List.Sums.{sum_by_push}
use Rattle.std.proofs.lemmas.Bool.{or_left, or_right, or_cases, or_parts, false_from_ne_true, and_parts, both_ways}
use Rattle.oz_search.specs.declared.history.Entry.{Entry}
use Rattle.oz_search.specs.declared.history.Entry.TheVariants.{Claim, Split, Leaf, Stop}
use Rattle.oz_search.specs.declared.history.Halt.{Halt}
use Rattle.oz_search.specs.Searches.{Search}
use Rattle.oz_search.specs.Paths.{Taking, same_path, is_child}
use Rattle.oz_search.specs.Histories.{History, is_open, is_out, is_out_to, is_offered, is_claimed, is_alternative_claimed, is_settled, claims, claims_as, claims_alternative, offers, settles, total_of, steps_of, stop_of, Replays, IsAllowed, claim_of, claim_after}
use Rattle.search_law.specs.Law.{is_at}
use Rattle.search_law.proofs.Settings.{Setting}
use Rattle.search_law.proofs.Booleans.{or_false, or_assoc, same_open, claim_true, settle_true, settle_false, fold_push, any_push, last_or_before, one_end}
use Rattle.search_law.proofs.Places.{same_is, is_same, same_is_place, child_is, end_not_root, is_kid, kid_parent, no_root_kid}

-- the stop that an entry is
abbrev pub halt_of : {B L : Type 0} → Entry (List B) L → Option Halt
halt_of (Claim w q) = None
halt_of (Split w q n s) = None
halt_of (Leaf w q l s) = None
halt_of (Stop h) = Some h

pub stop_push : {B L : Type 0} (h : History B L) (e : Entry (List B) L) → stop_of h ≡ None → stop_of (h ++ e ∷ []) ≡ halt_of e
stop_push [] (Claim w q) none = refl
stop_push [] (Split w q n s) none = refl
stop_push [] (Leaf w q l s) none = refl
stop_push [] (Stop x) none = refl
stop_push (Claim w q ∷ h) e none = stop_push h e none
stop_push (Split w q n s ∷ h) e none = stop_push h e none
stop_push (Leaf w q l s ∷ h) e none = stop_push h e none
stop_push (Stop x ∷ h) e none = absurd (cc (none))

pub total_push : {B L : Type 0} (h : History B L) (e : Entry (List B) L) → total_of (h ++ e ∷ []) ≡ total_of h + steps_of e
total_push h e = sum_by_push steps_of h e

pub claim_of_push : {B L : Type 0} (h : History B L) (e : Entry (List B) L) (w : ℕ) → claim_of (h ++ e ∷ []) w ≡ claim_after w (claim_of h w) e
claim_of_push h e w = fold_push (claim_after w) None h e

module _ {B L : Type 0} (its : Setting B L) where
  abbrev k : Search B L
  k = its.k

  abbrev branch : Taking B
  branch = its.branch

  pub replays_push : (budget : ℕ) (h : History B L) (x : Entry (List B) L) → Replays k budget h → stop_of h ≡ None → IsAllowed k budget h x → Replays k budget (h ++ x ∷ [])
  replays_push budget h x old none allowed before e after eq =
      ⊎_elim
      (λ l. rw (l.0, l.1) (none, allowed))
      (λ r. old before e r.0 r.1)
      (last_or_before h before after x e eq)

  pub offered_push : (h : History B L) (e : Entry (List B) L) (q : List B) → is_offered k (h ++ e ∷ []) q ≡ (is_offered k h q || offers k q e)
  offered_push h e q = ap (λ b. same_path k q [] || b) (any_push (offers k q) h e) ∙ or_assoc (same_path k q []) (list_any (offers k q) h) (offers k q e)

  pub claimed_push : (h : History B L) (e : Entry (List B) L) (q : List B) → is_claimed k (h ++ e ∷ []) q ≡ (is_claimed k h q || claims k q e)
  claimed_push h e q = any_push (claims k q) h e

  pub settled_push : (h : History B L) (e : Entry (List B) L) (q : List B) → is_settled k (h ++ e ∷ []) q ≡ (is_settled k h q || settles k q e)
  settled_push h e q = any_push (settles k q) h e

  pub taken_push : (h : History B L) (e : Entry (List B) L) (q : List B) → is_alternative_claimed k (h ++ e ∷ []) q ≡ (is_alternative_claimed k h q || claims_alternative k q e)
  taken_push h e q = any_push (claims_alternative k q) h e

  pub open_push : (h : History B L) (e : Entry (List B) L) (q : List B) → is_open k (h ++ e ∷ []) q ≡ ((is_offered k h q || offers k q e) && not (is_alternative_claimed k h q || claims_alternative k q e))
  open_push h e q = rw (← offered_push h e q, ← taken_push h e q) refl

  pub out_push : (h : History B L) (e : Entry (List B) L) (q : List B) → is_out k (h ++ e ∷ []) q ≡ ((is_claimed k h q || claims k q e) && not (is_settled k h q || settles k q e))
  out_push h e q = rw (← claimed_push h e q, ← settled_push h e q) refl

  pub more_offered : (h : History B L) (e : Entry (List B) L) (q : List B) → is_offered k h q ≡ true → is_offered k (h ++ e ∷ []) q ≡ true
  more_offered h e q t = offered_push h e q ∙ or_left (is_offered k h q) (offers k q e) t

  pub more_claimed : (h : History B L) (e : Entry (List B) L) (q : List B) → is_claimed k h q ≡ true → is_claimed k (h ++ e ∷ []) q ≡ true
  more_claimed h e q t = claimed_push h e q ∙ or_left (is_claimed k h q) (claims k q e) t

  pub claimed_from : (h : History B L) (w : ℕ) (p : List B) → list_any (claims_as k w p) h ≡ true → is_claimed k h p ≡ true
  claimed_from [] w p t = t
  claimed_from (Claim v q ∷ h) w p t =
      ⊎_elim
      (λ here. or_left (same_path k p q) (is_claimed k h p) (and_parts (w == v) (same_path k p q) here).1)
      (λ later. or_right (same_path k p q) (is_claimed k h p) (claimed_from h w p later))
      (or_cases ((w == v) && same_path k p q) (list_any (claims_as k w p) h) t)
  claimed_from (Split v q n s ∷ h) w p t = claimed_from h w p t
  claimed_from (Leaf v q l s ∷ h) w p t = claimed_from h w p t
  claimed_from (Stop x ∷ h) w p t = claimed_from h w p t

  -- ---- what each worker holds
  pub out_to_push : (h : History B L) (e : Entry (List B) L) (w : ℕ) (q : List B) → is_out_to k (h ++ e ∷ []) w q ≡ ((list_any (claims_as k w q) h || claims_as k w q e) && not (is_settled k h q || settles k q e))
  out_to_push h e w q = rw (← any_push (claims_as k w q) h e, ← settled_push h e q) refl

  pub at_same : (o : Option (List B)) (p q : List B) → same_path k p q ≡ true → is_at k o p ≡ is_at k o q
  at_same o p q s = ap (is_at k o) (same_is its p q s)

  -- of one worker only what it holds is out to it
  pub other_free : (o : Option (List B)) (p q : List B) → is_at k o q ≡ true → same_path k p q ≡ false → is_at k o p ≡ false
  other_free None p q here apart = refl
  other_free (Some x) p q here apart = rw (← same_is its q x here) apart

  pub claim_holds : (h : History B L) (v : ℕ) (q : List B) → ((w : ℕ) (p : List B) → is_out_to k h w p ≡ is_at k (claim_of h w) p) → ((p : List B) → is_out_to k h v p ≡ false) → is_settled k h q ≡ false
      → (w : ℕ) (p : List B) → is_out_to k (h ++ Claim v q ∷ []) w p ≡ is_at k (claim_of (h ++ Claim v q ∷ []) w) p
  claim_holds h v q holds free unsettled w p =
      let step : (b : Bool) → (w == v) ≡ b → ((list_any (claims_as k w p) h || (b && same_path k p q)) && not (is_settled k h p || false)) ≡ is_at k (cond b (Some q) (claim_of h w)) p = elim [
        | true ↦ λ e.
            let gone : (list_any (claims_as k w p) h && not (is_settled k h p)) ≡ false = rw (eqb-true w v e) (free p) in
            claim_true (list_any (claims_as k w p) h) (is_settled k h p) (same_path k p q) gone (λ s. rw (same_is its p q s) unsettled)
        | false ↦ λ e. sym (same_open (list_any (claims_as k w p) h) (is_settled k h p)) ∙ holds w p
      ] in
      out_to_push h (Claim v q) w p ∙ (step (w == v) refl ∙ ap (λ o. is_at k o p) (sym (claim_of_push h (Claim v q) w)))

  pub settle_holds : (h : History B L) (v : ℕ) (q : List B) (e : Entry (List B) L) → ((w : ℕ) (p : List B) → is_out_to k h w p ≡ is_at k (claim_of h w) p)
      → ((v' w : ℕ) (p : List B) → list_any (claims_as k v' p) h ≡ true → list_any (claims_as k w p) h ≡ true → v' ≡ w) → is_out_to k h v q ≡ true
      → ((w : ℕ) (p : List B) → claims_as k w p e ≡ false) → ((p : List B) → settles k p e ≡ same_path k p q) → ((w : ℕ) (c : Option (List B)) → claim_after w c e ≡ cond (w == v) None c)
      → (w : ℕ) (p : List B) → is_out_to k (h ++ e ∷ []) w p ≡ is_at k (claim_of (h ++ e ∷ []) w) p
  settle_holds h v q e holds once here no_claim settled after w p =
      let a = list_any (claims_as k w p) h in
      let t = is_settled k h p in
      let before : is_out_to k (h ++ e ∷ []) w p ≡ ((a || false) && not (t || same_path k p q)) = out_to_push h e w p ∙ rw (no_claim w p, settled p) refl in
      let step : (b : Bool) → (w == v) ≡ b → ((a || false) && not (t || same_path k p q)) ≡ is_at k (cond b None (claim_of h w)) p = elim [
        | true ↦ λ i. settle_true a t (same_path k p q) (λ apart. holds w p ∙ other_free (claim_of h w) p q (sym (holds w q) ∙ rw (eqb-true w v i) here) apart)
        | false ↦ λ i. settle_false a t (same_path k p q) (λ s. false_from_ne_true a (λ y. both_ways (w == v) i (eq-eqb w v (once w v p y (rw (same_is its p q s) (and_parts (list_any (claims_as k v q) h) (not (is_settled k h q)) here).0))))) ∙ holds w p
      ] in
      before ∙ (step (w == v) refl ∙ ap (λ o. is_at k o p) (sym (claim_of_push h e w ∙ after w (claim_of h w))))

  pub claim_once : (h : History B L) (u : ℕ) (q : List B) → ((v w : ℕ) (p : List B) → list_any (claims_as k v p) h ≡ true → list_any (claims_as k w p) h ≡ true → v ≡ w) → is_claimed k h q ≡ false
      → (v w : ℕ) (p : List B) → list_any (claims_as k v p) (h ++ Claim u q ∷ []) ≡ true → list_any (claims_as k w p) (h ++ Claim u q ∷ []) ≡ true → v ≡ w
  claim_once h u q once unclaimed v w p a b =
      let new : (x : ℕ) → ((x == u) && same_path k p q) ≡ true → (x ≡ u) × (p ≡ q) = λ x t. let parts = and_parts (x == u) (same_path k p q) t in (eqb-true x u parts.0, same_is its p q parts.1) in
      let not_so : (x : ℕ) → list_any (claims_as k x p) h ≡ true → p ≡ q → ⊥ = λ x t e. both_ways (is_claimed k h q) unclaimed (rw (← e) (claimed_from h x p t)) in
      let first = or_cases (list_any (claims_as k v p) h) ((v == u) && same_path k p q) (sym (any_push (claims_as k v p) h (Claim u q)) ∙ a) in
      let second = or_cases (list_any (claims_as k w p) h) ((w == u) && same_path k p q) (sym (any_push (claims_as k w p) h (Claim u q)) ∙ b) in
      ⊎_elim
      (λ x. ⊎_elim (λ y. once v w p x y) (λ y. absurd (not_so v x (new w y).1)) second)
      (λ x. ⊎_elim (λ y. absurd (not_so w y (new v x).1)) (λ y. (new v x).0 ∙ sym (new w y).0) second)
      first

  pub same_claims : (h : History B L) (e : Entry (List B) L) → ((w : ℕ) (p : List B) → claims_as k w p e ≡ false) → ((v w : ℕ) (p : List B) → list_any (claims_as k v p) h ≡ true → list_any (claims_as k w p) h ≡ true → v ≡ w)
      → (v w : ℕ) (p : List B) → list_any (claims_as k v p) (h ++ e ∷ []) ≡ true → list_any (claims_as k w p) (h ++ e ∷ []) ≡ true → v ≡ w
  same_claims h e none once v w p a b =
      let back : (x : ℕ) → list_any (claims_as k x p) (h ++ e ∷ []) ≡ true → list_any (claims_as k x p) h ≡ true = λ x t.
      sym (any_push (claims_as k x p) h e ∙ (ap (λ c. list_any (claims_as k x p) h || c) (none x p) ∙ or_false (list_any (claims_as k x p) h))) ∙ t in
      once v w p (back v a) (back w b)

  pub stop_holds : (h : History B L) (x : Halt) → ((w : ℕ) (p : List B) → is_out_to k h w p ≡ is_at k (claim_of h w) p) → (w : ℕ) (p : List B) → is_out_to k (h ++ Stop x ∷ []) w p ≡ is_at k (claim_of (h ++ Stop x ∷ []) w) p
  stop_holds h x holds w p = out_to_push h (Stop x) w p ∙ (sym (same_open (list_any (claims_as k w p) h) (is_settled k h p)) ∙ (holds w p ∙ ap (λ o. is_at k o p) (sym (claim_of_push h (Stop x) w))))

  pub claimed_taken : (h : History B L) (p : List B) → is_claimed k h p ≡ true → is_alternative_claimed k h p ≡ true
  claimed_taken [] p t = t
  claimed_taken (Claim v q ∷ h) p t =
      ⊎_elim
      (λ here. or_left (claims_alternative k p (Claim v q)) (is_alternative_claimed k h p) (same_is_place its p q here))
      (λ later. or_right (claims_alternative k p (Claim v q)) (is_alternative_claimed k h p) (claimed_taken h p later))
      (or_cases (same_path k p q) (is_claimed k h p) t)
  claimed_taken (Split v q n s ∷ h) p t = claimed_taken h p t
  claimed_taken (Leaf v q l s ∷ h) p t = claimed_taken h p t
  claimed_taken (Stop x ∷ h) p t = claimed_taken h p t

  child_parent : (p q : List B) (m n : ℕ) (c : List B) → is_child k p m c ≡ true → is_child k q n c ≡ true → same_path k p q ≡ true
  child_parent p q m n c a b =
      let r = child_is its p m c a in
      let s = child_is its q n c b in
      is_same its p q (one_end p q r.0 s.0 (sym r.1 ∙ s.1)).0

  no_child_offered : (h : History B L) (p c : List B) (n : ℕ) → is_settled k h p ≡ false → is_child k p n c ≡ true → list_any (offers k c) h ≡ false
  no_child_offered [] p c n unsettled child = refl
  no_child_offered (Claim w q ∷ h) p c n unsettled child = no_child_offered h p c n unsettled child
  no_child_offered (Split w q m s ∷ h) p c n unsettled child =
      let parts = or_parts (same_path k p q) (is_settled k h p) unsettled in
      let here : is_child k q m c ≡ false = false_from_ne_true (is_child k q m c) (λ t. both_ways (same_path k p q) parts.0 (child_parent p q n m c child t)) in
      rw here (no_child_offered h p c n parts.1 child)
  no_child_offered (Leaf w q l s ∷ h) p c n unsettled child = no_child_offered h p c n (or_parts (same_path k p q) (is_settled k h p) unsettled).1 child
  no_child_offered (Stop x ∷ h) p c n unsettled child = no_child_offered h p c n unsettled child

  -- a child of a node that is not settled is not offered
  pub child_closed : (h : History B L) (p c : List B) (n : ℕ) → is_settled k h p ≡ false → is_child k p n c ≡ true → is_offered k h c ≡ false
  child_closed h p c n unsettled child =
      let r = child_is its p n c child in
      let root : same_path k c [] ≡ false = rw (r.1) (end_not_root its p r.0) in
      rw root (no_child_offered h p c n unsettled child)

  -- ---- what is offered by the branches that are taken
  abbrev pub puts : List B → Entry (List B) L → Bool
  puts p (Claim w q) = false
  puts p (Split w q n s) = is_kid its q n p
  puts p (Leaf w q l s) = false
  puts p (Stop h) = false

  abbrev pub is_put : History B L → List B → Bool
  is_put h p = same_path k p [] || list_any (puts p) h

  pub put_push : (h : History B L) (e : Entry (List B) L) (q : List B) → is_put (h ++ e ∷ []) q ≡ (is_put h q || puts q e)
  put_push h e q = ap (λ b. same_path k q [] || b) (any_push (puts q) h e) ∙ or_assoc (same_path k q []) (list_any (puts q) h) (puts q e)

  pub more_put : (h : History B L) (e : Entry (List B) L) (q : List B) → is_put h q ≡ true → is_put (h ++ e ∷ []) q ≡ true
  more_put h e q t = put_push h e q ∙ or_left (is_put h q) (puts q e) t

  no_kid_put : (h : History B L) (p c : List B) (n : ℕ) → is_settled k h p ≡ false → is_kid its p n c ≡ true → list_any (puts c) h ≡ false
  no_kid_put [] p c n unsettled child = refl
  no_kid_put (Claim w q ∷ h) p c n unsettled child = no_kid_put h p c n unsettled child
  no_kid_put (Split w q m s ∷ h) p c n unsettled child =
      let parts = or_parts (same_path k p q) (is_settled k h p) unsettled in
      let here : is_kid its q m c ≡ false = false_from_ne_true (is_kid its q m c) (λ t. both_ways (same_path k p q) parts.0 (kid_parent its p q n m c child t)) in
      rw here (no_kid_put h p c n parts.1 child)
  no_kid_put (Leaf w q l s ∷ h) p c n unsettled child = no_kid_put h p c n (or_parts (same_path k p q) (is_settled k h p) unsettled).1 child
  no_kid_put (Stop x ∷ h) p c n unsettled child = no_kid_put h p c n unsettled child

  pub kid_closed : (h : History B L) (p c : List B) (n : ℕ) → is_settled k h p ≡ false → is_kid its p n c ≡ true → is_put h c ≡ false
  kid_closed h p c n unsettled child = rw (no_root_kid its p n c child) (no_kid_put h p c n unsettled child)

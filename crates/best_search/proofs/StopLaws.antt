-- The steps of a history, and the stop with which it ends.
use Rattle.std.proofs.Common.{◌≡◌, ℕ, ◌+◌, ◌≤◌, List, [], ◌∷◌, ◌++◌, Some, refl, sym, ◌∙◌, ap, subst, arith}
use Rattle.std.proofs.lemmas.Option.{same_Some}
use Rattle.oz_search.specs.declared.history.Entry.TheVariants.{Claim, Split, Leaf, Stop}
use Rattle.oz_search.specs.declared.history.Halt.{Halt}
use Rattle.oz_search.specs.declared.history.StopCause.TheVariants as causes
use Rattle.oz_search.specs.Histories.{Replays, IsAllowed, total_of, steps_of, stop_of}
use Rattle.oz_search.specs.Best.{BestEntry, best}
use Rattle.search_law.proofs.Entries.{stop_push, total_push}
use Rattle.oz_replies.specs.BestReplies.{steps_at}
use Rattle.oz_replies.specs.BestReplies.{IsStopped}

append_one : (b : List BestEntry) (e : BestEntry) (rest : List BestEntry) → (b ++ e ∷ []) ++ rest ≡ b ++ e ∷ rest
append_one [] e rest = refl
append_one (x ∷ b) e rest = ap (λ z. x ∷ z) (append_one b e rest)

-- an entry that is allowed leaves the steps within the budget
allowed_within : (budget : ℕ) (b : List BestEntry) (e : BestEntry) → IsAllowed best budget b e → total_of b ≤ budget → total_of b + steps_of e ≤ budget
allowed_within budget b (Claim w p) is l = omega (arith, l)
allowed_within budget b (Split w p n s) is l = is.3
allowed_within budget b (Leaf w p o s) is l = is.2
allowed_within budget b (Stop x) is l = omega (arith, l)

within_from : (budget : ℕ) (h : List BestEntry) → Replays best budget h → (b rest : List BestEntry) → h ≡ b ++ rest → total_of b ≤ budget → total_of h ≤ budget
within_from budget h replays b [] e l = subst (λ z. total_of z ≤ budget) (sym (e ∙ append_none b)) l
  where
    append_none : (xs : List BestEntry) → xs ++ [] ≡ xs
    append_none [] = refl
    append_none (x ∷ xs) = ap (λ z. x ∷ z) (append_none xs)
within_from budget h replays b (x ∷ rest) e l =
    let allowed = replays b x rest e in
    within_from budget h replays (b ++ x ∷ []) rest (e ∙ sym (append_one b x rest)) (subst (λ z. z ≤ budget) (sym (total_push b x)) (allowed_within budget b x allowed.1 l))

-- all steps together are within the budget
pub total_within : (budget : ℕ) (h : List BestEntry) → Replays best budget h → total_of h ≤ budget
total_within budget h replays = within_from budget h replays [] h refl (omega arith)

stop_cut : (h : List BestEntry) (e : Halt) → stop_of h ≡ Some e → (before : List BestEntry) × (after : List BestEntry) × (h ≡ before ++ Stop e ∷ after)
stop_cut [] e s = absurd (cc (s))
stop_cut (Claim w p ∷ h) e s = let r = stop_cut h e s in (Claim w p ∷ r.0, r.1, ap (λ z. Claim w p ∷ z) r.2)
stop_cut (Split w p n k ∷ h) e s = let r = stop_cut h e s in (Split w p n k ∷ r.0, r.1, ap (λ z. Split w p n k ∷ z) r.2)
stop_cut (Leaf w p o k ∷ h) e s = let r = stop_cut h e s in (Leaf w p o k ∷ r.0, r.1, ap (λ z. Leaf w p o k ∷ z) r.2)
stop_cut (Stop x ∷ h) e s = ([], h, ap (λ z. Stop z ∷ h) (same_Some _ _ s))

nothing_after : (budget : ℕ) (h before after : List BestEntry) (e : Halt) → Replays best budget h → h ≡ before ++ Stop e ∷ after → h ≡ before ++ Stop e ∷ []
nothing_after budget h before [] e replays i = i
nothing_after budget h before (x ∷ after) e replays i =
    let first = replays before (Stop e) (x ∷ after) i in
    let more = replays (before ++ Stop e ∷ []) x after (i ∙ sym (append_one before (Stop e) (x ∷ after))) in
    absurd (cc (more.0, stop_push before (Stop e) first.0))

-- the stop is the last entry
pub stop_last : (budget : ℕ) (h : List BestEntry) (e : Halt) → Replays best budget h → stop_of h ≡ Some e → (before : List BestEntry) × (h ≡ before ++ Stop e ∷ [])
stop_last budget h e replays s = let r = stop_cut h e s in (r.0, nothing_after budget h r.0 r.1 e replays r.2)

total_before : (before h : List BestEntry) (e : Halt) → h ≡ before ++ Stop e ∷ [] → total_of h ≡ total_of before
total_before before h e i =
    let sum : total_of h ≡ total_of before + 0 = ap total_of i ∙ total_push before (Stop e) in
    omega (arith, sum)

pub spent_by_fuel : (budget : ℕ) (h : List BestEntry) (e : Halt) → Replays best budget h → stop_of h ≡ Some e → e.cause ≡ causes.Fuel → IsStopped budget h (total_of h + budget + 1)
spent_by_fuel budget h e replays s fuel =
    let r = stop_last budget h e replays s in
    record {
      before = r.0;
      halt = e;
      ends = r.1;
      stops = ap (steps_at budget r.0) fuel ∙ ap (λ n. Some (n + budget + 1)) (sym (total_before r.0 h e r.1));
    }

pub spent_by_total : (budget : ℕ) (h : List BestEntry) (e : Halt) (t : ℕ) → Replays best budget h → stop_of h ≡ Some e → e.cause ≡ causes.Total t → IsStopped budget h t
spent_by_total budget h e t replays s total =
    let r = stop_last budget h e replays s in
    record { before = r.0; halt = e; ends = r.1; stops = ap (steps_at budget r.0) total }

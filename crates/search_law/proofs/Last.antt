-- A finished history goes on with no more than a stop for want of memory.
use Rattle.std.proofs.Common.{false, ◌||◌, ⊎_elim, subst, ◌≡◌, inl, inr, ℕ, not, ◌&&◌, true, List, [], ◌∷◌, ◌++◌, Some, refl, ap, sym, ◌∙◌, append_assoc}
use Rattle.std.specs.List.{list_any}
use Rattle.std.proofs.lemmas.Bool.{and_parts, both_ways, or_left, or_right}
use Rattle.std.proofs.lemmas.List.Folds.{list_any-append}
use Rattle.oz_search.specs.declared.history.StopCause.{StopCause}
use Rattle.oz_search.specs.declared.history.StopCause.TheVariants.{Memory, Fuel, Total}
use Rattle.oz_search.specs.declared.history.Entry.{Entry}
use Rattle.oz_search.specs.declared.history.Entry.TheVariants.{Claim, Split, Leaf, Stop}
use Rattle.oz_search.specs.declared.history.Halt.{Halt}
use Rattle.oz_search.specs.Paths.{same_alternative}
use Rattle.oz_search.specs.Histories.{History, claims_alternative, IsAllowed, MayStop, Replays, claims_as, is_claimed, is_alternative_claimed, is_settled, is_out, is_out_to, is_open, is_offered, stop_of, IsNothingOpen, IsNothingOut}
use Rattle.search_law.specs.Law.{IsLast, LastLaw, StaysLaw, OnceLaw}
use Rattle.search_law.proofs.Settings.{Setting, of_search}
use Rattle.search_law.proofs.Booleans.{append_nil, not_true, some_not_none, same_open}
use Rattle.search_law.proofs.Entries.{halt_of, claimed_from, stop_push, open_push, out_push}

module _ {B L : Type 0} (its : Setting B L) where
  module _ (h : History B L) (closed : IsNothingOpen its.k h) (inside : IsNothingOut its.k h) where
    none_to : (w : ℕ) (p : List B) → is_out_to its.k h w p ≡ true → ⊥
    none_to w p here =
        let parts = and_parts (list_any (claims_as its.k w p) h) (not (is_settled its.k h p)) here in
        let out : is_out its.k h p ≡ true = ap (λ b. b && not (is_settled its.k h p)) (claimed_from its h w p parts.0) ∙ parts.1 in
        both_ways (is_out its.k h p) (inside p) out

    stop_memory : (budget w : ℕ) (c : StopCause) → MayStop its.k budget h w c → c ≡ Memory
    stop_memory budget w Memory may = refl
    stop_memory budget w Fuel may = absurd (none_to w may.0 may.1)
    stop_memory budget w (Total t) may = absurd (none_to w may.0.0 may.0.1)

    -- what is allowed is a stop for want of memory
    only_stop : (budget : ℕ) (e : Entry (List B) L) → IsAllowed its.k budget h e → (x : Halt) × (x.cause ≡ Memory) × (e ≡ Stop x)
    only_stop budget (Claim w p) allowed = absurd (both_ways (is_open its.k h p) (closed p) allowed.0.0)
    only_stop budget (Split w p n s) allowed = absurd (none_to w p allowed.0)
    only_stop budget (Leaf w p o s) allowed = absurd (none_to w p allowed.0)
    only_stop budget (Stop x) allowed = (x, stop_memory budget x.worker x.cause allowed, refl)

  pub last : (budget : ℕ) (before after : History B L) → Replays its.k budget (before ++ after) → IsNothingOpen its.k before → IsNothingOut its.k before → IsLast after
  last budget h [] replays closed inside = inl refl
  last budget h (e ∷ []) replays closed inside =
      let only = only_stop h closed inside budget e (replays h e [] refl).1 in inr (only.0, only.1, ap (λ y. y ∷ []) only.2)
  last budget h (e ∷ d ∷ rest) replays closed inside =
      let here = replays h e (d ∷ rest) refl in
      let only = only_stop h closed inside budget e here.1 in
      let next = replays (h ++ e ∷ []) d rest (sym (append_assoc h (e ∷ []) (d ∷ rest))) in
      let stopped : stop_of (h ++ e ∷ []) ≡ Some only.0 = stop_push h e here.0 ∙ ap halt_of only.2 in
      some_not_none only.0 (sym stopped ∙ next.0)

  pub stays : (budget : ℕ) (before after : History B L) → Replays its.k budget (before ++ after) → IsNothingOpen its.k before → IsNothingOut its.k before
      → IsNothingOpen its.k (before ++ after) × IsNothingOut its.k (before ++ after)
  stays budget before after replays closed inside =
      let P : History B L → Type 0 = λ z. IsNothingOpen its.k z × IsNothingOut its.k z in
      ⊎_elim
      (λ none. subst P (sym (ap (λ a. before ++ a) none ∙ append_nil before)) (closed, inside))
      (λ one. subst P (sym (ap (λ a. before ++ a) one.2)) (
        λ p. open_push its before (Stop one.0) p ∙ (sym (same_open (is_offered its.k before p) (is_alternative_claimed its.k before p)) ∙ closed p),
        λ p. out_push its before (Stop one.0) p ∙ (sym (same_open (is_claimed its.k before p) (is_settled its.k before p)) ∙ inside p),
      ))
      (last budget before after replays closed inside)

  pub once : (budget : ℕ) (h before between after : History B L) (v w : ℕ) (p q : List B) → Replays its.k budget h → h ≡ (before ++ Claim v p ∷ between) ++ Claim w q ∷ after → same_alternative its.k q p ≡ true → ⊥
  once budget h before between after v w p q replays cut same =
      let earlier = before ++ Claim v p ∷ between in
      let opens = (replays earlier (Claim w q) after cut).1.0.0 in
      let untaken : is_alternative_claimed its.k earlier q ≡ false = not_true (is_alternative_claimed its.k earlier q) (and_parts (is_offered its.k earlier q) (not (is_alternative_claimed its.k earlier q)) opens).1 in
      let taken : is_alternative_claimed its.k earlier q ≡ true =
      list_any-append (claims_alternative its.k q) before (Claim v p ∷ between) ∙ or_right (list_any (claims_alternative its.k q) before) (same_alternative its.k q p || list_any (claims_alternative its.k q) between) (or_left (same_alternative its.k q p) (list_any (claims_alternative its.k q) between) same) in
      both_ways (is_alternative_claimed its.k earlier q) untaken taken

pub last_law : (B L : Type 0) → LastLaw B L
last_law B L k is budget before after replays closed inside = last (of_search k is) budget before after replays closed inside

pub stays_law : (B L : Type 0) → StaysLaw B L
stays_law B L k is budget before after replays closed inside = stays (of_search k is) budget before after replays closed inside

pub once_law : (B L : Type 0) → OnceLaw B L
once_law B L k is budget h before between after v w p q replays cut same = once (of_search k is) budget h before between after v w p q replays cut same

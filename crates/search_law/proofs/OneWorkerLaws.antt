-- Where one worker alone has finished, it does not stop for want of steps.
use Rattle.std.proofs.Common.{◌≡◌, ◌⊎◌, ⊎_elim, ℕ, true, List, [], ◌∷◌, ◌++◌, None, refl, ap, sym, ◌∙◌, subst, arith, append_assoc}
use Rattle.std.specs.Prelude.{Contains, is_some}
use Rattle.std.proofs.lemmas.List.Elements.{Contains-append_right}
use Rattle.oz_search.specs.declared.best.Bounded.{Bounded}
use Rattle.oz_search.specs.declared.best.Costed.{Costed}
use Rattle.oz_search.specs.declared.history.Entry.TheVariants.{Claim, Split, Leaf, Stop}
use Rattle.oz_search.specs.declared.history.Halt.{Halt}
use Rattle.oz_search.specs.declared.history.StopCause.TheVariants.{Memory}
use Rattle.oz_search.specs.Histories.{Replays, stop_of, IsNothingOpen, IsNothingOut}
use Rattle.oz_search.specs.Best.{BestEntry, best}
use Rattle.search_law.specs.Law.{IsSpent}
use Rattle.search_law.specs.OneWorker.{IsAlone, before_stop, GoesOn, FinishesLaw}
use Rattle.search_law.proofs.Booleans.{append_nil}
use Rattle.search_law.proofs.Last.{last_law}
use Rattle.search_law.proofs.Instances.{best_search}
use Rattle.search_law.proofs.Alone.{one_worker_law}

-- nothing is cut off where nobody stopped
whole : (h : List BestEntry) → stop_of h ≡ None → before_stop h ≡ h
whole [] none = refl
whole (Claim w p ∷ h) none = ap (λ z. Claim w p ∷ z) (whole h none)
whole (Split w p n s ∷ h) none = ap (λ z. Split w p n s ∷ z) (whole h none)
whole (Leaf w p l s ∷ h) none = ap (λ z. Leaf w p l s ∷ z) (whole h none)
whole (Stop x ∷ h) none = absurd (cc (none))

-- a stop comes after the entries before it
at_stop : (h : List BestEntry) → is_some (stop_of h) ≡ true → (x : Halt) × (after : List BestEntry) × (h ≡ before_stop h ++ Stop x ∷ after)
at_stop [] some = absurd (cc (some))
at_stop (Claim w p ∷ h) some = let r = at_stop h some in (r.0, r.1, ap (λ z. Claim w p ∷ z) r.2)
at_stop (Split w p n s ∷ h) some = let r = at_stop h some in (r.0, r.1, ap (λ z. Split w p n s ∷ z) r.2)
at_stop (Leaf w p l s ∷ h) some = let r = at_stop h some in (r.0, r.1, ap (λ z. Leaf w p l s ∷ z) r.2)
at_stop (Stop x ∷ h) some = (x, h, refl)

-- one history goes on where the other ends, which has finished
goes_on : (h g : List BestEntry) → stop_of h ≡ None → is_some (stop_of g) ≡ true → GoesOn g h ⊎ GoesOn h g → (rest : List BestEntry) × (before_stop g ≡ h ++ rest)
goes_on h g none some = ⊎_elim
    (λ shorter. ([], sym (append_nil (before_stop g)) ∙ (ap (λ z. before_stop g ++ z) (sym (shorter.ended some)) ∙ (sym shorter.begins ∙ (whole h none ∙ sym (append_nil h))))))
    (λ longer. (longer.rest, longer.begins ∙ ap (λ z. z ++ longer.rest) (whole h none)))

not_nothing : (rest after : List BestEntry) (x : Halt) → rest ++ Stop x ∷ after ≡ [] → ⊥
not_nothing [] after x e = absurd (cc (e))
not_nothing (y ∷ rest) after x e = absurd (cc (e))

-- a stop for want of memory is not the end of a worker alone
not_memory : (g h : List BestEntry) (y : Halt) → IsAlone g → g ≡ h ++ Stop y ∷ [] → y.cause ≡ Memory → ⊥
not_memory g h y alone e memory =
    let P : List BestEntry → Type 0 = λ z. Contains z (Stop y) in
    let there : Contains g (Stop y) = subst P (sym e) (Contains-append_right h (Stop y ∷ []) (Stop y) (0, omega arith, refl)) in
    subst IsSpent memory (alone.spent y there)

module _ (budget : ℕ) (h g : List BestEntry) (closed : IsNothingOpen best h) (inside : IsNothingOut best h) (replays : Replays best budget g) (alone : IsAlone g) where
  ends : (rest after : List BestEntry) (x : Halt) → g ≡ h ++ (rest ++ Stop x ∷ after) → ⊥
  ends rest after x e =
      ⊎_elim
      (λ nothing. not_nothing rest after x nothing)
      (λ stop. not_memory g h stop.0 alone (e ∙ ap (λ z. h ++ z) stop.2) stop.1)
      (last_law Bounded Costed best best_search budget h (rest ++ Stop x ∷ after) (subst (Replays best budget) e replays) closed inside)

pub finishes_law : FinishesLaw
finishes_law within budget h g tree h_legal h_alone none closed inside g_legal g_alone some =
    let more = goes_on h g none some (one_worker_law within budget g h tree g_legal h_legal g_alone h_alone) in
    let stop = at_stop g some in
    ends budget h g closed inside g_legal.0 g_alone more.0 stop.1 stop.0
    (stop.2 ∙ (ap (λ z. z ++ Stop stop.0 ∷ stop.1) more.1 ∙ append_assoc h more.0 (Stop stop.0 ∷ stop.1)))

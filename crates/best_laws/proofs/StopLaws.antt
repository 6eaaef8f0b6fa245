-- The stop of a history of best search, and the steps that it shows.
use Rattle.std.proofs.Common.{◌≡◌, ⊎_elim, ℕ, zero, suc, ◌<◌, true, List, [], ◌∷◌, ◌++◌, Some, None, ◌∙◌, ap, subst, arith}
use Rattle.std.specs.Prelude.{Contains, is_some}
use Rattle.std.proofs.lemmas.Option.{same_Some}
use Rattle.std.proofs.lemmas.List.Elements.{Contains-push_cases}
use Rattle.oz_search.specs.declared.best.Bounded.{Bounded}
use Rattle.oz_search.specs.declared.best.Costed.{Costed}
use Rattle.oz_search.specs.declared.history.Entry.TheVariants.{Claim, Split, Leaf, Stop}
use Rattle.oz_search.specs.declared.history.Halt.{Halt}
use Rattle.oz_search.specs.declared.history.StopCause.{StopCause}
use Rattle.oz_search.specs.declared.history.StopCause.TheVariants.{Memory, Fuel, Total}
use Rattle.oz_search.specs.Nodes.{Fuelled}
use Rattle.oz_search.specs.Histories.{Replays, MayStop, IsNothingOpen, IsNothingOut, stop_of, worker_of}
use Rattle.oz_search.specs.Best.{BestEntry, best}
use Rattle.search_law.specs.Law.{IsSpent}
use Rattle.search_law.specs.OneWorker.{IsAlone}
use Rattle.search_law.proofs.Entries.{stop_push}
use Rattle.oz_replies.specs.BestReplies.{steps_at, IsSearchOf}

-- ---- a stop for want of steps

-- its steps pass the budget of the search
pub passes : (left w steps : ℕ) (before : List BestEntry) (c : StopCause) → MayStop best left before w c → steps_at left before c ≡ Some steps → left < steps
passes left w steps before Memory may e = absurd (cc (e))
passes left w steps before Fuel may e = let same = same_Some _ _ e in omega (arith, same)
passes left w steps before (Total t) may e =
    let same = same_Some _ _ e in
    let over = may.1 in
    omega (arith, same, over)

pub is_spent : (left steps : ℕ) (before : List BestEntry) (c : StopCause) → steps_at left before c ≡ Some steps → IsSpent c
is_spent left steps before Memory e = absurd (cc (e))
is_spent left steps before Fuel e = tt
is_spent left steps before (Total t) e = tt

-- ---- where nobody has stopped

pub no_stop : (h : List BestEntry) (x : Halt) → stop_of h ≡ None → Contains h (Stop x) → ⊥
no_stop [] x none (n, l, i) = absurd (omega (arith, l))
no_stop (Stop y ∷ h) x none c = absurd (cc (none))
no_stop (Claim w p ∷ h) x none (zero, l, i) = absurd (cc (i))
no_stop (Claim w p ∷ h) x none (suc n, l, i) = no_stop h x none (n, omega (arith, l), i)
no_stop (Split w p m s ∷ h) x none (zero, l, i) = absurd (cc (i))
no_stop (Split w p m s ∷ h) x none (suc n, l, i) = no_stop h x none (n, omega (arith, l), i)
no_stop (Leaf w p o s ∷ h) x none (zero, l, i) = absurd (cc (i))
no_stop (Leaf w p o s ∷ h) x none (suc n, l, i) = no_stop h x none (n, omega (arith, l), i)

-- nothing is open and nothing out in a search that is over
pub finished : (within : Fuelled Bounded Costed) (left workers : ℕ) (h : List BestEntry) → IsSearchOf within left workers h → stop_of h ≡ None → IsNothingOpen best h × IsNothingOut best h
finished within left workers h search none = ⊎_elim (λ both. both) (λ stopped. (let s = stopped.1 in absurd (cc (none, s)))) search.over

-- ---- the histories of one worker

numbered : (n : ℕ) → n < 1 → n ≡ 0
numbered n l = omega (arith, l)

pub alone_none : (h : List BestEntry) → ((e : BestEntry) → Contains h e → worker_of e < 1) → stop_of h ≡ None → IsAlone h
alone_none h among none = record {
  own = λ e c. numbered (worker_of e) (among e c);
  spent = λ x c. absurd (no_stop h x none c);
}

-- the last entry is a stop for want of steps
module _ (left steps : ℕ) (h before : List BestEntry) (halt : Halt) (ends : h ≡ before ++ Stop halt ∷ []) (replays : Replays best left h) (stops : steps_at left before halt.cause ≡ Some steps) where
  none_before : stop_of before ≡ None
  none_before = (replays before (Stop halt) [] ends).0

  its_stop : (x : Halt) → Contains h (Stop x) → ◌≡◌ {A = BestEntry} (Stop halt) (Stop x)
  its_stop x c =
      ⊎_elim
      (λ earlier. absurd (no_stop before x none_before earlier))
      (λ same. same)
      (Contains-push_cases before (Stop halt) (Stop x) (subst (λ z. Contains z (Stop x)) ends c))

  spent_at : (x : Halt) → ◌≡◌ {A = BestEntry} (Stop halt) (Stop x) → IsSpent x.cause
  spent_at x e = (let same : halt ≡ x = cc (e) in subst (λ (z : Halt). IsSpent z.cause) same (is_spent left steps before halt.cause stops))

  pub alone_stopped : ((e : BestEntry) → Contains h e → worker_of e < 1) → IsAlone h
  alone_stopped among = record {
    own = λ e c. numbered (worker_of e) (among e c);
    spent = λ x c. spent_at x (its_stop x c);
  }

  pub has_stopped : is_some (stop_of h) ≡ true
  has_stopped = ap (λ z. is_some (stop_of z)) ends ∙ ap is_some (stop_push before (Stop halt) none_before)

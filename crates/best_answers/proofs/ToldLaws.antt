-- What a search has found is told by one of its histories.
use Rattle.std.proofs.Common.{◌≡◌, ◌-◌, ◌∙◌, ℕ, List, [], Result, Ok, Err, refl, sym, ap, subst}
use Rattle.std.specs.Prelude.{IfOk, IsErr}
use Rattle.oz_language.specs.declared.kernel.Constant.{Constant}
use Rattle.oz_language.specs.declared.kernel.Kernel.{Kernel}
use Rattle.oz_search.specs.Best.{BestEntry}
use Rattle.oz_semantics.specs.Runs.{Ran, Ended, TopRaised, Over, run, opening}
use Rattle.oz_semantics.specs.BestSearch.{script_best}
use Rattle.oz_semantics.specs.declared.configuration.Configuration.{Configuration}
use Rattle.oz_replies.specs.BestReplies.{Tells, IsToldOf}
use Rattle.best_search.specs.Found.{IsFoundIn, IsFoundBy}
use Rattle.best_search.specs.declared.ending.Found.{Found}
use Rattle.best_search.specs.declared.ending.Found.TheVariants as founds
use Rattle.best_answers.specs.Told.{answer_after}

tells : (budget left : ℕ) (h : List BestEntry) (found : Found) → IsFoundIn left h found → Tells budget left h (answer_after (budget - left) found)
tells budget left h (founds.Best text cost) f = f
tells budget left h founds.NoSolution f = f
tells budget left h (founds.Spent total entries) f = (f.0, total, f.1, refl)

told : (k : Kernel) (feature : Constant) (top : Configuration) (budget left workers : ℕ) (found : Found) → IsFoundBy (script_best k feature top) left workers found
    → IsToldOf k feature top budget left workers (answer_after (budget - left) found)
told k feature top budget left workers found f = record { history = f.history; search = f.search; tells = tells budget left f.history found f.found }

-- A run that has ended has ended in one way

abbrev config_at : Ran → Configuration
config_at (Ended c left) = c
config_at (TopRaised c left x) = c
config_at (Over c) = c

abbrev left_at : Ran → ℕ
left_at (Ended c left) = left
left_at (TopRaised c left x) = left
left_at (Over c) = 0

-- what was found where the run of the top has ended is told of wherever it has
pub told_of : (k l : Kernel) (feature : Constant) (top c : Configuration) (budget left n workers : ℕ) (found : Found) → l ≡ k
    → run k [] (opening k) budget ≡ Ended c n → run k [] (opening k) budget ≡ Ended top left → IsFoundBy (script_best l feature c) n workers found
    → IsToldOf k feature top budget left workers (answer_after (budget - n) found)
told_of k l feature top c budget left n workers found same e rests f =
    let config : c ≡ top = ap config_at (sym e ∙ rests) in
    let steps : n ≡ left = ap left_at (sym e ∙ rests) in
    subst (λ (x : Configuration). IsToldOf k feature x budget left workers (answer_after (budget - n) found)) config
    (subst (λ (y : ℕ). IsToldOf k feature c budget y workers (answer_after (budget - n) found)) steps
    (told k feature c budget n workers found (subst (λ (x : Kernel). IsFoundBy (script_best x feature c) n workers found) same f)))

-- a call that has refused has told nothing
pub refused : {X E : Type 0} (r : Result X E) (P : X → Type 0) → IsErr r → IfOk r P
refused (Ok x) P h = absurd (cc)
refused (Err e) P h = tt

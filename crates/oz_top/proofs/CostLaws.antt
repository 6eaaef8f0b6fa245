-- Which programs have a cost, and what is answered to one that has none.
use Rattle.std.proofs.Common.{◌≡◌, ◌∙◌, ℕ, List, [], Option, Some, None, refl, ap₂, subst, sym}
use Rattle.std.specs.Prelude.{IfSome, IfNone, MatchOption, slice_get}
use Rattle.oz_language.specs.Grammar.{Phrase}
use Rattle.oz_language.specs.Refusals.{Program}
use Rattle.oz_language.specs.declared.kernel.Kernel.{Kernel}
use Rattle.oz_semantics.specs.Runs.{Ended, run, opening}
use Rattle.oz_semantics.specs.declared.configuration.Configuration.{Configuration}
use Rattle.fd_form.specs.FdScripts.{fd_form}
use Rattle.fd_form.specs.Costs.{cost_place, HasCost, HasNoCost}
use Rattle.fd_form.specs.declared.costs.Cost.{Cost}
use Rattle.fd_form.specs.declared.script.FdScript.{FdScript}
use Rattle.oz_replies.specs.BestReplies.{NotFd, IsBestAnswer}

-- what was found by a program's words and phrase was found of the program
pub of_parts : (p : Program) (words : List (List ℕ)) (phrase : Phrase) (o : Option FdScript) → words ≡ p.words → phrase ≡ p.phrase → o ≡ fd_form (record { words = words; phrase = phrase }) → o ≡ fd_form p
of_parts p words phrase o w t is = is ∙ ap₂ (λ (x : List (List ℕ)) (y : Phrase). fd_form (record { words = x; phrase = y })) w t

-- a program that is no script has no cost
pub no_script : (p : Program) → fd_form p ≡ None → HasNoCost p
no_script p none s place feature has = absurd (cc (none, has.script))

-- of a script, what was found of its cost
pub found_cost : (p : Program) (s : FdScript) (o : Option Cost) → fd_form p ≡ Some s
    → IfSome o (λ c. (cost_place p.words s ≡ Some c.place) × (slice_get s.features c.place ≡ Some c.feature))
    → IfNone o ((place : ℕ) → cost_place p.words s ≡ Some place → slice_get s.features place ≡ None)
    → MatchOption o (HasNoCost p) (λ c. (t : FdScript) × HasCost p t c.place c.feature)
found_cost p s (Some c) is some none = (s, record { script = is; cost = some.0; field = some.1 })
found_cost p s None is some none = λ t place feature has.
    let same : t ≡ s = cc (is, has.script) in
    let field : slice_get s.features place ≡ Some feature = subst (λ (x : FdScript). slice_get x.features place ≡ Some feature) same has.field in
    absurd (cc (none place (subst (λ (x : FdScript). cost_place p.words x ≡ Some place) same has.cost), field))

-- the same, by words that are the program's
pub read_cost : (p : Program) (s : FdScript) (words : List (List ℕ)) (o : Option Cost) → words ≡ p.words → fd_form p ≡ Some s
    → IfSome o (λ c. (cost_place words s ≡ Some c.place) × (slice_get s.features c.place ≡ Some c.feature))
    → IfNone o ((place : ℕ) → cost_place words s ≡ Some place → slice_get s.features place ≡ None)
    → MatchOption o (HasNoCost p) (λ c. (t : FdScript) × HasCost p t c.place c.feature)
read_cost p s words o w is some none =
    found_cost p s o is
    (subst (λ (x : List (List ℕ)). IfSome o (λ c. (cost_place x s ≡ Some c.place) × (slice_get s.features c.place ≡ Some c.feature))) w some)
    (subst (λ (x : List (List ℕ)). IfNone o ((place : ℕ) → cost_place x s ≡ Some place → slice_get s.features place ≡ None)) w none)

-- to a program that has none, that it is no such script is the right answer
pub no_cost : (p : Program) (workers budget : ℕ) → HasNoCost p → IsBestAnswer p workers budget NotFd
no_cost p workers budget none = record {
  not_fd = λ h. refl;
  found = λ s place feature top left has run. absurd (none s place feature has);
  alone = λ one s place feature top left total entries has run exceeds. absurd (none s place feature has);
}

-- the top of a kernel comes to rest where that of the same kernel does
pub rests_alike : (k l : Kernel) (budget left : ℕ) (top : Configuration) → k ≡ l → run l [] (opening l) budget ≡ Ended top left
    → (t : Configuration) × (n : ℕ) × (run k [] (opening k) budget ≡ Ended t n)
rests_alike k l budget left top is ran = (top, left, subst (λ (x : Kernel). run x [] (opening x) budget ≡ Ended top left) (sym is) ran)

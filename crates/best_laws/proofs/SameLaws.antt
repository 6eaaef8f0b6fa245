-- The cost of a script and the end of its top's run are one.
use Rattle.std.proofs.Common.{◌≡◌, ℕ, suc, ◌≤◌, List, sym, ◌∙◌, ap, arith}
use Rattle.std.specs.Prelude.{slice_get}
use Rattle.std.proofs.lemmas.Option.{same_Some}
use Rattle.oz_language.specs.declared.kernel.Constant.{Constant}
use Rattle.oz_language.specs.declared.kernel.Kernel.{Kernel}
use Rattle.oz_language.specs.Refusals.{Program}
use Rattle.oz_semantics.specs.Runs.{Ran, Ended, TopRaised, Over, run}
use Rattle.oz_semantics.specs.declared.configuration.Configuration.{Configuration}
use Rattle.machine_search.proofs.RunLaws.{exact, same_config}
use Rattle.fd_form.specs.Costs.{HasCost, cost_place}
use Rattle.fd_form.specs.declared.script.FdScript.{FdScript}

-- ---- the cost of a script

same_script : (p : Program) (s t : FdScript) (i j : ℕ) (f g : Constant) → HasCost p s i f → HasCost p t j g → s ≡ t
same_script p s t i j f g a b = same_Some _ _ (sym a.script ∙ b.script)

same_place : (p : Program) (s t : FdScript) (i j : ℕ) (f g : Constant) → HasCost p s i f → HasCost p t j g → i ≡ j
same_place p s t i j f g a b = same_Some _ _ (sym a.cost ∙ (ap (cost_place p.words) (same_script p s t i j f g a b) ∙ b.cost))

pub same_feature : (p : Program) (s t : FdScript) (i j : ℕ) (f g : Constant) → HasCost p s i f → HasCost p t j g → f ≡ g
same_feature p s t i j f g a b =
    same_Some _ _
    (sym a.field ∙ (ap (λ (x : FdScript). slice_get x.features i) (same_script p s t i j f g a b) ∙ (ap (slice_get t.features) (same_place p s t i j f g a b) ∙ b.field)))

-- ---- the end of a run

left_in : Ran → ℕ
left_in (Ended c left) = left
left_in (TopRaised c left exception) = left
left_in (Over c) = 0

pub same_left : (c d : Configuration) (f g : ℕ) → ◌≡◌ {A = Ran} (Ended c f) (Ended d g) → f ≡ g
unfolding left_in
same_left c d f g e = ap left_in e

pub same_top : (c d : Configuration) (f g : ℕ) → ◌≡◌ {A = Ran} (Ended c f) (Ended d g) → c ≡ d
same_top c d f g e = same_config c d f g e

-- no more is left than there was
pub left_within : (k : Kernel) (space : List ℕ) (c top : Configuration) (budget left : ℕ) → run k space c budget ≡ Ended top left → left ≤ budget
left_within k space c top budget left e = (exact k space (suc budget) c budget top left (omega arith) e).fits

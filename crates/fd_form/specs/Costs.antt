-- Scripts that state a problem with a cost: a variable named `Cost`, whose value a best search makes as small as it can (CTM 12.1;
-- Schulte, LNCS 2302, on search).
use Rattle.std.specs.Prelude.{◌≡◌, ℕ, List, Option, Some, position, codes, slice_get}
use Rattle.oz_base.specs.Lists.{list_eq}
use Rattle.oz_language.specs.declared.kernel.Constant.{Constant}
use Rattle.oz_language.specs.Kernels.{word_text}
use Rattle.oz_language.specs.Refusals.{Program}
use Rattle.fd_form.specs.FdScripts.{fd_form}
use Rattle.fd_form.specs.declared.script.FdScript.{FdScript}

-- the place of the cost among the variables of a script
abbrev pub cost_place : List (List ℕ) → FdScript → Option ℕ
cost_place words s = position (λ v. list_eq (word_text words v) (codes "Cost")) s.variables

-- a program is a script with a cost, which is the variable at this place, and the field of the answer at this feature
pub record HasCost (p : Program) (s : FdScript) (place : ℕ) (feature : Constant) : Type 0 where
  pub script : fd_form p ≡ Some s
  pub cost : cost_place p.words s ≡ Some place
  pub field : slice_get s.features place ≡ Some feature

-- it is no such script
abbrev pub HasNoCost : Program → Type 0
HasNoCost p = (s : FdScript) (place : ℕ) (feature : Constant) → HasCost p s place feature → ⊥

-- a script has a feature for each variable, so only the name is asked for
abbrev pub CostLaw : Type 0
CostLaw = (p : Program) (s : FdScript) (place : ℕ) → fd_form p ≡ Some s → cost_place p.words s ≡ Some place → (feature : Constant) × HasCost p s place feature

-- The best search of a finite-domain script finds an assignment that none betters (branch and bound: Schulte, LNCS 2302, on search; CTM
-- 12.1, 12.4).
use Rattle.std.specs.Prelude.{◌≡◌, ◌≤◌, ◌-◌, ℕ, List, [], Some}
use Rattle.oz_language.specs.declared.kernel.Constant.{Constant}
use Rattle.oz_language.specs.declared.kernel.Kernel.{Kernel}
use Rattle.oz_language.specs.Refusals.{Program, Accepts}
use Rattle.oz_language.specs.Translation.{kernel_of}
use Rattle.oz_search.specs.Histories.{IsLegal, IsNothingOpen, IsNothingOut}
use Rattle.oz_search.specs.Best.{BestEntry, best}
use Rattle.oz_semantics.specs.Runs.{Ended, run, opening}
use Rattle.oz_semantics.specs.BestSearch.{script_best}
use Rattle.oz_semantics.specs.declared.configuration.Configuration.{Configuration}
use Rattle.fd_form.specs.FdScripts.{fd_form, answer_text}
use Rattle.fd_form.specs.Costs.{HasCost}
use Rattle.fd_form.specs.declared.script.FdScript.{FdScript}
use Rattle.fd_bounds.specs.BoundedTrees.{BoundedTree}
use Rattle.fd_best.specs.Parts.{ShowsTree, solved_leaf}
use Rattle.fd_best.specs.Laws.{IsTreeOf, Finds}

-- the nodes from the search root on show the bounded tree of the problem, and nothing was shown before
pub record ShowsBest (words : List (List ℕ)) (s : FdScript) (place : ℕ) (feature : Constant) (k : Kernel) (top : Configuration) : Type 0 where
  pub tree : BoundedTree
  pub is_tree : IsTreeOf s.problem place tree
  pub shows : (fuel : ℕ) → ShowsTree (solved_leaf (answer_text words s) s.problem place) (script_best k feature top fuel) tree
  pub quiet : top.shown ≡ []

-- so it is for each script with a cost, whenever its top has come to rest
abbrev pub BestTie : Type 0
BestTie = (text : List ℕ) (p : Program) (s : FdScript) (place : ℕ) (feature : Constant) (budget left : ℕ) (top : Configuration)
    → Accepts text p → HasCost p s place feature → run (kernel_of p) [] (opening (kernel_of p)) budget ≡ Ended top left → ShowsBest p.words s place feature (kernel_of p) top

-- it does so in one step
abbrev pub TopRests : Type 0
TopRests = (text : List ℕ) (p : Program) (s : FdScript) (budget : ℕ) → Accepts text p → fd_form p ≡ Some s → 1 ≤ budget → (top : Configuration) × (run (kernel_of p) [] (opening (kernel_of p)) budget ≡ Ended top (budget - 1))

-- a finished history of the best search of a script has found an assignment that none betters, or that there is none
abbrev pub FdOptimality : Type 0
FdOptimality = (text : List ℕ) (p : Program) (s : FdScript) (place : ℕ) (feature : Constant) (budget left : ℕ) (top : Configuration) (h : List BestEntry)
    → Accepts text p → HasCost p s place feature → run (kernel_of p) [] (opening (kernel_of p)) budget ≡ Ended top left
    → IsLegal (script_best (kernel_of p) feature top) best left h → IsNothingOpen best h → IsNothingOut best h → Finds s.problem place (answer_text p.words s) h

-- the tie suffices
abbrev pub BestTieSuffices : Type 0
BestTieSuffices = BestTie → FdOptimality

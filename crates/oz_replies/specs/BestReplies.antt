-- What the search for a best solution answers. It is a relation: which of several equal optima is given is left open, and with several
-- workers also how many steps a run takes (branch and bound: Schulte, LNCS 2302, on search).
use Rattle.std.specs.Prelude.{ℕ, ℤ, ◌≡◌, ◌⊎◌, ◌+◌, ◌-◌, ◌<◌, ◌≤◌, List, [], ◌∷◌, ◌++◌, Option, Some, None, Contains, codes, length}
use Rattle.std.specs.Fmt.{decimal}
use Rattle.oz_domains.specs.Positions.{value}
use Rattle.oz_language.specs.declared.kernel.Constant.{Constant}
use Rattle.oz_language.specs.declared.kernel.Kernel.{Kernel}
use Rattle.oz_language.specs.declared.fault.Fault.{Fault}
use Rattle.oz_language.specs.Refusals.{Program, Accepts, IsRefused}
use Rattle.oz_language.specs.SimpleTexts.{integer_text}
use Rattle.oz_language.specs.Translation.{kernel_of}
use Rattle.oz_search.specs.declared.history.Halt.{Halt}
use Rattle.oz_search.specs.declared.history.StopCause.{StopCause}
use Rattle.oz_search.specs.declared.history.StopCause.TheVariants.{Memory, Fuel, Total}
use Rattle.oz_search.specs.declared.history.Entry.TheVariants.{Leaf, Stop}
use Rattle.oz_search.specs.declared.best.Bounded.{Bounded}
use Rattle.oz_search.specs.declared.best.Costed.{Costed}
use Rattle.oz_search.specs.declared.leaf.Outcome.TheVariants.{Solved}
use Rattle.oz_search.specs.Nodes.{Fuelled}
use Rattle.oz_search.specs.Histories.{IsLegal, IsNothingOpen, IsNothingOut, stop_of, total_of, worker_of}
use Rattle.oz_search.specs.Best.{BestEntry, best, best_of}
use Rattle.oz_semantics.specs.Runs.{Ended, run, opening}
use Rattle.oz_semantics.specs.BestSearch.{script_best}
use Rattle.oz_semantics.specs.declared.configuration.Configuration.{Configuration}
use Rattle.fd_problems.specs.Problems.{Meets}
use Rattle.fd_problems.specs.Optima.{IsOptimum}
use Rattle.fd_form.specs.FdScripts.{answer_text}
use Rattle.fd_form.specs.Costs.{HasCost, HasNoCost}
use Rattle.fd_form.specs.declared.script.FdScript.{FdScript}
use Rattle.oz_replies.specs.declared.cause.Cause.{Cause}
use Rattle.oz_replies.specs.declared.cause.Cause.TheVariants as causes
use Rattle.oz_replies.specs.Replies.{Answer, line, text_limit, too_large_reply, refused_answer}

-- Answers to a program

pub data BestAnswer : Type 0 where
  -- it states no problem with a cost
  NotFd : BestAnswer
  -- the text of the root variable under an assignment, and its cost
  Best : List ℕ → ℤ → BestAnswer
  -- there is no assignment
  NoSolution : BestAnswer
  -- the budget is exceeded: by so many steps in all, of which this history of the search tells
  Spent : ℕ → List BestEntry → BestAnswer

-- of a solution: its text, and its cost
abbrev pub best_lines : List ℕ → ℤ → List ℕ
best_lines text cost = line (codes "best " ++ text) ++ line (codes "cost " ++ integer_text cost)

-- what is written
abbrev pub best_reply : ℕ → BestAnswer → List ℕ
best_reply budget NotFd = line (codes "not fd")
best_reply budget (Best text cost) = best_lines text cost
best_reply budget NoSolution = line (codes "none")
best_reply budget (Spent total entries) = line (codes "spent " ++ decimal budget)

-- A history that exceeds the budget

-- the steps at a stop for want of steps, after these entries: where the claimed node has more own steps than the budget of the search,
-- it counts as one more than that budget
abbrev pub steps_at : ℕ → List BestEntry → StopCause → Option ℕ
steps_at left before Memory = None
steps_at left before Fuel = Some (total_of before + left + 1)
steps_at left before (Total t) = Some t

-- a legal history of the script's best search, by workers of numbers below this, whose last entry stops for want of steps; with the
-- steps of the top these are more than the budget
pub record Exceeds (k : Kernel) (feature : Constant) (top : Configuration) (budget left workers total : ℕ) (entries : List BestEntry) : Type 0 where
  pub legal : IsLegal (script_best k feature top) best left entries
  pub among : (e : BestEntry) → Contains entries e → worker_of e < workers
  pub before : List BestEntry
  pub halt : Halt
  pub ends : entries ≡ before ++ Stop halt ∷ []
  pub steps : ℕ
  pub stops : steps_at left before halt.cause ≡ Some steps
  pub sum : total ≡ budget - left + steps
  pub above : budget < total

-- What a history tells

-- a leaf that is solved, with this text and this cost
abbrev pub solved : List ℕ → ℤ → Costed
solved text cost = record { outcome = Solved text; cost = Some cost }

-- a history has such a leaf
abbrev pub HasSolution : List BestEntry → List ℕ → ℤ → Type 0
HasSolution h text cost = (w : ℕ) × (q : List Bounded) × (s : ℕ) × Contains h (Leaf w q (solved text cost) s)

-- a history ends with a stop for want of steps, of so many in the search
pub record IsStopped (left : ℕ) (h : List BestEntry) (steps : ℕ) : Type 0 where
  pub before : List BestEntry
  pub halt : Halt
  pub ends : h ≡ before ++ Stop halt ∷ []
  pub stops : steps_at left before halt.cause ≡ Some steps

-- a history of a search with so many steps, by workers of numbers below this, that is over: nothing is open and nothing out, or somebody
-- has stopped
pub record IsSearchOf (within : Fuelled Bounded Costed) (left workers : ℕ) (h : List BestEntry) : Type 0 where
  pub legal : IsLegal within best left h
  pub among : (e : BestEntry) → Contains h e → worker_of e < workers
  pub over : (IsNothingOpen best h × IsNothingOut best h) ⊎ ((x : Halt) × (stop_of h ≡ Some x))

-- a history tells this answer: a leaf of the least cost, if nobody stopped and there is a solved one
abbrev pub Tells : ℕ → ℕ → List BestEntry → BestAnswer → Type 0
Tells budget left h NotFd = ⊥
Tells budget left h (Best text cost) = (stop_of h ≡ None) × (best_of h ≡ Some cost) × HasSolution h text cost
Tells budget left h NoSolution = (stop_of h ≡ None) × (best_of h ≡ None)
Tells budget left h (Spent total entries) = (entries ≡ h) × (steps : ℕ) × IsStopped left h steps × (total ≡ budget - left + steps)

-- a history of the script's best search tells it
pub record IsToldOf (k : Kernel) (feature : Constant) (top : Configuration) (budget left workers : ℕ) (answer : BestAnswer) : Type 0 where
  pub history : List BestEntry
  pub search : IsSearchOf (script_best k feature top) left workers history
  pub tells : Tells budget left history answer

-- Which answers are right

-- where the top has come to rest with so much left of the budget, and the cost is the variable at this place, which is the field at this
-- feature
pub data IsFound (p : Program) (s : FdScript) (place : ℕ) (feature : Constant) (top : Configuration) (left workers budget : ℕ) : BestAnswer → Type 0 where
  optimum : (t : List ℤ) → IsOptimum s.problem place t → IsFound p s place feature top left workers budget (Best (answer_text p.words s t) (value t place))
  no_solution : ((t : List ℤ) → Meets s.problem t → ⊥) → IsFound p s place feature top left workers budget NoSolution
  exceeded : (total : ℕ) (entries : List BestEntry) → Exceeds (kernel_of p) feature top budget left workers total entries → IsFound p s place feature top left workers budget (Spent total entries)

-- what is answered to a program
pub record IsBestAnswer (p : Program) (workers budget : ℕ) (answer : BestAnswer) : Type 0 where
  pub not_fd : HasNoCost p → answer ≡ NotFd
  pub found : (s : FdScript) (place : ℕ) (feature : Constant) (top : Configuration) (left : ℕ) → HasCost p s place feature → run (kernel_of p) [] (opening (kernel_of p)) budget ≡ Ended top left
      → IsFound p s place feature top left workers budget answer
  -- with one worker the budget is exceeded wherever a history of that worker exceeds it
  pub alone : workers ≡ 1 → (s : FdScript) (place : ℕ) (feature : Constant) (top : Configuration) (left total : ℕ) (entries : List BestEntry) → HasCost p s place feature
      → run (kernel_of p) [] (opening (kernel_of p)) budget ≡ Ended top left → Exceeds (kernel_of p) feature top budget left 1 total entries
      → (n : ℕ) × (es : List BestEntry) × (answer ≡ Spent n es)

-- what is written where a search is done: the text of an assignment that none betters, and its cost; or that there is no assignment
pub data ShowsOptimum (words : List (List ℕ)) (s : FdScript) (place : ℕ) : List ℕ → Type 0 where
  shows_best : (t : List ℤ) → IsOptimum s.problem place t → ShowsOptimum words s place (best_lines (answer_text words s t) (value t place))
  shows_none : ((t : List ℤ) → Meets s.problem t → ⊥) → ShowsOptimum words s place (line (codes "none"))

-- What is answered to a text: a cause, and what is written. An answer to a program has its cause by `cause_of`, which is `best_cause`
-- for the command.

abbrev pub best_cause : BestAnswer → Cause
best_cause NotFd = causes.NotFd
best_cause (Best text cost) = causes.Done
best_cause NoSolution = causes.Done
best_cause (Spent total entries) = causes.SpentBest total entries

-- by what is right for the text's program
pub record IsTextAnswer (bytes : List ℕ) (gives : Program → Answer → Type 0) (answer : Answer) : Type 0 where
  pub too_large : text_limit < length bytes → answer ≡ (causes.TooLarge (text_limit + 1), too_large_reply)
  pub refused : length bytes ≤ text_limit → (fault : Fault) → IsRefused bytes fault → answer ≡ refused_answer fault
  pub accepted : length bytes ≤ text_limit → (p : Program) → Accepts bytes p → gives p answer

abbrev pub IsBestReply : (BestAnswer → Cause) → ℕ → ℕ → Program → Answer → Type 0
IsBestReply cause_of workers budget p answer = (a : BestAnswer) × IsBestAnswer p workers budget a × (answer ≡ (cause_of a, best_reply budget a))

-- what `best` answers to a text
abbrev pub IsBestText : (BestAnswer → Cause) → List ℕ → ℕ → ℕ → Answer → Type 0
IsBestText cause_of bytes workers budget answer = IsTextAnswer bytes (IsBestReply cause_of workers budget) answer

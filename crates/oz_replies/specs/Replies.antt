-- What the program answers, and with which status it ends.
use Rattle.std.specs.Prelude.{ℕ, ◌+◌, ◌≡◌, ◌<◌, ◌≤◌, nat_le, Bool, true, false, if◌then◌else◌, List, [], ◌∷◌, ◌++◌, Some, None, length, map, count_by, codes}
use Rattle.std.specs.List.{flat_map}
use Rattle.std.specs.Fmt.{decimal}
use Rattle.oz_search.specs.Trees.{Found}
use Rattle.oz_search.specs.declared.leaf.Outcome.{Outcome}
use Rattle.oz_search.specs.declared.leaf.Outcome.TheVariants as outcomes
use Rattle.oz_semantics.specs.Configurations.{view}
use Rattle.oz_semantics.specs.Texts.{Printed, term_text}
use Rattle.oz_semantics.specs.Runs.{Ran, Ended, TopRaised, Over, run, opening}
use Rattle.oz_semantics.specs.Search.{has_script, script_found}
use Rattle.oz_language.specs.Refusals.{Program, Accepts, IsRefused}
use Rattle.oz_language.specs.KernelTexts.{kernel_text}
use Rattle.oz_language.specs.Translation.{statements_of}
use Rattle.oz_language.specs.declared.kernel.Kernel.{Kernel}
use Rattle.oz_semantics.specs.declared.configuration.Configuration.{Configuration}
use Rattle.oz_language.specs.declared.fault.RefusalKind.{RefusalKind}
use Rattle.oz_language.specs.declared.fault.RefusalKind.TheVariants.{Byte, Deep, Syntax, Unbound, Linear}
use Rattle.oz_language.specs.declared.fault.Fault.{Fault}
use Rattle.oz_replies.specs.declared.cause.Cause.{Cause}
use Rattle.oz_replies.specs.declared.cause.Cause.TheVariants as causes

abbrev pub line : List ℕ → List ℕ
line text = text ++ 10 ∷ []

-- Leaves

-- K is the number of the leaf; of a failed node nothing is written
abbrev pub leaf_line : ℕ → Outcome → List ℕ
leaf_line k (outcomes.Solved text) = line (codes "solved " ++ decimal k ++ codes " " ++ text)
leaf_line k (outcomes.Stuck text) = line (codes "stuck " ++ decimal k ++ codes " " ++ text)
leaf_line k (outcomes.Raised text) = line (codes "raised " ++ decimal k ++ codes " " ++ text)
leaf_line k outcomes.Suspended = line (codes "suspended " ++ decimal k)
leaf_line k outcomes.Failed = []

-- a line for each leaf, numbered from k
abbrev pub leaf_lines : ℕ → List Outcome → List ℕ
leaf_lines k [] = []
leaf_lines k (leaf ∷ leaves) = leaf_line k leaf ++ leaf_lines (k + 1) leaves

-- which of the four totals a leaf counts in: solved, stuck, raised, suspended
abbrev pub is_solved : Outcome → Bool
is_solved (outcomes.Solved text) = true
is_solved (outcomes.Stuck text) = false
is_solved (outcomes.Raised text) = false
is_solved outcomes.Suspended = false
is_solved outcomes.Failed = false

abbrev pub is_stuck : Outcome → Bool
is_stuck (outcomes.Stuck text) = true
is_stuck (outcomes.Solved text) = false
is_stuck (outcomes.Raised text) = false
is_stuck outcomes.Suspended = false
is_stuck outcomes.Failed = false

abbrev pub is_raised : Outcome → Bool
is_raised (outcomes.Raised text) = true
is_raised (outcomes.Solved text) = false
is_raised (outcomes.Stuck text) = false
is_raised outcomes.Suspended = false
is_raised outcomes.Failed = false

abbrev pub is_suspended : Outcome → Bool
is_suspended outcomes.Suspended = true
is_suspended (outcomes.Solved text) = false
is_suspended (outcomes.Stuck text) = false
is_suspended (outcomes.Raised text) = false
is_suspended outcomes.Failed = false

abbrev pub total : (Outcome → Bool) → List Outcome → List ℕ
total test leaves = decimal (count_by test leaves)

abbrev pub total_line : List Outcome → List ℕ
total_line leaves =
    line (codes "total solved=" ++ total is_solved leaves ++ codes " stuck=" ++ total is_stuck leaves
    ++ codes " raised=" ++ total is_raised leaves ++ codes " suspended=" ++ total is_suspended leaves)

-- what a search that found these leaves writes
unfoldable pub leaves_reply : List Outcome → List ℕ
leaves_reply leaves = leaf_lines 1 leaves ++ total_line leaves

-- Answers: a cause and what is written

abbrev pub Answer : Type 0
Answer = Cause × List ℕ

-- a line for each text that was shown
abbrev pub shown_lines : Configuration → List ℕ
shown_lines c = flat_map line c.shown

-- what was shown stays in front
abbrev pub spent : List ℕ → ℕ → Answer
spent shown budget = (causes.Spent budget, shown ++ line (codes "spent " ++ decimal budget))

abbrev pub answer_of_tree : List ℕ → ℕ → Found (List ℕ × Outcome) → Answer
answer_of_tree shown budget None = spent shown budget
answer_of_tree shown budget (Some found) = (causes.Done, shown ++ leaves_reply (map (λ (leaf : List ℕ × Outcome). leaf.1) found.0))

-- an exception of the top, whose text has to fit into the budget too
abbrev pub answer_of_raise : List ℕ → ℕ → ℕ → Printed → Answer
answer_of_raise shown budget left printed =
    if nat_le printed.nodes left then (causes.Raised printed.bytes, shown ++ line (codes "raised " ++ printed.bytes)) else spent shown budget

-- the tree of the script, where there is one
abbrev pub searched : Kernel → ℕ → Configuration → ℕ → Answer
searched k budget c left =
    if has_script c then answer_of_tree (shown_lines c) budget (script_found k c left)
    else (causes.NoScript, shown_lines c ++ line (codes "no script"))

-- with what follows where the top has come to rest
abbrev pub answer_of_top : Kernel → (Configuration → ℕ → Answer) → ℕ → Ran → Answer
answer_of_top k rest budget (TopRaised c left exception) =
    answer_of_raise (shown_lines c) budget left (term_text k.words (view c.layers []) exception)
answer_of_top k rest budget (Over c) = spent (shown_lines c) budget
answer_of_top k rest budget (Ended c left) = rest c left

-- what `all` answers for a kernel: the top runs until it is quiescent, and then the tree of its script is searched
unfoldable pub all_answer : Kernel → ℕ → Answer
all_answer k budget = answer_of_top k (searched k budget) budget (run k [] (opening k) budget)

-- what `run` answers: what the top has shown
unfoldable pub run_answer : Kernel → ℕ → Answer
run_answer k budget = answer_of_top k (λ c left. (causes.Done, shown_lines c)) budget (run k [] (opening k) budget)

-- what `kernel` answers: the program's kernel as a text
abbrev pub kernel_answer : Program → Answer
kernel_answer p = (causes.Done, kernel_text p.words (statements_of p))

-- The top of a kernel becomes quiescent with a script, and the search of its tree finds this with what is left of the budget.
pub record Searches (k : Kernel) (budget : ℕ) (found : Found (List ℕ × Outcome)) : Type 0 where
  pub top : Configuration
  pub left : ℕ
  pub ended : run k [] (opening k) budget ≡ Ended top left
  pub script : has_script top ≡ true
  pub searched : script_found k top left ≡ found

-- Texts

-- a text has at most so many bytes
abbrev pub text_limit : ℕ
text_limit = 1048576

abbrev pub usage_reply : List ℕ
usage_reply = line (codes "usage")

abbrev pub too_large_reply : List ℕ
too_large_reply = line (codes "too large")

abbrev pub kind_text : RefusalKind → List ℕ
kind_text Byte = codes "byte"
kind_text Deep = codes "deep"
kind_text Syntax = codes "syntax"
kind_text Unbound = codes "unbound"
kind_text Linear = codes "linear"

abbrev pub refused_reply : Fault → List ℕ
refused_reply fault = line (codes "refused " ++ kind_text fault.kind ++ codes " " ++ decimal fault.at)

abbrev pub refused_answer : Fault → Answer
refused_answer fault = (causes.Refused fault, refused_reply fault)

-- What a command answers to a text, by what it answers for a program
pub record IsTextReply (bytes : List ℕ) (answer_to : Program → Answer) (answer : Answer) : Type 0 where
  pub too_large : text_limit < length bytes → answer ≡ (causes.TooLarge (text_limit + 1), too_large_reply)
  pub refused : length bytes ≤ text_limit → (fault : Fault) → IsRefused bytes fault → answer ≡ refused_answer fault
  pub accepted : length bytes ≤ text_limit → (p : Program) → Accepts bytes p → answer ≡ answer_to p

-- The status of a cause
abbrev pub status_of : Cause → ℕ
status_of causes.Done = 0
status_of (causes.Raised text) = 1
status_of causes.Usage = 2
status_of (causes.Refused fault) = 3
status_of causes.ReadFault = 4
status_of causes.WriteFault = 5
status_of (causes.Spent total) = 6
status_of (causes.SpentBest total entries) = 6
status_of causes.NoMemory = 7
status_of (causes.TooLarge count) = 8
status_of causes.NoScript = 9
status_of causes.NotFd = 10

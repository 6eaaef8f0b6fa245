-- What the commands answer where the top has ended, and what the search of a script comes to.
use Rattle.std.proofs.Common.{◌≡◌, ℕ, true, cond, List, [], ◌++◌, Option, Some, None, codes, refl, sym, ap, ◌∙◌}
use Rattle.oz_base.specs.declared.names.Ident.{Ident}
use Rattle.oz_language.specs.declared.kernel.Kernel.{Kernel}
use Rattle.oz_search.specs.Trees.{Found, in_steps}
use Rattle.oz_search.specs.declared.leaf.Outcome.{Outcome}
use Rattle.search_law.specs.NodeLaw.{leaves_alone}
use Rattle.oz_semantics.specs.Configurations.{view}
use Rattle.oz_semantics.specs.Texts.{term_text}
use Rattle.oz_semantics.specs.Runs.{Ended, TopRaised, Over, run, opening}
use Rattle.oz_semantics.specs.Search.{has_script, search_space, with_root, script_variable, script_found}
use Rattle.oz_semantics.specs.declared.configuration.Configuration.{Configuration}
use Rattle.machine_search.specs.Visits.{found_below, leaves_of}
use Rattle.machine_search.proofs.SpaceLaws.{script_law}
use Rattle.oz_replies.specs.Replies.{Answer, line, shown_lines, spent, answer_of_tree, answer_of_raise, searched, answer_of_top, all_answer, run_answer}
use Rattle.oz_replies.specs.declared.cause.Cause.TheVariants as causes
use Rattle.call_laws.specs.Call.{answer_of_leaves}

-- The tree of the script

alone_of : (shown : List ℕ) (budget : ℕ) (o : Found (List ℕ × Outcome)) → answer_of_tree shown budget o ≡ answer_of_leaves shown budget (leaves_of (leaves_alone o))
alone_of shown budget None = refl
alone_of shown budget (Some found) = refl

steps_of : (fuel : ℕ) (o : Found Outcome) → leaves_of (in_steps fuel o) ≡ leaves_of o
steps_of fuel None = refl
steps_of fuel (Some found) = refl

-- the leaves of the traversal over configurations are those of the script
script_answer : (k : Kernel) (c : Configuration) (shown : List ℕ) (budget fuel : ℕ)
    → answer_of_leaves shown budget (leaves_of (found_below k (search_space c) (with_root k.statements script_variable c) fuel)) ≡ answer_of_tree shown budget (script_found k c fuel)
script_answer k c shown budget fuel =
    sym (alone_of shown budget (script_found k c fuel)
    ∙ ap (λ (o : Found Outcome). answer_of_leaves shown budget (leaves_of o)) (script_law k c fuel)
    ∙ ap (answer_of_leaves shown budget) (steps_of fuel (found_below k (search_space c) (with_root k.statements script_variable c) fuel)))

-- the tree of the script is searched
pub script_searched : (k : Kernel) (c : Configuration) (budget left : ℕ) (x : Ident) → has_script c ≡ true → x ≡ script_variable
    → ◌≡◌ {A = Answer} (answer_of_leaves (shown_lines c) budget (leaves_of (found_below k (search_space c) (with_root k.statements x c) left))) (searched k budget c left)
script_searched k c budget left x has is =
    ap (λ (y : Ident). answer_of_leaves (shown_lines c) budget (leaves_of (found_below k (search_space c) (with_root k.statements y c) left))) is
    ∙ script_answer k c (shown_lines c) budget left
    ∙ ap (λ b. cond b (answer_of_tree (shown_lines c) budget (script_found k c left)) (causes.NoScript, shown_lines c ++ line (codes "no script"))) (sym has)

-- the same, by what was found
pub script_planned : (k : Kernel) (c : Configuration) (budget left : ℕ) (x : Ident) (shown : List ℕ) (found : Option (List Outcome)) → has_script c ≡ true → x ≡ script_variable
    → shown ≡ shown_lines c → found ≡ leaves_of (found_below k (search_space c) (with_root k.statements x c) left) → ◌≡◌ {A = Answer} (answer_of_leaves shown budget found) (searched k budget c left)
script_planned k c budget left x shown found has is before e = (λ i. answer_of_leaves (before i) budget (e i)) ∙ script_searched k c budget left x has is

-- What `all` answers where the budget does not suffice for the top, where an exception ends it, and where it comes to rest

pub all_over : (k : Kernel) (budget : ℕ) (c : Configuration) → run k [] (opening k) budget ≡ Over c → spent (shown_lines c) budget ≡ all_answer k budget
unfolding all_answer
all_over k budget c r = ap (answer_of_top k (searched k budget) budget) (sym r)

pub all_raised : (k : Kernel) (budget left : ℕ) (c : Configuration) (x : Ident) → run k [] (opening k) budget ≡ TopRaised c left x
    → answer_of_raise (shown_lines c) budget left (term_text k.words (view c.layers []) x) ≡ all_answer k budget
unfolding all_answer
all_raised k budget left c x r = ap (answer_of_top k (searched k budget) budget) (sym r)

pub all_ended : (k : Kernel) (budget left : ℕ) (c : Configuration) → run k [] (opening k) budget ≡ Ended c left → searched k budget c left ≡ all_answer k budget
unfolding all_answer
all_ended k budget left c r = ap (answer_of_top k (searched k budget) budget) (sym r)

-- and `run`
abbrev shown_alone : Configuration → ℕ → Answer
shown_alone c left = (causes.Done, shown_lines c)

pub run_over : (k : Kernel) (budget : ℕ) (c : Configuration) → run k [] (opening k) budget ≡ Over c → spent (shown_lines c) budget ≡ run_answer k budget
unfolding run_answer
run_over k budget c r = ap (answer_of_top k shown_alone budget) (sym r)

pub run_raised : (k : Kernel) (budget left : ℕ) (c : Configuration) (x : Ident) → run k [] (opening k) budget ≡ TopRaised c left x
    → answer_of_raise (shown_lines c) budget left (term_text k.words (view c.layers []) x) ≡ run_answer k budget
unfolding run_answer
run_raised k budget left c x r = ap (answer_of_top k shown_alone budget) (sym r)

pub run_ended : (k : Kernel) (budget left : ℕ) (c : Configuration) → run k [] (opening k) budget ≡ Ended c left → ◌≡◌ {A = Answer} (causes.Done, shown_lines c) (run_answer k budget)
unfolding run_answer
run_ended k budget left c r = ap (answer_of_top k shown_alone budget) (sym r)

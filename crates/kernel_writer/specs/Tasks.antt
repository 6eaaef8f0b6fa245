-- What is left to be done, and what it comes to.
use Rattle.std.specs.Prelude.{ℕ, Option, Some, None, List, [], ◌∷◌, ◌++◌, length}
use Rattle.oz_language.specs.Grammar.{Phrase, Phrases, nothing, more, of_list}
use Rattle.oz_language.specs.Kernels.{none, just, ◌⨾◌, numbers_each}
use Rattle.oz_language.specs.Kernels as k
use Rattle.oz_language.specs.Translation.{Made, made, Goal, variable_of, next_after, Alternatives, products_of, posted, behind_side, declared, translated, translated_each, valued_last, filled, list_made, chain_made, references, alternatives, arms_made, clauses_made, handled}
use Rattle.oz_language.specs.declared.kernel.Identifier.{Identifier}
use Rattle.oz_language.specs.declared.kernel.Statement.{Statement}
use Rattle.oz_language.specs.declared.kernel.Statement.TheVariants as numbered
use Rattle.oz_syntax.specs.View.{view, views}
use Rattle.oz_syntax.specs.declared.phrase.Phrase.{Phrase as Tree}
use Rattle.std.specs.Borrow.{Bor}
use Rattle.kernel_writer.specs.declared.goals.Goal.TheVariants as goal
use Rattle.kernel_writer.specs.declared.tasks.Task.{Task}
use Rattle.kernel_writer.specs.declared.tasks.Task.TheVariants as task
use Rattle.kernel_writer.specs.declared.tasks.Last.{Last}
use Rattle.kernel_writer.specs.declared.tasks.Last.TheVariants as last
use Rattle.kernel_writer.specs.declared.tasks.Closing.{Closing}
use Rattle.kernel_writer.specs.declared.tasks.Closing.TheVariants as closing
use Rattle.kernel_output.specs.declared.output.Output.{Output}
use Rattle.kernel_writer.specs.declared.writer.Writer.{Writer}
use Rattle.kernel_writer.specs.Goals.{goal_of}
use Rattle.kernel_output.specs.Outputs.{with_statement, with_all, with_bodies, opened}

-- how far the translation is: what is written, the bodies that go on later, the innermost first, and the next number
pub record State : Type 0 where
  pub output : Output
  pub outer : List (List ℕ)
  pub next : ℕ

abbrev pub state_of : Writer → State
state_of w = record { output = w.output; outer = w.outer; next = w.numbers.next }

-- statements are written
abbrev pub written : State → Made → State
written s m = record { output = with_all s.output m.code; outer = s.outer; next = m.next }

-- one statement is, with nothing inside it
abbrev pub added : State → Statement → State
added s st = record { output = with_statement s.output st; outer = s.outer; next = s.next }

-- a body is begun
abbrev pub begun : State → State
begun s = record { output = opened s.output; outer = s.output.body ∷ s.outer; next = s.next }

-- the identifier of a part is numbered
abbrev pub numbered_behind : State → Phrase → State
numbered_behind s p = record { output = s.output; outer = s.outer; next = next_after s.next (variable_of p) }

-- a body ends, and its statement goes behind the body around it
abbrev pub one_closed : (List ℕ → Statement) → List (List ℕ) → State → State
one_closed make [] s = s
one_closed make (o ∷ os) s =
    record { output = with_statement (record { statements = s.output.statements; body = o }) (make s.output.body); outer = os; next = s.next }

-- and so do two
abbrev pub two_closed : (List ℕ → List ℕ → Statement) → List (List ℕ) → State → State
two_closed make (b ∷ o ∷ os) s =
    record { output = with_statement (record { statements = s.output.statements; body = o }) (make b s.output.body); outer = os; next = s.next }
two_closed make os s = s

abbrev pub closed : Closing → State → State
closed (closing.Local xs) s = one_closed (numbered.Local xs) s.outer s
closed (closing.Procedure x xs) s = one_closed (numbered.BindProcedure x xs) s.outer s
closed closing.Thread s = one_closed numbered.Thread s.outer s
closed (closing.If x) s = two_closed (numbered.If x) s.outer s
closed (closing.Case x p) s = two_closed (numbered.Case x p) s.outer s
closed (closing.Try x) s = two_closed (λ b h. numbered.Try b x h) s.outer s

-- what a chain of tests goes on with
abbrev pub last_made : List (List ℕ) → Goal → Last → ℕ → Made
last_made words goal last.Skip n = made (just k.skip) n
last_made words goal last.NoMatch n = made (just k.no_match) n
last_made words goal (last.Raise y) n = made (just (k.raise y)) n
last_made words goal (last.Phrase p) n = translated words goal n (view p.now)

-- a choice whose first bodies are written
abbrev pub chosen : State → List (List ℕ) → Alternatives → State
chosen s bs a =
    record { output = with_statement (with_bodies s.output a.bodies) (numbered.Choice (bs ++ numbers_each (length s.output.statements) a.bodies)); outer = s.outer; next = a.next }

-- no further ones
abbrev pub no_alternatives : ℕ → Alternatives
no_alternatives n = record { bodies = k.no_body; next = n }

-- a body ends that is one of a choice
abbrev pub gathered : List (List ℕ) → (State → List (List ℕ) → State) → List (List ℕ) → State → State
gathered bs rest [] s = s
gathered bs rest (o ∷ os) s =
    rest (record { output = record { statements = s.output.statements; body = o }; outer = os; next = s.next }) (bs ++ s.output.body ∷ [])

-- what comes of a task
abbrev pub done : List (List ℕ) → Task → State → State
done words (task.Phrase goal p) s = written s (translated words (goal_of goal) s.next (view p.now))
done words (task.Each ps) s = written s (translated_each words s.next (of_list (views ps.now)))
done words (task.ValuedLast x ps) s = written s (valued_last words x (of_list (views ps.now)) s.next)
done words (task.Filled names ps) s = written s (filled words names.next (of_list (views ps.now)) s.next)
done words (task.List x es) s = written s (list_made words x (of_list (views es.now)) s.next)
done words (task.Chain x es) s = written s (chain_made words x (of_list (views es.now)) s.next)
done words (task.References names a) s = written s (references words names.next (view a.now) s.next)
done words (task.Relation r names a b) s =
    written s (made ((products_of names.next (view a.now) ⨾ products_of (behind_side names.next (view a.now)) (view b.now)) ⨾ just (posted r names.next (view a.now) (view b.now))) s.next)
done words (task.Arms goal xs last) s = written s (arms_made words (goal_of goal) (of_list (views xs.now)) (last_made words (goal_of goal) last) s.next)
done words (task.Clauses goal x cs last) s = written s (clauses_made words (goal_of goal) x (of_list (views cs.now)) (last_made words (goal_of goal) last) s.next)
done words (task.Handled cs) s = written s (handled words (of_list (views cs.now)) s.next)
done words (task.Alternatives goal bs ps) s = chosen s bs (alternatives words (goal_of goal) s.next (of_list (views ps.now)))
done words (task.Gather goal bs ps) s = gathered bs (λ q cs. chosen q cs (alternatives words (goal_of goal) q.next (of_list (views ps.now)))) s.outer s
done words (task.Statement st) s = added s st
done words task.Begin s = begun s
done words (task.Close c) s = closed c s

abbrev pub all_done : List (List ℕ) → List Task → State → State
all_done words [] s = s
all_done words (t ∷ ts) s = all_done words ts (done words t s)

-- what a writer comes to, with what it has left to do
abbrev pub outcome : List (List ℕ) → Writer → State
outcome words w = all_done words w.tasks (state_of w)

-- and with statements that are written before that
abbrev pub outcome_with : List (List ℕ) → Writer → Made → State
outcome_with words w m = all_done words w.tasks (written (state_of w) m)

-- Scopes

-- the scope of identifiers is begun where there are some, and it ends
abbrev pub scope_begun : List Identifier → State → State
scope_begun [] s = s
scope_begun (x ∷ xs) s = begun s

abbrev pub ending : List Identifier → List Task → List Task
ending [] ts = ts
ending (x ∷ xs) ts = task.Close (closing.Local (x ∷ xs)) ∷ ts

-- declarations have one too
abbrev pub declarations_begun : Phrases → State → State
declarations_begun nothing s = s
declarations_begun (more d ds) s = begun s

abbrev pub declarations_ending : Phrases → List Task → List Task
declarations_ending nothing ts = ts
declarations_ending (more d ds) ts = task.Close (closing.Local (declared [] (more d ds))) ∷ ts

-- a part that is no variable is written
abbrev pub filling : Identifier → Option Identifier → Bor Tree → List Task → List Task
filling x (Some y) p ts = ts
filling x None p ts = task.Phrase (goal.Value x) p ∷ ts

-- and the tail of a chain
abbrev pub chain_tail : Identifier → Option Identifier → Bor (List Tree) → List Task → List Task
chain_tail z (Some t) ps ts = ts
chain_tail z None ps ts = task.Chain z ps ∷ ts

-- what is called, once its parts are written
abbrev pub calling : List Identifier → List Task → List Task
calling [] ts = ts
calling (x ∷ xs) ts = task.Statement (numbered.Call x xs) ∷ ts

-- statements, or `skip`
abbrev pub standing : Phrases → Bor (List Tree) → Task
standing nothing ps = task.Statement numbered.Skip
standing (more e es) ps = task.Each ps

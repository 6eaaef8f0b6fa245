-- What a writer comes to, by what it has left to do.
use Rattle.std.proofs.Common.{◌≡◌, ℕ, List, ◌∷◌, ap, ◌∙◌}
use Rattle.std.specs.Borrow.{Bor}
use Rattle.oz_language.specs.Kernels.{Stmts}
use Rattle.oz_language.specs.Translation.{made, variable_of}
use Rattle.oz_language.specs.declared.kernel.Identifier.{Identifier}
use Rattle.oz_language.specs.declared.kernel.Statement.{Statement}
use Rattle.oz_syntax.specs.View.{view}
use Rattle.oz_syntax.specs.declared.phrase.Phrase.{Phrase as Tree}
use Rattle.kernel_output.specs.Outputs.{with_statement, with_all}
use Rattle.kernel_output.specs.declared.output.Output.{Output}
use Rattle.kernel_writer.specs.Tasks.{State, state_of, written, added, all_done, outcome, filling}
use Rattle.kernel_writer.specs.declared.tasks.Task.{Task}
use Rattle.kernel_writer.specs.declared.writer.Writer.{Writer}

-- a writer's outcome, by its tasks and its state
pub outcome_by : (words : List (List ℕ)) (w : Writer) {ts : List Task} {s t : State} → all_done words ts s ≡ t → w.tasks ≡ ts → state_of w ≡ s → outcome words w ≡ t
outcome_by words w {ts} {s} {t} h et es = ap (λ q. all_done words q (state_of w)) et ∙ ap (all_done words ts) es ∙ h

-- the tasks of a writer, one put in front of others after another
pub put_on : {t : Task} {ts us vs : List Task} → ts ≡ t ∷ us → us ≡ vs → ts ≡ t ∷ vs
put_on {t} e d = e ∙ ap (λ q. t ∷ q) d

pub put_as : {t u : Task} {ts us vs : List Task} → ts ≡ t ∷ us → t ≡ u → us ≡ vs → ts ≡ u ∷ vs
put_as {t} {u} {ts} {us} {vs} e h d = e ∙ ap (λ q. t ∷ q) d ∙ ap (λ q. q ∷ vs) h

pub fill_on : (x : Identifier) (p : Bor Tree) {ts us vs : List Task} → ts ≡ filling x (variable_of (view p.now)) p us → us ≡ vs → ts ≡ filling x (variable_of (view p.now)) p vs
fill_on x p e d = e ∙ ap (filling x (variable_of (view p.now)) p) d

-- a state whose output is written to
pub wrote : {o : Output} (s : State) (ss : Stmts) → o ≡ with_all s.output ss → record { output = o; outer = s.outer; next = s.next } ≡ written s (made ss s.next)
wrote s ss e = ap (λ o. record { output = o; outer = s.outer; next = s.next }) e

pub added_by : {o : Output} (s : State) (st : Statement) → o ≡ with_statement s.output st → record { output = o; outer = s.outer; next = s.next } ≡ added s st
added_by s st e = ap (λ o. record { output = o; outer = s.outer; next = s.next }) e

-- where the next number is another
abbrev pub numbered_to : State → ℕ → State
numbered_to s n = record { output = s.output; outer = s.outer; next = n }

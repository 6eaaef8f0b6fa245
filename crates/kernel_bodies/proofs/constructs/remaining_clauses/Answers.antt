use Rattle.kernel_writer.specs.Tasks.{state_of, written, all_done, last_made}
use Rattle.kernel_writer.specs.Goals.{goal_of}
use Rattle.oz_syntax.specs.View.{view, views}
use Rattle.oz_language.specs.Grammar.{of_list}
use Rattle.oz_language.specs.Translation.{clauses_made}
use Rattle.std.proofs.Common.{ap, sym, ◌∙◌}
use Rattle.kernel_bodies.proofs.Cases.{clauses_first}
use Rattle.kernel_bodies.proofs.constructs.remaining_clauses.Goals as goal

pub returns : goal.returns
returns c =
    let w = c.args.writer.now in
    let words = c.args.words.now in
    let last = last_made words (goal_of c.args.goal) c.args.last in
    c.in_ok-first_clause.ensures
    ∙ ap (λ m. all_done words w.tasks (written (state_of w) m))
    (sym (clauses_first words (goal_of c.args.goal) c.args.subject (view c.in-Some.clause.now) (of_list (views c.in-Some.others.now)) last w.numbers.next)
    ∙ ap (λ q. clauses_made words (goal_of c.args.goal) c.args.subject q last w.numbers.next) (sym c.in-Some.ensures))

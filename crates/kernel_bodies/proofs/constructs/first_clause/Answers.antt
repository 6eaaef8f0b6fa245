use Rattle.kernel_writer.specs.Tasks.{state_of}
use Rattle.oz_syntax.specs.View.{view, view_step}
use Rattle.std.proofs.Common.{ap, ◌∙◌, ◌∷◌, ◌≡◌}
use Rattle.kernel_bodies.proofs.Building.{clause_law}
use Rattle.oz_language.specs.Grammar.{clause, Phrase}
use Rattle.oz_syntax.specs.declared.phrase.Phrase.TheFolds.{fold-roll-Phrase}
use Rattle.oz_syntax.specs.declared.phrase.Phrase.TheOpen.{Phrase-F}
use Rattle.kernel_writer.specs.declared.tasks.Task.TheVariants as task
use Rattle.kernel_writer.specs.declared.tasks.Closing.TheVariants as closing
use Rattle.kernel_bodies.proofs.constructs.first_clause.Goals as goal

pub returns-in_ok-put_clause-in-Clause : goal.returns-in_ok-put_clause-in-Clause
unfolding Rattle.oz_syntax.specs.declared.phrase.Phrase.TheViews.roll-Phrase denote.Hole.Carrier.roll
returns-in_ok-put_clause-in-Clause c =
    let w = c.args.writer.now in
    let words = c.args.words.now in
    let p = view c.deref.result.now in
    let b = c.deref-in-Clause.result in
    let seen : view c.args.clause.now ≡ clause p (view b.now) =
    rw (c.deref.ensures, c.deref-in-Clause.ensures) (ap view c.in-Clause.is ∙ fold-roll-Phrase Phrase view_step (Phrase-F.Clause c.in-Clause.pattern c.in-Clause.body)) in
    rw seen
    (clause_law words c.put_clause.new.writer c.args.goal c.args.subject p b c.args.clauses c.args.last w.tasks (state_of w)
    (c.in_ok-put_clause-in-Clause.ensures.tasks
    ∙ ap (λ q. task.Phrase c.args.goal b ∷ task.Begin ∷ task.Clauses c.args.goal c.args.subject c.args.clauses c.args.last ∷ task.Close (closing.Case c.args.subject q) ∷ w.tasks) c.in_ok-nodes-in-Clause.ensures)
    c.in_ok-put_clause-in-Clause.ensures.state)

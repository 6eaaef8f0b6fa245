use Rattle.kernel_writer.specs.Tasks.{state_of, scope_begun, ending}
use Rattle.oz_syntax.specs.View.{view}
use Rattle.oz_language.specs.Translation.{behind_side}
use Rattle.std.proofs.Common.{ap, refl, ◌∙◌}
use Rattle.kernel_writer.proofs.Outcomes.{put_on, numbered_to}
use Rattle.kernel_trans.proofs.Building.{relate_law}
use Rattle.kernel_trans.proofs.statements.relate.Goals as goal

pub returns : goal.returns
returns c words =
    let w = c.args.writer.now in
    relate_law words c.put-3.new.self c.args.comparison w.numbers c.in_ok-behind.behind c.in_ok-last.last c.args.left c.args.right w.tasks (state_of w)
    refl c.in_ok-behind.ensures (c.in_ok-last.ensures ∙ ap (λ n. behind_side n (view c.args.right.now)) c.in_ok-behind.ensures)
    (put_on c.in_ok-put-3.ensures.tasks (put_on c.in_ok-put-2.ensures.tasks (put_on c.in_ok-put.ensures.tasks (c.in_ok-begin_scope.ensures.tasks ∙ ap (λ q. ending q w.tasks) c.in_ok-fresh.ensures))))
    (c.in_ok-put-3.ensures.state ∙ c.in_ok-put-2.ensures.state ∙ c.in_ok-put.ensures.state ∙ c.in_ok-begin_scope.ensures.state ∙ ap (λ q. scope_begun q (numbered_to (state_of w) c.in_ok-last.last.next)) c.in_ok-fresh.ensures)

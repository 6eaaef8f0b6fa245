use Rattle.std.proofs.Common.{◌≡◌, subst}
use Rattle.std.specs.Prelude.{IfOk}
use Rattle.oz_replies.specs.Replies.{Answer}
use Rattle.call_laws.proofs.TopLaws.{script_planned}
use Rattle.command_answers.proofs.answers.searched.Goals as goal

pub returns-in_ok-found-in-Some : goal.returns-in_ok-found-in-Some
returns-in_ok-found-in-Some g c =
    let m = c.args.machine in
    subst (λ (a : Answer). IfOk c.plan_leaves.result (λ plan. ◌≡◌ {A = Answer} (plan.cause, plan.reply.items) a))
    (script_planned m.kernel m.config c.args.budget c.args.left c.in-Some.script _ _ c.in-Some.ensures.0 c.in-Some.ensures.1 c.in_ok-reply-in-Some.ensures c.in_ok-found-in-Some.ensures)
    c.plan_leaves.ensures

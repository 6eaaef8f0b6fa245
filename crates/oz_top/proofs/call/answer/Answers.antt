use Rattle.std.proofs.Common.{◌∙◌, ap}
use Rattle.std.proofs.lemmas.Result.{IfOk-weaker}
use Rattle.oz_replies.specs.Replies.{refused_answer}
use Rattle.call_laws.proofs.Answering.{refused_gives, refused_due, accepted_gives, accepted_due}
use Rattle.oz_top.proofs.call.answer.Goals as goal

pub returns-in-Ok-clause-gives : goal.returns-in-Ok-clause-gives
returns-in-Ok-clause-gives g c =
    IfOk-weaker c.answer_for.result _ _ (λ plan e. accepted_gives c.args.text.now c.args.command c.in-Ok.program plan.cause plan.reply.items c.in-Ok.ensures.accepted e)
    c.answer_for.ensures

pub returns-in-Ok-clause-due : goal.returns-in-Ok-clause-due
returns-in-Ok-clause-due g c =
    IfOk-weaker c.answer_for.result _ _ (λ plan e. accepted_due c.args.text.now c.args.command c.in-Ok.program (plan.cause, plan.reply.items) c.in-Ok.ensures.only c.in-Ok.ensures.unrefused e)
    c.answer_for.ensures

pub returns-in-Err-Refused-clause-gives : goal.returns-in-Err-Refused-clause-gives
returns-in-Err-Refused-clause-gives g c =
    let h = rw c.in-Err-Refused.field-0-is at c.in-Err-Refused.ensures.refused in
    IfOk-weaker c.refused.result _ _ (λ plan e. refused_gives c.args.text.now c.args.command c.in-Err-Refused.fault plan.cause plan.reply.items h.refused (e ∙ ap refused_answer c.in-Err-Refused.fault-is)) c.refused.ensures

pub returns-in-Err-Refused-clause-due : goal.returns-in-Err-Refused-clause-due
returns-in-Err-Refused-clause-due g c =
    let h = rw c.in-Err-Refused.field-0-is at c.in-Err-Refused.ensures.refused in
    IfOk-weaker c.refused.result _ _ (λ plan e. refused_due c.args.text.now c.args.command c.in-Err-Refused.fault (plan.cause, plan.reply.items) h.only h.unaccepted (e ∙ ap refused_answer c.in-Err-Refused.fault-is)) c.refused.ensures

use Rattle.std.proofs.Common.{◌≤◌, ap, subst, Err, List, ℕ, length, arith}
use Rattle.oz_replies.specs.Replies.{text_limit}
use Rattle.call_laws.specs.Call.{TextGives, AsText}
use Rattle.call_laws.proofs.Answering.{plans_text, due_text, read_text, plans_large, due_large, read_large}
use Rattle.oz_top.proofs.call.plan_command.Goals as goal

pub returns-in-Ok-clause-plans : goal.returns-in-Ok-clause-plans
returns-in-Ok-clause-plans g c words w =
    let e = c.in-Ok.ensures in
    let fits : length c.in-Ok.text.items ≤ text_limit = omega arith in
    plans_text words (record { left = g.S.Source.left c.args.source.now; faults = g.S.Source.faults c.args.source.now }) (record { left = g.S.Source.left c.read_all.new.source; faults = g.S.Source.faults c.read_all.new.source })
    c.in-Ok.text.items c.args.command c.plan_text.result.cause c.plan_text.result.reply.items w
    (record { read = e.all.0; ended = e.all.1; fits = fits })
    (subst (λ (xs : List ℕ). TextGives xs c.args.command c.plan_text.result.cause c.plan_text.result.reply.items) c.as_slice.ensures.value c.plan_text.ensures.gives)

pub returns-in-Ok-clause-due : goal.returns-in-Ok-clause-due
returns-in-Ok-clause-due g c words bytes w told =
    let e = c.in-Ok.ensures in
    let fits : length c.in-Ok.text.items ≤ text_limit = omega arith in
    due_text words bytes c.in-Ok.text.items c.args.command _ _ (c.plan_text.result.cause, c.plan_text.result.reply.items) w told e.all.0 e.all.1 fits
    (subst (λ (xs : List ℕ). AsText xs c.args.command (c.plan_text.result.cause, c.plan_text.result.reply.items)) c.as_slice.ensures.value c.plan_text.ensures.due)

pub returns-in-Ok-clause-read : goal.returns-in-Ok-clause-read
returns-in-Ok-clause-read g c bytes told =
    let e = c.in-Ok.ensures in
    let fits : length c.in-Ok.text.items ≤ text_limit = omega arith in
    read_text bytes c.in-Ok.text.items _ _ c.plan_text.result.cause told e.all.0 e.all.1 fits

pub returns-in-Err-TooLarge-clause-read : goal.returns-in-Err-TooLarge-clause-read
returns-in-Err-TooLarge-clause-read g c bytes told =
    let long = c.in-Err-TooLarge.ensures.too_large (ap Err c.in-Err-TooLarge.field-0-is) in
    read_large bytes long.0 _ _ c.plan_too_large.result.cause told long.1 long.2

pub returns-in-Err-TooLarge-clause-plans : goal.returns-in-Err-TooLarge-clause-plans
returns-in-Err-TooLarge-clause-plans g c words w =
    let long = c.in-Err-TooLarge.ensures.too_large (ap Err c.in-Err-TooLarge.field-0-is) in
    plans_large words _ _ c.args.command c.plan_too_large.result.cause c.plan_too_large.result.reply.items w long c.plan_too_large.ensures

pub returns-in-Err-TooLarge-clause-due : goal.returns-in-Err-TooLarge-clause-due
returns-in-Err-TooLarge-clause-due g c words bytes w told =
    let long = c.in-Err-TooLarge.ensures.too_large (ap Err c.in-Err-TooLarge.field-0-is) in
    due_large words bytes long.0 c.args.command _ _ c.plan_too_large.result.cause c.plan_too_large.result.reply.items w told long.1 long.2 c.plan_too_large.ensures

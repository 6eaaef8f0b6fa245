use Rattle.std.proofs.Common.{map}
use Rattle.std.specs.String.{string_bytes}
use Rattle.call_laws.specs.Call.{IsCommand}
use Rattle.call_laws.proofs.Answering.{usage_due, no_usage}
use Rattle.oz_top.proofs.call.plan_words.Given as given
use Rattle.oz_top.proofs.call.plan_words.Goals as goal

-- the command that was read
is_command : (g : given.Over) (c : goal.After-plan_command g) → IsCommand (map string_bytes c.args.words.now) c.in-Ok-Some.command
is_command g c = record { spelled = rw c.in-Ok-Some.field-0-is at c.in-Ok-Some.ensures.spelled; only = rw c.in-Ok-Some.field-0-is at c.in-Ok-Some.ensures.only }

pub returns-in-Ok-Some-clause-plans : goal.returns-in-Ok-Some-clause-plans
returns-in-Ok-Some-clause-plans g c = c.plan_command.ensures.plans (map string_bytes c.args.words.now) (is_command g c)

pub returns-in-Ok-Some-clause-due : goal.returns-in-Ok-Some-clause-due
returns-in-Ok-Some-clause-due g c bytes told = c.plan_command.ensures.due (map string_bytes c.args.words.now) bytes (is_command g c) told

pub returns-in-Ok-Some-clause-read : goal.returns-in-Ok-Some-clause-read
returns-in-Ok-Some-clause-read g c asked bytes w told = c.plan_command.ensures.read bytes told

pub returns-in-Ok-Some-clause-unread : goal.returns-in-Ok-Some-clause-unread
returns-in-Ok-Some-clause-unread g c u = absurd (u c.in-Ok-Some.command (is_command g c).spelled)

pub returns-in-Ok-None-clause-due : goal.returns-in-Ok-None-clause-due
returns-in-Ok-None-clause-due g c bytes told =
    usage_due (map string_bytes c.args.words.now) bytes c.plan_usage.result.cause c.plan_usage.result.reply.items (rw c.in-Ok-None.field-0-is at c.in-Ok-None.ensures.spelled) c.plan_usage.ensures

pub returns-in-Ok-None-clause-read : goal.returns-in-Ok-None-clause-read
returns-in-Ok-None-clause-read g c asked bytes w told =
    absurd (no_usage (map string_bytes c.args.words.now) asked w (rw c.in-Ok-None.field-0-is at c.in-Ok-None.ensures.spelled))

pub returns-in-Err-clause-read : goal.returns-in-Err-clause-read
returns-in-Err-clause-read g c asked bytes w told = λ read memory. absurd (memory c.silent.ensures.cause)

use Rattle.std.proofs.Common.{◌≡◌, ◌∙◌, ◌-◌, ap, subst, []}
use Rattle.std.specs.Prelude.{IfOk}
use Rattle.oz_language.specs.declared.kernel.Kernel.{Kernel}
use Rattle.oz_semantics.specs.Configurations.{view}
use Rattle.oz_semantics.specs.Texts.{term_text}
use Rattle.oz_replies.specs.Replies.{Answer, shown_lines, answer_of_raise, searched}
use Rattle.call_laws.proofs.TopLaws.{all_over, all_raised, all_ended}
use Rattle.command_answers.proofs.answers.all_answer.Goals as goal

pub returns-in-OutOfFuel : goal.returns-in-OutOfFuel
returns-in-OutOfFuel g c =
    let m = c.in_ok-machine.machine in
    subst (λ (a : Answer). IfOk c.out_of_fuel.result (λ plan. ◌≡◌ {A = Answer} (plan.cause, plan.reply.items) a))
    (all_over c.args.kernel c.args.budget m.config (rw c.in-OutOfFuel.is at c.in_ok-machine.ensures.run))
    c.out_of_fuel.ensures

pub returns-in-TopEnded : goal.returns-in-TopEnded
returns-in-TopEnded g c =
    let m = c.in_ok-machine.machine in
    let left = c.args.budget - c.in-TopEnded.steps in
    let run = rw c.in-TopEnded.is at c.in_ok-machine.ensures.run in
    subst (λ (a : Answer). IfOk c.raised.result (λ plan. ◌≡◌ {A = Answer} (plan.cause, plan.reply.items) a))
    (ap (λ (k : Kernel). answer_of_raise (shown_lines m.config) c.args.budget left (term_text k.words (view m.config.layers []) c.in-TopEnded.exception)) c.in_ok-machine.ensures.kernel
    ∙ all_raised c.args.kernel c.args.budget left m.config c.in-TopEnded.exception run.1)
    c.raised.ensures

pub returns-in-Ended : goal.returns-in-Ended
returns-in-Ended g c =
    let m = c.in_ok-machine.machine in
    let left = c.args.budget - c.in-Ended.steps in
    let run = rw c.in-Ended.is at c.in_ok-machine.ensures.run in
    subst (λ (a : Answer). IfOk c.searched.result (λ plan. ◌≡◌ {A = Answer} (plan.cause, plan.reply.items) a))
    (ap (λ (k : Kernel). searched k c.args.budget m.config left) c.in_ok-machine.ensures.kernel ∙ all_ended c.args.kernel c.args.budget left m.config run.1)
    c.searched.ensures

use Rattle.std.proofs.Common.{◌≡◌, ◌∙◌, ◌-◌, ap, ap₂, subst, List, ℕ, []}
use Rattle.std.proofs.lemmas.Result.{IfOk-weaker}
use Rattle.std.specs.Prelude.{IfOk}
use Rattle.oz_language.specs.declared.kernel.Kernel.{Kernel}
use Rattle.oz_semantics.specs.Configurations.{view}
use Rattle.oz_semantics.specs.Texts.{term_text}
use Rattle.oz_replies.specs.Replies.{Answer, shown_lines, answer_of_raise}
use Rattle.oz_replies.specs.declared.cause.Cause.{Cause}
use Rattle.call_laws.proofs.TopLaws.{run_over, run_raised, run_ended}
use Rattle.command_answers.proofs.answers.run_answer.Goals as goal

pub returns-in-OutOfFuel : goal.returns-in-OutOfFuel
returns-in-OutOfFuel c =
    let m = c.in_ok-machine.machine in
    subst (λ (a : Answer). IfOk c.out_of_fuel.result (λ plan. ◌≡◌ {A = Answer} (plan.cause, plan.reply.items) a))
    (run_over c.args.kernel c.args.budget m.config (rw c.in-OutOfFuel.is at c.in_ok-machine.ensures.run))
    c.out_of_fuel.ensures

pub returns-in-TopEnded : goal.returns-in-TopEnded
returns-in-TopEnded c =
    let m = c.in_ok-machine.machine in
    let left = c.args.budget - c.in-TopEnded.steps in
    let run = rw c.in-TopEnded.is at c.in_ok-machine.ensures.run in
    subst (λ (a : Answer). IfOk c.raised.result (λ plan. ◌≡◌ {A = Answer} (plan.cause, plan.reply.items) a))
    (ap (λ (k : Kernel). answer_of_raise (shown_lines m.config) c.args.budget left (term_text k.words (view m.config.layers []) c.in-TopEnded.exception)) c.in_ok-machine.ensures.kernel
    ∙ run_raised c.args.kernel c.args.budget left m.config c.in-TopEnded.exception run.1)
    c.raised.ensures

pub returns : goal.returns
returns c =
    let m = c.in_ok-machine.machine in
    let run = rw c.in-Ended.is at c.in_ok-machine.ensures.run in
    IfOk-weaker c.done.result _ _ (λ plan e. ap₂ (λ (x : Cause) (y : List ℕ). (x, y)) e.0 e.1
    ∙ run_ended c.args.kernel c.args.budget (c.args.budget - c.in-Ended.steps) m.config run.1) c.done.ensures

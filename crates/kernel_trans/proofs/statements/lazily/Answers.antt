use Rattle.kernel_writer.specs.Tasks.{state_of, begun}
use Rattle.oz_language.specs.declared.kernel.Identifier.TheVariants.{Fresh, Word}
use Rattle.std.proofs.Common.{ap, ◌∙◌, ◌∷◌, [], suc}
use Rattle.kernel_writer.proofs.Outcomes.{put_as, numbered_to}
use Rattle.kernel_trans.proofs.Building.{lazy_law}
use Rattle.oz_language.specs.Wording.{by_need_word}
use Rattle.kernel_writer.specs.declared.tasks.Task.TheVariants as task
use Rattle.kernel_writer.specs.declared.tasks.Closing.TheVariants as closing
use Rattle.kernel_writer.specs.declared.goals.Goal.TheVariants as sort
use Rattle.oz_language.specs.declared.kernel.Statement.TheVariants as numbered
use Rattle.kernel_trans.proofs.statements.lazily.Goals as goal

pub returns : goal.returns
returns c words =
    let w = c.args.writer.now in
    let n = w.numbers.next in
    let f = c.in_ok-procedure.ensures.name in
    let x = c.in_ok-inner.ensures.name ∙ ap Fresh c.in_ok-procedure.ensures.next in
    lazy_law words c.put_value.new.self c.args.value c.args.body w.tasks (state_of w)
    (put_as c.in_ok-put_value.ensures.tasks (ap (λ q. task.Phrase (sort.Value q) c.args.body) x)
    (put_as c.in_ok-put-3.ensures.tasks ((λ i. task.Close (closing.Procedure (f i) (c.in_ok-one_name-2.ensures i))) ∙ ap (λ q. task.Close (closing.Procedure (Fresh n) (q ∷ []))) x)
    (c.in_ok-begin-2.ensures.tasks
    ∙ put_as c.in_ok-put-2.ensures.tasks ((λ i. task.Statement (numbered.Call (c.by_need.ensures i) (c.in_ok-two_names.ensures i))) ∙ ap (λ q. task.Statement (numbered.Call (Word by_need_word) (q ∷ c.args.value ∷ []))) f)
    (put_as c.in_ok-put.ensures.tasks (ap (λ q. task.Close (closing.Local q)) (c.in_ok-one_name.ensures ∙ ap (λ q. q ∷ []) f)) c.in_ok-begin.ensures.tasks))))
    (c.in_ok-put_value.ensures.state ∙ c.in_ok-put-3.ensures.state ∙ c.in_ok-begin-2.ensures.state
    ∙ ap begun (c.in_ok-put-2.ensures.state ∙ c.in_ok-put.ensures.state ∙ c.in_ok-begin.ensures.state ∙ ap (λ m. begun (numbered_to (state_of w) m)) (c.in_ok-inner.ensures.next ∙ ap suc c.in_ok-procedure.ensures.next)))

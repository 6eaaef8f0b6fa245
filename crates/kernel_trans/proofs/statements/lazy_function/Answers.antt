use Rattle.kernel_writer.specs.Tasks.{state_of, written, begun, all_done}
use Rattle.kernel_trans.specs.Statements.{lazy_made}
use Rattle.oz_syntax.specs.View.{view, views}
use Rattle.oz_language.specs.Grammar.{of_list}
use Rattle.oz_language.specs.declared.kernel.Identifier.TheVariants.{Fresh}
use Rattle.std.proofs.Common.{ap, ◌∙◌, ◌++◌, ◌∷◌, [], suc}
use Rattle.kernel_writer.proofs.Outcomes.{put_as, numbered_to}
use Rattle.kernel_trans.proofs.Building.{lazy_function_law}
use Rattle.oz_language.specs.Translation.{parameter_names, behind_parameters}
use Rattle.kernel_writer.specs.declared.tasks.Task.TheVariants as task
use Rattle.kernel_writer.specs.declared.tasks.Closing.TheVariants as closing
use Rattle.kernel_trans.proofs.statements.lazy_function.Goals as goal

pub returns : goal.returns
returns c words =
    let w = c.args.writer.now in
    let n = w.numbers.next in
    let ps = of_list (views c.args.parameters.now) in
    let m = behind_parameters n ps in
    let is = c.in_ok-value.ensures.name ∙ ap Fresh c.in_ok-parameters.ensures.next in
    let are = c.in_ok-push.ensures.ok ∙ (λ i. c.in_ok-parameters.ensures.names i ++ is i ∷ []) in
    let state = c.in_ok-begin.ensures.state ∙ ap (λ q. begun (numbered_to (state_of w) q)) (c.in_ok-value.ensures.next ∙ ap suc c.in_ok-parameters.ensures.next) in
    let close = put_as c.in_ok-put.ensures.tasks (ap (λ q. task.Close (closing.Procedure c.args.name q)) are) c.in_ok-begin.ensures.tasks in
    c.in_ok-lazily.ensures words
    ∙ ap (λ q. all_done words q (written (state_of c.put.new.self) (lazy_made words c.in_ok-value.value c.put.new.self.numbers.next (view c.args.body.now)))) close
    ∙ ap (λ q. all_done words (task.Close (closing.Procedure c.args.name (parameter_names n ps ++ Fresh m ∷ [])) ∷ w.tasks) (written q (lazy_made words c.in_ok-value.value q.next (view c.args.body.now)))) (c.in_ok-put.ensures.state ∙ state)
    ∙ ap (λ q. all_done words (task.Close (closing.Procedure c.args.name (parameter_names n ps ++ Fresh m ∷ [])) ∷ w.tasks) (written (begun (numbered_to (state_of w) (suc m))) (lazy_made words q (suc m) (view c.args.body.now)))) is
    ∙ lazy_function_law words c.args.name (parameter_names n ps) m (view c.args.body.now) w.tasks (state_of w)

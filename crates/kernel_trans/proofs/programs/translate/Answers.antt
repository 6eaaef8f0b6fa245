use Rattle.kernel_writer.specs.Tasks.{state_of, all_done}
use Rattle.oz_syntax.specs.View.{view}
use Rattle.std.proofs.Common.{ap, refl, ◌∙◌, ◌∷◌, []}
use Rattle.kernel_trans.proofs.Building.{kernel_law}
use Rattle.kernel_writer.specs.declared.tasks.Task.TheVariants as task
use Rattle.kernel_writer.specs.declared.goals.Goal.TheVariants as sort
use Rattle.kernel_trans.proofs.programs.translate.Goals as goal

pub returns : goal.returns
returns c =
    let words = c.args.words in
    let put = c.put.new.self in
    let t = task.Phrase sort.Statement c.args.phrase in
    kernel_law words words c.perform_all.new.writer.output (view c.args.phrase.now) refl
    (ap (λ q. q.output)
    (c.in_ok-perform_all.ensures
    ∙ ap (λ q. all_done words q (state_of put)) (c.in_ok-put.ensures.tasks ∙ ap (λ q. t ∷ q) c.new-writer.ensures.tasks)
    ∙ ap (all_done words (t ∷ [])) (c.in_ok-put.ensures.state ∙ c.new-writer.ensures.state)))

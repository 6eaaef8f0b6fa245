use Rattle.kernel_writer.specs.Tasks.{state_of, scope_begun, ending, calling}
use Rattle.kernel_writer.specs.Goals.{goal_of}
use Rattle.oz_syntax.specs.View.{views}
use Rattle.oz_language.specs.Grammar.{of_list}
use Rattle.oz_language.specs.Translation.{fresh_among, names_of, result_in}
use Rattle.std.proofs.Common.{ap, refl, ◌∙◌, ◌++◌}
use Rattle.kernel_writer.proofs.Outcomes.{put_on, numbered_to}
use Rattle.kernel_trans.proofs.Building.{call_law}
use Rattle.kernel_trans.proofs.statements.call.Goals as goal

pub returns : goal.returns
returns c words =
    let w = c.args.writer.now in
    let es = of_list (views c.args.parts.now) in
    let names = names_of w.numbers.next es in
    let are = c.as_slice.ensures ∙ c.in_ok-names.ensures.names in
    let tasks = c.in_ok-begin_names.ensures.tasks ∙ ap (λ q. ending (fresh_among q) w.tasks) are in
    call_law words c.put.new.self (goal_of c.args.goal) w.numbers c.args.parts w.tasks (state_of w) refl
    (put_on c.in_ok-put.ensures.tasks (c.in_ok-put_call.ensures.tasks
    ∙ ap (λ q. calling q c.begin_names.new.self.tasks) (c.in_ok-with_result.ensures ∙ (λ i. c.in_ok-names.ensures.names i ++ c.name.ensures i))
    ∙ ap (calling (names ++ result_in (goal_of c.args.goal))) tasks))
    (c.in_ok-put.ensures.state ∙ c.in_ok-put_call.ensures.state ∙ c.in_ok-begin_names.ensures.state
    ∙ ap (λ q. scope_begun (fresh_among q) (numbered_to (state_of w) c.parts.new.self.next)) are
    ∙ ap (λ n. scope_begun (fresh_among names) (numbered_to (state_of w) n)) c.in_ok-names.ensures.next)

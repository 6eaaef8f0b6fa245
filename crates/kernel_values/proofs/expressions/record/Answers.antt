use Rattle.kernel_writer.specs.Tasks.{state_of, scope_begun, ending, added}
use Rattle.oz_syntax.specs.View.{views}
use Rattle.oz_language.specs.Grammar.{of_list}
use Rattle.oz_language.specs.Translation.{fresh_among, names_of}
use Rattle.std.proofs.Common.{ap, ◌∙◌}
use Rattle.kernel_values.proofs.Steps.{record_law}
use Rattle.kernel_writer.proofs.Outcomes.{put_on, numbered_to, added_by}
use Rattle.kernel_values.proofs.expressions.record.Goals as goal

pub returns : goal.returns
returns c =
    let w = c.args.writer.now in
    let fs = of_list (views c.args.fields.now) in
    let names = names_of w.numbers.next fs in
    let are = c.as_slice.ensures ∙ c.in_ok-names.ensures.names in
    record_law c.args.words.now c.put.new.self w c.args.name c.args.label c.args.fields w.tasks c.in_ok-statement.statement
    (rw c.in_ok-names.ensures.names at c.in_ok-statement.ensures)
    (put_on c.in_ok-put.ensures.tasks (c.in_ok-begin_names.ensures.tasks ∙ ap (λ q. ending (fresh_among q) w.tasks) are))
    (c.in_ok-put.ensures.state
    ∙ added_by (state_of c.begin_names.new.self) c.in_ok-statement.statement c.in_ok-push.ensures
    ∙ ap (λ q. added q c.in_ok-statement.statement) (c.in_ok-begin_names.ensures.state
    ∙ ap (λ q. scope_begun (fresh_among q) (numbered_to (state_of w) c.parts.new.self.next)) are
    ∙ ap (λ n. scope_begun (fresh_among names) (numbered_to (state_of w) n)) c.in_ok-names.ensures.next))

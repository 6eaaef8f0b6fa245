use Rattle.std.proofs.Common.{◌≡◌, ◌∙◌, List, Option, Some, None, sym, ap}
use Rattle.std.specs.Prelude.{is_some}
use Rattle.oz_semantics.specs.Configurations.{layer_at, stack_of}
use Rattle.oz_semantics.specs.Exceptions.{unwound}
use Rattle.oz_semantics.specs.Steps.{raised_to, uncaught, went_on, without_top}
use Rattle.oz_semantics.specs.declared.configuration.Frame.{Frame}
use Rattle.oz_semantics.specs.declared.configuration.Layer.{Layer}
use Rattle.settle_laws.proofs.SettleLaws.{nothing_fails}
use Rattle.space_core.specs.Advances.{taken_on}
use Rattle.oz_machine.specs.Courses.{stepping}
use Rattle.oz_machine.proofs.StepEdits.{stack_popped, popped_taken, pop_there}
use Rattle.oz_machine.proofs.raising.raise.Goals as goal

pub returns-then-branch-clause-turn : goal.returns-then-branch-clause-turn
returns-then-branch-clause-turn c =
    let statements = c.args.kernel.now.statements in
    let id = c.args.id.now in
    let now = c.args.course.now in
    let x = c.args.exception in
    let wt = without_top id now.levels in
    let u = rw c.if-branch.true at c.in_ok-unwind_from.ensures.caught in
    let caught : unwound x (stack_of wt id) ≡ Some u.0 = ap (unwound x) (stack_popped id now.levels c.requires.there) ∙ u.1 in
    let left : c.unwind_from.new.self ≡ taken_on id u.0 wt = u.2 ∙ sym (popped_taken id u.0 now.levels) in
    ap (λ (o : Option (List Frame)). raised_to statements id x o wt (stepping now)) caught
    ∙ ap (λ (ls : List Layer). went_on statements id 1 ls (stepping now)) (sym left)
    ∙ c.go_on_caught.ensures.turn now.levels u.0 c.requires.kept left

pub end_space-requires : goal.end_space-requires
end_space-requires c =
    let id = c.args.id.now in
    let now = c.args.course.now in
    let u = rw c.if-branch.false at c.in_ok-unwind_from.ensures.caught in
    let there = ap (λ (ls : List Layer). is_some (layer_at ls id.space)) u.1 ∙ c.requires.there in
    record {
      head = c.requires.head;
      there = ap (λ (ls : List Layer). is_some (layer_at ls id.space)) c.take_off.ensures ∙ pop_there id c.unwind_from.new.self there;
    }

pub returns-clause-turn : goal.returns-clause-turn
returns-clause-turn c =
    let statements = c.args.kernel.now.statements in
    let id = c.args.id.now in
    let now = c.args.course.now in
    let x = c.args.exception in
    let wt = without_top id now.levels in
    let popped = c.take_off.new.levels in
    let u = rw c.if-branch.false at c.in_ok-unwind_from.ensures.caught in
    let passed : unwound x (stack_of wt id) ≡ None = ap (unwound x) (stack_popped id now.levels c.requires.there) ∙ u.0 in
    let left : popped ≡ wt = c.take_off.ensures ∙ ap (without_top id) u.1 in
    ap (λ (o : Option (List Frame)). raised_to statements id x o wt (stepping now)) passed
    ∙ ap (λ (ls : List Layer). uncaught statements id x ls (stepping now)) (sym left)
    ∙ c.end_space.ensures.turn statements popped (nothing_fails id.space popped c.consistent.ensures)

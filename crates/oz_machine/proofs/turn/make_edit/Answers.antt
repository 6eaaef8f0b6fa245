use Rattle.std.proofs.Common.{◌≡◌, ◌∙◌, Bool, if◌then◌else◌, List, ap, sym, subst}
use Rattle.std.specs.Prelude.{is_some, OnErr}
use Rattle.oz_language.specs.declared.kernel.Statement.{Statement}
use Rattle.oz_semantics.specs.Answers as answers
use Rattle.oz_semantics.specs.Configurations.{in_layer, layer_at, telling}
use Rattle.oz_semantics.specs.Steps.{after_answer, edited, went_on, raised_kind, without_top}
use Rattle.oz_semantics.specs.declared.configuration.Layer.{Layer}
use Rattle.oz_semantics.specs.declared.outcome.RaiseKind.TheVariants.{FailureTell}
use Rattle.builtins.specs.Answers.{edit_of}
use Rattle.settle_laws.specs.Settles.{Settles}
use Rattle.space_core.specs.SpaceEdits.{tells_with}
use Rattle.oz_machine.specs.Courses.{config_of, stepping}
use Rattle.oz_machine.proofs.DoingLaws.{ok_turn}
use Rattle.oz_machine.proofs.turn.make_edit.Goals as goal

pub clash-requires : goal.clash-requires
clash-requires c =
    let id = c.args.id.now in
    let d = rw c.if-not-branch.true at c.in_ok-edit.ensures.ok in
    record { head = c.requires.head; there = ap (λ (ls : List Layer). is_some (layer_at ls id.space)) d.1 ∙ c.requires.there }

pub returns-then-not-branch-clause-err : goal.returns-then-not-branch-clause-err
returns-then-not-branch-clause-err c =
    let now = c.args.course.now in
    let d = rw c.if-not-branch.true at c.in_ok-edit.ensures.ok in
    subst (λ (ls : List Layer). OnErr c.clash.result (c.clash.new.course ≡ record now { levels = ls })) d.1 c.clash.ensures.err

pub returns-then-not-branch-clause-turn : goal.returns-then-not-branch-clause-turn
returns-then-not-branch-clause-turn c =
    let k = c.args.kernel.now in
    let id = c.args.id.now in
    let now = c.args.course.now in
    let old = now.levels in
    let new = c.edit.new.levels in
    let what = edit_of c.args.what.now in
    let wt = without_top id old in
    let d = rw c.if-not-branch.true at c.in_ok-edit.ensures.ok in
    ok_turn c.clash.result (after_answer k id wt (stepping now) (answers.Edits what))
    (raised_kind k.statements id FailureTell (without_top id new) (stepping (record now { levels = new }))) (config_of k.statements c.clash.new.course)
    (
    ap (λ (b : Bool). if b then went_on k.statements id 1 (edited k.statements id.space what (in_layer id.space (telling (tells_with id what wt)) wt)) (stepping now) else raised_kind k.statements id FailureTell wt (stepping now)) d.0
    ∙ ap (λ (ls : List Layer). raised_kind k.statements id FailureTell (without_top id ls) (stepping (record now { levels = ls }))) (sym d.1)
    )
    (c.clash.ensures.turn k.statements)

pub returns-clause-turn : goal.returns-clause-turn
returns-clause-turn c =
    let k = c.args.kernel.now in
    let id = c.args.id.now in
    let now = c.args.course.now in
    let what = edit_of c.args.what.now in
    let wt = without_top id now.levels in
    let made : List Layer = edited k.statements id.space what (in_layer id.space (telling (tells_with id what wt)) wt) in
    let d = rw c.if-not-branch.false at c.in_ok-edit.ensures.ok in
    ap (λ (b : Bool). if b then went_on k.statements id 1 made (stepping now) else raised_kind k.statements id FailureTell wt (stepping now)) d.0
    ∙ c.go_on.ensures.turn k.statements made (
    subst (λ (st : List Statement). Settles id.space (edited st id.space what (in_layer id.space (telling (tells_with id what wt)) wt)) c.edit.new.levels) c.as_slice-statements.ensures d.1
    )

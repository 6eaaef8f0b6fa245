use Rattle.std.proofs.Common.{◌≡◌, ◌∙◌, List, ap, sym, subst}
use Rattle.std.specs.Prelude.{is_some, OnErr}
use Rattle.oz_semantics.specs.Answers as answers
use Rattle.oz_semantics.specs.Configurations.{layer_at, layer_of}
use Rattle.oz_semantics.specs.Effects.{act_effect}
use Rattle.oz_semantics.specs.Steps.{after_effect, raised_kind, without_top}
use Rattle.oz_semantics.specs.declared.configuration.Layer.{Layer}
use Rattle.oz_semantics.specs.declared.outcome.RaiseKind.TheVariants.{FailureTell}
use Rattle.oz_raise.specs.Nodes.{term_of}
use Rattle.oz_machine.specs.Courses.{config_of, stepping}
use Rattle.oz_machine.proofs.DoingLaws.{done_leaves, done_clashes, ok_turn}
use Rattle.oz_machine.proofs.StepEdits.{effect_popped}
use Rattle.oz_machine.proofs.turn.make_term.Goals as goal

pub clash-requires : goal.clash-requires
clash-requires c =
    let id = c.args.id.now in
    let now = c.args.course.now in
    let effect = act_effect (layer_of now.levels id.space) (answers.GivesTerm c.args.variable.now (term_of c.args.nodes.now)) in
    let d = done_clashes c.args.kernel.now id effect now.levels c.give_term.new.levels (stepping now) (rw c.if-not-branch.true at c.in_ok-give_term.ensures.ok) in
    record { head = c.requires.head; there = ap (λ (ls : List Layer). is_some (layer_at ls id.space)) d.0 ∙ c.requires.there }

pub returns-then-not-branch-clause-err : goal.returns-then-not-branch-clause-err
returns-then-not-branch-clause-err c =
    let id = c.args.id.now in
    let now = c.args.course.now in
    let effect = act_effect (layer_of now.levels id.space) (answers.GivesTerm c.args.variable.now (term_of c.args.nodes.now)) in
    let d = done_clashes c.args.kernel.now id effect now.levels c.give_term.new.levels (stepping now) (rw c.if-not-branch.true at c.in_ok-give_term.ensures.ok) in
    subst (λ (ls : List Layer). OnErr c.clash.result (c.clash.new.course ≡ record now { levels = ls })) d.0 c.clash.ensures.err

pub returns-then-not-branch-clause-turn : goal.returns-then-not-branch-clause-turn
returns-then-not-branch-clause-turn c =
    let k = c.args.kernel.now in
    let id = c.args.id.now in
    let now = c.args.course.now in
    let old = now.levels in
    let new = c.give_term.new.levels in
    let act = answers.GivesTerm c.args.variable.now (term_of c.args.nodes.now) in
    let wt = without_top id old in
    let d = done_clashes k id (act_effect (layer_of old id.space) act) old new (stepping now) (rw c.if-not-branch.true at c.in_ok-give_term.ensures.ok) in
    ok_turn c.clash.result (after_effect k id wt (stepping now) (act_effect (layer_of wt id.space) act))
    (raised_kind k.statements id FailureTell (without_top id new) (stepping (record now { levels = new }))) (config_of k.statements c.clash.new.course)
    (
    ap (after_effect k id wt (stepping now)) (effect_popped id old act c.requires.there)
    ∙ d.1
    ∙ ap (λ (ls : List Layer). raised_kind k.statements id FailureTell (without_top id ls) (stepping (record now { levels = ls }))) (sym d.0)
    )
    (c.clash.ensures.turn k.statements)

pub returns-clause-turn : goal.returns-clause-turn
returns-clause-turn c =
    let k = c.args.kernel.now in
    let id = c.args.id.now in
    let now = c.args.course.now in
    let old = now.levels in
    let act = answers.GivesTerm c.args.variable.now (term_of c.args.nodes.now) in
    let wt = without_top id old in
    let d = done_leaves k id (act_effect (layer_of old id.space) act) old c.give_term.new.levels (stepping now) c.consistent.ensures (rw c.if-not-branch.false at c.in_ok-give_term.ensures.ok) in
    ap (after_effect k id wt (stepping now)) (effect_popped id old act c.requires.there)
    ∙ d.follows ∙ c.go_on.ensures.turn k.statements d.before d.settles

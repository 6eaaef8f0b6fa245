use Rattle.std.proofs.Common.{◌∙◌, ap, subst}
use Rattle.std.specs.Prelude.{is_some}
use Rattle.oz_semantics.specs.Configurations.{view, in_layer, layer_at}
use Rattle.oz_semantics.specs.Propagation.{after_run}
use Rattle.space_core.specs.Levels.{IsToldTo}
use Rattle.oz_semantics.specs.declared.configuration.Layer.{Layer}
use Rattle.oz_machine.proofs.PropagatingLaws.{due_layer, narrowed_settles}
use Rattle.oz_machine.proofs.propagating.narrow.Goals as goal

pub space_at-requires : goal.space_at-requires
space_at-requires c = c.requires.there.within

pub tell-requires : goal.tell-requires
tell-requires c =
    ap is_some (ap (layer_at c.args.course.now.levels) (c.in_ok-space.ensures ∙ c.space_at.ensures c.requires.layer c.requires.there.item) ∙ c.requires.there.found)

pub returns-clause-turn : goal.returns-clause-turn
returns-clause-turn c = λ statements l p least.
    let layers = c.args.course.now.levels in
    let due = c.args.due in
    let ts = c.args.tells.now in
    let same = due_layer layers due c.requires l p least in
    c.follow_run.ensures.turn statements l.space (in_layer l.space (after_run (view layers l.space) p ts) layers)
    (narrowed_settles layers due c.requires l p least c.in_ok-space.space c.in_ok-seen.seen ts c.tell.new.self c.note.new.levels
    (c.in_ok-space.ensures ∙ c.space_at.ensures c.requires.layer c.requires.there.item ∙ ap (λ (m : Layer). m.space) same) (c.in_ok-seen.ensures l p least)
    (subst (IsToldTo c.in_ok-space.space ts layers c.tell.new.self) c.if-not-branch.false c.in_ok-tell.ensures.told) c.note.ensures)

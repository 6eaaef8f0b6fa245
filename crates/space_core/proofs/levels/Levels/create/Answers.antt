use Rattle.std.proofs.Common.{◌∙◌}
use Rattle.space_core.proofs.TreeAnswers.{created_absent, created_name, created_sound, created_shows}
use Rattle.space_core.proofs.levels.Levels.create.Goals as goal

pub invariant_of-self-in_default-changed_place : goal.invariant_of-self-in_default-changed_place
invariant_of-self-in_default-changed_place c = absurd (created_absent c.self.inside.levels.items c.as_slice.result.now c.args.self.now c.as_slice.ensures.value c.self.view_is c.self.invariant c.args.parent.now c.in-Some.place c.in-Some.ensures c.index-above.result.now c.index-above.ensures
    c.args.procedure c.in_ok-level.level c.in_ok-level.ensures c.if-above.false c.add_level.new.levels.items c.as_slice-2.result.now c.in_ok-add_level.ensures.ok c.as_slice-2.ensures.value c.in_default-changed_place.ensures)

pub returns-in_default-changed_place-clause-name : goal.returns-in_default-changed_place-clause-name
returns-in_default-changed_place-clause-name c = absurd (created_absent c.self.inside.levels.items c.as_slice.result.now c.args.self.now c.as_slice.ensures.value c.self.view_is c.self.invariant c.args.parent.now c.in-Some.place c.in-Some.ensures c.index-above.result.now c.index-above.ensures
    c.args.procedure c.in_ok-level.level c.in_ok-level.ensures c.if-above.false c.add_level.new.levels.items c.as_slice-2.result.now c.in_ok-add_level.ensures.ok c.as_slice-2.ensures.value c.in_default-changed_place.ensures)

pub returns-in_default-changed_place-clause-ok : goal.returns-in_default-changed_place-clause-ok
returns-in_default-changed_place-clause-ok c = absurd (created_absent c.self.inside.levels.items c.as_slice.result.now c.args.self.now c.as_slice.ensures.value c.self.view_is c.self.invariant c.args.parent.now c.in-Some.place c.in-Some.ensures c.index-above.result.now c.index-above.ensures
    c.args.procedure c.in_ok-level.level c.in_ok-level.ensures c.if-above.false c.add_level.new.levels.items c.as_slice-2.result.now c.in_ok-add_level.ensures.ok c.as_slice-2.ensures.value c.in_default-changed_place.ensures)

pub invariant_of-self-2 : goal.invariant_of-self-2
invariant_of-self-2 c = created_sound c.self.inside.levels.items c.as_slice.result.now c.args.self.now c.as_slice.ensures.value c.self.view_is c.self.invariant c.args.parent.now c.in-Some.place c.in-Some.ensures c.index-above.result.now c.index-above.ensures
    c.args.procedure c.in_ok-level.level c.in_ok-level.ensures c.if-above.false c.add_level.new.levels.items c.as_slice-2.result.now c.in_ok-add_level.ensures.ok c.as_slice-2.ensures.value
    c.in-Some-changed_place.place c.in-Some-changed_place.ensures c.index_mut.result.now c.index_mut.ensures.value c.in_ok-count.count c.in_ok-count.ensures

pub returns-clause-name : goal.returns-clause-name
returns-clause-name c = c.in_ok-child.ensures ∙ created_name c.self.inside.levels.items c.as_slice.result.now c.args.self.now c.as_slice.ensures.value c.self.view_is c.self.invariant c.args.parent.now c.in-Some.place c.in-Some.ensures c.index-above.result.now c.index-above.ensures
    c.args.procedure c.in_ok-level.level c.in_ok-level.ensures c.if-above.false c.add_level.new.levels.items c.as_slice-2.result.now c.in_ok-add_level.ensures.ok c.as_slice-2.ensures.value

pub returns-clause-ok : goal.returns-clause-ok
returns-clause-ok c = created_shows c.self.inside.levels.items c.as_slice.result.now c.args.self.now c.as_slice.ensures.value c.self.view_is c.self.invariant c.args.parent.now c.in-Some.place c.in-Some.ensures c.index-above.result.now c.index-above.ensures
    c.args.procedure c.in_ok-level.level c.in_ok-level.ensures c.if-above.false c.add_level.new.levels.items c.as_slice-2.result.now c.in_ok-add_level.ensures.ok c.as_slice-2.ensures.value
    c.in-Some-changed_place.place c.in-Some-changed_place.ensures c.index_mut.result.now c.index_mut.ensures.value c.in_ok-count.count c.in_ok-count.ensures

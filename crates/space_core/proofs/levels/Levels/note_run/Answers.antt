use Rattle.std.proofs.Common.{◌∙◌}
use Rattle.space_core.proofs.PostingLaws.{noted_sound, noted_shows, noted_first}
use Rattle.space_core.proofs.levels.Levels.note_run.Goals as goal

pub invariant_of-self : goal.invariant_of-self
invariant_of-self c =
    noted_sound c.self.inside.levels.items c.args.self.now c.self.view_is c.self.invariant c.args.place c.requires c.index_mut.result.now c.note_run.new.level c.index_mut.ensures.value
    c.args.index c.args.seen c.note_run.ensures

pub returns-clause-noted : goal.returns-clause-noted
returns-clause-noted c =
    noted_shows c.self.inside.levels.items c.args.self.now c.self.view_is c.self.invariant c.args.place c.requires c.index_mut.result.now c.note_run.new.level c.index_mut.ensures.value
    c.args.index c.args.seen c.note_run.ensures

pub returns-clause-first : goal.returns-clause-first
returns-clause-first c = λ view l at first.
    noted_shows c.self.inside.levels.items c.args.self.now c.self.view_is c.self.invariant c.args.place c.requires c.index_mut.result.now c.note_run.new.level c.index_mut.ensures.value
    c.args.index c.args.seen c.note_run.ensures
    ∙ noted_first c.self.inside.levels.items c.args.self.now c.self.view_is c.self.invariant c.args.place c.requires c.index_mut.result.now c.note_run.new.level c.index_mut.ensures.value
    c.args.index c.args.seen c.note_run.ensures view l at first

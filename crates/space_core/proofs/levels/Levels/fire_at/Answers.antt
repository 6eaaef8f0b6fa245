use Rattle.space_core.specs.Firing.{firing}
use Rattle.space_core.proofs.FiringLaws.{placed_sound, placed_shows}
use Rattle.space_core.proofs.levels.Levels.fire_at.Goals as goal

pub invariant_of-self : goal.invariant_of-self
invariant_of-self c =
    placed_sound c.self.inside.levels.items c.args.self.now c.self.view_is c.self.invariant c.args.place c.requires c.index_mut.result.now c.fire.new.level c.index_mut.ensures.value
    (firing c.args.marks.now) c.fire.result c.fire.ensures.ok c.fire.ensures.err

pub returns : goal.returns
returns c = record {
  ok = placed_shows c.self.inside.levels.items c.args.self.now c.self.view_is c.self.invariant c.args.place c.requires c.index_mut.result.now c.fire.new.level c.index_mut.ensures.value
      (firing c.args.marks.now) c.fire.result c.fire.ensures.ok;
}

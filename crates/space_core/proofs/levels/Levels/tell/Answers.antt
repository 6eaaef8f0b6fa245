use Rattle.space_core.proofs.AdvanceLaws.{place_by}
use Rattle.space_core.proofs.TreeAnswers.{told_sound, told_shows, homes_by}
use Rattle.space_core.proofs.levels.Levels.tell.Goals as goal

pub invariant_of-self : goal.invariant_of-self
invariant_of-self c =
    told_sound c.self.inside.levels.items c.args.self.now c.self.view_is c.self.invariant c.args.space.now c.in-Some.place (place_by c.as_slice.ensures.value c.args.space.now c.in-Some.place c.in-Some.ensures)
    c.args.tells.now c.all_home-home.result (homes_by c.as_slice-2.ensures.value c.args.space.now c.args.tells.now c.all_home-home.result c.all_home-home.ensures) c.tell_through.new.levels.items
    c.tell_through.result c.tell_through.ensures.told c.tell_through.ensures.err

pub returns-clause-told : goal.returns-clause-told
returns-clause-told c =
    told_shows c.self.inside.levels.items c.args.self.now c.self.view_is c.self.invariant c.args.space.now c.in-Some.place (place_by c.as_slice.ensures.value c.args.space.now c.in-Some.place c.in-Some.ensures)
    c.args.tells.now c.all_home-home.result (homes_by c.as_slice-2.ensures.value c.args.space.now c.args.tells.now c.all_home-home.result c.all_home-home.ensures) c.tell_through.new.levels.items
    c.tell_through.result c.tell_through.ensures.told

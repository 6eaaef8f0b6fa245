use Rattle.std.proofs.Common.{ℕ, ◌<◌, sym, subst}
use Rattle.space_core.specs.Telling.{IsToldAt}
use Rattle.space_core.proofs.AdvanceLaws.{place_by, told_inside, advanced, advanced_sound, clash_shows}
use Rattle.space_core.proofs.levels.Levels.tell_by.Goals as goal

pub returns-then-not-branch-clause-told : goal.returns-then-not-branch-clause-told
returns-then-not-branch-clause-told c =
    clash_shows c.self.inside.levels.items c.args.self.now c.self.view_is c.self.invariant c.args.id.now.space c.in-Some.place (place_by c.as_slice.ensures.value c.args.id.now.space c.in-Some.place c.in-Some.ensures)
    c.args.tells.now c.tell_at.new.levels.items
    (subst (IsToldAt c.in-Some.place c.args.tells.now c.args.given c.self.inside.levels.items c.tell_at.new.levels.items) c.if-not-branch.true c.in_ok-tell_at.ensures.told)

pub index_mut-requires : goal.index_mut-requires
index_mut-requires c =
    subst (λ (n : ℕ). c.in-Some.place < n) (sym c.tell_at.new.levels.ok.0)
    (told_inside c.self.inside.levels.items c.args.id.now c.in-Some.place c.self.invariant (place_by c.as_slice.ensures.value c.args.id.now.space c.in-Some.place c.in-Some.ensures)
    c.args.tells.now c.args.given c.tell_at.new.levels.items
    (subst (IsToldAt c.in-Some.place c.args.tells.now c.args.given c.self.inside.levels.items c.tell_at.new.levels.items) c.if-not-branch.false c.in_ok-tell_at.ensures.told))

pub invariant_of-self-2 : goal.invariant_of-self-2
invariant_of-self-2 c =
    advanced_sound c.self.inside.levels.items c.args.self.now c.self.view_is c.args.id.now c.in-Some.place c.self.invariant (place_by c.as_slice.ensures.value c.args.id.now.space c.in-Some.place c.in-Some.ensures)
    c.args.tells.now c.args.given c.tell_at.new.levels.items
    (subst (IsToldAt c.in-Some.place c.args.tells.now c.args.given c.self.inside.levels.items c.tell_at.new.levels.items) c.if-not-branch.false c.in_ok-tell_at.ensures.told)
    c.index_mut.result.now c.drop_top.new.level c.index_mut.ensures.value c.drop_top.ensures

pub returns-clause-told : goal.returns-clause-told
returns-clause-told c =
    advanced c.self.inside.levels.items c.args.self.now c.self.view_is c.args.id.now c.in-Some.place c.self.invariant (place_by c.as_slice.ensures.value c.args.id.now.space c.in-Some.place c.in-Some.ensures)
    c.args.tells.now c.args.given c.tell_at.new.levels.items
    (subst (IsToldAt c.in-Some.place c.args.tells.now c.args.given c.self.inside.levels.items c.tell_at.new.levels.items) c.if-not-branch.false c.in_ok-tell_at.ensures.told)
    c.index_mut.result.now c.drop_top.new.level c.index_mut.ensures.value c.drop_top.ensures

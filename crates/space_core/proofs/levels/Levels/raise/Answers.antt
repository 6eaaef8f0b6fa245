use Rattle.std.proofs.Common.{ℕ, ◌<◌, Some, sym, subst}
use Rattle.oz_semantics.specs.Configurations.{thread_at, frames_in}
use Rattle.space_core.specs.Stacks.{IsLanding}
use Rattle.space_core.proofs.AdvanceLaws.{place_by, raised_inside, raised_sound, raised_shows, lands_here, room_below}
use Rattle.space_core.proofs.levels.Levels.raise.Goals as goal
use Rattle.space_core.proofs.levels.Levels.raise.Goals.{In-Some-2}

-- where the exception goes
lands : (c : In-Some-2) → IsLanding c.args.exception.now (frames_in (thread_at c.index.result.now.threads.list c.args.id.now.number)) (Some c.in-Some-2.landing)
lands c = subst (IsLanding c.args.exception.now (frames_in (thread_at c.index.result.now.threads.list c.args.id.now.number))) c.in-Some-2.is c.in_ok-landing.ensures

pub index_mut-requires : goal.index_mut-requires
index_mut-requires c =
    subst (λ (n : ℕ). c.in-Some.place < n) (sym c.tell_under.new.levels.ok.0)
    (raised_inside c.self.inside.levels.items c.args.self.now c.self.view_is c.args.id.now c.in-Some.place c.self.invariant (place_by c.as_slice.ensures.value c.args.id.now.space c.in-Some.place c.in-Some.ensures)
    c.in-Some-2.landing.frames c.len-handler.result c.len-handler.ensures c.in_ok-tell_under.ensures.ok.before c.in_ok-tell_under.ensures.ok.pushed c.in_ok-tell_under.ensures.ok.read c.in_ok-tell_under.ensures.ok.quiet
    c.args.tells.now c.args.count c.tell_under.new.levels.items c.in_ok-tell_under.ensures.ok.told)

pub cut-requires : goal.cut-requires
cut-requires c =
    room_below c.self.inside.levels.items c.args.self.now c.self.view_is c.args.id.now c.in-Some.place c.self.invariant (place_by c.as_slice.ensures.value c.args.id.now.space c.in-Some.place c.in-Some.ensures)
    c.in-Some-2.landing.frames c.len-handler.result c.len-handler.ensures c.in_ok-tell_under.ensures.ok.before c.in_ok-tell_under.ensures.ok.pushed c.in_ok-tell_under.ensures.ok.read c.in_ok-tell_under.ensures.ok.quiet
    c.args.exception.now c.index.result.now c.index.ensures c.in-Some-2.landing.count (lands (goal.at.cut-requires c).In-Some-2).0 (lands (goal.at.cut-requires c).In-Some-2).1
    c.args.tells.now c.args.count c.tell_under.new.levels.items c.in_ok-tell_under.ensures.ok.told c.index_mut.result.now c.index_mut.ensures.value

pub invariant_of-self-2 : goal.invariant_of-self-2
invariant_of-self-2 c =
    raised_sound c.self.inside.levels.items c.args.self.now c.self.view_is c.args.id.now c.in-Some.place c.self.invariant (place_by c.as_slice.ensures.value c.args.id.now.space c.in-Some.place c.in-Some.ensures)
    c.in-Some-2.landing.frames c.len-handler.result c.len-handler.ensures c.in_ok-tell_under.ensures.ok.before c.in_ok-tell_under.ensures.ok.pushed c.in_ok-tell_under.ensures.ok.read c.in_ok-tell_under.ensures.ok.quiet
    c.args.tells.now c.args.count c.tell_under.new.levels.items c.in_ok-tell_under.ensures.ok.told c.in-Some-2.landing.count c.index_mut.result.now c.cut.new.level c.index_mut.ensures.value c.cut.ensures

pub returns-clause-raised : goal.returns-clause-raised
returns-clause-raised c =
    raised_shows c.self.inside.levels.items c.args.self.now c.self.view_is c.args.id.now c.in-Some.place c.self.invariant (place_by c.as_slice.ensures.value c.args.id.now.space c.in-Some.place c.in-Some.ensures)
    c.in-Some-2.landing.frames c.len-handler.result c.len-handler.ensures c.in_ok-tell_under.ensures.ok.before c.in_ok-tell_under.ensures.ok.pushed c.in_ok-tell_under.ensures.ok.read c.in_ok-tell_under.ensures.ok.quiet
    c.args.tells.now c.args.count c.tell_under.new.levels.items c.in_ok-tell_under.ensures.ok.told c.in-Some-2.landing.count c.index_mut.result.now c.cut.new.level c.index_mut.ensures.value c.cut.ensures
    c.args.exception.now
    (lands_here c.self.inside.levels.items c.args.self.now c.self.view_is c.args.id.now c.in-Some.place c.self.invariant (place_by c.as_slice.ensures.value c.args.id.now.space c.in-Some.place c.in-Some.ensures)
    c.in-Some-2.landing.frames c.len-handler.result c.len-handler.ensures c.in_ok-tell_under.ensures.ok.before c.in_ok-tell_under.ensures.ok.pushed c.in_ok-tell_under.ensures.ok.read c.in_ok-tell_under.ensures.ok.quiet
    c.args.exception.now c.index.result.now c.index.ensures c.in-Some-2.landing.count (lands (goal.at.returns-clause-raised c).In-Some-2).0 (lands (goal.at.returns-clause-raised c).In-Some-2).1)

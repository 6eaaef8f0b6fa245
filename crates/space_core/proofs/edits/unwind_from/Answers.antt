use Rattle.std.proofs.Common.{◌++◌, List, drop, subst}
use Rattle.oz_semantics.specs.Configurations.{thread_at, frames_in, with_frames}
use Rattle.oz_semantics.specs.declared.configuration.Frame.{Frame}
use Rattle.space_core.specs.Shown.{IsQuiet}
use Rattle.space_core.specs.Stacks.{IsLanding}
use Rattle.space_core.proofs.CatchLaws.{room_to_cut, caught_quietly}
use Rattle.space_core.proofs.edits.unwind_from.Goals as goal

pub cut-requires : goal.cut-requires
cut-requires c =
    let q = subst (λ (fs : List Frame). IsQuiet (with_frames c.args.number (λ stack. fs ++ stack)) c.args.level.now c.push.new.level) c.into_vec.ensures c.in_ok-push.ensures.ok in
    let lands = subst (IsLanding c.args.exception.now (frames_in (thread_at c.args.level.now.threads.list c.args.number))) c.in-Some.is c.in_ok-landing.ensures in
    room_to_cut c.args.number c.in-Some.landing.frames c.args.level.now c.push.new.level q c.args.exception.now _ c.len-handler.result c.in-Some.landing.count lands.0 c.len-handler.ensures lands.1

pub returns-clause-unwound : goal.returns-clause-unwound
returns-clause-unwound c =
    let q = subst (λ (fs : List Frame). IsQuiet (with_frames c.args.number (λ stack. fs ++ stack)) c.args.level.now c.push.new.level) c.into_vec.ensures c.in_ok-push.ensures.ok in
    let lands = subst (IsLanding c.args.exception.now (frames_in (thread_at c.args.level.now.threads.list c.args.number))) c.in-Some.is c.in_ok-landing.ensures in (
      c.in-Some.landing.frames ++ drop c.in-Some.landing.count (frames_in (thread_at c.args.level.now.threads.list c.args.number)),
      lands.0,
      caught_quietly c.args.number c.in-Some.landing.frames c.args.level.now c.push.new.level q c.cut.new.level c.len-handler.result c.in-Some.landing.count c.cut.ensures c.len-handler.ensures,
    )

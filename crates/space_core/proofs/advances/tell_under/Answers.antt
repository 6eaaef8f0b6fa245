use Rattle.std.proofs.Common.{◌++◌, List, slice_set, subst}
use Rattle.oz_semantics.specs.Configurations.{with_frames}
use Rattle.oz_semantics.specs.declared.configuration.Frame.{Frame}
use Rattle.space_core.specs.Shown.{IsQuiet}
use Rattle.space_core.specs.Telling.{IsToldAt}
use Rattle.space_core.proofs.AdvanceLaws.{room_to_undo, undone}
use Rattle.space_core.proofs.advances.tell_under.Goals as goal
use Rattle.space_core.proofs.advances.tell_under.Goals.{In_ok-push}

-- the handler stands on the stack
quiet : (c : In_ok-push) → IsQuiet (with_frames c.args.number (λ stack. c.args.handler ++ stack)) c.index_mut.result.now c.push.new.level
quiet c = subst (λ (fs : List Frame). IsQuiet (with_frames c.args.number (λ stack. fs ++ stack)) c.index_mut.result.now c.push.new.level) c.into_vec.ensures c.in_ok-push.ensures.ok

pub cut-requires : goal.cut-requires
cut-requires c =
    room_to_undo c.args.levels.now.items c.args.place c.args.number c.requires.within c.requires.there c.args.handler c.len-height.result c.len-height.ensures c.index_mut.result.now c.push.new.level c.index_mut.ensures.value (quiet (goal.at.cut-requires c).In_ok-push)
    c.tell_at.new.levels.items (subst (IsToldAt c.args.place c.args.tells.now c.args.given.now (slice_set c.args.levels.now.items c.args.place c.push.new.level) c.tell_at.new.levels.items) c.in-Ok-false.field-0-test c.in-Ok-false.ensures.told).left c.index_mut-in-Ok-false.result.now c.index_mut-in-Ok-false.ensures.value

pub cut-requires-in-Err : goal.cut-requires-in-Err
cut-requires-in-Err c =
    room_to_undo c.args.levels.now.items c.args.place c.args.number c.requires.within c.requires.there c.args.handler c.len-height.result c.len-height.ensures c.index_mut.result.now c.push.new.level c.index_mut.ensures.value (quiet (goal.at.cut-requires-in-Err c).In_ok-push)
    c.tell_at.new.levels.items c.in-Err.ensures.err c.index_mut-in-Err.result.now c.index_mut-in-Err.ensures.value

pub returns-in-Ok-false-clause-err : goal.returns-in-Ok-false-clause-err
returns-in-Ok-false-clause-err c =
    undone c.args.levels.now.items c.args.place c.args.number c.requires.within c.requires.there c.args.handler c.len-height.result c.len-height.ensures c.index_mut.result.now c.push.new.level c.index_mut.ensures.value (quiet (goal.at.returns-in-Ok-false-clause-err c).In_ok-push)
    c.tell_at.new.levels.items (subst (IsToldAt c.args.place c.args.tells.now c.args.given.now (slice_set c.args.levels.now.items c.args.place c.push.new.level) c.tell_at.new.levels.items) c.in-Ok-false.field-0-test c.in-Ok-false.ensures.told).left c.index_mut-in-Ok-false.result.now c.index_mut-in-Ok-false.ensures.value c.cut.new.level c.cut.ensures

pub returns-in-Err-clause-err : goal.returns-in-Err-clause-err
returns-in-Err-clause-err c =
    undone c.args.levels.now.items c.args.place c.args.number c.requires.within c.requires.there c.args.handler c.len-height.result c.len-height.ensures c.index_mut.result.now c.push.new.level c.index_mut.ensures.value (quiet (goal.at.returns-in-Err-clause-err c).In_ok-push)
    c.tell_at.new.levels.items c.in-Err.ensures.err c.index_mut-in-Err.result.now c.index_mut-in-Err.ensures.value c.cut-in-Err.new.level c.cut-in-Err.ensures

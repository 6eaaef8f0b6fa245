use Rattle.std.proofs.Common.{◌∙◌, refl}
use Rattle.space_core.proofs.ThroughLaws.{told_some, told_none, refused, none_told, set_back, told_below, fates_within}
use Rattle.space_core.proofs.remaking.tell_all.Goals as goal

pub returns-then-level-clause-err : goal.returns-then-level-clause-err
returns-then-level-clause-err c =
    none_told c.args.levels.now.items c.args.place c.requires c.index_mut-level.result.now c.index_mut-level.result.now c.index_mut-level.ensures.value c.index_mut-level.result.now.constraints refl refl

pub returns-in_err-before-clause-err : goal.returns-in_err-before-clause-err
returns-in_err-before-clause-err c =
    refused c.from_residual.result
    (none_told c.args.levels.now.items c.args.place c.requires c.index_mut-level.result.now c.index_mut-level.result.now c.index_mut-level.ensures.value c.index_mut-level.result.now.constraints refl refl)

pub returns-in_err-noted-clause-err : goal.returns-in_err-noted-clause-err
returns-in_err-noted-clause-err c =
    refused c.from_residual-in_err-noted.result
    (none_told c.args.levels.now.items c.args.place c.requires c.index_mut-level.result.now _ c.index_mut-level.ensures.value c.tell.new.self refl c.in_err-noted.ensures.err)

pub returns-in_default-clause-told : goal.returns-in_default-clause-told
returns-in_default-clause-told c =
    let clash = told_none _ _ c.in_ok-noted.field-0 c.in_default.is c.in_ok-noted.ensures.told in
    record {
      before = c.index_mut-level.result.now;
      read = c.index_mut-level.ensures.value;
      kept = c.if-level.false;
      clash = clash.clash;
      left = none_told c.args.levels.now.items c.args.place c.requires c.index_mut-level.result.now _ c.index_mut-level.ensures.value c.tell.new.self refl clash.left;
    }

pub returns-in_err-fates-clause-err : goal.returns-in_err-fates-clause-err
returns-in_err-fates-clause-err c =
    refused c.from_residual-in_err-fates.result
    (set_back c.args.levels.now.items c.args.place c.requires c.index_mut-level.result.now _ c.index_mut-level.ensures.value c.tell.new.self refl c.args.tells.now c.in-Some.noted.items
    (told_some _ _ c.in_ok-noted.field-0 c.in-Some.noted c.in-Some.is c.in_ok-noted.ensures.told) c.in_ok-before.before (c.in_ok-before.ensures ∙ c.store.ensures) c.fates_or_back.new.levels.items
    c.in_err-fates.ensures.err)

pub meet_all-requires : goal.meet_all-requires
meet_all-requires c =
    fates_within c.args.levels.now.items c.args.place c.requires c.index_mut-level.result.now _ c.index_mut-level.ensures.value c.tell.new.self refl c.args.tells.now c.in-Some.noted.items
    (told_some _ _ c.in_ok-noted.field-0 c.in-Some.noted c.in-Some.is c.in_ok-noted.ensures.told) c.in_ok-fates.fates.items c.fates_or_back.new.levels.items c.in_ok-fates.ensures.fates c.note.new.level

pub returns-clause-told : goal.returns-clause-told
returns-clause-told c =
    told_below c.args.levels.now.items c.args.place c.requires c.index_mut-level.result.now _ c.index_mut-level.ensures.value c.tell.new.self refl c.args.tells.now c.in-Some.noted.items
    (told_some _ _ c.in_ok-noted.field-0 c.in-Some.noted c.in-Some.is c.in_ok-noted.ensures.told) c.args.home c.in_ok-fates.fates.items c.fates_or_back.new.levels.items c.in_ok-fates.ensures.fates
    c.index_mut.result.now c.note.new.level c.index_mut.ensures.value c.note.ensures c.if-level.false c.meet_all.new.levels.items c.meet_all.ensures

use Rattle.std.proofs.Common.{◌≡◌, ◌++◌, ◌∙◌, List, length, ap, false, slice_set, subst}
use Rattle.oz_semantics.specs.Store.{is_consistent}
use Rattle.oz_semantics.specs.declared.configuration.Propagator.{Propagator}
use Rattle.space_core.specs.Telling.{IsToldThrough}
use Rattle.space_core.specs.declared.level.Level.{Level}
use Rattle.space_core.proofs.AdvanceLaws.{told_at, restored, given_level}
use Rattle.space_core.proofs.advances.tell_giving.Goals as goal

pub returns-in-Ok-true-clause-told : goal.returns-in-Ok-true-clause-told
returns-in-Ok-true-clause-told c =
    told_at c.args.levels.now.items c.args.place c.requires c.args.given.now c.index_mut.result.now c.give.new.level c.index_mut.ensures.value c.in_ok-objects.ensures.ok
    c.args.tells.now c.as_slice.result.now c.as_slice.ensures.value c.index.result.now c.index.ensures c.all_home-home.result c.all_home-home.ensures c.tell_through.new.levels.items
    (subst (IsToldThrough c.args.place c.all_home-home.result c.args.tells.now (slice_set c.args.levels.now.items c.args.place c.give.new.level) c.tell_through.new.levels.items) c.in-Ok-true.field-0-test c.in-Ok-true.ensures.told)

pub returns-in-Ok-false-clause-told : goal.returns-in-Ok-false-clause-told
returns-in-Ok-false-clause-told c =
    let told = subst (IsToldThrough c.args.place c.all_home-home.result c.args.tells.now (slice_set c.args.levels.now.items c.args.place c.give.new.level) c.tell_through.new.levels.items) c.in-Ok-false.field-0-test c.in-Ok-false.ensures.told in
    record {
      before = c.index-level.result.now;
      read = c.index-level.ensures;
      kept = subst (λ (k : Level). k.bare ≡ false)
          (given_level c.args.levels.now.items c.args.place c.requires c.args.given.now c.index-level.result.now c.index_mut.result.now c.give.new.level c.index-level.ensures c.index_mut.ensures.value
          c.in_ok-objects.ensures.ok c.tell_through.new.levels.items told.left told.before told.read)
          told.kept;
      clash = subst (λ (k : Level). is_consistent (k.constraints.store ++ c.args.tells.now) ≡ false)
          (given_level c.args.levels.now.items c.args.place c.requires c.args.given.now c.index-level.result.now c.index_mut.result.now c.give.new.level c.index-level.ensures c.index_mut.ensures.value
          c.in_ok-objects.ensures.ok c.tell_through.new.levels.items told.left told.before told.read)
          told.clash;
      left = restored c.args.levels.now.items c.args.place c.requires c.args.given.now c.index-level.result.now c.index_mut.result.now c.give.new.level c.index-level.ensures c.index_mut.ensures.value
          c.in_ok-objects.ensures.ok c.tell_through.new.levels.items told.left c.index_mut-in-Ok-false.result.now c.index_mut-in-Ok-false.ensures.value c.in_ok-objects.objects c.in_ok-objects.ensures.before c.len-posted.result (c.len-posted.ensures ∙ ap (λ (ps : List Propagator). length ps) c.propagators.ensures) c.set_back.new.level c.set_back.ensures;
    }

pub returns-in-Err-clause-err : goal.returns-in-Err-clause-err
returns-in-Err-clause-err c =
    restored c.args.levels.now.items c.args.place c.requires c.args.given.now c.index-level.result.now c.index_mut.result.now c.give.new.level c.index-level.ensures c.index_mut.ensures.value
    c.in_ok-objects.ensures.ok c.tell_through.new.levels.items c.in-Err.ensures.err c.index_mut-in-Err.result.now c.index_mut-in-Err.ensures.value c.in_ok-objects.objects c.in_ok-objects.ensures.before c.len-posted.result (c.len-posted.ensures ∙ ap (λ (ps : List Propagator). length ps) c.propagators.ensures) c.set_back-in-Err.new.level c.set_back-in-Err.ensures

use Rattle.std.proofs.Common.{slice_set, refl, ◌∙◌}
use Rattle.oz_semantics.specs.Configurations.{layer_of}
use Rattle.renamed_terms.specs.Meanings.{renaming_of}
use Rattle.space_core.proofs.AdvanceLaws.{place_by}
use Rattle.space_core.proofs.MergeTold.{layer_named, by_is, tells_is, alone_joined, put_same, merge_clash, merge_sound, merge_edited}
use Rattle.space_core.proofs.levels.Levels.take_in.Goals as goal

pub returns-then-not-branch-clause-told : goal.returns-then-not-branch-clause-told
returns-then-not-branch-clause-told c =
    merge_clash c.self.inside.levels.items c.args.self.now c.self.view_is c.self.invariant c.args.id.now c.in-Some.place
    (place_by c.as_slice.ensures.value c.args.id.now.space c.in-Some.place c.in-Some.ensures) c.args.child.now c.requires c.args.variable
    (renaming_of c.in_ok-by.by)
    (alone_joined c.in_ok-by.by c.args.id.now.number c.in-Some.place c.join_told.new.levels.items
    (layer_named c.self.inside.levels.items c.args.self.now c.self.view_is c.args.child.now c.in-Some-level_place.inner (place_by c.as_slice-2.ensures.value c.args.child.now c.in-Some-level_place.inner c.in-Some-level_place.ensures) c.index-level.result.now c.index-level.ensures) (c.in_ok-levels.ensures ∙ c.as_slice-3.ensures.value)
    (c.as_slice-4.ensures.value ∙ tells_is c.in_ok-by.by c.index-level.result.now (layer_of c.args.self.now c.args.child.now) (layer_of c.args.self.now c.args.id.now.space) c.args.variable
    (layer_named c.self.inside.levels.items c.args.self.now c.self.view_is c.args.child.now c.in-Some-level_place.inner (place_by c.as_slice-2.ensures.value c.args.child.now c.in-Some-level_place.inner c.in-Some-level_place.ensures) c.index-level.result.now c.index-level.ensures)
    (by_is c.in_ok-by.by c.index-level.result.now c.index.result.now (layer_of c.args.self.now c.args.child.now) (layer_of c.args.self.now c.args.id.now.space)
    (layer_named c.self.inside.levels.items c.args.self.now c.self.view_is c.args.child.now c.in-Some-level_place.inner (place_by c.as_slice-2.ensures.value c.args.child.now c.in-Some-level_place.inner c.in-Some-level_place.ensures) c.index-level.result.now c.index-level.ensures)
    (layer_named c.self.inside.levels.items c.args.self.now c.self.view_is c.args.id.now.space c.in-Some.place (place_by c.as_slice.ensures.value c.args.id.now.space c.in-Some.place c.in-Some.ensures) c.index.result.now c.index.ensures) c.in_ok-by.ensures) c.in_ok-tells.tells.items c.in_ok-tells.ensures) c.if-not-branch.true c.in_ok-join_told.ensures) c.args.self.now refl

pub invariant_of-self : goal.invariant_of-self
invariant_of-self c =
    merge_sound c.self.inside.levels.items c.args.self.now c.self.view_is c.self.invariant c.args.id.now c.in-Some.place
    (place_by c.as_slice.ensures.value c.args.id.now.space c.in-Some.place c.in-Some.ensures) c.args.child.now c.requires c.args.variable
    c.in_ok-by.by
    (by_is c.in_ok-by.by c.index-level.result.now c.index.result.now (layer_of c.args.self.now c.args.child.now) (layer_of c.args.self.now c.args.id.now.space)
    (layer_named c.self.inside.levels.items c.args.self.now c.self.view_is c.args.child.now c.in-Some-level_place.inner (place_by c.as_slice-2.ensures.value c.args.child.now c.in-Some-level_place.inner c.in-Some-level_place.ensures) c.index-level.result.now c.index-level.ensures)
    (layer_named c.self.inside.levels.items c.args.self.now c.self.view_is c.args.id.now.space c.in-Some.place (place_by c.as_slice.ensures.value c.args.id.now.space c.in-Some.place c.in-Some.ensures) c.index.result.now c.index.ensures) c.in_ok-by.ensures) c.join_told.new.levels.items
    (alone_joined c.in_ok-by.by c.args.id.now.number c.in-Some.place c.join_told.new.levels.items
    (layer_named c.self.inside.levels.items c.args.self.now c.self.view_is c.args.child.now c.in-Some-level_place.inner (place_by c.as_slice-2.ensures.value c.args.child.now c.in-Some-level_place.inner c.in-Some-level_place.ensures) c.index-level.result.now c.index-level.ensures) (c.in_ok-levels.ensures ∙ c.as_slice-3.ensures.value)
    (c.as_slice-4.ensures.value ∙ tells_is c.in_ok-by.by c.index-level.result.now (layer_of c.args.self.now c.args.child.now) (layer_of c.args.self.now c.args.id.now.space) c.args.variable
    (layer_named c.self.inside.levels.items c.args.self.now c.self.view_is c.args.child.now c.in-Some-level_place.inner (place_by c.as_slice-2.ensures.value c.args.child.now c.in-Some-level_place.inner c.in-Some-level_place.ensures) c.index-level.result.now c.index-level.ensures)
    (by_is c.in_ok-by.by c.index-level.result.now c.index.result.now (layer_of c.args.self.now c.args.child.now) (layer_of c.args.self.now c.args.id.now.space)
    (layer_named c.self.inside.levels.items c.args.self.now c.self.view_is c.args.child.now c.in-Some-level_place.inner (place_by c.as_slice-2.ensures.value c.args.child.now c.in-Some-level_place.inner c.in-Some-level_place.ensures) c.index-level.result.now c.index-level.ensures)
    (layer_named c.self.inside.levels.items c.args.self.now c.self.view_is c.args.id.now.space c.in-Some.place (place_by c.as_slice.ensures.value c.args.id.now.space c.in-Some.place c.in-Some.ensures) c.index.result.now c.index.ensures) c.in_ok-by.ensures) c.in_ok-tells.tells.items c.in_ok-tells.ensures) c.if-not-branch.false c.in_ok-join_told.ensures)
    c.drop_below.new.levels.items c.drop_below.ensures c.in-Some-changed_place.left (place_by c.as_slice-5.ensures.value c.args.child.now c.in-Some-changed_place.left c.in-Some-changed_place.ensures)
    c.index_mut.result.now c.merge_away.new.level c.index_mut.ensures.value c.merge_away.ensures
    c.add_all_renamed.new.levels.items (put_same c.in_ok-by.by (slice_set c.drop_below.new.levels.items c.in-Some-changed_place.left c.merge_away.new.level) c.add_all_renamed.new.levels.items c.as_slice-6.ensures.value c.in_ok-add_all_renamed.ensures)
    c.remake.new.levels.items c.in_ok-remake.ensures.ok

pub returns-clause-told : goal.returns-clause-told
returns-clause-told c =
    merge_edited c.self.inside.levels.items c.args.self.now c.self.view_is c.self.invariant c.args.id.now c.in-Some.place
    (place_by c.as_slice.ensures.value c.args.id.now.space c.in-Some.place c.in-Some.ensures) c.args.child.now c.requires c.args.variable
    c.in_ok-by.by
    (by_is c.in_ok-by.by c.index-level.result.now c.index.result.now (layer_of c.args.self.now c.args.child.now) (layer_of c.args.self.now c.args.id.now.space)
    (layer_named c.self.inside.levels.items c.args.self.now c.self.view_is c.args.child.now c.in-Some-level_place.inner (place_by c.as_slice-2.ensures.value c.args.child.now c.in-Some-level_place.inner c.in-Some-level_place.ensures) c.index-level.result.now c.index-level.ensures)
    (layer_named c.self.inside.levels.items c.args.self.now c.self.view_is c.args.id.now.space c.in-Some.place (place_by c.as_slice.ensures.value c.args.id.now.space c.in-Some.place c.in-Some.ensures) c.index.result.now c.index.ensures) c.in_ok-by.ensures) c.join_told.new.levels.items
    (alone_joined c.in_ok-by.by c.args.id.now.number c.in-Some.place c.join_told.new.levels.items
    (layer_named c.self.inside.levels.items c.args.self.now c.self.view_is c.args.child.now c.in-Some-level_place.inner (place_by c.as_slice-2.ensures.value c.args.child.now c.in-Some-level_place.inner c.in-Some-level_place.ensures) c.index-level.result.now c.index-level.ensures) (c.in_ok-levels.ensures ∙ c.as_slice-3.ensures.value)
    (c.as_slice-4.ensures.value ∙ tells_is c.in_ok-by.by c.index-level.result.now (layer_of c.args.self.now c.args.child.now) (layer_of c.args.self.now c.args.id.now.space) c.args.variable
    (layer_named c.self.inside.levels.items c.args.self.now c.self.view_is c.args.child.now c.in-Some-level_place.inner (place_by c.as_slice-2.ensures.value c.args.child.now c.in-Some-level_place.inner c.in-Some-level_place.ensures) c.index-level.result.now c.index-level.ensures)
    (by_is c.in_ok-by.by c.index-level.result.now c.index.result.now (layer_of c.args.self.now c.args.child.now) (layer_of c.args.self.now c.args.id.now.space)
    (layer_named c.self.inside.levels.items c.args.self.now c.self.view_is c.args.child.now c.in-Some-level_place.inner (place_by c.as_slice-2.ensures.value c.args.child.now c.in-Some-level_place.inner c.in-Some-level_place.ensures) c.index-level.result.now c.index-level.ensures)
    (layer_named c.self.inside.levels.items c.args.self.now c.self.view_is c.args.id.now.space c.in-Some.place (place_by c.as_slice.ensures.value c.args.id.now.space c.in-Some.place c.in-Some.ensures) c.index.result.now c.index.ensures) c.in_ok-by.ensures) c.in_ok-tells.tells.items c.in_ok-tells.ensures) c.if-not-branch.false c.in_ok-join_told.ensures)
    c.drop_below.new.levels.items c.drop_below.ensures c.in-Some-changed_place.left (place_by c.as_slice-5.ensures.value c.args.child.now c.in-Some-changed_place.left c.in-Some-changed_place.ensures)
    c.index_mut.result.now c.merge_away.new.level c.index_mut.ensures.value c.merge_away.ensures
    c.add_all_renamed.new.levels.items (put_same c.in_ok-by.by (slice_set c.drop_below.new.levels.items c.in-Some-changed_place.left c.merge_away.new.level) c.add_all_renamed.new.levels.items c.as_slice-6.ensures.value c.in_ok-add_all_renamed.ensures)
    c.remake.new.levels.items c.in_ok-remake.ensures.ok

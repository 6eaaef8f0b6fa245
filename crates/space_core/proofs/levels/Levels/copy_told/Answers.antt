use Rattle.std.proofs.Common.{ℕ, List, [], ◌∷◌, ap, ◌∙◌, refl}
use Rattle.oz_semantics.specs.declared.value.Tell.TheVariants.{Is}
use Rattle.oz_semantics.specs.declared.value.Value.TheVariants as value
use Rattle.space_core.specs.Anew.{counting_by}
use Rattle.space_core.proofs.AdvanceLaws.{place_by}
use Rattle.space_core.proofs.CopyTold.{copy_named, alone_by, put_by, copy_clash, copy_sound, copy_edited}
use Rattle.space_core.proofs.levels.Levels.copy_told.Goals as goal

pub returns-then-not-branch-clause-told : goal.returns-then-not-branch-clause-told
returns-then-not-branch-clause-told c =
    copy_clash c.self.inside.levels.items c.args.self.now c.self.view_is c.self.invariant c.args.id.now c.in-Some.place
    (place_by c.as_slice.ensures.value c.args.id.now.space c.in-Some.place c.in-Some.ensures) c.args.child.now c.requires c.args.variable c.in_ok-copy.copy
    (copy_named c.self.inside.levels.items c.args.self.now c.self.view_is c.args.id.now.space c.in-Some.place (place_by c.as_slice.ensures.value c.args.id.now.space c.in-Some.place c.in-Some.ensures)
    c.index.result.now c.index.ensures c.in_ok-copy.copy c.in_ok-copy.ensures)
    c.in_ok-tells.tells.items (c.in_ok-tells.ensures ∙ ap (λ (p : List ℕ). Is c.args.variable (value.Space p) ∷ []) c.in_ok-copied.ensures)
    (alone_by (counting_by c.args.id.now.number) c.in-Some.place c.count_told.new.levels.items (c.in_ok-levels.ensures ∙ c.as_slice-2.ensures.value) c.as_slice-3.ensures.value c.if-not-branch.true c.in_ok-count_told.ensures) c.args.self.now refl

pub invariant_of-self : goal.invariant_of-self
invariant_of-self c =
    copy_sound c.self.inside.levels.items c.args.self.now c.self.view_is c.self.invariant c.args.id.now c.in-Some.place
    (place_by c.as_slice.ensures.value c.args.id.now.space c.in-Some.place c.in-Some.ensures) c.args.child.now c.requires c.args.variable c.in_ok-copy.copy
    (copy_named c.self.inside.levels.items c.args.self.now c.self.view_is c.args.id.now.space c.in-Some.place (place_by c.as_slice.ensures.value c.args.id.now.space c.in-Some.place c.in-Some.ensures)
    c.index.result.now c.index.ensures c.in_ok-copy.copy c.in_ok-copy.ensures)
    c.in_ok-tells.tells.items (c.in_ok-tells.ensures ∙ ap (λ (p : List ℕ). Is c.args.variable (value.Space p) ∷ []) c.in_ok-copied.ensures)
    c.count_told.new.levels.items
    (alone_by (counting_by c.args.id.now.number) c.in-Some.place c.count_told.new.levels.items (c.in_ok-levels.ensures ∙ c.as_slice-2.ensures.value) c.as_slice-3.ensures.value c.if-not-branch.false c.in_ok-count_told.ensures)
    c.add_all_renamed.new.levels.items (put_by c.in_ok-copy.copy c.count_told.new.levels.items c.add_all_renamed.new.levels.items c.in_ok-copied-2.ensures c.as_slice-4.ensures.value c.in_ok-add_all_renamed.ensures)
    c.remake.new.levels.items c.in_ok-remake.ensures.ok

pub returns-clause-told : goal.returns-clause-told
returns-clause-told c =
    copy_edited c.self.inside.levels.items c.args.self.now c.self.view_is c.self.invariant c.args.id.now c.in-Some.place
    (place_by c.as_slice.ensures.value c.args.id.now.space c.in-Some.place c.in-Some.ensures) c.args.child.now c.requires c.args.variable c.in_ok-copy.copy
    (copy_named c.self.inside.levels.items c.args.self.now c.self.view_is c.args.id.now.space c.in-Some.place (place_by c.as_slice.ensures.value c.args.id.now.space c.in-Some.place c.in-Some.ensures)
    c.index.result.now c.index.ensures c.in_ok-copy.copy c.in_ok-copy.ensures)
    c.in_ok-tells.tells.items (c.in_ok-tells.ensures ∙ ap (λ (p : List ℕ). Is c.args.variable (value.Space p) ∷ []) c.in_ok-copied.ensures)
    c.count_told.new.levels.items
    (alone_by (counting_by c.args.id.now.number) c.in-Some.place c.count_told.new.levels.items (c.in_ok-levels.ensures ∙ c.as_slice-2.ensures.value) c.as_slice-3.ensures.value c.if-not-branch.false c.in_ok-count_told.ensures)
    c.add_all_renamed.new.levels.items (put_by c.in_ok-copy.copy c.count_told.new.levels.items c.add_all_renamed.new.levels.items c.in_ok-copied-2.ensures c.as_slice-4.ensures.value c.in_ok-add_all_renamed.ensures)
    c.remake.new.levels.items c.in_ok-remake.ensures.ok

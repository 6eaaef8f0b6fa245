use Rattle.std.proofs.Common.{◌≡◌, ◌≤◌, ◌&&◌, ◌∙◌, true, false, List, Some, Contains, length, slice_get, arith, subst, sym}
use Rattle.std.proofs.lemmas.List.{take_all}
use Rattle.oz_base.specs.declared.names.Ident.{Ident}
use Rattle.oz_semantics.specs.Store.{same}
use Rattle.suspension.specs.Changes.{is_key, Finds}
use Rattle.suspension.proofs.KeyLaws.{finds_here, finds_none, none_more}
use Rattle.suspension.proofs.sleepers.Sleepers.look.Goals as goal

pub returns-then-is_equal_key : goal.returns-then-is_equal_key
returns-then-is_equal_key c =
    let here : (is_key c.args.self.now c.in-Some.key.now && same c.args.store.now c.args.variable.now c.in-Some.key.now) ≡ true =
    sym c.is_equal_key.ensures ∙ c.if-is_equal_key.true in
    subst (λ (k : Ident). Finds c.args.store.now c.args.self.now c.args.variable.now (Some k)) (sym c.in_ok-copied.ensures)
    (finds_here c.args.store.now c.args.self.now c.args.variable.now c.in-Some.key.now here)

pub keys-preserved : goal.keys-preserved
keys-preserved c =
    let at : slice_get c.args.self.now.variables c.keys.place ≡ Some c.in-Some.key.now = sym c.in-Some.ensures in
    let no : (is_key c.args.self.now c.in-Some.key.now && same c.args.store.now c.args.variable.now c.in-Some.key.now) ≡ false =
    sym c.is_equal_key.ensures ∙ c.if-is_equal_key.false in
    none_more (λ k. is_key c.args.self.now k && same c.args.store.now c.args.variable.now k) c.args.self.now.variables c.keys.place c.in-Some.key.now at no c.keys.invariant

pub returns : goal.returns
returns c =
    let all : length c.args.self.now.variables ≤ c.keys.place = omega (arith, c.keys-test.false, c.len-place-end.ensures) in
    finds_none c.args.store.now c.args.self.now c.args.variable.now
    (λ k m. c.keys.invariant k (subst (λ (xs : List Ident). Contains xs k) (sym (take_all c.keys.place c.args.self.now.variables all)) m))

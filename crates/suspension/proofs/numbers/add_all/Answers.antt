use Rattle.std.proofs.Common.{◌≡◌, ◌++◌, ◌∷◌, [], List, ℕ, Some, take, slice_get, append_assoc, sym, ap, ◌∙◌}
use Rattle.suspension.proofs.KeyLaws.{taken}
use Rattle.suspension.proofs.numbers.add_all.Goals as goal

pub items-preserved : goal.items-preserved
items-preserved c =
    let at : slice_get c.args.list.now c.items.place ≡ Some c.in-Some.number.now = sym c.in-Some.ensures in
    c.in_ok-push.ensures.items ∙ ap (λ (xs : List ℕ). xs ++ c.in-Some.number.now ∷ []) c.items.invariant
    ∙ append_assoc c.args.numbers.now.items (take c.items.place c.args.list.now) (c.in-Some.number.now ∷ [])
    ∙ ap (λ (xs : List ℕ). c.args.numbers.now.items ++ xs) (sym (taken c.args.list.now c.items.place c.in-Some.number.now at))

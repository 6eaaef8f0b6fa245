use Rattle.std.proofs.Common.{◌∙◌, refl, sym, subst, ap}
use Rattle.oz_semantics.specs.Store.{value_of}
use Rattle.tree_equal.specs.Answers.{IsEquality, Decides, unless}
use Rattle.oz_semantics.specs.Entailment.{equality}
use Rattle.tree_equal.proofs.AtOnce.{one_class, at_once, where_bare}
use Rattle.tree_equal.proofs.equality.test.Goals as goal

pub returns-then-same : goal.returns-then-same
returns-then-same c = one_class c.args.store.now c.args.left.now c.args.right.now c.consistent.ensures (sym c.same.ensures ∙ c.if-same.true)

pub returns-in-Some : goal.returns-in-Some
returns-in-Some c =
    let store = c.args.store.now in
    let x = c.args.left.now in
    let y = c.args.right.now in
    let is = at_once store x y c.consistent.ensures (value_of store x) (value_of store y) c.in-Some.equal refl refl
    (subst (Decides (value_of store x) (value_of store y)) c.in-Some.is c.at_once.ensures) in
    subst (λ e. IsEquality store e c.decided.result) (sym is) (c.decided.ensures store)

pub returns-then-one_is_bare : goal.returns-then-one_is_bare
returns-then-one_is_bare c =
    let store = c.args.store.now in
    let x = c.args.left.now in
    let y = c.args.right.now in
    let free = where_bare store x y c.consistent.ensures (sym c.same.ensures ∙ c.if-same.false) (sym c.one_is_bare.ensures ∙ c.if-one_is_bare.true) in
    subst (IsEquality store (equality store x y)) (sym (c.unless.ensures ∙ ap unless c.in_ok-undetermined.ensures)) free

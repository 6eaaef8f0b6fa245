-- Whether a wait is for variables that are held depends on the classes of what is waited for alone.
use Rattle.std.proofs.Common.{◌≡◌, ◌&&◌, Bool, true, false, not, List, refl, sym, ap, ap₂, ◌∙◌}
use Rattle.std.specs.Prelude.{is_some}
use Rattle.std.specs.List.{list_any}
use Rattle.std.proofs.lemmas.List.Folds.{Any-from_list_any, list_any-from_Any}
use Rattle.oz_base.specs.declared.names.Ident.{Ident}
use Rattle.oz_semantics.specs.Store.{View, Same, itself, reversed, joined, same, is_determined}
use Rattle.oz_semantics.specs.Spaces.{is_held}
use Rattle.oz_laws.proofs.SameLaws.{tests_same}
use Rattle.oz_laws.proofs.StoreLaws.{value_row}
use Rattle.tree_equal.specs.Answers.{SameClasses}

determined_same : (view : View) (x y : Ident) → Same view x y → is_determined view x ≡ is_determined view y
determined_same view x y s = ap is_some (value_row view x y s)

-- two tests of which each passes where the other does
alike_bools : (a b : Bool) → (a ≡ true → b ≡ true) → (b ≡ true → a ≡ true) → a ≡ b
alike_bools true b f g = sym (f refl)
alike_bools false true f g = g refl
alike_bools false false f g = refl

same_class : (view : View) (x y : Ident) → Same view x y → (z : Ident) → same view x z ≡ same view y z
same_class view x y s z =
    alike_bools _ _ (λ e. (tests_same view y z).1 (joined (reversed s) ((tests_same view x z).0 e)))
    (λ e. (tests_same view x z).1 (joined s ((tests_same view y z).0 e)))

held_same : (view : View) (held : List Ident) (x y : Ident) → Same view x y → is_held view held x ≡ is_held view held y
held_same view held x y s =
    ap₂ (λ (determined any : Bool). not determined && any) (determined_same view x y s) (ap (λ (test : Ident → Bool). list_any test held) (λ i z. same_class view x y s z i))

held_forward : (view : View) (held xs ys : List Ident) → SameClasses view xs ys → list_any (is_held view held) xs ≡ true → list_any (is_held view held) ys ≡ true
held_forward view held xs ys classes e =
    let found = Any-from_list_any (is_held view held) xs e in
    let x = found.1 in
    let there = sym (classes x) ∙ list_any-from_Any (same view x) xs (found.0, x, found.2, found.3, (tests_same view x x).1 itself) in
    let other = Any-from_list_any (same view x) ys there in
    let y = other.1 in
    list_any-from_Any (is_held view held) ys (other.0, y, other.2, other.3, sym (held_same view held x y ((tests_same view x y).0 other.4)) ∙ found.4)

-- lists of the same classes are waits for the same
pub held_by_classes : (view : View) (held xs ys : List Ident) → SameClasses view xs ys → list_any (is_held view held) xs ≡ list_any (is_held view held) ys
held_by_classes view held xs ys classes =
    alike_bools _ _ (held_forward view held xs ys classes) (held_forward view held ys xs (λ z. sym (classes z)))

-- Marked classes.
use Rattle.std.proofs.Common.{◌≡◌, ℕ, Bool, true, false, ◌||◌, if◌then◌else◌, List, [], ◌∷◌, ◌++◌, Option, Some, None, is_some, refl, sym, ap, ◌∙◌}
use Rattle.std.proofs.lemmas.List.Folds.{list_any-append}
use Rattle.std.specs.List.{list_any}
use Rattle.ident_map.specs.Entries.{entry}
use Rattle.ident_map.specs.declared.map.Row.{Row}
use Rattle.oz_base.specs.Names.{ident_eq}
use Rattle.oz_base.specs.declared.names.Ident.{Ident}
use Rattle.oz_semantics.specs.Store.{View, same}
use Rattle.oz_laws.proofs.SameLaws.{ident_eq-true, ident_eq-refl}
use Rattle.fd_domain.proofs.SetLaws.{same_bool}
use Rattle.term_store.specs.Classes.{Table, root_in, IsPartition}
use Rattle.fd_inputs.specs.News.{Marks}

eq_is : (x y : Ident) → x ≡ y → ident_eq x y ≡ true
eq_is x y e = ap (ident_eq x) (sym e) ∙ ident_eq-refl x

same_eq : (x y : Ident) → ident_eq x y ≡ ident_eq y x
same_eq x y = same_bool (ident_eq x y) (ident_eq y x) (λ h. eq_is y x (sym (ident_eq-true x y h))) (λ h. eq_is x y (sym (ident_eq-true y x h)))

-- variables are equal where one stands for both
one_class : (view : View) (t : Table) → IsPartition view t → (x z : Ident) → same view x z ≡ ident_eq (root_in t z) (root_in t x)
one_class view t p x z =
    same_bool (same view x z) (ident_eq (root_in t z) (root_in t x))
    (λ h. eq_is (root_in t z) (root_in t x) (sym ((p.classes x z).0 h)))
    (λ h. (p.classes x z).1 (sym (ident_eq-true (root_in t z) (root_in t x) h)))

any_class : (view : View) (t : Table) → IsPartition view t → (x : Ident) (ones : List Ident) → list_any (λ z. ident_eq (root_in t z) (root_in t x)) ones ≡ list_any (same view x) ones
any_class view t p x [] = refl
any_class view t p x (z ∷ ones) =
    ap (λ b. b || list_any (λ y. ident_eq (root_in t y) (root_in t x)) ones) (sym (one_class view t p x z)) ∙ ap (λ b. same view x z || b) (any_class view t p x ones)

pub marked_is : (view : View) (t : Table) (ones : List Ident) (marks : List (Row ℕ)) → IsPartition view t → Marks t ones marks → (x : Ident) → is_some (entry marks (root_in t x)) ≡ list_any (same view x) ones
marked_is view t ones marks p m x = m (root_in t x) ∙ any_class view t p x ones

pub no_marks : (t : Table) (marks : List (Row ℕ)) → ((y : Ident) → entry marks y ≡ None) → Marks t [] marks
no_marks t marks h y = ap is_some (h y)

or_false : (b : Bool) → (b || false) ≡ b
or_false true = refl
or_false false = refl

or_swapped : (b c : Bool) → (b || c) ≡ (c || b)
or_swapped true true = refl
or_swapped true false = refl
or_swapped false true = refl
or_swapped false false = refl

given_if : (b : Bool) (o : Option ℕ) → is_some (if b then Some 1 else o) ≡ (b || is_some o)
given_if true o = refl
given_if false o = refl

pub one_mark : (t : Table) (ones : List Ident) (old new : List (Row ℕ)) (x root : Ident) → Marks t ones old → root ≡ root_in t x → ((y : Ident) → entry new y ≡ (if ident_eq y root then Some 1 else entry old y)) → Marks t (ones ++ x ∷ []) new
one_mark t ones old new x root m e h y =
    ap is_some (h y)
    ∙ given_if (ident_eq y root) (entry old y)
    ∙ ap (λ b. b || is_some (entry old y)) (same_eq y root ∙ ap (λ r. ident_eq r y) e)
    ∙ ap (λ b. ident_eq (root_in t x) y || b) (m y)
    ∙ or_swapped (ident_eq (root_in t x) y) (list_any (λ z. ident_eq (root_in t z) y) ones)
    ∙ ap (λ b. list_any (λ z. ident_eq (root_in t z) y) ones || b) (sym (or_false (ident_eq (root_in t x) y)))
    ∙ sym (list_any-append (λ z. ident_eq (root_in t z) y) ones (x ∷ []))

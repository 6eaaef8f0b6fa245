-- The records that are open on the way to a tree: none of them is of its class.
use Rattle.std.proofs.Common.{◌≡◌, ◌∙◌, ℕ, ◌+◌, ◌<◌, ◌≤◌, Bool, true, false, ◌||◌, cond, List, [], ◌∷◌, position, Some, None, refl, ap, arith}
use Rattle.std.specs.List.{list_any, position_from}
use Rattle.std.proofs.lemmas.Iterator.Adapters.{position_from-zero}
use Rattle.oz_base.specs.declared.names.Ident.{Ident}
use Rattle.oz_semantics.specs.Store.{same}
use Rattle.oz_semantics.specs.declared.value.Tell.{Tell}
use Rattle.oz_laws.proofs.SameLaws.{tests_same}
use Rattle.text_laws.specs.Terms.{Term}
use Rattle.print_law.specs.Trees.{IsTree, nodes_of}
use Rattle.print_law.proofs.Classes.{tree_same, only_tree}

-- each of these is a tree of more than k nodes
pub data Inside (view : List Tell) (k : ℕ) : List Ident → Type 0 where
  none_open : Inside view k []
  one_open : {y : Ident} {u : Term} {up : List Ident} → IsTree view y u → k < nodes_of u → Inside view k up → Inside view k (y ∷ up)

pub inside_less : (view : List Tell) (j k : ℕ) {up : List Ident} → j ≤ k → Inside view k up → Inside view j up
inside_less view j k l none_open = none_open
inside_less view j k l (one_open h m hs) = one_open h (omega (arith, l, m)) (inside_less view j k l hs)

larger_apart : (view : List Tell) (x y : Ident) (t u : Term) → IsTree view x t → IsTree view y u → nodes_of t < nodes_of u → same view x y ≡ false
larger_apart view x y t u h k l = by (same view x y) refl
  where
    by : (b : Bool) → same view x y ≡ b → b ≡ false
    by false e = refl
    by true e =
        let one : t ≡ u = only_tree view y t u (tree_same view ((tests_same view x y).0 e) h) k in
        let nodes : nodes_of t ≡ nodes_of u = ap (λ s. nodes_of s) one in
        absurd (omega (arith, l, nodes))

pub is_apart : (view : List Tell) (x : Ident) (t : Term) {up : List Ident} → IsTree view x t → Inside view (nodes_of t) up → list_any (same view x) up ≡ false
is_apart view x t h none_open = refl
is_apart view x t h (one_open {y = y} {u = u} {up = up} k l hs) =
    ap (λ b. b || list_any (same view x) up) (larger_apart view x y t u h k l) ∙ is_apart view x t h hs

none_from : {A : Type 0} (p : A → Bool) (xs : List A) (i : ℕ) → list_any p xs ≡ false → position_from p i xs ≡ None
none_from p [] i e = refl
none_from p (x ∷ xs) i e = by (p x) (none_from p xs (i + 1)) e
  where
    by : (b : Bool) → (list_any p xs ≡ false → position_from p (i + 1) xs ≡ None) → (b || list_any p xs) ≡ false → cond b (Some i) (position_from p (i + 1) xs) ≡ None
    by true rest f = absurd (cc)
    by false rest f = rest f

pub no_position : {A : Type 0} (p : A → Bool) (xs : List A) → list_any p xs ≡ false → position p xs ≡ None
no_position p xs e = position_from-zero p xs ∙ none_from p xs 0 e

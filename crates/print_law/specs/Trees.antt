-- The finite trees that a view gives to variables.
use Rattle.std.specs.Prelude.{ℕ, suc, ◌+◌, ◌≡◌, List, [], ◌∷◌, Some}
use Rattle.oz_base.specs.declared.names.Ident.{Ident}
use Rattle.oz_language.specs.declared.kernel.Constant.{Constant}
use Rattle.oz_semantics.specs.Store.{value_of}
use Rattle.oz_semantics.specs.declared.value.Record.{Record}
use Rattle.oz_semantics.specs.declared.value.Value.TheVariants as value
use Rattle.oz_semantics.specs.declared.value.Tell.{Tell}
use Rattle.text_laws.specs.Terms.{Term, Terms, simple, compound, no_term, beside}

mutual
  -- the value of x is a finite tree: an integer, a literal, or a record whose fields are finite trees
  pub data IsTree (view : List Tell) : Ident → Term → Type 0 where
    of_constant : {x : Ident} {c : Constant} → value_of view x ≡ Some (value.Constant c) → IsTree view x (simple c)
    of_record : {x : Ident} {r : Record} {ts : Terms} → value_of view x ≡ Some (value.Record r) → AreTrees view r.fields ts
        → IsTree view x (compound r.label r.features ts)

  -- and so is each of these
  pub data AreTrees (view : List Tell) : List Ident → Terms → Type 0 where
    no_trees : AreTrees view [] no_term
    tree_beside : {x : Ident} {t : Term} {xs : List Ident} {ts : Terms} → IsTree view x t → AreTrees view xs ts
        → AreTrees view (x ∷ xs) (beside t ts)

abbrev mutual
  -- how many integers, literals and records a term has, itself included
  pub nodes_of : Term → ℕ
  nodes_of (simple c) = 1
  nodes_of (compound l fs ts) = suc (nodes_among ts)

  pub nodes_among : Terms → ℕ
  nodes_among no_term = 0
  nodes_among (beside t ts) = nodes_of t + nodes_among ts

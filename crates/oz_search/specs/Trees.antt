-- A tree of choices, and its depth-first traversal (Schulte, LNCS 2302, on search).
use Rattle.std.specs.Prelude.{◌≡◌, ℕ, zero, suc, ◌-◌, ◌≤◌, List, [], ◌∷◌, ◌++◌, Option, Some, None, if◌then◌else◌}
use lib.Dec.{leb}
use Rattle.oz_search.specs.declared.tree.Report.{Report}
use Rattle.oz_search.specs.declared.tree.Kind.{Kind}
use Rattle.oz_search.specs.declared.tree.Kind.TheVariants.{Alternatives, End}
use Rattle.oz_search.specs.Searches.{Search}
use Rattle.oz_search.specs.Paths.{Taking, children}

-- what is known of a node: its kind and its own steps
abbrev pub report : {L : Type 0} → Kind L → ℕ → Report L
report kind steps = record { kind = kind; steps = steps }

-- a tree gives for each path the report of the node there. It gives none where there is no node, or where the node has more steps
-- than there is fuel
abbrev pub Tree : Type 0 → Type 0 → Type 0
Tree B L = List B → Option (Report L)

-- each node has at least one step of its own
abbrev pub Costs : {B L : Type 0} → Tree B L → Type 0
Costs {B} {L} node = (p : List B) (r : Report L) → node p ≡ Some r → 1 ≤ r.steps

-- what a traversal finds, and the fuel that is left. None where the fuel does not suffice
abbrev pub Found : Type 0 → Type 0
Found A = Option (List A × ℕ)

-- the finds xs, and then what was found
abbrev pub with_front : {A : Type 0} → List A → Found A → Found A
with_front xs None = None
with_front xs (Some r) = Some (xs ++ r.0, r.1)

-- what was found, and then what the next part finds with the fuel that is left
abbrev pub then_find : {A : Type 0} → Found A → (ℕ → Found A) → Found A
then_find None next = None
then_find (Some r) next = with_front r.0 (next r.1)

-- several parts, one after another
abbrev pub visit_all : {V A : Type 0} → (V → ℕ → Found A) → List V → ℕ → Found A
visit_all visit [] fuel = Some ([], fuel)
visit_all visit (v ∷ vs) fuel = then_find (visit v fuel) (visit_all visit vs)

-- the steps that were made in place of the fuel that is left
abbrev pub in_steps : {A : Type 0} → ℕ → Found A → Found A
in_steps fuel None = None
in_steps fuel (Some r) = Some (r.0, fuel - r.1)

module _ {B L : Type 0} (k : Search B L) where
  -- a failed node gives no leaf
  abbrev pub leaf_at : List B → L → List (List B × L)
  leaf_at p l = if k.fails l then [] else ((p, l) ∷ [])

  -- what is found below a node of this kind: in a choice what its children have, in a leaf itself
  abbrev pub found_by_kind : Taking B → (List B → ℕ → Found (List B × L)) → List B → Kind L → ℕ → Found (List B × L)
  found_by_kind branch visit p (Alternatives n) fuel = visit_all visit (children branch p n) fuel
  found_by_kind branch visit p (End l) fuel = Some (leaf_at p l, fuel)

  -- the same of the node with its own steps, which it first takes from the fuel
  abbrev pub found_by : Taking B → (List B → ℕ → Found (List B × L)) → List B → Option (Report L) → ℕ → Found (List B × L)
  found_by branch visit p None fuel = None
  found_by branch visit p (Some r) fuel = if leb r.steps fuel then found_by_kind branch visit p r.kind (fuel - r.steps) else None

  -- the tree below p. The bound on the depth does not matter where it is not below the fuel, since each node costs a step
  unfoldable pub explore : Taking B → Tree B L → ℕ → List B → ℕ → Found (List B × L)
  explore branch node zero p fuel = None
  explore branch node (suc bound) p fuel = found_by branch (explore branch node bound) p (node p) fuel

  -- the unfailed leaves of the whole tree from left to right, and the steps of all its nodes. None where these exceed the fuel
  unfoldable pub depth_first : Taking B → Tree B L → ℕ → Found (List B × L)
  depth_first branch node fuel = in_steps fuel (explore branch node fuel [] fuel)

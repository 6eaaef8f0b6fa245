-- Where the names of spaces go.
use Rattle.std.specs.Prelude.{ℕ, ◌+◌, not, ◌&&◌, nat_eq, if◌then◌else◌, List, [], ◌∷◌, ◌++◌, length, drop}
use Rattle.std.specs.List.{starts_with}
use Rattle.oz_base.specs.Lists.{list_eq}

-- the name gives way to another, also at the head of the names of the spaces below it
abbrev pub moved : List ℕ → List ℕ → List ℕ → List ℕ
moved from to space = if starts_with nat_eq space from then to ++ drop (length from) space else space

-- behind the parent's name, the first number greater by so many
abbrev pub raised_child : List ℕ → ℕ → List ℕ → List ℕ
raised_child parent by [] = parent
raised_child parent by (n ∷ ns) = parent ++ (n + by) ∷ ns

-- the spaces below the child are below the parent, behind those that it has, and the child itself keeps its name
abbrev pub merged : List ℕ → List ℕ → ℕ → List ℕ → List ℕ
merged child parent children space =
    if starts_with nat_eq space child && not (list_eq child space) then raised_child parent children (drop (length child) space) else space

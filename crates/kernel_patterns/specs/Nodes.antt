-- The nodes of a pattern, from those of its parts.
use Rattle.std.specs.Prelude.{ℕ, pos, List, [], ◌∷◌, ◌++◌, map}
use Rattle.std.specs.List.{flat_map}
use Rattle.oz_language.specs.Kernels.{Pattern, pieces}
use Rattle.oz_language.specs.Translation.{atom, nil_constant}
use Rattle.oz_language.specs.Wording.{bar_word}
use Rattle.oz_language.specs.declared.kernel.Constant.{Constant}
use Rattle.oz_language.specs.declared.kernel.Constant.TheVariants.{Int, Literal as ConstantLiteral}
use Rattle.oz_language.specs.declared.kernel.Piece.{Piece}
use Rattle.oz_language.specs.declared.kernel.Piece.TheVariants as piece
use Rattle.oz_language.specs.declared.token.Literal.{Literal}

-- each pattern by its nodes
abbrev pub nodes_of : List Pattern → List (List Piece)
nodes_of = map pieces

-- a record has its own node before those of its fields, and without fields it is its label
abbrev pub record_nodes : Literal → List (Constant × List Piece) → List Piece
record_nodes l [] = piece.Constant (ConstantLiteral l) ∷ []
record_nodes l (f ∷ fs) =
    piece.Record l (map (λ (g : Constant × List Piece). g.0) (f ∷ fs)) ∷ flat_map (λ (g : Constant × List Piece). g.1) (f ∷ fs)

-- the node of a cell itself
abbrev pub cell_node : Piece
cell_node = piece.Record (atom bar_word) (Int (pos 1) ∷ Int (pos 2) ∷ [])

-- each element behind the node of its cell
abbrev pub cells_nodes : List (List Piece) → List Piece
cells_nodes [] = []
cells_nodes (p ∷ ps) = cell_node ∷ p ++ cells_nodes ps

-- a list ends in `nil`
abbrev pub list_nodes : List (List Piece) → List Piece
list_nodes ps = cells_nodes ps ++ piece.Constant nil_constant ∷ []

-- a chain ends in its last part
abbrev pub chain_nodes : List (List Piece) → List Piece
chain_nodes [] = piece.Any ∷ []
chain_nodes (p ∷ []) = p
chain_nodes (p ∷ ps) = cell_node ∷ p ++ chain_nodes ps

-- a string is the list of its codes
abbrev pub codes_nodes : List ℕ → List Piece
codes_nodes [] = []
codes_nodes (c ∷ cs) = cell_node ∷ piece.Constant (Int (pos c)) ∷ codes_nodes cs

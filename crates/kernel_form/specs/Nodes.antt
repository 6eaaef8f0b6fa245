-- The text of a pattern by the list of its nodes.
use Rattle.std.specs.Prelude.{ℕ, List, [], ◌∷◌, ◌++◌, codes, map}
use Rattle.oz_language.specs.SimpleTexts.{constant_text, form_of}
use Rattle.oz_language.specs.KernelTexts.{name_text}
use Rattle.oz_language.specs.declared.kernel.Constant.{Constant}
use Rattle.oz_language.specs.declared.kernel.Identifier.{Identifier}
use Rattle.oz_language.specs.declared.kernel.Piece.{Piece}
use Rattle.oz_language.specs.declared.kernel.Piece.TheVariants as piece
use Rattle.oz_language.specs.declared.token.Literal.{Literal}
use Rattle.kernel_form.specs.Fields.{Rest, lead_text, passed, is_enclosed, closing, still_open, opening_text, just_opened}

-- a node inside the records that are open
abbrev pub node_text : List (List ℕ) → List Rest → Piece → List ℕ
node_text words rs (piece.Variable x) = name_text words x
node_text words rs piece.Any = codes "_"
node_text words rs (piece.Constant c) = constant_text words c
node_text words rs (piece.Record l fs) = opening_text words l (form_of words l fs) (is_enclosed rs (form_of words l fs))

-- the records that are open behind a node
abbrev pub open_behind : List (List ℕ) → List Rest → Piece → List Rest
open_behind words rs (piece.Record l fs) = just_opened (form_of words l fs) fs (is_enclosed rs (form_of words l fs)) ∷ passed rs
open_behind words rs p = passed rs

abbrev pub nodes_text : List (List ℕ) → List Rest → List Piece → List ℕ
nodes_text words rs [] = []
nodes_text words rs (p ∷ ps) =
    lead_text words rs ++ (node_text words rs p ++ (closing (open_behind words rs p) ++ nodes_text words (still_open (open_behind words rs p)) ps))

-- a record whose fields are identifiers, as the list of its nodes
abbrev pub record_nodes : Literal → List Constant → List Identifier → List Piece
record_nodes l fs xs = piece.Record l fs ∷ map piece.Variable xs

-- Vectors (CTM 3.4, appendix B): a list, any other record, whose elements are its fields in the order of its arity, or a literal,
-- which has no elements. The spine of a list is waited for cell by cell.
use Rattle.std.specs.Prelude.{ℕ, zero, suc, if◌then◌else◌, is_some, List, [], ◌∷◌, Option, Some, None, length}
use Rattle.std.specs.List.{list_any}
use Rattle.oz_base.specs.declared.names.Ident.{Ident}
use Rattle.oz_semantics.specs.Values.{is_like, atom, pair_in}
use Rattle.oz_language.specs.Wording.{nil_word, bar_word}
use Rattle.oz_semantics.specs.Store.{View, same, value_of}
use Rattle.oz_semantics.specs.Inputs.{Input, Known, OtherKind, known_if, and_further, read}
use Rattle.oz_language.specs.declared.kernel.Constant.TheVariants as constant
use Rattle.oz_semantics.specs.declared.value.Value.{Value}
use Rattle.oz_semantics.specs.declared.value.Value.TheVariants as value

-- the first element, and those behind it
abbrev pub cell_elements : (Ident → Input (List Ident)) → Option (Ident × Ident) → Input (List Ident)
cell_elements rest (Some cell) = and_further (λ xs. Known (cell.0 ∷ xs)) (rest cell.1)
cell_elements rest None = OtherKind

-- a list ends in `nil`
abbrev pub list_in : (Ident → Input (List Ident)) → Value → Input (List Ident)
list_in rest v = if is_like (atom nil_word) v then Known [] else cell_elements rest (pair_in bar_word v)

-- The elements of a list from x on, behind these cells. One that comes back to a cell is no list, and there are no more cells than
-- tells.
abbrev pub list_elements : View → ℕ → List Ident → Ident → Input (List Ident)
list_elements view zero passed x = OtherKind
list_elements view (suc n) passed x =
    if list_any (same view x) passed then OtherKind else read (list_in (list_elements view n (x ∷ passed))) x (value_of view x)

-- the elements of a vector that is no list
abbrev pub elements_in : Value → Option (List Ident)
elements_in (value.Record r) = Some r.fields
elements_in (value.Constant (constant.Literal l)) = Some []
elements_in (value.Constant (constant.Int i)) = None
elements_in (value.Name n) = None
elements_in (value.Procedure p) = None
elements_in (value.Builtin b) = None
elements_in (value.Cell c) = None
elements_in (value.Port p) = None
elements_in (value.Space s) = None

abbrev pub vector_in : View → Ident → Value → Input (List Ident)
vector_in view x v = if is_some (pair_in bar_word v) then list_elements view (suc (length view)) [] x else known_if (elements_in v)

-- the elements of the vector x
abbrev pub vector : View → Ident → Input (List Ident)
vector view x = read (vector_in view x) x (value_of view x)

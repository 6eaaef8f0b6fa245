-- What the machine prints of a finite tree is the text of the tree. It holds in each view, also in one that is not consistent.
use Rattle.std.specs.Prelude.{ℕ, ◌≡◌, true, List}
use Rattle.oz_base.specs.declared.names.Ident.{Ident}
use Rattle.oz_semantics.specs.Texts.{Printed}
use Rattle.oz_semantics.specs.Texts as texts
use Rattle.oz_semantics.specs.declared.value.Tell.{Tell}
use Rattle.text_laws.specs.Terms.{Term, is_value, term_text}
use Rattle.text_laws.specs.Laws.{AreWords, IsReadAs, IsReadAlone}
use Rattle.print_law.specs.Trees.{IsTree, nodes_of}

-- the value of a variable is one tree at most
abbrev pub OneTree : Type 0
OneTree = (view : List Tell) (x : Ident) (t u : Term) → IsTree view x t → IsTree view x u → t ≡ u

-- what is printed is the text of a term, and as many nodes as the term has
pub record IsPrintOf (words : List (List ℕ)) (printed : Printed) (t : Term) : Type 0 where
  pub text : printed.bytes ≡ term_text words t
  pub nodes : printed.nodes ≡ nodes_of t

-- where the value of a variable is a tree, the tree is what is printed: without a mark that refers to a record outside, and never cut off
abbrev pub TreePrinted : Type 0
TreePrinted = (words : List (List ℕ)) (view : List Tell) (x : Ident) (t : Term) → IsTree view x t → IsPrintOf words (texts.term_text words view x) t

-- so what is printed is read as the tree
abbrev pub PrintedRead : Type 0
PrintedRead =
    (words : List (List ℕ)) (view : List Tell) (x : Ident) (t : Term) → AreWords words → IsTree view x t → is_value words t ≡ true
    → IsReadAs words (texts.term_text words view x).bytes t

-- also where it stands alone, with the words of its own tokens
abbrev pub PrintedReadAlone : Type 0
PrintedReadAlone =
    (words : List (List ℕ)) (view : List Tell) (x : Ident) (t : Term) → AreWords words → IsTree view x t → is_value words t ≡ true
    → IsReadAlone words (texts.term_text words view x).bytes t

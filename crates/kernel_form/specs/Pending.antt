-- What is left to print, by the statements themselves: together with what is printed it makes up the whole text.
use Rattle.std.specs.Prelude.{ℕ, suc, ◌≡◌, List, [], ◌∷◌, ◌++◌, Option, Some, None, map, codes, slice_get}
use Rattle.std.specs.List.{flat_map}
use Rattle.oz_language.specs.declared.kernel.Identifier.{Identifier}
use Rattle.oz_language.specs.declared.kernel.Statement.{Statement}
use Rattle.oz_language.specs.Kernels.{Stmt, Stmts, Bodies, numbers, numbers_each, statement_at, listed_inside, listed_all, listed_bodies}
use Rattle.oz_language.specs.KernelTexts.{statement_text, statement_texts, body_texts}
use Rattle.oz_language.specs.SimpleTexts.{gapped}
use Rattle.kernel_form.specs.Whole.{IsWhole, AreWhole, AreWholeBodies}
use Rattle.kernel_form.specs.Entries.{Left, fixed, bodied, branched, caught, catch_text, lined}

-- statements whose inner ones are numbered from n on
pub data Tree : Type 0 where
  fixed_tree : List ℕ → Tree
  body_tree : List ℕ → ℕ → Stmts → Tree
  branches_tree : List ℕ → ℕ → Bodies → Tree
  caught_tree : Identifier → Tree
  lines_tree : ℕ → Stmts → Tree

abbrev pub left_of_tree : Tree → Left
left_of_tree (fixed_tree text) = fixed text
left_of_tree (body_tree gap n ss) = bodied gap (numbers n ss)
left_of_tree (branches_tree gap n bs) = branched gap (numbers_each n bs)
left_of_tree (caught_tree x) = caught x
left_of_tree (lines_tree n ss) = lined (numbers n ss)

-- a gap before the first, and another before each further one
abbrev pub led_by : List ℕ → List ℕ → List (List ℕ) → List ℕ
led_by gap further [] = []
led_by gap further (t ∷ ts) = gap ++ t ++ gapped further ts

abbrev pub lines_text : List (List ℕ) → List ℕ
lines_text ts = flat_map (λ t. t ++ 10 ∷ []) ts

abbrev pub tree_text : List (List ℕ) → Tree → List ℕ
tree_text words (fixed_tree text) = text
tree_text words (body_tree gap n ss) = led_by gap (codes " ") (statement_texts words ss)
tree_text words (branches_tree gap n bs) = led_by gap (codes " [] ") (body_texts words bs)
tree_text words (caught_tree x) = catch_text words x
tree_text words (lines_tree n ss) = lines_text (statement_texts words ss)

abbrev pub trees_text : List (List ℕ) → List Tree → List ℕ
trees_text words [] = []
trees_text words (t ∷ ts) = tree_text words t ++ trees_text words ts

-- statements are in the list at the numbers from n on
abbrev pub Stand : List Statement → ℕ → List Statement → Type 0
Stand all n [] = Unit {0}
Stand all n (s ∷ ss) = (slice_get all n ≡ Some s) × Stand all (suc n) ss

abbrev pub Fits : List Statement → Tree → Type 0
Fits all (fixed_tree text) = Unit {0}
Fits all (body_tree gap n ss) = Stand all n (listed_all n ss) × AreWhole ss
Fits all (branches_tree gap n bs) = Stand all n (listed_bodies n bs) × AreWholeBodies bs
Fits all (caught_tree x) = Unit {0}
Fits all (lines_tree n ss) = Stand all n (listed_all n ss) × AreWhole ss

abbrev pub Fit : List Statement → List Tree → Type 0
Fit all [] = Unit {0}
Fit all (t ∷ ts) = Fits all t × Fit all ts

-- what is printed and what is left make up the text
pub record Leads (words : List (List ℕ)) (all : List Statement) (left : List Left) (out : List ℕ) (text : List ℕ) : Type 0 where
  pub trees : List Tree
  pub same : left ≡ map left_of_tree trees
  pub fit : Fit all trees
  pub made : out ++ trees_text words trees ≡ text

-- what is printed, the statement of this number and what is left behind it make up the text
pub record Finds (words : List (List ℕ)) (all : List Statement) (number : ℕ) (left : List Left) (out : List ℕ) (text : List ℕ) : Type 0 where
  pub base : ℕ
  pub tree : Stmt
  pub trees : List Tree
  pub here : slice_get all number ≡ Some (statement_at base tree)
  pub around : Stand all base (listed_inside base tree)
  pub is_whole : IsWhole tree
  pub same : left ≡ map left_of_tree trees
  pub fit : Fit all trees
  pub made : out ++ (statement_text words tree ++ trees_text words trees) ≡ text

abbrev pub GoesOn : List (List ℕ) → List Statement → Option ℕ → List Left → List ℕ → List ℕ → Type 0
GoesOn words all None left out text = Leads words all left out text
GoesOn words all (Some number) left out text = Finds words all number left out text

-- where no statement is left, the text is printed
abbrev pub Follows : List (List ℕ) → List Statement → Option ℕ → List Left → List ℕ → List ℕ → Type 0
Follows words all None left out text = out ≡ text
Follows words all (Some number) left out text = Finds words all number left out text

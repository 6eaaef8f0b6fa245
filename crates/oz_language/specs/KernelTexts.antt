-- The text of a kernel program (CTM 2.3): one blank between two statements, and each statement of the program itself on a line.
use Rattle.std.specs.Prelude.{ℕ, map, List, [], ◌∷◌, ◌++◌, codes}
use Rattle.std.specs.List.{flat_map}
use Rattle.std.specs.Fmt.{decimal}
use Rattle.oz_language.specs.declared.kernel.Identifier.{Identifier}
use Rattle.oz_language.specs.declared.kernel.Identifier.TheVariants.{Word, Fresh}
use Rattle.oz_language.specs.Kernels.{word_text, Pattern, variable, any, constant, labelled, Patterns, no_pattern, beside, Stmt, skip, fail, local, equate, bind, bind_record, bind_procedure, call, choice, test, matching, no_match, operate, thread, attempt, raise, post, post_times, Stmts, none, followed, Bodies, no_body, body}
use Rattle.oz_language.specs.declared.kernel.LinearTerm.{LinearTerm}
use Rattle.oz_language.specs.declared.kernel.Operation.{Operation}
use Rattle.oz_language.specs.declared.kernel.Operation.TheVariants as operation
use Rattle.oz_language.specs.declared.kernel.Sign.{Sign}
use Rattle.oz_language.specs.declared.kernel.Sign.TheVariants as sign
use Rattle.oz_language.specs.declared.text.Form.{Form}
use Rattle.oz_language.specs.declared.text.Form.TheVariants.{Other}
use Rattle.oz_language.specs.SimpleTexts.{joined, integer_text, constant_text, form_of, record_text}

-- an identifier that the translation made is `_` and its number
abbrev pub name_text : List (List ℕ) → Identifier → List ℕ
name_text words (Word w) = word_text words w
name_text words (Fresh n) = codes "_" ++ decimal n

abbrev pub name_texts : List (List ℕ) → List Identifier → List (List ℕ)
name_texts words xs = map (name_text words) xs

-- an identifier as the field of a record
abbrev pub field_text : List (List ℕ) → Identifier → Form × List ℕ
field_text words x = (Other, name_text words x)

-- what is called by an operator stands in quotes, as it is
abbrev pub operation_text : Operation → List ℕ
operation_text operation.Same = codes "'=='"
operation_text operation.Differs = codes "'\\='"
operation_text operation.Less = codes "'<'"
operation_text operation.AtMost = codes "'=<'"
operation_text operation.Greater = codes "'>'"
operation_text operation.AtLeast = codes "'>='"
operation_text operation.Plus = codes "'+'"
operation_text operation.Minus = codes "'-'"
operation_text operation.Times = codes "'*'"
operation_text operation.Div = codes "'div'"
operation_text operation.Mod = codes "'mod'"
operation_text operation.Select = codes "'.'"
operation_text operation.Bound = codes "'::'"
operation_text operation.BoundEach = codes "':::'"

abbrev pub sign_text : Sign → List ℕ
sign_text sign.Zero = codes "eq"
sign_text sign.NotZero = codes "ne"
sign_text sign.Negative = codes "lt"
sign_text sign.NotPositive = codes "le"

-- a coefficient and its variable
abbrev pub linear_text : List (List ℕ) → LinearTerm → List ℕ
linear_text words t = integer_text t.coefficient ++ codes "*" ++ name_text words t.variable

abbrev mutual
  -- a pattern, with the form of its text
  pub pattern_text : List (List ℕ) → Pattern → Form × List ℕ
  pattern_text words (variable x) = (Other, name_text words x)
  pattern_text words any = (Other, codes "_")
  pattern_text words (constant c) = (Other, constant_text words c)
  pattern_text words (labelled l fs ps) = (form_of words l fs, record_text words l fs (pattern_texts words ps))

  pub pattern_texts : List (List ℕ) → Patterns → List (Form × List ℕ)
  pattern_texts words no_pattern = []
  pattern_texts words (beside p ps) = pattern_text words p ∷ pattern_texts words ps

-- texts with a blank between them
abbrev pub spaced : List (List ℕ) → List ℕ
spaced ts = joined (codes " ") ts

abbrev mutual
  pub statement_text : List (List ℕ) → Stmt → List ℕ
  statement_text words skip = codes "skip"
  statement_text words fail = codes "fail"
  statement_text words (local xs ss) = codes "local " ++ spaced (name_texts words xs) ++ codes " in " ++ spaced (statement_texts words ss) ++ codes " end"
  statement_text words (equate x y) = name_text words x ++ codes "=" ++ name_text words y
  statement_text words (bind x v) = name_text words x ++ codes "=" ++ constant_text words v
  statement_text words (bind_record x l fs xs) = name_text words x ++ codes "=" ++ record_text words l fs (map (field_text words) xs)
  statement_text words (bind_procedure x xs ss) =
      name_text words x ++ codes "=proc {" ++ spaced (codes "$" ∷ name_texts words xs) ++ codes "} " ++ spaced (statement_texts words ss) ++ codes " end"
  statement_text words (call x xs) = codes "{" ++ spaced (name_texts words (x ∷ xs)) ++ codes "}"
  statement_text words (choice bs) = codes "choice " ++ joined (codes " [] ") (body_texts words bs) ++ codes " end"
  statement_text words (test x ss us) =
      codes "if " ++ name_text words x ++ codes " then " ++ spaced (statement_texts words ss) ++ codes " else " ++ spaced (statement_texts words us) ++ codes " end"
  statement_text words (matching x p ss us) =
      codes "case " ++ name_text words x ++ codes " of " ++ (pattern_text words p).1 ++ codes " then " ++ spaced (statement_texts words ss)
      ++ codes " else " ++ spaced (statement_texts words us) ++ codes " end"
  statement_text words no_match = codes "nomatch"
  statement_text words (operate op xs) = codes "{" ++ spaced (operation_text op ∷ name_texts words xs) ++ codes "}"
  statement_text words (thread ss) = codes "thread " ++ spaced (statement_texts words ss) ++ codes " end"
  statement_text words (attempt ss x us) =
      codes "try " ++ spaced (statement_texts words ss) ++ codes " catch " ++ name_text words x ++ codes " then " ++ spaced (statement_texts words us) ++ codes " end"
  statement_text words (raise x) = codes "raise " ++ name_text words x ++ codes " end"
  statement_text words (post s c ts) = codes "post(" ++ spaced (sign_text s ∷ integer_text c ∷ map (linear_text words) ts) ++ codes ")"
  statement_text words (post_times x y z) = codes "post(times " ++ spaced (name_texts words (x ∷ y ∷ z ∷ [])) ++ codes ")"

  pub statement_texts : List (List ℕ) → Stmts → List (List ℕ)
  statement_texts words none = []
  statement_texts words (followed s ss) = statement_text words s ∷ statement_texts words ss

  pub body_texts : List (List ℕ) → Bodies → List (List ℕ)
  body_texts words no_body = []
  body_texts words (body ss bs) = spaced (statement_texts words ss) ∷ body_texts words bs

-- a line for each statement of the program itself
unfoldable pub kernel_text : List (List ℕ) → Stmts → List ℕ
kernel_text words ss = flat_map (λ t. t ++ 10 ∷ []) (statement_texts words ss)

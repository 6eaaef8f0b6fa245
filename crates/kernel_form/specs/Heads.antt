-- What is printed of a statement before its bodies, and what is left of it then.
use Rattle.std.specs.Prelude.{ℕ, List, [], ◌∷◌, ◌++◌, codes, map}
use Rattle.oz_language.specs.SimpleTexts.{integer_text, constant_text}
use Rattle.oz_language.specs.KernelTexts.{name_text, name_texts, operation_text, sign_text, linear_text, spaced}
use Rattle.oz_language.specs.declared.kernel.Identifier.{Identifier}
use Rattle.oz_language.specs.declared.kernel.Statement.{Statement}
use Rattle.oz_language.specs.declared.kernel.Statement.TheVariants as statement
use Rattle.kernel_form.specs.Nodes.{nodes_text, record_nodes}
use Rattle.kernel_form.specs.Entries.{Left, fixed, bodied, branched, caught}

abbrev pub head_text : List (List ℕ) → Statement → List ℕ
head_text words statement.Skip = codes "skip"
head_text words statement.Fail = codes "fail"
head_text words (statement.Local xs b) = codes "local " ++ spaced (name_texts words xs) ++ codes " in "
head_text words (statement.Equate x y) = name_text words x ++ codes "=" ++ name_text words y
head_text words (statement.Bind x v) = name_text words x ++ codes "=" ++ constant_text words v
head_text words (statement.BindRecord x l fs xs) = name_text words x ++ codes "=" ++ nodes_text words [] (record_nodes l fs xs)
head_text words (statement.BindProcedure x xs b) = name_text words x ++ codes "=proc {" ++ spaced (codes "$" ∷ name_texts words xs) ++ codes "} "
head_text words (statement.Call x xs) = codes "{" ++ spaced (name_texts words (x ∷ xs)) ++ codes "}"
head_text words (statement.Choice bs) = codes "choice "
head_text words (statement.If x b c) = codes "if " ++ name_text words x ++ codes " then "
head_text words (statement.Case x ps b c) = codes "case " ++ name_text words x ++ codes " of " ++ nodes_text words [] ps ++ codes " then "
head_text words statement.NoMatch = codes "nomatch"
head_text words (statement.Operate op xs) = codes "{" ++ spaced (operation_text op ∷ name_texts words xs) ++ codes "}"
head_text words (statement.Thread b) = codes "thread "
head_text words (statement.Try b x c) = codes "try "
head_text words (statement.Raise x) = codes "raise " ++ name_text words x ++ codes " end"
head_text words (statement.Post s c ts) = codes "post(" ++ spaced (sign_text s ∷ integer_text c ∷ map (linear_text words) ts) ++ codes ")"
head_text words (statement.PostTimes x y z) = codes "post(times " ++ spaced (name_texts words (x ∷ y ∷ z ∷ [])) ++ codes ")"

abbrev pub block : List ℕ → List Left
block b = bodied [] b ∷ fixed (codes " end") ∷ []

abbrev pub branches : List ℕ → List ℕ → List Left
branches b c = bodied [] b ∷ fixed (codes " else ") ∷ block c

-- the bodies of a `try`, with the identifier between them
abbrev pub attempts : List ℕ → Identifier → List ℕ → List Left
attempts b x c = bodied [] b ∷ caught x ∷ block c

abbrev pub left_in : Statement → List Left
left_in (statement.Local xs b) = block b
left_in (statement.BindProcedure x xs b) = block b
left_in (statement.Choice bs) = branched [] bs ∷ fixed (codes " end") ∷ []
left_in (statement.If x b c) = branches b c
left_in (statement.Case x ps b c) = branches b c
left_in (statement.Thread b) = block b
left_in (statement.Try b x c) = attempts b x c
left_in s = []

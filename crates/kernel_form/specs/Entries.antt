-- What is left to print, by the numbers of statements.
use Rattle.std.specs.Prelude.{ℕ, suc, ◌+◌, List, [], ◌∷◌, ◌++◌, Option, None, length, codes}
use Rattle.oz_base.specs.Lists.{first}
use Rattle.oz_language.specs.declared.kernel.Identifier.{Identifier}
use Rattle.oz_language.specs.KernelTexts.{name_text}
use Rattle.kernel_form.specs.declared.entries.Entry.{Entry}
use Rattle.kernel_form.specs.declared.entries.Entry.TheVariants as entry

pub data Left : Type 0 where
  -- this text
  fixed : List ℕ → Left
  -- statements behind a gap
  bodied : List ℕ → List ℕ → Left
  -- alternatives behind a gap
  branched : List ℕ → List (List ℕ) → Left
  -- ` catch X then `
  caught : Identifier → Left
  -- statements, each with an end of line
  lined : List ℕ → Left

abbrev pub left_of : Entry → Left
left_of (entry.Text text) = fixed text.now
left_of (entry.Body gap numbers) = bodied gap.now numbers.now
left_of (entry.Alternatives gap bodies) = branched gap.now bodies.now
left_of (entry.Catch x) = caught x
left_of (entry.Lines numbers) = lined numbers.now

abbrev pub if_any : {A B : Type 0} → List A → B → B → B
if_any [] x y = y
if_any (n ∷ ns) x y = x

-- between the body of a `try` and its handler
abbrev pub catch_text : List (List ℕ) → Identifier → List ℕ
catch_text words x = codes " catch " ++ name_text words x ++ codes " then "

-- what is printed of it now
abbrev pub printed_now : List (List ℕ) → Left → List ℕ
printed_now words (fixed text) = text
printed_now words (bodied gap ns) = if_any ns gap []
printed_now words (branched gap bs) = if_any bs gap []
printed_now words (caught x) = catch_text words x
printed_now words (lined ns) = []

-- the statement that is printed next, if one of it is
abbrev pub found_in : Left → Option ℕ
found_in (bodied gap ns) = first ns
found_in (lined ns) = first ns
found_in e = None

-- what is left of it then
abbrev pub left_behind : Left → List Left
left_behind (bodied gap (n ∷ ns)) = bodied (codes " ") ns ∷ []
left_behind (branched gap (b ∷ bs)) = bodied [] b ∷ branched (codes " [] ") bs ∷ []
left_behind (lined (n ∷ ns)) = fixed (10 ∷ []) ∷ lined ns ∷ []
left_behind e = []

-- how many steps without a statement there can be
abbrev pub weight : Left → ℕ
weight (branched gap bs) = suc (length bs + length bs)
weight e = 1

abbrev pub weights : List Left → ℕ
weights [] = 0
weights (e ∷ es) = weight e + weights es

-- The texts of integers, literals and records, by those of their fields.
use Rattle.std.specs.Prelude.{ℕ, suc, ℤ, pos, negsuc, ◌==◌, ◌&&◌, ◌||◌, nat_le, Bool, true, false, not, if◌then◌else◌, List, [], ◌∷◌, ◌++◌, is_some, map, length, codes}
use Rattle.std.specs.List.{flat_map}
use Rattle.std.specs.Fmt.{decimal}
use Rattle.oz_base.specs.Lists.{list_eq}
use Rattle.oz_language.specs.Tokens.{is_small_word, is_reserved}
use Rattle.oz_language.specs.Wording.{constant_of}
use Rattle.oz_language.specs.Constants.{constant_eq}
use Rattle.oz_language.specs.Kernels.{word_text}
use Rattle.oz_language.specs.declared.text.Form.{Form}
use Rattle.oz_language.specs.declared.text.Form.TheVariants as form
use Rattle.oz_language.specs.declared.token.Literal.{Literal}
use Rattle.oz_language.specs.declared.token.Literal.TheVariants as literal
use Rattle.oz_language.specs.declared.kernel.Constant.{Constant}
use Rattle.oz_language.specs.declared.kernel.Constant.TheVariants as constant

-- Integers and literals

-- `~` stands before the digits of a negative one
abbrev pub integer_text : ℤ → List ℕ
integer_text (pos n) = decimal n
integer_text (negsuc n) = codes "~" ++ decimal (suc n)

-- an atom whose text is a word of its own, neither reserved nor a literal by itself
abbrev pub is_plain : List ℕ → Bool
is_plain word = is_small_word word && not (is_reserved word) && not (is_some (constant_of word))

-- in quotes a line feed is `\n`, a tab `\t`, and `\` and `'` have a `\` before them
abbrev pub escaped : ℕ → List ℕ
escaped b = if b == 10 then codes "\\n" else (if b == 9 then codes "\\t" else (if (b == 92) || (b == 39) then 92 ∷ b ∷ [] else b ∷ []))

abbrev pub quoted : List ℕ → List ℕ
quoted word = codes "'" ++ flat_map escaped word ++ codes "'"

abbrev pub atom_text : List ℕ → List ℕ
atom_text word = if is_plain word then word else quoted word

abbrev pub literal_text : List (List ℕ) → Literal → List ℕ
literal_text words (literal.Atom a) = atom_text (word_text words a)
literal_text words literal.True = codes "true"
literal_text words literal.False = codes "false"
literal_text words literal.Unit = codes "unit"

abbrev pub constant_text : List (List ℕ) → Constant → List ℕ
constant_text words (constant.Int i) = integer_text i
constant_text words (constant.Literal l) = literal_text words l

-- a literal is the atom of this text
abbrev pub is_atom : List (List ℕ) → List ℕ → Literal → Bool
is_atom words text (literal.Atom a) = list_eq (word_text words a) text
is_atom words text l = false

-- the value of a term: the atom `fail` stands plain there, as it does in the exception `failure(fail)`
abbrev pub simple_text : List (List ℕ) → Constant → List ℕ
simple_text words (constant.Int i) = integer_text i
simple_text words (constant.Literal l) = if is_atom words (codes "fail") l then codes "fail" else literal_text words l

-- Records

-- texts with a gap before each, and with a gap between them
abbrev pub gapped : List ℕ → List (List ℕ) → List ℕ
gapped gap [] = []
gapped gap (t ∷ ts) = gap ++ t ++ gapped gap ts

abbrev pub joined : List ℕ → List (List ℕ) → List ℕ
joined gap [] = []
joined gap (t ∷ ts) = t ++ gapped gap ts

abbrev pub is_bars : Form → Bool
is_bars form.Bars = true
is_bars f = false

abbrev pub is_chain : Form → Bool
is_chain form.Other = false
is_chain f = true

-- the features are n, n + 1, ..
abbrev pub count_from : ℕ → List Constant → Bool
count_from n [] = true
count_from n (f ∷ fs) = constant_eq f (constant.Int (pos n)) && count_from (suc n) fs

-- the form of a record: `|` has the features 1 and 2, and `#` has 1, 2, .., at least two
abbrev pub form_of : List (List ℕ) → Literal → List Constant → Form
form_of words l fs =
    if is_atom words (codes "|") l && count_from 1 fs && (length fs == 2) then form.Bars
    else (if is_atom words (codes "#") l && count_from 1 fs && nat_le 2 (length fs) then form.Hashes else form.Other)

abbrev pub enclosed : Bool → List ℕ → List ℕ
enclosed true t = codes "(" ++ t ++ codes ")"
enclosed false t = t

-- the left side of `|` stands in parentheses where it is such a text itself
abbrev pub bar_texts : List (Form × List ℕ) → List (List ℕ)
bar_texts [] = []
bar_texts (o ∷ os) = enclosed (is_bars o.0) o.1 ∷ map (λ (p : Form × List ℕ). p.1) os

-- and so does each operand of `#`, where it is such a text or one with `|`
abbrev pub hash_texts : List (Form × List ℕ) → List (List ℕ)
hash_texts os = map (λ (o : Form × List ℕ). enclosed (is_chain o.0) o.1) os

-- the features 1, 2, .. are left out as far as they go without a gap; n is the next of them
abbrev pub fields_text : List (List ℕ) → ℕ → List Constant → List (List ℕ) → List (List ℕ)
fields_text words n [] ts = ts
fields_text words n (f ∷ fs) [] = []
fields_text words n (f ∷ fs) (t ∷ ts) =
    if constant_eq f (constant.Int (pos n)) then t ∷ fields_text words (suc n) fs ts
    else (constant_text words f ++ codes ":" ++ t) ∷ fields_text words n fs ts

-- l(F ..)
abbrev pub labelled_text : List (List ℕ) → Literal → List Constant → List (List ℕ) → List ℕ
labelled_text words l fs ts = literal_text words l ++ codes "(" ++ joined (codes " ") (fields_text words 1 fs ts) ++ codes ")"

abbrev pub text_as : Form → List (List ℕ) → Literal → List Constant → List (Form × List ℕ) → List ℕ
text_as form.Bars words l fs os = joined (codes "|") (bar_texts os)
text_as form.Hashes words l fs os = joined (codes "#") (hash_texts os)
text_as form.Other words l fs os = labelled_text words l fs (map (λ (o : Form × List ℕ). o.1) os)

-- a record, by the texts of its fields, each with its form
abbrev pub record_text : List (List ℕ) → Literal → List Constant → List (Form × List ℕ) → List ℕ
record_text words l fs os = text_as (form_of words l fs) words l fs os

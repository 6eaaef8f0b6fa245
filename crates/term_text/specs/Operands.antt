-- What stands between, before and behind the fields of a record, and around each of them.
use Rattle.std.specs.Prelude.{ℕ, Bool, true, false, ◌&&◌, List, [], ◌∷◌, ◌++◌, codes}
use Rattle.oz_base.specs.declared.names.Ident.{Ident}
use Rattle.oz_language.specs.SimpleTexts.{literal_text, enclosed, gapped, is_bars, is_chain}
use Rattle.oz_semantics.specs.Texts.{Printed}
use Rattle.oz_language.specs.declared.kernel.Constant.{Constant}
use Rattle.oz_language.specs.declared.text.Form.{Form}
use Rattle.oz_language.specs.declared.text.Form.TheVariants as form
use Rattle.oz_language.specs.declared.token.Literal.{Literal}
use Rattle.simple_text.specs.Keys.{key_text, next_after}

-- between two fields
abbrev pub gap_of : Form → List ℕ
gap_of form.Bars = codes "|"
gap_of form.Hashes = codes "#"
gap_of form.Other = codes " "

-- before a field, the first or a later one
abbrev pub gap_before : Form → Bool → List ℕ
gap_before g true = []
gap_before g false = gap_of g

-- before all fields
abbrev pub opening : List (List ℕ) → Form → Literal → List ℕ
opening words form.Bars l = []
opening words form.Hashes l = []
opening words form.Other l = literal_text words l ++ codes "("

-- behind all fields
abbrev pub ending : Form → List ℕ
ending form.Bars = []
ending form.Hashes = []
ending form.Other = codes ")"

-- the parentheses of an operand that stands in them
abbrev pub left_paren : Bool → List ℕ
left_paren true = codes "("
left_paren false = []

abbrev pub right_paren : Bool → List ℕ
right_paren true = codes ")"
right_paren false = []

-- the features that stand before the fields as keys
abbrev pub keyed : Form → List Constant → List Constant
keyed form.Bars fs = []
keyed form.Hashes fs = []
keyed form.Other fs = fs

-- in a record of form g, whether a field of form f stands in parentheses, as the first or a later one
abbrev pub is_enclosed : Form → Bool → Form → Bool
is_enclosed form.Bars first f = first && is_bars f
is_enclosed form.Hashes first f = is_chain f
is_enclosed form.Other first f = false

-- the texts of fields without their keys, from the first or a later one on
abbrev pub operand_texts : Form → Bool → (Ident → Form) → (Ident → Printed) → List Ident → List (List ℕ)
operand_texts g first forms print [] = []
operand_texts g first forms print (y ∷ ys) = enclosed (is_enclosed g first (forms y)) (print y).bytes ∷ operand_texts g false forms print ys

-- with something before the first text, and a gap before each of the others
abbrev pub led_by : List ℕ → List ℕ → List (List ℕ) → List ℕ
led_by before gap [] = []
led_by before gap (t ∷ ts) = before ++ (t ++ gapped gap ts)

-- the key of the next field, where n is the next feature to be left out, and what is left behind it
abbrev pub first_key : List (List ℕ) → ℕ → List Constant → List ℕ
first_key words n [] = []
first_key words n (f ∷ fs) = key_text words f n

abbrev pub next_behind : ℕ → List Constant → ℕ
next_behind n [] = n
next_behind n (f ∷ fs) = next_after f n

abbrev pub features_behind : List Constant → List Constant
features_behind [] = []
features_behind (f ∷ fs) = fs

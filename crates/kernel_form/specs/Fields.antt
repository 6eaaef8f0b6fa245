-- Records of which some fields are printed.
use Rattle.std.specs.Prelude.{ℕ, Bool, true, false, not, ◌&&◌, ◌||◌, if◌then◌else◌, List, [], ◌∷◌, ◌++◌, codes}
use Rattle.oz_language.specs.SimpleTexts.{literal_text, is_bars, is_chain}
use Rattle.oz_language.specs.declared.kernel.Constant.{Constant}
use Rattle.oz_language.specs.declared.token.Literal.{Literal}
use Rattle.oz_language.specs.declared.text.Form.{Form}
use Rattle.oz_language.specs.declared.text.Form.TheVariants as form
use Rattle.simple_text.specs.Keys.{key_text, next_after}
use Rattle.kernel_form.specs.declared.records.Open.{Open}

-- what is left of a record: the features of its fields that are not printed, the next feature that needs no key, whether no field
-- is printed yet, and whether a `)` stands at its end
pub record Rest : Type 0 where
  pub form : Form
  pub features : List Constant
  pub next : ℕ
  pub first : Bool
  pub closes : Bool

abbrev pub rest_of : Open → Rest
rest_of o = record { form = o.form; features = o.features.now; next = o.next; first = o.first; closes = o.closes }

-- before a field, the first or a further one
abbrev pub gap_text : Form → Bool → List ℕ
gap_text f true = []
gap_text form.Bars false = codes "|"
gap_text form.Hashes false = codes "#"
gap_text form.Other false = codes " "

-- only a record that is written with its label has keys
abbrev pub key_in : List (List ℕ) → Form → Constant → ℕ → List ℕ
key_in words f c n = if is_chain f then [] else key_text words c n

abbrev pub next_in : Form → Constant → ℕ → ℕ
next_in f c n = if is_chain f then n else next_after c n

-- whether a field of the form g stands in parentheses
abbrev pub encloses : Form → Bool → Form → Bool
encloses form.Bars first g = first && is_bars g
encloses form.Hashes first g = is_chain g
encloses form.Other first g = false

-- what stands before the next field
abbrev pub lead_before : List (List ℕ) → Rest → List Constant → List ℕ
lead_before words r [] = []
lead_before words r (f ∷ fs) = gap_text r.form r.first ++ key_in words r.form f r.next

-- what is left behind the next field
abbrev pub passed_to : Rest → List Constant → Rest
passed_to r [] = r
passed_to r (f ∷ fs) = record { form = r.form; features = fs; next = next_in r.form f r.next; first = false; closes = r.closes }

abbrev pub end_text : Bool → List ℕ
end_text true = codes ")"
end_text false = []

-- The records that are open, the innermost first

abbrev pub lead_text : List (List ℕ) → List Rest → List ℕ
lead_text words [] = []
lead_text words (r ∷ rs) = lead_before words r r.features

abbrev pub passed : List Rest → List Rest
passed [] = []
passed (r ∷ rs) = passed_to r r.features ∷ rs

abbrev pub is_enclosed : List Rest → Form → Bool
is_enclosed [] g = false
is_enclosed (r ∷ rs) g = encloses r.form r.first g

abbrev pub if_none : {A : Type 0} → List Constant → A → A → A
if_none [] x y = x
if_none (f ∷ fs) x y = y

-- the ends of those that have no field left
abbrev pub closing : List Rest → List ℕ
closing [] = []
closing (r ∷ rs) = if_none r.features (end_text r.closes ++ closing rs) []

-- those that stay open
abbrev pub still_open : List Rest → List Rest
still_open [] = []
still_open (r ∷ rs) = if_none r.features (still_open rs) (r ∷ rs)

-- the beginning of a record
abbrev pub opening_text : List (List ℕ) → Literal → Form → Bool → List ℕ
opening_text words l f enclosed = (if enclosed then codes "(" else []) ++ (if is_chain f then [] else literal_text words l ++ codes "(")

abbrev pub just_opened : Form → List Constant → Bool → Rest
just_opened f fs enclosed = record { form = f; features = fs; next = 1; first = true; closes = not (is_chain f) || enclosed }

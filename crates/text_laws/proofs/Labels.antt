-- What the form of a record tells of its label and its features.
use Rattle.std.proofs.Common.{◌≡◌, ◌<◌, ◌+◌, ◌==◌, ◌&&◌, ℕ, Bool, true, false, List, [], ◌∷◌, ◌++◌, length, refl, ap, sym, ◌∙◌, arith, length-append}
use Rattle.std.specs.Prelude.{nat_lt, nat_le, if◌then◌else◌, codes}
use Rattle.std.specs.List.{list_all}
use Rattle.std.proofs.lemmas.Bool.Decides.{nat_tests}
use Rattle.oz_base.specs.ListLaws.{list_eq-decides}
use Rattle.oz_language.specs.Kernels.{word_text}
use Rattle.oz_language.specs.Wording.{first_words, number_of, bar_word, hash_word}
use Rattle.oz_language.specs.Translation.{atom}
use Rattle.oz_language.specs.SimpleTexts.{is_atom, count_from, form_of}
use Rattle.oz_language.specs.declared.text.Form.{Form}
use Rattle.oz_language.specs.declared.text.Form.TheVariants as form
use Rattle.oz_language.specs.declared.token.Literal.{Literal}
use Rattle.oz_language.specs.declared.token.Literal.TheVariants as literal
use Rattle.oz_language.specs.declared.kernel.Constant.{Constant}
use Rattle.text_laws.specs.Terms.{Terms, no_term, beside, is_writable, is_literal, is_filled}
use Rattle.text_laws.specs.Laws.{AreWords}
use Rattle.text_laws.proofs.Constants.{own_number}
use Rattle.text_laws.proofs.Basics.{both}

-- ---- the words that each text has

given_number : (words : List (List ℕ)) (n : ℕ) → AreWords words → n < length first_words → (own : List (List ℕ)) → words ≡ first_words ++ own → number_of words (word_text words n) ≡ n
given_number words n ws l own e =
    let w : length words ≡ length first_words + length own = ap length e ∙ length-append first_words own in
    own_number words n ws.distinct (grind (arith, nat_tests, w, l))

bar_number : (words : List (List ℕ)) → AreWords words → number_of words (codes "|") ≡ bar_word
bar_number words ws =
    let t : word_text words 23 ≡ codes "|" = ap (λ us. word_text us 23) ws.given in
    ap (number_of words) (sym t) ∙ given_number words 23 ws (omega arith) ws.own ws.given

hash_number : (words : List (List ℕ)) → AreWords words → number_of words (codes "#") ≡ hash_word
hash_number words ws =
    let t : word_text words 24 ≡ codes "#" = ap (λ us. word_text us 24) ws.given in
    ap (number_of words) (sym t) ∙ given_number words 24 ws (omega arith) ws.own ws.given

atom_is : (words : List (List ℕ)) (text : List ℕ) (n : ℕ) (l : Literal) → AreWords words → is_literal words l ≡ true → number_of words text ≡ n → is_atom words text l ≡ true → l ≡ atom n
atom_is words text n (literal.Atom a) ws h e i =
    let t : word_text words a ≡ text = (list_eq-decides (word_text words a) text).0 i in
    let m = own_number words a ws.distinct (both (nat_lt a (length words)) (list_all is_writable (word_text words a)) h).0 in
    ap atom (sym m ∙ ap (number_of words) t ∙ e)
atom_is words text n literal.True ws h e i = absurd (cc)
atom_is words text n literal.False ws h e i = absurd (cc)
atom_is words text n literal.Unit ws h e i = absurd (cc)

pub bar_label : (words : List (List ℕ)) (l : Literal) → AreWords words → is_literal words l ≡ true → is_atom words (codes "|") l ≡ true → l ≡ atom bar_word
bar_label words l ws h = atom_is words (codes "|") bar_word l ws h (bar_number words ws)

pub hash_label : (words : List (List ℕ)) (l : Literal) → AreWords words → is_literal words l ≡ true → is_atom words (codes "#") l ≡ true → l ≡ atom hash_word
hash_label words l ws h = atom_is words (codes "#") hash_word l ws h (hash_number words ws)

-- ---- forms

three : (a b c : Bool) → (a && b && c) ≡ true → (a ≡ true) × (b ≡ true) × (c ≡ true)
three true true true h = (refl, refl, refl)
three true true false h = absurd (cc)
three true false c h = absurd (cc)
three false b c h = absurd (cc)

bars_by : (x y : Bool) → ◌≡◌ {A = Form} (if x then form.Bars else (if y then form.Hashes else form.Other)) form.Bars → x ≡ true
bars_by true y h = refl
bars_by false true h = absurd (cc)
bars_by false false h = absurd (cc)

hashes_by : (x y : Bool) → ◌≡◌ {A = Form} (if x then form.Bars else (if y then form.Hashes else form.Other)) form.Hashes → y ≡ true
hashes_by true y h = absurd (cc)
hashes_by false true h = refl
hashes_by false false h = absurd (cc)

pub bars_form : (words : List (List ℕ)) (l : Literal) (fs : List Constant) → form_of words l fs ≡ form.Bars
    → (is_atom words (codes "|") l ≡ true) × (count_from 1 fs ≡ true) × ((length fs == 2) ≡ true)
bars_form words l fs h = three (is_atom words (codes "|") l) (count_from 1 fs) (length fs == 2) (bars_by _ (is_atom words (codes "#") l && count_from 1 fs && nat_le 2 (length fs)) h)

pub hashes_form : (words : List (List ℕ)) (l : Literal) (fs : List Constant) → form_of words l fs ≡ form.Hashes
    → (is_atom words (codes "#") l ≡ true) × (count_from 1 fs ≡ true) × (nat_le 2 (length fs) ≡ true)
hashes_form words l fs h = three (is_atom words (codes "#") l) (count_from 1 fs) (nat_le 2 (length fs)) (hashes_by (is_atom words (codes "|") l && count_from 1 fs && (length fs == 2)) _ h)

-- ---- how many fields

abbrev pub is_two : Terms → Bool
is_two (beside t (beside u no_term)) = true
is_two ts = false

abbrev pub is_several : Terms → Bool
is_several (beside t (beside u ts)) = true
is_several ts = false

pub two_fields : (fs : List Constant) (ts : Terms) → is_filled fs ts ≡ true → (length fs == 2) ≡ true → is_two ts ≡ true
two_fields (f ∷ g ∷ []) (beside t (beside u no_term)) h e = refl
two_fields [] ts h e = absurd (cc)
two_fields (f ∷ []) ts h e = absurd (cc)
two_fields (f ∷ g ∷ k ∷ fs) ts h e = absurd (grind (arith, nat_tests, e))
two_fields (f ∷ g ∷ []) ts h e = absurd (cc)

pub several_fields : (fs : List Constant) (ts : Terms) → is_filled fs ts ≡ true → nat_le 2 (length fs) ≡ true → is_several ts ≡ true
several_fields (f ∷ g ∷ fs) (beside t (beside u ts)) h e = refl
several_fields [] ts h e = absurd (cc)
several_fields (f ∷ []) ts h e = absurd (cc)
several_fields (f ∷ g ∷ fs) ts h e = absurd (cc)

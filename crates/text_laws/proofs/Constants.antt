-- The texts of integers and literals have their tokens.
use Rattle.std.proofs.Common.{◌≡◌, ◌<◌, ◌≤◌, ◌+◌, ◌==◌, ◌&&◌, ◌^◌, inl, ℕ, suc, ℤ, pos, negsuc, List, [], ◌∷◌, ◌++◌, length, drop, get_or, Bool, true, false, not, Some, None, refl, ap, sym, ◌∙◌, subst, arith, length-append, append_assoc}
use Rattle.std.specs.Prelude.{if◌then◌else◌, nat_lt, nat_le, is_some, slice_get, unwrap_or, Option}
use Rattle.std.specs.List.{list_all, prefix_len, IsDistinct}
use Rattle.std.specs.Fmt.{decimal}
use Rattle.std.specs.Str.Parse.{AllDigits, digits_value}
use Rattle.std.proofs.lemmas.Str.Parse.{digit_at}
use Rattle.std.proofs.lemmas.Fmt.{decimal_is_IsNumeral_wide}
use Rattle.std.proofs.lemmas.Bool.Decides.{nat_tests}
use Rattle.std.proofs.lemmas.Option.{slice_get-get_or}
use Rattle.std.proofs.Math.Seq.{drop-append_seam, take-append_seam}
use Rattle.oz_base.specs.Lists.{list_eq}
use Rattle.oz_base.specs.Numbers.{integer_limit, is_integer}
use Rattle.oz_base.proofs.WordsLaws.{number_at}
use Rattle.oz_language.specs.Tokens.{is_lower, is_digit, goes_on_word, is_small_word, is_reserved, IsLongest}
use Rattle.oz_language.specs.Wording.{constant_of, number_of, int_token, positive_token, literal_in, label_in, token_by, atom_word, label_word, word_in}
use Rattle.oz_language.specs.Kernels.{word_text}
use Rattle.oz_language.specs.SimpleTexts.{integer_text, is_plain, quoted, atom_text, literal_text, constant_text}
use Rattle.oz_language.specs.Grammar.{key_token}
use Rattle.oz_language.specs.declared.token.Sort.TheVariants as sort
use Rattle.oz_language.specs.declared.token.Literal.{Literal}
use Rattle.oz_language.specs.declared.token.Literal.TheVariants as literal
use Rattle.oz_language.specs.declared.token.Token.{Token}
use Rattle.oz_language.specs.declared.token.Token.TheVariants as token
use Rattle.oz_language.specs.declared.kernel.Constant.{Constant}
use Rattle.oz_language.specs.declared.kernel.Constant.TheVariants as constant
use Rattle.oz_lex.specs.Scanning.{begins, begins_with, begins_paren}
use Rattle.oz_lex.proofs.Longest.{word_longest, label_longest, int_longest, negative_longest}
use Rattle.oz_lex.proofs.Openings.{quoted_longest, quoted_label}
use Rattle.oz_lex.proofs.Sorts.{small_passes, without_push}
use Rattle.oz_lex.proofs.TokenLaws.{literal_bare}
use Rattle.text_laws.specs.Terms.{is_writable, is_literal, is_constant}
use Rattle.text_laws.specs.Laws.{AreWords}
use Rattle.text_laws.proofs.Words.{literal_word, token_word}
use Rattle.text_laws.proofs.Steps.{Has, front_length, ends_word, ends_digits, ends_bare, ends_whole, has_token}
use Rattle.text_laws.proofs.Quotes.{quoted_meaning, quoted_whole, quoted_alone}
use Rattle.text_laws.proofs.Spans.{Spelt, is_start, no_gap, spelt_token, begins_more}
use Rattle.text_laws.proofs.Basics.{both}

-- ---- integers

digit_byte : (c : ℕ) (cs : List ℕ) → AllDigits 10 (c ∷ cs) → is_digit c ≡ true
digit_byte c cs d = let r = digit_at (c ∷ cs) 0 d (omega arith) in grind (arith, nat_tests, r)

all_digits : (ds : List ℕ) → AllDigits 10 ds → list_all is_digit ds ≡ true
all_digits [] d = refl
all_digits (c ∷ cs) d = rw (digit_byte c cs d) (all_digits cs d.1)

digit_start : (c : ℕ) → is_digit c ≡ true → (is_start c ≡ true) × ((c == 126) ≡ false)
digit_start c d = grind (arith, nat_tests, d)

-- digits, as they are written
record Digits (ds : List ℕ) (n : ℕ) : Type 0 where
  some : 0 < length ds
  all : AllDigits 10 ds
  value : digits_value 10 ds ≡ n

written : (n : ℕ) → n ≤ integer_limit → Digits (decimal n) n
written n l =
    let w : n < 10 ^ 64 = omega (arith, l) in
    let d = decimal_is_IsNumeral_wide n w in
    record { some = d.0.0; all = d.0.1; value = d.1 }

first_digit : (ds : List ℕ) → 0 < length ds → AllDigits 10 ds → begins is_digit ds ≡ true
first_digit [] l d = absurd (omega arith)
first_digit (c ∷ cs) l d = digit_byte c cs d

digits_start : (ds : List ℕ) → begins is_digit ds ≡ true → begins is_start ds ≡ true
digits_start [] h = absurd (cc)
digits_start (c ∷ cs) h = (digit_start c h).0

digits_token : (at : ℕ) (ds : List ℕ) → begins is_digit ds ≡ true → int_token at ds ≡ positive_token at (digits_value 10 ds)
digits_token at [] h = absurd (cc)
digits_token at (c ∷ cs) h = rw (digit_start c h).1 refl

module _ (words : List (List ℕ)) (at : ℕ) where
  positive_spelt : (n : ℕ) → nat_lt n integer_limit ≡ true → Spelt words at (decimal n) (token.Int (pos n) at ∷ [])
  positive_spelt n l =
      let d = written n (grind (arith, nat_tests, l)) in
      let b = first_digit (decimal n) d.some d.all in
      spelt_token words at (decimal n) sort.Int (token.Int (pos n) at) (digits_start (decimal n) b)
      (λ rest e. int_longest (decimal n ++ rest) (begins_more is_digit (decimal n) rest b) (length (decimal n))
      (sym (front_length is_digit (decimal n) rest (all_digits (decimal n) d.all) (ends_digits rest e))))
      (λ rest e. ends_whole rest e)
      (digits_token at (decimal n) b ∙ ap (positive_token at) d.value ∙ (rw l refl)) refl

  negative_spelt : (n : ℕ) → nat_lt n integer_limit ≡ true → Spelt words at (126 ∷ decimal (suc n)) (token.Int (negsuc n) at ∷ [])
  negative_spelt n l =
      let d = written (suc n) (grind (arith, nat_tests, l)) in
      let m : nat_le (suc n) integer_limit ≡ true = grind (arith, nat_tests, l) in
      let e : (rest : List ℕ) → 1 + length (decimal (suc n)) ≡ length (126 ∷ decimal (suc n)) = λ rest. omega arith in
      spelt_token words at (126 ∷ decimal (suc n)) sort.Int (token.Int (negsuc n) at) refl
      (λ rest h. subst (λ k. IsLongest (126 ∷ (decimal (suc n) ++ rest)) k sort.Int) (e rest)
      (negative_longest (126 ∷ (decimal (suc n) ++ rest)) refl (length (decimal (suc n)))
      (sym (front_length is_digit (decimal (suc n)) rest (all_digits (decimal (suc n)) d.all) (ends_digits rest h))) d.some))
      (λ rest h. ends_whole rest h)
      (rw d.value (rw m refl)) refl

  pub integer_spelt : (i : ℤ) → is_integer i ≡ true → Spelt words at (integer_text i) (token.Int i at ∷ [])
  integer_spelt (pos n) l = positive_spelt n l
  integer_spelt (negsuc n) l = negative_spelt n l

-- ---- literals

-- how a literal is written: as a word, or in quotes
pub data Written (words : List (List ℕ)) (l : Literal) (bytes : List ℕ) : Type 0 where
  bare : is_small_word bytes ≡ true → is_reserved bytes ≡ false → literal_in words bytes ≡ l → atom_word bytes ≡ literal_word words l → Written words l bytes
  in_quotes : (word : List ℕ) → bytes ≡ quoted word → list_all is_writable word ≡ true → literal.Atom (number_of words word) ≡ l → Some word ≡ literal_word words l → Written words l bytes

text_there : (words : List (List ℕ)) (a : ℕ) → nat_lt a (length words) ≡ true → slice_get words a ≡ Some (word_text words a)
text_there words a l =
    let s = slice_get-get_or words a [] (grind (arith, nat_tests, l)) in
    let t : word_text words a ≡ get_or words a [] = ap (λ o. unwrap_or o []) s in
    s ∙ ap Some (sym t)

-- the number of a word is its place
pub own_number : (words : List (List ℕ)) (a : ℕ) → IsDistinct list_eq words → nat_lt a (length words) ≡ true → number_of words (word_text words a) ≡ a
own_number words a d l = ap (λ o. unwrap_or o 0) (number_at words (word_text words a) a d (text_there words a l))

plain_parts : (s r c : Bool) → (s && not r && not c) ≡ true → (s ≡ true) × (r ≡ false) × (c ≡ false)
plain_parts true false false h = (refl, refl, refl)
plain_parts true false true h = absurd (cc)
plain_parts true true c h = absurd (cc)
plain_parts false r c h = absurd (cc)

word_literal : (words : List (List ℕ)) (word : List ℕ) → is_some (constant_of word) ≡ false → literal_in words word ≡ literal.Atom (number_of words word)
word_literal words word h = by (constant_of word) refl h
  where
    by : (o : Option Literal) → constant_of word ≡ o → is_some o ≡ false → literal_in words word ≡ literal.Atom (number_of words word)
    by None e n = rw e refl
    by (Some l) e n = absurd (cc)

word_atom : (word : List ℕ) → is_reserved word ≡ false → is_some (constant_of word) ≡ false → atom_word word ≡ Some word
word_atom word r h = by (constant_of word) refl h
  where
    by : (o : Option Literal) → constant_of word ≡ o → is_some o ≡ false → atom_word word ≡ Some word
    by None e n = rw r (rw e refl)
    by (Some l) e n = absurd (cc)

atom_written : (words : List (List ℕ)) (word : List ℕ) (a : ℕ) → list_all is_writable word ≡ true → number_of words word ≡ a → word ≡ word_text words a
    → Written words (literal.Atom a) (atom_text word)
atom_written words word a w n t = by (is_plain word) refl
  where
    by : (b : Bool) → is_plain word ≡ b → Written words (literal.Atom a) (if b then word else quoted word)
    by true e =
        let p = plain_parts (is_small_word word) (is_reserved word) (is_some (constant_of word)) e in
        bare p.0 p.1 (word_literal words word p.2 ∙ ap literal.Atom n) (word_atom word p.1 p.2 ∙ ap Some t)
    by false e = in_quotes word refl w (ap literal.Atom n) (ap Some t)

pub literal_written : (words : List (List ℕ)) (l : Literal) → AreWords words → is_literal words l ≡ true → Written words l (literal_text words l)
literal_written words (literal.Atom a) ws h =
    let q = both (nat_lt a (length words)) (list_all is_writable (word_text words a)) h in
    atom_written words (word_text words a) a q.1 (own_number words a ws.distinct q.0) refl
literal_written words literal.True ws h = bare refl refl refl refl
literal_written words literal.False ws h = bare refl refl refl refl
literal_written words literal.Unit ws h = bare refl refl refl refl

-- ---- words

small_begins : (word : List ℕ) → is_small_word word ≡ true → (begins is_lower word ≡ true) × (list_all goes_on_word word ≡ true)
small_begins [] h = absurd (cc)
small_begins (b ∷ bs) h =
    let q = both (is_lower b) (list_all goes_on_word bs) h in
    (q.0, sym (small_passes b bs q.0) ∙ h)

lower_start : (word : List ℕ) → begins is_lower word ≡ true → begins is_start word ≡ true
lower_start [] h = absurd (cc)
lower_start (b ∷ bs) h = by h
  where
    by : is_lower b ≡ true → is_start b ≡ true
    by e = rw e refl

lower_open : (word : List ℕ) → begins is_lower word ≡ true → begins_with 39 word ≡ false
lower_open [] h = refl
lower_open (b ∷ bs) h = by h
  where
    by : is_lower b ≡ true → (b == 39) ≡ false
    by e = grind (arith, nat_tests, e)

word_front : (word rest : List ℕ) → is_small_word word ≡ true → begins goes_on_word rest ≡ false → length word ≡ prefix_len goes_on_word (word ++ rest)
word_front word rest h e = sym (front_length goes_on_word word rest (small_begins word h).1 e)

module _ (words : List (List ℕ)) (at : ℕ) where
  bare_spelt : (l : Literal) (word : List ℕ) → is_small_word word ≡ true → is_reserved word ≡ false → literal_in words word ≡ l → atom_word word ≡ literal_word words l
      → Spelt words at word (token.Literal l at ∷ [])
  bare_spelt l word s r e t =
      let b = (small_begins word s).0 in
      spelt_token words at word sort.Word (token.Literal l at) (lower_start word b)
      (λ rest h. word_longest (word ++ rest) (begins_more is_lower word rest b) (length word) (word_front word rest s (ends_word rest h))
      (inl (ap begins_paren (drop-append_seam word rest) ∙ ends_bare rest h)))
      (λ rest h. refl)
      (rw r (ap (λ m. token.Literal m at) e)) t

  quoted_spelt : (l : Literal) (word : List ℕ) → list_all is_writable word ≡ true → literal.Atom (number_of words word) ≡ l → Some word ≡ literal_word words l
      → Spelt words at (quoted word) (token.Literal l at ∷ [])
  quoted_spelt l word w e t =
      spelt_token words at (quoted word) sort.Quoted (token.Literal l at) refl
      (λ rest h. quoted_longest (quoted word ++ rest) (length (quoted word)) refl (quoted_alone word rest w)
      (ap begins_paren (drop-append_seam (quoted word) rest) ∙ ends_bare rest h))
      (λ rest h. refl)
      (ap (λ xs. token.Literal (literal.Atom (number_of words xs)) at) (quoted_meaning word w) ∙ ap (λ m. token.Literal m at) e) (ap Some (quoted_meaning word w) ∙ t)

  written_spelt : (l : Literal) (bytes : List ℕ) → Written words l bytes → Spelt words at bytes (token.Literal l at ∷ [])
  written_spelt l bytes (bare s r e t) = bare_spelt l bytes s r e t
  written_spelt l bytes (in_quotes word q w e t) = subst (λ xs. Spelt words at xs (token.Literal l at ∷ [])) (sym q) (quoted_spelt l word w e t)

  pub literal_spelt : (l : Literal) → AreWords words → is_literal words l ≡ true → Spelt words at (literal_text words l) (token.Literal l at ∷ [])
  literal_spelt l ws h = written_spelt l (literal_text words l) (literal_written words l ws h)

  -- an integer or a literal, as a term or as the key of a field
  pub constant_spelt : (c : Constant) → AreWords words → is_constant words c ≡ true → Spelt words at (constant_text words c) (key_token c at ∷ [])
  constant_spelt (constant.Int i) ws h = integer_spelt words at i h
  constant_spelt (constant.Literal l) ws h = literal_spelt l ws h

pub written_start : (words : List (List ℕ)) (l : Literal) (bytes : List ℕ) → Written words l bytes → begins is_start bytes ≡ true
written_start words l bytes (bare s r e t) = lower_start bytes (small_begins bytes s).0
written_start words l bytes (in_quotes word q w e t) = ap (begins is_start) q

pub constant_start : (words : List (List ℕ)) (c : Constant) → AreWords words → is_constant words c ≡ true → begins is_start (constant_text words c) ≡ true
constant_start words (constant.Int (pos n)) ws h =
    let d = written n (grind (arith, nat_tests, h)) in digits_start (decimal n) (first_digit (decimal n) d.some d.all)
constant_start words (constant.Int (negsuc n)) ws h = refl
constant_start words (constant.Literal l) ws h = written_start words l (literal_text words l) (literal_written words l ws h)

-- ---- labels: a literal with `(` directly behind it

labelled : (words : List (List ℕ)) (at : ℕ) (bytes : List ℕ) (l : Literal) → label_in words bytes ≡ l
    → token_by words at (bytes ++ 40 ∷ []) sort.Label ≡ token.Label l at
labelled words at bytes l e = ap (λ xs. token.Label (label_in words xs) at) (without_push bytes 40) ∙ ap (λ m. token.Label m at) e

seam : (bytes rest : List ℕ) → (bytes ++ 40 ∷ []) ++ rest ≡ bytes ++ 40 ∷ rest
seam bytes rest = append_assoc bytes (40 ∷ []) rest

long : (bytes : List ℕ) → length bytes + 1 ≡ length (bytes ++ 40 ∷ [])
long bytes = sym (length-append bytes (40 ∷ []))

opens : (bytes rest : List ℕ) → begins_paren (drop (length bytes) (bytes ++ 40 ∷ rest)) ≡ true
opens bytes rest = ap begins_paren (drop-append_seam bytes (40 ∷ rest))

bare_longest : (word rest : List ℕ) → is_small_word word ≡ true → is_reserved word ≡ false → IsLongest (word ++ 40 ∷ rest) (length word + 1) sort.Label
bare_longest word rest s r =
    label_longest (word ++ 40 ∷ rest) (begins_more is_lower word (40 ∷ rest) (small_begins word s).0) (length word) (word_front word (40 ∷ rest) s refl)
    (opens word rest) (ap is_reserved (take-append_seam word (40 ∷ rest)) ∙ r)

label_fits : (words : List (List ℕ)) (l : Literal) (bytes rest : List ℕ) → Written words l bytes → IsLongest (bytes ++ 40 ∷ rest) (length bytes + 1) sort.Label
label_fits words l bytes rest (bare s r e t) = bare_longest bytes rest s r
label_fits words l bytes rest (in_quotes word q w e t) =
    subst (λ xs. IsLongest (xs ++ 40 ∷ rest) (length xs + 1) sort.Label) (sym q)
    (quoted_label (quoted word ++ 40 ∷ rest) (length (quoted word)) refl (quoted_alone word (40 ∷ rest) w) (opens (quoted word) rest))

label_means : (words : List (List ℕ)) (l : Literal) (bytes : List ℕ) → Written words l bytes → label_in words bytes ≡ l
label_means words l bytes (bare s r e t) = let q = literal_bare bytes (lower_open bytes (small_begins bytes s).0) in rw q e
label_means words l bytes (in_quotes word q w e t) =
    ap (label_in words) q ∙ (rw (quoted_whole word w) (ap (λ xs. literal.Atom (number_of words xs)) (quoted_meaning word w) ∙ e))

label_noted : (words : List (List ℕ)) (l : Literal) (bytes : List ℕ) → Written words l bytes → label_word bytes ≡ literal_word words l
label_noted words l bytes (bare s r e t) = let q = literal_bare bytes (lower_open bytes (small_begins bytes s).0) in rw q t
label_noted words l bytes (in_quotes word q w e t) = ap label_word q ∙ (rw (quoted_whole word w) (ap Some (quoted_meaning word w) ∙ t))

-- the label and its `(`
has_front : (words : List (List ℕ)) (text : List ℕ) (at : ℕ) (bytes rest : List ℕ) (t : Token) (more : List Token) → begins is_start bytes ≡ true
    → drop at text ≡ bytes ++ rest → IsLongest (bytes ++ rest) (length bytes) sort.Label → token_by words at bytes sort.Label ≡ t → word_in sort.Label bytes ≡ token_word words t
    → Has words text (at + length bytes) more → Has words text at (t ∷ more)
has_front words text at [] rest t more b d i e w h = absurd (cc)
has_front words text at (b ∷ bs) rest t more s d i e w h = has_token words text at b bs rest sort.Label t more d (no_gap b (bs ++ rest) s) i refl e w h

pub has_label : (words : List (List ℕ)) (text : List ℕ) (at : ℕ) (l : Literal) (rest : List ℕ) (more : List Token) → AreWords words → is_literal words l ≡ true
    → drop at text ≡ (literal_text words l ++ 40 ∷ []) ++ rest → Has words text (at + length (literal_text words l ++ 40 ∷ [])) more
    → Has words text at (token.Label l at ∷ more)
has_label words text at l rest more ws h d k =
    let bytes = literal_text words l in
    let w = literal_written words l ws h in
    has_front words text at (bytes ++ 40 ∷ []) rest (token.Label l at) more (begins_more is_start bytes (40 ∷ []) (written_start words l bytes w)) d
    (subst (λ n. IsLongest ((bytes ++ 40 ∷ []) ++ rest) n sort.Label) (long bytes)
    (subst (λ xs. IsLongest xs (length bytes + 1) sort.Label) (sym (seam bytes rest)) (label_fits words l bytes rest w)))
    (labelled words at bytes l (label_means words l bytes w)) (ap label_word (without_push bytes 40) ∙ label_noted words l bytes w) k

-- What bytes are as a token, by the first of them.
use Rattle.std.proofs.Common.{◌≡◌, ◌<◌, ◌+◌, ◌-◌, ◌==◌, ◌&&◌, ◌||◌, ℕ, zero, suc, List, [], ◌∷◌, ◌++◌, length, take, get_or, Bool, true, false, not, Some, None, refl, ap, sym, ◌∙◌, arith, add-one, length-append}
use Rattle.std.specs.Prelude.{nat_le}
use Rattle.std.specs.List.{list_all, list_any}
use Rattle.std.specs.Ffi.{without_last}
use Rattle.std.proofs.lemmas.Bool.Decides.{nat_tests}
use Rattle.std.proofs.lemmas.List.{take_more}
use Rattle.oz_base.specs.Lists.{list_eq, last_of}
use Rattle.oz_base.specs.ListLaws.{list_eq-decides}
use Rattle.oz_language.specs.Tokens.{is_upper, is_lower, is_digit, goes_on_word, is_var, is_small_word, is_closed, is_quoted, is_char, is_literal, is_label, is_reserved, is_digits, is_int, symbols, is_symbol, sort_of}
use Rattle.oz_language.specs.declared.token.Sort.TheVariants as sort
use Rattle.oz_lex.specs.Scanning.{begins, is_tilde, is_opening, is_mark}

-- ---- the eight tests in turn

-- no quote and no `&` comes first
pub record NotOpened (bytes : List ℕ) : Type 0 where
  pub atom : is_quoted 39 bytes ≡ false
  pub string : is_quoted 34 bytes ≡ false
  pub char : is_char bytes ≡ false

module _ (bytes : List ℕ) where
  pub var_sort : is_var bytes ≡ true → sort_of bytes ≡ Some sort.Var
  var_sort v = rw v refl

  pub word_sort : is_var bytes ≡ false → is_small_word bytes ≡ true → sort_of bytes ≡ Some sort.Word
  word_sort v w = rw v (rw w refl)

  pub label_sort : is_var bytes ≡ false → is_small_word bytes ≡ false → is_label bytes ≡ true → sort_of bytes ≡ Some sort.Label
  label_sort v w l = rw v (rw w (rw l refl))

  pub int_sort : is_var bytes ≡ false → is_small_word bytes ≡ false → is_label bytes ≡ false → is_int bytes ≡ true → sort_of bytes ≡ Some sort.Int
  int_sort v w l i = rw v (rw w (rw l (rw i refl)))

  pub symbol_sort : is_var bytes ≡ false → is_small_word bytes ≡ false → is_label bytes ≡ false → is_int bytes ≡ false → NotOpened bytes → is_symbol bytes ≡ true → sort_of bytes ≡ Some sort.Symbol
  symbol_sort v w l i o s = rw v (rw w (rw l (rw i (rw o.atom (rw o.string (rw o.char (rw s refl)))))))

  pub no_sort : is_var bytes ≡ false → is_small_word bytes ≡ false → is_label bytes ≡ false → is_int bytes ≡ false → NotOpened bytes → is_symbol bytes ≡ false → sort_of bytes ≡ None
  no_sort v w l i o s = rw v (rw w (rw l (rw i (rw o.atom (rw o.string (rw o.char (rw s refl)))))))

-- ---- quotes and `&`

pub not_quoted : (quote b : ℕ) (ws : List ℕ) → (b == quote) ≡ false → is_quoted quote (b ∷ ws) ≡ false
not_quoted quote b ws e = rw e refl

pub not_char : (b : ℕ) (ws : List ℕ) → (b == 38) ≡ false → is_char (b ∷ ws) ≡ false
not_char b [] e = refl
not_char b (c ∷ []) e = rw e refl
not_char b (c ∷ d ∷ []) e = rw e refl
not_char b (c ∷ d ∷ f ∷ ws) e = refl

three_no : (x y z : Bool) → (x || y || z) ≡ false → (x ≡ false) × (y ≡ false) × (z ≡ false)
three_no false false false h = (refl, refl, refl)
three_no false false true h = absurd (cc)
three_no false true z h = absurd (cc)
three_no true y z h = absurd (cc)

not_opened : (b : ℕ) (ws : List ℕ) → is_opening b ≡ false → NotOpened (b ∷ ws)
not_opened b ws o =
    let n = three_no (b == 39) (b == 34) (b == 38) o in
    record { atom = not_quoted 39 b ws n.0; string = not_quoted 34 b ws n.1; char = not_char b ws n.2 }

-- ---- symbols by their first byte

differs : (p : ℕ → Bool) (b : ℕ) (ws s : List ℕ) → p b ≡ true → not (begins p s) ≡ true → list_eq (b ∷ ws) s ≡ false
differs p b ws s h n = by (list_eq (b ∷ ws) s) refl
  where
    by : (q : Bool) → list_eq (b ∷ ws) s ≡ q → q ≡ false
    by false e = refl
    by true e =
        let w : b ∷ ws ≡ s = (list_eq-decides (b ∷ ws) s).0 e in
        let z : p b ≡ begins p s = ap (begins p) w in
        absurd (cc)

both : (a b : Bool) → (a && b) ≡ true → (a ≡ true) × (b ≡ true)
both true true h = (refl, refl)
both true false h = absurd (cc)
both false b h = absurd (cc)

no_symbol : (p : ℕ → Bool) (b : ℕ) (ws : List ℕ) → p b ≡ true → (ss : List (List ℕ)) → list_all (λ s. not (begins p s)) ss ≡ true → list_any (list_eq (b ∷ ws)) ss ≡ false
no_symbol p b ws h [] a = refl
no_symbol p b ws h (s ∷ ss) a =
    let q = both (not (begins p s)) (list_all (λ t. not (begins p t)) ss) a in
    rw (differs p b ws s h q.0) (no_symbol p b ws h ss q.1)

-- no symbol has more than three bytes
short_symbol : (xs : List ℕ) (ss : List (List ℕ)) → 3 < length xs → list_all (λ s. nat_le (length s) 3) ss ≡ true → list_any (list_eq xs) ss ≡ false
short_symbol xs [] l a = refl
short_symbol xs (s ∷ ss) l a =
    let q = both (nat_le (length s) 3) (list_all (λ t. nat_le (length t) 3) ss) a in
    by (list_eq xs s) refl q.0 (short_symbol xs ss l q.1)
  where
    by : (r : Bool) → list_eq xs s ≡ r → nat_le (length s) 3 ≡ true → list_any (list_eq xs) ss ≡ false → (r || list_any (list_eq xs) ss) ≡ false
    by false e n h = h
    by true e n h =
        let w : length xs ≡ length s = ap length ((list_eq-decides xs s).0 e) in
        absurd (grind (arith, nat_tests))

pub long_no_symbol : (xs : List ℕ) → 3 < length xs → is_symbol xs ≡ false
long_no_symbol xs l = short_symbol xs symbols l refl

-- ---- labels

pub second_no : (x y : Bool) → y ≡ false → (x && y) ≡ false
second_no true y e = e
second_no false y e = refl

literal_front : (b : ℕ) (ws : List ℕ) (k : ℕ) → is_lower b ≡ false → (b == 39) ≡ false → is_literal (take k (b ∷ ws)) ≡ false
literal_front b ws zero e d = refl
literal_front b ws (suc k) e d = rw d (rw e refl)

-- a label begins with a small letter or a quote
pub not_label : (b : ℕ) (ws : List ℕ) → is_lower b ≡ false → (b == 39) ≡ false → is_label (b ∷ ws) ≡ false
not_label b ws e d = second_no (last_of (b ∷ ws) == 40) _ (literal_front b ws (length (b ∷ ws) - 1) e d)

pub last_push : (xs : List ℕ) (c : ℕ) → last_of (xs ++ c ∷ []) ≡ c
last_push [] c = refl
last_push (x ∷ []) c = refl
last_push (x ∷ y ∷ xs) c = last_push (y ∷ xs) c

take_push : (xs : List ℕ) (c : ℕ) → take (length xs) (xs ++ c ∷ []) ≡ xs
take_push [] c = refl
take_push (x ∷ xs) c = ap (λ ys. x ∷ ys) (take_push xs c)

pub without_push : (xs : List ℕ) (c : ℕ) → without_last (xs ++ c ∷ []) ≡ xs
without_push xs c =
    let n : length (xs ++ c ∷ []) - 1 ≡ length xs = omega (arith, length-append xs (c ∷ [])) in
    ap (λ k. take k (xs ++ c ∷ [])) n ∙ take_push xs c

-- a front of the text as a label
pub label_front : (text : List ℕ) (k : ℕ) → k < length text → is_label (take (k + 1) text) ≡ ((get_or text k 0 == 40) && is_literal (take k text))
label_front text k l =
    let c = get_or text k 0 in
    let e : take (k + 1) text ≡ take k text ++ c ∷ [] = take_more text k 0 l in
    let a : last_of (take (k + 1) text) ≡ c = ap last_of e ∙ last_push (take k text) c in
    let w : without_last (take (k + 1) text) ≡ take k text = ap without_last e ∙ without_push (take k text) c in
    rw a (rw w refl)

-- ---- by the first byte

apart : (b : ℕ) → is_opening b ≡ false → (b == 39) ≡ false
apart b o = (three_no (b == 39) (b == 34) (b == 38) o).0

upper_is : (b : ℕ) → is_upper b ≡ true → (is_lower b ≡ false) × (is_digit b ≡ false) × ((b == 126) ≡ false) × (goes_on_word b ≡ true) × (is_opening b ≡ false)
upper_is b u = grind (arith, nat_tests)

lower_is : (b : ℕ) → is_lower b ≡ true → (is_upper b ≡ false) × (is_digit b ≡ false) × ((b == 126) ≡ false) × (goes_on_word b ≡ true) × (is_opening b ≡ false)
lower_is b u = grind (arith, nat_tests)

digit_is : (b : ℕ) → is_digit b ≡ true → (is_upper b ≡ false) × (is_lower b ≡ false) × ((b == 126) ≡ false) × (is_opening b ≡ false)
digit_is b u = grind (arith, nat_tests)

not_var : (b : ℕ) (ws : List ℕ) → is_upper b ≡ false → is_var (b ∷ ws) ≡ false
not_var b ws e = rw e refl

not_small : (b : ℕ) (ws : List ℕ) → is_lower b ≡ false → is_small_word (b ∷ ws) ≡ false
not_small b ws e = rw e refl

not_int : (b : ℕ) (ws : List ℕ) → (b == 126) ≡ false → is_digit b ≡ false → is_int (b ∷ ws) ≡ false
not_int b ws e d = rw e (rw d refl)

-- a word that begins with a capital letter
pub upper_passes : (b : ℕ) (ws : List ℕ) → is_upper b ≡ true → list_all goes_on_word (b ∷ ws) ≡ true → sort_of (b ∷ ws) ≡ Some sort.Var
upper_passes b ws u h =
    let q = both (goes_on_word b) (list_all goes_on_word ws) h in
    var_sort (b ∷ ws) (rw u q.1)

pub upper_fails : (b : ℕ) (ws : List ℕ) → is_upper b ≡ true → list_all goes_on_word (b ∷ ws) ≡ false → sort_of (b ∷ ws) ≡ None
upper_fails b ws u h =
    let i = upper_is b u in
    let r : list_all goes_on_word ws ≡ false = rw i.3 at h in
    no_sort (b ∷ ws) (rw u r) (not_small b ws i.0) (not_label b ws i.0 (apart b i.4)) (not_int b ws i.2 i.1) (not_opened b ws i.4) (no_symbol is_upper b ws u symbols refl)

-- a word that begins with a small letter
pub lower_passes : (b : ℕ) (ws : List ℕ) → is_lower b ≡ true → list_all goes_on_word (b ∷ ws) ≡ true → sort_of (b ∷ ws) ≡ Some sort.Word
lower_passes b ws u h =
    let i = lower_is b u in
    let q = both (goes_on_word b) (list_all goes_on_word ws) h in
    word_sort (b ∷ ws) (not_var b ws i.0) (rw u q.1)

lower_stops : (b : ℕ) (ws : List ℕ) → is_lower b ≡ true → list_all goes_on_word (b ∷ ws) ≡ false → is_small_word (b ∷ ws) ≡ false
lower_stops b ws u h =
    let i = lower_is b u in
    let r : list_all goes_on_word ws ≡ false = rw i.3 at h in
    rw u r

pub lower_labels : (b : ℕ) (ws : List ℕ) → is_lower b ≡ true → list_all goes_on_word (b ∷ ws) ≡ false → is_label (b ∷ ws) ≡ true → sort_of (b ∷ ws) ≡ Some sort.Label
lower_labels b ws u h l =
    let i = lower_is b u in
    label_sort (b ∷ ws) (not_var b ws i.0) (lower_stops b ws u h) l

pub lower_fails : (b : ℕ) (ws : List ℕ) → is_lower b ≡ true → list_all goes_on_word (b ∷ ws) ≡ false → is_label (b ∷ ws) ≡ false → sort_of (b ∷ ws) ≡ None
lower_fails b ws u h l =
    let i = lower_is b u in
    no_sort (b ∷ ws) (not_var b ws i.0) (lower_stops b ws u h) l (not_int b ws i.2 i.1) (not_opened b ws i.4) (no_symbol is_lower b ws u symbols refl)

-- a small word passes as a word does
pub small_passes : (b : ℕ) (ws : List ℕ) → is_lower b ≡ true → is_small_word (b ∷ ws) ≡ list_all goes_on_word (b ∷ ws)
small_passes b ws u = let i = lower_is b u in ap (λ q. q && list_all goes_on_word ws) (u ∙ sym i.3)

-- digits
pub digit_passes : (b : ℕ) (ws : List ℕ) → is_digit b ≡ true → list_all is_digit (b ∷ ws) ≡ true → sort_of (b ∷ ws) ≡ Some sort.Int
digit_passes b ws u h =
    let i = digit_is b u in
    int_sort (b ∷ ws) (not_var b ws i.0) (not_small b ws i.1) (not_label b ws i.1 (apart b i.3)) (rw i.2 h)

pub digit_fails : (b : ℕ) (ws : List ℕ) → is_digit b ≡ true → list_all is_digit (b ∷ ws) ≡ false → sort_of (b ∷ ws) ≡ None
digit_fails b ws u h =
    let i = digit_is b u in
    no_sort (b ∷ ws) (not_var b ws i.0) (not_small b ws i.1) (not_label b ws i.1 (apart b i.3)) (rw i.2 h) (not_opened b ws i.3) (no_symbol is_digit b ws u symbols refl)

-- digits behind a `~`
tilde_is : (b : ℕ) → is_tilde b ≡ true → (is_upper b ≡ false) × (is_lower b ≡ false) × (is_opening b ≡ false)
tilde_is b u = grind (arith, nat_tests)

pub tilde_passes : (b : ℕ) (ws : List ℕ) → is_tilde b ≡ true → is_digits ws ≡ true → sort_of (b ∷ ws) ≡ Some sort.Int
tilde_passes b ws u h =
    let i = tilde_is b u in
    int_sort (b ∷ ws) (not_var b ws i.0) (not_small b ws i.1) (not_label b ws i.1 (apart b i.2)) (rw u h)

pub tilde_fails : (b : ℕ) (ws : List ℕ) → is_tilde b ≡ true → is_digits ws ≡ false → sort_of (b ∷ ws) ≡ None
tilde_fails b ws u h =
    let i = tilde_is b u in
    no_sort (b ∷ ws) (not_var b ws i.0) (not_small b ws i.1) (not_label b ws i.1 (apart b i.2)) (rw u h) (not_opened b ws i.2) (no_symbol is_tilde b ws u symbols refl)

-- symbols
mark_is : (b : ℕ) → is_mark b ≡ true → (is_upper b ≡ false) × (is_lower b ≡ false) × (is_digit b ≡ false) × ((b == 126) ≡ false) × (is_opening b ≡ false)
mark_is b m = by (is_upper b) (is_lower b) (is_digit b) (b == 126) (is_opening b) m
  where
    by : (u l d t o : Bool) → not (u || l || d || t || o) ≡ true → (u ≡ false) × (l ≡ false) × (d ≡ false) × (t ≡ false) × (o ≡ false)
    by false false false false false h = (refl, refl, refl, refl, refl)
    by false false false false true h = absurd (cc)
    by false false false true o h = absurd (cc)
    by false false true t o h = absurd (cc)
    by false true d t o h = absurd (cc)
    by true l d t o h = absurd (cc)

pub mark_passes : (b : ℕ) (ws : List ℕ) → is_mark b ≡ true → is_symbol (b ∷ ws) ≡ true → sort_of (b ∷ ws) ≡ Some sort.Symbol
mark_passes b ws m h =
    let i = mark_is b m in
    symbol_sort (b ∷ ws) (not_var b ws i.0) (not_small b ws i.1) (not_label b ws i.1 (apart b i.4)) (not_int b ws i.3 i.2) (not_opened b ws i.4) h

pub mark_fails : (b : ℕ) (ws : List ℕ) → is_mark b ≡ true → is_symbol (b ∷ ws) ≡ false → sort_of (b ∷ ws) ≡ None
mark_fails b ws m h =
    let i = mark_is b m in
    no_sort (b ∷ ws) (not_var b ws i.0) (not_small b ws i.1) (not_label b ws i.1 (apart b i.4)) (not_int b ws i.3 i.2) (not_opened b ws i.4) h

-- what begins with a small letter and is no word is no literal
lower_literal : (b : ℕ) (ws : List ℕ) (k : ℕ) → is_lower b ≡ true
    → is_literal (take k (b ∷ ws)) ≡ (is_small_word (take k (b ∷ ws)) && not (is_reserved (take k (b ∷ ws))))
lower_literal b ws zero u = refl
lower_literal b ws (suc k) u = let d : (b == 39) ≡ false = apart b (lower_is b u).4 in rw d refl

pub label_small : (b : ℕ) (bs : List ℕ) (k : ℕ) → is_lower b ≡ true → k < length (b ∷ bs)
    → is_label (take (k + 1) (b ∷ bs)) ≡ ((get_or (b ∷ bs) k 0 == 40) && (is_small_word (take k (b ∷ bs)) && not (is_reserved (take k (b ∷ bs)))))
label_small b bs k u l = label_front (b ∷ bs) k l ∙ ap (λ q. (get_or (b ∷ bs) k 0 == 40) && q) (lower_literal b bs k u)

-- ---- quotes

or_false : (x : Bool) → (x || false) ≡ x
or_false true = refl
or_false false = refl

quoted_literal : (ws : List ℕ) (k : ℕ) → is_literal (take k (39 ∷ ws)) ≡ is_quoted 39 (take k (39 ∷ ws))
quoted_literal ws zero = refl
quoted_literal ws (suc k) = or_false (is_closed 39 (take k ws))

-- a label in quotes is an atom in quotes and a `(`
pub label_quoted : (ws : List ℕ) (k : ℕ) → k < length (39 ∷ ws) → is_label (take (suc k) (39 ∷ ws)) ≡ ((get_or (39 ∷ ws) k 0 == 40) && is_quoted 39 (take k (39 ∷ ws)))
label_quoted ws k l =
    ap (λ j. is_label (take j (39 ∷ ws))) (sym (add-one k)) ∙ label_front (39 ∷ ws) k l ∙ ap (λ q. (get_or (39 ∷ ws) k 0 == 40) && q) (quoted_literal ws k)

pub atom_sort : (ws : List ℕ) → is_label (39 ∷ ws) ≡ false → is_closed 39 ws ≡ true → sort_of (39 ∷ ws) ≡ Some sort.Quoted
atom_sort ws l e = rw l (rw e refl)

pub atom_label : (ws : List ℕ) → is_label (39 ∷ ws) ≡ true → sort_of (39 ∷ ws) ≡ Some sort.Label
atom_label ws l = rw l refl

pub atom_fails : (ws : List ℕ) → is_label (39 ∷ ws) ≡ false → is_closed 39 ws ≡ false → sort_of (39 ∷ ws) ≡ None
atom_fails ws l e = rw l (rw e (rw (not_char 39 ws refl) refl))

pub string_passes : (ws : List ℕ) → is_closed 34 ws ≡ true → sort_of (34 ∷ ws) ≡ Some sort.String
string_passes ws e = rw (not_label 34 ws refl refl) (rw e refl)

pub string_fails : (ws : List ℕ) → is_closed 34 ws ≡ false → sort_of (34 ∷ ws) ≡ None
string_fails ws e = rw (not_label 34 ws refl refl) (rw e (rw (not_char 34 ws refl) refl))

-- characters
pub char_passes : (ws : List ℕ) → is_char (38 ∷ ws) ≡ true → sort_of (38 ∷ ws) ≡ Some sort.Char
char_passes ws e = rw (not_label 38 ws refl refl) (rw e refl)

pub char_fails : (ws : List ℕ) → is_char (38 ∷ ws) ≡ false → sort_of (38 ∷ ws) ≡ None
char_fails ws e = rw (not_label 38 ws refl refl) (rw e refl)

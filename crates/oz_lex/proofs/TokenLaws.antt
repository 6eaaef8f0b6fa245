-- Tokens under words that still join.
use Rattle.std.proofs.Common.{◌≡◌, ◌==◌, ◌&&◌, ◌||◌, ◌-◌, inl, inr, ℕ, zero, suc, Bool, true, false, not, List, [], ◌∷◌, length, take, drop, Option, Some, None, refl, ap, sym}
use Rattle.std.specs.Prelude.{fold, if◌then◌else◌, unwrap_or, Result, Ok, Err, IfOk, OnErr}
use Rattle.std.specs.List.{list_any}
use Rattle.std.specs.Ffi.{without_last}
use Rattle.oz_base.specs.Words.{number_in}
use Rattle.oz_base.proofs.WordsLaws.{number_kept}
use Rattle.oz_base.specs.Lists.{last_of}
use Rattle.oz_language.specs.declared.token.Sort.TheVariants as sort
use Rattle.oz_language.specs.declared.token.Sort.{Sort}
use Rattle.oz_language.specs.declared.token.Lexeme.{Lexeme}
use Rattle.oz_language.specs.declared.token.Literal.{Literal}
use Rattle.oz_language.specs.declared.token.Token.{Token}
use Rattle.oz_language.specs.declared.token.Token.TheVariants as token
use Rattle.oz_language.specs.Tokens.{is_var, is_small_word, is_quoted, is_char, is_literal, is_label, is_reserved, is_int, is_symbol, sort_of}
use Rattle.oz_language.specs.Wording.{bytes_of, number_of, unquoted, meant, meant_behind, label_word, word_in, with_word, joining, constant_of, atom_unless, atom_word, quoted_in, label_in, word_token, token_in}
use Rattle.oz_lex.specs.Lexing.{KeepsNumbers, IsNew, TakesMemory, has_escape}
use Rattle.oz_lex.specs.Scanning.{begins_with}

-- ---- numbers that stay

word_keeps : (words : List (List ℕ)) (new : Option (List ℕ)) → KeepsNumbers words (with_word words new)
word_keeps words None word n h = h
word_keeps words (Some other) word n h = number_kept words word other n h

-- the words that are there keep their numbers when those of more tokens join
pub joined_keep : (text : List ℕ) (words : List (List ℕ)) (more : List Lexeme) → KeepsNumbers words (fold (joining text) words more)
joined_keep text words [] word n h = h
joined_keep text words (l ∷ more) word n h =
    joined_keep text (joining text words l) more word n (word_keeps words (word_in l.sort (bytes_of text l)) word n h)

-- ---- what a token's sort says of its bytes

-- the sort by the eight tests
abbrev chosen : Bool → Bool → Bool → Bool → Bool → Bool → Bool → Bool → Option Sort
chosen v w l i q t c s =
    if v then Some sort.Var
    else (if w then Some sort.Word
    else (if l then Some sort.Label
    else (if i then Some sort.Int
    else (if q then Some sort.Quoted
    else (if t then Some sort.String
    else (if c then Some sort.Char
    else (if s then Some sort.Symbol else None)))))))

int_by : (v w l i q t c s : Bool) → chosen v w l i q t c s ≡ Some sort.Int → i ≡ true
int_by true w l i q t c s h = absurd (cc)
int_by false true l i q t c s h = absurd (cc)
int_by false false true i q t c s h = absurd (cc)
int_by false false false true q t c s h = refl
int_by false false false false true t c s h = absurd (cc)
int_by false false false false false true c s h = absurd (cc)
int_by false false false false false false true s h = absurd (cc)
int_by false false false false false false false true h = absurd (cc)
int_by false false false false false false false false h = absurd (cc)

label_by : (v w l i q t c s : Bool) → chosen v w l i q t c s ≡ Some sort.Label → l ≡ true
label_by true w l i q t c s h = absurd (cc)
label_by false true l i q t c s h = absurd (cc)
label_by false false true i q t c s h = refl
label_by false false false true q t c s h = absurd (cc)
label_by false false false false true t c s h = absurd (cc)
label_by false false false false false true c s h = absurd (cc)
label_by false false false false false false true s h = absurd (cc)
label_by false false false false false false false true h = absurd (cc)
label_by false false false false false false false false h = absurd (cc)

pub int_bytes : (bytes : List ℕ) → sort_of bytes ≡ Some sort.Int → is_int bytes ≡ true
int_bytes bytes h = int_by (is_var bytes) (is_small_word bytes) (is_label bytes) (is_int bytes) (is_quoted 39 bytes) (is_quoted 34 bytes) (is_char bytes) (is_symbol bytes) h

last_part : (x y : Bool) → (x && y) ≡ true → y ≡ true
last_part true y h = h
last_part false y h = absurd (cc)

pub label_bytes : (bytes : List ℕ) → sort_of bytes ≡ Some sort.Label → is_literal (without_last bytes) ≡ true
label_bytes bytes h =
    last_part (last_of bytes == 40) (is_literal (without_last bytes))
    (label_by (is_var bytes) (is_small_word bytes) (is_label bytes) (is_int bytes) (is_quoted 39 bytes) (is_quoted 34 bytes) (is_char bytes) (is_symbol bytes) h)

-- ---- labels and what stands in quotes

pub literal_bare : (bytes : List ℕ) → begins_with 39 bytes ≡ false → is_quoted 39 bytes ≡ false
literal_bare [] e = refl
literal_bare (b ∷ bs) e = rw e refl

-- a literal is no reserved word
pub literal_free : (bytes : List ℕ) → is_literal bytes ≡ true → begins_with 39 bytes ≡ false → is_reserved bytes ≡ false
literal_free bytes h e = by (is_quoted 39 bytes) (is_small_word bytes) (is_reserved bytes) (literal_bare bytes e) h
  where
    by : (x y z : Bool) → x ≡ false → (x || (y && not z)) ≡ true → z ≡ false
    by true y z n k = absurd (cc)
    by false false z n k = absurd (cc)
    by false true true n k = absurd (cc)
    by false true false n k = refl

-- the word of a label that stands in no quotes
pub bare_word : (bytes : List ℕ) → is_literal bytes ≡ true → begins_with 39 bytes ≡ false → atom_unless bytes (constant_of bytes) ≡ label_word bytes
bare_word bytes h e = rw (literal_bare bytes e) (rw (literal_free bytes h e) refl)

-- ---- escapes

any_take : (p : ℕ → Bool) (n : ℕ) (xs : List ℕ) → list_any p (take n xs) ≡ true → list_any p xs ≡ true
any_take p zero xs h = absurd (cc)
any_take p (suc n) [] h = absurd (cc)
any_take p (suc n) (x ∷ xs) h = by (p x) (any_take p n xs) h
  where
    by : (q : Bool) → (list_any p (take n xs) ≡ true → list_any p xs ≡ true) → (q || list_any p (take n xs)) ≡ true → (q || list_any p xs) ≡ true
    by true f k = refl
    by false f k = f k

any_behind : (p : ℕ → Bool) (xs : List ℕ) → list_any p (drop 1 xs) ≡ true → list_any p xs ≡ true
any_behind p [] h = h
any_behind p (x ∷ xs) h = by (p x) h
  where
    by : (q : Bool) → list_any p xs ≡ true → (q || list_any p xs) ≡ true
    by true k = refl
    by false k = k

pub escape_before : (bytes : List ℕ) → has_escape (without_last bytes) ≡ true → has_escape bytes ≡ true
escape_before bytes h = any_take (λ b. b == 92) (length bytes - 1) bytes h

-- an escape inside the quotes
pub escape_inside : (bytes : List ℕ) → has_escape (without_last (drop 1 bytes)) ≡ true → has_escape bytes ≡ true
escape_inside bytes h = any_behind (λ b. b == 92) bytes (escape_before (drop 1 bytes) h)

-- where no escape stands, the bytes mean themselves
pub plain_meant : (bytes : List ℕ) → has_escape bytes ≡ false → meant bytes ≡ bytes
plain_meant [] h = refl
plain_meant (b ∷ bs) h = by (b == 92) (plain_meant bs) h
  where
    by : (q : Bool) → (has_escape bs ≡ false → meant bs ≡ bs) → (q || has_escape bs) ≡ false → (if q then meant_behind bs else b ∷ meant bs) ≡ b ∷ bs
    by true f k = absurd (cc)
    by false f k = ap (λ x. b ∷ x) (f k)

-- ---- what may be refused

pub new_takes : (words : List (List ℕ)) (bytes : List ℕ) (word : Option (List ℕ)) → IsNew words word → TakesMemory words bytes word
new_takes words bytes None h = h
new_takes words bytes (Some word) h = inl h

pub longer_takes : (words : List (List ℕ)) (bytes : List ℕ) (word : Option (List ℕ)) → TakesMemory words (without_last bytes) word → TakesMemory words bytes word
longer_takes words bytes None h = h
longer_takes words bytes (Some word) (inl h) = inl h
longer_takes words bytes (Some word) (inr h) = inr (escape_before bytes h)

pub err_takes : {T E : Type 0} (words : List (List ℕ)) (bytes : List ℕ) (word : Option (List ℕ)) (r : Result T E) → OnErr r (IsNew words word) → OnErr r (TakesMemory words bytes word)
err_takes words bytes word (Ok t) h = h
err_takes words bytes word (Err x) h = new_takes words bytes word h

-- the number of a word is the same among words that join later
pub stays : {E : Type 0} (words : List (List ℕ)) (word : List ℕ) (r : Result ℕ E) → IfOk r (λ n. number_in words word ≡ Some n)
    → IfOk r (λ n. (later : List (List ℕ)) → KeepsNumbers words later → n ≡ number_of later word)
stays words word (Ok n) h = λ later k. ap (λ o. unwrap_or o 0) (sym (k word n h))
stays words word (Err x) h = h

-- ---- the tokens

module _ (text : List ℕ) (words : List (List ℕ)) (l : Lexeme) (bytes : List ℕ) (e : bytes ≡ bytes_of text l) where
  pub var_token : (n : ℕ) → l.sort ≡ sort.Var → number_in words bytes ≡ Some n → (more : List Lexeme) → token.Var n l.at ≡ token_in (fold (joining text) words more) text l
  var_token n s h more =
      let k = joined_keep text words more bytes n h in
      rw s (rw (sym e) (ap (λ o. token.Var (unwrap_or o 0) l.at) (sym k)))

  pub small_token : (t : Token) → l.sort ≡ sort.Word → ((later : List (List ℕ)) → KeepsNumbers words later → t ≡ word_token later l.at bytes)
      → (more : List Lexeme) → t ≡ token_in (fold (joining text) words more) text l
  small_token t s h more = rw s (rw (sym e) (h (fold (joining text) words more) (joined_keep text words more)))

  pub label_token : (t : Literal) → l.sort ≡ sort.Label → ((later : List (List ℕ)) → KeepsNumbers words later → t ≡ label_in later (without_last bytes))
      → (more : List Lexeme) → token.Label t l.at ≡ token_in (fold (joining text) words more) text l
  label_token t s h more = rw s (rw (sym e) (ap (λ x. token.Label x l.at) (h (fold (joining text) words more) (joined_keep text words more))))

  pub quoted_token : (t : Literal) → l.sort ≡ sort.Quoted → ((later : List (List ℕ)) → KeepsNumbers words later → t ≡ quoted_in later bytes)
      → (more : List Lexeme) → token.Literal t l.at ≡ token_in (fold (joining text) words more) text l
  quoted_token t s h more = rw s (rw (sym e) (ap (λ x. token.Literal x l.at) (h (fold (joining text) words more) (joined_keep text words more))))

  pub string_token : (n : ℕ) → l.sort ≡ sort.String → ((later : List (List ℕ)) → KeepsNumbers words later → n ≡ number_of later (unquoted bytes))
      → (more : List Lexeme) → token.String n l.at ≡ token_in (fold (joining text) words more) text l
  string_token n s h more = rw s (rw (sym e) (ap (λ x. token.String x l.at) (h (fold (joining text) words more) (joined_keep text words more))))

  pub word_of_small : l.sort ≡ sort.Word → atom_word bytes ≡ word_in l.sort (bytes_of text l)
  word_of_small s = rw s (rw (sym e) refl)

  pub word_of_label : l.sort ≡ sort.Label → label_word (without_last bytes) ≡ word_in l.sort (bytes_of text l)
  word_of_label s = rw s (rw (sym e) refl)

  pub small_tokens : {E : Type 0} (r : Result Token E) → l.sort ≡ sort.Word → IfOk r (λ t. (later : List (List ℕ)) → KeepsNumbers words later → t ≡ word_token later l.at bytes)
      → IfOk r (λ t. (more : List Lexeme) → t ≡ token_in (fold (joining text) words more) text l)
  small_tokens (Ok t) s h = small_token t s h
  small_tokens (Err x) s h = h

pub on_err : {T E P : Type 0} (r : Result T E) → P → OnErr r P
on_err (Ok t) p = tt
on_err (Err x) p = p

-- The record of a script: as a vector it has the script's variables, and its text has their values.
use Rattle.std.proofs.Common.{◌≡◌, ℕ, ℤ, pos, zero, suc, ◌+◌, ◌<◌, ◌≤◌, nat_le, ◌==◌, ◌&&◌, Bool, true, false, if◌then◌else◌, List, [], ◌∷◌, ◌++◌, codes, length, map, take, All, None, refl, sym, ◌∙◌, ap, arith}
use Rattle.std.proofs.lemmas.List.{append_assoc, length-append, length-map}
use Rattle.std.proofs.Math.Seq.{get_or-append_seam}
use Rattle.std.specs.List.{range_with_len}
use Rattle.std.specs.FinSet as set
use Rattle.oz_base.specs.ListLaws.{list_eq-decides}
use Rattle.oz_base.specs.declared.names.Ident.{Ident}
use Rattle.oz_domains.specs.Domains.{least, is_single}
use Rattle.oz_domains.specs.Positions.{domain, all_single}
use Rattle.oz_language.specs.Constants.{constant_eq, literal_eq, same_arity}
use Rattle.oz_language.specs.Kernels.{word_text}
use Rattle.oz_language.specs.Wording.{bar_word}
use Rattle.oz_language.specs.SimpleTexts.{is_atom, is_bars, count_from, form_of, integer_text, simple_text, record_text}
use Rattle.oz_language.specs.declared.text.Form.TheVariants as form
use Rattle.oz_language.specs.declared.token.Literal.{Literal}
use Rattle.oz_language.specs.declared.token.Literal.TheVariants as literal
use Rattle.oz_language.specs.declared.kernel.Constant.{Constant}
use Rattle.oz_language.specs.declared.kernel.Constant.TheVariants as constant
use Rattle.oz_semantics.specs.Values.{two_of, pair_in}
use Rattle.oz_semantics.specs.Store.{View}
use Rattle.oz_semantics.specs.Inputs.{Known}
use Rattle.oz_semantics.specs.Vectors.{vector}
use Rattle.oz_semantics.specs.Texts.{term_text}
use Rattle.oz_semantics.specs.declared.value.Record.{Record}
use Rattle.oz_semantics.specs.declared.value.Value.TheVariants as value
use Rattle.oz_laws.proofs.SameLaws.{eq-true}
use Rattle.fd_domain.proofs.SetLaws.{and_left, and_right}
use Rattle.fd_stores.specs.Stores.{Store, domains_at}
use Rattle.fd_views.specs.Views.{variables_at, IsPlain, HasValue}
use Rattle.fd_views.proofs.InputLaws.{record_vector, literal_vector}
use Rattle.fd_form.specs.declared.script.FdScript.{FdScript}
use Rattle.fd_form.specs.FdScripts.{answer_text}
use Rattle.fd_execution.specs.Further.{root_value}
use Rattle.fd_search.specs.Texts.{TextLaw}

-- ---- a record that is no cell of a list

literal_same : (l : Literal) (a : ℕ) → literal_eq l (literal.Atom a) ≡ true → l ≡ literal.Atom a
literal_same (literal.Atom b) a e = ap literal.Atom (eq-true b a e)
literal_same literal.True a e = absurd (cc)
literal_same literal.False a e = absurd (cc)
literal_same literal.Unit a e = absurd (cc)

-- features 1 and 2
abbrev two_features : List Constant
two_features = constant.Int (pos 1) ∷ constant.Int (pos 2) ∷ []

two_counted : (fs : List Constant) → same_arity fs two_features ≡ true → (count_from 1 fs ≡ true) × ((length fs == 2) ≡ true)
two_counted [] e = absurd (cc)
two_counted (f ∷ []) e = absurd (last (constant_eq f (constant.Int (pos 1))) e) where
  last : (b : Bool) → (b && false) ≡ true → ⊥
  last true h = cc
  last false h = cc
two_counted (f ∷ g ∷ []) e = (e, refl)
two_counted (f ∷ g ∷ h ∷ fs) e = absurd (last (constant_eq f (constant.Int (pos 1))) (constant_eq g (constant.Int (pos 2))) e) where
  last : (b c : Bool) → (b && (c && false)) ≡ true → ⊥
  last true true h = cc
  last true false h = cc
  last false c h = cc

module _ (words : List (List ℕ)) (bar : word_text words bar_word ≡ codes "|") where
  bars_of : (l : Literal) (fs : List Constant) → literal_eq l (literal.Atom bar_word) ≡ true → same_arity fs two_features ≡ true → is_bars (form_of words l fs) ≡ true
  bars_of l fs e h =
      let c = two_counted fs h in
      let label : is_atom words (codes "|") l ≡ true = ap (is_atom words (codes "|")) (literal_same l bar_word e) ∙ (list_eq-decides (word_text words bar_word) (codes "|")).1 bar in
      let test : (is_atom words (codes "|") l && count_from 1 fs && (length fs == 2)) ≡ true = (λ i. label i && c.0 i && c.1 i) in
      ap (λ b. is_bars (if b then form.Bars else (if is_atom words (codes "#") l && count_from 1 fs && nat_le 2 (length fs) then form.Hashes else form.Other))) test

  pub no_pair : (l : Literal) (fs : List Constant) (xs : List Ident) → is_bars (form_of words l fs) ≡ false → pair_in bar_word (value.Record (record { label = l; features = fs; fields = xs })) ≡ None
  no_pair l fs xs e = by (literal_eq l (literal.Atom bar_word)) (same_arity fs two_features) refl refl where
    clash : (b : Bool) → b ≡ true → b ≡ false → ⊥
    clash b p q = cc

    by : (a b : Bool) → literal_eq l (literal.Atom bar_word) ≡ a → same_arity fs two_features ≡ b → (if a && b then two_of xs else None) ≡ None
    by true true p q = absurd (clash (is_bars (form_of words l fs)) (bars_of l fs p q) e)
    by true false p q = refl
    by false b p q = refl

  -- ---- as a vector

  pub root_reads : (l : Literal) (fs : List (Constant × ℕ)) (root : Ident) (base : List Ident) → length base ≡ length fs → is_bars (form_of words l (map (λ (f : Constant × ℕ). f.0) fs)) ≡ false
      → (v : View) (xs : List Ident) → IsPlain v xs → HasValue v root (root_value l fs base) → vector v root ≡ Known base
  root_reads l [] root base e b v xs p h = literal_vector v xs p root l h ∙ ap Known (sym (no_elements base e)) where
    no_elements : (ys : List Ident) → length ys ≡ 0 → ys ≡ []
    no_elements [] f = refl
    no_elements (y ∷ ys) f = absurd (omega (arith, f))
  root_reads l (f ∷ fs) root base e b v xs p h =
      let r : Record = record { label = l; features = map (λ (g : Constant × ℕ). g.0) (f ∷ fs); fields = base } in
      record_vector v xs p root r (no_pair l (map (λ (g : Constant × ℕ). g.0) (f ∷ fs)) base b) h

-- ---- as a text

-- the first domains of a store
first_domains : (m before : Store) (n a : ℕ) → length before ≡ a → n ≤ length m → domains_at (before ++ m) (range_with_len a n) ≡ take n m
first_domains m before zero a e l = refl
first_domains [] before (suc n) a e l = absurd (omega (arith, l))
first_domains (d ∷ m) before (suc n) a e l =
    let here : domain (before ++ d ∷ m) a ≡ d = ap (domain (before ++ d ∷ m)) (sym e) ∙ get_or-append_seam before d m set.empty in
    let long = length-append before (d ∷ []) in
    let rest = ap (λ z. domains_at z (range_with_len (a + 1) n)) (sym (append_assoc before (d ∷ []) m)) ∙ first_domains m (before ++ d ∷ []) n (a + 1) (omega (arith, long, e)) (omega (arith, l)) in
    λ i. here i ∷ rest i

single_first : (m : Store) (n : ℕ) → all_single m ≡ true → all_single (take n m) ≡ true
single_first m zero e = refl
single_first [] (suc n) e = refl
single_first (d ∷ m) (suc n) e = (λ i. and_left (is_single d) (all_single m) e i && single_first m n (and_right (is_single d) (all_single m) e) i)

least_first : (m : Store) (n : ℕ) → map least (take n m) ≡ take n (map least m)
least_first m zero = refl
least_first [] (suc n) = refl
least_first (d ∷ m) (suc n) = ap (λ z. least d ∷ z) (least_first m n)

take_long : (n : ℕ) (t : List ℤ) → n ≤ length t → length (take n t) ≡ n
take_long zero t l = refl
take_long (suc n) [] l = absurd (omega (arith, l))
take_long (suc n) (v ∷ t) l = ap suc (take_long n t (omega (arith, l)))

-- an answer of some values, and one of none
answer_some : (words : List (List ℕ)) (s : FdScript) (t : List ℤ) (n : ℕ) → length t ≡ suc n → record_text words s.label s.features (map (λ v. (form.Other, integer_text v)) t) ≡ answer_text words s t
answer_some words s [] n e = absurd (omega (arith, e))
answer_some words s (v ∷ t) n e = refl

answer_none : (words : List (List ℕ)) (s : FdScript) (t : List ℤ) → length t ≡ 0 → simple_text words (constant.Literal s.label) ≡ answer_text words s t
answer_none words s [] e = refl
answer_none words s (v ∷ t) e = absurd (omega (arith, e))

-- the text of the root has the values of the first variables
module _ (words : List (List ℕ)) (s : FdScript) (view : View) (xs : List Ident) (m : Store) (root : Ident) (text : TextLaw words view xs m root) (n : ℕ) (single : all_single m ≡ true) (stored : n ≤ length m) (inside : All (λ x. x < length xs) (range_with_len 0 n)) where
  abbrev values : List ℤ
  values = take n (map least m)

  domains_first : domains_at m (range_with_len 0 n) ≡ take n m
  domains_first = first_domains m [] n 0 refl stored

  values_long : length values ≡ n
  values_long = take_long n (map least m) (let a = length-map m least in omega (arith, a, stored))

  pub root_text : (fs : List (Constant × ℕ)) → length fs ≡ n → map (λ (f : Constant × ℕ). f.0) fs ≡ s.features → HasValue view root (root_value s.label fs (variables_at xs (range_with_len 0 n))) → (term_text words view root).bytes ≡ answer_text words s values
  root_text [] e f h = text.of_literal s.label h ∙ answer_none words s values (let a = values_long in omega (arith, a, e))
  root_text (g ∷ fs) e f h =
      let features = map (λ (z : Constant × ℕ). z.0) (g ∷ fs) in
      let a = values_long in
      text.of_record s.label features (range_with_len 0 n) inside (ap all_single domains_first ∙ single_first m n single) h
      ∙ ap (λ ds. record_text words s.label features (map (λ v. (form.Other, integer_text v)) (map least ds))) domains_first
      ∙ (λ i. record_text words s.label (f i) (map (λ v. (form.Other, integer_text v)) (least_first m n i)))
      ∙ answer_some words s values (length fs) (omega (arith, a, e))

-- A term among other words has the same text.
use Rattle.std.proofs.Common.{◌≡◌, ◌<◌, ◌==◌, ◌&&◌, ℕ, suc, pos, true, not, List, [], ◌∷◌, ◌++◌, Some, length, slice_get, refl, ap, sym, ◌∙◌, subst, arith}
use Rattle.std.specs.Prelude.{map, nat_lt, nat_le, unwrap_or, if◌then◌else◌, codes}
use Rattle.std.specs.List.{list_all, list_any}
use Rattle.std.specs.Ordering.{is_lt, nat_cmp}
use Rattle.std.specs.Cmp.Lexicographic.{slice_cmp}
use Rattle.std.proofs.lemmas.Bool.Decides.{nat_tests}
use Rattle.std.proofs.lemmas.Option.{slice_get_within}
use Rattle.oz_base.specs.Lists.{list_eq, is_empty}
use Rattle.oz_base.specs.Words.{with_text, number_in}
use Rattle.oz_base.proofs.WordsLaws.{number_added, text_at_number}
use Rattle.oz_language.specs.Constants.{constant_eq}
use Rattle.oz_language.specs.Arities.{feature_lt}
use Rattle.oz_language.specs.Kernels.{word_text}
use Rattle.oz_language.specs.Wording.{number_of}
use Rattle.oz_language.specs.SimpleTexts.{is_atom, atom_text, literal_text, constant_text, simple_text, count_from, form_of, joined, fields_text, text_as, record_text}
use Rattle.oz_language.specs.declared.text.Form.{Form}
use Rattle.oz_language.specs.declared.text.Form.TheVariants as form
use Rattle.oz_language.specs.declared.token.Literal.{Literal}
use Rattle.oz_language.specs.declared.token.Literal.TheVariants as literal
use Rattle.oz_language.specs.declared.kernel.Constant.{Constant}
use Rattle.oz_language.specs.declared.kernel.Constant.TheVariants as constant
use Rattle.text_laws.specs.Terms.{Term, Terms, simple, compound, no_term, beside, is_writable, is_literal, is_constant, is_fail, is_arity, is_filled, is_value, are_values, form_in, term_text, field_texts}
use Rattle.text_laws.specs.Renaming.{literal_among, constant_among, term_among, terms_among, has_literal, has_constant, has_term, has_terms}
use Rattle.text_laws.specs.Laws.{IsReadAs, TermsReadAnew}
use Rattle.text_laws.proofs.TermLaws.{terms_read}
use Rattle.text_laws.proofs.Basics.{both, both_yes}

-- a word that is there stands at its number
found : (others : List (List ℕ)) (word : List ℕ) → list_any (list_eq word) others ≡ true → slice_get others (number_of others word) ≡ Some word
found others word h =
    let n = number_added others word in
    let same : with_text others word ≡ others = rw h refl in
    let at : number_in others word ≡ Some n.0 = ap (λ us. number_in us word) (sym same) ∙ n.1 in
    ap (λ o. slice_get others (unwrap_or o 0)) at ∙ text_at_number others word n.0 at

module _ (words others : List (List ℕ)) where
  abbrev there : Constant → Constant
  there = constant_among words others

  word_again : (a : ℕ) → has_literal words others (literal.Atom a) ≡ true → word_text others (number_of others (word_text words a)) ≡ word_text words a
  word_again a h = ap (λ o. unwrap_or o []) (found others (word_text words a) h)

  -- ---- literals

  same_literal_text : (l : Literal) → has_literal words others l ≡ true → literal_text others (literal_among words others l) ≡ literal_text words l
  same_literal_text (literal.Atom a) h = ap atom_text (word_again a h)
  same_literal_text literal.True h = refl
  same_literal_text literal.False h = refl
  same_literal_text literal.Unit h = refl

  same_atom : (text : List ℕ) (l : Literal) → has_literal words others l ≡ true → is_atom others text (literal_among words others l) ≡ is_atom words text l
  same_atom text (literal.Atom a) h = ap (λ word. list_eq word text) (word_again a h)
  same_atom text literal.True h = refl
  same_atom text literal.False h = refl
  same_atom text literal.Unit h = refl

  same_literal : (l : Literal) → has_literal words others l ≡ true → is_literal words l ≡ true → is_literal others (literal_among words others l) ≡ true
  same_literal (literal.Atom a) h i =
      let n = number_of others (word_text words a) in
      let within : n < length others = slice_get_within others n (word_text words a) (found others (word_text words a) h) in
      both_yes (nat_lt n (length others)) _ (grind (arith, nat_tests, within))
      (ap (list_all is_writable) (word_again a h) ∙ (both (nat_lt a (length words)) (list_all is_writable (word_text words a)) i).1)
  same_literal literal.True h i = refl
  same_literal literal.False h i = refl
  same_literal literal.Unit h i = refl

  same_lt : (f g : Constant) → has_constant words others f ≡ true → has_constant words others g ≡ true → feature_lt others (there f) (there g) ≡ feature_lt words f g
  same_lt (constant.Literal (literal.Atom a)) (constant.Literal (literal.Atom b)) h i = λ j. is_lt (slice_cmp nat_cmp (word_again a h j) (word_again b i j))
  same_lt (constant.Int i) (constant.Int j) h k = refl
  same_lt (constant.Int i) (constant.Literal m) h k = refl
  same_lt (constant.Literal l) (constant.Int j) h k = refl
  same_lt (constant.Literal (literal.Atom a)) (constant.Literal literal.True) h k = refl
  same_lt (constant.Literal (literal.Atom a)) (constant.Literal literal.False) h k = refl
  same_lt (constant.Literal (literal.Atom a)) (constant.Literal literal.Unit) h k = refl
  same_lt (constant.Literal literal.True) (constant.Literal (literal.Atom b)) h k = refl
  same_lt (constant.Literal literal.False) (constant.Literal (literal.Atom b)) h k = refl
  same_lt (constant.Literal literal.Unit) (constant.Literal (literal.Atom b)) h k = refl
  same_lt (constant.Literal l) (constant.Literal m) h k = refl

  -- ---- constants

  same_constant_text : (c : Constant) → has_constant words others c ≡ true → constant_text others (there c) ≡ constant_text words c
  same_constant_text (constant.Int i) h = refl
  same_constant_text (constant.Literal l) h = same_literal_text l h

  same_simple_text : (c : Constant) → has_constant words others c ≡ true → simple_text others (there c) ≡ simple_text words c
  same_simple_text (constant.Int i) h = refl
  same_simple_text (constant.Literal l) h = λ i. if same_atom (codes "fail") l h i then codes "fail" else same_literal_text l h i

  same_constant : (c : Constant) → has_constant words others c ≡ true → is_constant words c ≡ true → is_constant others (there c) ≡ true
  same_constant (constant.Int i) h k = k
  same_constant (constant.Literal l) h k = same_literal l h k

  same_fail : (c : Constant) → has_constant words others c ≡ true → is_fail others (there c) ≡ is_fail words c
  same_fail (constant.Int i) h = refl
  same_fail (constant.Literal l) h = same_atom (codes "fail") l h

  same_count_at : (f : Constant) (n : ℕ) → constant_eq (there f) (constant.Int (pos n)) ≡ constant_eq f (constant.Int (pos n))
  same_count_at (constant.Int i) n = refl
  same_count_at (constant.Literal l) n = refl

  -- ---- features

  same_count : (n : ℕ) (fs : List Constant) → count_from n (map there fs) ≡ count_from n fs
  same_count n [] = refl
  same_count n (f ∷ fs) = λ i. same_count_at f n i && same_count (suc n) fs i

  same_length : (fs : List Constant) → length (map there fs) ≡ length fs
  same_length [] = refl
  same_length (f ∷ fs) = ap suc (same_length fs)

  same_constants : (fs : List Constant) → list_all (has_constant words others) fs ≡ true → list_all (is_constant words) fs ≡ true → list_all (is_constant others) (map there fs) ≡ true
  same_constants [] h k = refl
  same_constants (f ∷ fs) h k =
      let a = both (has_constant words others f) _ h in
      let b = both (is_constant words f) _ k in
      both_yes (is_constant others (there f)) _ (same_constant f a.0 b.0) (same_constants fs a.1 b.1)

  same_arity : (fs : List Constant) → list_all (has_constant words others) fs ≡ true → is_arity others (map there fs) ≡ is_arity words fs
  same_arity [] h = refl
  same_arity (f ∷ []) h = refl
  same_arity (f ∷ g ∷ fs) h =
      let a = both (has_constant words others f) _ h in
      let b = both (has_constant words others g) _ a.1 in
      let c = same_lt f g a.0 b.0 in
      let d = same_arity (g ∷ fs) a.1 in
      λ i. c i && d i

  same_empty : (fs : List Constant) → is_empty (map there fs) ≡ is_empty fs
  same_empty [] = refl
  same_empty (f ∷ fs) = refl

  same_filled : (fs : List Constant) (ts : Terms) → is_filled (map there fs) (terms_among words others ts) ≡ is_filled fs ts
  same_filled [] no_term = refl
  same_filled (f ∷ fs) (beside t ts) = same_filled fs ts
  same_filled [] (beside t ts) = refl
  same_filled (f ∷ fs) no_term = refl

  -- ---- records

  same_form : (l : Literal) (fs : List Constant) → has_literal words others l ≡ true → form_of others (literal_among words others l) (map there fs) ≡ form_of words l fs
  same_form l fs h =
      let a = same_atom (codes "|") l h in
      let b = same_atom (codes "#") l h in
      let c = same_count 1 fs in
      let n = same_length fs in
      λ i. if a i && c i && (n i == 2) then form.Bars else (if b i && c i && nat_le 2 (n i) then form.Hashes else form.Other)

  same_fields : (n : ℕ) (fs : List Constant) (xs : List (List ℕ)) → list_all (has_constant words others) fs ≡ true → fields_text others n (map there fs) xs ≡ fields_text words n fs xs
  same_fields n [] xs h = refl
  same_fields n (f ∷ fs) [] h = refl
  same_fields n (f ∷ fs) (x ∷ xs) h =
      let a = both (has_constant words others f) _ h in
      let e = same_count_at f n in
      let t = same_constant_text f a.0 in
      let p = same_fields (suc n) fs xs a.1 in
      let q = same_fields n fs xs a.1 in
      λ i. if e i then x ∷ p i else (t i ++ codes ":" ++ x) ∷ q i

  same_as : (f : Form) (l : Literal) (fs : List Constant) (os : List (Form × List ℕ)) → has_literal words others l ≡ true → list_all (has_constant words others) fs ≡ true
      → text_as f others (literal_among words others l) (map there fs) os ≡ text_as f words l fs os
  same_as form.Bars l fs os h k = refl
  same_as form.Hashes l fs os h k = refl
  same_as form.Other l fs os h k =
      let t = same_literal_text l h in
      let p = same_fields 1 fs (map (λ (o : Form × List ℕ). o.1) os) k in
      λ i. t i ++ codes "(" ++ joined (codes " ") (p i) ++ codes ")"

  same_record : (l : Literal) (fs : List Constant) (os : List (Form × List ℕ)) → has_literal words others l ≡ true → list_all (has_constant words others) fs ≡ true
      → record_text others (literal_among words others l) (map there fs) os ≡ record_text words l fs os
  same_record l fs os h k =
      ap (λ f. text_as f others (literal_among words others l) (map there fs) os) (same_form l fs h) ∙ same_as (form_of words l fs) l fs os h k

  -- ---- terms

  same_form_in : (t : Term) → has_term words others t ≡ true → form_in others (term_among words others t) ≡ form_in words t
  same_form_in (simple c) h = refl
  same_form_in (compound l fs ts) h = same_form l fs (both (has_literal words others l) _ h).0

  mutual
    same_text : (t : Term) → has_term words others t ≡ true → term_text others (term_among words others t) ≡ term_text words t
    same_text (simple c) h = same_simple_text c h
    same_text (compound l fs ts) h =
        let a = both (has_literal words others l) _ h in
        let b = both (list_all (has_constant words others) fs) _ a.1 in
        ap (record_text others (literal_among words others l) (map there fs)) (same_texts ts b.1) ∙ same_record l fs (field_texts words ts) a.0 b.0

    same_texts : (ts : Terms) → has_terms words others ts ≡ true → field_texts others (terms_among words others ts) ≡ field_texts words ts
    same_texts no_term h = refl
    same_texts (beside t ts) h =
        let a = both (has_term words others t) _ h in
        let f = same_form_in t a.0 in
        let x = same_text t a.0 in
        let xs = same_texts ts a.1 in
        λ i. (f i, x i) ∷ xs i

  mutual
    same_value : (t : Term) → has_term words others t ≡ true → is_value words t ≡ true → is_value others (term_among words others t) ≡ true
    same_value (simple c) h v =
        let a = both (is_constant words c) _ v in
        both_yes (is_constant others (there c)) _ (same_constant c h a.0) (ap not (same_fail c h) ∙ a.1)
    same_value (compound l fs ts) h v =
        let a = both (has_literal words others l) _ h in
        let b = both (list_all (has_constant words others) fs) _ a.1 in
        let p = both (is_literal words l) _ v in
        let q = both (list_all (is_constant words) fs) _ p.1 in
        let r = both (is_arity words fs) _ q.1 in
        let s = both (not (is_empty fs)) _ r.1 in
        let u = both (is_filled fs ts) (are_values words ts) s.1 in
        both_yes (is_literal others (literal_among words others l)) _ (same_literal l a.0 p.0)
        (both_yes (list_all (is_constant others) (map there fs)) _ (same_constants fs b.0 q.0)
        (both_yes (is_arity others (map there fs)) _ (same_arity fs b.0 ∙ r.0)
        (both_yes (not (is_empty (map there fs))) _ (ap not (same_empty fs) ∙ s.0)
        (both_yes (is_filled (map there fs) (terms_among words others ts)) _ (same_filled fs ts ∙ u.0) (same_values ts b.1 u.1)))))

    same_values : (ts : Terms) → has_terms words others ts ≡ true → are_values words ts ≡ true → are_values others (terms_among words others ts) ≡ true
    same_values no_term h v = refl
    same_values (beside t ts) h v =
        let a = both (has_term words others t) _ h in
        let b = both (is_value words t) _ v in
        both_yes (is_value others (term_among words others t)) _ (same_value t a.0 b.0) (same_values ts a.1 b.1)

-- ---- the law

pub terms_read_anew : TermsReadAnew
terms_read_anew words others t ws v h =
    subst (λ text. IsReadAs others text (term_among words others t)) (same_text words others t h) (terms_read others (term_among words others t) ws (same_value words others t h v))

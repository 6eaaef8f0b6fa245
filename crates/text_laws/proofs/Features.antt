-- Features and fields: their order, and how they are counted.
use Rattle.std.proofs.Common.{◌≡◌, ◌==◌, ℕ, suc, pos, true, false, not, List, [], ◌∷◌, length, refl, ap, ◌∙◌, arith}
use Rattle.std.specs.Prelude.{map}
use Rattle.std.specs.List.{zip}
use Rattle.std.specs.Ordering.{is_lt, nat_cmp, int_cmp, ordering_reverse}
use Rattle.std.specs.declared.cmp.Ordering.{Ordering}
use Rattle.std.specs.declared.cmp.Ordering.TheVariants.{Less, Equal, Greater}
use Rattle.std.specs.Cmp.Lexicographic.{slice_cmp}
use Rattle.std.proofs.lemmas.Cmp.{int_cmp_total, nat_list_cmp_total}
use Rattle.std.proofs.lemmas.Bool.Decides.{nat_tests, Decides-int_eq}
use Rattle.oz_base.specs.Lists.{is_empty}
use Rattle.oz_language.specs.Constants.{constant_eq}
use Rattle.oz_language.specs.Kernels.{word_text, Pattern, Patterns, no_pattern}
use Rattle.oz_language.specs.Kernels as k
use Rattle.oz_language.specs.Arities.{feature_lt, placed_field, in_arity_order}
use Rattle.oz_language.specs.SimpleTexts.{count_from}
use Rattle.oz_language.specs.Translation.{side_by_side, labelled_or_literal}
use Rattle.oz_language.specs.declared.token.Literal.{Literal}
use Rattle.oz_language.specs.declared.token.Literal.TheVariants as literal
use Rattle.oz_language.specs.declared.kernel.Constant.{Constant}
use Rattle.oz_language.specs.declared.kernel.Constant.TheVariants as constant
use Rattle.text_laws.specs.Terms.{Terms, no_term, beside, is_arity, is_filled}
use Rattle.text_laws.specs.Meanings.{pattern_of, patterns_of}
use Rattle.text_laws.proofs.Basics.{both}

-- ---- the order of features

not_both_ways : (r s : Ordering) → r ≡ ordering_reverse s → is_lt s ≡ true → is_lt r ≡ false
not_both_ways r Less e h = ap is_lt e
not_both_ways r Equal e h = absurd (cc)
not_both_ways r Greater e h = absurd (cc)

one_way : (words : List (List ℕ)) (f g : Constant) → feature_lt words f g ≡ true → feature_lt words g f ≡ false
one_way words (constant.Int i) (constant.Int j) h = not_both_ways (int_cmp j i) (int_cmp i j) (int_cmp_total.antisymm j i) h
one_way words (constant.Int i) (constant.Literal m) h = refl
one_way words (constant.Literal l) (constant.Int j) h = absurd (cc)
one_way words (constant.Literal (literal.Atom a)) (constant.Literal (literal.Atom b)) h =
    not_both_ways (slice_cmp nat_cmp (word_text words b) (word_text words a)) (slice_cmp nat_cmp (word_text words a) (word_text words b))
    (nat_list_cmp_total.antisymm (word_text words b) (word_text words a)) h
one_way words (constant.Literal (literal.Atom a)) (constant.Literal literal.False) h = refl
one_way words (constant.Literal (literal.Atom a)) (constant.Literal literal.True) h = refl
one_way words (constant.Literal (literal.Atom a)) (constant.Literal literal.Unit) h = refl
one_way words (constant.Literal literal.False) (constant.Literal (literal.Atom b)) h = absurd (cc)
one_way words (constant.Literal literal.False) (constant.Literal literal.False) h = refl
one_way words (constant.Literal literal.False) (constant.Literal literal.True) h = refl
one_way words (constant.Literal literal.False) (constant.Literal literal.Unit) h = refl
one_way words (constant.Literal literal.True) (constant.Literal (literal.Atom b)) h = absurd (cc)
one_way words (constant.Literal literal.True) (constant.Literal literal.False) h = absurd (cc)
one_way words (constant.Literal literal.True) (constant.Literal literal.True) h = refl
one_way words (constant.Literal literal.True) (constant.Literal literal.Unit) h = refl
one_way words (constant.Literal literal.Unit) (constant.Literal (literal.Atom b)) h = absurd (cc)
one_way words (constant.Literal literal.Unit) (constant.Literal literal.False) h = absurd (cc)
one_way words (constant.Literal literal.Unit) (constant.Literal literal.True) h = absurd (cc)
one_way words (constant.Literal literal.Unit) (constant.Literal literal.Unit) h = refl

-- fields in order stay where they are
pub ordered : {A : Type 0} (words : List (List ℕ)) (fs : List Constant) (xs : List A) → is_arity words fs ≡ true → in_arity_order words (zip fs xs) ≡ zip fs xs
ordered words [] xs h = refl
ordered words (f ∷ fs) [] h = refl
ordered words (f ∷ []) (x ∷ xs) h = refl
ordered words (f ∷ g ∷ fs) (x ∷ []) h = refl
ordered words (f ∷ g ∷ fs) (x ∷ y ∷ xs) h =
    let q = both (feature_lt words f g) (is_arity words (g ∷ fs)) h in
    ap (placed_field words (f, x)) (ordered words (g ∷ fs) (y ∷ xs) q.1) ∙ (rw (one_way words f g q.0) refl)

-- ---- features that count

int_feature : (f : Constant) (n : ℕ) → constant_eq f (constant.Int (pos n)) ≡ true → f ≡ constant.Int (pos n)
int_feature (constant.Int i) n h = ap constant.Int ((Decides-int_eq i (pos n)).0 h)
int_feature (constant.Literal l) n h = absurd (cc)

pub counted : (n : ℕ) (f : Constant) (fs : List Constant) → count_from n (f ∷ fs) ≡ true → (f ≡ constant.Int (pos n)) × (count_from (suc n) fs ≡ true)
counted n f fs h = let q = both (constant_eq f (constant.Int (pos n))) (count_from (suc n) fs) h in (int_feature f n q.0, q.1)

pub left_out : (f : Constant) (n : ℕ) → constant_eq f (constant.Int (pos n)) ≡ true → f ≡ constant.Int (pos n)
left_out f n h = int_feature f n h

pub one_two : (fs : List Constant) → count_from 1 fs ≡ true → (length fs == 2) ≡ true → fs ≡ constant.Int (pos 1) ∷ constant.Int (pos 2) ∷ []
one_two [] c l = absurd (cc)
one_two (f ∷ []) c l = absurd (cc)
one_two (f ∷ g ∷ []) c l = let a = counted 1 f (g ∷ []) c in let b = counted 2 g [] a.1 in λ i. a.0 i ∷ b.0 i ∷ []
one_two (f ∷ g ∷ h ∷ fs) c l = absurd (grind (arith, nat_tests, l))

-- ---- fields as patterns

abbrev pub pattern_list : Terms → List Pattern
pattern_list no_term = []
pattern_list (beside t ts) = pattern_of t ∷ pattern_list ts

pub in_a_row : (ts : Terms) → side_by_side (pattern_list ts) ≡ patterns_of ts
in_a_row no_term = refl
in_a_row (beside t ts) = ap (k.beside (pattern_of t)) (in_a_row ts)

zip_features : (fs : List Constant) (ts : Terms) → is_filled fs ts ≡ true → map (λ (g : Constant × Pattern). g.0) (zip fs (pattern_list ts)) ≡ fs
zip_features [] no_term h = refl
zip_features (f ∷ fs) (beside t ts) h = ap (λ gs. f ∷ gs) (zip_features fs ts h)
zip_features [] (beside t ts) h = absurd (cc)
zip_features (f ∷ fs) no_term h = absurd (cc)

zip_fields : (fs : List Constant) (ts : Terms) → is_filled fs ts ≡ true → map (λ (g : Constant × Pattern). g.1) (zip fs (pattern_list ts)) ≡ pattern_list ts
zip_fields [] no_term h = refl
zip_fields (f ∷ fs) (beside t ts) h = ap (λ gs. pattern_of t ∷ gs) (zip_fields fs ts h)
zip_fields [] (beside t ts) h = absurd (cc)
zip_fields (f ∷ fs) no_term h = absurd (cc)

pub labelled_fields : (l : Literal) (fs : List Constant) (ts : Terms) → not (is_empty fs) ≡ true → is_filled fs ts ≡ true
    → labelled_or_literal l (zip fs (pattern_list ts)) ≡ k.labelled l fs (patterns_of ts)
labelled_fields l [] ts n h = absurd (cc)
labelled_fields l (f ∷ fs) no_term n h = absurd (cc)
labelled_fields l (f ∷ fs) (beside t ts) n h =
    let a = zip_features (f ∷ fs) (beside t ts) h in
    let b = ap side_by_side (zip_fields (f ∷ fs) (beside t ts) h) ∙ in_a_row (beside t ts) in
    λ i. k.labelled l (a i) (b i)

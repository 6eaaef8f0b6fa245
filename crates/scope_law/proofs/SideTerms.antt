-- The terms and the products of a side are closed.
use Rattle.std.proofs.Common.{◌≡◌, inl, inr, ℕ, ℤ, pos, suc, ◌+ℤ◌, List, [], ◌∷◌, ◌++◌, Bool, true, false, not, refl, arith}
use Rattle.std.specs.List.{Contains, AllByRecursion}
use Rattle.std.proofs.lemmas.List.Elements.{All-from_recursion}
use Rattle.oz_language.specs.declared.kernel.Identifier.{Identifier}
use Rattle.oz_language.specs.declared.kernel.Identifier.TheVariants.{Fresh}
use Rattle.oz_language.specs.declared.kernel.LinearTerm.{LinearTerm}
use Rattle.oz_language.specs.declared.token.Operator.TheVariants.{Plus, Minus, Times}
use Rattle.oz_language.specs.declared.token.Comparison.{Comparison}
use Rattle.oz_language.specs.declared.token.Comparison.TheVariants as comparison
use Rattle.oz_language.specs.Grammar.{Phrase, var, int, select, binary}
use Rattle.oz_language.specs.Kernels.{Stmts, none, just, ◌⨾◌}
use Rattle.oz_language.specs.Kernels as k
use Rattle.oz_language.specs.Translation.{variable_of, name_or, behind_factor, behind_side, linear, terms_of, constant_of, products_of, sum_posted, posted}
use Rattle.scope_law.specs.Closed.{Closed, ClosedAll}
use Rattle.scope_law.proofs.Basics.{each_append}
use Rattle.scope_law.proofs.Scopes.{appended}
use Rattle.scope_law.proofs.Names.{Knows}
use Rattle.scope_law.proofs.Bound.{Bound}
use Rattle.scope_law.proofs.Sides.{IsReference, IsProduct, IsSide, by_reference, by_references, by_product, Spans, spans_part, spans_first, spans_second, factor_more, behind_int, behind_product}

-- ---- what terms and statements are made of a product

terms_int : (s : Bool) (n : ℕ) (a : Phrase) (i : ℤ) (at : ℕ) → IsReference a → terms_of s n (binary Times a (int i at)) ≡ linear s i (name_or n (variable_of a)) ∷ []
terms_int s n a i at r = by_reference (λ a. terms_of s n (binary Times a (int i at)) ≡ linear s i (name_or n (variable_of a)) ∷ []) (λ name place. refl) (λ e f. refl) a r

terms_product : (s : Bool) (n : ℕ) (a b : Phrase) → IsReference a → IsReference b → terms_of s n (binary Times a b) ≡ linear s (pos 1) (Fresh (behind_factor (behind_factor n a) b)) ∷ []
terms_product s n a b r t =
    by_references (λ a b. terms_of s n (binary Times a b) ≡ linear s (pos 1) (Fresh (behind_factor (behind_factor n a) b)) ∷ []) (λ x at y place. refl) (λ x at e f. refl) (λ e f x at. refl) (λ e f c d. refl) a b r t

products_int : (n : ℕ) (a : Phrase) (i : ℤ) (at : ℕ) → IsReference a → products_of n (binary Times a (int i at)) ≡ none
products_int n a i at r = by_reference (λ a. products_of n (binary Times a (int i at)) ≡ none) (λ name place. refl) (λ e f. refl) a r

products_product : (n : ℕ) (a b : Phrase) → IsReference a → IsReference b
    → products_of n (binary Times a b) ≡ just (k.post_times (name_or n (variable_of a)) (name_or (behind_factor n a) (variable_of b)) (Fresh (behind_factor (behind_factor n a) b)))
products_product n a b r t =
    by_references (λ a b. products_of n (binary Times a b) ≡ just (k.post_times (name_or n (variable_of a)) (name_or (behind_factor n a) (variable_of b)) (Fresh (behind_factor (behind_factor n a) b))))
    (λ x at y place. refl) (λ x at e f. refl) (λ e f x at. refl) (λ e f c d. refl) a b r t

module _ (names : List ℕ) (S : List Identifier) (known : Knows names S) where
  reference_in : (n : ℕ) (p : Phrase) → IsReference p → Bound names true p → Spans S n (behind_factor n p) → Contains S (name_or n (variable_of p))
  reference_in n (var name at) r h s = known.word name h
  reference_in n (select e f) r h s = s.bound n (omega arith) (omega arith)
  reference_in n p r h s = elim r [ ]

  -- ---- terms

  abbrev VariableIn : LinearTerm → Type 0
  VariableIn t = Contains S t.variable

  abbrev TermsIn : List LinearTerm → Type 0
  TermsIn ts = AllByRecursion VariableIn ts

  times_terms : (s : Bool) (n : ℕ) (a b : Phrase) → IsProduct a b → Bound names true a → Bound names true b → Spans S n (behind_side n (binary Times a b)) → TermsIn (terms_of s n (binary Times a b))
  times_terms s n a b h = by_product (λ a b. Bound names true a → Bound names true b → Spans S n (behind_side n (binary Times a b)) → TermsIn (terms_of s n (binary Times a b)))
      (λ i at b r ha hb w. (reference_in n b r hb w, tt))
      (λ a i at r ha hb w. rw (terms_int s n a i at r) (reference_in n a r ha (rw (behind_int n a i at r) at w), tt))
      (λ a b r t ha hb w.
      let f = factor_more n a in
      let g = factor_more (behind_factor n a) b in
      rw (terms_product s n a b r t) ((rw (behind_product n a b r t) at w).bound (behind_factor (behind_factor n a) b) (omega arith) (omega arith), tt))
      a b h

  terms_in : (s : Bool) (n : ℕ) (p : Phrase) → IsSide p → Bound names true p → Spans S n (behind_side n p) → TermsIn (terms_of s n p)
  terms_in s n (binary Plus a b) h i w =
      each_append VariableIn (terms_of s n a) (terms_of s (behind_side n a) b) (terms_in s n a h.0 i.0 (spans_first S n a b h.1 w)) (terms_in s (behind_side n a) b h.1 i.1 (spans_second S n a b h.0 w))
  terms_in s n (binary Minus a b) h i w =
      each_append VariableIn (terms_of s n a) (terms_of (not s) (behind_side n a) b) (terms_in s n a h.0 i.0 (spans_first S n a b h.1 w)) (terms_in (not s) (behind_side n a) b h.1 i.1 (spans_second S n a b h.0 w))
  terms_in s n (binary Times a b) h i w = times_terms s n a b h i.0 i.1 w
  terms_in s n (int i at) h j w = tt
  terms_in s n (var name at) h i w = (known.word name i, tt)
  terms_in s n (select e f) h i w = (w.bound n (omega arith) (omega arith), tt)
  terms_in s n p h i w = elim h [ inl k ↦ elim k [ ] | inr k ↦ elim k [ ] ]

  -- ---- products

  times_products : (n : ℕ) (a b : Phrase) → IsProduct a b → Bound names true a → Bound names true b → Spans S n (behind_side n (binary Times a b)) → ClosedAll S (products_of n (binary Times a b))
  times_products n a b h = by_product (λ a b. Bound names true a → Bound names true b → Spans S n (behind_side n (binary Times a b)) → ClosedAll S (products_of n (binary Times a b)))
      (λ i at b r ha hb w. tt)
      (λ a i at r ha hb w. rw (products_int n a i at r) tt)
      (λ a b r t ha hb w.
      let m = behind_factor n a in
      let l = behind_factor m b in
      let f = factor_more n a in
      let g = factor_more m b in
      let v = rw (behind_product n a b r t) at w in
      rw (products_product n a b r t)
      ((reference_in n a r ha (spans_part S n (suc l) n m (omega arith) (omega arith) v), reference_in m b t hb (spans_part S n (suc l) m l (omega arith) (omega arith) v), v.bound l (omega arith) (omega arith)), tt))
      a b h

  products_in : (n : ℕ) (p : Phrase) → IsSide p → Bound names true p → Spans S n (behind_side n p) → ClosedAll S (products_of n p)
  products_in n (binary Plus a b) h i w =
      appended S (products_of n a) (products_of (behind_side n a) b) (products_in n a h.0 i.0 (spans_first S n a b h.1 w)) (products_in (behind_side n a) b h.1 i.1 (spans_second S n a b h.0 w))
  products_in n (binary Minus a b) h i w =
      appended S (products_of n a) (products_of (behind_side n a) b) (products_in n a h.0 i.0 (spans_first S n a b h.1 w)) (products_in (behind_side n a) b h.1 i.1 (spans_second S n a b h.0 w))
  products_in n (binary Times a b) h i w = times_products n a b h i.0 i.1 w
  products_in n p h i w = tt

  -- ---- the relation itself

  sum_closed : (r : Comparison) (c d : ℤ) (ts us : List LinearTerm) → TermsIn ts → TermsIn us → Closed S (sum_posted r c ts d us)
  sum_closed comparison.Equal c d ts us h i = All-from_recursion VariableIn ts h
  sum_closed comparison.Unequal c d ts us h i = All-from_recursion VariableIn ts h
  sum_closed comparison.Below c d ts us h i = All-from_recursion VariableIn ts h
  sum_closed comparison.NotAbove c d ts us h i = All-from_recursion VariableIn ts h
  sum_closed comparison.Above c d ts us h i = All-from_recursion VariableIn us i
  sum_closed comparison.NotBelow c d ts us h i = All-from_recursion VariableIn us i

  -- the products and the relation of two sides, with the numbers of both bound round them
  pub relation_closed : (r : Comparison) (n : ℕ) (a b : Phrase) → IsSide a → IsSide b → Bound names true a → Bound names true b → Spans S n (behind_side (behind_side n a) b)
      → ClosedAll S ((products_of n a ⨾ products_of (behind_side n a) b) ⨾ just (posted r n a b))
  relation_closed r n a b h i j l w =
      let m = behind_side n a in
      let v = spans_first S n a b i w in
      let u = spans_second S n a b h w in
      let left = each_append VariableIn (terms_of false n a) (terms_of true m b) (terms_in false n a h j v) (terms_in true m b i l u) in
      let right = each_append VariableIn (terms_of false m b) (terms_of true n a) (terms_in false m b i l u) (terms_in true n a h j v) in
      appended S (products_of n a ⨾ products_of m b) (just (posted r n a b))
      (appended S (products_of n a) (products_of m b) (products_in n a h j v) (products_in m b i l u))
      (sum_closed r (constant_of false a +ℤ constant_of true b) (constant_of false b +ℤ constant_of true a) (terms_of false n a ++ terms_of true m b) (terms_of false m b ++ terms_of true n a) left right, tt)

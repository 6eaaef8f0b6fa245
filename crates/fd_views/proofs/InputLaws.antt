-- What a description of a domain, a vector and a rule are in a view.
use Rattle.std.proofs.Common.{◌≡◌, inl, inr, ℕ, zero, suc, ◌<◌, ℤ, Bool, true, false, ◌||◌, if◌then◌else◌, List, [], ◌∷◌, length, Some, None, is_some, refl, sym, ◌∙◌, ap, subst, arith}
use Rattle.std.specs.List.{list_any}
use Rattle.oz_base.specs.declared.names.Ident.{Ident}
use Rattle.oz_base.specs.declared.distribution.Rule.{Rule}
use Rattle.oz_base.specs.declared.distribution.Rule.TheVariants.{Naive, FirstFail, Split as Halve}
use Rattle.oz_language.specs.Wording.{nil_word, bar_word, hash_word}
use Rattle.oz_language.specs.declared.token.Literal.{Literal}
use Rattle.oz_language.specs.declared.kernel.Constant.TheVariants as constant
use Rattle.oz_semantics.specs.Values.{integer, integer_in, atom, pair_in, fields_of}
use Rattle.oz_semantics.specs.Store.{Same, itself, reversed, joined, same, value_of}
use Rattle.oz_semantics.specs.Inputs.{Known, OtherKind, read, integer_input, both, known_if, and_further}
use Rattle.oz_semantics.specs.Constraints.{bounds_by, bounds}
use Rattle.oz_semantics.specs.Vectors.{list_in, list_elements, vector_in, vector}
use Rattle.oz_semantics.specs.Distributors.{rule_in, rule_input}
use Rattle.oz_semantics.specs.Effects.{stream_value}
use Rattle.oz_semantics.specs.declared.value.Record.{Record}
use Rattle.oz_semantics.specs.declared.value.Value.{Value}
use Rattle.oz_semantics.specs.declared.value.Value.TheVariants as value
use Rattle.oz_semantics.specs.declared.value.Tell.{Tell}
use Rattle.oz_laws.proofs.SameLaws.{In, tests_same}
use Rattle.oz_laws.proofs.OpeningLaws.{left_of, left_at_first, one_opened}
use Rattle.fd_views.specs.Views.{IsPlain, HasValue, rule_word, hash_value, IsList, ends, cell}
use Rattle.fd_views.proofs.ValueLaws.{value_told, value_is}

module _ (ts : List Tell) (xs : List Ident) (p : IsPlain ts xs) where
  -- ---- integers and bounds

  pub integer_known : (x : Ident) (i : ℤ) → HasValue ts x (integer i) → integer_input ts x ≡ Known i
  integer_known x i h = ap (read (λ v. known_if (integer_in v)) x) (value_is ts xs x (integer i) p h)

  pub one_bound : (d : Ident) (i : ℤ) → HasValue ts d (integer i) → bounds ts d ≡ Known (i, i)
  one_bound d i h = ap (read (λ v. bounds_by ts (integer_in v) (pair_in hash_word v)) d) (value_is ts xs d (integer i) p h)

  pub two_bounds : (d a b : Ident) (low high : ℤ) → HasValue ts d (hash_value a b) → HasValue ts a (integer low) → HasValue ts b (integer high) → bounds ts d ≡ Known (low, high)
  two_bounds d a b low high h k l =
      ap (read (λ v. bounds_by ts (integer_in v) (pair_in hash_word v)) d) (value_is ts xs d (hash_value a b) p h)
      ∙ (λ i. both (integer_known a low k i) (integer_known b high l i))

  -- ---- rules

  rule_read : (r : Rule) → rule_in (atom (rule_word r)) ≡ Some r
  rule_read Naive = refl
  rule_read FirstFail = refl
  rule_read Halve = refl

  pub rule_known : (x : Ident) (r : Rule) → HasValue ts x (atom (rule_word r)) → rule_input ts x ≡ Known r
  rule_known x r h = ap (read (λ v. known_if (rule_in v)) x) (value_is ts xs x (atom (rule_word r)) p h) ∙ ap known_if (rule_read r)

  -- ---- vectors

  -- a record, whose elements are its fields
  pub record_vector : (x : Ident) (r : Record) → pair_in bar_word (value.Record r) ≡ None → HasValue ts x (value.Record r) → vector ts x ≡ Known r.fields
  record_vector x r e h =
      ap (read (vector_in ts x) x) (value_is ts xs x (value.Record r) p h)
      ∙ ap (λ o. if is_some o then list_elements ts (suc (length ts)) [] x else Known r.fields) e

  -- a literal, which has none
  pub literal_vector : (x : Ident) (l : Literal) → HasValue ts x (value.Constant (constant.Literal l)) → vector ts x ≡ Known []
  literal_vector x l h = ap (read (vector_in ts x) x) (value_is ts xs x (value.Constant (constant.Literal l)) p h)

  -- ---- lists

  -- equal variables have one value
  value_once : (x y : Ident) (v w : Value) → Same ts x y → HasValue ts x v → HasValue ts y w → v ≡ w
  value_once x y v w s h k = p.one h.variable k.variable v w (joined (reversed h.equal) (joined s k.equal)) h.told k.told

  no_cell : (y z : Ident) → atom nil_word ≡ stream_value y z → ⊥
  no_cell y z e = cc

  same_tail : (a b c d : Ident) → stream_value a b ≡ stream_value c d → b ≡ d
  same_tail a b c d e = (let f : a ∷ b ∷ [] ≡ c ∷ d ∷ [] = ap fields_of e in cc)

  same_length : (x y : Ident) (vs ws : List Ident) → Same ts x y → IsList ts x vs → IsList ts y ws → length vs ≡ length ws
  same_length x y vs ws s (ends h) (ends k) = refl
  same_length x y vs ws s (ends h) (cell {y = a} {z = b} k l) = absurd (no_cell a b (value_once x y _ _ s h k))
  same_length x y vs ws s (cell {y = a} {z = b} h l) (ends k) = absurd (no_cell a b (sym (value_once x y _ _ s h k)))
  same_length x y vs ws s (cell {y = a} {z = b} {ys = us} h l) (cell {y = c} {z = d} {ys = os} k m) =
      ap suc (same_length b d us os (subst (Same ts b) (same_tail a b c d (value_once x y _ _ s h k)) itself) l m)

  -- those passed have longer lists
  abbrev Passed : List Ident → ℕ → Type 0
  Passed up n = (y : Ident) → In y up → (ws : List Ident) × IsList ts y ws × (n < length ws)

  none_passed : (x : Ident) (vs up : List Ident) → IsList ts x vs → Passed up (length vs) → list_any (same ts x) up ≡ false
  none_passed x vs [] l a = refl
  none_passed x vs (y ∷ up) l a = by (same ts x y) refl (none_passed x vs up l (λ z i. a z (inr i))) where
    by : (b : Bool) → same ts x y ≡ b → list_any (same ts x) up ≡ false → (b || list_any (same ts x) up) ≡ false
    by true e rest = (let r = a y (inl refl) in let f = same_length x y vs r.0 ((tests_same ts x y).0 e) l r.1 in absurd (omega (arith, r.2, f)))
    by false e rest = rest

  abbrev Reads : ℕ → List Ident → Ident → List Ident → Type 0
  Reads n up x vs = list_elements ts n up x ≡ Known vs

  opened : (n : ℕ) (up : List Ident) (x : Ident) (vs : List Ident) (v : Value) → IsList ts x vs → Passed up (length vs) → HasValue ts x v → list_elements ts (suc n) up x ≡ list_in (list_elements ts n (x ∷ up)) v
  opened n up x vs v l a h =
      ap (λ b. if b then OtherKind else read (list_in (list_elements ts n (x ∷ up))) x (value_of ts x)) (none_passed x vs up l a)
      ∙ ap (read (list_in (list_elements ts n (x ∷ up))) x) (value_is ts xs x v p h)

  list_read : (n : ℕ) (up : List Ident) (x : Ident) (vs : List Ident) → IsList ts x vs → Passed up (length vs) → left_of ts up < n → Reads n up x vs
  list_read zero up x vs l a m = absurd (omega (arith, m))
  list_read (suc n) up x [] (ends h) a m = opened n up x [] (atom nil_word) (ends h) a h
  list_read (suc n) up x (y ∷ ys) (cell {z = z} h l) a m =
      let vs = y ∷ ys in
      let here : IsList ts x vs = cell h l in
      let passed : Passed (x ∷ up) (length ys) = λ w i. elim i [ inl e ↦ (vs, subst (λ u. IsList ts u vs) e here, omega arith) | inr j ↦ (let r = a w j in (r.0, r.1, omega (arith, r.2))) ] in
      let less = one_opened ts x up (stream_value y z) (value_told ts xs x (stream_value y z) p h) (none_passed x vs up here a) in
      opened n up x vs (stream_value y z) here a h ∙ ap (and_further (λ us. Known (y ∷ us))) (list_read n (x ∷ up) z ys l passed (omega (arith, m, less)))

  pub list_vector : (x : Ident) (vs : List Ident) → IsList ts x vs → vector ts x ≡ Known vs
  list_vector x [] (ends h) = ap (read (vector_in ts x) x) (value_is ts xs x (atom nil_word) p h)
  list_vector x (y ∷ ys) (cell {z = z} h l) =
      ap (read (vector_in ts x) x) (value_is ts xs x (stream_value y z) p h)
      ∙ list_read (suc (length ts)) [] x (y ∷ ys) (cell h l) (λ w i. elim i [ ]) (left_at_first ts)

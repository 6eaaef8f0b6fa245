-- What a built-in reads off its arguments where more is told: what is known stays so, and what is not is waited for while the class has
-- no value.
use Rattle.std.proofs.Common.{◌≡◌, ℕ, ℤ, Bool, true, false, if◌then◌else◌, ◌&&◌, List, [], ◌∷◌, refl, sym, ap, ap₂, subst, ◌∙◌, Option, Some, None}
use Rattle.std.proofs.lemmas.Bool.{false≢true}
use Rattle.oz_base.specs.declared.names.Ident.{Ident}
use Rattle.oz_language.specs.Constants.{literal_eq, same_arity}
use Rattle.oz_language.specs.declared.token.Literal.{Literal}
use Rattle.oz_language.specs.declared.token.Literal.TheVariants.{Atom}
use Rattle.oz_language.specs.declared.kernel.Constant.{Constant}
use Rattle.oz_language.specs.declared.kernel.Constant.TheVariants as constant
use Rattle.std.specs.Prelude.{pos}
use Rattle.oz_language.specs.Wording.{hash_word}
use Rattle.oz_semantics.specs.Values.{is_like, integer_in, two_of, pair_of, pair_in, fields_of}
use Rattle.oz_semantics.specs.Store.{Same, IsConsistent, value_of, is_determined}
use Rattle.oz_semantics.specs.Inputs.{Input, Known, Unknown, OtherKind, both, and_further, known_if, read, integer_input}
use Rattle.oz_semantics.specs.Constraints.{bounds_by, bounds}
use Rattle.oz_semantics.specs.declared.value.Record.{Record}
use Rattle.oz_semantics.specs.declared.value.Value.{Value}
use Rattle.oz_semantics.specs.declared.value.Value.TheVariants as value
use Rattle.oz_semantics.specs.declared.value.Tell.{Tell}
use Rattle.oz_laws.proofs.SameLaws.{and-left, and-right}
use Rattle.oz_laws.proofs.AlikeLaws.{alike-sym, alike-trans, alike-integer, literal_eq-true, same_arity-true}
use Rattle.view_laws.specs.Readies.{Keeps}
use Rattle.view_laws.proofs.Members.{bool_eq}
use Rattle.view_laws.proofs.ViewLaws.{determined_same, none_is}
use Rattle.view_laws.proofs.MatchLaws.{AreSame, Found, value_later}

-- Values that are alike are alike to the same others
pub like_same : (a v w : Value) → is_like v w ≡ true → is_like a v ≡ is_like a w
like_same a v w e = bool_eq _ _ (λ k. alike-trans a v w k e) (λ k. alike-trans a w v k (alike-sym v w e))

-- and are pairs of equal variables, or neither is
abbrev pub PairSame : List Tell → Option (Ident × Ident) → Option (Ident × Ident) → Type 0
PairSame ts None None = Unit {0}
PairSame ts (Some p) (Some q) = Same ts p.0 q.0 × Same ts p.1 q.1
PairSame ts None (Some q) = ⊥
PairSame ts (Some p) None = ⊥

two_same : (ts : List Tell) (xs ys : List Ident) → AreSame ts xs ys → PairSame ts (two_of xs) (two_of ys)
two_same ts [] [] h = tt
two_same ts (x ∷ []) (y ∷ []) h = tt
two_same ts (x ∷ a ∷ []) (y ∷ b ∷ []) h = (h.0, h.1.0)
two_same ts (x ∷ a ∷ c ∷ zs) (y ∷ b ∷ d ∷ ws) h = tt
two_same ts [] (y ∷ ys) h = elim h [ ]
two_same ts (x ∷ xs) [] h = elim h [ ]
two_same ts (x ∷ []) (y ∷ b ∷ ys) h = elim h.1 [ ]
two_same ts (x ∷ a ∷ xs) (y ∷ []) h = elim h.1 [ ]
two_same ts (x ∷ a ∷ []) (y ∷ b ∷ d ∷ ys) h = elim h.1.1 [ ]
two_same ts (x ∷ a ∷ c ∷ xs) (y ∷ b ∷ []) h = elim h.1.1 [ ]

record_same : (ts : List Tell) (word : ℕ) (r s : Record) → is_like (value.Record r) (value.Record s) ≡ true → AreSame ts r.fields s.fields → PairSame ts (pair_of word r) (pair_of word s)
record_same ts word r s e h =
    let label : r.label ≡ s.label = literal_eq-true r.label s.label (and-left _ _ e) in
    let features : r.features ≡ s.features = same_arity-true r.features s.features (and-left _ _ (and-right (literal_eq r.label s.label) _ e)) in
    by _ _ (ap₂ (λ (l : Literal) (fs : List Constant). literal_eq l (Atom word) && same_arity fs (constant.Int (pos 1) ∷ constant.Int (pos 2) ∷ [])) label features)
  where
    by : (b c : Bool) → b ≡ c → PairSame ts (if b then two_of r.fields else None) (if c then two_of s.fields else None)
    by true true k = two_same ts r.fields s.fields h
    by false false k = tt
    by true false k = absurd (false≢true (sym k))
    by false true k = absurd (false≢true k)

found_pair : (ts : List Tell) (word : ℕ) (v w : Value) → is_like v w ≡ true → AreSame ts (fields_of v) (fields_of w) → PairSame ts (pair_in word v) (pair_in word w)
found_pair ts word (value.Record r) (value.Record s) e h = record_same ts word r s e h
found_pair ts word (value.Constant c) (value.Constant d) e h = tt
found_pair ts word (value.Procedure p) (value.Procedure q) e h = tt
found_pair ts word (value.Builtin b) (value.Builtin c) e h = tt
found_pair ts word (value.Name m) (value.Name n) e h = tt
found_pair ts word (value.Cell c) (value.Cell d) e h = tt
found_pair ts word (value.Port p) (value.Port q) e h = tt
found_pair ts word (value.Space s) (value.Space t) e h = tt
found_pair ts word v w e h = absurd (false≢true e)

pub pair_same : (ts : List Tell) (word : ℕ) (v w : Value) → Found ts v w → PairSame ts (pair_in word v) (pair_in word w)
pair_same ts word v w f = found_pair ts word v w f.like f.fields

abbrev pub Both : {A B : Type 0} → (A → A → Type 0) → (B → B → Type 0) → A × B → A × B → Type 0
Both R S p q = R p.0 q.0 × S p.1 q.1

abbrev pub Equals : {A : Type 0} → A → A → Type 0
Equals a b = a ≡ b

module _ (before after : List Tell) (keeps : Keeps before after) (sound : IsConsistent after) where
  -- what was known, waited for or refused stays so
  abbrev pub InputStays : {A : Type 0} → (A → A → Type 0) → Input A → Input A → Type 0
  InputStays R (Known a) i = (b : _) × (i ≡ Known b) × R a b
  InputStays R (Unknown x) i = is_determined after x ≡ false → (y : Ident) × (i ≡ Unknown y) × Same after x y
  InputStays R OtherKind i = i ≡ OtherKind

  pub read_stays : {A : Type 0} (R : A → A → Type 0) (reading more : Value → Input A) (x y : Ident) → Same after x y → ((v w : Value) → Found after v w → InputStays R (reading v) (more w))
      → InputStays R (read reading x (value_of before x)) (read more y (value_of after y))
  read_stays {A} R reading more x y s h = by (value_of before x) refl
    where
      by : (o : Option Value) → value_of before x ≡ o → InputStays R (read reading x o) (read more y (value_of after y))
      by None e = λ free. (y, ap (read more y) (none_is (value_of after y) (sym (determined_same after x y s) ∙ free)), s)
      by (Some v) e =
          let w = value_later before after keeps sound x y v e s in
          subst (λ o. InputStays R (reading v) (read more y o)) (sym w.1) (h v w.0 w.2)

  pub further_stays : {A B : Type 0} (R : A → A → Type 0) (S : B → B → Type 0) (ask more : A → Input B) (i j : Input A) → ((a b : A) → R a b → InputStays S (ask a) (more b)) → InputStays R i j
      → InputStays S (and_further ask i) (and_further more j)
  further_stays R S ask more (Known a) j h k = subst (λ z. InputStays S (ask a) (and_further more z)) (sym k.1) (h a k.0 k.2)
  further_stays R S ask more (Unknown x) j h k = λ free. let r = k free in (r.0, ap (and_further more) r.1, r.2)
  further_stays R S ask more OtherKind j h k = ap (and_further more) k

  pub both_stay : {A B : Type 0} (R : A → A → Type 0) (S : B → B → Type 0) (i j : Input A) (k l : Input B) → InputStays R i j → InputStays S k l → InputStays (Both R S) (both i k) (both j l)
  both_stay R S (Known a) j (Known b) l h g = ((h.0, g.0), ap₂ (λ p q. both p q) h.1 g.1, (h.2, g.2))
  both_stay R S (Known a) j (Unknown y) l h g = λ free. let r = g free in (r.0, ap₂ (λ p q. both p q) h.1 r.1, r.2)
  both_stay R S (Known a) j OtherKind l h g = ap₂ (λ p q. both p q) h.1 g
  both_stay R S (Unknown x) j k l h g = λ free. let r = h free in (r.0, ap (λ p. both p l) r.1, r.2)
  both_stay R S OtherKind j (Known b) l h g = ap₂ (λ p q. both p q) h g.1
  both_stay R S OtherKind j (Unknown y) l h g = λ free. let r = g free in (r.0, ap₂ (λ p q. both p q) h r.1, r.2)
  both_stay R S OtherKind j OtherKind l h g = ap₂ (λ p q. both p q) h g

  pub option_stays : {A : Type 0} (o p : Option A) → o ≡ p → InputStays Equals (known_if o) (known_if p)
  option_stays None p e = ap known_if (sym e)
  option_stays (Some a) p e = (a, ap known_if (sym e), refl)

  pub integer_stays : (x y : Ident) → Same after x y → InputStays Equals (integer_input before x) (integer_input after y)
  integer_stays x y s = read_stays Equals (λ v. known_if (integer_in v)) (λ v. known_if (integer_in v)) x y s (λ v w f. option_stays (integer_in v) (integer_in w) (alike-integer v w f.like))

  -- Bounds of a domain

  two_stay : (p q : Ident × Ident) → Same after p.0 q.0 → Same after p.1 q.1
      → InputStays (Both Equals Equals) (both (integer_input before p.0) (integer_input before p.1)) (both (integer_input after q.0) (integer_input after q.1))
  two_stay p q s t =
      both_stay Equals Equals (integer_input before p.0) (integer_input after q.0) (integer_input before p.1) (integer_input after q.1) (integer_stays p.0 q.0 s) (integer_stays p.1 q.1 t)

  bounds_by_stay : (o u : Option ℤ) (c d : Option (Ident × Ident)) → o ≡ u → PairSame after c d → InputStays (Both Equals Equals) (bounds_by before o c) (bounds_by after u d)
  bounds_by_stay (Some i) u c d e h = ((i, i), ap (λ z. bounds_by after z d) (sym e), (refl, refl))
  bounds_by_stay None u (Some p) (Some q) e h = subst (λ z. InputStays (Both Equals Equals) (bounds_by before None (Some p)) (bounds_by after z (Some q))) e (two_stay p q h.0 h.1)
  bounds_by_stay None u None None e h = ap (λ z. bounds_by after z None) (sym e)
  bounds_by_stay None u None (Some q) e h = elim h [ ]
  bounds_by_stay None u (Some p) None e h = elim h [ ]

  pub bounds_stay : (x y : Ident) → Same after x y → InputStays (Both Equals Equals) (bounds before x) (bounds after y)
  bounds_stay x y s =
      read_stays (Both Equals Equals) (λ v. bounds_by before (integer_in v) (pair_in hash_word v)) (λ v. bounds_by after (integer_in v) (pair_in hash_word v)) x y s
      (λ v w f. bounds_by_stay (integer_in v) (integer_in w) (pair_in hash_word v) (pair_in hash_word w) (alike-integer v w f.like) (pair_same after hash_word v w f))

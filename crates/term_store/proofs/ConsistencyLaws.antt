-- A closing that came to its end is consistent; and what makes tells inconsistent.
use Rattle.std.proofs.Common.{ℕ, ℤ, ◌≡◌, ◌∙◌, Bool, true, false, List, [], ◌∷◌, ◌++◌, length, Option, Some, None, refl, sym, ap, subst, arith}
use Rattle.std.specs.Prelude.{Contains}
use Rattle.std.specs.FinSet as set
use Rattle.std.proofs.lemmas.Bool.{false≢true}
use Rattle.std.proofs.lemmas.List.Elements.{Contains-push}
use Rattle.oz_base.specs.IdentLaws.{ident_eq-itself}
use Rattle.oz_base.specs.Lists.{holds_of}
use Rattle.oz_base.specs.Names.{ident_eq}
use Rattle.oz_base.specs.declared.interval.Interval.{Interval}
use Rattle.oz_base.specs.declared.names.Ident.{Ident}
use Rattle.oz_domains.specs.Domains.{IntSet, Has, among, least}
use Rattle.fd_domain.proofs.SetLaws.{has-empty}
use Rattle.oz_laws.proofs.AlikeLaws.{alike-integer}
use Rattle.oz_laws.proofs.StoreLaws.{tests_consistent}
use Rattle.oz_semantics.specs.Store.{Same, itself, reversed, joined, is_consistent}
use Rattle.oz_semantics.specs.Values.{integer_in}
use Rattle.oz_semantics.specs.declared.value.Value.{Value}
use Rattle.oz_semantics.specs.declared.value.Tell.{Tell}
use Rattle.oz_semantics.specs.declared.value.Tell.TheVariants.{Is, Within}
use Rattle.term_store.specs.Bounds.{left_by, has_value, Bounded}
use Rattle.term_store.specs.Closing.{Closing}
use Rattle.term_store.proofs.BoundLaws.{told_left, left_among, among_left, some_left}
use Rattle.term_store.proofs.ClosingLaws.{whole, agreeing, at_place}

not_consistent : (ts : List Tell) → (is_consistent ts ≡ true → ⊥) → is_consistent ts ≡ false
not_consistent ts h = by (is_consistent ts) refl
  where
    by : (b : Bool) → is_consistent ts ≡ b → b ≡ false
    by true e = absurd (h e)
    by false e = refl

value_integer : (s : IntSet) (v : Value) → has_value s v ≡ true → (n : ℤ) × (integer_in v ≡ Some n) × Has s n
value_integer s v e = by (integer_in v) refl e
  where
    by : (o : Option ℤ) → integer_in v ≡ o → holds_of (set.contains s) o ≡ true → (n : ℤ) × (integer_in v ≡ Some n) × Has s n
    by None k q = absurd (false≢true q)
    by (Some n) k q = (n, k, q)

-- The end of a closing

module _ (ts : List Tell) (g : Ident → Ident) (f : Ident → Option ℕ) (d : Ident → Option IntSet) (c : Closing ts g f []) (b : Bounded ts g f d) where
  -- what is left to the class of x, if it was told a domain
  pub record Domained (x : Ident) : Type 0 where
    pub integers : IntSet
    pub left : left_by (λ y. ident_eq (g y) (g x)) ts ≡ Some integers
    pub kept : d (g x) ≡ Some integers

  same_test : (x y : Ident) → Same ts x y → ident_eq (g y) (g x) ≡ true
  same_test x y s = ap (λ z. ident_eq z (g x)) (sym (whole ts g f c s)) ∙ ident_eq-itself (g x)

  domained : (x y : Ident) (is : List Interval) → Same ts x y → Contains ts (Within y is) → Domained x
  domained x y is s h =
      let l = told_left (λ z. ident_eq (g z) (g x)) ts y is h (same_test x y s) in
      record { integers = l.0; left = l.1; kept = b.left (g x) (c.idem x) ∙ l.1 }

  inhabited : (x : Ident) (is : List Interval) → Contains ts (Within x is) → (n : ℤ) × ((y : Ident) (js : List Interval) → Same ts x y → Contains ts (Within y js) → among js n ≡ true)
  inhabited x is h =
      let k = domained x x is itself h in
      let domain = b.domains (g x) (c.idem x) k.integers k.kept in
      (least k.integers, λ y js s e. left_among (λ z. ident_eq (g z) (g x)) ts y js k.integers (least k.integers) k.left e (same_test x y s) domain.some)

  inside : (x y : Ident) (v : Value) (is : List Interval) → Same ts x y → Contains ts (Is x v) → Contains ts (Within y is) → (n : ℤ) × (integer_in v ≡ Some n) × (among is n ≡ true)
  inside x y v is s e h =
      let k = domained x y is s h in
      let first = at_place ts g f c x v e in
      let i = value_integer k.integers first.value (b.suits (g x) (c.idem x) first.place first.value k.integers first.found first.told k.kept) in
      (i.0, sym (alike-integer first.value v first.like) ∙ i.1, left_among (λ z. ident_eq (g z) (g x)) ts y is k.integers i.0 k.left h (same_test x y s) i.2)

  pub consistent : is_consistent ts ≡ true
  consistent = (tests_consistent ts).1 (record { agree = agreeing ts g f c; inhabited = inhabited; inside = inside })

-- What is inconsistent

module _ (ts : List Tell) (test : Ident → Bool) (x : Ident) (class : (y : Ident) → test y ≡ true → Same ts y x) where
  -- no integer is left to a class
  pub clash_empty : left_by test ts ≡ Some set.empty → is_consistent ts ≡ false
  clash_empty e = not_consistent ts (λ k.
      let c = (tests_consistent ts).0 k in
      let t = (some_left test ts set.empty e).1 in
      let n = c.inhabited t.variable t.intervals t.told in
      has-empty n.0 (among_left test ts set.empty n.0 e (λ y js h p. n.1 y js (joined (class t.variable t.passes) (reversed (class y p))) h)))

  -- a value is no integer that is left to its class
  pub clash_value : (z : Ident) (v : Value) (s : IntSet) → left_by test ts ≡ Some s → Contains ts (Is z v) → Same ts z x → has_value s v ≡ false → is_consistent ts ≡ false
  clash_value z v s e told same_x missing = not_consistent ts (λ k.
      let c = (tests_consistent ts).0 k in
      let t = (some_left test ts s e).1 in
      let at = λ (y : Ident) (p : test y ≡ true). joined same_x (reversed (class y p)) in
      let n = c.inside z t.variable v t.intervals (at t.variable t.passes) told t.told in
      let has : Has s n.0 = among_left test ts s n.0 e (λ y js h p. let m = c.inside z y v js (at y p) told h in subst (λ i. among js i ≡ true) (one_integer m.0 n.0 (sym m.1 ∙ n.1)) m.2) in
      false≢true (sym missing ∙ ap (holds_of (set.contains s)) n.1 ∙ has))
    where
      one_integer : (m n : ℤ) → Some m ≡ Some n → m ≡ n
      one_integer m n q = cc

-- a variable is told that it is no integer
no_interval : (ts : List Tell) (x : Ident) → is_consistent (ts ++ Within x [] ∷ []) ≡ false
no_interval ts x = not_consistent (ts ++ Within x [] ∷ []) (λ k.
    let c = (tests_consistent (ts ++ Within x [] ∷ [])).0 k in
    let here = Contains-push ts (Within x []) in
    let n = c.inhabited x [] here in
    false≢true (n.1 x [] itself here))

pub clash_nothing : (ts : List Tell) (x : Ident) (is : List Interval) → length is ≡ 0 → is_consistent (ts ++ Within x is ∷ []) ≡ false
clash_nothing ts x [] e = no_interval ts x
clash_nothing ts x (i ∷ is) e = absurd (omega (arith, e))

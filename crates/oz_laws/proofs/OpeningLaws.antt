-- Variables of different classes that have values: there are no more of them than tells.
use Rattle.std.proofs.Common.{◌≡◌, ◌∙◌, inl, inr, ℕ, suc, ◌+◌, ◌<◌, ◌≤◌, Bool, true, false, not, ◌||◌, cond, if◌then◌else◌, List, [], ◌∷◌, length, Option, Some, None, refl, sym, ap, arith}
use Rattle.std.specs.List.{list_any}
use Rattle.oz_base.specs.Lists.{given_or, first_given}
use Rattle.oz_base.specs.declared.names.Ident.{Ident}
use Rattle.oz_semantics.specs.Store.{Same, reversed, joined, same, value_given, told_value}
use Rattle.oz_semantics.specs.declared.value.Value.{Value}
use Rattle.oz_semantics.specs.declared.value.Tell.{Tell}
use Rattle.oz_semantics.specs.declared.value.Tell.TheVariants.{Equal, Is, Within}
use Rattle.oz_laws.proofs.SameLaws.{tests_same, In}

-- two tests that follow from each other
same_test : (a b : Bool) → (a ≡ true → b ≡ true) → (b ≡ true → a ≡ true) → a ≡ b
same_test true b h k = sym (h refl)
same_test false true h k = k refl
same_test false false h k = refl

pub same_left : (view : List Tell) (x y z : Ident) → Same view x y → same view x z ≡ same view y z
same_left view x y z s =
    same_test (same view x z) (same view y z) (λ e. (tests_same view y z).1 (joined (reversed s) ((tests_same view x z).0 e)))
    (λ e. (tests_same view x z).1 (joined s ((tests_same view y z).0 e)))

-- how many pass the test
abbrev count : (Tell → Bool) → List Tell → ℕ
count p [] = 0
count p (t ∷ ts) = cond (p t) 1 0 + count p ts

one_less : (p q : Bool) → (q ≡ true → p ≡ true) → cond q 1 0 ≤ cond p 1 0
one_less true true h = omega arith
one_less true false h = omega arith
one_less false true h = absurd (let e = h refl in cc)
one_less false false h = omega arith

one_fewer : (p q : Bool) → p ≡ true → q ≡ false → cond q 1 0 < cond p 1 0
one_fewer true false e f = omega arith
one_fewer true true e f = absurd (cc)
one_fewer false q e f = absurd (cc)

one_at_most : (p : Bool) → cond p 1 0 ≤ 1
one_at_most true = omega arith
one_at_most false = omega arith

count_cons : (p : Tell → Bool) (t : Tell) (ts : List Tell) → count p (t ∷ ts) ≡ cond (p t) 1 0 + count p ts
count_cons p t ts = refl

count_less : (p q : Tell → Bool) → ((t : Tell) → q t ≡ true → p t ≡ true) → (ts : List Tell) → count q ts ≤ count p ts
count_less p q h [] = omega arith
count_less p q h (t ∷ ts) = omega (arith, count_cons p t ts, count_cons q t ts, one_less (p t) (q t) (h t), count_less p q h ts)

count_fewer : (p q : Tell → Bool) → ((t : Tell) → q t ≡ true → p t ≡ true) → (s : Tell) → p s ≡ true → q s ≡ false → (ts : List Tell) → In s ts → count q ts < count p ts
count_fewer p q h s e f [] k = elim k [ ]
count_fewer p q h s e f (t ∷ ts) (inl k) =
    omega (arith, count_cons p t ts, count_cons q t ts, one_fewer (p t) (q t) (ap p k ∙ e) (ap q k ∙ f), count_less p q h ts)
count_fewer p q h s e f (t ∷ ts) (inr k) = omega (arith, count_cons p t ts, count_cons q t ts, one_less (p t) (q t) (h t), count_fewer p q h s e f ts k)

count_most : (p : Tell → Bool) (ts : List Tell) → count p ts ≤ length ts
count_most p [] = omega arith
count_most p (t ∷ ts) = omega (arith, count_cons p t ts, one_at_most (p t), count_most p ts)

-- a tell of a value for a class that is not open
abbrev is_free : List Tell → List Ident → Tell → Bool
is_free view up (Is y v) = not (list_any (same view y) up)
is_free view up (Equal x y) = false
is_free view up (Within y is) = false

-- how many classes could still be opened
abbrev pub left_of : List Tell → List Ident → ℕ
left_of view up = count (is_free view up) view

pub left_at_first : (view : List Tell) → left_of view [] < suc (length view)
left_at_first view = omega (arith, count_most (is_free view []) view)

any_left : (view : List Tell) (x y : Ident) → Same view x y → (up : List Ident) → list_any (same view x) up ≡ list_any (same view y) up
any_left view x y s [] = refl
any_left view x y s (z ∷ up) = ap (λ b. b || list_any (same view x) up) (same_left view x y z s) ∙ ap (λ b. same view y z || b) (any_left view x y s up)

-- who gave a value
given_by : (f : Tell → Option Value) (ts : List Tell) (v : Value) → first_given f ts ≡ Some v → (t : Tell) × In t ts × (f t ≡ Some v)
given_by f [] v e = absurd (cc)
given_by f (s ∷ ts) v e = by (f s) refl e (given_by f ts v)
  where
    by : (o : Option Value) → f s ≡ o → given_or o (first_given f ts) ≡ Some v → (first_given f ts ≡ Some v → (t : Tell) × In t ts × (f t ≡ Some v)) → (t : Tell) × In t (s ∷ ts) × (f t ≡ Some v)
    by None q e rest = let h = rest e in (h.0, inr h.1, h.2)
    by (Some w) q e rest = (s, inl refl, q ∙ e)

still_free : (view : List Tell) (x : Ident) (up : List Ident) (t : Tell) → is_free view (x ∷ up) t ≡ true → is_free view up t ≡ true
still_free view x up (Equal y z) e = e
still_free view x up (Within y is) e = e
still_free view x up (Is y v) e = by (same view y x) (list_any (same view y) up) e
  where
    by : (a b : Bool) → not (a || b) ≡ true → not b ≡ true
    by true b f = absurd (cc)
    by false b f = f

-- a tell of the class of x
record Opens (view : List Tell) (x : Ident) (up : List Ident) (t : Tell) : Type 0 where
  before : is_free view up t ≡ true
  after : is_free view (x ∷ up) t ≡ false

opened_by : (view : List Tell) (x : Ident) (up : List Ident) (v : Value) → list_any (same view x) up ≡ false → (t : Tell) → value_given (λ y. same view y x) t ≡ Some v → Opens view x up t
opened_by view x up v a (Equal y z) e = absurd (cc)
opened_by view x up v a (Within y is) e = absurd (cc)
opened_by view x up v a (Is y w) e = by (same view y x) refl e
  where
    by : (b : Bool) → same view y x ≡ b → (if b then Some w else None) ≡ Some v → Opens view x up (Is y w)
    by true q f =
        record {
          before = ap (λ c. not c) (any_left view y x ((tests_same view y x).0 q) up ∙ a);
          after = ap (λ c. not (c || list_any (same view y) up)) q;
        }
    by false q f = absurd (cc)

-- one that is opened is one less
pub one_opened : (view : List Tell) (x : Ident) (up : List Ident) (v : Value) → told_value view x ≡ Some v → list_any (same view x) up ≡ false → left_of view (x ∷ up) < left_of view up
one_opened view x up v e a =
    let g = given_by (value_given (λ y. same view y x)) view v e in
    let o = opened_by view x up v a g.0 g.2 in
    count_fewer (is_free view up) (is_free view (x ∷ up)) (still_free view x up) g.0 o.before o.after view g.1

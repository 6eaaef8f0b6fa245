-- Sides of relations: each of their identifiers is a variable in scope, or one of those that are bound round the relation.
use Rattle.std.proofs.Common.{◌≡◌, ◌⊎◌, inl, inr, ℕ, ℤ, zero, suc, ◌+◌, ◌-◌, ◌<◌, ◌≤◌, List, ◌++◌, true, ◌&&◌, ◌||◌, refl, subst, arith}
use Rattle.std.specs.List.{Contains}
use Rattle.std.proofs.lemmas.Bool.Decides.{eqb_tells}
use Rattle.std.proofs.lemmas.List.Elements.{Contains-append_left}
use Rattle.oz_language.specs.declared.kernel.Identifier.{Identifier}
use Rattle.oz_language.specs.declared.kernel.Identifier.TheVariants.{Fresh}
use Rattle.oz_language.specs.declared.token.Operator.TheVariants.{Plus, Minus, Times}
use Rattle.oz_language.specs.Grammar.{Phrase, var, int, select, binary, is_small_int, is_reference, is_product, is_side_term, is_side}
use Rattle.oz_language.specs.Translation.{fresh_among, behind_factor, behind_side, fresh_names, between}
use Rattle.scope_law.proofs.Basics.{both, either, here, there}
use Rattle.scope_law.proofs.Scopes.{fresh_in}

-- ---- what a side is made of

abbrev pub IsReference : Phrase → Type 0
IsReference (var name at) = Unit {0}
IsReference (select e f) = Unit {0}
IsReference p = ⊥

abbrev pub IsInt : Phrase → Type 0
IsInt (int i at) = Unit {0}
IsInt p = ⊥

-- an integer or a reference
abbrev pub IsFactor : Phrase → Type 0
IsFactor p = IsInt p ⊎ IsReference p

abbrev pub IsProduct : Phrase → Phrase → Type 0
IsProduct a b = (IsInt a × IsReference b) ⊎ (IsReference a × IsFactor b)

abbrev pub IsSide : Phrase → Type 0
IsSide (binary Plus a b) = IsSide a × IsSide b
IsSide (binary Minus a b) = IsSide a × IsSide b
IsSide (binary Times a b) = IsProduct a b
IsSide p = IsFactor p

reference : (p : Phrase) → is_reference p ≡ true → IsReference p
reference (var name at) h = tt
reference (select e f) h = tt
reference p h = absurd (cc)

integer : (p : Phrase) → is_small_int p ≡ true → IsInt p
integer (int i at) h = tt
integer p h = absurd (cc)

factor : (p : Phrase) → (is_small_int p || is_reference p) ≡ true → IsFactor p
factor p h = elim (either (is_small_int p) _ h) [ inl k ↦ inl (integer p k) | inr k ↦ inr (reference p k) ]

product : (a b : Phrase) → is_product a b ≡ true → IsProduct a b
product a b h = elim (either (is_small_int a && is_reference b) _ h) [
  | inl k ↦ (let s = both (is_small_int a) _ k in inl (integer a s.0, reference b s.1))
  | inr k ↦ (let s = both (is_reference a) _ k in inr (reference a s.0, factor b s.1))
]

side_term : (p : Phrase) → is_side_term p ≡ true → IsSide p
side_term (binary Times a b) h = product a b h
side_term (binary op a b) h = absurd (cc)
side_term p h = factor p h

pub side : (p : Phrase) → is_side p ≡ true → IsSide p
side (binary Plus a b) h = let s = both (is_side a) _ h in (side a s.0, side_term b s.1)
side (binary Minus a b) h = let s = both (is_side a) _ h in (side a s.0, side_term b s.1)
side (binary Times a b) h = product a b h
side (binary op a b) h = absurd (cc)
side p h = factor p h

-- what holds of variables and selections holds of references
pub by_reference : (P : Phrase → Type 0) → ((name at : ℕ) → P (var name at)) → ((e f : Phrase) → P (select e f)) → (p : Phrase) → IsReference p → P p
by_reference P f g (var name at) h = f name at
by_reference P f g (select e k) h = g e k
by_reference P f g p h = elim h [ ]

by_int : (P : Phrase → Type 0) → ((i : ℤ) (at : ℕ) → P (int i at)) → (p : Phrase) → IsInt p → P p
by_int P f (int i at) h = f i at
by_int P f p h = elim h [ ]

pub by_product : (P : Phrase → Phrase → Type 0) → ((i : ℤ) (at : ℕ) (b : Phrase) → IsReference b → P (int i at) b) → ((a : Phrase) (i : ℤ) (at : ℕ) → IsReference a → P a (int i at)) → ((a b : Phrase) → IsReference a → IsReference b → P a b)
    → (a b : Phrase) → IsProduct a b → P a b
by_product P f g h a b (inl k) = by_int (λ p. P p b) (λ i at. f i at b k.1) a k.0
by_product P f g h a b (inr (r, inl k)) = by_int (λ p. P a p) (λ i at. g a i at r) b k
by_product P f g h a b (inr (r, inr k)) = h a b r k

pub by_references : (P : Phrase → Phrase → Type 0) → ((x at y place : ℕ) → P (var x at) (var y place)) → ((x at : ℕ) (e f : Phrase) → P (var x at) (select e f)) → ((e f : Phrase) (x at : ℕ) → P (select e f) (var x at)) → ((e f c d : Phrase) → P (select e f) (select c d))
    → (a b : Phrase) → IsReference a → IsReference b → P a b
by_references P f g h i a b r s =
    by_reference (λ a. P a b) (λ x at. by_reference (P (var x at)) (f x at) (g x at) b s) (λ e k. by_reference (P (select e k)) (h e k) (i e k) b s) a r

-- ---- the numbers of identifiers

-- the fresh identifiers from n on, up to m
pub record Spans (S : List Identifier) (n m : ℕ) : Type 0 where
  pub bound : (i : ℕ) → n ≤ i → i < m → Contains S (Fresh i)

pub spans_part : (S : List Identifier) (n m k l : ℕ) → n ≤ k → l ≤ m → Spans S n m → Spans S k l
spans_part S n m k l h i s = record { bound = λ j f g. s.bound j (omega arith) (omega arith) }

spans_fresh : (n k i : ℕ) → n ≤ i → i < n + k → Contains (fresh_names n k) (Fresh i)
spans_fresh n zero i h l = absurd (omega arith)
spans_fresh n (suc k) i h l = elim (eqb_tells n i) [
  | inl e ↦ subst (λ j. Contains (fresh_names n (suc k)) (Fresh j)) e.1 (here (Fresh n) (fresh_names (suc n) k))
  | inr d ↦ there (Fresh n) (Fresh i) (fresh_names (suc n) k) (spans_fresh (suc n) k i (omega (arith, d.1)) (omega arith))
]

-- those between two numbers are bound where they are made
pub spans_between : (S : List Identifier) (n m : ℕ) → Spans (fresh_among (between n m) ++ S) n m
spans_between S n m = record { bound = λ i h l. Contains-append_left (fresh_among (between n m)) S (Fresh i) (fresh_in (between n m) i (spans_fresh n (m - n) i h (omega arith))) }

pub factor_more : (n : ℕ) (p : Phrase) → n ≤ behind_factor n p
factor_more n (select e f) = omega arith
factor_more n p = omega arith

pub behind_int : (n : ℕ) (a : Phrase) (i : ℤ) (at : ℕ) → IsReference a → behind_side n (binary Times a (int i at)) ≡ behind_factor n a
behind_int n a i at r = by_reference (λ a. behind_side n (binary Times a (int i at)) ≡ behind_factor n a) (λ name place. refl) (λ e f. refl) a r

pub behind_product : (n : ℕ) (a b : Phrase) → IsReference a → IsReference b → behind_side n (binary Times a b) ≡ suc (behind_factor (behind_factor n a) b)
behind_product n a b r s =
    by_references (λ a b. behind_side n (binary Times a b) ≡ suc (behind_factor (behind_factor n a) b)) (λ x at y place. refl) (λ x at e f. refl) (λ e f x at. refl) (λ e f c d. refl) a b r s

-- the numbers of both factors come before what stands behind a product
pub product_more : (n : ℕ) (a b : Phrase) → IsProduct a b → behind_factor (behind_factor n a) b ≤ behind_side n (binary Times a b)
product_more n a b h = by_product (λ a b. behind_factor (behind_factor n a) b ≤ behind_side n (binary Times a b))
    (λ i at b r. omega arith)
    (λ a i at r. rw (behind_int n a i at r) (omega arith))
    (λ a b r s. rw (behind_product n a b r s) (omega arith))
    a b h

pub side_more : (n : ℕ) (p : Phrase) → IsSide p → n ≤ behind_side n p
side_more n (binary Plus a b) h = let i = side_more n a h.0 in let j = side_more (behind_side n a) b h.1 in omega arith
side_more n (binary Minus a b) h = let i = side_more n a h.0 in let j = side_more (behind_side n a) b h.1 in omega arith
side_more n (binary Times a b) h = let i = factor_more n a in let j = factor_more (behind_factor n a) b in let l = product_more n a b h in omega arith
side_more n p h = factor_more n p

-- the identifiers of two sides one behind the other
pub spans_first : (S : List Identifier) (n : ℕ) (a b : Phrase) → IsSide b → Spans S n (behind_side (behind_side n a) b) → Spans S n (behind_side n a)
spans_first S n a b h s = let f = side_more (behind_side n a) b h in record { bound = λ i j l. s.bound i j (omega arith) }

pub spans_second : (S : List Identifier) (n : ℕ) (a b : Phrase) → IsSide a → Spans S n (behind_side (behind_side n a) b) → Spans S (behind_side n a) (behind_side (behind_side n a) b)
spans_second S n a b h s = let f = side_more n a h in record { bound = λ i j l. s.bound i (omega arith) l }

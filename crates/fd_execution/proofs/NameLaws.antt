-- The names that a script declares, as variables of its space.
use Rattle.std.proofs.Common.{◌≡◌, ◌≢◌, inl, inr, ℕ, zero, suc, ◌+◌, ◌<◌, ◌≤◌, nat_eq, Bool, true, false, if◌then◌else◌, List, [], ◌∷◌, length, map, Contains, AllPairs, slice_index_or, get_or, refl, sym, ◌∙◌, ap, subst, arith}
use Rattle.std.proofs.lemmas.List.{length-map, get_or-map}
use Rattle.std.specs.List.{range_with_len}
use Rattle.environments.specs.Environments.{Environment, bound, binding_all, nowhere}
use Rattle.oz_language.specs.declared.kernel.Identifier.TheVariants.{Word}
use Rattle.oz_laws.proofs.SameLaws.{eq-refl, eq-true}
use Rattle.fd_stores.proofs.Lists.{contains_none, contains_cases, contains_head, contains_tail, contains_mapped}
use Rattle.fd_views.specs.Views.{variable_at}
use Rattle.fd_form_law.specs.Shapes.{Differ}
use Rattle.fd_turns.specs.Nodes.{own}
use Rattle.fd_execution.proofs.ScopeLaws.{bound_here, bound_other}
use Rattle.fd_execution.proofs.IndexLaws.{place_in}

-- these names stand for the variables from number a on
abbrev pub named_scope : List ℕ → ℕ → Environment → Environment
named_scope names a e = binding_all (map Word names) (map own (range_with_len a (length names))) e

-- ---- the place of a name

pub place_found : (names : List ℕ) (w : ℕ) → Contains names w → (place_in names w < length names) × (slice_index_or names (place_in names w) 0 ≡ w)
place_found [] w c = absurd (contains_none w c)
place_found (v ∷ names) w c = by (place_found names w) (nat_eq v w) refl where
  by : (Contains names w → (place_in names w < length names) × (slice_index_or names (place_in names w) 0 ≡ w)) → (b : Bool) → nat_eq v w ≡ b → ((if b then 0 else suc (place_in names w)) < length (v ∷ names)) × (slice_index_or (v ∷ names) (if b then 0 else suc (place_in names w)) 0 ≡ w)
  by again true e = (omega arith, eq-true v w e)
  by again false e = elim (contains_cases v w names c) [
    | inl f ↦ absurd (differ (nat_eq v w) (ap (nat_eq v) (sym f) ∙ eq-refl v) e)
    | inr k ↦ (let r = again k in let l = r.0 in (omega (arith, l), r.1))
  ] where
    differ : (b : Bool) → b ≡ true → b ≡ false → ⊥
    differ b f g = cc

other_word : (v w : ℕ) → nat_eq v w ≡ false → Word w ≢ Word v
other_word v w e f = differ (nat_eq v w) (ap (nat_eq v) (same w v f) ∙ eq-refl v) e where
  same : (a b : ℕ) → Word a ≡ Word b → a ≡ b
  same a b g = cc

  differ : (b : Bool) → b ≡ true → b ≡ false → ⊥
  differ b g h = cc

-- ---- what a name stands for

pub name_bound : (names : List ℕ) (a w : ℕ) (e : Environment) → Contains names w → bound (named_scope names a e) (Word w) ≡ own (a + place_in names w)
name_bound [] a w e c = absurd (contains_none w c)
name_bound (v ∷ names) a w e c = by (name_bound names (a + 1) w e) (nat_eq v w) refl where
  by : (Contains names w → bound (named_scope names (a + 1) e) (Word w) ≡ own (a + 1 + place_in names w)) → (b : Bool) → nat_eq v w ≡ b → bound (named_scope (v ∷ names) a e) (Word w) ≡ own (a + (if b then 0 else suc (place_in names w)))
  by again true f = (let same = eq-true v w f in let zero_more : a ≡ a + 0 = omega arith in ap (λ z. bound (named_scope (v ∷ names) a e) (Word z)) (sym same) ∙ bound_here (Word v) (own a) (named_scope names (a + 1) e) ∙ ap own zero_more)
  by again false f = elim (contains_cases v w names c) [
    | inl g ↦ absurd (differ (nat_eq v w) (ap (nat_eq v) (sym g) ∙ eq-refl v) f)
    | inr k ↦ (let more : a + 1 + place_in names w ≡ a + suc (place_in names w) = omega arith in bound_other (Word v) (Word w) (own a) (named_scope names (a + 1) e) (other_word v w f) ∙ again k ∙ ap own more)
  ] where
    differ : (b : Bool) → b ≡ true → b ≡ false → ⊥
    differ b g h = cc

pub name_other : (names : List ℕ) (a w : ℕ) (e : Environment) → (Contains names w → ⊥) → bound (named_scope names a e) (Word w) ≡ bound e (Word w)
name_other [] a w e n = refl
name_other (v ∷ names) a w e n =
    bound_other (Word v) (Word w) (own a) (named_scope names (a + 1) e) (λ f. n (subst (Contains (v ∷ names)) (same v w (sym f)) (contains_head v names)))
    ∙ name_other names (a + 1) w e (λ c. n (contains_tail v w names c)) where
      same : (x y : ℕ) → Word x ≡ Word y → x ≡ y
      same x y g = cc

-- ---- the variables of a script, in the order of its record

-- their numbers
abbrev pub numbers_of : List ℕ → ℕ → List ℕ → List ℕ
numbers_of names a vs = map (λ v. a + place_in names v) vs

module _ (names : List ℕ) (a : ℕ) (vs : List ℕ) (all : (x : ℕ) → x < length vs → Contains names (slice_index_or vs x 0)) where
  pub number_at : (x d : ℕ) → x < length vs → get_or (numbers_of names a vs) x d ≡ a + place_in names (slice_index_or vs x 0)
  number_at x d l = get_or-map (λ v. a + place_in names v) vs x 0 d l

  pub numbers_long : length (numbers_of names a vs) ≡ length vs
  numbers_long = length-map vs (λ v. a + place_in names v)

  pub numbers_ranged : (j : ℕ) → Contains (numbers_of names a vs) j → (a ≤ j) × (j < a + length names)
  numbers_ranged j c =
      let r = contains_mapped (λ v. a + place_in names v) vs j c in
      let there = all r.1.0 r.1.1 in
      let same : slice_index_or vs r.1.0 0 ≡ r.0 = any_default vs r.1.0 0 r.0 r.1.1 ∙ r.1.2 in
      let inside = (place_found names r.0 (subst (Contains names) same there)).0 in
      (let e = r.2 in (omega (arith, e), omega (arith, e, inside))) where
        any_default : (xs : List ℕ) (i d e : ℕ) → i < length xs → slice_index_or xs i d ≡ slice_index_or xs i e
        any_default [] i d e l = absurd (omega (arith, l))
        any_default (x ∷ xs) zero d e l = refl
        any_default (x ∷ xs) (suc i) d e l = any_default xs i d e (omega (arith, l))

  pub numbers_once : Differ vs → AllPairs (λ x y. x ≢ y) (numbers_of names a vs)
  numbers_once differ i j d l m e =
      let long = numbers_long in
      let li : i < length vs = omega (arith, long, l, m) in
      let lj : j < length vs = omega (arith, long, m) in
      let p = number_at i d li in
      let q = number_at j d lj in
      let places : place_in names (slice_index_or vs i 0) ≡ place_in names (slice_index_or vs j 0) = omega (arith, p, q, e) in
      let words = sym (place_found names (slice_index_or vs i 0) (all i li)).1 ∙ ap (λ k. slice_index_or names k 0) places ∙ (place_found names (slice_index_or vs j 0) (all j lj)).1 in
      let same = differ i j li lj words in
      omega (arith, l, same)

  -- each stands for its variable
  pub variables_bound : (e : Environment) (y : ℕ) → y < length vs → bound (named_scope names a e) (Word (slice_index_or vs y 0)) ≡ variable_at (map own (numbers_of names a vs)) y
  variables_bound e y l =
      let long = numbers_long in
      name_bound names a (slice_index_or vs y 0) e (all y l)
      ∙ ap own (sym (number_at y 0 l)) ∙ sym (get_or-map own (numbers_of names a vs) y 0 nowhere (omega (arith, long, l)))

-- all of a list of words
pub words_bound : (names : List ℕ) (a : ℕ) (e : Environment) (us : List ℕ) → ((w : ℕ) → Contains us w → Contains names w) → map (λ w. bound (named_scope names a e) (Word w)) us ≡ map own (numbers_of names a us)
words_bound names a e [] h = refl
words_bound names a e (u ∷ us) h = (let p = name_bound names a u e (h u (contains_head u us)) in let q = words_bound names a e us (λ w c. h w (contains_tail u w us c)) in λ i. p i ∷ q i)

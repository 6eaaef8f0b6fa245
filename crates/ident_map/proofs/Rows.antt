-- What rows answer, and what they answer after a write.
use Rattle.std.proofs.Common.{◌≡◌, ℕ, zero, suc, ◌+◌, ◌<◌, Bool, true, false, ◌&&◌, ◌||◌, cond, List, [], ◌∷◌, ◌++◌, length, get_or, position, Option, Some, None, is_some, refl, sym, ap, ◌∙◌, true≢false, arith}
use Rattle.std.specs.Prelude.{eqb, slice_set}
use Rattle.std.specs.List.{list_any, position_from}
use Rattle.std.specs.Ordering.{nat_cmp}
use Rattle.std.specs.FinMap as map
use Rattle.std.proofs.lemmas.Iterator.Adapters.{position_from-zero}
use Rattle.std.proofs.lemmas.List.{set-get_or}
use Rattle.std.proofs.lemmas.List.Quantifiers.{position-Some}
use Rattle.oz_base.specs.Lists.{list_eq, is_empty}
use Rattle.oz_base.specs.ListLaws.{list_eq-equivalence}
use Rattle.oz_base.specs.Names.{ident_eq}
use Rattle.oz_base.specs.declared.names.Ident.{Ident}
use Rattle.shared_map.proofs.Wholes.{get_insert}
use Rattle.ident_map.specs.declared.map.Row.{Row}
use Rattle.ident_map.specs.Entries.{entry, with_top}

-- ---- no place passes the test

module _ {X : Type 0} (p : X → Bool) where
  absent_from : (xs : List X) (i : ℕ) → position_from p i xs ≡ None → list_any p xs ≡ false
  absent_from [] i h = refl
  absent_from (x ∷ xs) i h = by (p x) (absent_from xs (i + 1)) h
    where
      by : (b : Bool) → (position_from p (i + 1) xs ≡ None → list_any p xs ≡ false) → cond b (Some i) (position_from p (i + 1) xs) ≡ None → (b || list_any p xs) ≡ false
      by true rest h = absurd (true≢false (ap is_some h))
      by false rest h = rest h

  absent : (xs : List X) → position p xs ≡ None → list_any p xs ≡ false
  absent xs h = absent_from xs 0 (sym (position_from-zero p xs) ∙ h)

-- ---- rows

-- where x is of the space s, another name is of its space if it is of s
same_row : (s : List ℕ) (x y : Ident) → list_eq s x.space ≡ true → list_eq y.space x.space ≡ list_eq s y.space
same_row s x y h = list_eq-equivalence.symm y.space x.space ∙ sym (list_eq-equivalence.congr s x.space y.space h)

-- the top's name is the empty one
top_is : (s : List ℕ) → list_eq [] s ≡ is_empty s
top_is [] = refl
top_is (n ∷ s) = refl

module _ {V : Type 0} where
  -- a write in a row of the name's space
  written_by : (m : map.FinMap nat_cmp V) (k q : ℕ) (v : V) (rest : Option V) (t u : Bool) → u ≡ t
      → cond t (map.get (map.insert m k v) q) rest ≡ cond (u && eqb q k) (Some v) (cond t (map.get m q) rest)
  written_by m k q v rest true u e = get_insert m k v q ∙ ap (λ b. cond (b && eqb q k) (Some v) (map.get m q)) (sym e)
  written_by m k q v rest false u e = ap (λ b. cond (b && eqb q k) (Some v) rest) (sym e)

  pub written_here : (s : List ℕ) (m : map.FinMap nat_cmp V) (x y : Ident) (v : V) (rest : Option V) → list_eq s x.space ≡ true
      → cond (list_eq s y.space) (map.get (map.insert m x.number v) y.number) rest ≡ cond (ident_eq y x) (Some v) (cond (list_eq s y.space) (map.get m y.number) rest)
  written_here s m x y v rest h = written_by m x.number y.number v rest (list_eq s y.space) (list_eq y.space x.space) (same_row s x y h)

  -- a row of another space
  apart_by : (k q : ℕ) (v : V) (here a b : Option V) (t u : Bool) → (t ≡ true → u ≡ false) → a ≡ cond (u && eqb q k) (Some v) b → cond t here a ≡ cond (u && eqb q k) (Some v) (cond t here b)
  apart_by k q v here a b true u apart e = ap (λ c. cond (c && eqb q k) (Some v) here) (sym (apart refl))
  apart_by k q v here a b false u apart e = e

  pub written_apart : (s : List ℕ) (x y : Ident) (v : V) (here a b : Option V) → list_eq s x.space ≡ false → a ≡ cond (ident_eq y x) (Some v) b
      → cond (list_eq s y.space) here a ≡ cond (ident_eq y x) (Some v) (cond (list_eq s y.space) here b)
  written_apart s x y v here a b h e =
      apart_by x.number y.number v here a b (list_eq s y.space) (list_eq y.space x.space) (λ t. sym (list_eq-equivalence.congr s y.space x.space t) ∙ h) e

  -- what a row answers is what all answer, where it is the first of its space
  entry_first : (rows : List (Row V)) (i : ℕ) (d : Row V) (x : Ident) → i < length rows → list_eq (get_or rows i d).space x.space ≡ true
      → ((k : ℕ) → k < i → list_eq (get_or rows k d).space x.space ≡ false) → entry rows x ≡ map.get (get_or rows i d).entries x.number
  entry_first [] i d x within is before = absurd (omega (arith, within))
  entry_first (row ∷ rows) zero d x within is before = ap (λ b. cond b (map.get row.entries x.number) (entry rows x)) is
  entry_first (row ∷ rows) (suc i) d x within is before =
      ap (λ b. cond b (map.get row.entries x.number) (entry rows x)) (before 0 (omega arith))
      ∙ entry_first rows i d x (omega (arith, within)) is (λ k below. before (suc k) (omega (arith, below)))

  pub entry_at : (rows : List (Row V)) (i : ℕ) (d : Row V) (x : Ident) → position (λ (row : Row V). list_eq row.space x.space) rows ≡ Some i
      → entry rows x ≡ map.get (get_or rows i d).entries x.number
  entry_at rows i d x h =
      let found = position-Some (λ (row : Row V). list_eq row.space x.space) rows i d h in
      entry_first rows i d x found.0 found.1 found.2

  entry_absent : (rows : List (Row V)) (x : Ident) → list_any (λ (row : Row V). list_eq row.space x.space) rows ≡ false → entry rows x ≡ None
  entry_absent [] x h = refl
  entry_absent (row ∷ rows) x h = by (list_eq row.space x.space) (entry_absent rows x) h
    where
      by : (b : Bool) → (list_any (λ (row : Row V). list_eq row.space x.space) rows ≡ false → entry rows x ≡ None) → (b || list_any (λ (row : Row V). list_eq row.space x.space) rows) ≡ false
          → cond b (map.get row.entries x.number) (entry rows x) ≡ None
      by true rest h = absurd (true≢false h)
      by false rest h = rest h

  pub entry_none : (rows : List (Row V)) (x : Ident) → position (λ (row : Row V). list_eq row.space x.space) rows ≡ None → entry rows x ≡ None
  entry_none rows x h = entry_absent rows x (absent (λ (row : Row V). list_eq row.space x.space) rows h)

  -- ---- a row with one entry more

  set_first : (rows : List (Row V)) (i : ℕ) (d new : Row V) (x y : Ident) (v : V) → i < length rows → list_eq (get_or rows i d).space x.space ≡ true
      → ((k : ℕ) → k < i → list_eq (get_or rows k d).space x.space ≡ false)
      → new.space ≡ (get_or rows i d).space → new.entries ≡ map.insert (get_or rows i d).entries x.number v
      → entry (slice_set rows i new) y ≡ cond (ident_eq y x) (Some v) (entry rows y)
  set_first [] i d new x y v within is before space entries = absurd (omega (arith, within))
  set_first (row ∷ rows) zero d new x y v within is before space entries =
      ap (λ s. cond (list_eq s y.space) (map.get new.entries y.number) (entry rows y)) space
      ∙ ap (λ (m : map.FinMap nat_cmp V). cond (list_eq row.space y.space) (map.get m y.number) (entry rows y)) entries
      ∙ written_here row.space row.entries x y v (entry rows y) is
  set_first (row ∷ rows) (suc i) d new x y v within is before space entries =
      written_apart row.space x y v (map.get row.entries y.number) (entry (slice_set rows i new) y) (entry rows y) (before 0 (omega arith))
      (set_first rows i d new x y v (omega (arith, within)) is (λ k below. before (suc k) (omega (arith, below))) space entries)

  pub entry_set : (rows : List (Row V)) (i : ℕ) (d new : Row V) (x y : Ident) (v : V) → position (λ (row : Row V). list_eq row.space x.space) rows ≡ Some i
      → new.space ≡ (get_or rows i d).space → new.entries ≡ map.insert (get_or rows i d).entries x.number v
      → entry (slice_set rows i new) y ≡ cond (ident_eq y x) (Some v) (entry rows y)
  entry_set rows i d new x y v h space entries =
      let found = position-Some (λ (row : Row V). list_eq row.space x.space) rows i d h in
      set_first rows i d new x y v found.0 found.1 found.2 space entries

  -- a row that was left
  pub set_same : (rows : List (Row V)) (i : ℕ) (d new : Row V) → new.space ≡ (get_or rows i d).space → new.entries ≡ (get_or rows i d).entries → slice_set rows i new ≡ rows
  set_same rows i d new space entries =
      let e : new ≡ get_or rows i d = λ j. record { space = space j; entries = entries j } in
      ap (slice_set rows i) e ∙ set-get_or rows i d

  -- ---- a row more

  get_none : (m : map.FinMap nat_cmp V) (q : ℕ) (t : Bool) → m ≡ map.empty → cond t (map.get m q) None ≡ None
  get_none m q true e = ap (λ (m : map.FinMap nat_cmp V). map.get m q) e ∙ map.get-empty nat_cmp q
  get_none m q false e = refl

  push_absent : (rows : List (Row V)) (new : Row V) (x y : Ident) (v : V) → list_any (λ (row : Row V). list_eq row.space x.space) rows ≡ false
      → new.space ≡ x.space → new.entries ≡ map.insert map.empty x.number v
      → entry (rows ++ new ∷ []) y ≡ cond (ident_eq y x) (Some v) (entry rows y)
  push_absent [] new x y v h space entries =
      ap (λ s. cond (list_eq s y.space) (map.get new.entries y.number) None) space
      ∙ ap (λ (m : map.FinMap nat_cmp V). cond (list_eq x.space y.space) (map.get m y.number) None) entries
      ∙ written_here x.space map.empty x y v None (list_eq-equivalence.refl x.space)
      ∙ ap (cond (ident_eq y x) (Some v)) (get_none map.empty y.number (list_eq x.space y.space) refl)
  push_absent (row ∷ rows) new x y v h space entries = by (list_eq row.space x.space) refl (λ h. push_absent rows new x y v h space entries) h
    where
      by : (b : Bool) → list_eq row.space x.space ≡ b
          → (list_any (λ (row : Row V). list_eq row.space x.space) rows ≡ false → entry (rows ++ new ∷ []) y ≡ cond (ident_eq y x) (Some v) (entry rows y))
          → (b || list_any (λ (row : Row V). list_eq row.space x.space) rows) ≡ false
          → entry ((row ∷ rows) ++ new ∷ []) y ≡ cond (ident_eq y x) (Some v) (entry (row ∷ rows) y)
      by true e rest h = absurd (true≢false h)
      by false e rest h = written_apart row.space x y v (map.get row.entries y.number) (entry (rows ++ new ∷ []) y) (entry rows y) e (rest h)

  pub entry_push : (rows : List (Row V)) (new : Row V) (x y : Ident) (v : V) → position (λ (row : Row V). list_eq row.space x.space) rows ≡ None
      → new.space ≡ x.space → new.entries ≡ map.insert map.empty x.number v
      → entry (rows ++ new ∷ []) y ≡ cond (ident_eq y x) (Some v) (entry rows y)
  entry_push rows new x y v h space entries = push_absent rows new x y v (absent (λ (row : Row V). list_eq row.space x.space) rows h) space entries

  -- ---- the top

  pub entry_new : (top : map.FinMap nat_cmp V) (others : List (Row V)) (x : Ident) → top ≡ map.empty → others ≡ [] → entry (with_top top others) x ≡ None
  entry_new top others x e f = ap (λ (rows : List (Row V)). entry (with_top top rows) x) f ∙ get_none top x.number (list_eq [] x.space) e

  pub top_written : (top : map.FinMap nat_cmp V) (others : List (Row V)) (x y : Ident) (v : V) → is_empty x.space ≡ true
      → entry (with_top (map.insert top x.number v) others) y ≡ cond (ident_eq y x) (Some v) (entry (with_top top others) y)
  top_written top others x y v h = written_here [] top x y v (entry others y) (top_is x.space ∙ h)

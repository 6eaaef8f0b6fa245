-- The place that a distribution splits.
use Rattle.std.proofs.Common.{◌≡◌, ℕ, zero, suc, ◌<◌, Bool, true, false, cond, ◌&&◌, List, [], ◌∷◌, Option, Some, None, nat_lt, option_map, refl, sym, ◌∙◌, ap, subst, arith}
use Rattle.std.specs.FinSet as set
use Rattle.oz_base.specs.declared.distribution.Rule.{Rule}
use Rattle.oz_base.specs.declared.distribution.Rule.TheVariants.{Naive, FirstFail, Split as Halve}
use Rattle.oz_base.specs.declared.distribution.Split.{Split}
use Rattle.oz_domains.specs.Domains.{IntSet, is_single}
use Rattle.oz_domains.specs.Positions.{domain, all_single}
use Rattle.oz_domains.specs.Splits.{first_place, smaller_place, smallest_place, place_of, test_of, IsFirst}
use Rattle.distributors.proofs.PlaceLaws.{IsOpen}
use Rattle.fd_problems.specs.declared.problem.Distribution.{Distribution}
use Rattle.fd_stores.specs.Stores.{Store, domains_at}
use Rattle.fd_stores.specs.Choices.{choice}

open_later : (d : IntSet) (ds : List IntSet) (i : ℕ) → IsOpen ds i → IsOpen (d ∷ ds) (suc i)
open_later d ds i o = record { inside = (let l = o.inside in omega arith); undetermined = o.undetermined }

open_first : (d : IntSet) (ds : List IntSet) → is_single d ≡ false → IsOpen (d ∷ ds) 0
open_first d ds s = record { inside = omega arith; undetermined = s }

some_is : (m n : ℕ) → Some m ≡ Some n → m ≡ n
some_is m n e = cc

-- ---- the smallest

smallest_at : (d : IntSet) (ds : List IntSet) (i : ℕ) (b : Bool) → is_single d ≡ b → (o : Option ℕ) → ((j : ℕ) → o ≡ Some j → IsOpen ds j) → cond b (option_map suc o) (Some (smaller_place d ds o)) ≡ Some i → IsOpen (d ∷ ds) i
smallest_at d ds i true s None k e = cc
smallest_at d ds i true s (Some j) k e = subst (IsOpen (d ∷ ds)) (some_is (suc j) i e) (open_later d ds j (k j refl))
smallest_at d ds i false s None k e = subst (IsOpen (d ∷ ds)) (some_is 0 i e) (open_first d ds s)
smallest_at d ds i false s (Some j) k e = by (nat_lt (set.len (domain ds j)) (set.len d)) (some_is _ i e) where
  by : (b : Bool) → cond b (suc j) 0 ≡ i → IsOpen (d ∷ ds) i
  by true z = subst (IsOpen (d ∷ ds)) z (open_later d ds j (k j refl))
  by false z = subst (IsOpen (d ∷ ds)) z (open_first d ds s)

smallest_open : (ds : List IntSet) (i : ℕ) → smallest_place ds ≡ Some i → IsOpen ds i
smallest_open [] i e = cc
smallest_open (d ∷ ds) i e = smallest_at d ds i (is_single d) refl (smallest_place ds) (smallest_open ds) e

single_both : (d : IntSet) (ds : List IntSet) → is_single d ≡ true → all_single ds ≡ true → all_single (d ∷ ds) ≡ true
single_both d ds s h = ap (λ b. b && all_single ds) s ∙ h

smallest_none-at : (d : IntSet) (ds : List IntSet) (b : Bool) → is_single d ≡ b → (o : Option ℕ) → (o ≡ None → all_single ds ≡ true) → cond b (option_map suc o) (Some (smaller_place d ds o)) ≡ None → all_single (d ∷ ds) ≡ true
smallest_none-at d ds true s None k e = single_both d ds s (k refl)
smallest_none-at d ds true s (Some j) k e = cc
smallest_none-at d ds false s o k e = cc

smallest_none : (ds : List IntSet) → smallest_place ds ≡ None → all_single ds ≡ true
smallest_none [] e = refl
smallest_none (d ∷ ds) e = smallest_none-at d ds (is_single d) refl (smallest_place ds) (smallest_none ds) e

-- ---- the first

first_later : (d : IntSet) (ds : List IntSet) (i : ℕ) → is_single d ≡ true → IsFirst ds i → IsFirst (d ∷ ds) (suc i)
first_later d ds i s f = record { inside = (let l = f.inside in omega arith); undetermined = f.undetermined; before = before } where
  before : (j : ℕ) → j < suc i → is_single (domain (d ∷ ds) j) ≡ true
  before zero l = s
  before (suc j) l = f.before j (omega (arith, l))

first_at : (d : IntSet) (ds : List IntSet) (i : ℕ) (b : Bool) → is_single d ≡ b → (o : Option ℕ) → ((j : ℕ) → o ≡ Some j → IsFirst ds j) → cond b (option_map suc o) (Some 0) ≡ Some i → IsFirst (d ∷ ds) i
first_at d ds i true s None k e = cc
first_at d ds i true s (Some j) k e = subst (IsFirst (d ∷ ds)) (some_is (suc j) i e) (first_later d ds j s (k j refl))
first_at d ds i false s o k e = subst (IsFirst (d ∷ ds)) (some_is 0 i e) (record { inside = omega arith; undetermined = s; before = λ j l. absurd (omega (arith, l)) })

pub first_is : (ds : List IntSet) (i : ℕ) → first_place ds ≡ Some i → IsFirst ds i
first_is [] i e = cc
first_is (d ∷ ds) i e = first_at d ds i (is_single d) refl (first_place ds) (first_is ds) e

first_none-at : (d : IntSet) (ds : List IntSet) (b : Bool) → is_single d ≡ b → (o : Option ℕ) → (o ≡ None → all_single ds ≡ true) → cond b (option_map suc o) (Some 0) ≡ None → all_single (d ∷ ds) ≡ true
first_none-at d ds true s None k e = single_both d ds s (k refl)
first_none-at d ds true s (Some j) k e = cc
first_none-at d ds false s o k e = cc

first_none : (ds : List IntSet) → first_place ds ≡ None → all_single ds ≡ true
first_none [] e = refl
first_none (d ∷ ds) e = first_none-at d ds (is_single d) refl (first_place ds) (first_none ds) e

-- ---- all rules

pub place_open : (r : Rule) (ds : List IntSet) (i : ℕ) → place_of r ds ≡ Some i → IsOpen ds i
place_open Naive ds i e = (let f = first_is ds i e in record { inside = f.inside; undetermined = f.undetermined })
place_open FirstFail ds i e = smallest_open ds i e
place_open Halve ds i e = smallest_open ds i e

place_none : (r : Rule) (ds : List IntSet) → place_of r ds ≡ None → all_single ds ≡ true
place_none Naive ds e = first_none ds e
place_none FirstFail ds e = smallest_none ds e
place_none Halve ds e = smallest_none ds e

-- ---- the choice

pub choice_none : (d : Distribution) (s : Store) → choice d s ≡ None → all_single (domains_at s d.over) ≡ true
choice_none d s e = place_none d.rule (domains_at s d.over) (by (place_of d.rule (domains_at s d.over)) e) where
  by : (o : Option ℕ) → option_map {U = Split} (λ i. record { var = i; test = test_of d.rule (domain (domains_at s d.over) i) }) o ≡ None → o ≡ None
  by None h = refl
  by (Some i) h = cc

pub choice_some : (d : Distribution) (s : Store) (p : Split) → choice d s ≡ Some p → (place_of d.rule (domains_at s d.over) ≡ Some p.var) × (p.test ≡ test_of d.rule (domain (domains_at s d.over) p.var))
choice_some d s p e = by (place_of d.rule (domains_at s d.over)) e where
  split : (a b : Split) → Some a ≡ Some b → a ≡ b
  split a b e = cc

  by : (o : Option ℕ) → option_map {U = Split} (λ i. record { var = i; test = test_of d.rule (domain (domains_at s d.over) i) }) o ≡ Some p → (o ≡ Some p.var) × (p.test ≡ test_of d.rule (domain (domains_at s d.over) p.var))
  by None h = cc
  by (Some i) h =
      let same = split (record { var = i; test = test_of d.rule (domain (domains_at s d.over) i) }) p h in
      let var : i ≡ p.var = ap (λ (q : Split). q.var) same in
      (ap Some var, sym (ap (λ (q : Split). q.test) same) ∙ ap (λ j. test_of d.rule (domain (domains_at s d.over) j)) var)

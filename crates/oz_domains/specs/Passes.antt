-- The pass by which a relation cuts the domains of its positions, once over all of them: the propagators of bounds and of
-- values of CTM chapter 12 and of Schulte, LNCS 2302. A step takes the domains that the steps before it left; None is failure.
use Rattle.std.specs.Prelude.{ℕ, zero, suc, ◌==◌, ℤ, pos, negsuc, ◌+ℤ◌, ◌*ℤ◌, neg_ℤ, int_le, int_div, int_rem, Bool, true, not, ◌&&◌, List, [], ◌∷◌, length, map, slice_set, Option, Some, None, if◌then◌else◌, option_and_then, option_map}
use Rattle.std.specs.Int.{int_div_euclid}
use Rattle.std.specs.Ordering.{int_eq}
use Rattle.std.specs.FinSet as set
use Rattle.oz_base.specs.declared.relation.Relation.{Relation}
use Rattle.oz_base.specs.declared.relation.Relation.TheVariants.{Le, Lt, Eq, Ne, Times, Distinct}
use Rattle.oz_domains.specs.Domains.{IntSet, least, greatest, is_single}
use Rattle.oz_domains.specs.Positions.{domain, value, all_single}
use Rattle.oz_domains.specs.Relations.{dot, allowed}

-- ---- steps

-- what position i keeps is what passes the test; it fails where nothing does
unfoldable pub keep : ℕ → (ℤ → Bool) → List IntSet → Option (List IntSet)
keep i test ds = let kept = set.retain (domain ds i) test in (if set.len kept == 0 then None else Some (slice_set ds i kept))

abbrev pub at_most : ℕ → ℤ → List IntSet → Option (List IntSet)
at_most i bound ds = keep i (λ v. int_le v bound) ds

abbrev pub at_least : ℕ → ℤ → List IntSet → Option (List IntSet)
at_least i bound ds = keep i (λ v. int_le bound v) ds

abbrev pub remove : ℕ → ℤ → List IntSet → Option (List IntSet)
remove i x ds = keep i (λ v. not (int_eq v x)) ds

-- the step of each of the positions 0 to n - 1, in turn
unfoldable pub sweep : (ℕ → List IntSet → Option (List IntSet)) → ℕ → List IntSet → Option (List IntSet)
sweep step zero ds = Some ds
sweep step (suc n) ds = option_and_then (step n) (sweep step n ds)

-- a / n rounded down, and rounded up
abbrev pub floor_div : ℤ → ℕ → ℤ
floor_div a n = int_div_euclid a (pos n)

abbrev pub ceil_div : ℤ → ℕ → ℤ
ceil_div a n = neg_ℤ (int_div_euclid (neg_ℤ a) (pos n))

-- ---- sums that are at most 0, or 0

-- the least multiple of a value of the domain
abbrev pub least_term : ℤ → IntSet → ℤ
least_term (pos n) d = pos n *ℤ least d
least_term (negsuc n) d = negsuc n *ℤ greatest d

abbrev pub least_sum : List ℤ → List IntSet → ℤ
least_sum [] ds = pos 0
least_sum (a ∷ as') [] = pos 0
least_sum (a ∷ as') (d ∷ ds) = least_term a d +ℤ least_sum as' ds

-- the constant and the least multiples of the positions other than i
abbrev pub rest : ℤ → List ℤ → List IntSet → ℕ → ℤ
rest c as' ds i = c +ℤ least_sum (slice_set as' i (pos 0)) ds

-- position i, whose multiple by the coefficient is at most -r
abbrev pub cut_by : ℤ → ℤ → ℕ → List IntSet → Option (List IntSet)
cut_by (pos zero) r i ds = Some ds
cut_by (pos (suc n)) r i ds = at_most i (floor_div (neg_ℤ r) (suc n)) ds
cut_by (negsuc n) r i ds = at_least i (ceil_div r (suc n)) ds

abbrev pub le_cut : ℤ → List ℤ → ℕ → List IntSet → Option (List IntSet)
le_cut c as' i ds = cut_by (value as' i) (rest c as' ds i) i ds

abbrev pub le_pass : ℤ → List ℤ → List IntSet → Option (List IntSet)
le_pass c as' ds = sweep (le_cut c as') (length as') ds

-- a sum that is 0 is at most 0, and so is the sum with all signs changed
abbrev pub eq_cut : ℤ → List ℤ → ℕ → List IntSet → Option (List IntSet)
eq_cut c as' i ds = option_and_then (le_cut (neg_ℤ c) (map neg_ℤ as') i) (le_cut c as' i ds)

abbrev pub eq_pass : ℤ → List ℤ → List IntSet → Option (List IntSet)
eq_pass c as' ds = sweep (eq_cut c as') (length as') ds

-- ---- sums that are not 0

abbrev pub is_zero : ℤ → Bool
is_zero a = int_eq a (pos 0)

-- the position counts, and its variable is not determined
abbrev pub is_open : ℤ → IntSet → Bool
is_open a d = not (is_zero a) && not (is_single d)

abbrev pub none_open : List ℤ → List IntSet → Bool
none_open [] ds = true
none_open (a ∷ as') [] = true
none_open (a ∷ as') (d ∷ ds) = not (is_open a d) && none_open as' ds

-- the open position, if there is exactly one
abbrev pub only_open : List ℤ → List IntSet → Option ℕ
only_open [] ds = None
only_open (a ∷ as') [] = None
only_open (a ∷ as') (d ∷ ds) = (if is_open a d then (if none_open as' ds then Some 0 else None) else option_map suc (only_open as' ds))

-- the constant and the multiples of the positions other than i, which are determined
abbrev pub known : ℤ → List ℤ → List IntSet → ℕ → ℤ
known c as' ds i = c +ℤ dot (slice_set as' i (pos 0)) (map least ds)

-- position i, whose multiple by the coefficient is not -r
abbrev pub ne_cut : ℤ → ℤ → ℕ → List IntSet → Option (List IntSet)
ne_cut a r i ds = (if is_zero (int_rem (neg_ℤ r) a) then remove i (int_div (neg_ℤ r) a) ds else Some ds)

abbrev pub ne_at : ℤ → List ℤ → Option ℕ → List IntSet → Option (List IntSet)
ne_at c as' None ds = Some ds
ne_at c as' (Some i) ds = ne_cut (value as' i) (known c as' ds i) i ds

abbrev pub ne_pass : ℤ → List ℤ → List IntSet → Option (List IntSet)
ne_pass c as' ds = ne_at c as' (only_open as' ds) ds

-- ---- products

-- at most, and at least, the quotient by a divisor; nothing where the divisor is below 1
abbrev pub most_quotient : ℕ → ℤ → ℤ → List IntSet → Option (List IntSet)
most_quotient i a (pos zero) ds = Some ds
most_quotient i a (pos (suc n)) ds = at_most i (floor_div a (suc n)) ds
most_quotient i a (negsuc n) ds = Some ds

abbrev pub least_quotient : ℕ → ℤ → ℤ → List IntSet → Option (List IntSet)
least_quotient i a (pos zero) ds = Some ds
least_quotient i a (pos (suc n)) ds = at_least i (ceil_div a (suc n)) ds
least_quotient i a (negsuc n) ds = Some ds

abbrev pub most_product : List IntSet → Option (List IntSet)
most_product ds = at_most 2 (greatest (domain ds 0) *ℤ greatest (domain ds 1)) ds

abbrev pub least_product : List IntSet → Option (List IntSet)
least_product ds = at_least 2 (least (domain ds 0) *ℤ least (domain ds 1)) ds

-- factor x by the product and the other factor y
abbrev pub most_factor : ℕ → ℕ → List IntSet → Option (List IntSet)
most_factor x y ds = most_quotient x (greatest (domain ds 2)) (least (domain ds y)) ds

abbrev pub least_factor : ℕ → ℕ → List IntSet → Option (List IntSet)
least_factor x y ds = least_quotient x (least (domain ds 2)) (greatest (domain ds y)) ds

abbrev pub factor : ℕ → ℕ → List IntSet → Option (List IntSet)
factor x y ds = option_and_then (least_factor x y) (most_factor x y ds)

abbrev pub product_pass : List IntSet → Option (List IntSet)
product_pass ds = option_and_then least_product (most_product ds)

abbrev pub factors_pass : List IntSet → Option (List IntSet)
factors_pass ds = option_and_then (factor 1 0) (factor 0 1 ds)

abbrev pub times_pass : List IntSet → Option (List IntSet)
times_pass ds = option_and_then factors_pass (product_pass ds)

-- ---- positions that are all different

abbrev pub remove_unless : ℕ → ℤ → ℕ → List IntSet → Option (List IntSet)
remove_unless i x j ds = (if j == i then Some ds else remove j x ds)

-- where position i is determined, its value is removed from all n positions but its own
abbrev pub remove_single : ℕ → ℕ → List IntSet → Option (List IntSet)
remove_single n i ds = (if is_single (domain ds i) then sweep (remove_unless i (least (domain ds i))) n ds else Some ds)

abbrev pub distinct_pass : List IntSet → Option (List IntSet)
distinct_pass ds = sweep (remove_single (length ds)) (length ds) ds

-- ---- the pass of a relation

abbrev pub cut_pass : Relation → List IntSet → Option (List IntSet)
cut_pass (Le l) ds = le_pass l.constant l.coefficients ds
cut_pass (Lt l) ds = le_pass (l.constant +ℤ pos 1) l.coefficients ds
cut_pass (Eq l) ds = eq_pass l.constant l.coefficients ds
cut_pass (Ne l) ds = ne_pass l.constant l.coefficients ds
cut_pass Times ds = times_pass ds
cut_pass Distinct ds = distinct_pass ds

-- it fails where all positions are determined and the tuple of their values is not allowed
abbrev pub decided : Relation → List IntSet → Option (List IntSet)
decided r ds = (if all_single ds && not (allowed r (map least ds)) then None else Some ds)

abbrev pub pass : Relation → List IntSet → Option (List IntSet)
pass r ds = option_and_then (decided r) (cut_pass r ds)

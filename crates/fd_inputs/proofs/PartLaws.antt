-- The parts of a domain by cuts.
use Rattle.std.proofs.Common.{◌≡◌, ℤ, pos, ◌+ℤ◌, ◌<ℤ◌, int_le, Bool, true, false, not, refl, sym, ap, subst, ◌∙◌, arith}
use Rattle.std.proofs.lemmas.Int.{ints}
use Rattle.std.specs.FinSet as set
use Rattle.std.specs.Ordering.{int_eq}
use Rattle.oz_base.specs.declared.distribution.Test.TheVariants.{Is, AtMost}
use Rattle.oz_base.specs.declared.interval.TheConstants.{GREATEST_VALUE}
use Rattle.oz_domains.specs.Domains.{IntSet, Has, IsDomain}
use Rattle.oz_domains.specs.Splits.{passes, first_part, second_part, AreHalves}
use Rattle.fd_domain.specs.Cuts.{Keeps, is_other}
use Rattle.fd_domain.specs.declared.domain.Cut.{Cut}
use Rattle.fd_domain.specs.declared.domain.Cut.TheVariants.{Changed, Same, Empty}
use Rattle.fd_domain.proofs.SetLaws.{same_bool, same_members, has-empty, has_retain-has, has_retain-passes, retain_has, greatest-above, tied, ties}
use Rattle.fd_domain.proofs.IntervalLaws.{le_true, le_false, true_le}

-- a cut that leaves a value leaves what passes its test
kept_is : (old new : IntSet) (test : ℤ → Bool) (cut : Cut) (q : ℤ) → Keeps old new test cut → Has old q → test q ≡ true → new ≡ set.retain old test
kept_is old new test Changed q k h t = k.0
kept_is old new test Same q k h t = k.0 ∙ k.1
kept_is old new test Empty q k h t = absurd (has-empty q (subst (λ s. Has s q) k.1 (retain_has old test q h t)))

le_self : (x : ℤ) → int_le x x ≡ true
le_self x = true_le x x (omega (arith, ints))

value_here : (x : ℤ) (d : IntSet) → AreHalves (Is x) d → Has d x
value_here x d a =
    let v = a.first in
    subst (λ z. Has d z) (tied v.0 x (has_retain-passes d (passes (Is x)) v.0 v.1)) (has_retain-has d (passes (Is x)) v.0 v.1)

-- what is neither below a value nor above it
between_is : (x : ℤ) (d : IntSet) → set.retain (set.retain d (λ v. int_le x v)) (λ v. int_le v x) ≡ set.retain d (λ v. int_eq v x)
between_is x d =
    same_members (set.retain (set.retain d (λ v. int_le x v)) (λ v. int_le v x)) (set.retain d (λ v. int_eq v x))
    (λ q h. (
    let above = has_retain-has (set.retain d (λ v. int_le x v)) (λ v. int_le v x) q h in
    let low = le_true x q (has_retain-passes d (λ v. int_le x v) q above) in
    let high = le_true q x (has_retain-passes (set.retain d (λ v. int_le x v)) (λ v. int_le v x) q h) in
    let same : q ≡ x = omega (arith, ints, low, high) in
    retain_has d (λ v. int_eq v x) q (has_retain-has d (λ v. int_le x v) q above) (subst (λ z. int_eq z x ≡ true) (sym same) (ties x))
    ))
    (λ q h. (
    let same = tied q x (has_retain-passes d (λ v. int_eq v x) q h) in
    retain_has (set.retain d (λ v. int_le x v)) (λ v. int_le v x) q
    (retain_has d (λ v. int_le x v) q (has_retain-has d (λ v. int_eq v x) q h) (subst (λ z. int_le x z ≡ true) (sym same) (le_self x)))
    (subst (λ z. int_le z x ≡ true) (sym same) (le_self x))
    ))

pub first_value : (x : ℤ) (d low part : IntSet) (b c : Cut) → AreHalves (Is x) d → Keeps d low (λ v. int_le x v) b → Keeps low part (λ v. int_le v x) c → part ≡ first_part (Is x) d
first_value x d low part b c a k l =
    let here = value_here x d a in
    let low_is = kept_is d low (λ v. int_le x v) b x k here (le_self x) in
    let still = subst (λ s. Has s x) (sym low_is) (retain_has d (λ v. int_le x v) x here (le_self x)) in
    kept_is low part (λ v. int_le v x) c x l still (le_self x) ∙ ap (λ s. set.retain s (λ v. int_le v x)) low_is ∙ between_is x d

pub first_half : (x : ℤ) (d part : IntSet) (c : Cut) → AreHalves (AtMost x) d → Keeps d part (λ v. int_le v x) c → part ≡ first_part (AtMost x) d
first_half x d part c a k =
    let v = a.first in
    kept_is d part (λ v. int_le v x) c v.0 k (has_retain-has d (passes (AtMost x)) v.0 v.1) (has_retain-passes d (passes (AtMost x)) v.0 v.1)

pub second_value : (x : ℤ) (d part : IntSet) (c : Cut) → AreHalves (Is x) d → Keeps d part (is_other x) c → part ≡ second_part (Is x) d
second_value x d part c a k =
    let v = a.second in
    kept_is d part (is_other x) c v.0 k (has_retain-has d (λ w. not (passes (Is x) w)) v.0 v.1) (has_retain-passes d (λ w. not (passes (Is x) w)) v.0 v.1)

above_is : (x v : ℤ) → int_le (x +ℤ pos 1) v ≡ not (int_le v x)
above_is x v = by (int_le v x) refl
  where
    by : (b : Bool) → int_le v x ≡ b → int_le (x +ℤ pos 1) v ≡ not b
    by false e = let above = le_false v x e in true_le (x +ℤ pos 1) v (omega (arith, ints, above))
    by true e = let below = le_true v x e in same_bool (int_le (x +ℤ pos 1) v) false (λ h. (let above = le_true (x +ℤ pos 1) v h in absurd (omega (arith, ints, above, below)))) (λ f. cc)

pub second_half : (x next : ℤ) (d part : IntSet) (c : Cut) → next ≡ x +ℤ pos 1 → AreHalves (AtMost x) d → Keeps d part (λ v. int_le next v) c → part ≡ second_part (AtMost x) d
second_half x next d part c e a k =
    let v = a.second in
    let test : (w : ℤ) → int_le next w ≡ not (int_le w x) = λ w. ap (λ n. int_le n w) e ∙ above_is x w in
    kept_is d part (λ w. int_le next w) c v.0 k
    (has_retain-has d (λ w. not (passes (AtMost x) w)) v.0 v.1)
    (test v.0 ∙ has_retain-passes d (λ w. not (passes (AtMost x) w)) v.0 v.1)
    ∙ ap (set.retain d) (λ i w. test w i)

-- the value at which a domain is halved has another above it
pub below_greatest : (x : ℤ) (d : IntSet) → IsDomain d → AreHalves (AtMost x) d → x <ℤ GREATEST_VALUE
below_greatest x d i a =
    let v = a.second in
    let most = greatest-above d v.0 (has_retain-has d (λ w. not (passes (AtMost x) w)) v.0 v.1) in
    let passed = not_true (int_le v.0 x) (has_retain-passes d (λ w. not (passes (AtMost x) w)) v.0 v.1) in
    let above = le_false v.0 x passed in
    let high = i.high in
    omega (arith, ints, most, above, high)
  where
    not_true : (b : Bool) → not b ≡ true → b ≡ false
    not_true true e = cc
    not_true false e = refl

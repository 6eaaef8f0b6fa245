-- What a space is told of its cost cuts the store below the bound.
use Rattle.std.proofs.Common.{◌≡◌, ◌⊎◌, inl, inr, ℕ, ◌<◌, ℤ, pos, ◌-ℤ◌, ◌+ℤ◌, ◌≤ℤ◌, ◌<ℤ◌, int_lt, Bool, true, ◌==◌, if◌then◌else◌, List, [], ◌∷◌, length, set as put, Option, Some, None, option_and_then, option_to_list, refl, sym, ◌∙◌, ap, subst, arith}
use Rattle.std.proofs.lemmas.Int.{ints}
use Rattle.std.proofs.lemmas.List.{append-nil}
use Rattle.std.proofs.lemmas.List.Elements.{All-nil, All-cons}
use Rattle.std.specs.FinSet as set
use Rattle.std.specs.Int.{int_min, int_max}
use Rattle.oz_base.specs.declared.names.Ident.{Ident}
use Rattle.oz_base.specs.declared.interval.TheConstants.{LEAST_VALUE, GREATEST_VALUE}
use Rattle.oz_language.specs.declared.kernel.Constant.{Constant}
use Rattle.oz_domains.specs.Domains.{IntSet, Has, count, between}
use Rattle.oz_domains.specs.Positions.{domain, AreDomains}
use Rattle.oz_domains.specs.Passes.{keep}
use Rattle.oz_semantics.specs.Names.{root_of}
use Rattle.oz_semantics.specs.Store.{View, value_of}
use Rattle.oz_semantics.specs.Builtins.{interval_news}
use Rattle.oz_semantics.specs.BestSearch.{field_of, root_field, values_below, bound_tells}
use Rattle.oz_semantics.specs.declared.value.Value.{Value}
use Rattle.fd_domain.proofs.SetLaws.{same_members, has-empty, has_retain-has, has_retain-passes, retain_has, with_run-cases, with_run-new, count-is, count-none, least-below, greatest-above}
use Rattle.fd_stores.specs.Stores.{Store, told}
use Rattle.fd_stores.proofs.Lists.{contains_none}
use Rattle.fd_views.specs.Views.{variable_at, variables_at, AreDomainValues, StandsFor, OnlyDomains, IsTold}
use Rattle.fd_runs.specs.Runs.{each_between}
use Rattle.fd_runs.proofs.RunLaws.{confined_domains, confined_told}
use Rattle.fd_bounds.specs.Bounds.{below}

-- ---- the values below a bound

-- an interval has what lies between its ends
has_between : (low high v : ℤ) → low ≤ℤ v → v ≤ℤ high → Has (between low high) v
has_between low high v a b = (let c = count-is low high (omega (arith, ints, a, b)) in with_run-new low (count low high) set.empty v a (omega (arith, ints, b, c)))

between_has : (low high v : ℤ) → Has (between low high) v → (low ≤ℤ v) × (v ≤ℤ high)
between_has low high v h = elim (with_run-cases low (count low high) set.empty v h) [
  | inl k ↦ (k.0, at_most (within low high) k.0 k.1)
  | inr k ↦ absurd (has-empty v k)
] where
  within : (a b : ℤ) → (a ≤ℤ b) ⊎ (b <ℤ a)
  within a b = grind (arith, ints)

  at_most : (low ≤ℤ high) ⊎ (high <ℤ low) → low ≤ℤ v → v <ℤ (low +ℤ pos (count low high)) → v ≤ℤ high
  at_most (inl e) a b = (let c = count-is low high e in omega (arith, ints, b, c))
  at_most (inr e) a b = (let c = count-none low high e in let d = subst (λ n. v <ℤ (low +ℤ pos n)) c b in absurd (omega (arith, ints, a, d)))

-- the greatest domain value below a bound
abbrev ceiling : ℤ → ℤ
ceiling bound = int_min (int_max bound LEAST_VALUE -ℤ pos 1) GREATEST_VALUE

under : (bound v : ℤ) → LEAST_VALUE ≤ℤ v → v ≤ℤ GREATEST_VALUE → int_lt v bound ≡ true → v ≤ℤ ceiling bound
under bound v a b e = grind (arith, ints)

over : (bound v : ℤ) → LEAST_VALUE ≤ℤ v → v ≤ℤ ceiling bound → int_lt v bound ≡ true
over bound v a e = grind (arith, ints)

not_above : (bound : ℤ) → ceiling bound ≤ℤ GREATEST_VALUE
not_above bound = grind (arith, ints)

abbrev set_below : ℤ → IntSet
set_below bound = between (values_below bound).low (values_below bound).high

below_values : (bound : ℤ) → AreDomainValues (set_below bound)
below_values bound v h = (let k = between_has LEAST_VALUE (ceiling bound) v h in let l = not_above bound in has_between LEAST_VALUE GREATEST_VALUE v k.0 (omega (arith, ints, k.1, l)))

-- of a domain they keep what is below the bound
kept_below : (s : Store) (x : ℕ) (bound : ℤ) → x < length s → AreDomains s → set.retain (domain s x) (set.contains (set_below bound)) ≡ set.retain (domain s x) (λ v. int_lt v bound)
kept_below s x bound l d =
    let here = d x l in
    same_members (set.retain (domain s x) (set.contains (set_below bound))) (set.retain (domain s x) (λ v. int_lt v bound))
    (λ q e. (let k = between_has LEAST_VALUE (ceiling bound) q (has_retain-passes (domain s x) (set.contains (set_below bound)) q e) in
    retain_has (domain s x) (λ v. int_lt v bound) q (has_retain-has (domain s x) (set.contains (set_below bound)) q e) (over bound q k.0 k.1)))
    (λ q e. (let old = has_retain-has (domain s x) (λ v. int_lt v bound) q e in
    let a = least-below (domain s x) q old in
    let b = greatest-above (domain s x) q old in
    let low = here.low in
    let high = here.high in
    let least : LEAST_VALUE ≤ℤ q = omega (arith, ints, a, low) in
    let greatest : q ≤ℤ GREATEST_VALUE = omega (arith, ints, b, high) in
    retain_has (domain s x) (set.contains (set_below bound)) q old (has_between LEAST_VALUE (ceiling bound) q least (under bound q least greatest (has_retain-passes (domain s x) (λ v. int_lt v bound) q e)))))

same_kept : (s : Store) (x : ℕ) (one other : ℤ → Bool) → set.retain (domain s x) one ≡ set.retain (domain s x) other → keep x one s ≡ keep x other s
unfolding keep
same_kept s x one other e = ap (λ (k : IntSet). if set.len k == 0 then None else Some (put s x k)) e

told_below : (s : Store) (x : ℕ) (bound : ℤ) → x < length s → AreDomains s → told (x ∷ []) (each_between (values_below bound) (x ∷ [])) s ≡ below x (Some bound) s
unfolding told
told_below s x bound l d = ap (option_and_then (λ m. Some m)) (same_kept s x (set.contains (set_below bound)) (λ v. int_lt v bound) (kept_below s x bound l d)) ∙ by (keep x (λ v. int_lt v bound) s) where
  by : (o : Option Store) → option_and_then (λ m. Some m) o ≡ o
  by None = refl
  by (Some m) = refl

-- ---- what is told

-- the field of the root variable
pub root_field_is : (view : View) (space : List ℕ) (feature : Constant) (root : Value) (x : Ident) → value_of view (root_of space) ≡ Some root → field_of feature root ≡ Some x → root_field view space feature ≡ Some x
root_field_is view space feature root x e f = ap (option_and_then (field_of feature)) e ∙ f

module _ (view : View) (space : List ℕ) (feature : Constant) (xs : List Ident) (s : Store) (cost : ℕ) (h : StandsFor view xs s) (d : AreDomains s) (l : cost < length xs) (e : root_field view space feature ≡ Some (variable_at xs cost)) where
  tells_are : (bound : ℤ) → bound_tells view space feature (Some bound) ≡ interval_news view (variables_at xs (cost ∷ [])) (values_below bound)
  tells_are bound = ap (λ o. interval_news view (option_to_list o) (values_below bound)) e

  pub bound_domains : (u : Option ℤ) → OnlyDomains (bound_tells view space feature u)
  bound_domains None t c = absurd (contains_none t c)
  bound_domains (Some bound) t c = subst OnlyDomains (sym (tells_are bound)) (confined_domains view xs (cost ∷ []) (values_below bound)) t c

  pub bound_told : (u : Option ℤ) → IsTold view xs (bound_tells view space feature u) (below cost u s)
  bound_told None = subst (λ v. StandsFor v xs s) (sym (append-nil view)) h
  bound_told (Some bound) =
      let within : cost < length s = (let f = h.fits in omega (arith, f, l)) in
      subst (λ us. IsTold view xs us (below cost (Some bound) s)) (sym (tells_are bound))
      (subst (IsTold view xs (interval_news view (variables_at xs (cost ∷ [])) (values_below bound))) (told_below s cost bound within d)
      (confined_told view xs s (cost ∷ []) (values_below bound) h d (All-cons (λ x. x < length xs) cost [] l (All-nil (λ x. x < length xs))) (below_values bound)))

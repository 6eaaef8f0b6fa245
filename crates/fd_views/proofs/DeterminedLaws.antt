-- When a variable is determined, and to what.
use Rattle.std.proofs.Common.{◌≡◌, ℕ, pos, ◌<◌, Bool, true, false, if◌then◌else◌, not, ◌||◌, ◌&&◌, List, [], ◌∷◌, length, All, Option, Some, None, is_some, option_map, option_and_then, unwrap_or, refl, sym, ◌∙◌, ap, arith}
use Rattle.std.proofs.lemmas.Int.{ints}
use Rattle.std.proofs.lemmas.List.Elements.{All-head, All-tail}
use Rattle.std.specs.List.{list_any}
use Rattle.std.specs.FinSet as set
use Rattle.oz_base.specs.declared.names.Ident.{Ident}
use Rattle.oz_base.specs.declared.interval.TheConstants.{LEAST_VALUE, GREATEST_VALUE}
use Rattle.oz_domains.specs.Domains.{IntSet, Has, count, is_single, least, only}
use Rattle.oz_domains.specs.Positions.{domain, all_single}
use Rattle.oz_semantics.specs.Values.{integer}
use Rattle.oz_semantics.specs.Store.{value_of, domain_of, is_determined}
use Rattle.oz_semantics.specs.declared.value.Tell.{Tell}
use Rattle.fd_domain.proofs.SetLaws.{with_run-new, count-is}
use Rattle.fd_stores.specs.Stores.{Store, domains_at}
use Rattle.fd_stores.proofs.Sets.{single_value}
use Rattle.fd_views.specs.Views.{variable_at, variables_at, all_values, StandsFor}
use Rattle.fd_views.proofs.ValueLaws.{value_own}
use Rattle.fd_views.proofs.StandLaws.{variable_in}

-- the domain values are several
several : is_single all_values ≡ true → ⊥
several e =
    let all = count-is LEAST_VALUE GREATEST_VALUE (omega (arith, ints)) in
    let zero : Has all_values (pos 0) = with_run-new LEAST_VALUE (count LEAST_VALUE GREATEST_VALUE) set.empty (pos 0) (omega (arith, ints)) (omega (arith, ints)) in
    let one : Has all_values (pos 1) = with_run-new LEAST_VALUE (count LEAST_VALUE GREATEST_VALUE) set.empty (pos 1) (omega (arith, ints)) (omega (arith, ints)) in
    let same : pos 0 ≡ pos 1 = single_value all_values (pos 0) e zero ∙ sym (single_value all_values (pos 1) e one) in
    cc

no_only : only all_values ≡ None
no_only = by (is_single all_values) refl where
  by : (b : Bool) → is_single all_values ≡ b → (if b then Some (least all_values) else None) ≡ None
  by true e = absurd (several e)
  by false e = refl

module _ (ts : List Tell) (xs : List Ident) (s : Store) (h : StandsFor ts xs s) where
  -- the one value of its domain
  pub value_at : (x : ℕ) → x < length xs → value_of ts (variable_at xs x) ≡ option_map integer (only (domain s x))
  value_at x l =
      let v = variable_at xs x in
      let p = h.plain in
      value_own ts v (p.free v (variable_in xs x l)) ∙ by (domain_of ts v) refl where
        by : (o : Option IntSet) → domain_of ts (variable_at xs x) ≡ o → option_map integer (option_and_then only o) ≡ option_map integer (only (domain s x))
        by None e = ap (option_map integer) (sym no_only ∙ ap only (ap (λ o. unwrap_or o all_values) (sym e) ∙ h.told x l))
        by (Some d) e = ap (λ z. option_map integer (only z)) (ap (λ o. unwrap_or o all_values) (sym e) ∙ h.told x l)

  pub determined_at : (x : ℕ) → x < length xs → is_determined ts (variable_at xs x) ≡ is_single (domain s x)
  determined_at x l = ap is_some (value_at x l) ∙ by (is_single (domain s x)) where
    by : (b : Bool) → is_some (option_map integer (if b then Some (least (domain s x)) else None)) ≡ b
    by true = refl
    by false = refl

  pub decided_at : (is : List ℕ) → All (λ x. x < length xs) is → list_any (λ v. not (is_determined ts v)) (variables_at xs is) ≡ not (all_single (domains_at s is))
  decided_at [] a = refl
  decided_at (x ∷ is) a = (λ i. not (determined_at x (All-head (λ y. y < length xs) x is a) i) || decided_at is (All-tail (λ y. y < length xs) x is a) i) ∙ by (is_single (domain s x)) (all_single (domains_at s is)) where
    by : (b c : Bool) → (not b || not c) ≡ not (b && c)
    by true c = refl
    by false c = refl

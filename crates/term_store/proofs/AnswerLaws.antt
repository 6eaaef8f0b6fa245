-- What a store answers.
use Rattle.std.proofs.Common.{ℕ, ℤ, ◌≡◌, ◌∙◌, inl, inr, Bool, true, false, List, [], Option, Some, None, is_some, refl, sym, ap, ap₂, subst, arith}
use Rattle.std.proofs.lemmas.Int.{ints}
use Rattle.std.specs.FinSet as set
use Rattle.std.specs.Option.{option_and_then, option_map}
use Rattle.ident_map.specs.Entries.{entry}
use Rattle.oz_base.specs.IdentLaws.{ident_eq-equal, ident_eq-itself}
use Rattle.oz_base.specs.Lists.{given_or, holds_of}
use Rattle.oz_base.specs.Names.{ident_eq}
use Rattle.oz_base.specs.declared.interval.Interval.{Interval}
use Rattle.oz_base.specs.declared.names.Ident.{Ident}
use Rattle.oz_domains.specs.Domains.{IntSet, Has, single, only, among, is_within}
use Rattle.fd_domain.proofs.SetLaws.{has-empty, with_run-cases, with_run-new}
use Rattle.oz_laws.proofs.DomainLaws.{within-among, among-within}
use Rattle.oz_laws.proofs.SameLaws.{tests_same}
use Rattle.oz_semantics.specs.Store.{same, told_value, told_domain, value_of, domain_of, domain_by, is_consistent}
use Rattle.oz_semantics.specs.Values.{integer, integer_in}
use Rattle.oz_semantics.specs.declared.value.Value.{Value}
use Rattle.oz_semantics.specs.declared.value.Tell.{Tell}
use Rattle.term_store.specs.Classes.{Table, link_of, first_of, domain_of as domain_of_cell, root_in, first_in, domain_in, kept_in, is_free, is_nothing, IsPartition, Likewise}
use Rattle.term_store.specs.Closing.{Going}
use Rattle.term_store.specs.Places.{value_told, value_at, value_place}
use Rattle.term_store.specs.declared.cell.Kept.{Kept}
use Rattle.term_store.proofs.BoundLaws.{left_same, bounded_by, bounded_none}
use Rattle.term_store.proofs.ClassLaws.{top_root, root_same}
use Rattle.term_store.proofs.ClosingLaws.{closing_none, closing_by, whole, one_class, place_is}
use Rattle.term_store.proofs.ConsistencyLaws.{consistent}
use Rattle.term_store.proofs.PlaceLaws.{value_at_place}

-- A new store

pub going_none : (ts : List Tell) (t : Table) → ts ≡ [] → ((x : Ident) → entry t x ≡ None) → Going ts t []
going_none ts t e none =
    subst (λ us. Going us t []) (sym e) (record {
      values = closing_none (root_in t) (first_in t) (λ x. top_root t x (ap link_of (none x))) (λ x. ap first_of (none x));
      bounds = bounded_none (root_in t) (first_in t) (domain_in t) (λ x. ap domain_of_cell (none x));
    })

-- A store of the same classes

pub likewise_going : (ts : List Tell) (t t' : Table) → Going ts t [] → Likewise t t' → Going ts t' []
likewise_going ts t t' c l =
    let firsts = λ (x : Ident). ap (λ (k : Kept). k.first) (l.kept x) in
    let domains = λ (x : Ident). ap (λ (k : Kept). k.domain) (l.kept x) in
    record {
      values = closing_by ts (root_in t) (first_in t) (root_in t') (first_in t') [] (root_same t t' l.links) firsts c.values;
      bounds = bounded_by ts (root_in t) (root_in t') (first_in t) (first_in t') (domain_in t) (domain_in t') (root_same t t' l.links) firsts domains c.bounds;
    }

-- What is answered

module _ (ts : List Tell) (t : Table) (c : Going ts t []) where
  pub store_consistent : is_consistent ts ≡ true
  store_consistent = consistent ts (root_in t) (first_in t) (domain_in t) c.values c.bounds

  pub partition : IsPartition ts t
  partition = record {
    classes = λ x y. (λ s. whole ts (root_in t) (first_in t) c.values ((tests_same ts x y).0 s), λ e. (tests_same ts x y).1 (one_class ts (root_in t) (first_in t) c.values x y e));
    roots = c.values.idem;
  }

  pub same_is : (x y : Ident) → ident_eq (root_in t x) (root_in t y) ≡ same ts x y
  same_is x y = by (ident_eq (root_in t x) (root_in t y)) (same ts x y) refl refl
    where
      by : (a b : Bool) → ident_eq (root_in t x) (root_in t y) ≡ a → same ts x y ≡ b → a ≡ b
      by true true e f = refl
      by false false e f = refl
      by true false e f = sym ((partition.classes x y).1 (ident_eq-equal (root_in t x) (root_in t y) e)) ∙ f
      by false true e f = sym e ∙ ap (ident_eq (root_in t x)) (sym ((partition.classes x y).0 f)) ∙ ident_eq-itself (root_in t x)

  pub place_at : (x : Ident) → first_in t (root_in t x) ≡ value_place ts x
  place_at x = place_is ts (root_in t) (first_in t) c.values x

  pub value_is : (x : Ident) → option_and_then (value_at ts) (value_place ts x) ≡ told_value ts x
  value_is x = value_at_place ts x (value_place ts x) refl

  pub valued_at : (x : Ident) (p : ℕ) → value_place ts x ≡ Some p → (v : Value) × (value_at ts p ≡ Some v)
  valued_at x p e = let k = c.values.firsts (root_in t x) p (c.values.idem x) (place_at x ∙ e) in (k.value, ap value_told k.told)

  pub told_at_place : (x : Ident) (p : ℕ) → value_place ts x ≡ Some p → is_some (told_value ts x) ≡ true
  told_at_place x p e = let v = valued_at x p e in ap is_some (sym (value_is x) ∙ ap (option_and_then (value_at ts)) e ∙ v.1)

  pub domain_is : (x : Ident) → domain_in t (root_in t x) ≡ told_domain ts x
  domain_is x =
      c.bounds.left (root_in t x) (c.values.idem x)
      ∙ left_same (λ y. ident_eq (root_in t y) (root_in t x)) (λ y. same ts y x) ts (λ y. same_is y x)

  -- the value of a class, by what is kept of it
  module _ (x root : Ident) (is_root : root ≡ root_in t x) where
    first_place : first_in t root ≡ value_place ts x
    first_place = ap (first_in t) is_root ∙ place_at x

    pub domain_kept : (domain : Option IntSet) → domain ≡ domain_in t root → domain ≡ told_domain ts x
    domain_kept domain e = e ∙ ap (domain_in t) is_root ∙ domain_is x

    pub value_at_first : (p : ℕ) → first_in t root ≡ Some p → value_at ts p ≡ value_of ts x
    value_at_first p e =
        let at : value_place ts x ≡ Some p = sym first_place ∙ e in
        let v = valued_at x p at in
        let told : told_value ts x ≡ Some v.0 = sym (value_is x) ∙ ap (option_and_then (value_at ts)) at ∙ v.1 in
        v.1 ∙ sym (ap (λ o. given_or o (option_map integer (option_and_then only (told_domain ts x)))) told)

    pub value_only : first_in t root ≡ None → (domain : Option IntSet) → domain ≡ domain_in t root → option_map integer (option_and_then only domain) ≡ value_of ts x
    value_only e domain f =
        let untold : told_value ts x ≡ None = sym (value_is x) ∙ ap (option_and_then (value_at ts)) (sym first_place ∙ e) in
        ap (λ d. option_map integer (option_and_then only d)) (domain_kept domain f)
        ∙ sym (ap (λ o. given_or o (option_map integer (option_and_then only (told_domain ts x)))) untold)

-- Domains of values

has_single : (n m : ℤ) → Has (single n) m → m ≡ n
has_single n m h = elim (with_run-cases n 1 set.empty m h) [
  | inl k ↦ omega (arith, ints, k.0, k.1)
  | inr e ↦ absurd (has-empty m e)
]

single_has : (n : ℤ) → Has (single n) n
single_has n = with_run-new n 1 set.empty n (omega (arith, ints)) (omega (arith, ints))

within_single : (is : List Interval) (n : ℤ) → among is n ≡ is_within is (single n)
within_single is n = by (among is n) (is_within is (single n)) refl refl
  where
    by : (a b : Bool) → among is n ≡ a → is_within is (single n) ≡ b → a ≡ b
    by true true e f = refl
    by false false e f = refl
    by true false e f = sym (among-within is (single n) (λ m h. ap (among is) (has_single n m h) ∙ e)) ∙ f
    by false true e f = sym e ∙ within-among is (single n) f n (single_has n)

pub value_keeps : (ts : List Tell) (x : Ident) (is : List Interval) (v : Value) → told_value ts x ≡ Some v → holds_of (among is) (integer_in v) ≡ holds_of (is_within is) (domain_of ts x)
value_keeps ts x is v e = by (integer_in v) ∙ ap (λ o. holds_of (is_within is) (domain_by o (told_domain ts x))) (sym e)
  where
    by : (o : Option ℤ) → holds_of (among is) o ≡ holds_of (is_within is) (option_map single o)
    by None = refl
    by (Some n) = within_single is n

pub domain_keeps : (ts : List Tell) (x : Ident) (is : List Interval) → told_value ts x ≡ None → holds_of (is_within is) (told_domain ts x) ≡ holds_of (is_within is) (domain_of ts x)
domain_keeps ts x is e = ap (λ o. holds_of (is_within is) (domain_by o (told_domain ts x))) (sym e)

-- What is kept of a class that was found

pub nothing_found : (t : Table) (root : Ident) (first : Option ℕ) (domain : Option IntSet) → first ≡ first_in t root → domain ≡ domain_in t root → is_free first domain ≡ is_nothing (kept_in t root)
nothing_found t root first domain e f = ap₂ is_free e f

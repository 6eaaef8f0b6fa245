-- A domain that a variable is told is a run of the store.
use Rattle.std.proofs.Common.{◌≡◌, inl, inr, ℕ, ◌<◌, ℤ, Bool, true, false, not, List, [], ◌∷◌, ◌++◌, length, Contains, Option, Some, None, IsSomeAnd, unwrap_or, refl, sym, ◌∙◌, ap, subst, arith}
use Rattle.std.proofs.lemmas.Bool.{cases_eq}
use Rattle.std.specs.FinSet as set
use Rattle.oz_base.specs.Lists.{holds_of}
use Rattle.oz_base.specs.declared.names.Ident.{Ident}
use Rattle.oz_base.specs.declared.interval.Interval.{Interval}
use Rattle.oz_domains.specs.Domains.{IntSet, Has, union, among, is_within, least}
use Rattle.oz_domains.specs.Positions.{domain, AreDomains}
use Rattle.oz_domains.specs.Passes.{keep}
use Rattle.oz_semantics.specs.Store.{Same, itself, reversed, IsConsistent, domain_of, common, is_news}
use Rattle.oz_semantics.specs.Values.{is_like}
use Rattle.oz_semantics.specs.declared.value.Tell.{Tell}
use Rattle.oz_semantics.specs.declared.value.Tell.TheVariants.{Is, Within}
use Rattle.oz_laws.proofs.SameLaws.{In}
use Rattle.oz_laws.proofs.AlikeLaws.{alike-refl}
use Rattle.oz_laws.proofs.DomainLaws.{meet-has, has-meet, common-has, has-common, common-some, among-is, within-among}
use Rattle.fd_domain.proofs.SetLaws.{same_members, has_retain-has, has_retain-passes, retain_has}
use Rattle.fd_stores.specs.Stores.{Store}
use Rattle.fd_stores.proofs.Lists.{contains_none, contains_cases}
use Rattle.fd_stores.proofs.StoreLaws.{Kept, keep_some}
use Rattle.fd_views.specs.Views.{variable_at, all_values, AreDomainValues, domain_or_all, IsPlain, StandsFor, IsDomainTell, OnlyDomains}
use Rattle.fd_views.proofs.SameLaws.{at_end, keeps_more}
use Rattle.fd_views.proofs.ValueLaws.{own_sets, domain_own, own_here, own_other, own_in, own_by, met, common_more}
use Rattle.fd_views.proofs.StandLaws.{variable_in, in_variable, variable_once, plain_domains}

-- ---- a view that stands for domains is consistent

-- a domain that was told is the domain
pub domain_told : (ts : List Tell) (xs : List Ident) (s : Store) (x : ℕ) (is : List Interval) → StandsFor ts xs s → x < length xs → Contains ts (Within (variable_at xs x) is) → common (own_sets ts (variable_at xs x)) ≡ Some (domain s x)
domain_told ts xs s x is h l c =
    let v = variable_at xs x in
    let p = h.plain in
    let some = common-some (own_sets ts v) (union is) (own_in ts v is c) in
    let here : unwrap_or (Some some.0) all_values ≡ domain s x = ap (λ o. unwrap_or o all_values) (sym (domain_own ts v (p.free v (variable_in xs x l)) ∙ some.1)) ∙ h.told x l in
    some.1 ∙ ap (λ d. Some d) here

-- what the domain has, each set that was told has
pub domain_among : (ts : List Tell) (xs : List Ident) (s : Store) (x : ℕ) (is : List Interval) (n : ℤ) → StandsFor ts xs s → x < length xs → Contains ts (Within (variable_at xs x) is) → Has (domain s x) n → among is n ≡ true
domain_among ts xs s x is n h l c e =
    among-is is n ∙ common-has (own_sets ts (variable_at xs x)) (domain s x) n (domain_told ts xs s x is h l c) e (union is) (own_in ts (variable_at xs x) is c)

module _ (ts : List Tell) (xs : List Ident) (s : Store) (h : StandsFor ts xs s) (d : AreDomains s) where
  left_over : (x : Ident) (is : List Interval) → Contains ts (Within x is) → (n : ℤ) × ((y : Ident) (js : List Interval) → Same ts x y → Contains ts (Within y js) → among js n ≡ true)
  left_over x is c =
      let p = h.plain in
      let at = in_variable xs x (p.only x is c) in
      let here = d at.0 (let f = h.fits in omega (arith, at.1)) in
      let free = p.free x (p.only x is c) in (
        least (domain s at.0),
        λ y js same k. domain_among ts xs s at.0 js (least (domain s at.0)) h at.1 (subst (λ z. Contains ts (Within z js)) (sym (at.2 ∙ free.apart y same)) k) here.some,
      )

  pub stands_consistent : IsConsistent ts
  stands_consistent = record {
    agree = λ x y v w same c k. (let p = h.plain in subst (λ u. is_like v u ≡ true) (p.one x y v w same c k) (alike-refl v));
    inhabited = left_over;
    inside = λ x y v is same c k. (let p = h.plain in let free = p.free y (p.only y is k) in
        absurd (free.untold v (subst (λ z. Contains ts (Is z v)) (sym (free.apart x (reversed same))) c)));
  }

-- ---- one domain more

met_kept : (o : Option IntSet) (s : IntSet) → AreDomainValues s → met o s ≡ set.retain (unwrap_or o all_values) (set.contains s)
met_kept None s a = same_members s (set.retain all_values (set.contains s)) (λ q e. retain_has all_values (set.contains s) q (a q e) e) (λ q e. has_retain-passes all_values (set.contains s) q e)
met_kept (Some d) s a =
    same_members (set.intersection d s) (set.retain d (set.contains s))
    (λ q e. (let m = meet-has d s q e in retain_has d (set.contains s) q m.0 m.1))
    (λ q e. has-meet d s q (has_retain-has d (set.contains s) q e) (has_retain-passes d (set.contains s) q e))

pub only_one : (v : Ident) (is : List Interval) → OnlyDomains (Within v is ∷ [])
only_one v is t c = elim (contains_cases (Within v is) t [] c) [ inl e ↦ subst IsDomainTell e tt | inr n ↦ absurd (contains_none t n) ]

pub no_some : {A : Type 0} (o : Option A) (P : A → Type 0) → IsSomeAnd o P → o ≡ None → ⊥
no_some None P f g = f
no_some (Some a) P f g = cc

module _ (ts : List Tell) (xs : List Ident) (s : Store) (x : ℕ) (is : List Interval) (h : StandsFor ts xs s) (l : x < length xs) (a : AreDomainValues (union is)) where
  abbrev v : Ident
  v = variable_at xs x

  abbrev told_more : List Tell
  told_more = ts ++ Within v is ∷ []

  inside : x < length s
  inside = (let f = h.fits in omega (arith, l))

  still_plain : IsPlain told_more xs
  still_plain = plain_domains ts (Within v is ∷ []) xs h.plain (only_one v is) (λ y js c. elim (contains_cases (Within v is) (Within y js) [] c) [ inl e ↦ subst (Contains xs) (subject y js e) (variable_in xs x l) | inr n ↦ absurd (contains_none _ n) ]) where
    subject : (y : Ident) (js : List Interval) → Within v is ≡ Within y js → v ≡ y
    subject y js e = cc

  told_here : domain_or_all told_more v ≡ set.retain (domain s x) (set.contains (union is))
  told_here =
      let p = h.plain in
      let c = variable_in xs x l in
      let q = still_plain in
      let before = domain_own ts v (p.free v c) in
      ap (λ o. unwrap_or o all_values) (domain_own told_more v (q.free v c) ∙ ap common (own_here ts v is) ∙ common_more (own_sets ts v) (union is))
      ∙ met_kept (common (own_sets ts v)) (union is) a
      ∙ ap (λ o. set.retain (unwrap_or o all_values) (set.contains (union is))) (sym before)
      ∙ ap (λ d. set.retain d (set.contains (union is))) (h.told x l)

  told_other : (y : ℕ) → y < length xs → (y ≡ x → ⊥) → domain_or_all told_more (variable_at xs y) ≡ domain s y
  told_other y m n =
      let p = h.plain in
      let w = variable_at xs y in
      let c = variable_in xs y m in
      let q = still_plain in
      ap (λ o. unwrap_or o all_values) (domain_own told_more w (q.free w c) ∙ ap common (own_other ts w v is (λ e. n (sym (variable_once xs x y h.once l m e)))) ∙ sym (domain_own ts w (p.free w c))) ∙ h.told y m

  pub told_stands : (m : Store) → Kept x (set.contains (union is)) s m → StandsFor told_more xs m
  told_stands m k = record {
    plain = still_plain;
    once = h.once;
    fits = (let f = h.fits in let e = k.long in omega arith);
    told = λ y j. elim (cases_eq y x) [
      | inl e ↦ subst (λ z. domain_or_all told_more (variable_at xs z) ≡ domain m z) (sym e) (told_here ∙ sym k.here)
      | inr n ↦ told_other y j n ∙ sym (k.others y n)
    ];
    rest = λ y j i. k.others y (λ e. omega (arith, e, l, j)) ∙ h.rest y j (let e = k.long in omega (arith, i));
  }

  -- where nothing is kept, there is no consistent view
  pub told_fails : keep x (set.contains (union is)) s ≡ None → IsConsistent told_more → ⊥
  told_fails e c =
      let n = c.inhabited v is (at_end ts (Within v is)) in
      let q = still_plain in
      let b : among is n.0 ≡ true = n.1 v is itself (at_end ts (Within v is)) in
      let here : Has (union is) n.0 = sym (among-is is n.0) ∙ b in
      let old : Has (domain s x) n.0 = subst (λ d. Has d n.0) (h.told x l) (remains n.0 here (λ js k. n.1 v js itself (keeps_more ts (Within v is ∷ []) (Within v js) k))) in
      no_some (keep x (set.contains (union is)) s) (Kept x (set.contains (union is)) s) (keep_some x (set.contains (union is)) s n.0 inside old here) e where
        remains : (n : ℤ) → Has (union is) n → ((js : List Interval) → Contains ts (Within v js) → among js n ≡ true) → Has (domain_or_all ts v) n
        remains n e f = (let p = h.plain in subst (λ o. Has (unwrap_or o all_values) n) (sym (domain_own ts v (p.free v (variable_in xs x l)))) (by (common (own_sets ts v)) refl)) where
          each : (t : IntSet) → In t (own_sets ts v) → Has t n
          each t i = (let o = own_by ts v t i in subst (λ z. Has z n) o.2 (sym (among-is o.0 n) ∙ f o.0 o.1))

          by : (o : Option IntSet) → common (own_sets ts v) ≡ o → Has (unwrap_or o all_values) n
          by None g = a n e
          by (Some d) g = has-common (own_sets ts v) d n g each

  -- a domain that is no news changes nothing
  held : (o : Option IntSet) → not (holds_of (is_within is) o) ≡ false → is_within is (unwrap_or o all_values) ≡ true
  held None f = cc
  held (Some d) f = flip (is_within is d) f where
    flip : (b : Bool) → not b ≡ false → b ≡ true
    flip true g = refl
    flip false g = cc

  pub within_old : is_news ts (Within v is) ≡ false → (n : ℤ) → Has (domain s x) n → Has (union is) n
  within_old e n f = sym (among-is is n) ∙ within-among is (domain s x) (ap (is_within is) (sym (h.told x l)) ∙ held (domain_of ts v) e) n f

  pub old_stands : (m : Store) → is_news ts (Within v is) ≡ false → Kept x (set.contains (union is)) s m → StandsFor ts xs m
  old_stands m e k = record {
    plain = h.plain;
    once = h.once;
    fits = (let f = h.fits in let g = k.long in omega arith);
    told = λ y j. h.told y j ∙ elim (cases_eq y x) [
      | inl g ↦ subst (λ z. domain s z ≡ domain m z) (sym g) (same ∙ sym k.here)
      | inr n ↦ sym (k.others y n)
    ];
    rest = λ y j i. k.others y (λ g. omega (arith, g, l, j)) ∙ h.rest y j (let g = k.long in omega (arith, i));
  } where
    same : domain s x ≡ set.retain (domain s x) (set.contains (union is))
    same = same_members (domain s x) (set.retain (domain s x) (set.contains (union is)))
        (λ q f. retain_has (domain s x) (set.contains (union is)) q f (within_old e q f))
        (λ q f. has_retain-has (domain s x) (set.contains (union is)) q f)

-- What is posted, and what a distributor does.
use Rattle.std.proofs.Common.{◌≡◌, ◌⊎◌, inl, inr, ℕ, ◌<◌, ℤ, Bool, true, false, not, ◌||◌, if◌then◌else◌, List, [], ◌∷◌, ◌++◌, length, filter, slice_get, Contains, All, Option, Some, None, is_some, option_map, option_and_then, unwrap_or, refl, sym, ◌∙◌, ap, subst, arith}
use Rattle.std.proofs.lemmas.Option.{slice_get-map, slice_get-get_or}
use Rattle.std.proofs.lemmas.List.Elements.{All-contains, All-filter}
use Rattle.std.specs.List.{list_any}
use Rattle.std.specs.FinSet as set
use Rattle.oz_base.specs.Lists.{holds_of}
use Rattle.oz_base.specs.declared.names.Ident.{Ident}
use Rattle.oz_base.specs.declared.interval.Interval.{Interval}
use Rattle.oz_base.specs.declared.distribution.Split.{Split}
use Rattle.oz_domains.specs.Domains.{Has, union, intervals_of, whole, only}
use Rattle.oz_domains.specs.Positions.{domain, AreDomains}
use Rattle.oz_domains.specs.Passes.{keep}
use Rattle.oz_domains.specs.Splits.{passes, split_of}
use Rattle.oz_semantics.specs.Values.{integer, integer_in}
use Rattle.oz_semantics.specs.Store.{domain_of}
use Rattle.oz_semantics.specs.Inputs.{Known, OtherKind}
use Rattle.oz_semantics.specs.Constraints.{confined}
use Rattle.oz_semantics.specs.Distributors.{Finished, is_foreign, is_bare, undetermined, parts_of, splits_at, splits, widens_or, distribution_of}
use Rattle.oz_semantics.specs.Builtins.{interval_news}
use Rattle.oz_semantics.specs.declared.value.Tell.{Tell}
use Rattle.oz_semantics.specs.declared.value.Tell.TheVariants.{Within}
use Rattle.fd_domain.proofs.SetLaws.{same_members, has_retain-has, has_retain-passes, retain_has}
use Rattle.fd_domain.proofs.MemberLaws.{union_intervals}
use Rattle.fd_problems.specs.declared.problem.Distribution.{Distribution}
use Rattle.fd_stores.specs.Stores.{Store, domains_at}
use Rattle.fd_stores.specs.Choices.{choice, split_variable, first_store, second_store}
use Rattle.fd_stores.proofs.Lists.{contains_none, contains_cases, contains_head, contains_tail, contains_map, contains_mapped, at_some}
use Rattle.fd_stores.proofs.StoreLaws.{Kept, keep_kept}
use Rattle.fd_stores.proofs.SplitLaws.{SplitsAt, splits_at as split_at}
use Rattle.fd_views.specs.Views.{variable_at, variables_at, HaveDomains, IsFree, StandsFor, IsDomainTell, OnlyDomains, IsTold}
use Rattle.fd_runs.specs.Offers.{first_tell, second_tell, offer_of, WidensFirst}
use Rattle.fd_views.proofs.ValueLaws.{value_own}
use Rattle.fd_views.proofs.StandLaws.{variable_in}
use Rattle.fd_views.proofs.TellLaws.{told_stands}
use Rattle.fd_views.proofs.NewsLaws.{domain_values}
use Rattle.fd_runs.proofs.RunLaws.{confined_domains, confined_told, whole_told, domain_stays, domain_news, domains_are}

-- ---- what is posted

pub only_confined : (vs : List Ident) (i : Interval) → OnlyDomains (confined vs i)
only_confined vs i t c = (let r = contains_mapped (λ x. Within x (i ∷ [])) vs t c in subst IsDomainTell r.2 tt)

module _ (ts : List Tell) (xs : List Ident) (s : Store) (is : List ℕ) (h : StandsFor ts xs s) (d : AreDomains s) (a : All (λ x. x < length xs) is) where
  abbrev posted : List Tell
  posted = interval_news ts (variables_at xs is) whole

  -- its variables get domains, and the store stays
  pub posted_stands : StandsFor (ts ++ posted) xs s
  posted_stands =
      subst (IsTold ts xs posted) (whole_told is s (λ k e l. (let g = h.fits in let b = a k e l in omega (arith, b))) d) (confined_told ts xs s is whole h d a (λ v e. e))

  pub posted_domains : OnlyDomains posted
  posted_domains = confined_domains ts xs is whole

  is_free : (v : Ident) → Contains (variables_at xs is) v → IsFree ts v
  is_free v c = (let r = contains_mapped (variable_at xs) is v c in let p = h.plain in p.free v (subst (Contains xs) r.2 (variable_in xs r.0 (All-contains (λ x. x < length xs) is r.0 a r.1))))

  pub posted_have : HaveDomains (ts ++ posted) (variables_at xs is)
  posted_have v c = domain_news ts (confined (variables_at xs is) whole) v (whole ∷ []) (is_free v c) (only_confined (variables_at xs is) whole)
      (contains_map (λ x. Within x (whole ∷ [])) (variables_at xs is) v c)

-- ---- a distributor

-- a free variable is determined to an integer alone
not_foreign : (ts : List Tell) (v : Ident) → IsFree ts v → is_foreign ts v ≡ false
not_foreign ts v f = ap (holds_of (λ w. not (is_some (integer_in w)))) (value_own ts v f) ∙ by (option_and_then only (domain_of ts v)) where
  by : (o : Option ℤ) → holds_of (λ w. not (is_some (integer_in w))) (option_map integer o) ≡ false
  by None = refl
  by (Some n) = refl

none_foreign : (ts : List Tell) (vs : List Ident) → ((v : Ident) → Contains vs v → IsFree ts v) → list_any (is_foreign ts) vs ≡ false
none_foreign ts [] f = refl
none_foreign ts (v ∷ vs) f = ap (λ b. b || list_any (is_foreign ts) vs) (not_foreign ts v (f v (contains_head v vs))) ∙ none_foreign ts vs (λ w c. f w (contains_tail v w vs c))

none_bare : (ts : List Tell) (vs : List Ident) → HaveDomains ts vs → filter (is_bare ts) vs ≡ []
none_bare ts [] w = refl
none_bare ts (v ∷ vs) w = ap (λ b. if not b then v ∷ filter (is_bare ts) vs else filter (is_bare ts) vs) (w v (contains_head v vs)) ∙ none_bare ts vs (λ x c. w x (contains_tail v x vs c))

module _ (ts : List Tell) (xs : List Ident) (s : Store) (d : Distribution) (h : StandsFor ts xs s) (k : AreDomains s) (a : All (λ x. x < length xs) d.over) where
  abbrev vars : List Ident
  vars = variables_at xs d.over

  below : All (λ x. x < length s) d.over
  below = λ i e l. (let g = h.fits in let b = a i e l in omega (arith, b))

  vars_free : (v : Ident) → Contains vars v → IsFree ts v
  vars_free v c = is_free ts xs s d.over h k a v c

  known_is : distribution_of ts d.rule vars ≡ Known (widens_or (filter (is_bare ts) vars) (splits ts d.rule vars))
  known_is = ap (λ b. if b then OtherKind else Known (widens_or (filter (is_bare ts) vars) (splits ts d.rule vars))) (none_foreign ts vars vars_free)

  splits_by : (o : Option Split) → choice d s ≡ o → splits_at ts vars (domains_at s d.over) o ≡ offer_of ts xs d s o
  splits_by None e = refl
  splits_by (Some p) e =
      let q = split_at d s p k below e in
      let here : slice_get vars p.var ≡ Some (variable_at xs (split_variable d p)) = slice_get-map (variable_at xs) d.over p.var ∙ ap (option_map (variable_at xs)) (slice_get-get_or d.over p.var 0 q.place) in
      ap (λ o. unwrap_or (option_map (parts_of (undetermined ts vars) p.test (domain (domains_at s d.over) p.var)) o) Finished) here
      ∙ ap (λ e. parts_of (undetermined ts vars) p.test e (variable_at xs (split_variable d p))) q.here

  -- where all have domains, the distributor offers the parts, and finishes where all are determined
  pub offers : HaveDomains ts vars → distribution_of ts d.rule vars ≡ Known (offer_of ts xs d s (choice d s))
  offers w =
      known_is ∙ ap (λ vs. Known (widens_or vs (splits ts d.rule vars))) (none_bare ts vars w)
      ∙ ap (λ ds. Known (splits_at ts vars ds (split_of d.rule ds))) (domains_are ts xs s d.over h a w)
      ∙ ap Known (splits_by (choice d s) refl)

  -- those that have none
  abbrev bare_at : List ℕ → List ℕ
  bare_at is = filter (λ x. is_bare ts (variable_at xs x)) is

  bare_below : (is : List ℕ) → All (λ x. x < length xs) is → All (λ x. x < length xs) (bare_at is)
  bare_below is b = All-filter (λ x. is_bare ts (variable_at xs x)) (λ x. x < length xs) is b

  filtered : (is : List ℕ) → filter (is_bare ts) (variables_at xs is) ≡ variables_at xs (bare_at is)
  filtered [] = refl
  filtered (x ∷ is) = by (is_bare ts (variable_at xs x)) (filtered is) where
    by : (b : Bool) → filter (is_bare ts) (variables_at xs is) ≡ variables_at xs (bare_at is) → (if b then variable_at xs x ∷ filter (is_bare ts) (variables_at xs is) else filter (is_bare ts) (variables_at xs is)) ≡ variables_at xs (if b then x ∷ bare_at is else bare_at is)
    by true e = ap (λ vs. variable_at xs x ∷ vs) e
    by false e = e

  -- a variable has a domain, or is among them
  bare_or : (is : List ℕ) (v : Ident) → Contains (variables_at xs is) v → (is_some (domain_of ts v) ≡ true) ⊎ Contains (variables_at xs (bare_at is)) v
  bare_or [] v c = absurd (contains_none v c)
  bare_or (x ∷ is) v c = by (is_some (domain_of ts (variable_at xs x))) refl (contains_cases (variable_at xs x) v (variables_at xs is) c) (bare_or is v) where
    by : (b : Bool) → is_some (domain_of ts (variable_at xs x)) ≡ b → (variable_at xs x ≡ v) ⊎ Contains (variables_at xs is) v → (Contains (variables_at xs is) v → (is_some (domain_of ts v) ≡ true) ⊎ Contains (variables_at xs (bare_at is)) v)
        → (is_some (domain_of ts v) ≡ true) ⊎ Contains (variables_at xs (if not b then x ∷ bare_at is else bare_at is)) v
    by true e (inl f) again = inl (ap (λ w. is_some (domain_of ts w)) (sym f) ∙ e)
    by true e (inr i) again = again i
    by false e (inl f) again = inr (subst (Contains (variables_at xs (x ∷ bare_at is))) f (contains_head (variable_at xs x) (variables_at xs (bare_at is))))
    by false e (inr i) again = elim (again i) [ inl g ↦ inl g | inr g ↦ inr (contains_tail (variable_at xs x) v (variables_at xs (bare_at is)) g) ]

  widening : (x : ℕ) (is : List ℕ) → bare_at d.over ≡ x ∷ is → WidensFirst ts xs s d
  widening x is e =
      let all : All (λ y. y < length xs) (x ∷ is) = subst (All (λ y. y < length xs)) e (bare_below d.over a) in
      let only = posted_domains ts xs s (x ∷ is) h k all in
      record {
        bare = x ∷ is;
        widens = known_is ∙ ap (λ vs. Known (widens_or vs (splits ts d.rule vars))) (filtered d.over ∙ ap (variables_at xs) e);
        stays = posted_stands ts xs s (x ∷ is) h k all;
        only = only;
        have = λ v c. elim (bare_or d.over v c) [
          | inl g ↦ domain_stays ts (interval_news ts (variables_at xs (x ∷ is)) whole) v (vars_free v c) only g
          | inr g ↦ posted_have ts xs s (x ∷ is) h k all v (subst (λ js. Contains (variables_at xs js) v) e g)
        ];
      }

  none_left : bare_at d.over ≡ [] → HaveDomains ts vars
  none_left e v c = elim (bare_or d.over v c) [ inl g ↦ g | inr g ↦ absurd (contains_none v (subst (λ js. Contains (variables_at xs js) v) e g)) ]

  pub widens_first : HaveDomains ts vars ⊎ WidensFirst ts xs s d
  widens_first = by (bare_at d.over) refl where
    by : (js : List ℕ) → bare_at d.over ≡ js → HaveDomains ts vars ⊎ WidensFirst ts xs s d
    by [] e = inl (none_left e)
    by (x ∷ is) e = inr (widening x is e)

-- ---- the parts

-- what is told of one alternative is its store
part_stands : (ts : List Tell) (xs : List Ident) (s m : Store) (x : ℕ) (test : ℤ → Bool) → StandsFor ts xs s → AreDomains s → x < length xs → Kept x test s m
    → StandsFor (ts ++ Within (variable_at xs x) (intervals_of (set.retain (domain s x) test)) ∷ []) xs m
part_stands ts xs s m x test h d l k =
    let part = set.retain (domain s x) test in
    let is = intervals_of part in
    let same : union is ≡ part = union_intervals part in
    told_stands ts xs s x is h l (λ v e. domain_values (domain s x) (d x (let f = h.fits in omega (arith, l))) v (has_retain-has (domain s x) test v (subst (λ z. Has z v) same e))) m
    (record {
      long = k.long;
      here = k.here ∙ same_members part (set.retain (domain s x) (set.contains (union is)))
          (λ q e. retain_has (domain s x) (set.contains (union is)) q (has_retain-has (domain s x) test q e) (subst (λ z. Has z q) (sym same) e))
          (λ q e. subst (λ z. Has z q) same (has_retain-passes (domain s x) (set.contains (union is)) q e));
      others = k.others;
      some = k.some;
    })

module _ (ts : List Tell) (xs : List Ident) (s m : Store) (d : Distribution) (p : Split) (h : StandsFor ts xs s) (k : AreDomains s) (a : All (λ x. x < length xs) d.over) (e : choice d s ≡ Some p) where
  abbrev split_at_all : SplitsAt d s p
  split_at_all = split_at d s p k (λ i f l. (let g = h.fits in let b = a i f l in omega (arith, b))) e

  within_variables : split_variable d p < length xs
  within_variables = a p.var 0 (let q = split_at_all in q.place)

  pub first_stands : first_store d p s ≡ Some m → StandsFor (ts ++ first_tell xs d s p ∷ []) xs m
  first_stands f =
      let x = split_variable d p in
      part_stands ts xs s m x (passes p.test) h k within_variables (at_some (keep x (passes p.test) s) m (Kept x (passes p.test) s) (keep_kept x (passes p.test) s (let q = split_at_all in q.inside)) f)

  pub second_stands : second_store d p s ≡ Some m → StandsFor (ts ++ second_tell xs d s p ∷ []) xs m
  second_stands f =
      let x = split_variable d p in
      let test : ℤ → Bool = λ v. not (passes p.test v) in
      part_stands ts xs s m x test h k within_variables (at_some (keep x test s) m (Kept x test s) (keep_kept x test s (let q = split_at_all in q.inside)) f)

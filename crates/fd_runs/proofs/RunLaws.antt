-- A run of a propagator is a run of the store; and what is posted first.
use Rattle.std.proofs.Common.{◌≡◌, ◌⊎◌, inl, inr, ℕ, suc, ◌<◌, ◌≤◌, ℤ, Bool, true, false, not, ◌==◌, if◌then◌else◌, List, [], ◌∷◌, ◌++◌, length, map, zip, set as put, Contains, All, Option, Some, None, is_some, IfSome, option_and_then, unwrap_or, refl, sym, ◌∙◌, ap, subst, arith}
use Rattle.std.proofs.lemmas.List.{append_assoc, set-get_or, get_or_past}
use Rattle.std.proofs.lemmas.List.Elements.{All-head, All-tail, All-nil, All-cons, filter_map-append}
use Rattle.std.specs.FinSet as set
use Rattle.oz_base.specs.Lists.{holds_of}
use Rattle.oz_base.specs.Names.{ident_eq}
use Rattle.oz_base.specs.declared.names.Ident.{Ident}
use Rattle.oz_base.specs.declared.interval.Interval.{Interval}
use Rattle.oz_base.specs.declared.relation.Relation.{Relation}
use Rattle.oz_domains.specs.Domains.{IntSet, Has, union, is_within, intervals_of, between, whole, least}
use Rattle.oz_domains.specs.Positions.{domain, AreParts, AreDomains}
use Rattle.oz_domains.specs.Relations.{Fits}
use Rattle.oz_domains.specs.Passes.{keep, pass}
use Rattle.oz_semantics.specs.Store.{is_consistent, domain_of, set_given, common, is_news, news}
use Rattle.oz_semantics.specs.Constraints.{confined}
use Rattle.oz_semantics.specs.Propagation.{domain_in, Fails, Narrows, narrowed, if_consistent, after_pass, run_of}
use Rattle.oz_semantics.specs.Builtins.{interval_news}
use Rattle.oz_semantics.specs.declared.value.Tell.{Tell}
use Rattle.oz_semantics.specs.declared.value.Tell.TheVariants.{Within}
use Rattle.oz_semantics.specs.declared.configuration.LastRun.{LastRun}
use Rattle.oz_laws.proofs.StoreLaws.{tests_consistent}
use Rattle.fd_domain.proofs.SetLaws.{same_members, has_retain-has, retain_has, has-empty}
use Rattle.fd_domain.proofs.MemberLaws.{union_intervals}
use Rattle.propagators.proofs.StepLaws.{has_not_empty}
use Rattle.fd_stores.specs.Stores.{Store, Posted, domains_at, told, run}
use Rattle.fd_stores.proofs.Lists.{contains_none, contains_cases, contains_head, contains_tail}
use Rattle.fd_stores.proofs.StoreLaws.{ToldTo, told_to, told_fits, positions_domains}
use Rattle.fd_views.specs.Views.{variable_at, variables_at, all_values, AreDomainValues, HaveDomains, IsFree, StandsFor, IsDomainTell, OnlyDomains, IsTold}
use Rattle.fd_runs.specs.Runs.{RunsTo, each_between}
use Rattle.fd_views.proofs.ValueLaws.{own_sets, domain_own, own_here, common_more}
use Rattle.fd_views.proofs.StandLaws.{free_domains}
use Rattle.fd_views.proofs.TellLaws.{stands_consistent, only_one}
use Rattle.fd_views.proofs.NewsLaws.{Place, tells_at, places_of, sets_of, IsPlace, domain_values, news_domains, tells_domains, all_told}

-- ---- several positions and their domains

-- each position with the intervals of its domain
abbrev with_intervals : List ℕ → List IntSet → List Place
with_intervals is ds = zip is (map intervals_of ds)

narrowed_is : (xs : List Ident) (is : List ℕ) (ds : List IntSet) → narrowed (variables_at xs is) ds ≡ tells_at xs (with_intervals is ds)
narrowed_is xs [] ds = refl
narrowed_is xs (x ∷ is) [] = refl
narrowed_is xs (x ∷ is) (d ∷ ds) = ap (λ ts. Within (variable_at xs x) (intervals_of d) ∷ ts) (narrowed_is xs is ds)

told_is : (is : List ℕ) (ds : List IntSet) (s : Store) → told (places_of (with_intervals is ds)) (sets_of (with_intervals is ds)) s ≡ told is ds s
unfolding told
told_is [] ds s = refl
told_is (x ∷ is) [] s = refl
told_is (x ∷ is) (d ∷ ds) s =
    (λ i. option_and_then (λ m. told_is is ds m i) (keep x (set.contains (union (intervals_of d))) s)) ∙ ap (λ z. option_and_then (told is ds) (keep x (set.contains z) s)) (union_intervals d)

places_are : (xs : List Ident) (is : List ℕ) (ds : List IntSet) → All (λ x. x < length xs) is → ((i : ℕ) → AreDomainValues (domain ds i)) → All (IsPlace xs) (with_intervals is ds)
places_are xs [] ds a v = All-nil (IsPlace xs)
places_are xs (x ∷ is) [] a v = All-nil (IsPlace xs)
places_are xs (x ∷ is) (d ∷ ds) a v =
    All-cons (IsPlace xs) (x, intervals_of d) (with_intervals is ds) (All-head (λ y. y < length xs) x is a, λ n h. v 0 n (subst (λ z. Has z n) (union_intervals d) h))
    (places_are xs is ds (All-tail (λ y. y < length xs) x is a) (λ i. v (suc i)))

-- what is told of them
pub narrowed_told : (ts : List Tell) (xs : List Ident) (s : Store) (is : List ℕ) (ds : List IntSet) → StandsFor ts xs s → AreDomains s → All (λ x. x < length xs) is → ((i : ℕ) → AreDomainValues (domain ds i))
    → OnlyDomains (news ts (narrowed (variables_at xs is) ds)) × IsTold ts xs (news ts (narrowed (variables_at xs is) ds)) (told is ds s)
narrowed_told ts xs s is ds h d a v =
    let ps = with_intervals is ds in
    let e = narrowed_is xs is ds in (
      subst (λ us. OnlyDomains (news ts us)) (sym e) (news_domains ts (tells_at xs ps) (tells_domains xs ps)),
      subst (λ us. IsTold ts xs (news ts us) (told is ds s)) (sym e) (subst (IsTold ts xs (news ts (tells_at xs ps))) (told_is is ds s) (all_told ts xs s ps h d (places_are xs is ds a v))),
    )

-- ---- one interval for all

abbrev with_interval : Interval → List ℕ → List Place
with_interval i is = map (λ x. (x, i ∷ [])) is

confined_is : (xs : List Ident) (is : List ℕ) (i : Interval) → confined (variables_at xs is) i ≡ tells_at xs (with_interval i is)
confined_is xs [] i = refl
confined_is xs (x ∷ is) i = ap (λ ts. Within (variable_at xs x) (i ∷ []) ∷ ts) (confined_is xs is i)

confined_sets : (is : List ℕ) (i : Interval) (s : Store) → told (places_of (with_interval i is)) (sets_of (with_interval i is)) s ≡ told is (each_between i is) s
unfolding told
confined_sets [] i s = refl
confined_sets (x ∷ is) i s = λ j. option_and_then (λ m. confined_sets is i m j) (keep x (set.contains (between i.low i.high)) s)

intervals_are : (xs : List Ident) (is : List ℕ) (i : Interval) → All (λ x. x < length xs) is → AreDomainValues (between i.low i.high) → All (IsPlace xs) (with_interval i is)
intervals_are xs [] i a v = All-nil (IsPlace xs)
intervals_are xs (x ∷ is) i a v = All-cons (IsPlace xs) (x, i ∷ []) (with_interval i is) (All-head (λ y. y < length xs) x is a, v) (intervals_are xs is i (All-tail (λ y. y < length xs) x is a) v)

pub confined_domains : (ts : List Tell) (xs : List Ident) (is : List ℕ) (i : Interval) → OnlyDomains (interval_news ts (variables_at xs is) i)
confined_domains ts xs is i = subst (λ us. OnlyDomains (news ts us)) (sym (confined_is xs is i)) (news_domains ts (tells_at xs (with_interval i is)) (tells_domains xs (with_interval i is)))

pub confined_told : (ts : List Tell) (xs : List Ident) (s : Store) (is : List ℕ) (i : Interval) → StandsFor ts xs s → AreDomains s → All (λ x. x < length xs) is → AreDomainValues (between i.low i.high)
    → IsTold ts xs (interval_news ts (variables_at xs is) i) (told is (each_between i is) s)
confined_told ts xs s is i h d a v =
    subst (λ us. IsTold ts xs (news ts us) (told is (each_between i is) s)) (sym (confined_is xs is i))
    (subst (IsTold ts xs (news ts (tells_at xs (with_interval i is)))) (confined_sets is i s) (all_told ts xs s (with_interval i is) h d (intervals_are xs is i a v)))

-- ---- a set that has all values of a domain, which changes nothing

pub all_kept : (s : Store) (x : ℕ) (v : IntSet) → x < length s → AreDomains s → ((q : ℤ) → Has (domain s x) q → Has v q) → keep x (set.contains v) s ≡ Some s
unfolding keep
all_kept s x v l d h =
    let here = d x l in
    let same : set.retain (domain s x) (set.contains v) ≡ domain s x =
    same_members (set.retain (domain s x) (set.contains v)) (domain s x) (λ q e. has_retain-has (domain s x) (set.contains v) q e) (λ q e. retain_has (domain s x) (set.contains v) q e (h q e)) in
    ap (λ (k : IntSet). if set.len k == 0 then None else Some (put s x k)) same ∙ by (set.len (domain s x) == 0) refl (has_not_empty (domain s x) (least (domain s x)) here.some) where
      by : (b : Bool) → (set.len (domain s x) == 0) ≡ b → ((set.len (domain s x) == 0) ≡ true → ⊥) → ◌≡◌ {A = Option Store} (if b then None else Some (put s x (domain s x))) (Some s)
      by true e n = absurd (n e)
      by false e n = ap (λ m. Some m) (set-get_or s x set.empty)

whole_kept : (s : Store) (x : ℕ) → x < length s → AreDomains s → keep x (set.contains all_values) s ≡ Some s
whole_kept s x l d = all_kept s x all_values l d (domain_values (domain s x) (d x l))

pub whole_told : (is : List ℕ) (s : Store) → All (λ x. x < length s) is → AreDomains s → told is (each_between whole is) s ≡ Some s
unfolding told
whole_told [] s a d = refl
whole_told (x ∷ is) s a d = ap (option_and_then (told is (each_between whole is))) (whole_kept s x (All-head (λ y. y < length s) x is a) d) ∙ whole_told is s (All-tail (λ y. y < length s) x is a) d

-- ---- who has a domain then

some_common : (ss us : List IntSet) → is_some (common ss) ≡ true → is_some (common (ss ++ us)) ≡ true
some_common [] us e = cc
some_common (s ∷ ss) us e = refl

pub domain_stays : (ts more : List Tell) (x : Ident) → IsFree ts x → OnlyDomains more → is_some (domain_of ts x) ≡ true → is_some (domain_of (ts ++ more) x) ≡ true
domain_stays ts more x f o e =
    ap is_some (domain_own (ts ++ more) x (free_domains ts more x o f) ∙ ap common (filter_map-append (set_given (λ y. ident_eq y x)) ts more))
    ∙ some_common (own_sets ts x) (own_sets more x) (ap is_some (sym (domain_own ts x f)) ∙ e)

domain_new : (ts : List Tell) (x : Ident) (is : List Interval) → IsFree ts x → is_some (domain_of (ts ++ Within x is ∷ []) x) ≡ true
domain_new ts x is f =
    ap is_some (domain_own (ts ++ Within x is ∷ []) x (free_domains ts (Within x is ∷ []) x (only_one x is) f) ∙ ap common (own_here ts x is) ∙ common_more (own_sets ts x) (union is))

old_some : (is : List Interval) (o : Option IntSet) → not (holds_of (is_within is) o) ≡ false → is_some o ≡ true
old_some is None e = cc
old_some is (Some d) e = refl

after_one : (ts : List Tell) (t : Tell) (us : List Tell) → ts ++ (t ∷ us) ≡ (ts ++ t ∷ []) ++ us
after_one ts t us = sym (append_assoc ts (t ∷ []) us)

pub domain_news : (ts us : List Tell) (x : Ident) (is : List Interval) → IsFree ts x → OnlyDomains us → Contains us (Within x is) → is_some (domain_of (ts ++ news ts us) x) ≡ true
domain_news ts [] x is f o c = absurd (contains_none (Within x is) c)
domain_news ts (u ∷ us) x is f o c = by (is_news ts u) refl (contains_cases u (Within x is) us c) (λ vs g d. domain_news vs us x is g rest d) where
  rest : OnlyDomains us
  rest w d = o w (contains_tail u w us d)

  one : OnlyDomains (u ∷ [])
  one w d = elim (contains_cases u w [] d) [ inl e ↦ subst IsDomainTell e (o u (contains_head u us)) | inr n ↦ absurd (contains_none w n) ]

  by : (b : Bool) → is_news ts u ≡ b → (u ≡ Within x is) ⊎ Contains us (Within x is) → ((vs : List Tell) → IsFree vs x → Contains us (Within x is) → is_some (domain_of (vs ++ news vs us) x) ≡ true)
      → is_some (domain_of (ts ++ (if b then u ∷ news (ts ++ u ∷ []) us else news ts us)) x) ≡ true
  by true e (inl h) again = subst (λ vs. is_some (domain_of vs x) ≡ true) (sym (after_one ts u (news (ts ++ u ∷ []) us)))
      (domain_stays (ts ++ u ∷ []) (news (ts ++ u ∷ []) us) x (free_domains ts (u ∷ []) x one f) (news_domains (ts ++ u ∷ []) us rest) (subst (λ t. is_some (domain_of (ts ++ t ∷ []) x) ≡ true) (sym h) (domain_new ts x is f)))
  by true e (inr d) again = subst (λ vs. is_some (domain_of vs x) ≡ true) (sym (after_one ts u (news (ts ++ u ∷ []) us))) (again (ts ++ u ∷ []) (free_domains ts (u ∷ []) x one f) d)
  by false e (inl h) again = domain_stays ts (news ts us) x f (news_domains ts us rest) (old_some is (domain_of ts x) (subst (λ t. is_news ts t ≡ false) h e))
  by false e (inr d) again = again ts f d

-- ---- a run

pub some_is : {A : Type 0} (o : Option A) → is_some o ≡ true → (a : A) × (o ≡ Some a)
some_is None e = cc
some_is (Some a) e = (a, refl)

-- the domains of the positions
pub domains_are : (ts : List Tell) (xs : List Ident) (s : Store) (is : List ℕ) → StandsFor ts xs s → All (λ x. x < length xs) is → HaveDomains ts (variables_at xs is) → map (domain_in ts) (variables_at xs is) ≡ domains_at s is
domains_are ts xs s [] h a w = refl
domains_are ts xs s (x ∷ is) h a w =
    let v = variable_at xs x in
    let some = some_is (domain_of ts v) (w v (contains_head v (variables_at xs is))) in
    let here : domain_in ts v ≡ domain s x = ap (λ o. unwrap_or o set.empty) some.1 ∙ ap (λ o. unwrap_or o all_values) (sym some.1) ∙ h.told x (All-head (λ y. y < length xs) x is a) in
    let others = domains_are ts xs s is h (All-tail (λ y. y < length xs) x is a) (λ y c. w y (contains_tail v y (variables_at xs is) c)) in
    λ i. here i ∷ others i

-- each position of some domains has domain values alone
values_at_all : (ds : List IntSet) → AreDomains ds → (i : ℕ) → AreDomainValues (domain ds i)
values_at_all ds d i n h = elim (at i (length ds)) [
  | inl l ↦ domain_values (domain ds i) (d i l) n h
  | inr g ↦ absurd (has-empty n (subst (λ z. Has z n) (get_or_past ds i set.empty g) h))
] where
  at : (i n : ℕ) → (i < n) ⊎ (n ≤ i)
  at i n = grind arith

module _ (ts : List Tell) (xs : List Ident) (s : Store) (r : Relation) (is : List ℕ) (last : LastRun) (h : StandsFor ts xs s) (d : AreDomains s) (f : Fits r (length is)) (a : All (λ x. x < length xs) is) (w : HaveDomains ts (variables_at xs is)) where
  abbrev below : All (λ x. x < length s) is
  below = λ k e l. (let g = h.fits in let b = a k e l in omega (arith, b))

  consistent_if : (us : List Tell) (b : Bool) → is_consistent (ts ++ us) ≡ b → (if b then Narrows us else Fails) ≡ if_consistent ts us
  consistent_if us b e = ap (λ c. if c then Narrows us else Fails) (sym e)

  abbrev told_of : List IntSet → List Tell
  told_of ds = news ts (narrowed (variables_at xs is) ds)

  told_to_run : (ds : List IntSet) (o : Option Store) → OnlyDomains (told_of ds) × IsTold ts xs (told_of ds) o → IfSome o (ToldTo is ds s) → RunsTo ts xs o (if_consistent ts (told_of ds))
  told_to_run ds None k g = sym (consistent_if (told_of ds) false k.1)
  told_to_run ds (Some m) k g = (told_of ds, sym (consistent_if (told_of ds) true ((tests_consistent (ts ++ told_of ds)).1 (stands_consistent (ts ++ told_of ds) xs m k.1 g.domains))), k.0, k.1)

  passed : (ds : List IntSet) → AreParts ds (domains_at s is) → RunsTo ts xs (told is ds s) (after_pass ts (variables_at xs is) (Some ds))
  passed ds p =
      told_to_run ds (told is ds s) (narrowed_told ts xs s is ds h d a (λ i n e. values_at_all (domains_at s is) (positions_domains s is below d) i n (p.each i n e))) (told_to is ds s below d)

  by_pass : (o : Option (List IntSet)) → IfSome o (λ new. AreParts new (domains_at s is)) → RunsTo ts xs (option_and_then (λ ds. told is ds s) o) (after_pass ts (variables_at xs is) o)
  by_pass None k = refl
  by_pass (Some ds) k = passed ds k

  pub runs_to : RunsTo ts xs (run (Posted r is) s) (run_of ts (record { relation = r; variables = variables_at xs is; last = last }))
  runs_to =
      subst (λ ds. RunsTo ts xs (run (Posted r is) s) (after_pass ts (variables_at xs is) (pass r ds))) (sym (domains_are ts xs s is h a w)) (by_pass (pass r (domains_at s is)) (told_fits r is s f))

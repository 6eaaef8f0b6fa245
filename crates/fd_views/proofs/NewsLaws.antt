-- Several domains that are told are runs of the store, one after another.
use Rattle.std.proofs.Common.{◌≡◌, inl, inr, ℕ, ◌<◌, Bool, true, false, if◌then◌else◌, List, [], ◌∷◌, ◌++◌, length, map, Contains, All, Option, Some, None, IfSome, option_and_then, refl, sym, ◌∙◌, ap, subst, arith}
use Rattle.std.proofs.lemmas.Int.{ints}
use Rattle.std.proofs.lemmas.List.{append-nil, append_assoc}
use Rattle.std.proofs.lemmas.List.Elements.{All-head, All-tail}
use Rattle.std.specs.FinSet as set
use Rattle.oz_base.specs.declared.names.Ident.{Ident}
use Rattle.oz_base.specs.declared.interval.Interval.{Interval}
use Rattle.oz_base.specs.declared.interval.TheConstants.{LEAST_VALUE, GREATEST_VALUE}
use Rattle.oz_domains.specs.Domains.{IntSet, union, count, least, IsDomain}
use Rattle.oz_domains.specs.Positions.{domain, AreDomains}
use Rattle.oz_domains.specs.Passes.{keep}
use Rattle.oz_semantics.specs.Store.{IsConsistent, is_consistent, is_news, news}
use Rattle.oz_semantics.specs.declared.value.Tell.{Tell}
use Rattle.oz_semantics.specs.declared.value.Tell.TheVariants.{Within}
use Rattle.oz_laws.proofs.StoreLaws.{tests_consistent}
use Rattle.fd_domain.proofs.SetLaws.{with_run-new, count-is, least-below, greatest-above}
use Rattle.fd_stores.specs.Stores.{Store, told}
use Rattle.fd_stores.proofs.Lists.{contains_none, contains_cases, contains_head, contains_tail}
use Rattle.fd_stores.proofs.StoreLaws.{Kept, keep_kept, keep_some, kept_domains}
use Rattle.view_laws.proofs.EqualLaws.{consistent_less}
use Rattle.fd_views.specs.Views.{variable_at, AreDomainValues, StandsFor, IsDomainTell, OnlyDomains, IsTold}
use Rattle.fd_views.proofs.SameLaws.{keeps_more}
use Rattle.fd_views.proofs.TellLaws.{no_some, told_stands, told_fails, within_old, old_stands}

-- ---- domain values

pub domain_values : (s : IntSet) → IsDomain s → AreDomainValues s
domain_values s d v h =
    let a = least-below s v h in
    let b = greatest-above s v h in
    let c = d.low in
    let e = d.high in
    let all = count-is LEAST_VALUE GREATEST_VALUE (omega (arith, ints)) in
    with_run-new LEAST_VALUE (count LEAST_VALUE GREATEST_VALUE) set.empty v (omega (arith, ints)) (omega (arith, ints))

-- ---- lists of domains

-- a variable by its place, and what it is told
abbrev pub Place : Type 0
Place = ℕ × List Interval

abbrev pub tells_at : List Ident → List Place → List Tell
tells_at xs ps = map (λ (p : Place). Within (variable_at xs p.0) p.1) ps

abbrev pub places_of : List Place → List ℕ
places_of ps = map (λ (p : Place). p.0) ps

abbrev pub sets_of : List Place → List IntSet
sets_of ps = map (λ (p : Place). union p.1) ps

abbrev pub IsPlace : List Ident → Place → Type 0
IsPlace xs p = (p.0 < length xs) × AreDomainValues (union p.1)

pub news_domains : (ts us : List Tell) → OnlyDomains us → OnlyDomains (news ts us)
news_domains ts [] h t c = absurd (contains_none t c)
news_domains ts (u ∷ us) h t c = by (is_news ts u) (λ vs. news_domains vs us (λ w d. h w (contains_tail u w us d)) t) c where
  by : (b : Bool) → ((vs : List Tell) → Contains (news vs us) t → IsDomainTell t) → Contains (if b then u ∷ news (ts ++ u ∷ []) us else news ts us) t → IsDomainTell t
  by true again d = elim (contains_cases u t (news (ts ++ u ∷ []) us) d) [ inl e ↦ subst IsDomainTell e (h u (contains_head u us)) | inr e ↦ again (ts ++ u ∷ []) e ]
  by false again d = again ts d

pub tells_domains : (xs : List Ident) (ps : List Place) → OnlyDomains (tells_at xs ps)
tells_domains xs [] t c = absurd (contains_none t c)
tells_domains xs (p ∷ ps) t c = elim (contains_cases (Within (variable_at xs p.0) p.1) t (tells_at xs ps) c) [ inl e ↦ subst IsDomainTell e tt | inr k ↦ tells_domains xs ps t k ]

-- ---- what they come to

after_one : (ts : List Tell) (t : Tell) (us : List Tell) → ts ++ (t ∷ us) ≡ (ts ++ t ∷ []) ++ us
after_one ts t us = sym (append_assoc ts (t ∷ []) us)

not_consistent : (ts : List Tell) → (IsConsistent ts → ⊥) → is_consistent ts ≡ false
not_consistent ts h = by (is_consistent ts) refl where
  by : (b : Bool) → is_consistent ts ≡ b → b ≡ false
  by true e = absurd (h ((tests_consistent ts).0 e))
  by false e = refl

-- the first of them, and then the others
module _ (xs : List Ident) (p : Place) (ps : List Place) (q : IsPlace xs p) where
  abbrev first_tell : Tell
  first_tell = Within (variable_at xs p.0) p.1

  abbrev others : List Tell
  others = tells_at xs ps

  abbrev Again : Type 0
  Again = (ts : List Tell) (s : Store) → StandsFor ts xs s → AreDomains s → IsTold ts xs (news ts others) (told (places_of ps) (sets_of ps) s)

  moved : (ts us : List Tell) (o : Option Store) → IsTold (ts ++ first_tell ∷ []) xs us o → IsTold ts xs (first_tell ∷ us) o
  moved ts us None h = ap is_consistent (after_one ts first_tell us) ∙ h
  moved ts us (Some m) h = subst (λ vs. StandsFor vs xs m) (sym (after_one ts first_tell us)) h

  module _ (ts : List Tell) (s : Store) (h : StandsFor ts xs s) (d : AreDomains s) (again : Again) where
    place_inside : p.0 < length s
    place_inside = (let f = h.fits in omega (arith, q.0))

    abbrev Cut : Store → Type 0
    Cut m = Kept p.0 (set.contains (union p.1)) s m

    -- what is no news keeps something
    none_kept : keep p.0 (set.contains (union p.1)) s ≡ None → is_news ts first_tell ≡ false → ⊥
    none_kept e n = (let some = d p.0 place_inside in
        no_some (keep p.0 (set.contains (union p.1)) s) Cut (keep_some p.0 (set.contains (union p.1)) s (least (domain s p.0)) place_inside some.some (within_old ts xs s p.0 p.1 h q.0 q.1 n (least (domain s p.0)) some.some)) e)

    by_news : (o : Option Store) → keep p.0 (set.contains (union p.1)) s ≡ o → IfSome o Cut → (b : Bool) → is_news ts first_tell ≡ b
        → IsTold ts xs (if b then first_tell ∷ news (ts ++ first_tell ∷ []) others else news ts others) (option_and_then (told (places_of ps) (sets_of ps)) o)
    by_news None e k true n =
        not_consistent (ts ++ first_tell ∷ news (ts ++ first_tell ∷ []) others)
        (λ c. told_fails ts xs s p.0 p.1 h q.0 q.1 e (consistent_less (ts ++ first_tell ∷ []) (ts ++ first_tell ∷ news (ts ++ first_tell ∷ []) others)
        (λ t i. subst (λ us. Contains us t) (sym (after_one ts first_tell (news (ts ++ first_tell ∷ []) others))) (keeps_more (ts ++ first_tell ∷ []) (news (ts ++ first_tell ∷ []) others) t i)) c))
    by_news None e k false n = absurd (none_kept e n)
    by_news (Some m) e k true n = moved ts (news (ts ++ first_tell ∷ []) others) (told (places_of ps) (sets_of ps) m)
        (again (ts ++ first_tell ∷ []) m (told_stands ts xs s p.0 p.1 h q.0 q.1 m k) (kept_domains p.0 (set.contains (union p.1)) s m place_inside k d))
    by_news (Some m) e k false n = again ts m (old_stands ts xs s p.0 p.1 h q.0 q.1 m n k) (kept_domains p.0 (set.contains (union p.1)) s m place_inside k d)

pub all_told : (ts : List Tell) (xs : List Ident) (s : Store) (ps : List Place) → StandsFor ts xs s → AreDomains s → All (IsPlace xs) ps → IsTold ts xs (news ts (tells_at xs ps)) (told (places_of ps) (sets_of ps) s)
unfolding told
all_told ts xs s [] h d a = subst (λ us. StandsFor us xs s) (sym (append-nil ts)) h
all_told ts xs s (p ∷ ps) h d a =
    let here = All-head (IsPlace xs) p ps a in
    let rest = All-tail (IsPlace xs) p ps a in
    by_news xs p ps here ts s h d (λ us m g e. all_told us xs m ps g e rest) (keep p.0 (set.contains (union p.1)) s) refl
    (keep_kept p.0 (set.contains (union p.1)) s (place_inside xs p ps here ts s h d (λ us m g e. all_told us xs m ps g e rest))) (is_news ts (first_tell xs p ps here)) refl

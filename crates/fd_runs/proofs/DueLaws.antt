-- What a propagator noted, and when it is due.
use Rattle.std.proofs.Common.{◌≡◌, ℕ, ◌<◌, Bool, true, false, not, List, [], ◌∷◌, length, map, All, Some, refl, sym, ◌∙◌, ap}
use Rattle.std.specs.Ordering.{int_eq}
use Rattle.oz_base.specs.declared.names.Ident.{Ident}
use Rattle.oz_base.specs.declared.interval.Interval.{Interval}
use Rattle.oz_base.specs.declared.relation.Relation.{Relation}
use Rattle.oz_domains.specs.Domains.{IntSet, union, intervals_of, interval_eq, intervals_eq}
use Rattle.oz_semantics.specs.Propagation.{domain_in, noted, all_eq, is_due}
use Rattle.oz_semantics.specs.declared.value.Tell.{Tell}
use Rattle.oz_semantics.specs.declared.configuration.LastRun.{LastRun}
use Rattle.oz_semantics.specs.declared.configuration.LastRun.TheVariants.{Never, Saw}
use Rattle.fd_domain.proofs.SetLaws.{and_left, and_right, and_both, tied, ties}
use Rattle.fd_domain.proofs.MemberLaws.{union_intervals}
use Rattle.fd_stores.specs.Stores.{Store, Posted, domains_at}
use Rattle.fd_stores.specs.Notes.{IsNoted}
use Rattle.fd_views.specs.Views.{variables_at, HaveDomains, StandsFor}
use Rattle.fd_runs.specs.Runs.{note_of}
use Rattle.fd_runs.proofs.RunLaws.{domains_are}

-- ---- equal intervals

interval_same : (i j : Interval) → interval_eq i j ≡ true → i ≡ j
interval_same i j e = (let a = tied i.low j.low (and_left _ _ e) in let b = tied i.high j.high (and_right (int_eq i.low j.low) _ e) in λ k. record { low = a k; high = b k })

intervals_same : (is js : List Interval) → intervals_eq is js ≡ true → is ≡ js
intervals_same [] [] e = refl
intervals_same [] (j ∷ js) e = cc
intervals_same (i ∷ is) [] e = cc
intervals_same (i ∷ is) (j ∷ js) e = (let a = interval_same i j (and_left _ _ e) in let b = intervals_same is js (and_right (interval_eq i j) _ e) in λ k. a k ∷ b k)

pub intervals_itself : (is : List Interval) → intervals_eq is is ≡ true
intervals_itself [] = refl
intervals_itself (i ∷ is) = and_both _ _ (and_both _ _ (ties i.low) (ties i.high)) (intervals_itself is)

all_same : (ds es : List (List Interval)) → all_eq ds es ≡ true → ds ≡ es
all_same [] [] e = refl
all_same [] (d ∷ ds) e = cc
all_same (d ∷ ds) [] e = cc
all_same (d ∷ ds) (c ∷ es) e = (let a = intervals_same d c (and_left _ _ e) in let b = all_same ds es (and_right (intervals_eq d c) _ e) in λ k. a k ∷ b k)

all_themselves : (ds : List (List Interval)) → all_eq ds ds ≡ true
all_themselves [] = refl
all_themselves (d ∷ ds) = and_both _ _ (intervals_itself d) (all_themselves ds)

-- ---- notes

unions : (ds : List IntSet) → map union (map intervals_of ds) ≡ ds
unions [] = refl
unions (d ∷ ds) = (let a = union_intervals d in let b = unions ds in λ k. a k ∷ b k)

module _ (ts : List Tell) (xs : List Ident) (s : Store) (r : Relation) (is : List ℕ) (h : StandsFor ts xs s) (a : All (λ x. x < length xs) is) (w : HaveDomains ts (variables_at xs is)) where
  pub noted_is : noted ts (variables_at xs is) ≡ map intervals_of (domains_at s is)
  noted_is = mapped (variables_at xs is) ∙ ap (map intervals_of) (domains_are ts xs s is h a w) where
    mapped : (vs : List Ident) → noted ts vs ≡ map intervals_of (map (domain_in ts) vs)
    mapped [] = refl
    mapped (v ∷ vs) = ap (λ ds. intervals_of (domain_in ts v) ∷ ds) (mapped vs)

  -- a run notes the domains of the store
  pub ran_notes : note_of (Saw (noted ts (variables_at xs is))) ≡ Some (domains_at s is)
  ran_notes = ap (λ ds. Some (map union ds)) noted_is ∙ ap (λ ds. Some ds) (unions (domains_at s is))

  -- one that is not due noted them
  pub not_due : (last : LastRun) → is_due ts (record { relation = r; variables = variables_at xs is; last = last }) ≡ false → IsNoted (Posted r is) (note_of last) s
  not_due Never e = cc
  not_due (Saw ds) e = ap (λ z. Some (map union z)) (all_same ds (noted ts (variables_at xs is)) (flip _ e)) ∙ ran_notes where
    flip : (b : Bool) → not b ≡ false → b ≡ true
    flip true g = refl
    flip false g = cc

  -- and one that noted them is not due
  pub noted_rests : (m : Store) → domains_at m is ≡ domains_at s is → is_due ts (record { relation = r; variables = variables_at xs is; last = Saw (map intervals_of (domains_at m is)) }) ≡ false
  noted_rests m e = ap (λ z. not (all_eq z (noted ts (variables_at xs is)))) (ap (map intervals_of) e ∙ sym noted_is) ∙ ap not (all_themselves (noted ts (variables_at xs is)))

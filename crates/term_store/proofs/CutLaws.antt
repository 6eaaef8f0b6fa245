-- What the cuts of domains leave.
use Rattle.std.proofs.Common.{◌≡◌, ◌∙◌, Some, sym, ap, subst}
use Rattle.std.specs.FinSet as set
use Rattle.oz_domains.specs.Domains.{IntSet, IsDomain}
use Rattle.fd_domain.specs.Cuts.{Keeps}
use Rattle.fd_domain.specs.declared.domain.Cut.{Cut}
use Rattle.fd_domain.specs.declared.domain.Cut.TheVariants.{Changed, Same, Empty}
use Rattle.fd_domain.proofs.SetLaws.{same_members, has_retain-has, has_retain-passes, retain_has}
use Rattle.oz_laws.proofs.DomainLaws.{meet-has, has-meet}
use Rattle.term_store.specs.Bounds.{Meeting}
use Rattle.term_store.specs.declared.class_domain.Met.{Met}
use Rattle.term_store.specs.declared.class_domain.Met.TheVariants.{Left}
use Rattle.term_store.proofs.ClosingLaws.{some_is}

retain_both : (s t : IntSet) → set.retain s (set.contains t) ≡ set.intersection s t
retain_both s t =
    same_members (set.retain s (set.contains t)) (set.intersection s t)
    (λ n h. has-meet s t n (has_retain-has s (set.contains t) n h) (has_retain-passes s (set.contains t) n h))
    (λ n h. let m = meet-has s t n h in retain_has s (set.contains t) n m.0 m.1)

module _ (one other old new argument : IntSet) (cut : Cut) (e : old ≡ one) (k : argument ≡ other) (keeps : Keeps old new (set.contains argument) cut) where
  keeps_to : (c : Cut) → cut ≡ c → Keeps one new (set.contains other) c
  keeps_to c q = subst (λ s. Keeps s new (set.contains other) c) e (subst (λ s. Keeps old new (set.contains s) c) k (subst (Keeps old new (set.contains argument)) q keeps))

  pub meet_empty : cut ≡ Empty → set.intersection one other ≡ set.empty
  meet_empty q = sym (retain_both one other) ∙ (keeps_to Empty q).1

  pub meet_same : cut ≡ Same → new ≡ set.intersection one other
  meet_same q = let h = keeps_to Same q in h.0 ∙ h.1 ∙ retain_both one other

  pub meet_changed : cut ≡ Changed → new ≡ set.intersection one other
  meet_changed q = (keeps_to Changed q).0 ∙ retain_both one other

pub meet_left : (one other d : IntSet) → d ≡ set.intersection one other → IsDomain d → (met : Met) → met ≡ Left (Some d) → Meeting (Some one) (Some other) met
meet_left one other d e domain met is = subst (Meeting (Some one) (Some other)) (sym is) (ap (λ (s : IntSet). Some s) e, λ s q. subst IsDomain (some_is d s q) domain)

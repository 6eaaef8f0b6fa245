-- Statements that confine variables to bounds.
use Rattle.std.proofs.Common.{◌≡◌, ◌⊎◌, inl, inr, ℕ, ℤ, ◌<◌, ◌<ℤ◌, ◌≤ℤ◌, int_le, ◌&&◌, Bool, true, false, if◌then◌else◌, List, ◌∷◌, ◌++◌, length, map, Contains, All, Option, Some, None, IfSome, MatchOption, get_or, refl, sym, ◌∙◌, ap, subst, arith}
use Rattle.std.proofs.lemmas.Int.{ints}
use Rattle.std.proofs.lemmas.List.{length-map, get_or-map, get_or_default}
use Rattle.std.proofs.lemmas.List.Elements.{Contains-append_left, Contains-append_right}
use Rattle.std.specs.FinSet as set
use Rattle.oz_base.specs.declared.names.Ident.{Ident}
use Rattle.oz_base.specs.declared.interval.Interval.{Interval}
use Rattle.oz_base.specs.declared.interval.TheConstants.{LEAST_VALUE, GREATEST_VALUE}
use Rattle.oz_domains.specs.Domains.{Has, between, count}
use Rattle.oz_domains.specs.Positions.{domain, AreDomains, AreParts}
use Rattle.oz_domains.specs.Passes.{keep}
use Rattle.oz_language.specs.declared.kernel.Kernel.{Kernel}
use Rattle.oz_semantics.specs.Store.{is_consistent}
use Rattle.oz_semantics.specs.Constraints.{refusal_of}
use Rattle.oz_semantics.specs.Answers.{Acts, Confines, RaisesKind}
use Rattle.oz_semantics.specs.Builtins.{confines, unless_refused, interval_news}
use Rattle.oz_semantics.specs.Exceptions.{unwound}
use Rattle.oz_semantics.specs.Spaces.{goes_on}
use Rattle.oz_semantics.specs.declared.value.Tell.{Tell}
use Rattle.oz_semantics.specs.declared.configuration.Frame.{Frame}
use Rattle.oz_semantics.specs.declared.configuration.Configuration.{Configuration}
use Rattle.oz_semantics.specs.declared.outcome.RaiseKind.TheVariants.{FailureTell, Domain}
use Rattle.fd_domain.proofs.SetLaws.{with_run-new, with_run-cases, count-is, count-none, has-empty}
use Rattle.fd_domain.proofs.IntervalLaws.{le_true, le_false}
use Rattle.fd_stores.specs.Stores.{Store, Constraint, Told, told, run, Runs, Fails}
use Rattle.fd_stores.specs.Stores as stores
use Rattle.fd_stores.proofs.RunLaws.{runs_law}
use Rattle.fd_stores.proofs.StoreLaws.{Kept, keep_kept, ToldTo, told_to, kept_passes}
use Rattle.fd_stores.proofs.Lists.{contains_mapped, at_some}
use Rattle.fd_views.specs.Views.{variables_at, AreDomainValues, IsTold}
use Rattle.fd_views.proofs.SameLaws.{keeps_more}
use Rattle.fd_runs.specs.Runs.{each_between}
use Rattle.fd_runs.proofs.RunLaws.{confined_domains, confined_told}
use Rattle.fd_runs.proofs.ToldRuns.{told_runs}
use Rattle.fd_codes.specs.Codes.{AreBounds}
use Rattle.fd_turns.specs.Nodes.{Top, node_space, failed_config}
use Rattle.fd_turns.proofs.SettleLaws.{IsPlainAnswer}
use Rattle.fd_steps.specs.States.{State, told_more, view_of, IsDone, IsGood, NoneDue, IsLater}
use Rattle.fd_steps.proofs.GoodLaws.{view_more, all_done}
use Rattle.fd_steps.proofs.DueTurns.{MovesTo, Nothing, runs_then}
use Rattle.fd_steps.proofs.ActTurns as turns
use Rattle.fd_execution.proofs.StatementLaws as single
use Rattle.fd_execution.proofs.PostedLaws.{IsPostedOn}

-- ---- bounds

and_first : (a b : Bool) → (a && b) ≡ true → a ≡ true
and_first true b e = refl
and_first false b e = cc

and_second : (a b : Bool) → (a && b) ≡ true → b ≡ true
and_second true b e = e
and_second false b e = cc

-- domain values bound domain values
bounded : (low high : ℤ) → AreBounds low high → AreDomainValues (between low high)
bounded low high w v h =
    let a = le_true LEAST_VALUE low (and_first _ _ w.low_fits) in
    let b = le_true high GREATEST_VALUE (and_second (int_le LEAST_VALUE high) _ w.high_fits) in
    let all = count-is LEAST_VALUE GREATEST_VALUE (omega (arith, ints)) in
    elim (with_run-cases low (count low high) set.empty v h) [
      | inl r ↦ elim (order low high) [
        | inl l ↦ (let c = count-is low high l in with_run-new LEAST_VALUE (count LEAST_VALUE GREATEST_VALUE) set.empty v (omega (arith, ints, a, r.0)) (omega (arith, ints, all, b, c, r.1)))
        | inr l ↦ (let c = count-none low high l in absurd (omega (arith, ints, c, r.0, r.1)))
      ]
      | inr n ↦ absurd (has-empty v n)
    ] where
      order : (a b : ℤ) → (a ≤ℤ b) ⊎ (b <ℤ a)
      order a b = grind (arith, ints)

none_between : (low high v : ℤ) → int_le low high ≡ false → Has (between low high) v → ⊥
none_between low high v e h =
    let c = count-none low high (le_false low high e) in
    elim (with_run-cases low (count low high) set.empty v h) [ inl r ↦ omega (arith, ints, c, r.0, r.1) | inr n ↦ has-empty v n ]

-- a variable is not between bounds that are exchanged
pub exchanged_fails : (cs : List Constraint) (s : Store) (x : ℕ) (low high : ℤ) → Contains cs (Told x (between low high)) → x < length s → int_le low high ≡ false → Fails cs s
exchanged_fails cs s x low high c l e = record { before = s; runs = stores.none; constraint = Told x (between low high); among = c; fails = by (keep x (set.contains (between low high)) s) (keep_kept x (set.contains (between low high)) s l) } where
  by : (o : Option Store) → IfSome o (Kept x (set.contains (between low high)) s) → o ≡ None
  by None k = refl
  by (Some m) k = (let some = k.some in absurd (none_between low high some.0 e (kept_passes x (set.contains (between low high)) s m l k some.0 some.1)))

-- what was told to positions, each is within
told_inside : (is : List ℕ) (i : Interval) (s m n : Store) (x : ℕ) (v : ℤ) → ToldTo is (each_between i is) s m → AreParts n m → Contains is x → Has (domain n x) v → Has (between i.low i.high) v
told_inside is i s m n x v t p c h =
    let place = c.0 in
    let same : get_or is place 0 ≡ x = get_or_default is place 0 x c.1 ∙ c.2 in
    let here : Has (domain m (get_or is place 0)) v = subst (λ y. Has (domain m y) v) (sym same) (p.each x v h) in
    let long = length-map is (λ y. between i.low i.high) in
    subst (λ d. Has d v) (get_or-map (λ y. between i.low i.high) is place 0 set.empty c.1) (t.within place c.1 (omega (arith, long, c.1)) v here)

module _ (k : Kernel) (t : Top) (cs : List Constraint) (top_fits : is_consistent t.tells ≡ true) (R : Configuration → Store → Type 0)
    (back : (c d : Configuration) (s m : Store) → goes_on k.statements c.layers node_space ≡ true → MovesTo k c d → Runs cs s m → R d m → R c s)
    (failing : (c : Configuration) (n : ℕ) (s : Store) → goes_on k.statements c.layers node_space ≡ true → MovesTo k c (failed_config t n) → Fails cs s → R c s) where
  abbrev Ready : State → List Frame → Type 0
  Ready st frames = single.Ready k t cs top_fits R back failing st frames

  abbrev PostsOn : List Constraint → State → List Frame → Type 0
  PostsOn ks st frames = (later : State) → IsGood t cs later → IsPostedOn t cs ks st later → Ready later frames

  module _ (st : State) (h : IsGood t cs st) (f : Frame) (rest : List Frame) (is : List ℕ) (low high : ℤ) (w : AreBounds low high) (a : All (λ x. x < length st.variables) is)
      (among : (x : ℕ) → Contains is x → Contains cs (Told x (between low high))) (unmarked : (x : Ident) → unwound x rest ≡ None) where
    abbrev i : Interval
    i = record { low = low; high = high }

    abbrev told_all : List Constraint
    told_all = map (λ x. Told x (between low high)) is

    abbrev us : List Tell
    us = interval_news (view_of t st) (variables_at st.variables is) i

    domains : AreDomains st.store
    domains = (let o = h.over in o.domains)

    inside : All (λ x. x < length st.store) is
    inside = λ n d l. (let s = h.stands in let g = s.fits in let b = a n d l in omega (arith, b, g))

    -- what goes on once they were told
    after_told : (m : Store) → told is (each_between i is) st.store ≡ Some m → Runs cs st.store m → PostsOn told_all st rest → (later : State) → IsGood t cs later → IsLater t cs Nothing (told_more us m st) later → Ready later rest
    after_told m e r g later q l =
        let done : (c : Constraint) → Contains told_all c → IsDone later.variables later.store later.propagators c = λ c d. (
        let o = contains_mapped (λ x. Told x (between low high)) is c d in
        let to = at_some (told is (each_between i is) st.store) m (ToldTo is (each_between i is) st.store) (told_to is (each_between i is) st.store inside domains) e in
        let over = (runs_law cs st.store m h.over r).0 in
        let parts = (runs_law cs m later.store over l.runs).1 in
        subst (IsDone later.variables later.store later.propagators) o.2 (λ v x. told_inside is i st.store m later.store o.0 v to parts o.1 x)) in
        g (record later { posted = later.posted ++ told_all }) (all_done t cs later q told_all done) (record {
          keeps = λ u c. l.keeps u (subst (λ v. Contains v u) (sym (view_more t cs st h us m)) (keeps_more (view_of t st) us u c));
          runs = runs_then cs r l.runs;
          variables = l.variables;
          posted = λ c d. elim d [ inl x ↦ Contains-append_left later.posted told_all c (subst (λ z. Contains z c) (sym l.posted) x) | inr x ↦ Contains-append_right later.posted told_all c x ];
        })

    confined : single.Answers k t cs top_fits R back failing st (f ∷ rest) (Acts (Confines us)) → PostsOn told_all st rest → Ready st (f ∷ rest)
    confined e g = (
      turns.acts_plain k t cs top_fits R back failing st (f ∷ rest) (Confines us) e,
      λ rests. by rests (told is (each_between i is) st.store) refl (confined_told (view_of t st) st.variables st.store is i h.stands domains a (bounded low high w)) (told_runs cs st.store is i among),
    ) where
      by : NoneDue t st → (o : Option Store) → told is (each_between i is) st.store ≡ o → IsTold (view_of t st) st.variables us o → MatchOption o (Fails cs st.store) (Runs cs st.store) → R (turns.conf k t cs top_fits R back failing st (f ∷ rest)) st.store
      by rests None q told r = turns.domains_clash k t cs top_fits R back failing Nothing st h f rest rests unmarked us (ap is_consistent (view_more t cs st h us st.store) ∙ told) e r
      by rests (Some m) q told r = turns.gives_domains k t cs top_fits R back failing Nothing st h f rest rests us m (confined_domains (view_of t st) st.variables is i) told r e (after_told m q r g)

    refused : single.Answers k t cs top_fits R back failing st (f ∷ rest) (RaisesKind FailureTell) → Fails cs st.store → Ready st (f ∷ rest)
    refused e q = (subst IsPlainAnswer (sym e) tt, λ rests. turns.refuses k t cs top_fits R back failing Nothing st h f rest rests unmarked e q)

    -- a statement that confines the variables to the bounds
    pub confines_ready : single.Answers k t cs top_fits R back failing st (f ∷ rest) (confines (view_of t st) (variables_at st.variables is) (low, high)) → (int_le low high ≡ false → Fails cs st.store) → (int_le low high ≡ true → PostsOn told_all st rest)
        → Ready st (f ∷ rest)
    confines_ready e q g = by (int_le low high) refl where
      domain_values : refusal_of low high ≡ (if int_le low high then None else Some FailureTell)
      domain_values = (λ j. if w.low_fits j && w.high_fits j then (if int_le low high then None else Some FailureTell) else Some Domain)

      by : (b : Bool) → int_le low high ≡ b → Ready st (f ∷ rest)
      by true x = confined (e ∙ ap (λ o. unless_refused o (Acts (Confines us))) (domain_values ∙ ap (λ b. if b then None else Some FailureTell) x)) (g x)
      by false x = refused (e ∙ ap (λ o. unless_refused o (Acts (Confines us))) (domain_values ∙ ap (λ b. if b then None else Some FailureTell) x)) (q x)

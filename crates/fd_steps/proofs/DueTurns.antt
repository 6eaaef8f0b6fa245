-- Propagators run until none is due.
use Rattle.std.proofs.Common.{◌≡◌, ◌≢◌, ◌⊎◌, inl, inr, ℕ, zero, suc, ◌+◌, ◌<◌, ◌≤◌, Bool, true, false, not, ◌||◌, List, [], ◌∷◌, ◌++◌, length, map, Contains, All, Option, Some, None, MatchOption, refl, sym, ◌∙◌, ap, subst, arith}
use Rattle.std.specs.List.{find, list_any}
use Rattle.oz_base.specs.Lists.{edit_first}
use Rattle.oz_base.specs.declared.names.Ident.{Ident}
use Rattle.oz_base.specs.declared.relation.Relation.{Relation}
use Rattle.oz_domains.specs.Domains.{intervals_of}
use Rattle.oz_domains.specs.Positions.{AreParts, AreDomains}
use Rattle.oz_language.specs.declared.kernel.Kernel.{Kernel}
use Rattle.oz_semantics.specs.Store.{View, is_consistent}
use Rattle.oz_semantics.specs.Propagation.{noted, saw, is_due, Run, Fails as RunFails, Narrows, run_of}
use Rattle.oz_semantics.specs.Sights.{can_step}
use Rattle.oz_semantics.specs.Readiness.{answer_ready}
use Rattle.oz_semantics.specs.Spaces.{goes_on}
use Rattle.oz_semantics.specs.Settling.{Turned}
use Rattle.oz_semantics.specs.Schedule.{turn}
use Rattle.oz_semantics.specs.declared.value.Tell.{Tell}
use Rattle.oz_semantics.specs.declared.configuration.Frame.{Frame}
use Rattle.oz_semantics.specs.declared.configuration.LastRun.{LastRun}
use Rattle.oz_semantics.specs.declared.configuration.LastRun.TheVariants.{Saw}
use Rattle.oz_semantics.specs.declared.configuration.Propagator.{Propagator}
use Rattle.oz_semantics.specs.declared.configuration.Configuration.{Configuration}
use Rattle.oz_semantics.specs.declared.outcome.Stepped.TheVariants.{Moved}
use Rattle.oz_laws.proofs.StoreLaws.{tests_consistent}
use Rattle.fd_stores.specs.Stores.{Store, Constraint, Posted, Runs, none, more, Fails, total, run, domains_at}
use Rattle.fd_stores.specs.Laws.{AreOver}
use Rattle.fd_stores.specs.Notes.{Stands}
use Rattle.fd_stores.proofs.RunLaws.{parts_total, runs_law}
use Rattle.fd_stores.proofs.NoteLaws.{notes_stand}
use Rattle.fd_views.specs.Views.{variables_at, HaveDomains, StandsFor, OnlyDomains}
use Rattle.fd_views.proofs.StandLaws.{free_domains}
use Rattle.fd_views.proofs.TellLaws.{stands_consistent}
use Rattle.fd_runs.specs.Runs.{RunsTo, note_of}
use Rattle.fd_runs.proofs.RunLaws.{runs_to}
use Rattle.fd_runs.proofs.DueLaws.{noted_is, ran_notes, noted_rests}
use Rattle.fd_turns.specs.Nodes.{Top, Node, node_space, own, seen, answered, config, failed_config}
use Rattle.fd_turns.proofs.SettleLaws.{IsPlainAnswer}
use Rattle.fd_turns.proofs.RunLaws.{ran, runs_on, runs_out}
use Rattle.fd_turns.proofs.RestLaws.{goes_on_is}
use Rattle.fd_steps.specs.States.{State, told_more, node_of, view_of, IsPosted, IsGood, NoneDue, IsLater}
use Rattle.fd_steps.proofs.EditLaws.{found_in, found_any, count, count_fewer}
use Rattle.fd_steps.proofs.GoodLaws.{view_more, have_more, told_later, noted_good, domains_good}

-- ---- later and later

pub runs_then : (cs : List Constraint) {a b c : Store} → Runs cs a b → Runs cs b c → Runs cs a c
runs_then cs none r = r
runs_then cs (more c k e q) r = more c k e (runs_then cs q r)

pub later_then : (t : Top) (cs : List Constraint) (told : ℕ → Type 0) (a b c : State) → IsLater t cs told a b → IsLater t cs told b c → IsLater t cs told a c
later_then t cs told a b c h g = record {
  keeps = λ u k. g.keeps u (h.keeps u k);
  runs = runs_then cs h.runs g.runs;
  next = (let x = h.next in let y = g.next in omega arith);
  variables = g.variables ∙ h.variables;
  posted = g.posted ∙ h.posted;
  free = λ i l n f. g.free i (let x = h.next in omega (arith, l, x)) n (h.free i l n f);
}

-- where less was told
pub later_wider : (t : Top) (cs : List Constraint) (told wider : ℕ → Type 0) (a b : State) → ((i : ℕ) → told i → wider i) → IsLater t cs told a b → IsLater t cs wider a b
later_wider t cs told wider a b w h = record {
  keeps = h.keeps;
  runs = h.runs;
  next = h.next;
  variables = h.variables;
  posted = h.posted;
  free = λ i l n f. h.free i l (λ x. n (w i x)) f;
}

-- nothing was told
abbrev pub Nothing : ℕ → Type 0
Nothing i = ⊥

pub later_itself : (t : Top) (cs : List Constraint) (told : ℕ → Type 0) (a : State) → IsLater t cs told a a
later_itself t cs told a = record { keeps = λ u k. k; runs = none; next = omega arith; variables = refl; posted = refl; free = λ i l n f. f }

-- ---- the state after a run

module _ (t : Top) (cs : List Constraint) (st : State) (h : IsGood t cs st) (p : Propagator) (c : Contains st.propagators p) where
  abbrev v : View
  v = view_of t st

  abbrev posts : IsPosted cs v st.variables st.store p
  posts = h.posts p c

  abbrev is : List ℕ
  is = (h.posts p c).places

  as_posted : p ≡ record { relation = p.relation; variables = variables_at st.variables is; last = p.last }
  as_posted = λ i. record { relation = p.relation; variables = (h.posts p c).variables i; last = p.last }

  domains : AreDomains st.store
  domains = (let o = h.over in o.domains)

  pub runs_as : RunsTo v st.variables (run (Posted p.relation is) st.store) (run_of v p)
  runs_as =
      let k = posts in
      let o = h.over in
      subst (λ q. RunsTo v st.variables (run (Posted p.relation is) st.store) (run_of v q)) (sym as_posted)
      (runs_to v st.variables st.store p.relation is p.last h.stands domains (o.over (Posted p.relation is) k.among).0 k.inside k.have)

  abbrev note : LastRun
  note = Saw (noted v p.variables)

  abbrev pub after : List Tell → Store → State
  after us m = record (told_more us m st) { propagators = edit_first (is_due v) (λ (q : Propagator). record q { last = note }) st.propagators }

  module _ (us : List Tell) (m : Store) (o : OnlyDomains us) (s : StandsFor (v ++ us) st.variables m) (e : run (Posted p.relation is) st.store ≡ Some m) (found : find (is_due v) st.propagators ≡ Some p) where
    pub one_run : Runs cs st.store m
    one_run = more (Posted p.relation is) (let k = posts in k.among) e none

    over_run : AreOver cs m
    over_run = (runs_law cs st.store m h.over one_run).0

    parts_run : AreParts m st.store
    parts_run = (runs_law cs st.store m h.over one_run).1

    noted_over : note_of note ≡ Some (domains_at st.store is)
    noted_over = (let k = posts in ap (λ xs. note_of (Saw (noted v xs))) k.variables ∙ ran_notes v st.variables st.store p.relation is h.stands k.inside k.have)

    note_stands : Stands (Posted p.relation is) (note_of note) m
    note_stands = (let k = posts in let g = h.over in let n = notes_stand in
        subst (λ z. Stands (Posted p.relation is) z m) (sym noted_over) (n.ran (Posted p.relation is) st.store m (g.over (Posted p.relation is) k.among) domains e))

    told_first : IsGood t cs (told_more us m st)
    told_first = domains_good t cs st h us m o s one_run

    same_found : (q : Propagator) → find (is_due v) st.propagators ≡ Some q → p ≡ q
    same_found q f = (let g : Some p ≡ Some q = sym found ∙ f in cc)

    pub after_good : IsGood t cs (after us m)
    after_good = noted_good t cs (told_more us m st) told_first (is_due v) note (λ q d f. subst (λ z. IsPosted cs (view_of t (told_more us m st)) st.variables m (record z { last = note })) (same_found q f) posted_again) where
      posted_again : IsPosted cs (view_of t (told_more us m st)) st.variables m (record p { last = note })
      posted_again = (let k = posts in record {
        places = is;
        variables = k.variables;
        among = k.among;
        inside = k.inside;
        have = subst (λ z. HaveDomains z (variables_at st.variables is)) (sym (view_more t cs st h us m)) (have_more t cs st h us m s over_run parts_run is k.inside k.have);
        note = note_stands;
      })

    pub after_later : IsLater t cs Nothing st (after us m)
    after_later = (let l = told_later t cs st h us m s over_run parts_run one_run Nothing (λ i l n f. free_domains v us (own i) o f) in record { keeps = l.keeps; runs = l.runs; next = l.next; variables = refl; posted = refl; free = l.free })

    -- where the run changed nothing, one propagator less is due
    module _ (same : m ≡ st.store) where
      abbrev w : View
      w = view_of t (after us m)

      noted_same : (q : Propagator) → Contains st.propagators q → noted w q.variables ≡ noted v q.variables
      noted_same q d =
          let k = h.posts q d in
          let g = told_first in
          let have = subst (λ z. HaveDomains z (variables_at st.variables k.places)) (sym (view_more t cs st h us m)) (have_more t cs st h us m s over_run parts_run k.places k.inside k.have) in
          ap (noted w) k.variables ∙ noted_is w st.variables m q.relation k.places g.stands k.inside have
          ∙ ap (λ z. map intervals_of (domains_at z k.places)) same
          ∙ sym (ap (noted v) k.variables ∙ noted_is v st.variables st.store q.relation k.places h.stands k.inside k.have)

      rests_now : is_due w (record p { last = note }) ≡ false
      rests_now =
          let k = posts in
          let g = told_first in
          let have = subst (λ z. HaveDomains z (variables_at st.variables is)) (sym (view_more t cs st h us m)) (have_more t cs st h us m s over_run parts_run is k.inside k.have) in
          (λ i. is_due w (record { relation = p.relation; variables = k.variables i; last = Saw ((ap (noted v) k.variables ∙ noted_is v st.variables st.store p.relation is h.stands k.inside k.have) i) }))
          ∙ noted_rests w st.variables m p.relation is g.stands k.inside have st.store (ap (λ z. domains_at z is) (sym same))

      pub after_fewer : count (is_due w) (edit_first (is_due v) (λ (q : Propagator). record q { last = note }) st.propagators) < count (is_due v) st.propagators
      after_fewer = count_fewer (is_due v) (is_due w) (λ (q : Propagator). record q { last = note }) st.propagators p found rests_now (λ q d. ap (λ ds. not (saw q.last ds)) (noted_same q d))

-- ---- until none is due

abbrev pub MovesTo : Kernel → Configuration → Configuration → Type 0
MovesTo k c d = ◌≡◌ {A = Turned} (turn k c) (Moved 1, d)

-- what is shown of configurations that stand for stores goes back by turns, and is so where the space fails
module _ (k : Kernel) (t : Top) (cs : List Constraint) (top_fits : is_consistent t.tells ≡ true) (R : Configuration → Store → Type 0)
    (back : (c d : Configuration) (s m : Store) → goes_on k.statements c.layers node_space ≡ true → MovesTo k c d → Runs cs s m → R d m → R c s)
    (failing : (c : Configuration) (n : ℕ) (s : Store) → goes_on k.statements c.layers node_space ≡ true → MovesTo k c (failed_config t n) → Fails cs s → R c s) where
  abbrev pub conf : State → List Frame → Configuration
  conf st frames = config k.statements t (node_of st frames)

  abbrev pub IsPlain : State → List Frame → Type 0
  IsPlain st frames = IsPlainAnswer (answered k.statements t (node_of st frames))

  -- each later state with this stack goes on, once none is due
  abbrev pub GoesOn : (ℕ → Type 0) → State → List Frame → Type 0
  GoesOn told st frames = (later : State) → IsGood t cs later → IsLater t cs told st later → IsPlain later frames × (NoneDue t later → R (conf later frames) later.store)

  pub good_consistent : (st : State) → IsGood t cs st → is_consistent (view_of t st) ≡ true
  good_consistent st h = (let o = h.over in (tests_consistent (view_of t st)).1 (stands_consistent (view_of t st) st.variables st.store h.stands o.domains))

  due_goes : (st : State) (frames : List Frame) (p : Propagator) → IsPlain st frames → find (is_due (view_of t st)) st.propagators ≡ Some p → goes_on k.statements (conf st frames).layers node_space ≡ true
  due_goes st frames p q e =
      goes_on_is k.statements t (node_of st frames) q ∙ ap (λ b. can_step (answer_ready (answered k.statements t (node_of st frames))) || b) (found_any (is_due (view_of t st)) (λ z. z) st.propagators p e)
      ∙ by (can_step (answer_ready (answered k.statements t (node_of st frames)))) where
        by : (b : Bool) → (b || true) ≡ true
        by true = refl
        by false = refl

  abbrev Settles : (ℕ → Type 0) → List Frame → State → Type 0
  Settles told frames st = IsGood t cs st → GoesOn told st frames → R (conf st frames) st.store

  module _ (told : ℕ → Type 0) (frames : List Frame) where
    on_from : (a b : State) → IsLater t cs Nothing a b → GoesOn told a frames → GoesOn told b frames
    on_from a b l g later h q = g later h (later_then t cs told a b later (later_wider t cs Nothing told a b (λ i n. absurd n) l) q)

    less_or_same : (cs' : List Constraint) (a b : Store) → AreParts b a → (total b < total a) ⊎ (b ≡ a)
    less_or_same cs' a b p = elim (less_or_not (total b) (total a)) [ inl l ↦ inl l | inr g ↦ inr ((parts_total a b p).1 g) ] where
      less_or_not : (i j : ℕ) → (i < j) ⊎ (j ≤ i)
      less_or_not i j = grind arith

    -- a run of the first that is due, and then what is so of the state after it
    module _ (st : State) (h : IsGood t cs st) (g : GoesOn told st frames) (p : Propagator) (e : find (is_due (view_of t st)) st.propagators ≡ Some p) where
      abbrev there : Contains st.propagators p
      there = (found_in (is_due (view_of t st)) (λ z. z) st.propagators p e).0

      plain_here : IsPlain st frames
      plain_here = (g st h (later_itself t cs told st)).0

      ran_on : (us : List Tell) (m : Store) → (o : OnlyDomains us) (s : StandsFor (view_of t st ++ us) st.variables m) (q : run (Posted p.relation (is t cs st h p there)) st.store ≡ Some m) → run_of (view_of t st) p ≡ Narrows us
          → Settles told frames (after t cs st h p there us m) → R (conf st frames) st.store
      ran_on us m o s q r settled =
          let a = after t cs st h p there us m in
          let good = after_good t cs st h p there us m o s q e in
          let later = after_later t cs st h p there us m o s q e in
          let on = on_from st a later g in
          back (conf st frames) (conf a frames) st.store m (due_goes st frames p plain_here e)
          (runs_on k t (node_of st frames) p e us r top_fits (good_consistent a good) (on a good (later_itself t cs told a)).0) later.runs (settled good on)

      by_run : (o : Option Store) → run (Posted p.relation (is t cs st h p there)) st.store ≡ o → RunsTo (view_of t st) st.variables o (run_of (view_of t st) p)
          → ((us : List Tell) (m : Store) (o : OnlyDomains us) (s : StandsFor (view_of t st ++ us) st.variables m) (q : run (Posted p.relation (is t cs st h p there)) st.store ≡ Some m) → Settles told frames (after t cs st h p there us m))
          → R (conf st frames) st.store
      by_run None q r settled =
          failing (conf st frames) st.next st.store (due_goes st frames p plain_here e) (runs_out k t (node_of st frames) p e r top_fits)
          (record { before = st.store; runs = none; constraint = Posted p.relation (is t cs st h p there); among = (let w = h.posts p there in w.among); fails = q })
      by_run (Some m) q r settled = ran_on r.0 m r.2 r.3 q r.1 (settled r.0 m r.2 r.3 q)

    -- while runs take values away, and between these while fewer and fewer are due
    settle_due : (n : ℕ) → ((st : State) → total st.store < n → Settles told frames st) → (j : ℕ) (st : State) → total st.store < suc n → count (is_due (view_of t st)) st.propagators < j → Settles told frames st
    settle_due n again zero st l d h g = absurd (omega (arith, d))
    settle_due n again (suc j) st l d h g = by (find (is_due (view_of t st)) st.propagators) refl (λ a b c. settle_due n again j a b c) where
      by : (o : Option Propagator) → find (is_due (view_of t st)) st.propagators ≡ o
          → ((a : State) → total a.store < suc n → count (is_due (view_of t a)) a.propagators < j → Settles told frames a) → R (conf st frames) st.store
      by None e inner = (g st h (later_itself t cs told st)).1 e
      by (Some p) e inner =
          by_run st h g p e (run (Posted p.relation (is t cs st h p (there st h g p e))) st.store) refl (runs_as t cs st h p (there st h g p e))
          (λ us m o s q. elim (less_or_same cs st.store m (runs_law cs st.store m h.over (one_run t cs st h p (there st h g p e) us m o s q e)).1) [
            | inl x ↦ again (after t cs st h p (there st h g p e) us m) (omega (arith, l, x))
            | inr x ↦ inner (after t cs st h p (there st h g p e) us m) (subst (λ z. total z < suc n) (sym x) l) (let f = after_fewer t cs st h p (there st h g p e) us m o s q e x in omega (arith, f, d))
          ])

    settle_for : (n : ℕ) (st : State) → total st.store < n → Settles told frames st
    settle_for zero st l h g = absurd (omega (arith, l))
    settle_for (suc n) st l h g = settle_due n (λ a b. settle_for n a b) (suc (count (is_due (view_of t st)) st.propagators)) st l (omega arith) h g

    pub settle : (st : State) → Settles told frames st
    settle st h g = settle_for (suc (total st.store)) st (omega arith) h g

-- The run of the space ends, once its thread distributes.
use Rattle.std.proofs.Common.{◌≡◌, inl, inr, ℕ, true, List, [], ◌∷◌, ◌++◌, Option, Some, None, refl, sym, ◌∙◌, ap, subst}
use Rattle.oz_base.specs.declared.names.Ident.{Ident}
use Rattle.oz_base.specs.declared.distribution.Split.{Split}
use Rattle.oz_domains.specs.Domains.{intervals_of, whole}
use Rattle.oz_domains.specs.Positions.{domain, AreParts}
use Rattle.oz_domains.specs.Splits.{first_part, second_part}
use Rattle.oz_semantics.specs.Store.{View, is_consistent}
use Rattle.oz_semantics.specs.Distributors as machine
use Rattle.oz_semantics.specs.Distributors.{undetermined}
use Rattle.oz_semantics.specs.Builtins.{interval_news}
use Rattle.oz_semantics.specs.Spaces as spaces
use Rattle.oz_semantics.specs.declared.value.Tell.{Tell}
use Rattle.oz_semantics.specs.declared.configuration.Frame.{Frame}
use Rattle.oz_semantics.specs.declared.configuration.Configuration.{Configuration}
use Rattle.view_laws.specs.Readies.{Keeps}
use Rattle.fd_stores.specs.Stores.{Store, Runs, none, Fails}
use Rattle.fd_stores.specs.Choices.{choice, split_variable, first_store, second_store}
use Rattle.fd_stores.specs.Laws.{AreOver}
use Rattle.propagators.proofs.StepLaws.{parts_refl}
use Rattle.fd_trees.proofs.EndLaws.{Parted, parted, within_parts}
use Rattle.fd_views.specs.Views.{variable_at, variables_at, HaveDomains}
use Rattle.fd_views.proofs.SameLaws.{keeps_more}
use Rattle.fd_views.proofs.TellLaws.{only_one}
use Rattle.fd_runs.specs.Offers.{WidensFirst}
use Rattle.fd_runs.proofs.OfferLaws.{first_stands, second_stands}
use Rattle.fd_turns.specs.Nodes.{node_space, failed_config}
use Rattle.fd_steps.specs.States.{State, told_more, view_of, IsGood, NoneDue}
use Rattle.fd_steps.proofs.GoodLaws.{view_more, domains_good}
use Rattle.fd_steps.proofs.DueTurns as due
use Rattle.fd_steps.proofs.DueTurns.{MovesTo, Nothing}
use Rattle.fd_steps.proofs.ActTurns as turns
use Rattle.fd_search.specs.Laws.{Setting, IsSearched, Stands, Arrives, StepsTo, RunLaw}
use Rattle.fd_search.proofs.RestLaws.{some_got, at_rest, runs_rest}
use Rattle.fd_search.proofs.BackLaws.{back, failing}
use Rattle.fd_search.proofs.StateLaws.{IsFull, IsReady, full_more, full_later, ready_more, have_more}
use Rattle.fd_search.proofs.OfferLaws.{over, inside_here, answers, offers_here, domains_or, plain_here, waits_among}
use Rattle.fd_search.proofs.NextLaws.{conf, Offering}
use Rattle.fd_search.proofs.EndLaws.{arrives_solved, arrives_divided}

-- What is shown of configurations that stand for stores goes back by turns, and is so where the space fails, is solved or offers.
module _ (its : Setting) (g : IsSearched its) (R : Configuration → Store → Type 0)
    (back : (c e : Configuration) (s m : Store) → StepsTo its.kernel c e → Runs its.constraints s m → R e m → R c s)
    (failing : (c : Configuration) (n : ℕ) (s : Store) → StepsTo its.kernel c (failed_config its.top n) → Fails its.constraints s → R c s)
    (solved : (st : State) → IsFull its st → NoneDue its.top st → choice its.distribution st.store ≡ None → R (conf its st []) st.store)
    (divided : (st : State) (h : IsFull its st) → NoneDue its.top st → (f : Frame) → IsReady its st f → (p : Split) → choice its.distribution st.store ≡ Some p → Offering its st f p → R (conf its st (f ∷ [])) st.store) where
  top_fits : is_consistent its.top.tells ≡ true
  top_fits = (let q = g.known in q.fits)

  back_to : (c e : Configuration) (s m : Store) → spaces.goes_on its.kernel.statements c.layers node_space ≡ true → MovesTo its.kernel c e → Runs its.constraints s m → R e m → R c s
  back_to c e s m a b r q = back c e s m (a, b) r q

  failing_to : (c : Configuration) (n : ℕ) (s : Store) → spaces.goes_on its.kernel.statements c.layers node_space ≡ true → MovesTo its.kernel c (failed_config its.top n) → Fails its.constraints s → R c s
  failing_to c n s a b f = failing c n s (a, b) f

  abbrev GoesOn : State → List Frame → Type 0
  GoesOn st frames = due.GoesOn its.kernel its.top its.constraints top_fits R back_to failing_to Nothing st frames

  -- ---- where all variables have domains

  module _ (st : State) (h : IsFull its st) (f : Frame) (ready : IsReady its st f) (idle : NoneDue its.top st) (w : HaveDomains (view_of its.top st) (over its g st h f ready)) where
    abbrev seen : View
    seen = view_of its.top st

    -- the thread ends, and the store stays
    ends_then : choice its.distribution st.store ≡ None → GoesOn st []
    ends_then e later q l = (
      tt,
      λ rests.
          let same = runs_rest its.constraints st.store later.store (at_rest its.top its.constraints st h.good idle h.posted) l.runs in
          solved later (full_later its Nothing st later h q l) rests (ap (choice its.distribution) same ∙ e),
    )

    finishes : choice its.distribution st.store ≡ None → R (conf its st (f ∷ [])) st.store
    finishes e =
        turns.passes its.kernel its.top its.constraints top_fits R back_to failing_to Nothing st h.good f [] idle
        (offers_here its g st h f ready w None e) (ends_then e)

    module _ (p : Split) (e : choice its.distribution st.store ≡ Some p) where
      two : Parted its.constraints its.distribution st.store p
      two = (let good = h.good in let q = g.search in parted its.constraints its.distribution st.store p good.over (within_parts its.distribution its.start st.store h.parts q.within) e)

      abbrev x : Ident
      x = variable_at st.variables (split_variable its.distribution p)

      first_less : (a : Store) → first_store its.distribution p st.store ≡ Some a → AreOver its.constraints a × AreParts a st.store
      first_less a i =
          let q = two in
          let r = q.parts in
          let k = r.first in
          subst (λ z. AreOver its.constraints z × AreParts z st.store) (some_got q.a a (sym q.first ∙ i)) (k.0, k.1)

      second_less : (b : Store) → second_store its.distribution p st.store ≡ Some b → AreOver its.constraints b × AreParts b st.store
      second_less b i =
          let q = two in
          let r = q.parts in
          let k = r.second in
          subst (λ z. AreOver its.constraints z × AreParts z st.store) (some_got q.b b (sym q.second ∙ i)) (k.0, k.1)

      offering : Offering its st f p
      offering =
          let good = h.good in
          let k = good.over in
          let inside = inside_here its g st h f ready in
          record {
            over = undetermined seen (over its g st h f ready);
            answer = offers_here its g st h f ready w (Some p) e;
            among = waits_among its g st h f ready;
            first = λ a i. (let l = first_less a i in
                (only_one x (intervals_of (first_part p.test (domain st.store (split_variable its.distribution p)))), first_stands seen st.variables st.store a its.distribution p good.stands k.domains inside e i, l.0, l.1));
            second = λ b i. (let l = second_less b i in
                (only_one x (intervals_of (second_part p.test (domain st.store (split_variable its.distribution p)))), second_stands seen st.variables st.store b its.distribution p good.stands k.domains inside e i, l.0, l.1));
          }

    with_domains : (o : Option Split) → choice its.distribution st.store ≡ o → R (conf its st (f ∷ [])) st.store
    with_domains None e = finishes e
    with_domains (Some p) e = divided st h idle f ready p e (offering p e)

  -- ---- where some have none, these are told all domain values first

  module _ (st : State) (h : IsFull its st) (f : Frame) (ready : IsReady its st f) (idle : NoneDue its.top st) (w : WidensFirst (view_of its.top st) st.variables st.store its.distribution) where
    abbrev told : List Tell
    told = interval_news (view_of its.top st) (variables_at st.variables w.bare) whole

    abbrev wide : State
    wide = told_more told st.store st

    wide_view : view_of its.top wide ≡ view_of its.top st ++ told
    wide_view = view_more its.top its.constraints st h.good told st.store

    wide_good : IsGood its.top its.constraints wide
    wide_good = domains_good its.top its.constraints st h.good told st.store w.only w.stays none

    wide_keeps : Keeps (view_of its.top st) (view_of its.top wide)
    wide_keeps = subst (Keeps (view_of its.top st)) (sym wide_view) (keeps_more (view_of its.top st) told)

    wide_full : IsFull its wide
    wide_full = full_more its st wide wide_keeps refl h wide_good refl (parts_refl st.store)

    wide_have : HaveDomains (view_of its.top wide) (variables_at wide.variables its.distribution.over)
    wide_have = subst (λ v. HaveDomains v (variables_at st.variables its.distribution.over)) (sym wide_view) w.have

    wide_on : GoesOn wide (f ∷ [])
    wide_on later q l =
        let full = full_later its Nothing wide later wide_full q l in
        let able = ready_more its wide later l.keeps l.variables f (ready_more its st wide wide_keeps refl f ready) in (
          plain_here its g later full f able,
          λ rests. with_domains later full f able rests
              (have_more its wide later l.keeps l.variables its.distribution.over wide_good q (inside_here its g st h f ready) wide_have) (choice its.distribution later.store) refl,
        )

    widens : R (conf its st (f ∷ [])) st.store
    widens =
        turns.widens its.kernel its.top its.constraints top_fits R back_to failing_to Nothing st h.good f [] idle told w.only w.stays
        (answers its g st h f ready (machine.Widens (variables_at st.variables w.bare)) w.widens) wide_on

  -- ---- from any state on

  at_rest_arrives : (st : State) (h : IsFull its st) (f : Frame) (ready : IsReady its st f) → NoneDue its.top st → R (conf its st (f ∷ [])) st.store
  at_rest_arrives st h f ready idle = elim (domains_or its g st h f ready) [
    | inl w ↦ with_domains st h f ready idle w (choice its.distribution st.store) refl
    | inr w ↦ widens st h f ready idle w
  ]

  goes_on : (st : State) → IsFull its st → (f : Frame) → IsReady its st f → GoesOn st (f ∷ [])
  goes_on st h f ready later q l =
      let full = full_later its Nothing st later h q l in
      let able = ready_more its st later l.keeps l.variables f ready in
      (plain_here its g later full f able, λ rests. at_rest_arrives later full f able rests)

  pub arrives : (st : State) → IsFull its st → (f : Frame) → IsReady its st f → R (conf its st (f ∷ [])) st.store
  arrives st h f ready = due.settle its.kernel its.top its.constraints top_fits R back_to failing_to Nothing (f ∷ []) st h.good (goes_on st h f ready)

-- a state that stands there is full
pub full_stands : (its : Setting) (c : Configuration) (s : Store) (h : Stands its c s) → IsFull its h.state
full_stands its c s h = record { good = h.good; posted = h.posted; parts = h.parts; variables = h.variables; rooted = h.rooted }

pub run_law : RunLaw
run_law its c s g h =
    subst (λ z. Arrives its z s) (sym h.here)
    (subst (Arrives its (conf its h.state (h.frame ∷ []))) h.store
    (arrives its g (Arrives its) (back its) (failing its) (arrives_solved its g)
    (arrives_divided its g) h.state (full_stands its c s h) h.frame h.distributes))

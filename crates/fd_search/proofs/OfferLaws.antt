-- What a thread that distributes answers.
use Rattle.std.proofs.Common.{◌≡◌, ◌⊎◌, inl, inr, ◌<◌, not, List, [], ◌∷◌, length, Contains, All, Option, refl, sym, ◌∙◌, ap, subst}
use Rattle.oz_base.specs.declared.names.Ident.{Ident}
use Rattle.oz_base.specs.declared.distribution.Split.{Split}
use Rattle.oz_semantics.specs.Store.{View, is_determined}
use Rattle.oz_semantics.specs.Inputs.{Known}
use Rattle.oz_semantics.specs.Answers.{Answer}
use Rattle.oz_semantics.specs.Distributors as machine
use Rattle.oz_semantics.specs.Distributors.{undetermined, distribution_of}
use Rattle.oz_semantics.specs.Builtins.{distributes}
use Rattle.oz_semantics.specs.declared.configuration.Frame.{Frame}
use Rattle.fd_stores.specs.Choices.{choice}
use Rattle.fd_views.specs.Views.{variables_at, HaveDomains}
use Rattle.fd_runs.specs.Offers.{offer_of, WidensFirst}
use Rattle.fd_runs.proofs.OfferLaws.{offers, widens_first}
use Rattle.fd_turns.specs.Nodes.{answered}
use Rattle.fd_turns.proofs.SettleLaws.{IsPlainAnswer}
use Rattle.fd_steps.specs.States.{State, node_of, view_of}
use Rattle.fd_steps.proofs.GoodLaws.{is_variable}
use Rattle.fd_search.specs.Laws.{Setting, IsSearched}
use Rattle.fd_search.proofs.StateLaws.{IsFull, IsReady, filtered_from}

-- a distributor does no operation on a space
distributes_plain : (view : View) (d : machine.Distribution) → IsPlainAnswer (distributes view d)
distributes_plain view (machine.Widens xs) = tt
distributes_plain view machine.Finished = tt
distributes_plain view (machine.Splits one other xs) = tt

module _ (its : Setting) (g : IsSearched its) (st : State) (h : IsFull its st) (f : Frame) (ready : IsReady its st f) where
  abbrev seen : View
  seen = view_of its.top st

  abbrev pub over : List Ident
  over = variables_at st.variables its.distribution.over

  -- the stack with the thread's one statement
  abbrev Answers : Answer → Type 0
  Answers a = answered its.kernel.statements its.top (node_of st (f ∷ [])) ≡ a

  pub inside_here : All (λ x. x < length st.variables) its.distribution.over
  inside_here = subst (λ xs. All (λ x. x < length xs) its.distribution.over) (sym h.variables) g.inside

  pub answers : (d : machine.Distribution) → distribution_of seen its.distribution.rule over ≡ Known d → Answers (distributes seen d)
  answers d e = ready.answers st h.good (λ u c. c) refl d e

  -- where its variables have domains it offers the parts of the split, or is done
  pub offers_here : HaveDomains seen over → (o : Option Split) → choice its.distribution st.store ≡ o → Answers (distributes seen (offer_of seen st.variables its.distribution st.store o))
  offers_here w o e =
      let good = h.good in
      let k = good.over in
      answers (offer_of seen st.variables its.distribution st.store o) (offers seen st.variables st.store its.distribution good.stands k.domains inside_here w ∙ ap (λ z. Known (offer_of seen st.variables its.distribution st.store z)) e)

  -- and else it tells them all domain values first
  pub domains_or : HaveDomains seen over ⊎ WidensFirst seen st.variables st.store its.distribution
  domains_or = (let good = h.good in let k = good.over in widens_first seen st.variables st.store its.distribution good.stands k.domains inside_here)

  pub plain_here : IsPlainAnswer (answered its.kernel.statements its.top (node_of st (f ∷ [])))
  plain_here = elim domains_or [
    | inl w ↦ (let o = offer_of seen st.variables its.distribution st.store (choice its.distribution st.store) in subst IsPlainAnswer (sym (offers_here w (choice its.distribution st.store) refl)) (distributes_plain seen o))
    | inr w ↦ (let d = machine.Widens (variables_at st.variables w.bare) in subst IsPlainAnswer (sym (answers d w.widens)) (distributes_plain seen d))
  ]

  -- it waits for variables of the search
  pub waits_among : (x : Ident) → Contains (undetermined seen over) x → Contains st.variables x
  waits_among x c = is_variable st.variables its.distribution.over x inside_here (filtered_from (λ y. not (is_determined seen y)) over x c)

-- Where a run ends: at a solution, or at a choice of two alternatives.
use Rattle.std.proofs.Common.{◌≡◌, ◌==◌, inl, inr, ℕ, true, false, not, ◌||◌, if◌then◌else◌, List, [], ◌∷◌, ◌++◌, flat_map, filter, Contains, Some, None, refl, sym, ◌∙◌, ap, subst}
use Rattle.std.proofs.lemmas.List.Elements.{Contains-append_cases}
use Rattle.std.specs.List.{list_any}
use Rattle.oz_base.specs.declared.names.Ident.{Ident}
use Rattle.oz_base.specs.declared.distribution.Split.{Split}
use Rattle.oz_domains.specs.Positions.{all_single}
use Rattle.oz_base.specs.Lists.{is_empty}
use Rattle.oz_semantics.specs.Store.{View, is_determined, is_consistent}
use Rattle.oz_semantics.specs.Texts.{term_text}
use Rattle.oz_semantics.specs.Sights.{Parts, can_step, waits_of, offer_of}
use Rattle.oz_semantics.specs.Readiness.{answer_ready}
use Rattle.oz_semantics.specs.Propagation.{is_undecided}
use Rattle.oz_semantics.specs.Spaces.{is_held, stable_state, goes_on, state}
use Rattle.oz_semantics.specs.Search.{chosen_in, state_text}
use Rattle.oz_semantics.specs.declared.value.Tell.{Tell}
use Rattle.oz_semantics.specs.declared.configuration.Frame.{Frame}
use Rattle.oz_semantics.specs.declared.configuration.Propagator.{Propagator}
use Rattle.oz_semantics.specs.declared.configuration.Configuration.{Configuration}
use Rattle.oz_semantics.specs.declared.outcome.State.TheVariants.{Alternatives, Solved}
use Rattle.fd_stores.specs.Stores.{Store, Posted, none, AtRest}
use Rattle.fd_stores.specs.Choices.{choice}
use Rattle.fd_stores.proofs.PlaceLaws.{choice_none}
use Rattle.fd_trees.specs.Trees.{IsSolved}
use Rattle.fd_trees.specs.Laws.{IsEnd}
use Rattle.fd_trees.proofs.AnswerLaws.{solved_end}
use Rattle.fd_views.proofs.DeterminedLaws.{decided_at}
use Rattle.fd_runs.specs.Offers.{first_tell, second_tell}
use Rattle.fd_stores.proofs.Lists.{contains_none}
use Rattle.fd_turns.specs.Nodes.{node_space, own, answered}
use Rattle.fd_turns.specs.Moves.{stays}
use Rattle.fd_turns.proofs.SettleLaws.{IsPlainAnswer, view_is}
use Rattle.fd_turns.proofs.RestLaws.{goes_on_is, rest_state}
use Rattle.fd_turns.proofs.ChoiceLaws.{chosen_is}
use Rattle.fd_steps.specs.States.{State, node_of, view_of, IsGood, NoneDue}
use Rattle.fd_search.specs.Searching.{solved, divided}
use Rattle.fd_search.specs.Laws.{Setting, IsSearched, Stands, Arrives}
use Rattle.fd_search.proofs.HeldLaws.{top_variables, none_held, top_alike}
use Rattle.fd_search.proofs.RestLaws.{at_rest}
use Rattle.fd_search.proofs.NextLaws.{conf, Leaves, Offering, next_fits, next_plain, next_stands}
use Rattle.fd_search.proofs.StateLaws.{IsFull, IsReady, none_pass, undecided_variable, none_due}

module _ (its : Setting) (g : IsSearched its) (st : State) (h : IsFull its st) (idle : NoneDue its.top st) where
  abbrev seen : View
  seen = view_of its.top st

  abbrev good : IsGood its.top its.constraints st
  good = h.good

  pub at_rest_here : AtRest its.constraints st.store
  at_rest_here = at_rest its.top its.constraints st good idle h.posted

  abbrev undecided : List Ident
  undecided = flat_map (λ (p : Propagator). p.variables) (filter (is_undecided seen) st.propagators)

  -- what waits for variables of the search waits for none of the top
  not_held : (xs : List Ident) → ((x : Ident) → Contains xs x → Contains st.variables x) → list_any (is_held seen (top_variables its.top)) (xs ++ undecided) ≡ false
  not_held xs f = none_held its.top its.constraints st good (xs ++ undecided) (λ x c. elim (Contains-append_cases xs undecided x c) [ inl k ↦ f x k | inr k ↦ undecided_variable its.top its.constraints st good x k ])

  module _ (frames : List Frame) (plain : IsPlainAnswer (answered its.kernel.statements its.top (node_of st frames))) (waits : can_step (answer_ready (answered its.kernel.statements its.top (node_of st frames))) ≡ false) where
    -- nothing of it goes on
    pub stops_here : goes_on its.kernel.statements (conf its st frames).layers node_space ≡ false
    stops_here = goes_on_is its.kernel.statements its.top (node_of st frames) plain ∙ (λ i. waits i || none_due its.top its.constraints st good idle i)

    state_here : ((x : Ident) → Contains (waits_of (answer_ready (answered its.kernel.statements its.top (node_of st frames)))) x → Contains st.variables x)
        → state its.kernel.statements (conf its st frames).layers node_space
        ≡ Some (stable_state (offer_of (answer_ready (answered its.kernel.statements its.top (node_of st frames)))) (not (is_empty frames) || list_any (is_undecided seen) st.propagators))
    state_here f =
        rest_state its.kernel.statements its.top (node_of st frames) plain waits (none_due its.top its.constraints st good idle) (not_held (waits_of (answer_ready (answered its.kernel.statements its.top (node_of st frames)))) f)
        (top_alike its.top its.constraints st good g.known)

  -- ---- a solution

  module _ (e : choice its.distribution st.store ≡ None) where
    is_end : IsEnd its.constraints its.distribution its.start st.store
    is_end = (let o = h.good in record { over = o.over; parts = h.parts; rest = at_rest_here; determined = choice_none its.distribution st.store e })

    pub all_determined : all_single st.store ≡ true
    all_determined = (let q = g.search in (solved_end its.constraints its.distribution its.start st.store q.over is_end g.follows).0)

    is_solved : IsSolved its.constraints st.store
    is_solved = (let q = g.search in (solved_end its.constraints its.distribution its.start st.store q.over is_end g.follows).1)

    decided : (p : Propagator) → Contains st.propagators p → is_undecided seen p ≡ false
    decided p c =
        let o = h.good in
        let k = o.posts p c in
        ap (list_any (λ x. not (is_determined seen x))) k.variables ∙ decided_at seen st.variables st.store o.stands k.places k.inside ∙ ap not (is_solved (Posted p.relation k.places) k.among)

    pub solved_state : state its.kernel.statements (conf its st []).layers node_space ≡ Some Solved
    solved_state = state_here [] tt refl (λ x c. absurd (contains_none x c)) ∙ ap (λ b. Some (stable_state None b)) (none_pass (is_undecided seen) st.propagators decided)

    pub shown_text : (state_text its.kernel.words (conf its st []) node_space Solved).bytes ≡ its.shown st.store
    shown_text = ap (λ v. (term_text its.kernel.words v (own 0)).bytes) (view_is its.kernel.statements its.top (node_of st [])) ∙ g.text st h.good h.variables h.rooted all_determined

    pub arrives_solved : Arrives its (conf its st []) st.store
    arrives_solved = record {
      last = conf its st [];
      turns = 0;
      moves = stays;
      stops = stops_here [] tt refl;
      ends = solved st.store (record { runs = none; rest = at_rest_here }) e solved_state shown_text;
    }

  -- ---- a choice

  module _ (f : Frame) (ready : IsReady its st f) (p : Split) (e : choice its.distribution st.store ≡ Some p) (o : Offering its st f p) where
    abbrev one : Tell
    one = first_tell st.variables its.distribution st.store p

    abbrev other : Tell
    other = second_tell st.variables its.distribution st.store p

    pub plain_now : IsPlainAnswer (answered its.kernel.statements its.top (node_of st (f ∷ [])))
    plain_now = subst IsPlainAnswer (sym o.answer) tt

    pub waits_now : can_step (answer_ready (answered its.kernel.statements its.top (node_of st (f ∷ [])))) ≡ false
    waits_now = ap (λ a. can_step (answer_ready a)) o.answer

    pub divided_state : state its.kernel.statements (conf its st (f ∷ [])).layers node_space ≡ Some (Alternatives 2)
    divided_state =
        state_here (f ∷ []) plain_now waits_now (λ x c. o.among x (subst (λ a. Contains (waits_of (answer_ready a)) x) o.answer c))
        ∙ ap (λ a. Some (stable_state (offer_of (answer_ready a)) true)) o.answer

    pub offers_parts : offer_of (answer_ready (answered its.kernel.statements its.top (node_of st (f ∷ [])))) ≡ Some (Parts one other)
    offers_parts = ap (λ a. offer_of (answer_ready a)) o.answer

    top_fits : is_consistent its.top.tells ≡ true
    top_fits = (let q = g.known in q.fits)

    abbrev part : ℕ → Tell
    part i = if i == 1 then one else other

    abbrev chosen : ℕ → Configuration
    chosen i = chosen_in its.kernel.statements node_space i (conf its st (f ∷ []))

    -- committed to an alternative, it stands for what is left with it
    chosen_stands : (i : ℕ) (a : Store) → Leaves its st (part i ∷ []) a → Stands its (chosen i) a
    chosen_stands i a k =
        next_stands its g st h f ready (part i ∷ []) a k (chosen i)
        (chosen_is its.kernel its.top st.tells f [] st.propagators st.next one other offers_parts top_fits i (next_fits its g st h f ready (part i ∷ []) a k) (next_plain its g st h f ready (part i ∷ []) a k))

    pub arrives_divided : Arrives its (conf its st (f ∷ [])) st.store
    arrives_divided = record {
      last = conf its st (f ∷ []);
      turns = 0;
      moves = stays;
      stops = stops_here (f ∷ []) plain_now waits_now;
      ends = divided st.store p (record { runs = none; rest = at_rest_here }) e divided_state (λ a q. chosen_stands 1 a (o.first a q)) (λ b q. chosen_stands 2 b (o.second b q));
    }

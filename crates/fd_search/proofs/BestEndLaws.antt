-- Best search: where a run ends, at a solution with its cost, or at a choice of two alternatives, each under any bound.
use Rattle.std.proofs.Common.{◌≡◌, ℕ, zero, suc, ◌<◌, ◌==◌, ℤ, Bool, true, false, if◌then◌else◌, List, [], ◌∷◌, length, Option, Some, None, option_map, option_and_then, refl, sym, ◌∙◌, ap, subst, arith}
use Rattle.oz_base.specs.declared.distribution.Split.{Split}
use Rattle.oz_language.specs.declared.kernel.Constant.{Constant}
use Rattle.oz_domains.specs.Domains.{is_single, least, only}
use Rattle.oz_domains.specs.Positions.{domain, all_single}
use Rattle.search_law.specs.BestLaw.{bounded}
use Rattle.oz_semantics.specs.Values.{integer, integer_in}
use Rattle.oz_semantics.specs.Store.{View, is_consistent, value_of}
use Rattle.oz_semantics.specs.Spaces.{goes_on, state}
use Rattle.oz_semantics.specs.BestSearch.{root_field, field_in, bound_tells, chosen_below}
use Rattle.oz_semantics.specs.declared.value.Tell.{Tell}
use Rattle.oz_semantics.specs.declared.configuration.Frame.{Frame}
use Rattle.oz_semantics.specs.declared.configuration.Configuration.{Configuration}
use Rattle.oz_semantics.specs.declared.outcome.State.TheVariants as outcome
use Rattle.fd_domain.proofs.SetLaws.{and_left, and_right}
use Rattle.fd_stores.specs.Stores.{Store, none}
use Rattle.fd_stores.specs.Choices.{choice}
use Rattle.fd_views.specs.Views.{variable_at, IsTold}
use Rattle.fd_views.proofs.ValueLaws.{value_is}
use Rattle.fd_views.proofs.DeterminedLaws.{value_at}
use Rattle.fd_bounds.specs.Bounds.{below, cost_of}
use Rattle.fd_bounds.proofs.BoundLaws.{bounded_by}
use Rattle.fd_runs.specs.Offers.{first_tell, second_tell}
use Rattle.fd_turns.specs.Nodes.{node_space, own, failed_config}
use Rattle.fd_turns.specs.Moves.{stays}
use Rattle.fd_turns.proofs.SettleLaws.{view_is}
use Rattle.fd_steps.specs.States.{State, node_of, view_of, NoneDue}
use Rattle.fd_steps.proofs.GoodLaws.{view_more}
use Rattle.fd_search.specs.Laws.{Setting, IsSearched}
use Rattle.fd_search.specs.BestSearching.{IsCost, StandsForLeft, solved, divided, ComesBelow}
use Rattle.fd_search.proofs.StateLaws.{IsFull, IsReady}
use Rattle.fd_search.proofs.BackLaws.{failed_stops, failed_state}
use Rattle.fd_search.proofs.NextLaws.{conf, Leaves, Offering, next, next_full, next_ready, next_fits, next_plain, next_stands}
use Rattle.fd_search.proofs.EndLaws.{at_rest_here, stops_here, all_determined, solved_state, shown_text, plain_now, waits_now, divided_state, offers_parts}
use Rattle.fd_search.proofs.BoundLaws.{root_field_is, bound_domains, bound_told}
use Rattle.fd_search.proofs.BelowLaws.{below_is, below_fails}

-- each domain of a determined store has one value
single_at : (s : Store) (x : ℕ) → x < length s → all_single s ≡ true → is_single (domain s x) ≡ true
single_at [] x l e = absurd (omega (arith, l))
single_at (d ∷ s) zero l e = and_left (is_single d) (all_single s) e
single_at (d ∷ s) (suc x) l e = single_at s x (omega (arith, l)) (and_right (is_single d) (all_single s) e)

-- its integer
determined_to : (s : Store) (x : ℕ) → is_single (domain s x) ≡ true → option_and_then integer_in (option_map integer (only (domain s x))) ≡ Some (least (domain s x))
determined_to s x e = ap (λ (b : Bool). option_and_then integer_in (option_map integer (if b then Some (least (domain s x)) else None))) e

module _ (its : Setting) (g : IsSearched its) (feature : Constant) (cost : ℕ) (k : IsCost its feature cost) where
  -- ---- the cost of a space that is full

  module _ (st : State) (h : IsFull its st) where
    abbrev seen : View
    seen = view_of its.top st

    inside : cost < length st.variables
    inside = subst (λ xs. cost < length xs) (sym h.variables) k.inside

    within : cost < length st.store
    within = (let o = h.good in let s = o.stands in let f = s.fits in let l = inside in omega (arith, f, l))

    field_is : root_field seen node_space feature ≡ Some (variable_at st.variables cost)
    field_is =
        let o = h.good in
        let s = o.stands in
        root_field_is seen node_space feature its.root (variable_at st.variables cost) (value_is seen st.variables (own 0) its.root s.plain h.rooted)
        (k.field ∙ ap (λ xs. Some (variable_at xs cost)) (sym h.variables))

    cost_is : all_single st.store ≡ true → field_in seen node_space feature ≡ Some (cost_of cost st.store)
    cost_is e =
        let o = h.good in
        ap (option_and_then (λ x. option_and_then integer_in (value_of seen x))) field_is
        ∙ ap (option_and_then integer_in) (value_at seen st.variables st.store o.stands cost inside)
        ∙ determined_to st.store cost (single_at st.store cost within e)

  -- ---- a solution

  pub comes_solved : (st : State) → IsFull its st → NoneDue its.top st → choice its.distribution st.store ≡ None → ComesBelow its feature cost (conf its st []) st.store
  comes_solved st h idle e = record {
    last = conf its st [];
    turns = 0;
    moves = stays;
    stops = stops_here its g st h idle [] tt refl;
    ends = solved st.store (record { runs = none; rest = at_rest_here its g st h idle }) e (solved_state its g st h idle e) (shown_text its g st h idle e)
        (ap (λ v. field_in v node_space feature) (view_is its.kernel.statements its.top (node_of st [])) ∙ cost_is st h (all_determined its g st h idle e));
  }

  -- ---- a choice

  module _ (st : State) (h : IsFull its st) (idle : NoneDue its.top st) (f : Frame) (ready : IsReady its st f) (p : Split) (e : choice its.distribution st.store ≡ Some p) (o : Offering its st f p) where
    abbrev part : ℕ → Tell
    part i = if i == 1 then first_tell st.variables its.distribution st.store p else second_tell st.variables its.distribution st.store p

    abbrev chosen : ℕ → Option ℤ → Configuration
    chosen i u = chosen_below its.kernel.statements node_space feature (bounded i u) (conf its st (f ∷ []))

    top_fits : is_consistent its.top.tells ≡ true
    top_fits = (let q = g.known in q.fits)

    -- an alternative is told, and then a bound
    module _ (i : ℕ) (u : Option ℤ) (a : Store) (l : Leaves its st (part i ∷ []) a) where
      abbrev after : State
      after = next its g st h f ready (part i ∷ []) a l

      full : IsFull its after
      full = next_full its g st h f ready (part i ∷ []) a l

      able : IsReady its after f
      able = next_ready its g st h f ready (part i ∷ []) a l

      abbrev tells : List Tell
      tells = bound_tells (view_of its.top after) node_space feature u

      told : IsTold (view_of its.top after) after.variables tells (below cost u a)
      told = (let d = full.good in let v = d.over in bound_told (view_of its.top after) node_space feature after.variables a cost d.stands v.domains (inside after full) (field_is after full) u)

      left_of : (m : Store) → below cost u a ≡ Some m → IsTold (view_of its.top after) after.variables tells (Some m) → Leaves its after tells m
      left_of m q t =
          let d = full.good in
          let v = d.over in
          let b = bounded_by its.constraints its.distribution cost u a m v (within after full) q in
          (bound_domains (view_of its.top after) node_space feature after.variables a cost d.stands v.domains (inside after full) (field_is after full) u, t, b.over, b.parts)

      stands_left : (m : Option Store) → below cost u a ≡ m → IsTold (view_of its.top after) after.variables tells m → StandsForLeft its feature cost (chosen i u) m
      stands_left None q t =
          let here : chosen i u ≡ failed_config its.top st.next =
          below_fails its.kernel its.top st.tells f [] st.propagators st.next (part 1) (part 2) (offers_parts its g st h idle f ready p e o) top_fits feature i u
          (ap is_consistent (view_more its.top its.constraints after full.good tells a) ∙ t) in
          subst (λ c. (goes_on its.kernel.statements c.layers node_space ≡ false) × (state its.kernel.statements c.layers node_space ≡ Some outcome.Failed)) (sym here)
          (failed_stops its.kernel.statements its.top st.next, failed_state its.kernel.statements its.top st.next)
      stands_left (Some m) q t =
          let n = left_of m q t in
          next_stands its g after full f able tells m n (chosen i u)
          (below_is its.kernel its.top st.tells f [] st.propagators st.next (part 1) (part 2) (offers_parts its g st h idle f ready p e o) top_fits feature i u
          (next_fits its g after full f able tells m n) (next_plain its g after full f able tells m n))

      stands_below : StandsForLeft its feature cost (chosen i u) (below cost u a)
      stands_below = stands_left (below cost u a) refl told

    pub comes_divided : ComesBelow its feature cost (conf its st (f ∷ [])) st.store
    comes_divided = record {
      last = conf its st (f ∷ []);
      turns = 0;
      moves = stays;
      stops = stops_here its g st h idle (f ∷ []) (plain_now its g st h idle f ready p e o) (waits_now its g st h idle f ready p e o);
      ends = divided st.store p (record { runs = none; rest = at_rest_here its g st h idle }) e (divided_state its g st h idle f ready p e o) (λ u a q. stands_below 1 u a (o.first a q)) (λ u b q. stands_below 2 u b (o.second b q));
    }

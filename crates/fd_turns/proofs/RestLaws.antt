-- When the space goes on, and its state where it does not.
use Rattle.std.proofs.Common.{◌≡◌, ℕ, Bool, true, false, not, ◌&&◌, ◌||◌, ◌==◌, if◌then◌else◌, List, [], ◌∷◌, ◌++◌, map, filter, Option, Some, None, is_some, refl, sym, ◌∙◌, ap, subst}
use Rattle.std.proofs.lemmas.List.{append-nil}
use Rattle.std.specs.List.{list_any, flat_map, filter_map, cons_option}
use Rattle.oz_base.specs.Lists.{first, is_empty}
use Rattle.oz_base.specs.declared.names.Ident.{Ident}
use Rattle.oz_language.specs.declared.kernel.Statement.{Statement}
use Rattle.oz_semantics.specs.Store.{View, is_consistent}
use Rattle.oz_semantics.specs.Configurations.{view, variables_of, ancestor_variables}
use Rattle.oz_semantics.specs.Sights.{Offer, Parts, Readiness, States, Steps, Waits, can_step, waits_of, offer_of, count_of}
use Rattle.oz_semantics.specs.Answers.{Answer, Rests}
use Rattle.oz_semantics.specs.Readiness.{answer_ready}
use Rattle.oz_semantics.specs.Statements.{stack_answer}
use Rattle.oz_semantics.specs.Propagation.{is_due, is_undecided}
use Rattle.oz_semantics.specs.Spaces.{states_of, readinesses, ready_in, has_due, subtree_goes_on, goes_on, is_held, undecided_in, alike_on, is_stable, waits_outside, offer_in, is_left, stable_state, open_state, state}
use Rattle.oz_semantics.specs.declared.configuration.Frame.{Frame}
use Rattle.oz_semantics.specs.declared.configuration.Thread.{Thread}
use Rattle.oz_semantics.specs.declared.configuration.Propagator.{Propagator}
use Rattle.oz_semantics.specs.declared.configuration.Layer.{Layer}
use Rattle.oz_semantics.specs.declared.outcome.State.{State}
use Rattle.oz_semantics.specs.declared.outcome.State.TheVariants.{Running, Suspended}
use Rattle.view_laws.specs.Readies.{seeing}
use Rattle.fd_turns.specs.Nodes.{Top, Node, top_layer, node_space, node_thread, threads_of, node_layer, seen, answered, config}
use Rattle.fd_turns.proofs.SettleLaws.{IsPlainAnswer, view_is, top_view, answer_is}

-- what is read of the threads is what is read of the one, which waits for nothing where it is gone
one_ready : {A : Type 0} (fs : List Frame) (ready : Thread → Readiness) (r : Readiness) (read : List Readiness → A) → (fs ≡ [] → r ≡ Waits []) → ready (record { number = 1; frames = fs }) ≡ r
    → read [] ≡ read (Waits [] ∷ []) → read (map ready (threads_of fs)) ≡ read (r ∷ [])
one_ready [] ready r read h e n = n ∙ ap (λ x. read (x ∷ [])) (sym (h refl))
one_ready (f ∷ fs) ready r read h e n = ap (λ x. read (x ∷ [])) e

threads_left : (fs : List Frame) → is_empty (threads_of fs) ≡ is_empty fs
threads_left [] = refl
threads_left (f ∷ fs) = refl

module _ (statements : List Statement) (t : Top) (s : Node) (plain : IsPlainAnswer (answered statements t s)) where
  abbrev layers : List Layer
  layers = top_layer t ∷ node_layer s ∷ []

  abbrev ready : Readiness
  ready = answer_ready (answered statements t s)

  abbrev due : Bool
  due = list_any (is_due (seen t s)) s.propagators

  -- ---- what its thread can do

  ready_as : {A : Type 0} (states : States) (read : List Readiness → A) → read [] ≡ read (Waits [] ∷ []) → read (readinesses statements layers states (node_layer s)) ≡ read (ready ∷ [])
  ready_as states read n =
      one_ready s.frames (ready_in statements layers states node_space) ready read (λ e. ap (λ fs. answer_ready (stack_answer (seeing statements node_space (seen t s)) fs)) e)
      (ap answer_ready (answer_is statements t s plain states)) n

  goes_by : (states : States) → subtree_goes_on statements layers states node_space ≡ (can_step ready || due)
  goes_by states =
      ready_as states (λ rs. (list_any can_step rs || has_due (view layers node_space) (node_layer s)) || false) refl
      ∙ ap (λ v. ((can_step ready || false) || list_any (is_due v) s.propagators) || false) (view_is statements t s)
      ∙ by (can_step ready) due where
        by : (a b : Bool) → (((a || false) || b) || false) ≡ (a || b)
        by true b = refl
        by false true = refl
        by false false = refl

  pub goes_on_is : goes_on statements layers node_space ≡ (can_step ready || due)
  goes_on_is = goes_by (states_of statements layers)

  -- ---- its state

  abbrev undecided : List Ident
  undecided = flat_map (λ (p : Propagator). p.variables) (filter (is_undecided (seen t s)) s.propagators)

  abbrev top_variables : List Ident
  top_variables = variables_of (top_layer t)

  above : ancestor_variables layers node_space ≡ top_variables
  above = append-nil top_variables

  waits_by : (states : States) → waits_outside statements layers states node_space ≡ list_any (is_held (seen t s) top_variables) (waits_of ready ++ undecided)
  waits_by states =
      ready_as states (λ rs. list_any (is_held (view layers node_space) (ancestor_variables layers node_space)) (flat_map waits_of rs ++ undecided_in (view layers node_space) (node_layer s)) || false) refl
      ∙ (λ i. list_any (is_held (view_is statements t s i) (above i)) ((waits_of ready ++ []) ++ undecided_in (view_is statements t s i) (node_layer s)) || false)
      ∙ ap (λ xs. list_any (is_held (seen t s) top_variables) (xs ++ undecided) || false) (append-nil (waits_of ready))
      ∙ by (list_any (is_held (seen t s) top_variables) (waits_of ready ++ undecided)) where
        by : (b : Bool) → (b || false) ≡ b
        by true = refl
        by false = refl

  offer_by : (states : States) → offer_in statements layers states (node_layer s) ≡ offer_of ready
  offer_by states = ready_as states (λ rs. first (filter_map offer_of rs)) refl ∙ by (offer_of ready) where
    by : (o : Option Offer) → first (cons_option o []) ≡ o
    by None = refl
    by (Some a) = refl

  abbrev left : Bool
  left = not (is_empty s.frames) || list_any (is_undecided (seen t s)) s.propagators

  left_by : is_left (view layers node_space) (node_layer s) ≡ left
  left_by = λ i. not (threads_left s.frames i) || list_any (is_undecided (view_is statements t s i)) s.propagators

  -- where nothing of it can step or is due, it waits for nothing of the top and tells it nothing
  pub rest_state : can_step ready ≡ false → due ≡ false → list_any (is_held (seen t s) top_variables) (waits_of ready ++ undecided) ≡ false → alike_on top_variables (seen t s) t.tells ≡ true
      → state statements layers node_space ≡ Some (stable_state (offer_of ready) left)
  rest_state e f w a =
      let rests : subtree_goes_on statements layers [] node_space ≡ false = goes_by [] ∙ (λ i. e i || f i) in
      let stable : is_stable statements layers [] node_space ≡ true = (λ i. (not (rests i) && not ((waits_by [] ∙ w) i)) && ((λ j. alike_on (above j) (view_is statements t s j) (top_view statements t s j)) ∙ a) i) in
      λ i. Some (if rests i then Running else (if stable i then stable_state (offer_by [] i) (left_by i) else Suspended))

-- A space that is committed to an alternative under a bound.
use Rattle.std.proofs.Common.{◌≡◌, ℕ, ◌==◌, ℤ, Bool, true, false, not, ◌||◌, if◌then◌else◌, List, [], ◌∷◌, ◌++◌, map, Option, Some, None, is_some, refl, ◌∙◌, ap}
use Rattle.std.specs.List.{fold, cons_option}
use Rattle.oz_base.specs.Lists.{first}
use Rattle.oz_language.specs.declared.kernel.Constant.{Constant}
use Rattle.oz_language.specs.declared.kernel.Statement.{Statement}
use Rattle.oz_language.specs.declared.kernel.Kernel.{Kernel}
use Rattle.search_law.specs.BestLaw.{bounded}
use Rattle.oz_semantics.specs.Store.{is_consistent}
use Rattle.oz_semantics.specs.Configurations.{view}
use Rattle.oz_semantics.specs.Sights.{Offer, Parts, can_step, offer_of}
use Rattle.oz_semantics.specs.Readiness.{answer_ready}
use Rattle.oz_semantics.specs.Statements.{stack_answer}
use Rattle.oz_semantics.specs.Edits.{chosen_tells, choosing, thread_offer}
use Rattle.oz_semantics.specs.Spaces.{sight}
use Rattle.oz_semantics.specs.Settling.{Turned, settled, top_is_inconsistent, inconsistent_spaces, failing, without_inconsistent, requeued, queue_after, top_failed}
use Rattle.oz_semantics.specs.Triggers.{triggered}
use Rattle.oz_semantics.specs.Runs.{left_by}
use Rattle.oz_semantics.specs.BestSearch.{bound_tells, chosen_below}
use Rattle.oz_semantics.specs.declared.value.Tell.{Tell}
use Rattle.oz_semantics.specs.declared.configuration.Frame.{Frame}
use Rattle.oz_semantics.specs.declared.configuration.Thread.{Thread}
use Rattle.oz_semantics.specs.declared.configuration.Propagator.{Propagator}
use Rattle.oz_semantics.specs.declared.configuration.Layer.{Layer}
use Rattle.oz_semantics.specs.declared.configuration.Configuration.{Configuration}
use Rattle.oz_semantics.specs.declared.outcome.Stepped.TheVariants.{Moved}
use Rattle.view_laws.specs.Readies.{seeing}
use Rattle.view_laws.proofs.NeedLaws.{nothing_fires}
use Rattle.fd_turns.specs.Nodes.{Top, Node, top_layer, node_space, node_layer, seen, answered, config, failed_layer, failed_config}
use Rattle.fd_turns.proofs.SettleLaws.{IsPlainAnswer, queue_if, queue_rested, view_is, top_view, settled_as}

-- ---- a space that sees what is inconsistent fails alone

module _ (statements : List Statement) (t : Top) (s : Node) (top_fits : is_consistent t.tells ≡ true) (clash : is_consistent (seen t s) ≡ false) where
  abbrev layers : List Layer
  layers = top_layer t ∷ node_layer s ∷ []

  abbrev left : List Layer
  left = top_layer t ∷ failed_layer s.next ∷ []

  top_stays : top_is_inconsistent layers ≡ false
  top_stays = ap (λ v. not (is_consistent v) || false) (top_view statements t s) ∙ ap (λ b. not b || false) top_fits

  one_fails : inconsistent_spaces layers ≡ node_space ∷ []
  one_fails = by (is_consistent (view layers [])) (is_consistent (view layers node_space)) (ap is_consistent (top_view statements t s) ∙ top_fits) (ap is_consistent (view_is statements t s) ∙ clash) where
    by : (a b : Bool) → a ≡ true → b ≡ false → map (λ (l : Layer). l.space) (if not a then top_layer t ∷ (if not b then node_layer s ∷ [] else []) else (if not b then node_layer s ∷ [] else [])) ≡ node_space ∷ []
    by true false d e = refl
    by true true d e = cc
    by false b d e = cc

  ends : triggered statements (without_inconsistent layers) ≡ left
  ends = ap (λ ss. triggered statements (fold failing layers ss)) one_fails ∙ nothing_fires statements left refl

  pub settled_clash : (b : Bool) → settled statements None 1 (record { layers = layers; queue = queue_if b; shown = [] }) ≡ (Moved 1, failed_config t s.next)
  settled_clash b =
      ap (λ d. if d then top_failed 1 c else (Moved 1, requeued statements None c (triggered statements (without_inconsistent layers)))) top_stays
      ∙ ap (λ (ls : List Layer). moved_to (requeued statements None c ls)) ends
      ∙ ap (λ q. (Moved 1, record { layers = left; queue = q; shown = [] })) (emptied b) where
        c : Configuration
        c = record { layers = layers; queue = queue_if b; shown = [] }

        moved_to : Configuration → Turned
        moved_to d = (Moved 1, d)

        emptied : (a : Bool) → queue_after [] None (queue_if a) ≡ []
        emptied true = refl
        emptied false = refl

-- ---- a commitment under a bound

module _ (k : Kernel) (t : Top) (ts : List Tell) (f : Frame) (fs : List Frame) (ps : List Propagator) (n : ℕ) (one other : Tell)
    (offers : offer_of (answer_ready (answered k.statements t (record { tells = ts; frames = f ∷ fs; propagators = ps; next = n }))) ≡ Some (Parts one other)) (top_fits : is_consistent t.tells ≡ true)
    (feature : Constant) (i : ℕ) (u : Option ℤ) where
  abbrev s : Node
  s = record { tells = ts; frames = f ∷ fs; propagators = ps; next = n }

  abbrev the_thread : Thread
  the_thread = record { number = 1; frames = f ∷ fs }

  abbrev part : Tell
  part = if i == 1 then one else other

  -- what the space is told then
  abbrev pub more : List Tell
  more = bound_tells (seen t (record s { tells = ts ++ part ∷ [] })) node_space feature u

  abbrev pub told : Node
  told = record s { tells = (ts ++ part ∷ []) ++ more }

  -- what the layer becomes, by the offer of its thread
  abbrev by_offer : Option Offer → Layer
  by_offer o = record (node_layer s) { tells = ts ++ chosen_tells i (first (cons_option o [])); threads = (if is_some o then choosing i the_thread o ∷ [] else the_thread ∷ []) }

  abbrev with_bound : Layer → Layer
  with_bound l = record l { tells = l.tells ++ bound_tells (view (top_layer t ∷ l ∷ []) node_space) node_space feature u }

  abbrev chosen : Configuration
  chosen = chosen_below k.statements node_space feature (bounded i u) (config k.statements t s)

  offer_is : thread_offer (sight k.statements (top_layer t ∷ node_layer s ∷ []) node_space) the_thread ≡ offer_of (answer_ready (answered k.statements t s))
  offer_is = ap (λ v. offer_of (answer_ready (stack_answer (seeing k.statements node_space v) (f ∷ fs)))) (view_is k.statements t s)

  chosen_as : chosen ≡ left_by (settled k.statements None 1 (record (config k.statements t s) { layers = top_layer t ∷ node_layer told ∷ [] }))
  chosen_as =
      ap (λ o. left_by (settled k.statements None 1 (record (config k.statements t s) { layers = top_layer t ∷ with_bound (by_offer o) ∷ [] }))) (offer_is ∙ offers)
      ∙ ap (λ v. left_by (settled k.statements None 1 (record (config k.statements t s) { layers = top_layer t ∷ node_layer (record s { tells = (ts ++ part ∷ []) ++ bound_tells v node_space feature u }) ∷ [] })))
      (view_is k.statements t (record s { tells = ts ++ part ∷ [] }))

  pub below_is : is_consistent (seen t told) ≡ true → IsPlainAnswer (answered k.statements t told) → chosen ≡ config k.statements t told
  below_is a p = chosen_as ∙ ap left_by (settled_as k.statements t told p top_fits a None (queue_if (can_step (answer_ready (answered k.statements t s)))) (queue_rested _ _))

  pub below_fails : is_consistent (seen t told) ≡ false → chosen ≡ failed_config t n
  below_fails a = chosen_as ∙ ap left_by (settled_clash k.statements t told top_fits a (can_step (answer_ready (answered k.statements t s))))

-- Where the search begins, and where it commits the space.
use Rattle.std.proofs.Common.{◌≡◌, ℕ, ◌+◌, Bool, true, false, if◌then◌else◌, ◌==◌, List, [], ◌∷◌, ◌++◌, Option, Some, None, is_some, refl, sym, ◌∙◌, ap, subst}
use Rattle.std.specs.List.{filter_map, cons_option}
use Rattle.oz_base.specs.Lists.{first}
use Rattle.oz_base.specs.declared.names.Ident.{Ident}
use Rattle.oz_language.specs.declared.kernel.Statement.{Statement}
use Rattle.oz_language.specs.declared.kernel.Kernel.{Kernel}
use Rattle.oz_semantics.specs.Store.{View, is_consistent}
use Rattle.oz_semantics.specs.Configurations.{view, applying}
use Rattle.oz_semantics.specs.Sights.{Offer, Parts, can_step, offer_of}
use Rattle.oz_semantics.specs.Answers.{Rests}
use Rattle.oz_semantics.specs.Readiness.{answer_ready}
use Rattle.oz_semantics.specs.Statements.{stack_answer}
use Rattle.oz_semantics.specs.Edits.{chosen_tells, choosing, thread_offer, committing, committed}
use Rattle.oz_semantics.specs.Spaces.{sight}
use Rattle.oz_semantics.specs.Settling.{settled}
use Rattle.oz_semantics.specs.Runs.{left_by}
use Rattle.oz_semantics.specs.Search.{with_root, chosen_in}
use Rattle.oz_semantics.specs.declared.value.Tell.{Tell}
use Rattle.oz_semantics.specs.declared.configuration.Frame.{Frame}
use Rattle.oz_semantics.specs.declared.configuration.Thread.{Thread}
use Rattle.oz_semantics.specs.declared.configuration.Next.{Next}
use Rattle.oz_semantics.specs.declared.configuration.Propagator.{Propagator}
use Rattle.oz_semantics.specs.declared.configuration.Layer.{Layer}
use Rattle.oz_semantics.specs.declared.configuration.Configuration.{Configuration}
use Rattle.view_laws.specs.Readies.{seeing}
use Rattle.fd_turns.specs.Nodes.{Top, Node, top_layer, node_space, node_thread, own, threads_of, node_layer, seen, answered, config}
use Rattle.fd_turns.proofs.SettleLaws.{IsPlainAnswer, queue_if, queue_rested, view_is, settled_as}

-- ---- the root

abbrev pub counted : Next → Next
counted n = record n { child = n.child + 1 }

-- the top alone
abbrev pub top_alone : Top → Configuration
top_alone t = record { layers = top_layer t ∷ []; queue = []; shown = [] }

-- the first step of the space applies the script to its root variable
abbrev pub first_node : Ident → Node
first_node procedure = record { tells = []; frames = applying procedure (own 0) ∷ []; propagators = []; next = 1 }

module _ (k : Kernel) (procedure : Ident) (ts : List Tell) (variable thread procedures name : ℕ) where
  abbrev before : Top
  before = record { tells = ts; next = record { variable = variable; thread = thread; procedure = procedures; name = name; child = 1 } }

  abbrev after : Top
  after = record { tells = ts; next = record { variable = variable; thread = thread; procedure = procedures; name = name; child = 2 } }

  pub root_is : is_consistent ts ≡ true → is_consistent (seen after (first_node procedure)) ≡ true → IsPlainAnswer (answered k.statements after (first_node procedure))
      → with_root k.statements procedure (top_alone before) ≡ config k.statements after (first_node procedure)
  root_is a b p = ap left_by (settled_as k.statements after (first_node procedure) p a b None [] (queue_rested false _))

-- ---- a commitment

module _ (k : Kernel) (t : Top) (ts : List Tell) (f : Frame) (fs : List Frame) (ps : List Propagator) (n : ℕ) where
  abbrev s : Node
  s = record { tells = ts; frames = f ∷ fs; propagators = ps; next = n }

  abbrev layers : List Layer
  layers = top_layer t ∷ node_layer s ∷ []

  abbrev the_thread : Thread
  the_thread = record { number = 1; frames = f ∷ fs }

  offer_is : thread_offer (sight k.statements layers node_space) the_thread ≡ offer_of (answer_ready (answered k.statements t s))
  offer_is = ap (λ v. offer_of (answer_ready (stack_answer (seeing k.statements node_space v) (f ∷ fs)))) (view_is k.statements t s)

  module _ (one other : Tell) (offers : offer_of (answer_ready (answered k.statements t s)) ≡ Some (Parts one other)) (top_fits : is_consistent t.tells ≡ true) where
    abbrev part : ℕ → Tell
    part i = if i == 1 then one else other

    abbrev told : ℕ → Node
    told i = record s { tells = ts ++ part i ∷ [] }

    -- what the layer becomes, by the offer of its thread
    abbrev first_of : Option Offer → Option Offer
    first_of o = first (cons_option o [])

    abbrev by_offer : ℕ → Option Offer → Layer
    by_offer i o = record (node_layer s) { tells = ts ++ chosen_tells i (first_of o); threads = (if is_some o then choosing i the_thread o ∷ [] else the_thread ∷ []) }

    pub chosen_is : (i : ℕ) → is_consistent (seen t (told i)) ≡ true → IsPlainAnswer (answered k.statements t (told i)) → chosen_in k.statements node_space i (config k.statements t s) ≡ config k.statements t (told i)
    chosen_is i a p =
        ap (λ o. left_by (settled k.statements None 1 (record (config k.statements t s) { layers = top_layer t ∷ by_offer i o ∷ [] }))) (offer_is ∙ offers)
        ∙ ap left_by (settled_as k.statements t (told i) p top_fits a None (queue_if (can_step (answer_ready (answered k.statements t s)))) (queue_rested _ _))

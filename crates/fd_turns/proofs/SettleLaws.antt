-- What follows a step in the space of the search.
use Rattle.std.proofs.Common.{◌≡◌, ◌⊎◌, inl, inr, ℕ, Bool, true, false, not, ◌&&◌, ◌||◌, if◌then◌else◌, List, [], ◌∷◌, ◌++◌, map, filter, Option, Some, None, refl, sym, ◌∙◌, ap, subst}
use Rattle.std.proofs.lemmas.List.{append-nil}
use Rattle.std.specs.List.{list_any, flat_map, fold}
use Rattle.oz_base.specs.declared.names.Ident.{Ident}
use Rattle.oz_language.specs.declared.kernel.Statement.{Statement}
use Rattle.oz_semantics.specs.Names.{is_top, named}
use Rattle.oz_semantics.specs.Store.{View, is_consistent}
use Rattle.oz_semantics.specs.Configurations.{view}
use Rattle.oz_semantics.specs.Sights.{can_step, States}
use Rattle.oz_semantics.specs.Answers.{Answer, Acts, Edits, RaisesKind, RaisesTerm, Operates, Widens, Rests}
use Rattle.oz_semantics.specs.Statements.{stack_answer}
use Rattle.oz_semantics.specs.Readiness.{answer_ready}
use Rattle.oz_semantics.specs.Operations.{by_state}
use Rattle.oz_semantics.specs.Spaces.{sight, states_of, answer_in, thread_ready}
use Rattle.oz_semantics.specs.Settling.{Turned, settled, top_is_inconsistent, is_inconsistent, inconsistent_spaces, failing, without_inconsistent, runnable, requeued, queue_after, top_failed}
use Rattle.oz_semantics.specs.Triggers.{triggered}
use Rattle.oz_semantics.specs.declared.configuration.Frame.{Frame}
use Rattle.oz_semantics.specs.declared.configuration.Thread.{Thread}
use Rattle.oz_semantics.specs.declared.configuration.Layer.{Layer}
use Rattle.oz_semantics.specs.declared.configuration.Configuration.{Configuration}
use Rattle.oz_semantics.specs.declared.outcome.Stepped.TheVariants.{Moved}
use Rattle.view_laws.specs.Readies.{seeing}
use Rattle.view_laws.proofs.NeedLaws.{nothing_fires}
use Rattle.fd_turns.specs.Nodes.{Top, Node, top_layer, node_space, node_thread, threads_of, node_layer, seen, answered, config, failed_layer, failed_config}

-- it is no operation on a space
abbrev pub IsPlainAnswer : Answer → Type 0
IsPlainAnswer (Operates op space x) = ⊥
IsPlainAnswer a = Unit {0}

plain_by_state : (layers : List Layer) (statements : List Statement) (v : View) (states : States) (a : Answer) → IsPlainAnswer a → by_state layers (seeing statements node_space v) states a ≡ a
plain_by_state layers statements v states (Acts act) p = refl
plain_by_state layers statements v states (Edits edit) p = refl
plain_by_state layers statements v states (RaisesKind kind) p = refl
plain_by_state layers statements v states (RaisesTerm x) p = refl
plain_by_state layers statements v states (Operates op space x) p = absurd p
plain_by_state layers statements v states (Widens ts) p = refl
plain_by_state layers statements v states (Rests ready) p = refl

abbrev pub queue_if : Bool → List Ident
queue_if b = if b then node_thread ∷ [] else []

-- the one thread is in the queue where it can step
one_thread : (test : Thread → Bool) (fs : List Frame) (b : Bool) → (fs ≡ [] → b ≡ false) → test (record { number = 1; frames = fs }) ≡ b
    → map (λ (u : Thread). named node_space u.number) (filter test (threads_of fs)) ++ [] ≡ queue_if b
one_thread test [] b h e = ap queue_if (sym (h refl))
one_thread test (f ∷ fs) b h e = ap (λ c. map (λ (u : Thread). named node_space u.number) (if c then record { number = 1; frames = f ∷ fs } ∷ [] else []) ++ []) e ∙ by b where
  by : (c : Bool) → map (λ (u : Thread). named node_space u.number) (if c then record { number = 1; frames = f ∷ fs } ∷ [] else []) ++ [] ≡ queue_if c
  by true = refl
  by false = refl

-- ---- queues

pub queue_moved : (b : Bool) → queue_after (queue_if b) (Some node_thread) [] ≡ queue_if b
queue_moved true = refl
queue_moved false = refl

pub queue_rested : (a b : Bool) → queue_after (queue_if b) None (queue_if a) ≡ queue_if b
queue_rested true true = refl
queue_rested true false = refl
queue_rested false true = refl
queue_rested false false = refl

-- ---- a node

module _ (statements : List Statement) (t : Top) (s : Node) where
  abbrev layers : List Layer
  layers = top_layer t ∷ node_layer s ∷ []

  pub view_is : view layers node_space ≡ seen t s
  view_is = ap (λ ts. t.tells ++ ts) (append-nil s.tells)

  pub top_view : view layers [] ≡ t.tells
  top_view = append-nil t.tells

  module _ (plain : IsPlainAnswer (answered statements t s)) where
    -- what the thread answers does not go by the states of spaces
    pub answer_is : (states : States) → answer_in statements layers states node_space s.frames ≡ answered statements t s
    answer_is states =
        (λ i. by_state layers (seeing statements node_space (view_is i)) states (stack_answer (seeing statements node_space (view_is i)) s.frames))
        ∙ plain_by_state layers statements (seen t s) states (answered statements t s) plain

    abbrev able : Bool
    able = can_step (answer_ready (answered statements t s))

    ready_is : (states : States) → can_step (answer_ready (answer_in statements layers states node_space s.frames)) ≡ able
    ready_is states = ap (λ a. can_step (answer_ready a)) (answer_is states)

    runnable_is : runnable statements layers ≡ queue_if able
    runnable_is =
        one_thread (λ u. can_step (thread_ready statements layers node_space u)) s.frames able
        (λ e. ap (λ fs. can_step (answer_ready (stack_answer (seeing statements node_space (seen t s)) fs))) e) (ready_is (states_of statements layers))

    module _ (top_fits : is_consistent t.tells ≡ true) (fits : is_consistent (seen t s) ≡ true) where
      top_stays : top_is_inconsistent layers ≡ false
      top_stays = ap (λ v. not (is_consistent v) || false) top_view ∙ ap (λ b. not b || false) top_fits

      none_fails : inconsistent_spaces layers ≡ []
      none_fails = by (is_consistent (view layers [])) (is_consistent (view layers node_space)) (ap is_consistent top_view ∙ top_fits) (ap is_consistent view_is ∙ fits) where
        by : (a b : Bool) → a ≡ true → b ≡ true → map (λ (l : Layer). l.space) (if not a then top_layer t ∷ (if not b then node_layer s ∷ [] else []) else (if not b then node_layer s ∷ [] else [])) ≡ []
        by true true d e = refl
        by true false d e = cc
        by false b d e = cc

      -- so the layers stay as they are
      stay : triggered statements (without_inconsistent layers) ≡ layers
      stay = ap (λ ss. triggered statements (fold failing layers ss)) none_fails ∙ nothing_fires statements layers refl

      pub settled_as : (mover : Option Ident) (queue : List Ident) → queue_after (queue_if able) mover queue ≡ queue_if able
          → settled statements mover 1 (record { layers = layers; queue = queue; shown = [] }) ≡ (Moved 1, config statements t s)
      settled_as mover queue e =
          ap (λ b. if b then top_failed 1 c else (Moved 1, requeued statements mover c (triggered statements (without_inconsistent layers)))) top_stays
          ∙ ap (λ (ls : List Layer). moved_to (requeued statements mover c ls)) stay
          ∙ ap (λ q. (Moved 1, record { layers = layers; queue = q; shown = [] })) (ap (λ ids. queue_after ids mover queue) runnable_is ∙ e) where
            c : Configuration
            c = record { layers = layers; queue = queue; shown = [] }

            moved_to : Configuration → Turned
            moved_to d = (Moved 1, d)

-- ---- a space that has failed

module _ (statements : List Statement) (t : Top) (n : ℕ) (top_fits : is_consistent t.tells ≡ true) where
  abbrev ended : List Layer
  ended = top_layer t ∷ failed_layer n ∷ []

  ended_view : view ended [] ≡ t.tells
  ended_view = append-nil t.tells

  ended_stays : top_is_inconsistent ended ≡ false
  ended_stays = ap (λ v. not (is_consistent v) || false) ended_view ∙ ap (λ b. not b || false) top_fits

  ended_none : inconsistent_spaces ended ≡ []
  ended_none = by (is_consistent (view ended [])) (ap is_consistent ended_view ∙ top_fits) where
    by : (a : Bool) → a ≡ true → map (λ (l : Layer). l.space) (if not a then top_layer t ∷ [] else []) ≡ []
    by true d = refl
    by false d = cc

  ended_same : triggered statements (without_inconsistent ended) ≡ ended
  ended_same = ap (λ ss. triggered statements (fold failing ended ss)) ended_none ∙ nothing_fires statements ended refl

  pub settled_failed : (mover : Option Ident) (b : Bool) → settled statements mover 1 (record { layers = ended; queue = queue_if b; shown = [] }) ≡ (Moved 1, failed_config t n)
  settled_failed mover b =
      ap (λ d. if d then top_failed 1 c else (Moved 1, requeued statements mover c (triggered statements (without_inconsistent ended)))) ended_stays
      ∙ ap (λ (ls : List Layer). moved_to (requeued statements mover c ls)) ended_same
      ∙ ap (λ q. (Moved 1, record { layers = ended; queue = q; shown = [] })) (emptied mover b) where
        c : Configuration
        c = record { layers = ended; queue = queue_if b; shown = [] }

        moved_to : Configuration → Turned
        moved_to d = (Moved 1, d)

        emptied : (m : Option Ident) (a : Bool) → queue_after [] m (queue_if a) ≡ []
        emptied None true = refl
        emptied None false = refl
        emptied (Some id) true = refl
        emptied (Some id) false = refl

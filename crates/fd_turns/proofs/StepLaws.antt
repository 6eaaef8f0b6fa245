-- The turns of the thread.
use Rattle.std.proofs.Common.{◌≡◌, ℕ, ◌+◌, Bool, true, false, if◌then◌else◌, List, [], ◌∷◌, ◌++◌, length, Option, Some, None, option_map, refl, sym, ◌∙◌, ap, subst}
use Rattle.std.proofs.lemmas.List.{append-nil, append_assoc}
use Rattle.std.specs.List.{find}
use Rattle.environments.specs.Environments.{Environment, binding_all}
use Rattle.oz_base.specs.declared.names.Ident.{Ident}
use Rattle.oz_base.specs.declared.relation.Relation.{Relation}
use Rattle.oz_language.specs.declared.kernel.Identifier.{Identifier}
use Rattle.oz_language.specs.declared.kernel.Statement.{Statement}
use Rattle.oz_language.specs.declared.kernel.Kernel.{Kernel}
use Rattle.oz_semantics.specs.Store.{View, is_consistent}
use Rattle.oz_semantics.specs.Configurations.{view, frames_of, fresh_variables, without_terminated, failed, raised_by}
use Rattle.oz_semantics.specs.Sights.{can_step}
use Rattle.oz_semantics.specs.Answers.{Answer, Acts, RaisesKind, Widens, Act, Passes, GoesOn, Declares, GivesValue, GivesVariable, Confines, Posts}
use Rattle.oz_semantics.specs.Readiness.{answer_ready}
use Rattle.oz_semantics.specs.Propagation.{is_due}
use Rattle.oz_semantics.specs.Spaces.{states_of}
use Rattle.oz_semantics.specs.Steps.{went_on, told, raised_to, raised_kind, after_answer, stepped}
use Rattle.oz_semantics.specs.Changes.{changed_all, AddsPropagator}
use Rattle.oz_semantics.specs.Exceptions.{raise_term, new_term_tells, is_failure, unwound}
use Rattle.oz_semantics.specs.Settling.{Turned, settled}
use Rattle.oz_semantics.specs.Schedule.{turn_of, turn_of_queue, turn}
use Rattle.oz_semantics.specs.declared.value.Value.{Value}
use Rattle.oz_semantics.specs.declared.value.Tell.{Tell}
use Rattle.oz_semantics.specs.declared.value.Tell.TheVariants.{Equal, Is}
use Rattle.oz_semantics.specs.declared.configuration.Frame.{Frame}
use Rattle.oz_semantics.specs.declared.configuration.Thread.{Thread}
use Rattle.oz_semantics.specs.declared.configuration.Propagator.{Propagator}
use Rattle.oz_semantics.specs.declared.configuration.LastRun.TheVariants.{Never}
use Rattle.oz_semantics.specs.declared.configuration.Layer.{Layer}
use Rattle.oz_semantics.specs.declared.configuration.Configuration.{Configuration}
use Rattle.oz_semantics.specs.declared.outcome.RaiseKind.{RaiseKind}
use Rattle.oz_semantics.specs.declared.outcome.RaiseKind.TheVariants.{FailureTell}
use Rattle.oz_semantics.specs.declared.outcome.Stepped.TheVariants.{Moved}
use Rattle.fd_turns.specs.Nodes.{Top, Node, top_layer, node_space, node_thread, own, threads_of, node_layer, seen, answered, config, failed_config}
use Rattle.fd_turns.proofs.SettleLaws.{IsPlainAnswer, queue_if, queue_moved, view_is, answer_is, settled_as, settled_failed}
use Rattle.fd_turns.proofs.RunLaws.{least_is}

-- a node whose thread is still there, whatever is left on its stack
abbrev pub loose : Node → Layer
loose s = record (node_layer s) { threads = record { number = 1; frames = s.frames } ∷ [] }

ended_threads : (fs : List Frame) → (without_terminated (loose (record { tells = []; frames = fs; propagators = []; next = 0 }))).threads ≡ threads_of fs
ended_threads [] = refl
ended_threads (f ∷ fs) = refl

module _ (k : Kernel) (t : Top) (top_fits : is_consistent t.tells ≡ true) where
  -- the thread goes on
  pub went : (s : Node) (c : Configuration) → c.queue ≡ [] → c.shown ≡ [] → is_consistent (seen t s) ≡ true → IsPlainAnswer (answered k.statements t s)
      → went_on k.statements node_thread 1 (top_layer t ∷ loose s ∷ []) c ≡ (Moved 1, config k.statements t s)
  went s c q h a p =
      (λ i. settled k.statements (Some node_thread) 1 (record { layers = top_layer t ∷ record (node_layer s) { threads = ended_threads s.frames i } ∷ []; queue = q i; shown = h i }))
      ∙ settled_as k.statements t s p top_fits a (Some node_thread) [] (queue_moved _)

  module _ (ts : List Tell) (f : Frame) (fs : List Frame) (ps : List Propagator) (n : ℕ) where
    -- the node before the step, and where its first statement was taken off
    abbrev s : Node
    s = record { tells = ts; frames = f ∷ fs; propagators = ps; next = n }

    abbrev popped : Node
    popped = record s { frames = fs }

    abbrev here : Configuration
    here = config k.statements t s

    abbrev taken : Configuration
    taken = record here { queue = [] }

    module _ (rests : find (is_due (seen t s)) ps ≡ None) (plain : IsPlainAnswer (answered k.statements t s)) where
      turn_is : can_step (answer_ready (answered k.statements t s)) ≡ true → turn k here ≡ after_answer k node_thread (top_layer t ∷ loose popped ∷ []) taken (answered k.statements t s)
      turn_is e =
          ap (turn_of k here) (least_is k t s ∙ ap (option_map (λ p. (node_layer s, p))) rests)
          ∙ ap (λ b. turn_of_queue k here (queue_if b)) e
          ∙ ap (after_answer k node_thread (top_layer t ∷ loose popped ∷ []) taken) (answer_is k.statements t s plain (states_of k.statements here.layers))

      module _ (steps : can_step (answer_ready (answered k.statements t s)) ≡ true) where
        abbrev after : Layer → Layer → List Layer
        after a b = a ∷ b ∷ []

        by_answer : (a : Answer) → answered k.statements t s ≡ a → turn k here ≡ after_answer k node_thread (top_layer t ∷ loose popped ∷ []) taken a
        by_answer a e = turn_is steps ∙ ap (after_answer k node_thread (top_layer t ∷ loose popped ∷ []) taken) e

        -- acts that tell nothing
        pub passes_on : answered k.statements t s ≡ Acts Passes → is_consistent (seen t popped) ≡ true → IsPlainAnswer (answered k.statements t popped) → turn k here ≡ (Moved 1, config k.statements t popped)
        passes_on e a p = by_answer (Acts Passes) e ∙ went popped taken refl refl a p

        pub goes_on_with : (gs : List Frame) → answered k.statements t s ≡ Acts (GoesOn gs) → is_consistent (seen t s) ≡ true → IsPlainAnswer (answered k.statements t (record s { frames = gs ++ fs }))
            → turn k here ≡ (Moved 1, config k.statements t (record s { frames = gs ++ fs }))
        goes_on_with gs e a p = by_answer (Acts (GoesOn gs)) e ∙ went (record s { frames = gs ++ fs }) taken refl refl a p

        abbrev pub declared : Environment → List Identifier → List ℕ → Node
        declared environment names body =
            record s { frames = frames_of (binding_all names (fresh_variables (loose popped) (length names)) environment) body ++ fs; next = n + length names }

        pub declares_on : (environment : Environment) (names : List Identifier) (body : List ℕ) → answered k.statements t s ≡ Acts (Declares environment names body)
            → is_consistent (seen t s) ≡ true → IsPlainAnswer (answered k.statements t (declared environment names body)) → turn k here ≡ (Moved 1, config k.statements t (declared environment names body))
        declares_on environment names body e a p = by_answer (Acts (Declares environment names body)) e ∙ went (declared environment names body) taken refl refl a p

        -- acts that tell something
        abbrev more : List Tell → Node → Node
        more us m = record m { tells = ts ++ us }

        seen_more : (us : List Tell) (m : Node) → view (top_layer t ∷ loose (record m { tells = ts }) ∷ []) node_space ++ us ≡ seen t (more us m)
        seen_more us m = append_assoc t.tells (ts ++ []) us ∙ ap (λ z. t.tells ++ (z ++ us)) (append-nil ts)

        told_on : (us : List Tell) (m : Node) (change : List Layer → List Layer) → change (top_layer t ∷ loose (more us popped) ∷ []) ≡ top_layer t ∷ loose m ∷ [] → m.tells ≡ ts ++ us
            → is_consistent (seen t m) ≡ true → IsPlainAnswer (answered k.statements t m) → told k.statements node_thread us change (top_layer t ∷ loose popped ∷ []) taken ≡ (Moved 1, config k.statements t m)
        told_on us m change e f a p =
            ap (λ b. if b then went_on k.statements node_thread 1 (change (top_layer t ∷ loose (more us popped) ∷ [])) taken else raised_kind k.statements node_thread FailureTell (top_layer t ∷ loose popped ∷ []) taken)
            (ap is_consistent (seen_more us popped ∙ ap (λ z. t.tells ++ z) (sym f)) ∙ a)
            ∙ ap (λ ls. went_on k.statements node_thread 1 ls taken) e ∙ went m taken refl refl a p

        pub tells_value : (x : Ident) (v : Value) (m : Node) → m ≡ more (Is x v ∷ []) popped → answered k.statements t s ≡ Acts (GivesValue x v) → is_consistent (seen t m) ≡ true → IsPlainAnswer (answered k.statements t m)
            → turn k here ≡ (Moved 1, config k.statements t m)
        tells_value x v m f e a p = by_answer (Acts (GivesValue x v)) e ∙ told_on (Is x v ∷ []) m (λ ls. ls) (λ i. top_layer t ∷ loose (sym f i) ∷ []) (ap (λ (z : Node). z.tells) f) a p

        pub tells_equation : (x y : Ident) (m : Node) → m ≡ more (Equal x y ∷ []) popped → answered k.statements t s ≡ Acts (GivesVariable x y) → is_consistent (seen t m) ≡ true → IsPlainAnswer (answered k.statements t m)
            → turn k here ≡ (Moved 1, config k.statements t m)
        tells_equation x y m f e a p = by_answer (Acts (GivesVariable x y)) e ∙ told_on (Equal x y ∷ []) m (λ ls. ls) (λ i. top_layer t ∷ loose (sym f i) ∷ []) (ap (λ (z : Node). z.tells) f) a p

        pub tells_domains : (us : List Tell) (m : Node) → m ≡ more us popped → answered k.statements t s ≡ Acts (Confines us) → is_consistent (seen t m) ≡ true → IsPlainAnswer (answered k.statements t m)
            → turn k here ≡ (Moved 1, config k.statements t m)
        tells_domains us m f e a p = by_answer (Acts (Confines us)) e ∙ told_on us m (λ ls. ls) (λ i. top_layer t ∷ loose (sym f i) ∷ []) (ap (λ (z : Node). z.tells) f) a p

        abbrev pub posted : Relation → List Ident → Propagator
        posted r xs = record { relation = r; variables = xs; last = Never }

        pub posts_on : (us : List Tell) (r : Relation) (xs : List Ident) (m : Node) → m ≡ record (more us popped) { propagators = ps ++ posted r xs ∷ [] } → answered k.statements t s ≡ Acts (Posts us r xs)
            → is_consistent (seen t m) ≡ true → IsPlainAnswer (answered k.statements t m) → turn k here ≡ (Moved 1, config k.statements t m)
        posts_on us r xs m f e a p =
            by_answer (Acts (Posts us r xs)) e ∙ told_on us m (changed_all node_thread (AddsPropagator r xs ∷ [])) (λ i. top_layer t ∷ loose (sym f i) ∷ []) (ap (λ (z : Node). z.tells) f) a p

        -- a distributor that tells domains stays where it is
        pub widens_on : (us : List Tell) (m : Node) → m ≡ more us s → answered k.statements t s ≡ Widens us → is_consistent (seen t m) ≡ true → IsPlainAnswer (answered k.statements t m)
            → turn k here ≡ (Moved 1, config k.statements t m)
        widens_on us m f e a p =
            by_answer (Widens us) e
            ∙ ap (λ b. if b then went_on k.statements node_thread 1 (top_layer t ∷ loose (more us s) ∷ []) taken else raised_kind k.statements node_thread FailureTell (top_layer t ∷ loose s ∷ []) taken)
            (ap is_consistent (seen_more us s ∙ ap (λ (z : Node). t.tells ++ z.tells) (sym f)) ∙ a)
            ∙ ap (λ z. went_on k.statements node_thread 1 (top_layer t ∷ loose z ∷ []) taken) (sym f) ∙ went m taken refl refl a p

        -- ---- failure

        -- failure(tell)
        abbrev pub failure_tells : List Tell
        failure_tells = new_term_tells (loose popped) (raise_term FailureTell)

        abbrev with_failure : Layer
        with_failure = loose (record popped { tells = ts ++ failure_tells; next = n + 2 })

        module _ (unmarked : unwound (own n) fs ≡ None) (failing : is_failure (t.tells ++ (ts ++ failure_tells)) (own n) ≡ true) where
          raised_fails : raised_kind k.statements node_thread FailureTell (top_layer t ∷ loose popped ∷ []) taken ≡ (Moved 1, failed_config t (n + 2))
          raised_fails =
              ap (λ o. raised_to k.statements node_thread (own n) o (top_layer t ∷ with_failure ∷ []) taken) unmarked
              ∙ ap (λ b. settled k.statements (Some node_thread) 1 (record taken { layers = top_layer t ∷ (if b then failed with_failure else raised_by (own n) with_failure) ∷ [] }))
              (ap (λ z. is_failure (t.tells ++ z) (own n)) (append-nil (ts ++ failure_tells)) ∙ failing)
              ∙ settled_failed k.statements t (n + 2) top_fits (Some node_thread) false

          -- what clashes fails the space
          pub told_fails : (us : List Tell) (change : List Layer → List Layer) → is_consistent (t.tells ++ (ts ++ us)) ≡ false → told k.statements node_thread us change (top_layer t ∷ loose popped ∷ []) taken ≡ (Moved 1, failed_config t (n + 2))
          told_fails us change e =
              ap (λ b. if b then went_on k.statements node_thread 1 (change (top_layer t ∷ loose (more us popped) ∷ [])) taken else raised_kind k.statements node_thread FailureTell (top_layer t ∷ loose popped ∷ []) taken)
              (ap is_consistent (seen_more us popped) ∙ e) ∙ raised_fails

          pub domains_fail : (us : List Tell) → answered k.statements t s ≡ Acts (Confines us) → is_consistent (t.tells ++ (ts ++ us)) ≡ false → turn k here ≡ (Moved 1, failed_config t (n + 2))
          domains_fail us e a = by_answer (Acts (Confines us)) e ∙ told_fails us (λ ls. ls) a

          pub refusal_fails : answered k.statements t s ≡ RaisesKind FailureTell → turn k here ≡ (Moved 1, failed_config t (n + 2))
          refusal_fails e = by_answer (RaisesKind FailureTell) e ∙ raised_fails

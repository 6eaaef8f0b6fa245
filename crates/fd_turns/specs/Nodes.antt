-- The configurations of a search: a script's one computation space, which has one thread, below a top-level space that rests (the abstract
-- machine, CTM 2.4; computation spaces, CTM 12.4; Schulte, LNCS 2302, chapter 4).
use Rattle.std.specs.Prelude.{◌≡◌, ℕ, true, if◌then◌else◌, List, [], ◌∷◌, ◌++◌, Contains}
use Rattle.oz_base.specs.declared.names.Ident.{Ident}
use Rattle.oz_language.specs.declared.kernel.Statement.{Statement}
use Rattle.oz_semantics.specs.Names.{named}
use Rattle.oz_semantics.specs.Store.{View, is_consistent}
use Rattle.oz_semantics.specs.Configurations.{variables_of}
use Rattle.oz_semantics.specs.Sights.{can_step}
use Rattle.oz_semantics.specs.Answers.{Answer}
use Rattle.oz_semantics.specs.Statements.{stack_answer}
use Rattle.oz_semantics.specs.Readiness.{answer_ready}
use Rattle.oz_semantics.specs.declared.value.Value.{Value}
use Rattle.oz_semantics.specs.declared.value.Tell.{Tell}
use Rattle.oz_semantics.specs.declared.configuration.Frame.{Frame}
use Rattle.oz_semantics.specs.declared.configuration.Thread.{Thread}
use Rattle.oz_semantics.specs.declared.configuration.Propagator.{Propagator}
use Rattle.oz_semantics.specs.declared.configuration.Status.TheVariants as status
use Rattle.oz_semantics.specs.declared.configuration.Next.{Next}
use Rattle.oz_semantics.specs.declared.configuration.Layer.{Layer}
use Rattle.oz_semantics.specs.declared.configuration.Configuration.{Configuration}
use Rattle.view_laws.specs.Readies.{seeing}
use Rattle.fd_views.specs.Views.{IsPlain, HasValue}

-- the top-level space at rest: what was told to its store, and the next numbers that it gives out
pub record Top : Type 0 where
  pub tells : List Tell
  pub next : Next

-- the layer of the top: it has no threads, triggers, propagators, cells or ports
abbrev pub top_layer : Top → Layer
top_layer t = record { space = []; status = status.Open; tells = t.tells; threads = []; triggers = []; propagators = []; cells = []; ports = []; next = t.next }

-- the store of the top is consistent and has no domains, and each variable that the top created is determined there
pub record IsKnown (t : Top) : Type 0 where
  pub fits : is_consistent t.tells ≡ true
  pub plain : IsPlain t.tells []
  pub known : (x : Ident) → Contains (variables_of (top_layer t)) x → (v : Value) × HasValue t.tells x v

-- the name of the search's computation space, which is the first child of the top
abbrev pub node_space : List ℕ
node_space = 1 ∷ []

-- the name of the one thread of this space
abbrev pub node_thread : Ident
node_thread = named node_space 1

-- the variable with this number that the space created; number 0 is its root variable
abbrev pub own : ℕ → Ident
own n = named node_space n

-- a state of this space: what was told to its store, the semantic stack of its thread, its propagators, and the number of its next variable
pub record Node : Type 0 where
  pub tells : List Tell
  pub frames : List Frame
  pub propagators : List Propagator
  pub next : ℕ

-- the threads of the space: one with this stack, and none once the stack is empty, when the thread has terminated
abbrev pub threads_of : List Frame → List Thread
threads_of [] = []
threads_of (f ∷ fs) = record { number = 1; frames = f ∷ fs } ∷ []

-- the next numbers of the space: it has created variables and its one thread, and no procedures, names or children
abbrev pub next_of : ℕ → Next
next_of n = record { variable = n; thread = 2; procedure = 1; name = 1; child = 1 }

-- the layer of the space, which is open and has no triggers, cells or ports
abbrev pub node_layer : Node → Layer
node_layer s =
    record {
      space = node_space;
      status = status.Open;
      tells = s.tells;
      threads = threads_of s.frames;
      triggers = [];
      propagators = s.propagators;
      cells = [];
      ports = [];
      next = next_of s.next;
    }

-- the view of the space: what its ancestor, the top, and itself were told
abbrev pub seen : Top → Node → View
seen t s = t.tells ++ s.tells

-- what the statement on top of its thread's stack answers in this view
abbrev pub answered : List Statement → Top → Node → Answer
answered statements t s = stack_answer (seeing statements node_space (seen t s)) s.frames

-- the configuration: the layers of the top and of the space, and the thread in the queue where it can step
abbrev pub config : List Statement → Top → Node → Configuration
config statements t s =
    record {
      layers = top_layer t ∷ node_layer s ∷ [];
      queue = if can_step (answer_ready (answered statements t s)) then node_thread ∷ [] else [];
      shown = [];
    }

-- the layer of the space once it has failed: nothing of its store, its thread and its propagators is left
abbrev pub failed_layer : ℕ → Layer
failed_layer n =
    record {
      space = node_space;
      status = status.Failed;
      tells = [];
      threads = [];
      triggers = [];
      propagators = [];
      cells = [];
      ports = [];
      next = next_of n;
    }

-- the configuration with the failed space, in which no thread can step
abbrev pub failed_config : Top → ℕ → Configuration
failed_config t n = record { layers = top_layer t ∷ failed_layer n ∷ []; queue = []; shown = [] }

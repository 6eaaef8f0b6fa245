-- What follows a step of the machine: spaces that see what is inconsistent fail, by-need computations that are needed begin, and the queue
-- loses the threads that cannot step and gains those that can.
use Rattle.std.specs.Prelude.{ℕ, Bool, true, false, not, ◌&&◌, if◌then◌else◌, List, [], ◌∷◌, ◌++◌, Option, Some, None, map, filter}
use Rattle.std.specs.List.{list_any, flat_map, fold}
use Rattle.oz_base.specs.Names.{ident_eq}
use Rattle.oz_base.specs.declared.names.Ident.{Ident}
use Rattle.oz_language.specs.declared.kernel.Statement.{Statement}
use Rattle.oz_semantics.specs.Names.{is_top, named}
use Rattle.oz_semantics.specs.Store.{is_consistent}
use Rattle.oz_semantics.specs.Configurations.{is_open, layer_of, view, in_layer, ending, failed}
use Rattle.oz_semantics.specs.Sights.{can_step}
use Rattle.oz_semantics.specs.Spaces.{thread_ready}
use Rattle.oz_semantics.specs.Exceptions.{raise_term, with_term}
use Rattle.oz_semantics.specs.Triggers.{triggered}
use Rattle.oz_semantics.specs.declared.configuration.Thread.{Thread}
use Rattle.oz_semantics.specs.declared.configuration.Status.{Status}
use Rattle.oz_semantics.specs.declared.configuration.Status.TheVariants as status
use Rattle.oz_semantics.specs.declared.configuration.Layer.{Layer}
use Rattle.oz_semantics.specs.declared.configuration.Configuration.{Configuration}
use Rattle.oz_semantics.specs.declared.outcome.RaiseKind.{RaiseKind}
use Rattle.oz_semantics.specs.declared.outcome.RaiseKind.TheVariants.{FailureTop}
use Rattle.oz_semantics.specs.declared.outcome.Stepped.{Stepped}
use Rattle.oz_semantics.specs.declared.outcome.Stepped.TheVariants.{Moved, TopEnded}

-- what a turn was, and what it left
abbrev pub Turned : Type 0
Turned = Stepped × Configuration

-- The exceptions of the machine

-- the variable of a term that the space is about to be told
abbrev pub term_variable : List Layer → List ℕ → Ident
term_variable layers space = named space (layer_of layers space).next.variable

abbrev pub with_raised : RaiseKind → List ℕ → List Layer → List Layer
with_raised kind space layers = in_layer space (with_term (raise_term kind)) layers

-- the run of the top ends with the exception x
abbrev pub top_ended : ℕ → Ident → List Layer → Configuration → Turned
top_ended cost x layers c = (TopEnded x cost, record c { layers = layers })

-- Inconsistent spaces. One that was raised fails too, and the run ends where it is the top

abbrev pub may_fail : Status → Bool
may_fail status.Open = true
may_fail status.Failed = false
may_fail (status.Raised x) = true
may_fail status.Merged = false

abbrev pub is_inconsistent : List Layer → Layer → Bool
is_inconsistent layers l = may_fail l.status && not (is_consistent (view layers l.space))

abbrev pub inconsistent_spaces : List Layer → List (List ℕ)
inconsistent_spaces layers = map (λ (l : Layer). l.space) (filter (is_inconsistent layers) layers)

abbrev pub failing : List Layer → List ℕ → List Layer
failing layers space = ending space failed layers

abbrev pub without_inconsistent : List Layer → List Layer
without_inconsistent layers = fold failing layers (inconsistent_spaces layers)

abbrev pub top_is_inconsistent : List Layer → Bool
top_is_inconsistent layers = list_any (λ (l : Layer). is_top l.space && is_inconsistent layers l) layers

abbrev pub top_failed : ℕ → Configuration → Turned
top_failed cost c = top_ended cost (term_variable c.layers []) (with_raised FailureTop [] c.layers) c

-- The queue

-- the threads of a layer that can step, by number
abbrev pub runnable_in : List Statement → List Layer → Layer → List Ident
runnable_in statements layers l =
    if is_open l.status
    then map (λ (t : Thread). named l.space t.number) (filter (λ t. can_step (thread_ready statements layers l.space t)) l.threads)
    else []

-- all threads that can step, by name
abbrev pub runnable : List Statement → List Layer → List Ident
runnable statements layers = flat_map (runnable_in statements layers) layers

abbrev pub is_among : List Ident → Ident → Bool
is_among ids id = list_any (ident_eq id) ids

abbrev pub mover_in : Option Ident → List Ident → List Ident
mover_in None ids = []
mover_in (Some mover) ids = if is_among ids mover then mover ∷ [] else []

-- those that cannot step leave the queue, the thread that stepped joins the end, and then all others that can step
abbrev pub queue_after : List Ident → Option Ident → List Ident → List Ident
queue_after ids mover queue =
    let stay = filter (is_among ids) queue ++ mover_in mover ids in
    stay ++ filter (λ id. not (is_among stay id)) ids

abbrev pub requeued : List Statement → Option Ident → Configuration → List Layer → Configuration
requeued statements mover c layers = record c { layers = layers; queue = queue_after (runnable statements layers) mover c.queue }

-- what follows a step of this thread, if one stepped
abbrev pub settled : List Statement → Option Ident → ℕ → Configuration → Turned
settled statements mover cost c =
    if top_is_inconsistent c.layers then top_failed cost c
    else (Moved cost, requeued statements mover c (triggered statements (without_inconsistent c.layers)))

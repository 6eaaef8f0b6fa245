-- A space alone: a configuration without all that neither is below the space nor seen by it.
use Rattle.std.specs.Prelude.{ℕ, ◌≡◌, Bool, true, false, ◌||◌, if◌then◌else◌, List, [], ◌∷◌, map, filter, Some, None}
use Rattle.oz_base.specs.declared.names.Ident.{Ident}
use Rattle.oz_language.specs.declared.kernel.Kernel.{Kernel}
use Rattle.oz_semantics.specs.Names.{is_below, is_properly_below}
use Rattle.oz_semantics.specs.Settling.{Turned}
use Rattle.oz_semantics.specs.Schedule.{least_due, turn}
use Rattle.oz_semantics.specs.declared.configuration.Propagator.{Propagator}
use Rattle.oz_semantics.specs.declared.configuration.Layer.{Layer}
use Rattle.oz_semantics.specs.declared.configuration.Configuration.{Configuration}
use Rattle.turn_laws.specs.Kept.{IsKept}

-- of the space's ancestors, of itself, and of those below it
abbrev pub is_kept : List ℕ → Layer → Bool
is_kept space l = is_below l.space space || is_below space l.space

-- a proper ancestor has no threads, no triggers and no propagators
abbrev pub quieted : List ℕ → Layer → Layer
quieted space l = if is_properly_below l.space space then record l { threads = []; triggers = []; propagators = [] } else l

-- the layers of these
abbrev pub alone_layers : List ℕ → List Layer → List Layer
alone_layers space layers = map (quieted space) (filter (is_kept space) layers)

-- a thread of the space or of one below it
abbrev pub is_own : List ℕ → Ident → Bool
is_own space id = is_below space id.space

-- these layers, and of the queue the threads of the space and of those below it
abbrev pub alone : List ℕ → Configuration → Configuration
alone space c = record c { layers = alone_layers space c.layers; queue = filter (is_own space) c.queue }

-- its turn is the same, with the same cost
abbrev pub TurnsAlone : Kernel → Configuration → List ℕ → Type 0
TurnsAlone k c space = ◌≡◌ {A = Turned} (turn k (alone space c)) ((turn k c).0, alone space (turn k c).1)

-- no propagator is due, and the same thread stands at the head of the queue
pub record SameTurn (k : Kernel) (c : Configuration) (space : List ℕ) (id : Ident) (rest : List Ident) : Type 0 where
  pub due : least_due (alone space c).layers ≡ None
  pub head : (alone space c).queue ≡ id ∷ filter (is_own space) rest
  pub turns : TurnsAlone k c space

-- Where the thread that steps is of a space or of one below it, the space alone makes the same turn
abbrev pub StepsAlone : Type 0
StepsAlone =
    (k : Kernel) (c : Configuration) (space : List ℕ) (id : Ident) (rest : List Ident) → IsKept k.statements c → least_due c.layers ≡ None → c.queue ≡ id ∷ rest
    → is_below space id.space ≡ true → SameTurn k c space id rest

-- Where it is of a space that is neither below the space nor a proper ancestor of it, the space alone stays as it is
abbrev pub RestsAlone : Type 0
RestsAlone =
    (k : Kernel) (c : Configuration) (space : List ℕ) (id : Ident) (rest : List Ident) → IsKept k.statements c → least_due c.layers ≡ None → c.queue ≡ id ∷ rest
    → is_below space id.space ≡ false → is_below id.space space ≡ false → alone space (turn k c).1 ≡ alone space c

-- Propagators

-- the same propagator is due
pub record SameRun (k : Kernel) (c : Configuration) (space : List ℕ) (least : Layer × Propagator) : Type 0 where
  pub due : least_due (alone space c).layers ≡ Some least
  pub turns : TurnsAlone k c space

-- Where the propagator that runs is of a space or of one below it, it runs where the space is alone
abbrev pub PropagatesAlone : Type 0
PropagatesAlone =
    (k : Kernel) (c : Configuration) (space : List ℕ) (due : Layer × Propagator) → IsKept k.statements c → least_due c.layers ≡ Some due → is_below space due.0.space ≡ true
    → SameRun k c space due

-- Where it is of a space that is neither below the space nor a proper ancestor of it, the space alone stays as it is
abbrev pub RestsAtRuns : Type 0
RestsAtRuns =
    (k : Kernel) (c : Configuration) (space : List ℕ) (due : Layer × Propagator) → IsKept k.statements c → least_due c.layers ≡ Some due → is_below space due.0.space ≡ false
    → is_below due.0.space space ≡ false → alone space (turn k c).1 ≡ alone space c

-- Many turns of a space alone.
use Rattle.std.specs.Prelude.{ℕ, zero, suc, ◌≡◌, Bool, true, false, not, ◌&&◌, ◌||◌, if◌then◌else◌, List, [], ◌∷◌, Option, Some, None}
use Rattle.oz_base.specs.declared.names.Ident.{Ident}
use Rattle.oz_language.specs.declared.kernel.Kernel.{Kernel}
use Rattle.oz_semantics.specs.Names.{is_below, is_properly_below}
use Rattle.oz_semantics.specs.Spaces.{goes_on}
use Rattle.oz_semantics.specs.Settling.{Turned}
use Rattle.oz_semantics.specs.Schedule.{least_due, turn}
use Rattle.oz_semantics.specs.declared.configuration.Propagator.{Propagator}
use Rattle.oz_semantics.specs.declared.configuration.Layer.{Layer}
use Rattle.oz_semantics.specs.Runs.{Ran, Ended, TopRaised, Over, run_for}
use Rattle.oz_semantics.specs.declared.configuration.Configuration.{Configuration}
use Rattle.oz_semantics.specs.declared.outcome.Stepped.TheVariants.{Moved, TopEnded, Quiescent}
use Rattle.turn_laws.specs.Kept.{IsKept}
use Rattle.alone_laws.specs.Alone.{alone}

-- what so many turns leave
unfoldable pub turned : Kernel → ℕ → Configuration → Configuration
turned k zero c = c
turned k (suc n) c = turned k n (turn k c).1

-- the space of the thread at the head of the queue
abbrev pub head_space : List Ident → Option (List ℕ)
head_space [] = None
head_space (id ∷ queue) = Some id.space

-- the space of what makes the next turn: the least propagator that is due, or else the thread at the head of the queue
abbrev pub turner_of : Option (Layer × Propagator) → List Ident → Option (List ℕ)
turner_of (Some due) queue = Some due.0.space
turner_of None queue = head_space queue

abbrev pub turner : Configuration → Option (List ℕ)
turner c = turner_of (least_due c.layers) c.queue

-- it is the space or one below it
abbrev pub is_inner : List ℕ → Option (List ℕ) → Bool
is_inner space None = false
is_inner space (Some turner) = is_below space turner

-- it is not a proper ancestor of the space
abbrev pub spares : List ℕ → Option (List ℕ) → Bool
spares space None = true
spares space (Some turner) = not (is_properly_below turner space)

-- in so many turns no proper ancestor of the space steps or propagates
unfoldable pub is_undisturbed : Kernel → List ℕ → ℕ → Configuration → Bool
is_undisturbed k space zero c = true
is_undisturbed k space (suc n) c = spares space (turner c) && is_undisturbed k space n (turn k c).1

-- how many of them are of the space and of those below it
unfoldable pub inner_turns : Kernel → List ℕ → ℕ → Configuration → ℕ
inner_turns k space zero c = 0
inner_turns k space (suc n) c = if is_inner space (turner c) then suc (inner_turns k space n (turn k c).1) else inner_turns k space n (turn k c).1

-- Of such turns the space alone makes those that are of it and of what is below it, and no others
abbrev pub RunsAlone : Type 0
RunsAlone =
    (k : Kernel) (space : List ℕ) (n : ℕ) (c : Configuration) → IsKept k.statements c → is_undisturbed k space n c ≡ true
    → alone space (turned k n c) ≡ turned k (inner_turns k space n c) (alone space c)

-- Runs, with their costs

-- how a run ends where the space is alone
abbrev pub alone_ran : List ℕ → Ran → Ran
alone_ran space (Ended c left) = Ended (alone space c) left
alone_ran space (TopRaised c left exception) = TopRaised (alone space c) left exception
alone_ran space (Over c) = Over (alone space c)

-- after a turn that moved
abbrev pub once_moved : (Configuration → Bool) → Turned → Bool
once_moved more (Moved cost, d) = more d
once_moved more (TopEnded exception cost, d) = true
once_moved more (Quiescent, d) = true

-- in so many turns of a run of the space, all that steps or propagates is of the space or below it
unfoldable pub is_within : Kernel → List ℕ → ℕ → Configuration → Bool
is_within k space zero c = true
is_within k space (suc n) c = not (goes_on k.statements c.layers space) || (is_inner space (turner c) && once_moved (is_within k space n) (turn k c))

-- Then the space has alone the same run, with the same costs
abbrev pub RunsSame : Type 0
RunsSame =
    (k : Kernel) (space : List ℕ) (n : ℕ) (c : Configuration) (fuel : ℕ) → IsKept k.statements c → is_within k space n c ≡ true
    → run_for k space n (alone space c) fuel ≡ alone_ran space (run_for k space n c fuel)

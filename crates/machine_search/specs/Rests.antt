-- What makes runs end: each thread that can step stands in the queue, so a run goes on until nothing of its space can step.
use Rattle.std.specs.Prelude.{◌≡◌, ℕ, true, false, List, Option, Some}
use Rattle.oz_base.specs.declared.names.Ident.{Ident}
use Rattle.oz_language.specs.declared.kernel.Statement.{Statement}
use Rattle.oz_language.specs.declared.kernel.Kernel.{Kernel}
use Rattle.oz_search.specs.Nodes.{Reached, Node, met}
use Rattle.oz_search.specs.Plain.{outcomes}
use Rattle.oz_search.specs.declared.leaf.Outcome.{Outcome}
use Rattle.oz_semantics.specs.Spaces.{goes_on, state}
use Rattle.oz_semantics.specs.Settling.{is_among, runnable, top_is_inconsistent, settled}
use Rattle.oz_semantics.specs.Runs.{left_by, opening, Ended, run}
use Rattle.oz_semantics.specs.Search.{with_root, chosen_in, maker}
use Rattle.oz_semantics.specs.declared.configuration.Configuration.{Configuration}
use Rattle.oz_semantics.specs.declared.outcome.State.TheVariants.{Running}
use Rattle.view_laws.specs.Trees.{is_ascending, names_of}

-- each thread that can step stands in the queue
abbrev pub IsQueued : List Statement → Configuration → Type 0
IsQueued statements c = (id : Ident) → is_among (runnable statements c.layers) id ≡ true → is_among c.queue id ≡ true

-- and the top is consistent
abbrev pub IsSettled : List Statement → Configuration → Type 0
IsSettled statements c = (top_is_inconsistent c.layers ≡ false) × IsQueued statements c

-- so it is after each step that leaves a consistent top
abbrev pub SettledLaw : Type 0
SettledLaw =
    (statements : List Statement) (mover : Option Ident) (cost : ℕ) (c : Configuration) → top_is_inconsistent c.layers ≡ false → IsSettled statements (left_by (settled statements mover cost c))

-- and in the opening configuration
abbrev pub OpeningLaw : Type 0
OpeningLaw = (k : Kernel) → IsSettled k.statements (opening k)

-- the search root, and a space that is committed, change nothing of that
abbrev pub RootLaw : Type 0
RootLaw = (statements : List Statement) (procedure : Ident) (c : Configuration) → IsSettled statements c → IsSettled statements (with_root statements procedure c)

abbrev pub ChosenLaw : Type 0
ChosenLaw = (statements : List Statement) (space : List ℕ) (i : ℕ) (c : Configuration) → IsSettled statements c → IsSettled statements (chosen_in statements space i c)

-- a run from there ends where nothing of the space or below it can step or is due
abbrev pub RestLaw : Type 0
RestLaw =
    (k : Kernel) (space : List ℕ) (c : Configuration) (fuel : ℕ) (d : Configuration) (left : ℕ) → IsSettled k.statements c → run k space c fuel ≡ Ended d left
    → (goes_on k.statements d.layers space ≡ false) × IsSettled k.statements d

-- so the space does not run, where the layers stand in the order of names: a state goes by the layers behind it
abbrev pub StateLaw : Type 0
StateLaw =
    (k : Kernel) (space : List ℕ) (c : Configuration) (fuel : ℕ) (d : Configuration) (left : ℕ) → IsSettled k.statements c → run k space c fuel ≡ Ended d left
    → is_ascending (names_of d.layers) ≡ true → state k.statements d.layers space ≡ Some Running → ⊥

-- and nothing of it can step in any node below a configuration in which it was just made
abbrev pub NodesLaw : Type 0
NodesLaw =
    (k : Kernel) (space : List ℕ) (c : Configuration) (fuel : ℕ) (p : List ℕ) (node : Reached Configuration Outcome) → IsSettled k.statements c → met outcomes (maker k space) fuel c p ≡ Node node
    → (goes_on k.statements node.config.layers space ≡ false) × IsSettled k.statements node.config

-- Layers in which no space sees what is inconsistent.
use Rattle.std.specs.Prelude.{ℕ, ◌≡◌, true, false, List, [], Option, Some, None}
use Rattle.oz_base.specs.declared.names.Ident.{Ident}
use Rattle.oz_language.specs.declared.kernel.Statement.{Statement}
use Rattle.oz_language.specs.declared.kernel.Kernel.{Kernel}
use Rattle.oz_semantics.specs.Store.{is_consistent}
use Rattle.oz_semantics.specs.Configurations.{layer_at, view, in_layer}
use Rattle.oz_semantics.specs.Edits.{created, committed}
use Rattle.oz_semantics.specs.Triggers.{triggered}
use Rattle.oz_semantics.specs.Settling.{inconsistent_spaces, without_inconsistent, top_is_inconsistent, runnable, queue_after, settled}
use Rattle.oz_semantics.specs.Steps.{stepped}
use Rattle.oz_semantics.specs.Schedule.{turn}
use Rattle.oz_semantics.specs.Runs.{opening}
use Rattle.oz_semantics.specs.Search.{followed}
use Rattle.oz_semantics.specs.declared.configuration.Layer.{Layer}
use Rattle.oz_semantics.specs.declared.configuration.Configuration.{Configuration}
use Rattle.view_laws.specs.Sights.{committed_tells}
use Rattle.view_laws.specs.Trees.{IsTree}
use Rattle.view_laws.specs.Steps.{IsSound}
use Rattle.settle_laws.specs.Settles.{Settles, IsQuiet}
use Rattle.settle_laws.specs.Turns.{Left, opening_layers}

-- Then there is none to fail
abbrev pub SoundNothing : Type 0
SoundNothing = (layers : List Layer) → IsSound layers → inconsistent_spaces layers ≡ []

-- in particular not the top
abbrev pub SoundTop : Type 0
SoundTop = (layers : List Layer) → IsSound layers → top_is_inconsistent layers ≡ false

-- and what follows a step changes the queue alone
abbrev pub SoundSettles : Type 0
SoundSettles = (space : List ℕ) (layers : List Layer) → IsSound layers → Settles space layers layers

-- A quiet change leaves it so
abbrev pub QuietStaysSound : Type 0
QuietStaysSound = (change : Layer → Layer) (layers : List Layer) (space : List ℕ) → IsQuiet change → IsSound layers → IsSound (in_layer space change layers)

-- Where the inconsistent spaces have failed, the layers are still those of a tree
abbrev pub LeftTree : Type 0
LeftTree = (layers : List Layer) → IsTree layers → IsTree (without_inconsistent layers)

-- and no space sees what is inconsistent
abbrev pub LeftSound : Type 0
LeftSound = (layers : List Layer) → IsTree layers → IsSound (without_inconsistent layers)

-- So it is after what follows a step
abbrev pub SettledSound : Type 0
SettledSound =
    (statements : List Statement) (mover : Option Ident) (cost : ℕ) (c : Configuration) (n : ℕ) (d : Configuration) → IsTree c.layers → Left (settled statements mover cost c) n d
    → IsTree d.layers × IsSound d.layers

-- after each step of a tree
abbrev pub StepTree : Type 0
StepTree = (k : Kernel) (id : Ident) (c : Configuration) → IsTree c.layers → IsTree (stepped k id c).1.layers

abbrev pub StepSound : Type 0
StepSound = (k : Kernel) (id : Ident) (c : Configuration) (n : ℕ) (d : Configuration) → IsTree c.layers → Left (stepped k id c) n d → IsSound d.layers

-- and after each turn
abbrev pub TurnTree : Type 0
TurnTree = (k : Kernel) (c : Configuration) → IsTree c.layers → IsTree (turn k c).1.layers

abbrev pub TurnSound : Type 0
TurnSound = (k : Kernel) (c : Configuration) (n : ℕ) (d : Configuration) → IsTree c.layers → Left (turn k c) n d → IsSound d.layers

-- A new space sees what its parent sees
abbrev pub CreatedSound : Type 0
CreatedSound =
    (parent : List ℕ) (procedure : Ident) (layers : List Layer) (l : Layer) → IsTree layers → layer_at layers parent ≡ Some l → is_consistent (view layers parent) ≡ true → IsSound layers
    → IsSound (created parent procedure layers)

-- and the choice of an alternative that tells nothing is not seen
abbrev pub CommittedSound : Type 0
CommittedSound =
    (statements : List Statement) (space : List ℕ) (i : ℕ) (layers : List Layer) → committed_tells statements layers space i ≡ [] → IsSound layers
    → IsSound (committed statements space i layers)

-- Where the space is consistent, only spaces below it fail
abbrev pub CommittedSettles : Type 0
CommittedSettles =
    (statements : List Statement) (space : List ℕ) (i : ℕ) (layers : List Layer) (l : Layer) → layer_at layers space ≡ Some l → IsSound layers
    → is_consistent (view layers space) ≡ true → Settles space (committed statements space i layers) (without_inconsistent (committed statements space i layers))

-- What follows an edit by the search after which only spaces below one fail is that these fail, what is needed begins, and the queue follows
abbrev pub FollowedSettles : Type 0
FollowedSettles =
    (statements : List Statement) (c : Configuration) (space : List ℕ) (before after : List Layer) → Settles space before after
    → followed statements c before ≡ record c { layers = triggered statements after; queue = queue_after (runnable statements (triggered statements after)) None c.queue }

-- What follows one that leaves nothing inconsistent is that what is needed begins, and the queue follows
abbrev pub FollowedLeft : Type 0
FollowedLeft =
    (statements : List Statement) (c : Configuration) (layers : List Layer) → IsSound layers
    → followed statements c layers ≡ record c { layers = triggered statements layers; queue = queue_after (runnable statements (triggered statements layers)) None c.queue }

-- The layers in which a program opens are sound
abbrev pub OpeningSound : Type 0
OpeningSound = (k : Kernel) → IsSound (opening_layers k)

-- those of a tree
abbrev pub OpeningTree : Type 0
OpeningTree = (k : Kernel) → IsTree (opening_layers k)

-- and are left as they are
abbrev pub OpeningLeft : Type 0
OpeningLeft = (k : Kernel) → opening k ≡ record { layers = opening_layers k; queue = queue_after (runnable k.statements (opening_layers k)) None []; shown = [] }

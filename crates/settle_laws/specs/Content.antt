-- That each turn leaves no trigger that is needed.
use Rattle.std.specs.Prelude.{ℕ, ◌≡◌, false, List, Option}
use Rattle.oz_base.specs.declared.names.Ident.{Ident}
use Rattle.oz_language.specs.declared.kernel.Statement.{Statement}
use Rattle.oz_language.specs.declared.kernel.Kernel.{Kernel}
use Rattle.oz_semantics.specs.Settling.{settled, top_is_inconsistent}
use Rattle.oz_semantics.specs.Steps.{stepped}
use Rattle.oz_semantics.specs.Schedule.{turn}
use Rattle.oz_semantics.specs.Runs.{opening}
use Rattle.oz_semantics.specs.Search.{followed}
use Rattle.oz_semantics.specs.declared.configuration.Layer.{Layer}
use Rattle.oz_semantics.specs.declared.configuration.Configuration.{Configuration}
use Rattle.view_laws.specs.Needs.{NoneNeeded}
use Rattle.settle_laws.specs.Turns.{Left}

-- After what follows a step no trigger is needed
abbrev pub SettledContent : Type 0
SettledContent =
    (statements : List Statement) (mover : Option Ident) (cost : ℕ) (c : Configuration) (n : ℕ) (d : Configuration) → Left (settled statements mover cost c) n d
    → NoneNeeded statements d.layers

-- so after each step
abbrev pub StepContent : Type 0
StepContent = (k : Kernel) (id : Ident) (c : Configuration) (n : ℕ) (d : Configuration) → Left (stepped k id c) n d → NoneNeeded k.statements d.layers

-- and after each turn
abbrev pub TurnContent : Type 0
TurnContent = (k : Kernel) (c : Configuration) (n : ℕ) (d : Configuration) → Left (turn k c) n d → NoneNeeded k.statements d.layers

-- after an edit by the search that leaves the top consistent
abbrev pub FollowedContent : Type 0
FollowedContent = (statements : List Statement) (c : Configuration) (layers : List Layer) → top_is_inconsistent layers ≡ false → NoneNeeded statements (followed statements c layers).layers

-- and where a program opens
abbrev pub OpeningContent : Type 0
OpeningContent = (k : Kernel) → NoneNeeded k.statements (opening k).layers

-- What the calls of a machine answer.
use Rattle.std.specs.Prelude.{ℕ, zero, suc, ◌≡◌, ◌<◌, ◌≤◌, ◌-◌, true, false, List, Option, Some, None}
use Rattle.oz_base.specs.declared.names.Ident.{Ident}
use Rattle.oz_language.specs.declared.kernel.Kernel.{Kernel}
use Rattle.oz_semantics.specs.Schedule.{turn}
use Rattle.oz_semantics.specs.Runs as runs
use Rattle.oz_semantics.specs.Runs.{left_by}
use Rattle.oz_semantics.specs.declared.configuration.Configuration.{Configuration}
use Rattle.oz_semantics.specs.Spaces.{state}
use Rattle.oz_semantics.specs.Search.{has_script, script_variable}
use Rattle.oz_semantics.specs.Texts.{Printed}
use Rattle.oz_machine.specs.Courses.{Loaded}
use Rattle.oz_machine.specs.declared.runs.Ran.{Ran}
use Rattle.oz_machine.specs.declared.runs.Ran.TheVariants.{Ended, TopEnded, OutOfFuel}
use Rattle.oz_machine.specs.declared.texts.Text.{Text}

-- what so many turns leave
unfoldable pub after_turns : Kernel → ℕ → Configuration → Configuration
after_turns k zero c = c
after_turns k (suc n) c = after_turns k n (left_by (turn k c))

-- some number of turns leads from one configuration to the other
abbrev pub IsAfterTurns : Kernel → Configuration → Configuration → Type 0
IsAfterTurns k old new = (n : ℕ) × (new ≡ after_turns k n old)

-- a run was left off: so many turns were made, and with the fuel that is left it goes on from there as it would have
abbrev pub IsLeftOff : Kernel → List ℕ → ℕ → Configuration → Configuration → Type 0
IsLeftOff k space fuel old new = IsAfterTurns k old new × ((left : ℕ) × (left ≤ fuel) × (runs.run k space new left ≡ runs.run k space old fuel))

-- how a run of a space with this fuel ended, by its answer and what the machine is then
abbrev pub IsRun : Loaded → List ℕ → ℕ → runs.Ran → Ran → Type 0
IsRun m space fuel r (Ended state_found steps) =
    (steps ≤ fuel) × (r ≡ runs.Ended m.config (fuel - steps)) × (state_found ≡ state m.kernel.statements m.config.layers space)
IsRun m space fuel r (TopEnded exception steps) = (steps ≤ fuel) × (r ≡ runs.TopRaised m.config (fuel - steps) exception)
IsRun m space fuel r OutOfFuel = r ≡ runs.Over m.config

-- the variable of the script, where that is a procedure of one parameter
abbrev pub IsScript : Loaded → Option Ident → Type 0
IsScript m None = has_script m.config ≡ false
IsScript m (Some x) = (has_script m.config ≡ true) × (x ≡ script_variable)

-- the text, or none exactly where it costs more than the fuel
abbrev pub PrintsWithin : Printed → ℕ → Option Text → Type 0
PrintsWithin printed fuel None = fuel < printed.nodes
PrintsWithin printed fuel (Some text) = (text.bytes ≡ printed.bytes) × (text.steps ≡ printed.nodes) × (printed.nodes ≤ fuel)

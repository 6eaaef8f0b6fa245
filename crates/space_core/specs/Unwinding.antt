-- An exception goes to the nearest mark of a stack.
use Rattle.std.specs.Prelude.{ℕ, ◌≡◌, Bool, true, false, List, Some, None, drop}
use Rattle.oz_base.specs.declared.names.Ident.{Ident}
use Rattle.oz_semantics.specs.Configurations.{thread_at, frames_in, with_frames}
use Rattle.oz_semantics.specs.Exceptions.{unwound}
use Rattle.oz_semantics.specs.declared.configuration.Frame.{Frame}
use Rattle.space_core.specs.Shown.{IsQuiet}
use Rattle.space_core.specs.declared.level.Level.{Level}

-- an exception of the statement on top of a thread's stack went to the nearest mark below it; or there is none
abbrev pub IsLevelCaught : Ident → ℕ → Level → Level → Bool → Type 0
IsLevelCaught x number old new true =
    (frames : List Frame) × (unwound x (drop 1 (frames_in (thread_at old.threads.list number))) ≡ Some frames) × IsQuiet (with_frames number (λ rest. frames)) old new
IsLevelCaught x number old new false = (unwound x (drop 1 (frames_in (thread_at old.threads.list number))) ≡ None) × (new ≡ old)

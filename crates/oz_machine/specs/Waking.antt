-- What follows a step that told a space something, where it may be known who wakes.
use Rattle.std.specs.Prelude.{ℕ, ◌≡◌, ◌⊎◌, List, Option, Some, None, drop}
use Rattle.oz_base.specs.declared.names.Ident.{Ident}
use Rattle.oz_language.specs.declared.kernel.Statement.{Statement}
use Rattle.oz_semantics.specs.Settling.{Turned, settled}
use Rattle.oz_semantics.specs.declared.outcome.Stepped.{Stepped}
use Rattle.oz_machine.specs.declared.course.Due.TheVariants.{Told}
use Rattle.oz_machine.specs.declared.course.Course.{Course}
use Rattle.oz_sleep.specs.declared.sleeping.Sleeping.{Sleeping}
use Rattle.oz_machine.specs.Asleep.{AreLaidBut}
use Rattle.oz_machine.specs.Courses.{config_of, stepping}
use Rattle.oz_machine.specs.Quiet.{IsPlain}

-- everybody is due
pub record IsLeftToAll (statements : List Statement) (mover : Ident) (cost : ℕ) (old : Course) (result : Stepped) (new : Course) : Type 0 where
  pub asleep : (s : Sleeping) → AreLaidBut statements new.levels s new.due new.queue
  pub turn : ◌≡◌ {A = Turned} (settled statements (Some mover) cost (stepping old)) (result, config_of statements new)

-- or those with these numbers, where no space is a value and each by-need computation has begun
pub record IsLeftTo (mover : Ident) (numbers : List ℕ) (old new : Course) : Type 0 where
  pub plain : IsPlain old.levels
  pub levels : new.levels ≡ old.levels
  pub queue : new.queue ≡ drop 1 old.queue
  pub due : new.due ≡ Told mover numbers
  pub shown : new.shown ≡ old.shown

abbrev pub IsLeftTold : List Statement → Ident → ℕ → Option (List ℕ) → Course → Stepped → Course → Type 0
IsLeftTold statements mover cost None old result new = IsLeftToAll statements mover cost old result new
IsLeftTold statements mover cost (Some numbers) old result new = IsLeftToAll statements mover cost old result new ⊎ IsLeftTo mover numbers old new

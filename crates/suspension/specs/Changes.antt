-- What becomes of keys and their lists.
use Rattle.std.specs.Prelude.{ℕ, ◌≡◌, ◌⊎◌, Bool, true, not, if◌then◌else◌, List, [], Option, Some, None, Contains}
use Rattle.oz_base.specs.Lists.{is_empty}
use Rattle.oz_base.specs.Names.{ident_eq}
use Rattle.oz_base.specs.declared.names.Ident.{Ident}
use Rattle.oz_laws.specs.Touched.{Meets}
use Rattle.oz_semantics.specs.Store.{View, Same}
use Rattle.suspension.specs.Sleeping.{numbers_at, IsKey}
use Rattle.suspension.specs.declared.sleepers.Sleepers.{Sleepers}

-- whether there is a number in a variable's list
abbrev pub is_key : Sleepers → Ident → Bool
is_key sleepers k = not (is_empty (numbers_at sleepers k))

-- each key stands in the list of all
abbrev pub AreListed : Sleepers → Type 0
AreListed sleepers = (k : Ident) → IsKey sleepers k → Contains sleepers.variables k

-- the key that is equal to a variable; none where no key is
abbrev pub Finds : View → Sleepers → Ident → Option Ident → Type 0
Finds view sleepers x (Some k) = (is_key sleepers k ≡ true) × Same view x k
Finds view sleepers x None = AreListed sleepers → (k : Ident) → IsKey sleepers k → Same view x k → ⊥

-- the variable has this list, and the others have theirs
abbrev pub Sets : Sleepers → Sleepers → Ident → List ℕ → Type 0
Sets old new k list = (y : Ident) → numbers_at new y ≡ (if ident_eq y k then list else numbers_at old y)

-- the same numbers, and this one
pub record Gains (n : ℕ) (old new : List ℕ) : Type 0 where
  pub here : Contains new n
  pub kept : (m : ℕ) → Contains old m → Contains new m
  pub only : (m : ℕ) → Contains new m → Contains old m ⊎ (m ≡ n)

-- the same lists, where the variable stands among those that may be keys
pub record Admits (k : Ident) (old new : Sleepers) : Type 0 where
  pub lists : new.lists ≡ old.lists
  pub here : AreListed old → Contains new.variables k
  pub kept : (y : Ident) → Contains old.variables y → Contains new.variables y

-- a variable's list has this number too
pub record Enters (n : ℕ) (k : Ident) (old new : Sleepers) : Type 0 where
  pub list : List ℕ
  pub lists : Sets old new k list
  pub gains : Gains n (numbers_at old k) list
  pub listed : AreListed old → AreListed new

-- a variable is no key any more
pub record Leaves (k : Ident) (old new : Sleepers) : Type 0 where
  pub lists : Sets old new k []
  pub variables : new.variables ≡ old.variables

-- those of these variables that are keys are keys here too, with the same lists, and no others are
pub record Gathered (old : Sleepers) (seen : List Ident) (new : Sleepers) : Type 0 where
  pub same : (k : Ident) → IsKey new k → numbers_at new k ≡ numbers_at old k
  pub kept : (k : Ident) → Contains seen k → IsKey old k → IsKey new k
  pub listed : AreListed new

-- the same numbers in all lists
pub record Tidies (old new : Sleepers) : Type 0 where
  pub kept : (k : Ident) (n : ℕ) → Contains (numbers_at old k) n → Contains (numbers_at new k) n
  pub only : (k : Ident) (n : ℕ) → Contains (numbers_at new k) n → Contains (numbers_at old k) n
  pub listed : AreListed new

-- The lists of the keys that are equal to one of these variables were taken out, and the others are left
pub record Waking (view : View) (done : List Ident) (old new : Sleepers) (woken : List ℕ) : Type 0 where
  pub sleeps : (k : Ident) (n : ℕ) → Contains (numbers_at old k) n → Contains woken n ⊎ Contains (numbers_at new k) n
  pub fewer : (k : Ident) (n : ℕ) → Contains (numbers_at new k) n → Contains (numbers_at old k) n
  pub untouched : (k : Ident) → IsKey new k → Meets view done k → ⊥
  pub only : (n : ℕ) → Contains woken n → (k : Ident) × Meets view done k × Contains (numbers_at old k) n
  pub listed : AreListed new

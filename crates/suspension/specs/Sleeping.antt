-- Threads that wait, by the variables for which they wait.
use Rattle.std.specs.Prelude.{ℕ, ◌≡◌, ◌⊎◌, List, [], ◌++◌, Contains, unwrap_or}
use Rattle.std.specs.List.Sorted.{IsStrictlyIncreasing}
use Rattle.ident_map.specs.Entries.{entry}
use Rattle.oz_base.specs.declared.names.Ident.{Ident}
use Rattle.oz_laws.specs.Touched.{Meets, Touches}
use Rattle.oz_semantics.specs.Store.{View, Same}
use Rattle.suspension.specs.declared.sleepers.Sleepers.{Sleepers}

-- the numbers in the list of a variable
abbrev pub numbers_at : Sleepers → Ident → List ℕ
numbers_at sleepers k = unwrap_or (entry sleepers.lists k) []

-- there is a number in its list
abbrev pub IsKey : Sleepers → Ident → Type 0
IsKey sleepers k = (n : ℕ) × Contains (numbers_at sleepers k) n

-- no two keys are equal, and each stands in the list of all
pub record AreKeys (view : View) (sleepers : Sleepers) : Type 0 where
  pub apart : (k l : Ident) → IsKey sleepers k → IsKey sleepers l → Same view k l → k ≡ l
  pub listed : (k : Ident) → IsKey sleepers k → Contains sleepers.variables k

-- a variable is equal to a key whose list has the number
abbrev pub IsFoundBy : View → Sleepers → Ident → ℕ → Type 0
IsFoundBy view sleepers x n = (k : Ident) × Same view x k × Contains (numbers_at sleepers k) n

-- so is each of these
abbrev pub IsFound : View → Sleepers → ℕ → List Ident → Type 0
IsFound view sleepers n xs = (x : Ident) → Contains xs x → IsFoundBy view sleepers x n

-- The number is found by each of these variables now, and nothing else changes
pub record FallsAsleep (view : View) (n : ℕ) (xs : List Ident) (old new : Sleepers) : Type 0 where
  pub keys : AreKeys view old → AreKeys view new
  pub found : IsFound view new n xs
  pub kept : (m : ℕ) (ys : List Ident) → IsFound view old m ys → IsFound view new m ys
  pub only : (y : Ident) (m : ℕ) → IsFoundBy view new y m → IsFoundBy view old y m ⊎ ((m ≡ n) × Meets view xs y)

-- Whom a touched variable finds is woken. All others sleep on, and are found as before; no key that is left is touched.
pub record Wakes (view : View) (touched : List Ident) (old new : Sleepers) (woken : List ℕ) : Type 0 where
  pub ascends : IsStrictlyIncreasing woken
  pub sleeps : (n : ℕ) (ys : List Ident) → IsFound view old n ys
      → Contains woken n ⊎ (IsFound view new n ys × ((y : Ident) → Contains ys y → Meets view touched y → ⊥))
  pub keys : AreKeys view new
  pub untouched : (k : Ident) → IsKey new k → Meets view touched k → ⊥
  pub only : (n : ℕ) → Contains woken n → (t : Ident) × Contains touched t × IsFoundBy view old t n
  pub fewer : (y : Ident) (n : ℕ) → IsFoundBy view new y n → IsFoundBy view old y n

-- Where more is told

-- keys stay so where what is told besides touches none of them
abbrev pub KeysStay : Type 0
KeysStay =
    (before more : View) (touched : List Ident) (sleepers : Sleepers) → Touches before more touched
    → ((k : Ident) → IsKey sleepers k → Meets before touched k → ⊥) → AreKeys before sleepers → AreKeys (before ++ more) sleepers

-- what is found is found still where equal variables stay equal
abbrev pub FoundStays : Type 0
FoundStays =
    (before after : View) (sleepers : Sleepers) (n : ℕ) (xs : List Ident) → ((x k : Ident) → Same before x k → Same after x k)
    → IsFound before sleepers n xs → IsFound after sleepers n xs

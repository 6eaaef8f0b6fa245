-- What becomes of keys and their lists.
use Rattle.std.specs.Prelude.{ℕ, ◌≡◌, ◌⊎◌, true, false, if◌then◌else◌, List, [], ◌∷◌, ◌++◌, Some, Contains}
use Rattle.ident_map.specs.Entries.{entry}
use Rattle.oz_base.specs.Names.{ident_eq}
use Rattle.oz_base.specs.declared.interval.Interval.{Interval}
use Rattle.oz_base.specs.declared.names.Ident.{Ident}
use Rattle.oz_semantics.specs.Store.{View, Same, same}
use Rattle.oz_semantics.specs.declared.configuration.Propagator.{Propagator}
use Rattle.oz_semantics.specs.declared.value.Tell.{Tell}
use Rattle.oz_semantics.specs.declared.value.Tell.TheVariants.{Within}
use Rattle.term_store.specs.Classes.{Table, root_in}
use Rattle.watching.specs.Watching.{HasList, IsCovered, AreListed, AreKeys, AreApart}
use Rattle.watching.specs.declared.keys.Keys.{Keys}
use Rattle.watching.specs.declared.keys.Gathering.{Gathering}

-- the variable has this list, and the others have theirs
abbrev pub Sets : Keys → Keys → Ident → List ℕ → Type 0
Sets old new k list = (y : Ident) → entry new.lists y ≡ (if ident_eq y k then Some list else entry old.lists y)

-- one key more, with this list
pub record Adds (old new : Keys) (k : Ident) (list : List ℕ) : Type 0 where
  pub variables : new.variables ≡ old.variables ++ k ∷ []
  pub lists : Sets old new k list

-- a key's list has one index more
pub record Enters (old new : Keys) (k : Ident) (i : ℕ) : Type 0 where
  pub list : List ℕ
  pub stands : HasList old k list
  pub variables : new.variables ≡ old.variables
  pub lists : Sets old new k (list ++ i ∷ [])

-- Of these keys, those that are equal to the variable are left out, and all that stands in their lists stands in one
pub record Gathered (view : View) (r : Ident) (keys : Keys) (seen : List Ident) (draft : Gathering) : Type 0 where
  pub others : (k : Ident) (is : List ℕ) → HasList keys k is → Contains seen k → same view k r ≡ false → HasList draft.others k is
  pub only : (k : Ident) (is : List ℕ) → HasList draft.others k is → HasList keys k is × (same view k r ≡ false)
  pub listed : AreListed draft.others
  pub united : (k : Ident) (is : List ℕ) (i : ℕ) → HasList keys k is → Contains seen k → same view k r ≡ true → Contains is i → Contains draft.list i

-- all keys that are equal to the variable give way to it
pub record Gathers (view : View) (r : Ident) (old new : Keys) : Type 0 where
  pub list : List ℕ
  pub here : HasList new r list
  pub united : (k : Ident) (is : List ℕ) (i : ℕ) → HasList old k is → same view k r ≡ true → Contains is i → Contains list i
  pub others : (k : Ident) (is : List ℕ) → HasList old k is → same view k r ≡ false → HasList new k is
  pub only : (k : Ident) (is : List ℕ) → HasList new k is → (k ≡ r) ⊎ (HasList old k is × (same view k r ≡ false))
  pub listed : AreListed new

-- no other variable of its class is a key
abbrev pub StandsAlone : View → Ident → Keys → Type 0
StandsAlone view r keys = (k : Ident) (is : List ℕ) → HasList keys k is → Same view k r → k ≡ r

-- no key is equal to the variable
abbrev pub IsAlone : View → Ident → Keys → Type 0
IsAlone view r keys = (k : Ident) (is : List ℕ) → HasList keys k is → Same view k r → ⊥

-- what is covered stays so
abbrev pub KeepsCover : View → Keys → Keys → Type 0
KeepsCover view old new = (x : Ident) (i : ℕ) → IsCovered view old x i → IsCovered view new x i

-- the keys are right, and the variable stands for its class among them
pub record AreKeyed (view : View) (ps : List Propagator) (r : Ident) (old new : Keys) : Type 0 where
  pub keys : AreKeys view ps new
  pub apart : AreApart view new
  pub alone : StandsAlone view r new
  pub kept : KeepsCover view old new

-- the keys are right, and each of these variables is equal to one whose list has the index
pub record AreWatched (view : View) (ps : List Propagator) (xs : List Ident) (i : ℕ) (old new : Keys) : Type 0 where
  pub keys : AreKeys view ps new
  pub apart : AreApart view new
  pub kept : KeepsCover view old new
  pub covers : (x : Ident) → Contains xs x → IsCovered view new x i

-- the keys are right, and of the class of a variable that is told a domain none but the root is a key
pub record AreRooted (view : View) (ps : List Propagator) (t : Table) (tells : List Tell) (all : Keys) : Type 0 where
  pub keys : AreKeys view ps all
  pub apart : AreApart view all
  pub rooted : (x : Ident) (is : List Interval) → Contains tells (Within x is) → (k : Ident) (l : List ℕ) → HasList all k l → Same view x k → k ≡ root_in t x

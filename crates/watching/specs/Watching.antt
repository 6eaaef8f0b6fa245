-- Which propagators of a space may be due: keys, by whose classes they are found, and candidates, among which those that are due stand.
use Rattle.std.specs.Prelude.{ℕ, ◌≡◌, Bool, true, false, not, ◌&&◌, if◌then◌else◌, List, [], ◌∷◌, ◌++◌, Some, is_some, slice_get, Contains}
use Rattle.std.specs.List.Sorted.{IsNonDecreasing}
use Rattle.ident_map.specs.Entries.{entry}
use Rattle.oz_base.specs.Lists.{is_empty}
use Rattle.oz_base.specs.declared.interval.Interval.{Interval}
use Rattle.oz_base.specs.declared.names.Ident.{Ident}
use Rattle.oz_semantics.specs.Store.{View, Same, told_value, told_domain, domain_of, is_news, is_consistent}
use Rattle.oz_semantics.specs.Propagation.{is_due}
use Rattle.oz_semantics.specs.Values.{fields_of}
use Rattle.oz_semantics.specs.declared.configuration.Propagator.{Propagator}
use Rattle.oz_semantics.specs.declared.value.Tell.{Tell}
use Rattle.oz_semantics.specs.declared.value.Tell.TheVariants.{Equal, Is, Within}
use Rattle.watching.specs.declared.keys.Keys.{Keys}
use Rattle.watching.specs.declared.watch.Foresight.{Foresight}
use Rattle.watching.specs.declared.watch.Foresight.TheVariants.{Settled, Fresh, Joins}
use Rattle.watching.specs.declared.watched.Watched.{Watched}
use Rattle.watching.specs.declared.watch.Watch.{Watch}

-- Keys

-- the variable is a key, and these are the indices of its list
abbrev pub HasList : Keys → Ident → List ℕ → Type 0
HasList keys k is = entry keys.lists k ≡ Some is

-- a variable is equal to a key whose list has the index
pub record IsCovered (view : View) (keys : Keys) (x : Ident) (i : ℕ) : Type 0 where
  pub key : Ident
  pub list : List ℕ
  pub stands : HasList keys key list
  pub equal : Same view x key
  pub has : Contains list i

-- each key stands in the list of all
abbrev pub AreListed : Keys → Type 0
AreListed keys = (k : Ident) (is : List ℕ) → HasList keys k is → Contains keys.variables k

-- each variable of a propagator is equal to a key whose list has the propagator's index, and each key has a domain
pub record AreKeys (view : View) (ps : List Propagator) (keys : Keys) : Type 0 where
  pub covers : (i : ℕ) (p : Propagator) (x : Ident) → slice_get ps i ≡ Some p → Contains p.variables x → IsCovered view keys x i
  pub domains : (k : Ident) (is : List ℕ) → HasList keys k is → is_some (domain_of view k) ≡ true
  pub listed : AreListed keys

-- no two keys are equal
abbrev pub AreApart : View → Keys → Type 0
AreApart view keys = (k l : Ident) (is js : List ℕ) → HasList keys k is → HasList keys l js → Same view k l → k ≡ l

-- Candidates

-- each propagator that is due is among these
abbrev pub HasDue : View → List Propagator → List ℕ → Type 0
HasDue view ps due = (i : ℕ) (p : Propagator) → slice_get ps i ≡ Some p → is_due view p ≡ true → Contains due i

-- each propagator that has a variable of the class is among these
abbrev pub IsWoken : View → List Propagator → List ℕ → Ident → Type 0
IsWoken view ps due t = (i : ℕ) (p : Propagator) (x : Ident) → slice_get ps i ≡ Some p → Contains p.variables x → Same view x t → Contains due i

-- The propagators that are due are among the candidates, which ascend, and those that have a variable of a class are in the list of
-- its key
pub record Tracks (view : View) (ps : List Propagator) (w : Watched) : Type 0 where
  pub due : HasDue view ps w.due
  pub ascends : IsNonDecreasing w.due
  pub keys : AreKeys view ps w.keys
  pub apart : AreApart view w.keys

-- so it is, unless memory was refused or a variable without a domain was watched: then nothing is known
abbrev pub Knows : View → List Propagator → Watch → Type 0
Knows view ps w = w.lost ≡ false → Tracks view ps w.watched

-- Tells

-- a tell that makes no two variables equal
abbrev pub joins_nothing : Tell → Bool
joins_nothing (Equal x y) = false
joins_nothing (Is x v) = is_empty (fields_of v)
joins_nothing (Within x is) = true

-- the variable that gets a value and had none, or a domain that it did not keep to
abbrev pub touched_by : View → Tell → List Ident
touched_by view (Equal x y) = []
touched_by view (Is x v) = if is_some (told_value view x) then [] else x ∷ []
touched_by view (Within x is) = if is_news view (Within x is) then x ∷ [] else []

-- the variable that is told a value or a domain has no domain
abbrev pub is_domainless : View → Tell → Bool
is_domainless view (Equal x y) = not (is_some (domain_of view x))
is_domainless view (Is x v) = not (is_some (domain_of view x))
is_domainless view (Within x is) = not (is_some (domain_of view x))

-- neither a value nor a domain was told of the variable's class
abbrev pub is_free : View → Ident → Bool
is_free view x = not (is_some (told_value view x)) && not (is_some (told_domain view x))

-- a tell that equates two variables, one of which is free
abbrev pub equates_free : View → Tell → Bool
equates_free view (Equal x y) = if is_free view x then true else is_free view y
equates_free view (Is x v) = false
equates_free view (Within x is) = false

-- one such tell alone
abbrev pub joins_free : View → List Tell → Bool
joins_free view [] = false
joins_free view (t ∷ []) = equates_free view t
joins_free view (t ∷ u ∷ us) = false

-- no key is equal to a variable that is told a domain
abbrev pub AreFresh : View → List Tell → Keys → Type 0
AreFresh old tells keys = (x : Ident) (is : List Interval) → Contains tells (Within x is) → (k : Ident) (l : List ℕ) → HasList keys k l → Same (old ++ tells) x k → ⊥

-- it is right as long as nothing is told, and when all this is
abbrev pub Stays : View → List Tell → List Propagator → Watched → Type 0
Stays old tells ps w = Tracks old ps w × (is_consistent (old ++ tells) ≡ true → Tracks (old ++ tells) ps w)

-- what is known of it before this is told
abbrev pub Foresees : View → List Tell → List Propagator → Watched → Foresight → Type 0
Foresees old tells ps w Settled = Stays old tells ps w
Foresees old tells ps w Fresh = Stays old tells ps w × AreFresh old tells w.keys
Foresees old tells ps w Joins = Tracks old ps w

-- so it is, unless it is lost
abbrev pub Foretells : View → List Tell → List Propagator → Foresight → Watch → Type 0
Foretells old tells ps foresight w = w.lost ≡ false → Foresees old tells ps w.watched foresight

-- Classes of variables: trees, each of whose roots stands for a class.
use Rattle.std.specs.Prelude.{ℕ, zero, suc, ◌≡◌, ◌↔◌, ◌⊎◌, ◌<◌, Bool, true, false, if◌then◌else◌, IsTrue, List, Option, Some, None, is_some}
use Rattle.ident_map.specs.Entries.{entry}
use Rattle.ident_map.specs.declared.map.Row.{Row}
use Rattle.oz_base.specs.Names.{ident_eq}
use Rattle.oz_base.specs.declared.names.Ident.{Ident}
use Rattle.oz_domains.specs.Domains.{IntSet}
use Rattle.oz_semantics.specs.Store.{same}
use Rattle.oz_semantics.specs.declared.value.Tell.{Tell}
use Rattle.term_store.specs.declared.cell.Kept.{Kept}
use Rattle.term_store.specs.declared.cell.Cell.{Cell}
use Rattle.term_store.specs.declared.cell.Cell.TheVariants.{Below, Root}
use Rattle.term_store.specs.declared.classes.Top.{Top}

-- what is kept of variables
abbrev pub Table : Type 0
Table = List (Row Cell)

abbrev pub link_of : Option Cell → Option Ident
link_of None = None
link_of (Some (Below parent rank)) = Some parent
link_of (Some (Root rank kept)) = None

abbrev pub rank_of : Option Cell → ℕ
rank_of None = 0
rank_of (Some (Below parent rank)) = rank
rank_of (Some (Root rank kept)) = rank

-- neither a value nor a domain
abbrev pub nothing : Kept
nothing = record { first = None; domain = None }

abbrev pub kept_of : Option Cell → Kept
kept_of None = nothing
kept_of (Some (Below parent rank)) = nothing
kept_of (Some (Root rank kept)) = kept

abbrev pub first_of : Option Cell → Option ℕ
first_of cell = (kept_of cell).first

abbrev pub domain_of : Option Cell → Option IntSet
domain_of cell = (kept_of cell).domain

abbrev pub is_free : Option ℕ → Option IntSet → Bool
is_free None None = true
is_free None (Some s) = false
is_free (Some place) domain = false

abbrev pub is_nothing : Kept → Bool
is_nothing kept = is_free kept.first kept.domain

-- the variable that x stands below
abbrev pub link_in : Table → Ident → Option Ident
link_in t x = link_of (entry t x)

abbrev pub rank_in : Table → Ident → ℕ
rank_in t x = rank_of (entry t x)

-- what is kept of a class, by the variable that stands for it
abbrev pub kept_in : Table → Ident → Kept
kept_in t x = kept_of (entry t x)

-- the place at which the first value was told of a class
abbrev pub first_in : Table → Ident → Option ℕ
first_in t x = (kept_in t x).first

-- the integers that all domains have which were told of a class
abbrev pub domain_in : Table → Ident → Option IntSet
domain_in t x = (kept_in t x).domain

-- ranks grow on the way up
pub record Ranked (t : Table) : Type 0 where
  pub bounded : (x : Ident) → rank_in t x < 256
  pub grows : (x y : Ident) → link_in t x ≡ Some y → rank_in t x < rank_in t y

abbrev pub follow : (Ident → Ident) → Ident → Option Ident → Ident
follow next x None = x
follow next x (Some y) = next y

-- where so many steps up lead, or fewer
unfoldable pub climbed : ℕ → Table → Ident → Ident
climbed zero t x = x
climbed (suc n) t x = follow (climbed n t) x (link_in t x)

-- the variable that stands for the class of x
unfoldable pub root_in : Table → Ident → Ident
root_in t x = climbed 256 t x

-- a variable that stands for a class
abbrev pub IsTop : Table → Ident → Type 0
IsTop t x = link_in t x ≡ None

-- it is a variable that stands for a class, with what is kept of it
pub record Knows (t : Table) (top : Top) : Type 0 where
  pub stands : IsTop t top.root
  pub rank : top.rank ≡ rank_in t top.root
  pub kept : top.kept ≡ kept_in t top.root

-- the same classes, of which the same is kept
pub record Likewise (t t' : Table) : Type 0 where
  pub links : (x : Ident) → link_in t' x ≡ link_in t x
  pub kept : (x : Ident) → kept_in t' x ≡ kept_in t x

-- the same classes, where this is kept of that of r now
pub record Marks (t t' : Table) (r : Ident) (kept : Kept) : Type 0 where
  pub links : (x : Ident) → link_in t' x ≡ link_in t x
  pub here : kept_in t' r ≡ kept
  pub others : (x : Ident) → (x ≡ r → ⊥) → kept_in t' x ≡ kept_in t x

-- x, or another in its place where it is this variable
abbrev pub instead : Ident → Ident → Ident → Ident
instead under over x = if ident_eq x under then over else x

-- one variable stands for what two stood for, and this is kept of the class
pub record Unites (t t' : Table) (under over : Ident) (kept : Kept) : Type 0 where
  pub top : IsTop t' over
  pub roots : (x : Ident) → root_in t' x ≡ instead under over (root_in t x)
  pub here : kept_in t' over ≡ kept
  pub others : (x : Ident) → (x ≡ under → ⊥) → (x ≡ over → ⊥) → kept_in t' x ≡ kept_in t x

-- one of two stands for both
abbrev pub UnitesOne : Table → Table → Ident → Ident → Type 0
UnitesOne t t' x y = Unites t t' x y (kept_in t y) ⊎ Unites t t' y x (kept_in t x)

-- where nothing is kept of the other
abbrev pub UnitesFree : Table → Table → Ident → Ident → Type 0
UnitesFree t t' x y =
    ((is_nothing (kept_in t x) ≡ true) × Unites t t' x y (kept_in t y))
    ⊎ ((is_nothing (kept_in t y) ≡ true) × Unites t t' y x (kept_in t x))

-- one of two stands for both, of which this is kept
abbrev pub UnitesAny : Table → Table → Ident → Ident → Kept → Type 0
UnitesAny t t' x y kept = Unites t t' x y kept ⊎ Unites t t' y x kept

-- a class that has no value is put below another, or below one that has a value
abbrev pub IsLower : Table → Ident → Ident → Type 0
IsLower t under over = (first_in t under ≡ None) ⊎ (is_some (first_in t over) ≡ true)

-- likewise, the lower one below
abbrev pub UnitesWith : Table → Table → Ident → Ident → Kept → Type 0
UnitesWith t t' x y kept = (IsLower t x y × Unites t t' x y kept) ⊎ (IsLower t y x × Unites t t' y x kept)

-- the classes of a table are those of variables that the tells make equal
pub record IsPartition (ts : List Tell) (t : Table) : Type 0 where
  -- two variables are equal exactly where one variable stands for both
  pub classes : (x y : Ident) → IsTrue (same ts x y) ↔ (root_in t x ≡ root_in t y)
  -- which stands for itself
  pub roots : (x : Ident) → root_in t (root_in t x) ≡ root_in t x

-- What is kept of each space, as the layers of a configuration, and what holds of it.
use Rattle.std.specs.Prelude.{ℕ, ◌≡◌, ◌≤◌, Bool, true, false, not, ◌&&◌, nat_lt, List, [], ◌∷◌, map, filter, drop, length, Contains}
use Rattle.std.specs.List.{list_any, list_all, flat_map}
use Rattle.oz_base.specs.Lists.{list_eq}
use Rattle.oz_base.specs.declared.names.Ident.{Ident}
use Rattle.oz_semantics.specs.Names.{is_below, is_properly_below, is_top, parent_of}
use Rattle.oz_semantics.specs.Store.{named_by, is_consistent}
use Rattle.oz_semantics.specs.Configurations.{view}
use Rattle.oz_semantics.specs.declared.value.Tell.{Tell}
use Rattle.oz_semantics.specs.declared.configuration.Layer.{Layer}
use Rattle.oz_semantics.specs.declared.configuration.Next.{Next}
use Rattle.oz_laws.specs.Touched.{Touches}
use Rattle.view_laws.specs.Trees.{IsTree}
use Rattle.view_laws.specs.Spaceless.{gives_space}
use Rattle.space_core.specs.declared.level.Level.{Level}
use Rattle.space_core.specs.declared.level.Numbers.{Numbers}

-- the numbers that a space gives out next, a thread's among them
abbrev pub next_with : ℕ → Numbers → Next
next_with thread numbers = record { variable = numbers.variable; thread = thread; procedure = numbers.procedure; name = numbers.name; child = numbers.child }

abbrev pub next_of : Level → Next
next_of l = next_with l.threads.next l.numbers

-- a space was told what its store has from its place on
abbrev pub shown : Level → Layer
shown l =
    record {
      space = l.space;
      status = l.status;
      tells = drop l.told_from l.constraints.store;
      threads = l.threads.list;
      triggers = l.triggers;
      propagators = l.constraints.propagators;
      cells = l.objects.cells;
      ports = l.objects.ports;
      next = next_of l;
    }

abbrev pub shown_all : List Level → List Layer
shown_all = map shown

abbrev pub is_named : List ℕ → Level → Bool
is_named space l = list_eq l.space space

-- what the parent of a space sees; the top has none
abbrev pub seen_above : List Layer → List ℕ → List Tell
seen_above layers [] = []
seen_above layers (n ∷ s) = view layers (parent_of (n ∷ s))

-- whether a layer gave out a variable
abbrev pub gave_out : Ident → Layer → Bool
gave_out x l = nat_lt x.number l.next.variable && list_eq l.space x.space

-- whether a space or one above it gave out a variable
abbrev pub is_home : List Layer → List ℕ → Ident → Bool
is_home layers space x = list_any (λ (l : Layer). gave_out x l && is_below l.space space) layers

-- whether a space above it did
abbrev pub is_outer : List Layer → List ℕ → Ident → Bool
is_outer layers space x = list_any (λ (l : Layer). gave_out x l && is_properly_below l.space space) layers

-- whether a variable is not the space's own
abbrev pub is_other : List ℕ → Ident → Bool
is_other space x = not (list_eq x.space space)

-- all that is touched and is not the space's own was noted, and nothing else
pub record Traces (space : List ℕ) (before more : List Tell) (noted : List Ident) : Type 0 where
  pub all : List Ident
  pub touches : Touches before more all
  pub others : noted ≡ filter (is_other space) all

-- Nothing is kept of what a space sees: it is not the top, and was told nothing
pub record IsBare (l : Level) : Type 0 where
  pub inner : is_top l.space ≡ false
  pub store : l.constraints.store ≡ []
  pub touched : l.touched ≡ []

-- What is kept of a space fits the layers
pub record Fits (layers : List Layer) (l : Level) : Type 0 where
  -- the store is what the space sees, after what its parent sees, or the space is bare
  pub seen : l.bare ≡ false → l.constraints.store ≡ view layers l.space
  pub from : l.bare ≡ false → l.told_from ≡ length (seen_above layers l.space)
  pub bare : l.bare ≡ true → IsBare l
  pub consistent : is_consistent (view layers l.space) ≡ true
  -- where it is traced, all that it was told names variables of the space or of those above it
  pub home : l.traced ≡ true → list_all (is_home layers l.space) (flat_map named_by (shown l).tells) ≡ true
  -- and of what it touches, the variables of other spaces were noted
  pub touches : l.traced ≡ true → is_top l.space ≡ false → Traces l.space (seen_above layers l.space) (shown l).tells l.touched
  -- where it is not noted that it was told of a space, it was told of none
  pub known : l.knows_space ≡ false → list_any gives_space (shown l).tells ≡ false

-- The layers are those of a tree, and what is kept of each space fits them
pub record IsSound (levels : List Level) : Type 0 where
  pub tree : IsTree (shown_all levels)
  pub fits : (l : Level) → Contains levels l → Fits (shown_all levels) l

-- One space is changed in this way, and what it was told is kept
pub record IsQuiet (change : Layer → Layer) (old new : Level) : Type 0 where
  pub becomes : shown new ≡ change (shown old)
  pub space : new.space ≡ old.space
  pub store : new.constraints.store ≡ old.constraints.store
  pub told_from : new.told_from ≡ old.told_from
  pub touched : new.touched ≡ old.touched
  pub traced : new.traced ≡ old.traced
  pub knows : new.knows_space ≡ old.knows_space
  pub bare : new.bare ≡ old.bare
  pub variables : old.numbers.variable ≤ new.numbers.variable
  pub children : old.numbers.child ≤ new.numbers.child

-- it is changed in some way
abbrev pub IsChanged : Level → Level → Type 0
IsChanged old new = (change : Layer → Layer) × IsQuiet change old new

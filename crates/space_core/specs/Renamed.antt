-- What is kept of spaces under other names.
use Rattle.std.specs.Prelude.{ℕ, ◌≡◌, ◌⊎◌, Bool, true, false, if◌then◌else◌, List, [], ◌∷◌, map, filter, Contains}
use Rattle.oz_semantics.specs.Names.{is_below, is_properly_below}
use Rattle.oz_semantics.specs.Renamings as meant
use Rattle.oz_semantics.specs.Renamings.{renamed_layer}
use Rattle.oz_semantics.specs.Edits.{all_placed}
use Rattle.oz_semantics.specs.declared.configuration.Layer.{Layer}
use Rattle.renamings.specs.declared.renaming.Renaming.{Renaming}
use Rattle.renamings.specs.declared.renaming.Renaming.TheVariants.{Move, Merge}
use Rattle.renamed_terms.specs.Meanings.{renaming_of}
use Rattle.space_core.specs.Shown.{shown, shown_all}
use Rattle.space_core.specs.declared.level.Level.{Level}

-- whether a renaming gives a space another name: a copy those at and below it, and a merge those below the child
abbrev pub gives_name : Renaming → List ℕ → Bool
gives_name (Move from to) space = is_below from space
gives_name (Merge child parent given) space = is_properly_below child space

-- The space and what is in it have other names. What it sees is still to be made: it holds what the space was told, and nothing else
pub record IsRenamed (r : meant.Renaming) (old new : Level) : Type 0 where
  pub shows : shown new ≡ renamed_layer r (shown old)
  pub traced : new.traced ≡ false
  pub knows : new.knows_space ≡ old.knows_space
  pub store : new.constraints.store ≡ (shown new).tells
  pub touched : new.touched ≡ []
  pub bare : new.bare ≡ old.bare

-- a space is put among others under its other name, if it has one
pub record IsPlacedBy (by : Renaming) (l : Level) (old new : List Level) : Type 0 where
  pub shows : shown_all new ≡ all_placed (if gives_name by l.space then renamed_layer (renaming_of by) (shown l) ∷ [] else []) (shown_all old)
  pub member : (n : Level) → Contains new n → Contains old n ⊎ ((gives_name by l.space ≡ true) × IsRenamed (renaming_of by) l n)

-- the layers under their other names, of those that have one
abbrev pub renamed_of : Renaming → List Level → List Layer
renamed_of by source = map (renamed_layer (renaming_of by)) (filter (λ (l : Layer). gives_name by l.space) (shown_all source))

-- it is one of these under another name
pub record IsOneOf (by : Renaming) (source : List Level) (n : Level) : Type 0 where
  pub before : Level
  pub among : Contains source before
  pub named : gives_name by before.space ≡ true
  pub renamed : IsRenamed (renaming_of by) before n

-- so are all of these, one after another
pub record ArePlacedBy (by : Renaming) (source old new : List Level) : Type 0 where
  pub shows : shown_all new ≡ all_placed (renamed_of by source) (shown_all old)
  pub member : (n : Level) → Contains new n → Contains old n ⊎ IsOneOf by source n

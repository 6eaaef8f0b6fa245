-- What of a match is left.
use Rattle.std.specs.Prelude.{◌≡◌, ◌⊎◌, List, [], ◌∷◌, ◌++◌}
use Rattle.std.specs.List.{flat_map}
use Rattle.oz_base.specs.declared.names.Ident.{Ident}
use Rattle.oz_language.specs.declared.kernel.Piece.{Piece}
use Rattle.matching.specs.declared.left.Left.{Left}

-- the variables in the places of the nodes
abbrev pub subjects_of : Left → List Ident
subjects_of l = l.beside.now ++ flat_map (λ r. r.now) l.behind

-- nothing is left
abbrev pub IsOver : Left → Type 0
IsOver l = (l.nodes.now ≡ []) ⊎ (subjects_of l ≡ [])

-- the first node, and the variable in its place, are taken away
pub record Takes (old new : Left) (p : Piece) (x : Ident) : Type 0 where
  pub nodes : old.nodes.now ≡ p ∷ new.nodes.now
  pub subjects : subjects_of old ≡ x ∷ subjects_of new

-- variables stand beside each other in front where any are left
pub record IsRefilled (old new : Left) : Type 0 where
  pub nodes : new.nodes ≡ old.nodes
  pub subjects : subjects_of new ≡ subjects_of old
  pub filled : new.beside.now ≡ [] → subjects_of old ≡ []

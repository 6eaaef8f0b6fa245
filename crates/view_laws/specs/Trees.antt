-- The layers of a configuration are those of a tree of spaces.
use Rattle.std.specs.Prelude.{ℕ, ◌≡◌, ◌<◌, ◌≤◌, Bool, true, false, ◌&&◌, List, [], ◌∷◌, Contains, Some, map}
use Rattle.std.specs.List.{list_all}
use Rattle.oz_semantics.specs.Names.{is_top, space_lt, child_name}
use Rattle.oz_base.specs.declared.names.Ident.{Ident}
use Rattle.oz_semantics.specs.Configurations.{layer_at, in_layer, failed, raised_by, ending}
use Rattle.oz_semantics.specs.Edits.{created}
use Rattle.oz_semantics.specs.declared.configuration.Layer.{Layer}
use Rattle.view_laws.specs.Sights.{is_led, IsEnd}

-- each name is less than all later ones
abbrev pub is_ascending : List (List ℕ) → Bool
is_ascending [] = true
is_ascending (s ∷ ss) = list_all (space_lt s) ss && is_ascending ss

abbrev pub names_of : List Layer → List (List ℕ)
names_of layers = map (λ (l : Layer). l.space) layers

-- one of the layers gave out the space; it numbers its children from 1
pub record IsGivenOut (layers : List Layer) (space : List ℕ) : Type 0 where
  pub parent : Layer
  pub among : Contains layers parent
  pub number : ℕ
  pub name : space ≡ child_name parent.space number
  pub counted : 1 ≤ number
  pub given : number < parent.next.child

-- the layers stand in the order of names, and each space but the top was given out by its parent, which is there
pub record IsTree (layers : List Layer) : Type 0 where
  pub ordered : is_ascending (names_of layers) ≡ true
  pub begins : (l : Layer) → Contains layers l → 1 ≤ l.next.child
  pub given : (l : Layer) → Contains layers l → is_top l.space ≡ false → IsGivenOut layers l.space

-- Then no layer's space is above that of an earlier layer
abbrev pub TreesLead : Type 0
TreesLead = (layers : List Layer) → IsTree layers → is_led layers ≡ true

-- A change of a layer that keeps its name, and takes back no child's name, leaves a tree
abbrev pub ChangeTree : Type 0
ChangeTree =
    (space : List ℕ) (change : Layer → Layer) (layers : List Layer)
    → ((l : Layer) → layer_at layers space ≡ Some l → ((change l).space ≡ l.space) × (l.next.child ≤ (change l).next.child)) → IsTree layers
    → IsTree (in_layer space change layers)

-- and so does the end of a space, however it ends
abbrev pub EndTree : Type 0
EndTree = (space : List ℕ) (how : Layer → Layer) (layers : List Layer) → IsEnd how → IsTree layers → IsTree (ending space how layers)

-- by failure
abbrev pub FailureTree : Type 0
FailureTree = (space : List ℕ) (layers : List Layer) → IsTree layers → IsTree (ending space failed layers)

-- or by an exception
abbrev pub RaiseTree : Type 0
RaiseTree = (space : List ℕ) (x : Ident) (layers : List Layer) → IsTree layers → IsTree (ending space (raised_by x) layers)

-- and a new child of a space that is there
abbrev pub CreationTree : Type 0
CreationTree =
    (parent : List ℕ) (procedure : Ident) (layers : List Layer) (l : Layer) → IsTree layers → layer_at layers parent ≡ Some l → IsTree (created parent procedure layers)

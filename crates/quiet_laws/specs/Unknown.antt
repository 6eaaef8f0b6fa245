-- Variables that a step gives out, and that nothing below its space knows.
use Rattle.std.specs.Prelude.{ℕ, ◌≡◌, ◌+◌, true, List, [], ◌∷◌, Contains, flat_map}
use Rattle.oz_base.specs.declared.names.Ident.{Ident}
use Rattle.oz_language.specs.declared.kernel.Statement.{Statement}
use Rattle.oz_semantics.specs.Names.{is_properly_below}
use Rattle.oz_semantics.specs.Store.{named_by}
use Rattle.oz_semantics.specs.Configurations.{layer_of, view, fresh_variables}
use Rattle.oz_semantics.specs.Sights.{States}
use Rattle.oz_semantics.specs.Spaces.{waited_in, undecided_in}
use Rattle.oz_semantics.specs.Changes.{Change, GivesOut, CountsProcedure, CountsName, Pushes, Spawns, AddsCell, Holds, AddsPort, EndsAt, AddsTrigger, AddsPropagator}
use Rattle.oz_semantics.specs.declared.configuration.Layer.{Layer}
use Rattle.turn_laws.specs.Telling.{IsAlone}

-- how many variables changes give out
abbrev pub given_by : List Change → ℕ
given_by [] = 0
given_by (GivesOut n ∷ changes) = n + given_by changes
given_by (CountsProcedure ∷ changes) = given_by changes
given_by (CountsName ∷ changes) = given_by changes
given_by (Pushes frames ∷ changes) = given_by changes
given_by (Spawns frames ∷ changes) = given_by changes
given_by (AddsCell content ∷ changes) = given_by changes
given_by (Holds number content ∷ changes) = given_by changes
given_by (AddsPort end ∷ changes) = given_by changes
given_by (EndsAt number end ∷ changes) = given_by changes
given_by (AddsTrigger procedure variable ∷ changes) = given_by changes
given_by (AddsPropagator relation variables ∷ changes) = given_by changes

-- those that they give out in a space with this layer
abbrev pub given_in : Layer → List Change → List Ident
given_in l changes = fresh_variables l (given_by changes)

-- what the layer's space sees does not name the variable, no thread of the layer waits for it, whatever the states of spaces, and it is of
-- no propagator there that is undecided
pub record IsUnknown (statements : List Statement) (layers : List Layer) (l : Layer) (x : Ident) : Type 0 where
  pub unnamed : Contains (flat_map named_by (view layers l.space)) x → ⊥
  pub unwaited : (states : States) → Contains (waited_in statements layers states l) x → ⊥
  pub unposted : Contains (undecided_in (view layers l.space) l) x → ⊥

-- so it is of these variables in each layer properly below the space: else the state of a space there could change as they are given out
abbrev pub AreUnknown : List Statement → List Layer → List ℕ → List Ident → Type 0
AreUnknown statements layers space xs =
    (l : Layer) (x : Ident) → Contains layers l → is_properly_below space l.space ≡ true → Contains xs x → IsUnknown statements layers l x

-- Where changes give out nothing, all that they give out is unknown below
abbrev pub NoneGiven : Type 0
NoneGiven =
    (statements : List Statement) (layers : List Layer) (space : List ℕ) (changes : List Change) → given_by changes ≡ 0
    → AreUnknown statements layers space (given_in (layer_of layers space) changes)

-- and where no space is below
abbrev pub NoneBelow : Type 0
NoneBelow =
    (statements : List Statement) (layers : List Layer) (space : List ℕ) (xs : List Ident) → IsAlone layers space → AreUnknown statements layers space xs

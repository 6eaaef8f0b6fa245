-- What changes of the layers do to what the spaces see.
use Rattle.std.specs.Prelude.{ℕ, ◌≡◌, ◌⊎◌, Bool, true, false, not, ◌&&◌, List, [], ◌∷◌, ◌++◌, Contains, is_some, Some}
use Rattle.std.specs.List.{list_all, filter_map}
use Rattle.oz_base.specs.Lists.{first}
use Rattle.oz_base.specs.declared.names.Ident.{Ident}
use Rattle.oz_language.specs.declared.kernel.Statement.{Statement}
use Rattle.oz_semantics.specs.Names.{is_below, is_properly_below, is_top, parent_of}
use Rattle.oz_semantics.specs.Store.{is_consistent}
use Rattle.oz_semantics.specs.Configurations.{layer_at, layer_of, view, in_layer, failed, raised_by, ending}
use Rattle.oz_semantics.specs.Spaces.{sight}
use Rattle.oz_semantics.specs.Edits.{chosen_tells, thread_offer, created, committed}
use Rattle.oz_semantics.specs.declared.value.Tell.{Tell}
use Rattle.oz_semantics.specs.declared.configuration.Layer.{Layer}

-- The change of a space's layer, which keeps its name
abbrev pub KeepsSpace : List Layer → List ℕ → (Layer → Layer) → Type 0
KeepsSpace layers space change = (l : Layer) → layer_at layers space ≡ Some l → (change l).space ≡ l.space

-- and what it was told
abbrev pub KeepsTells : List Layer → List ℕ → (Layer → Layer) → Type 0
KeepsTells layers space change = (l : Layer) → layer_at layers space ≡ Some l → (change l).tells ≡ l.tells

-- A change of a space's layer is not seen by a space that is not below it
abbrev pub ChangeUnseen : Type 0
ChangeUnseen =
    (change : Layer → Layer) (layers : List Layer) (space other : List ℕ) → KeepsSpace layers space change → is_below space other ≡ false
    → view (in_layer space change layers) other ≡ view layers other

-- A change that tells nothing is seen by no space
abbrev pub QuietUnseen : Type 0
QuietUnseen =
    (change : Layer → Layer) (layers : List Layer) (space other : List ℕ) → KeepsSpace layers space change → KeepsTells layers space change
    → view (in_layer space change layers) other ≡ view layers other

-- the same is told, and besides these tells alone
pub record SeesBesides (before after ts : List Tell) : Type 0 where
  pub kept : (t : Tell) → Contains before t → Contains after t
  pub only : (t : Tell) → Contains after t → Contains before t ⊎ Contains ts t

-- What a space is told, a space that is below it sees besides all that it saw, and nothing else
abbrev pub TellSeen : Type 0
TellSeen =
    (change : Layer → Layer) (layers : List Layer) (space other : List ℕ) (ts : List Tell) → KeepsSpace layers space change
    → ((l : Layer) → layer_at layers space ≡ Some l → (change l).tells ≡ l.tells ++ ts) → is_some (layer_at layers space) ≡ true → is_below space other ≡ true
    → SeesBesides (view layers other) (view (in_layer space change layers) other) ts

-- a way to end a space, which keeps its name and its numbers
abbrev pub IsEnd : (Layer → Layer) → Type 0
IsEnd how = (l : Layer) → ((how l).space ≡ l.space) × ((how l).next ≡ l.next)

-- However a space ends, no space sees it that is not below it
abbrev pub EndUnseen : Type 0
EndUnseen = (layers : List Layer) (space other : List ℕ) (how : Layer → Layer) → IsEnd how → is_below space other ≡ false → view (ending space how layers) other ≡ view layers other

-- So where it fails
abbrev pub FailureUnseen : Type 0
FailureUnseen = (layers : List Layer) (space other : List ℕ) → is_below space other ≡ false → view (ending space failed layers) other ≡ view layers other

-- and where it is raised, which leaves what it was told, it sees itself what it saw
abbrev pub RaiseUnseen : Type 0
RaiseUnseen =
    (layers : List Layer) (space other : List ℕ) (x : Ident) → is_properly_below space other ≡ false → view (ending space (raised_by x) layers) other ≡ view layers other

-- No space sees a new space, which was told nothing
abbrev pub CreationUnseen : Type 0
CreationUnseen = (layers : List Layer) (parent other : List ℕ) (procedure : Ident) → view (created parent procedure layers) other ≡ view layers other

-- what a space is told that is committed to its i-th alternative
abbrev pub committed_tells : List Statement → List Layer → List ℕ → ℕ → List Tell
committed_tells statements layers space i =
    chosen_tells i (first (filter_map (thread_offer (sight statements layers space)) (layer_of layers space).threads))

-- The choice of an alternative is not seen by a space that is not below, and where it tells nothing by none
abbrev pub CommitmentUnseen : Type 0
CommitmentUnseen =
    (statements : List Statement) (layers : List Layer) (space other : List ℕ) (i : ℕ)
    → (is_below space other ≡ false) ⊎ (committed_tells statements layers space i ≡ [])
    → view (committed statements space i layers) other ≡ view layers other

-- A space below sees besides what is told with it
abbrev pub CommitmentSeen : Type 0
CommitmentSeen =
    (statements : List Statement) (layers : List Layer) (space other : List ℕ) (i : ℕ) → is_some (layer_at layers space) ≡ true → is_below space other ≡ true
    → SeesBesides (view layers other) (view (committed statements space i layers) other) (committed_tells statements layers space i)

-- A space that is consistent is consistent with what is told with the choice
abbrev pub CommittedConsistent : Type 0
CommittedConsistent =
    (statements : List Statement) (layers : List Layer) (space : List ℕ) (i : ℕ) → is_consistent (view layers space) ≡ true
    → is_consistent (view layers space ++ committed_tells statements layers space i) ≡ true

-- no layer's space has one of the later layers' spaces above it, nor is it one of them. In the order of names it is so
abbrev pub is_led : List Layer → Bool
is_led [] = true
is_led (l ∷ ls) = list_all (λ (m : Layer). not (is_below m.space l.space)) ls && is_led ls

-- What a space sees is what its parent sees, and then what it was told itself
abbrev pub ViewSplits : Type 0
ViewSplits =
    (layers : List Layer) (space : List ℕ) (l : Layer) → is_led layers ≡ true → is_top space ≡ false → layer_at layers space ≡ Some l
    → view layers space ≡ view layers (parent_of space) ++ l.tells

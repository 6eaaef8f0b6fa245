-- What a thread goes by that can step or waits, and how long it waits.
use Rattle.std.specs.Prelude.{ℕ, ◌≡◌, false, List, [], Contains}
use Rattle.std.specs.List.{list_any, flat_map}
use Rattle.oz_base.specs.declared.names.Ident.{Ident}
use Rattle.oz_language.specs.declared.kernel.Statement.{Statement}
use Rattle.oz_semantics.specs.Names.{is_below}
use Rattle.oz_semantics.specs.Store.{Same, same, IsConsistent, domain_of, is_determined, named_by}
use Rattle.oz_semantics.specs.Configurations.{in_layer}
use Rattle.oz_semantics.specs.Sights.{Sight, States, Offer, Bodies, Number, Parts, Readiness, Steps, Waits, WaitsForState, Offers, waits_of}
use Rattle.oz_semantics.specs.Answers.{Answer, Acts, Edits, RaisesKind, RaisesTerm, Operates, Widens, Rests}
use Rattle.oz_semantics.specs.Statements.{stack_answer}
use Rattle.oz_semantics.specs.Spaces.{ready_in, readinesses}
use Rattle.oz_semantics.specs.declared.value.Tell.{Tell}
use Rattle.oz_semantics.specs.declared.value.Tell.TheVariants.{Equal, Is, Within}
use Rattle.oz_semantics.specs.declared.configuration.Thread.{Thread}
use Rattle.oz_semantics.specs.declared.configuration.Layer.{Layer}
use Rattle.oz_laws.specs.Touched.{Meets, Touches}
use Rattle.view_laws.specs.Sights.{KeepsSpace, KeepsTells, SeesBesides}
use Rattle.view_laws.specs.Spaceless.{plain_ready}

-- Where more is told

-- all that one view tells another tells too
abbrev pub Keeps : List Tell → List Tell → Type 0
Keeps before after = (t : Tell) → Contains before t → Contains after t

-- the class of a variable has no value in the later view, was joined with no other, and has the domain that it had
pub record IsUnmoved (before after : List Tell) (x : Ident) : Type 0 where
  pub free : is_determined after x ≡ false
  pub alone : (y : Ident) → Same after x y → Same before x y
  pub kept : domain_of after x ≡ domain_of before x

-- in a view two lists have variables of the same classes
abbrev pub SameClasses : List Tell → List Ident → List Ident → Type 0
SameClasses view xs ys = (z : Ident) → list_any (same view z) xs ≡ list_any (same view z) ys

-- the same domain for variables of one class
abbrev pub SameTell : List Tell → Tell → Tell → Type 0
SameTell view (Within x is) (Within y js) = Same view x y × (is ≡ js)
SameTell view (Within x is) (Equal y z) = ⊥
SameTell view (Within x is) (Is y v) = ⊥
SameTell view (Equal x y) t = t ≡ Equal x y
SameTell view (Is x v) t = t ≡ Is x v

-- the same alternatives
abbrev pub SameOffer : List Tell → Offer → Offer → Type 0
SameOffer view (Parts one other) (Parts first second) = SameTell view one first × SameTell view other second
SameOffer view (Parts one other) (Bodies bodies) = ⊥
SameOffer view (Parts one other) (Number n x) = ⊥
SameOffer view (Bodies bodies) offer = offer ≡ Bodies bodies
SameOffer view (Number n x) offer = offer ≡ Number n x

-- the same in a view, where equal variables count as one
abbrev pub SameReadiness : List Tell → Readiness → Readiness → Type 0
SameReadiness view Steps r = r ≡ Steps
SameReadiness view (WaitsForState space) r = r ≡ WaitsForState space
SameReadiness view (Waits xs) r = (ys : List Ident) × (r ≡ Waits ys) × SameClasses view xs ys
SameReadiness view (Offers offer xs) r = (other : Offer) × (ys : List Ident) × (r ≡ Offers other ys) × SameOffer view offer other × SameClasses view xs ys

-- the variables by whose classes an answer may change: those that it waits for, and those that a distributor tells a domain
abbrev pub watched : Answer → List Ident
watched (Acts act) = []
watched (Edits edit) = []
watched (RaisesKind kind) = []
watched (RaisesTerm x) = []
watched (Operates op space x) = []
watched (Widens ts) = flat_map named_by ts
watched (Rests ready) = waits_of ready

-- what a thread of a space goes by that sees this
abbrev pub seeing : List Statement → List ℕ → List Tell → Sight
seeing statements space view = record { statements = statements; space = space; view = view }

-- Where more is told and that is consistent, what a thread can do stays the same while none of the classes moves that its answer watches:
-- most answers by which it can step, and the offers of bodies and numbers, watch none
abbrev pub ReadinessStays : Type 0
ReadinessStays =
    (statements : List Statement) (space : List ℕ) (before after : List Tell) (t : Thread) → Keeps before after → IsConsistent after
    → ((x : Ident) → Contains (watched (stack_answer (seeing statements space before) t.frames)) x → IsUnmoved before after x)
    → SameReadiness after (plain_ready (seeing statements space before) t) (plain_ready (seeing statements space after) t)

-- A class without a value that was not touched has not moved: so the touched classes alone tell whom to wake
abbrev pub UntouchedUnmoved : Type 0
UntouchedUnmoved =
    (before more after : List Tell) (touched : List Ident) (x : Ident) → SeesBesides before after more → Touches before more touched → (Meets before touched x → ⊥) → is_determined before x ≡ false
    → IsUnmoved before after x

-- Where a layer changes

-- by the same states of spaces, what a thread of the space can do, and what the threads of a layer of it can, is the same in both lists
-- of layers
pub record GoByTheSame (statements : List Statement) (before after : List Layer) (space : List ℕ) : Type 0 where
  pub threads : (states : States) (t : Thread) → ready_in statements after states space t ≡ ready_in statements before states space t
  pub layers : (states : States) (l : Layer) → l.space ≡ space → readinesses statements after states l ≡ readinesses statements before states l

-- So it is after a change of a layer for each space that is not below it
abbrev pub ChangeReady : Type 0
ChangeReady =
    (statements : List Statement) (change : Layer → Layer) (layers : List Layer) (space other : List ℕ) → KeepsSpace layers space change → is_below space other ≡ false
    → GoByTheSame statements layers (in_layer space change layers) other

-- and for every space after one that tells nothing
abbrev pub QuietReady : Type 0
QuietReady =
    (statements : List Statement) (change : Layer → Layer) (layers : List Layer) (space other : List ℕ) → KeepsSpace layers space change → KeepsTells layers space change
    → GoByTheSame statements layers (in_layer space change layers) other

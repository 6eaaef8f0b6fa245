-- The states of a search's computation space: what it was told and has posted, and the constraint store that it stands for (CTM 12.3, 12.4;
-- Schulte, LNCS 2302, chapters 2 and 4).
use Rattle.std.specs.Prelude.{◌≡◌, ◌⊎◌, ◌<◌, ◌≤◌, ℕ, ◌+◌, List, [], ◌∷◌, ◌++◌, length, flat_map, Contains, All, Some, None}
use Rattle.std.specs.List.{find}
use Rattle.oz_base.specs.declared.names.Ident.{Ident}
use Rattle.oz_base.specs.declared.relation.Relation.{Relation}
use Rattle.oz_domains.specs.Domains.{Has, whole}
use Rattle.oz_domains.specs.Positions.{domain}
use Rattle.oz_semantics.specs.Store.{View, Same, named_by}
use Rattle.oz_semantics.specs.Propagation.{is_due}
use Rattle.oz_semantics.specs.Builtins.{interval_news}
use Rattle.oz_semantics.specs.declared.value.Value.{Value}
use Rattle.oz_semantics.specs.declared.value.Tell.{Tell}
use Rattle.oz_semantics.specs.declared.value.Tell.TheVariants.{Equal, Is}
use Rattle.oz_semantics.specs.declared.configuration.LastRun.TheVariants.{Never}
use Rattle.oz_semantics.specs.declared.configuration.Frame.{Frame}
use Rattle.oz_semantics.specs.declared.configuration.Propagator.{Propagator}
use Rattle.view_laws.specs.Readies.{Keeps}
use Rattle.fd_stores.specs.Stores.{Store, Constraint, Posted, Told, run, Runs}
use Rattle.fd_stores.specs.Laws.{AreOver}
use Rattle.fd_stores.specs.Notes.{Stands}
use Rattle.fd_views.specs.Views.{variables_at, HaveDomains, IsFree, StandsFor}
use Rattle.fd_runs.specs.Runs.{note_of}
use Rattle.fd_turns.specs.Nodes.{Top, Node, own}

-- a state of the space: what it was told, its propagators, the number of its next variable, the variables of the search, which of the
-- constraints it has posted, and the store of their domains
pub record State : Type 0 where
  pub tells : List Tell
  pub propagators : List Propagator
  pub next : ℕ
  pub variables : List Ident
  pub posted : List Constraint
  pub store : Store

-- the space in this state, with these frames left on its thread's stack
abbrev pub node_of : State → List Frame → Node
node_of st frames = record { tells = st.tells; frames = frames; propagators = st.propagators; next = st.next }

-- the view of the space: what the top and itself were told
abbrev pub view_of : Top → State → View
view_of t st = t.tells ++ st.tells

-- The next states

-- the state after a tell: these were told, and this is left of the store
abbrev pub told_more : List Tell → Store → State → State
told_more us m st = record st { tells = st.tells ++ us; store = m }

-- a variable of the space was bound to a value (CTM 2.2), which leaves the search's store as it is
abbrev pub with_value : ℕ → Value → State → State
with_value i v st = told_more (Is (own i) v ∷ []) st.store st

-- or to another variable
abbrev pub with_equation : ℕ → Ident → State → State
with_equation i y st = told_more (Equal (own i) y ∷ []) st.store st

-- so many variables were created
abbrev pub with_room : ℕ → State → State
with_room n st = record st { next = st.next + n }

-- a variable of the space became a further variable of the search
abbrev pub with_variable : ℕ → State → State
with_variable i st = record st { variables = st.variables ++ own i ∷ [] }

-- the propagator of a relation over the variables at these positions, before its first run
abbrev pub new_propagator : State → Relation → List ℕ → Propagator
new_propagator st r is = record { relation = r; variables = variables_at st.variables is; last = Never }

-- this propagator was posted, and with it the constraint
abbrev pub with_post : Relation → List ℕ → State → State
with_post r is st = record st { propagators = st.propagators ++ new_propagator st r is ∷ []; posted = st.posted ++ Posted r is ∷ [] }

-- what is told when a propagator is posted: its variables are in the largest domain, as far as that is news
abbrev pub post_tells : Top → State → List ℕ → List Tell
post_tells t st is = interval_news (t.tells ++ st.tells) (variables_at st.variables is) whole

-- the state after a post: its variables were told that, and then the propagator was added
abbrev pub after_post : Top → Relation → List ℕ → State → State
after_post t r is st = with_post r is (told_more (post_tells t st is) st.store st)

-- Good states

-- a variable of the top, or one that the space created before number n
abbrev pub IsBelow : ℕ → Ident → Type 0
IsBelow n x = (x.space ≡ []) ⊎ ((i : ℕ) × (i < n) × (x ≡ own i))

-- a propagator of the space stands for one of the constraints: it is over variables that have domains, and its note stands
pub record IsPosted (cs : List Constraint) (view : View) (xs : List Ident) (s : Store) (p : Propagator) : Type 0 where
  pub places : List ℕ
  pub variables : p.variables ≡ variables_at xs places
  pub among : Contains cs (Posted p.relation places)
  pub inside : All (λ x. x < length xs) places
  pub have : HaveDomains view (variables_at xs places)
  pub note : Stands (Posted p.relation places) (note_of p.last) s

-- the space has imposed a constraint: the propagator of a relation is there, or no run of it changes anything; and where a variable was
-- told to be in a set, its domain has no other values
abbrev pub IsDone : List Ident → Store → List Propagator → Constraint → Type 0
IsDone xs s ps (Posted r is) =
    ((m : Store) → run (Posted r is) m ≡ Some m)
    ⊎ ((p : Propagator) × Contains ps p × (p.relation ≡ r) × (p.variables ≡ variables_at xs is) × All (λ x. x < length xs) is)
IsDone xs s ps (Told x v) = (n : _) → Has (domain s x) n → Has v n

-- The state stands for its store: the view does, all propagators are constraints that were posted, and what was posted is among the
-- constraints. Nothing is named that was not given out, and the space makes no variables of the top equal.
pub record IsGood (t : Top) (cs : List Constraint) (st : State) : Type 0 where
  pub stands : StandsFor (view_of t st) st.variables st.store
  pub over : AreOver cs st.store
  pub posts : (p : Propagator) → Contains st.propagators p → IsPosted cs (view_of t st) st.variables st.store p
  pub done : (c : Constraint) → Contains st.posted c → IsDone st.variables st.store st.propagators c
  pub named : (x : Ident) → Contains (flat_map named_by (view_of t st)) x → IsBelow st.next x
  pub given : (x : Ident) → Contains st.variables x → (i : ℕ) × (i < st.next) × (x ≡ own i)
  pub above : (x y : Ident) → x.space ≡ [] → y.space ≡ [] → Same (view_of t st) x y → Same t.tells x y

-- propagation is at its fixpoint: none of the propagators is due
abbrev pub NoneDue : Top → State → Type 0
NoneDue t st = find (is_due (view_of t st)) st.propagators ≡ None

-- A later state, of the same variables and with the same posted: more is told, and the store was run on. Of the variables that were given
-- out before those stay free that were not told anything.
pub record IsLater (t : Top) (cs : List Constraint) (told : ℕ → Type 0) (before after : State) : Type 0 where
  pub keeps : Keeps (view_of t before) (view_of t after)
  pub runs : Runs cs before.store after.store
  pub next : before.next ≤ after.next
  pub variables : after.variables ≡ before.variables
  pub posted : after.posted ≡ before.posted
  pub free : (i : ℕ) → i < before.next → (told i → ⊥) → IsFree (view_of t before) (own i) → IsFree (view_of t after) (own i)

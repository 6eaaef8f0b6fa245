-- The notes by which a machine knows what is due: for each propagator the domains of its variables when its last run began.
-- A propagator is due where it has not run, or where the domains differ from its note (Schulte, LNCS 2302, chapter 4).
use Rattle.std.specs.Prelude.{◌≡◌, ◌⊎◌, ◌<◌, ℕ, List, Option, Some, None, length, ⊤}
use Rattle.oz_domains.specs.Domains.{IntSet}
use Rattle.oz_domains.specs.Positions.{AreParts, AreDomains}
use Rattle.fd_stores.specs.Stores.{Store, Constraint, Told, variables, domains_at, IsOver, run, total}

-- nothing is noted before the first run
abbrev pub Note : Type 0
Note = Option (List IntSet)

-- the note is that of the store
abbrev pub IsNoted : Constraint → Note → Store → Type 0
IsNoted c note s = note ≡ Some (domains_at s (variables c))

-- a run of the constraint changes no store with these domains
abbrev pub IsDone : Constraint → List IntSet → Type 0
IsDone c ds = (e : Store) → IsOver (length e) c → AreDomains e → domains_at e (variables c) ≡ ds → run c e ≡ Some e

-- what holds of a note from its run on: the domains have fewer values than the note, or the constraint is done with them
abbrev pub Stands : Constraint → Note → Store → Type 0
Stands c None s = ⊤
Stands c (Some ds) s = (total (domains_at s (variables c)) < total ds) ⊎ IsDone c ds

-- a note stands after its run, whatever else makes the store smaller; and where the note is that of the store, a run changes
-- nothing. So nothing is due where all notes are those of the store
pub record NotesStand : Type 0 where
  pub ran : (c : Constraint) (s m : Store) → IsOver (length s) c → AreDomains s → run c s ≡ Some m → Stands c (Some (domains_at s (variables c))) m
  pub stays : (c : Constraint) (note : Note) (s m : Store) → IsOver (length s) c → Stands c note s → AreParts m s → Stands c note m
  pub rests : (c : Constraint) (note : Note) (s : Store) → IsOver (length s) c → AreDomains s → Stands c note s → IsNoted c note s → run c s ≡ Some s

-- what a variable was told once needs no further run
abbrev pub ToldStays : Type 0
ToldStays = (x : ℕ) (v : IntSet) (s m e : Store) → x < length s → run (Told x v) s ≡ Some m → AreParts e m → AreDomains e → run (Told x v) e ≡ Some e

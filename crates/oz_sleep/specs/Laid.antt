-- Which threads of a space sleep, and who may wake.
use Rattle.std.specs.Prelude.{ℕ, ◌≡◌, ◌⊎◌, true, false, List, [], ◌∷◌, Contains, Option, Some, None}
use Rattle.oz_base.specs.Lists.{list_eq}
use Rattle.oz_base.specs.declared.names.Ident.{Ident}
use Rattle.oz_language.specs.declared.kernel.Statement.{Statement}
use Rattle.oz_semantics.specs.Store.{View, is_determined}
use Rattle.oz_semantics.specs.Configurations.{layer_of, view}
use Rattle.oz_semantics.specs.Sights.{Readiness}
use Rattle.oz_semantics.specs.Answers.{Act}
use Rattle.oz_semantics.specs.Changes.{Change}
use Rattle.oz_semantics.specs.Effects.{Tells, act_effect}
use Rattle.oz_semantics.specs.declared.value.Tell.{Tell}
use Rattle.oz_semantics.specs.declared.configuration.Layer.{Layer}
use Rattle.oz_laws.specs.Touched.{Meets, Touches}
use Rattle.view_laws.specs.Readies.{SameClasses}
use Rattle.view_laws.specs.Steps.{IsRising, spawned_from}
use Rattle.suspension.specs.Sleeping.{AreKeys, IsKey, IsFound, FallsAsleep}
use Rattle.sleep_laws.specs.Asleep.{waits_only, IsAsleep, thread_of, AreAtRest, AreForewarned}
use Rattle.sleep_laws.specs.Woken.{top_able}
use Rattle.oz_sleep.specs.declared.sleeping.Sleeping.{Sleeping}

-- no two keys are equal, and each thread of the space is one of these, or sleeps and is found by what it waits for
pub record AreLaid (statements : List Statement) (layers : List Layer) (s : Sleeping) (ids : List Ident) : Type 0 where
  pub keys : AreKeys (view layers s.space) s.sleepers
  pub rest : AreAtRest statements layers s.space (IsFound (view layers s.space) s.sleepers) ids

-- so it is, where that is known
abbrev pub Lays : List Statement → List Layer → Sleeping → List Ident → Type 0
Lays statements layers s ids = s.known ≡ true → AreLaid statements layers s ids

-- a thread of the space sleeps, where that is known, and is found by what it waits for
abbrev pub RestsIn : List Statement → List Layer → Sleeping → Ident → Type 0
RestsIn statements layers s id =
    s.known ≡ true → id.space ≡ s.space
    → (xs : List Ident) × IsAsleep statements s.space (view layers s.space) (thread_of layers id) xs × IsFound (view layers s.space) s.sleepers id.number xs

-- or it can step
abbrev pub RestsOr : List Statement → List Layer → Sleeping → Ident → Type 0
RestsOr statements layers s id = (top_able statements layers id ≡ true) ⊎ RestsIn statements layers s id

-- all that slept sleeps on, where that is known
pub record LaidMore (layers : List Layer) (old new : Sleeping) : Type 0 where
  pub known : old.known ≡ true
  pub space : new.space ≡ old.space
  pub keys : AreKeys (view layers old.space) old.sleepers → AreKeys (view layers old.space) new.sleepers
  pub found : (n : ℕ) (xs : List Ident) → IsFound (view layers old.space) old.sleepers n xs → IsFound (view layers old.space) new.sleepers n xs

abbrev pub LaysMore : List Layer → Sleeping → Sleeping → Type 0
LaysMore layers old new = new.known ≡ true → LaidMore layers old new

-- what can step no more is found by what it waits for, and none of that is determined
pub record PutsDown (view : View) (number : ℕ) (ready : Readiness) (old new : Sleeping) : Type 0 where
  pub space : new.space ≡ old.space
  pub variables : List Ident
  pub names : List Ident
  pub waits : waits_only ready ≡ Some variables
  pub same : SameClasses view names variables
  pub free : (x : Ident) → Contains names x → is_determined view x ≡ false
  pub falls : FallsAsleep view number names old.sleepers new.sleepers

-- all that an act tells touches these, and no thread is started with it
abbrev pub TouchesBy : View → Layer → Act → List Ident → Type 0
TouchesBy view l act xs =
    (ts : List Tell) (changes : List Change) → act_effect l act ≡ Tells ts changes → Touches view ts xs × ((n : ℕ) → spawned_from n changes ≡ [])

-- Those with these numbers may wake by what a thread of their space is about to tell it, and no others: these sleep, and none of what they wait
-- for is touched
pub record AreForetold (statements : List Statement) (layers : List Layer) (s : Sleeping) (id : Ident) (queue : List Ident) (numbers : List ℕ) (ts : List Tell) : Type 0 where
  pub touched : List Ident
  pub own : list_eq s.space id.space ≡ true
  pub touches : Touches (view layers s.space) ts touched
  pub rising : IsRising numbers
  pub keys : AreKeys (view layers s.space) s.sleepers
  pub untouched : (k : Ident) → IsKey s.sleepers k → Meets (view layers s.space) touched k → ⊥
  pub rest : AreForewarned statements layers s.space (IsFound (view layers s.space) s.sleepers) touched numbers (id ∷ queue)

-- what was found of who may wake by an act, before it is made: where it is nothing, nothing is known after it
abbrev pub Foretells : List Layer → Ident → Act → Sleeping → Sleeping → Option (List ℕ) → Type 0
Foretells layers id act old new None = new.pending ≡ false
Foretells layers id act old new (Some numbers) =
    (old.pending ≡ true)
    × ((statements : List Statement) (queue : List Ident) (ts : List Tell) (changes : List Change) → AreLaid statements layers old (id ∷ queue)
    → act_effect (layer_of layers id.space) act ≡ Tells ts changes → AreForetold statements layers new id queue numbers ts × ((n : ℕ) → spawned_from n changes ≡ []))

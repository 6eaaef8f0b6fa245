-- Who sleeps, by those who are due.
use Rattle.std.specs.Prelude.{ℕ, ◌≡◌, true, false, List, [], ◌∷◌, ◌++◌, Option, Some, None, map, option_to_list}
use Rattle.oz_base.specs.Lists.{list_eq}
use Rattle.oz_base.specs.declared.names.Ident.{Ident}
use Rattle.oz_language.specs.declared.kernel.Statement.{Statement}
use Rattle.oz_semantics.specs.Names.{named}
use Rattle.oz_semantics.specs.Configurations.{layer_of}
use Rattle.oz_semantics.specs.Changes.{Change}
use Rattle.oz_semantics.specs.declared.value.Tell.{Tell}
use Rattle.oz_semantics.specs.declared.configuration.Layer.{Layer}
use Rattle.oz_sleep.specs.Laid.{AreLaid, AreForetold}
use Rattle.oz_sleep.specs.declared.sleeping.Sleeping.{Sleeping}
use Rattle.oz_machine.specs.Quiet.{news_of}
use Rattle.oz_machine.specs.declared.course.Due.{Due}
use Rattle.oz_machine.specs.declared.course.Due.TheVariants.{Nobody, Mover, Told, Everybody}
use Rattle.oz_machine.specs.declared.course.Course.{Course}

-- all but those in the queue and those who are due sleep. Where everybody is due, or others than of this space, nothing is said
abbrev pub AreLaidBut : List Statement → List Layer → Sleeping → Due → List Ident → Type 0
AreLaidBut statements layers s Nobody queue = AreLaid statements layers s queue
AreLaidBut statements layers s (Mover id started) queue = list_eq s.space id.space ≡ true → AreLaid statements layers s (queue ++ id ∷ option_to_list started)
AreLaidBut statements layers s (Told id woken) queue = list_eq s.space id.space ≡ true → AreLaid statements layers s (queue ++ id ∷ map (named id.space) woken)
AreLaidBut statements layers s (Everybody mover) queue = Unit {0}

-- so it is, where that is known
abbrev pub Sleeps : List Statement → Sleeping → Course → Type 0
Sleeps statements s c = s.known ≡ true → AreLaidBut statements c.levels s c.due c.queue

-- in the course of a turn, before its step: it was so when it began
pub record Pends (statements : List Statement) (s : Sleeping) (c : Course) : Type 0 where
  pub known : s.known ≡ false
  pub laid : s.pending ≡ true → AreLaid statements c.levels s c.queue

-- where those who may wake are known, they are those with these numbers, and no thread is started
abbrev pub IsForetold : List Statement → List Layer → Sleeping → Ident → List Ident → Option (List ℕ) → List Tell → List Change → Type 0
IsForetold statements layers s id queue None ts changes = Unit {0}
IsForetold statements layers s id queue (Some numbers) ts changes =
    AreForetold statements layers s id queue numbers ts × (news_of (layer_of layers id.space) changes ≡ [])

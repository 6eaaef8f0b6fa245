-- What a turn leaves of what is known of who sleeps.
use Rattle.std.proofs.Common.{◌≡◌, ◌∙◌, ℕ, Bool, true, false, List, ◌∷◌, Option, Some, None, drop, sym, ap, subst}
use Rattle.std.specs.Prelude.{IfSome}
use Rattle.std.proofs.lemmas.Bool.{false≢true}
use Rattle.oz_base.specs.Lists.{first}
use Rattle.oz_base.specs.declared.names.Ident.{Ident}
use Rattle.oz_language.specs.declared.kernel.Statement.{Statement}
use Rattle.oz_semantics.specs.Configurations.{layer_of}
use Rattle.oz_semantics.specs.Answers.{Act}
use Rattle.oz_semantics.specs.Changes.{Change}
use Rattle.oz_semantics.specs.Effects.{Tells, act_effect}
use Rattle.oz_semantics.specs.declared.value.Tell.{Tell}
use Rattle.oz_semantics.specs.declared.configuration.Layer.{Layer}
use Rattle.oz_sleep.specs.Laid.{AreLaid, AreForetold, Foretells}
use Rattle.oz_sleep.specs.declared.sleeping.Sleeping.{Sleeping}
use Rattle.oz_machine.specs.declared.course.Due.{Due}
use Rattle.oz_machine.specs.declared.course.Due.TheVariants.{Nobody, Mover, Told, Everybody}
use Rattle.oz_machine.specs.declared.course.Course.{Course}
use Rattle.oz_machine.specs.Asleep.{AreLaidBut, IsForetold, Pends, Sleeps}
use Rattle.oz_machine.proofs.DoingLaws.{headed}

-- where nothing is known there is nothing to show
pub unknown_sleeps : (statements : List Statement) (s : Sleeping) (c : Course) → s.known ≡ false → Sleeps statements s c
unknown_sleeps statements s c e known = absurd (false≢true (sym e ∙ known))

-- nor does a turn know anything that has not said so
pub pending_sleeps : (statements : List Statement) (s : Sleeping) (before c : Course) → Pends statements s before → Sleeps statements s c
pending_sleeps statements s before c pends = unknown_sleeps statements s c pends.known

-- who sleeps does not depend on whether it is known
pub laid_as : (statements : List Statement) (layers : List Layer) (s : Sleeping) (known pending wanted : Bool) (ids : List Ident) → AreLaid statements layers s ids
    → AreLaid statements layers (record s { known = known; pending = pending; wanted = wanted }) ids
laid_as statements layers s known pending wanted ids h = record { keys = h.keys; rest = h.rest }

but_as : (statements : List Statement) (layers : List Layer) (s : Sleeping) (known pending wanted : Bool) (due : Due) (queue : List Ident) → AreLaidBut statements layers s due queue
    → AreLaidBut statements layers (record s { known = known; pending = pending; wanted = wanted }) due queue
but_as statements layers s known pending wanted Nobody queue h = laid_as statements layers s known pending wanted _ h
but_as statements layers s known pending wanted (Mover id started) queue h = λ own. laid_as statements layers s known pending wanted _ (h own)
but_as statements layers s known pending wanted (Told id woken) queue h = λ own. laid_as statements layers s known pending wanted _ (h own)
but_as statements layers s known pending wanted (Everybody mover) queue h = tt

-- A turn begins: what was known is pending
pub begun : (statements : List Statement) (s t : Sleeping) (c : Course) → c.due ≡ Nobody → t ≡ record s { known = false; pending = s.known } → Sleeps statements s c → Pends statements t c
begun statements s t c nobody e h = record {
  known = ap (λ (r : Sleeping). r.known) e;
  laid = λ pending.
      let known : s.known ≡ true = sym (ap (λ (r : Sleeping). r.pending) e) ∙ pending in
      subst (λ (r : Sleeping). AreLaid statements c.levels r c.queue) (sym e)
      (laid_as statements c.levels s false s.known s.wanted c.queue (subst (λ (d : Due). AreLaidBut statements c.levels s d c.queue) nobody (h known)));
}

-- it ends
pub ended : (statements : List Statement) (s t : Sleeping) (c : Course) → t ≡ record s { wanted = t.wanted } → Sleeps statements s c → Sleeps statements t c
ended statements s t c e h = λ known.
    subst (λ (r : Sleeping). AreLaidBut statements c.levels r c.due c.queue) (sym e)
    (but_as statements c.levels s s.known s.pending t.wanted c.due c.queue (h (sym (ap (λ (r : Sleeping). r.known) e) ∙ known)))

-- it leaves it so
pub resumed : (statements : List Statement) (s t : Sleeping) (c : Course) → t ≡ record s { known = s.pending } → (s.pending ≡ true → AreLaidBut statements c.levels t c.due c.queue) → Sleeps statements t c
resumed statements s t c e h = λ known. h (sym (ap (λ (r : Sleeping). r.known) e) ∙ known)

-- with the head, all others of the queue
pub pending_laid : (statements : List Statement) (s t : Sleeping) (c : Course) (id : Ident) → Pends statements s c → first c.queue ≡ Some id → t ≡ record s { known = s.pending } → s.pending ≡ true
    → AreLaid statements c.levels t (id ∷ drop 1 c.queue)
pending_laid statements s t c id pends head e pending =
    subst (λ (r : Sleeping). AreLaid statements c.levels r (id ∷ drop 1 c.queue)) (sym e)
    (laid_as statements c.levels s s.pending s.pending s.wanted (id ∷ drop 1 c.queue) (subst (AreLaid statements c.levels s) (headed c.queue id head) (pends.laid pending)))

-- so it is before a step that tells something
foretold_as : (statements : List Statement) (layers : List Layer) (s : Sleeping) (known : Bool) (id : Ident) (queue : List Ident) (numbers : List ℕ) (ts : List Tell)
    → AreForetold statements layers s id queue numbers ts → AreForetold statements layers (record s { known = known }) id queue numbers ts
foretold_as statements layers s known id queue numbers ts h = record {
  touched = h.touched;
  own = h.own;
  touches = h.touches;
  rising = h.rising;
  keys = h.keys;
  untouched = h.untouched;
  rest = h.rest;
}

-- what was found of who may wake by an act holds of what the act tells
pub foretold : (statements : List Statement) (c : Course) (id : Ident) (act : Act) (before s t : Sleeping) (woken : Option (List ℕ)) (ts : List Tell) (changes : List Change)
    → Pends statements before c → first c.queue ≡ Some id → Foretells c.levels id act before s woken → t ≡ record s { known = s.pending } → act_effect (layer_of c.levels id.space) act ≡ Tells ts changes
    → IsForetold statements c.levels t id (drop 1 c.queue) woken ts changes
foretold statements c id act before s t None ts changes pends head found e effect = tt
foretold statements c id act before s t (Some numbers) ts changes pends head found e effect =
    let laid : AreLaid statements c.levels before (id ∷ drop 1 c.queue) = subst (AreLaid statements c.levels before) (headed c.queue id head) (pends.laid found.0) in
    let told = found.1 statements (drop 1 c.queue) ts changes laid effect in (
      subst (λ (r : Sleeping). AreForetold statements c.levels r id (drop 1 c.queue) numbers ts) (sym e) (foretold_as statements c.levels s s.pending id (drop 1 c.queue) numbers ts told.0),
      told.1 (layer_of c.levels id.space).next.thread,
    )

-- and after the step nothing is known where nothing was found
pub told_sleeps : (statements : List Statement) (layers : List Layer) (c : Course) (id : Ident) (act : Act) (before s t : Sleeping) (woken : Option (List ℕ)) → Foretells layers id act before s woken
    → t ≡ record s { known = s.pending } → IfSome woken (λ numbers. AreLaidBut statements c.levels t c.due c.queue) → Sleeps statements t c
told_sleeps statements layers c id act before s t None found e h = unknown_sleeps statements t c (ap (λ (r : Sleeping). r.known) e ∙ found)
told_sleeps statements layers c id act before s t (Some numbers) found e h = λ known. h

-- Where nothing is known, nothing is pending
pub nothing_pends : (statements : List Statement) (s : Sleeping) (c : Course) → s.known ≡ false → s.pending ≡ false → Pends statements s c
nothing_pends statements s c known none = record { known = known; laid = λ pending. absurd (false≢true (sym none ∙ pending)) }

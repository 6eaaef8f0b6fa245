-- What follows a step that told a space something, where it may be known who wakes.
use Rattle.std.proofs.Common.{◌≡◌, inl, inr, ℕ, true, List, ◌++◌, drop, sym, ap, subst, ◌∙◌, Option, Some, None}
use Rattle.std.specs.Prelude.{IfSome}
use Rattle.std.specs.List.{list_all}
use Rattle.oz_base.specs.declared.names.Ident.{Ident}
use Rattle.oz_language.specs.declared.kernel.Statement.{Statement}
use Rattle.oz_semantics.specs.Store.{is_consistent}
use Rattle.oz_semantics.specs.Configurations.{is_numbered, layer_of, view, in_layer, without_terminated}
use Rattle.oz_semantics.specs.Changes.{Change, done}
use Rattle.oz_semantics.specs.Settling.{Turned, settled}
use Rattle.oz_semantics.specs.Steps.{went_on, without_top}
use Rattle.oz_semantics.specs.declared.value.Tell.{Tell}
use Rattle.oz_semantics.specs.declared.configuration.Layer.{Layer}
use Rattle.oz_semantics.specs.declared.outcome.Stepped.{Stepped}
use Rattle.oz_semantics.specs.declared.outcome.Stepped.TheVariants.{Moved}
use Rattle.turn_laws.specs.Telling.{IsAlone}
use Rattle.oz_sleep.specs.declared.sleeping.Sleeping.{Sleeping}
use Rattle.oz_machine.specs.Asleep.{AreLaidBut, IsForetold}
use Rattle.oz_machine.specs.Courses.{config_of, stepping}
use Rattle.oz_machine.specs.Quiet.{IsHead}
use Rattle.oz_machine.specs.Waking.{IsLeftTo, IsLeftToAll, IsLeftTold}
use Rattle.oz_machine.specs.declared.course.Due.{Due}
use Rattle.oz_machine.specs.declared.course.Due.TheVariants.{Mover, Told}
use Rattle.oz_machine.specs.declared.course.Course.{Course}
use Rattle.oz_machine.proofs.DoingLaws.{course_view}
use Rattle.oz_machine.proofs.SleepLaws.{single_laid, told_laid, woken_turn}

pub but_same : (statements : List Statement) (s : Sleeping) (c : Course) (layers : List Layer) (due : Due) (queue : List Ident) → c.levels ≡ layers → c.due ≡ due → c.queue ≡ queue
    → AreLaidBut statements layers s due queue → AreLaidBut statements c.levels s c.due c.queue
but_same statements s c layers due queue e f g h =
    subst (λ (q : List Ident). AreLaidBut statements c.levels s c.due q) (sym g)
    (subst (λ (d : Due). AreLaidBut statements c.levels s d queue) (sym f) (subst (λ (ls : List Layer). AreLaidBut statements ls s due queue) (sym e) h))

module _ (statements : List Statement) (id : Ident) (layers new : List Layer) (old after : Course) (ts : List Tell) (changes : List Change) (s : Sleeping)
    (head : IsHead statements id layers (drop 1 old.queue) old.shown) (alone : IsAlone layers id.space) (fits : is_consistent (view layers id.space ++ ts) ≡ true)
    (is : old.levels ≡ done id ts changes (without_top id layers)) (left : new ≡ in_layer id.space without_terminated old.levels) where
  abbrev mid : Course
  mid = record old { levels = new }

  -- where no other thread is in the space
  pub single_sleeps : (woken : Option (List ℕ)) → IsForetold statements layers s id (drop 1 old.queue) woken ts changes → list_all (is_numbered id.number) (layer_of new id.space).threads ≡ true
      → after.levels ≡ new → after.due ≡ Mover id None → after.queue ≡ drop 1 old.queue → IfSome woken (λ numbers. AreLaidBut statements after.levels s after.due after.queue)
  single_sleeps None foretold single e f g = tt
  single_sleeps (Some numbers) foretold single e f g =
      but_same statements s after new (Mover id None) (drop 1 old.queue) e f g
      (λ own. single_laid statements id layers old.levels new (drop 1 old.queue) old.shown ts changes s numbers head alone fits is left foretold.0 foretold.1 single)

  all_turn : (cost : ℕ) (result : Stepped) → IsLeftToAll statements id cost mid result after → ◌≡◌ {A = Turned} (went_on statements id cost old.levels (stepping old)) (result, config_of statements after)
  all_turn cost result follows = ap (λ (ls : List Layer). settled statements (Some id) cost (record (stepping old) { layers = ls })) (sym left) ∙ follows.turn

  these_turn : (cost : ℕ) (result : Stepped) (numbers : List ℕ) → result ≡ Moved cost → IsForetold statements layers s id (drop 1 old.queue) (Some numbers) ts changes → IsLeftTo id numbers mid after
      → ◌≡◌ {A = Turned} (went_on statements id cost old.levels (stepping old)) (result, config_of statements after)
  these_turn cost result numbers moves foretold follows =
      woken_turn statements id layers old.levels new (drop 1 old.queue) old.shown ts changes s numbers head alone fits is left foretold.0 foretold.1 follows.plain cost
      ∙ ap (λ d. (Moved cost, d)) (sym (course_view statements after new (Told id numbers) (drop 1 old.queue) old.shown follows.levels follows.due follows.queue follows.shown))
      ∙ ap (λ (r : Stepped). (r, config_of statements after)) (sym moves)

  pub foretold_turn : (cost : ℕ) (result : Stepped) (woken : Option (List ℕ)) → result ≡ Moved cost → IsForetold statements layers s id (drop 1 old.queue) woken ts changes
      → IsLeftTold statements id cost woken mid result after → ◌≡◌ {A = Turned} (went_on statements id cost old.levels (stepping old)) (result, config_of statements after)
  foretold_turn cost result None moves foretold follows = all_turn cost result follows
  foretold_turn cost result (Some numbers) moves foretold (inl follows) = all_turn cost result follows
  foretold_turn cost result (Some numbers) moves foretold (inr follows) = these_turn cost result numbers moves foretold follows

  pub foretold_sleeps : (cost : ℕ) (result : Stepped) (woken : Option (List ℕ)) → IsForetold statements layers s id (drop 1 old.queue) woken ts changes
      → IsLeftTold statements id cost woken mid result after → IfSome woken (λ numbers. AreLaidBut statements after.levels s after.due after.queue)
  foretold_sleeps cost result None foretold follows = tt
  foretold_sleeps cost result (Some numbers) foretold (inl follows) = follows.asleep s
  foretold_sleeps cost result (Some numbers) foretold (inr follows) =
      but_same statements s after new (Told id numbers) (drop 1 old.queue) follows.levels follows.due follows.queue
      (λ own. told_laid statements id layers old.levels new (drop 1 old.queue) old.shown ts changes s numbers head alone fits is left foretold.0 foretold.1)

-- What follows a step that told a space something, where no space is below it.
use Rattle.std.proofs.Common.{◌≡◌, inl, inr, ℕ, Bool, true, false, not, ◌||◌, cond, if◌then◌else◌, List, [], ◌∷◌, ◌++◌, refl, sym, ap, ap₂, subst, ◌∙◌, Option, Some, map, filter, drop}
use Rattle.std.specs.Prelude.{unwrap_or, is_some}
use Rattle.std.specs.List.{list_any, list_all, fold}
use Rattle.std.proofs.lemmas.Bool.{false≢true, eqb-true}
use Rattle.std.proofs.lemmas.List.{append-nil}
use Rattle.oz_base.specs.Lists.{list_eq}
use Rattle.oz_base.specs.declared.names.Ident.{Ident}
use Rattle.oz_language.specs.declared.kernel.Statement.{Statement}
use Rattle.oz_semantics.specs.Names.{is_properly_below, named}
use Rattle.oz_semantics.specs.Store.{is_consistent}
use Rattle.oz_semantics.specs.Answers.{Act, Passes, GoesOn, Declares, Starts, GivesValue, GivesTerm, GivesVariable, MakesProcedure, MakesName, MakesCell, Reads, Writes, Exchanges, MakesPort, Sends, Delays, Confines, Posts, Shows}
use Rattle.oz_semantics.specs.Configurations.{is_of, is_numbered, is_open, layer_at, layer_of, new_layer, view, in_layer, with_frames, without_terminated, telling}
use Rattle.oz_semantics.specs.Changes.{Change, changed, changed_all, done}
use Rattle.oz_semantics.specs.Effects.{Tells, act_effect}
use Rattle.oz_semantics.specs.Settling.{Turned, is_inconsistent, inconsistent_spaces, failing, is_among, mover_in, runnable_in, runnable}
use Rattle.oz_semantics.specs.Steps.{went_on, without_top}
use Rattle.oz_semantics.specs.declared.value.Tell.{Tell}
use Rattle.oz_semantics.specs.declared.configuration.Frame.{Frame}
use Rattle.oz_semantics.specs.declared.configuration.Layer.{Layer}
use Rattle.oz_semantics.specs.declared.configuration.Configuration.{Configuration}
use Rattle.oz_semantics.specs.declared.outcome.Stepped.TheVariants.{Moved}
use Rattle.oz_laws.proofs.SameLaws.{In, In-from_contains, contains-from_In, In-flat, and-left, and-right}
use Rattle.view_laws.proofs.Members.{decide, not_both, In-right}
use Rattle.view_laws.proofs.ListLaws.{in_among, filter_none, found_in, map_in, in_filter}
use Rattle.settle_laws.specs.Settles.{Settles}
use Rattle.space_core.specs.Telling.{has_below}
use Rattle.view_laws.specs.Needs.{NoneNeeded}
use Rattle.view_laws.specs.Spaceless.{gives_space, has_spaces}
use Rattle.view_laws.proofs.SpacelessLaws.{quiet_spaceless, untold_spaceless}
use Rattle.turn_laws.specs.Telling.{IsAlone, others_of, is_able_still, staying}
use Rattle.view_laws.proofs.QueueLaws.{can_from}
use Rattle.view_laws.proofs.ChangeLaws.{edit_of, changed_by, edit_keeps}
use Rattle.turn_laws.specs.Orderly.{AreOrderly}
use Rattle.turn_laws.proofs.OrderlyLaws.{done_orderly}
use Rattle.turn_laws.proofs.HeadLaws.{kept_head, kept_layers}
use Rattle.turn_laws.proofs.TellingLaws as proved
use Rattle.oz_acts.specs.Doings.{IsDone, is_quiet}
use Rattle.oz_machine.specs.Quiet.{IsHead, able_in}
use Rattle.oz_acts.proofs.PlaceLaws.{layer_of_name}
use Rattle.oz_machine.proofs.QuietLaws.{edited_at, mover_joins}
use Rattle.oz_machine.proofs.StayLaws.{queue_stays}

pub not_true : (b : Bool) → not b ≡ true → b ≡ false
not_true true e = absurd (false≢true e)
not_true false e = refl

-- No space below

module _ {A : Type 0} (p : A → Bool) where
  pub none_passes : (xs : List A) (x : A) → list_any p xs ≡ false → In x xs → p x ≡ false
  none_passes [] x e h = elim h [ ]
  none_passes (y ∷ ys) x e (inl k) = sym (ap p k) ∙ left (p y) (list_any p ys) e
    where
      left : (a b : Bool) → (a || b) ≡ false → a ≡ false
      left true b e = absurd (cc)
      left false b e = refl
  none_passes (y ∷ ys) x e (inr k) = none_passes ys x (right (p y) (list_any p ys) e) k
    where
      right : (a b : Bool) → (a || b) ≡ false → b ≡ false
      right true b e = absurd (cc)
      right false b e = e

-- an edit of a layer that keeps its name brings none
pub same_below : (space other : List ℕ) (edit : Layer → Layer) (layers : List Layer) → ((l : Layer) → (edit l).space ≡ l.space) → has_below (in_layer other edit layers) space ≡ has_below layers space
same_below space other edit [] names = refl
same_below space other edit (l ∷ ls) names = by (is_of other l) refl (same_below space other edit ls names)
  where
    by : (b : Bool) → is_of other l ≡ b → has_below (in_layer other edit ls) space ≡ has_below ls space
        → has_below (cond b (edit l ∷ ls) (l ∷ in_layer other edit ls)) space ≡ has_below (l ∷ ls) space
    by true e rest = ap (λ s. is_properly_below space s || has_below ls space) (names l)
    by false e rest = ap (λ (b : Bool). is_properly_below space l.space || b) rest

pub changes_below : (space : List ℕ) (id : Ident) (changes : List Change) (layers : List Layer) → has_below (changed_all id changes layers) space ≡ has_below layers space
changes_below space id [] layers = refl
changes_below space id (change ∷ changes) layers =
    changes_below space id changes (changed id layers change)
    ∙ ap (λ ls. has_below ls space) (changed_by id layers change)
    ∙ same_below space id.space (edit_of id.number change) layers (edit_keeps id.number change).space

pub done_below : (id : Ident) (ts : List Tell) (changes : List Change) (layers : List Layer) → has_below layers id.space ≡ false → has_below (done id ts changes layers) id.space ≡ false
done_below id ts changes layers e =
    changes_below id.space id changes (in_layer id.space (telling ts) layers) ∙ same_below id.space id.space (telling ts) layers (λ l. refl) ∙ e

-- nor where a statement was taken off a stack
pub pop_below : (id : Ident) (layers : List Layer) → has_below (without_top id layers) id.space ≡ has_below layers id.space
pop_below id layers = same_below id.space id.space (with_frames id.number (λ (frames : List Frame). drop 1 frames)) layers (λ m. refl)

pub alone_there : (id : Ident) (layers : List Layer) → has_below layers id.space ≡ false → IsAlone layers id.space
alone_there id layers e l h = none_passes (λ (m : Layer). is_properly_below id.space m.space) layers l e (In-from_contains layers l h)

-- then nothing fails
pub none_fails : (space : List ℕ) (before after : List Layer) → Settles space before after → has_below before space ≡ false → after ≡ before
none_fails space before after h e = h.left ∙ ap (fold failing before) none
  where
    each : (l : Layer) → In l before → is_inconsistent before l ≡ false
    each l k = elim (decide (is_inconsistent before l)) [
      | inl q ↦ (let failed : In l.space (inconsistent_spaces before) =
          map_in (λ (m : Layer). m.space) (filter (is_inconsistent before) before) l (in_filter (is_inconsistent before) before l k q) in
          absurd (not_both _ (h.below l.space (contains-from_In (inconsistent_spaces before) l.space failed)) (none_passes (λ (m : Layer). is_properly_below space m.space) before l e k)))
      | inr q ↦ q
    ]

    none : inconsistent_spaces before ≡ []
    none = ap (map (λ (l : Layer). l.space)) (filter_none (is_inconsistent before) before each)

-- The space stays open

abbrev pub IsOpenAt : List Layer → List ℕ → Type 0
IsOpenAt layers space = (l : Layer) × (layer_at layers space ≡ Some l) × (is_open l.status ≡ true)

open_edit : (space : List ℕ) (edit : Layer → Layer) (layers : List Layer) → ((l : Layer) → (edit l).space ≡ l.space) → ((l : Layer) → (edit l).status ≡ l.status)
    → IsOpenAt layers space → IsOpenAt (in_layer space edit layers) space
open_edit space edit layers names same h =
    let own : is_of space h.0 ≡ true = (found_in (is_of space) edit layers h.0 h.1).1 in
    (edit h.0, edited_at space edit h.0 layers h.1 (ap (λ s. list_eq s space) (names h.0) ∙ own), ap is_open (same h.0) ∙ h.2)

open_changes : (id : Ident) (changes : List Change) (layers : List Layer) → IsOpenAt layers id.space → IsOpenAt (changed_all id changes layers) id.space
open_changes id [] layers h = h
open_changes id (change ∷ changes) layers h =
    let kept = edit_keeps id.number change in
    open_changes id changes (changed id layers change)
    (subst (λ (ls : List Layer). IsOpenAt ls id.space) (sym (changed_by id layers change)) (open_edit id.space (edit_of id.number change) layers kept.space kept.status h))

pub open_done : (id : Ident) (ts : List Tell) (changes : List Change) (layers : List Layer) → IsOpenAt layers id.space
    → IsOpenAt (in_layer id.space without_terminated (done id ts changes (without_top id layers))) id.space
open_done id ts changes layers h =
    let pops : Layer → Layer = with_frames id.number (λ (frames : List Frame). drop 1 frames) in
    let popped = open_edit id.space pops layers (λ l. refl) (λ l. refl) h in
    let told = open_edit id.space (telling ts) (without_top id layers) (λ l. refl) (λ l. refl) popped in
    open_edit id.space without_terminated (done id ts changes (without_top id layers)) (λ l. refl) (λ l. refl) (open_changes id changes (in_layer id.space (telling ts) (without_top id layers)) told)

-- A thread that is alone in its space

all_pass : {A : Type 0} (p : A → Bool) (xs : List A) (x : A) → list_all p xs ≡ true → In x xs → p x ≡ true
all_pass p [] x e h = elim h [ ]
all_pass p (y ∷ ys) x e (inl k) = sym (ap p k) ∙ and-left (p y) (list_all p ys) e
all_pass p (y ∷ ys) x e (inr k) = all_pass p ys x (and-right (p y) (list_all p ys) e) k

module _ (statements : List Statement) (layers : List Layer) (id : Ident) (queue : List Ident) (there : layer_at layers id.space ≡ Some (layer_of layers id.space))
    (single : list_all (is_numbered id.number) (layer_of layers id.space).threads ≡ true) where
  abbrev own : Layer
  own = layer_of layers id.space

  -- is all that can step in it
  pub itself : (o : Ident) → In o (runnable_in statements layers own) → o ≡ id
  itself o h =
      let can = can_from statements layers own o h in
      let number : can.thread.number ≡ id.number = eqb-true can.thread.number id.number (all_pass (is_numbered id.number) own.threads can.thread single can.among) in
      sym can.name ∙ ap₂ (λ (s : List ℕ) (n : ℕ). named s n) (layer_of_name layers id.space) number

  -- so no other joins
  pub none_joins : others_of (staying statements layers id queue) (runnable_in statements layers own) ≡ []
  none_joins = filter_none (λ (o : Ident). not (is_among (staying statements layers id queue) o)) (runnable_in statements layers own) each
    where
      each : (o : Ident) → In o (runnable_in statements layers own) → not (is_among (staying statements layers id queue) o) ≡ false
      each o h =
          let is : o ≡ id = itself o h in
          let among : is_among (runnable statements layers) id ≡ true =
          in_among (runnable statements layers) id (subst (λ (i : Ident). In i (runnable statements layers)) is (In-flat (runnable_in statements layers) own o layers (found_in (is_of id.space) (λ l. l) layers own there).0 h)) in
          let moves : mover_in (Some id) (runnable statements layers) ≡ id ∷ [] = ap (λ (b : Bool). if b then id ∷ [] else []) among in
          let stays : In o (staying statements layers id queue) =
          subst (λ (ids : List Ident). In o (filter (is_able_still statements layers id.space) queue ++ ids)) (sym moves)
          (In-right o (filter (is_able_still statements layers id.space) queue) (id ∷ []) (inl (sym is))) in
          ap not (in_among (staying statements layers id queue) o stays)

pub single_in : (id : Ident) (layers same : List Layer) → layers ≡ same → list_all (is_numbered id.number) (layer_of same id.space).threads ≡ true → list_all (is_numbered id.number) (layer_of layers id.space).threads ≡ true
single_in id layers same e h = ap (λ (ls : List Layer). list_all (is_numbered id.number) (layer_of ls id.space).threads) e ∙ h

-- What was told, where no space is a value then

changes_spaceless : (id : Ident) (changes : List Change) (layers : List Layer) → has_spaces (changed_all id changes layers) ≡ has_spaces layers
changes_spaceless id [] layers = refl
changes_spaceless id (change ∷ changes) layers =
    changes_spaceless id changes (changed id layers change)
    ∙ ap has_spaces (changed_by id layers change)
    ∙ quiet_spaceless (edit_of id.number change) layers id.space (λ l e. (edit_keeps id.number change).tells l)

told_spaceless : (id : Ident) (ts : List Tell) (changes : List Change) (layers : List Layer) → IsOpenAt layers id.space
    → has_spaces (in_layer id.space without_terminated (done id ts changes (without_top id layers))) ≡ false → (has_spaces layers ≡ false) × (list_any gives_space ts ≡ false)
told_spaceless id ts changes layers h none =
    let pops : Layer → Layer = with_frames id.number (λ (frames : List Frame). drop 1 frames) in
    let popped = open_edit id.space pops layers (λ l. refl) (λ l. refl) h in
    let after : has_spaces (in_layer id.space (telling ts) (without_top id layers)) ≡ false
    = sym (quiet_spaceless without_terminated (done id ts changes (without_top id layers)) id.space (λ l e. refl) ∙ changes_spaceless id changes (in_layer id.space (telling ts) (without_top id layers))) ∙ none in
    let untold = untold_spaceless (telling ts) (without_top id layers) id.space ts (λ l e. refl) (ap is_some popped.1) after in
    (sym (quiet_spaceless pops layers id.space (λ l e. refl)) ∙ untold.0, untold.1)

-- The step

pub told_turn : (statements : List Statement) (id : Ident) (layers old new : List Layer) (queue after : List Ident) (shown : List (List ℕ)) (ts : List Tell) (changes : List Change) (cost : ℕ)
    → IsHead statements id layers queue shown → IsAlone layers id.space → is_consistent (view layers id.space ++ ts) ≡ true → old ≡ done id ts changes (without_top id layers)
    → new ≡ in_layer id.space without_terminated old → NoneNeeded statements new → has_spaces new ≡ false → list_all (is_numbered id.number) (layer_of new id.space).threads ≡ true → after ≡ queue ++ able_in statements new id
    → ◌≡◌ {A = Turned} (went_on statements id cost old (record { layers = old; queue = queue; shown = shown })) (Moved cost, record { layers = new; queue = after; shown = shown })
told_turn statements id layers old new queue after shown ts changes cost head alone fits is left none spaceless single joined =
    let result : new ≡ in_layer id.space without_terminated (done id ts changes (without_top id layers)) = left ∙ ap (in_layer id.space without_terminated) is in
    let c : Configuration = record { layers = layers; queue = queue; shown = shown } in
    let head_there = kept_head statements id queue c head in
    let good : AreOrderly new = subst AreOrderly (sym result) (done_orderly id ts changes layers (kept_layers statements (record c { queue = id ∷ queue }) head)) in
    let untold = told_spaceless id ts changes layers (layer_of layers id.space, head_there.layer, head_there.opened) (sym (ap has_spaces result) ∙ spaceless) in
    let at : IsOpenAt new id.space = subst (λ ls. IsOpenAt ls id.space) (sym result) (open_done id ts changes layers (layer_of layers id.space, head_there.layer, head_there.opened)) in
    let there : layer_at new id.space ≡ Some (layer_of new id.space) = at.1 ∙ ap (λ (o : Option Layer). Some (unwrap_or o (new_layer id.space))) (sym at.1) in
    let opened : is_open (layer_of new id.space).status ≡ true = ap (λ (o : Option Layer). is_open (unwrap_or o (new_layer id.space)).status) at.1 ∙ at.2 in
    let same : staying statements new id queue ++ others_of (staying statements new id queue) (runnable_in statements new (layer_of new id.space)) ≡ after =
    ap (λ (ids : List Ident). staying statements new id queue ++ ids) (none_joins statements new id queue there single)
    ∙ append-nil (staying statements new id queue)
    ∙ ap₂ (λ (xs ys : List Ident). xs ++ ys) (queue_stays statements id layers new queue shown ts changes head result single) (mover_joins statements new id spaceless good opened)
    ∙ sym joined in
    ap (λ ls. went_on statements id cost ls (record c { layers = ls })) is
    ∙ proved.tell_queue statements c id queue ts changes cost head untold.0 untold.1 alone fits new result none
    ∙ ap (λ q. (Moved cost, record c { layers = new; queue = q })) same

-- Acts that tell

-- what an act tells, and the changes that it makes besides
pub record MakesTold (id : Ident) (l : Layer) (act : Act) (old new : List Layer) : Type 0 where
  pub tells : List Tell
  pub changes : List Change
  pub effect : act_effect l act ≡ Tells tells changes
  pub fits : is_consistent (view old id.space ++ tells) ≡ true
  pub settles : Settles id.space (done id tells changes (without_top id old)) new

pub told_done : (id : Ident) (l : Layer) (act : Act) (old new : List Layer) → is_quiet act ≡ false → IsDone id (act_effect l act) old new true → MakesTold id l act old new
told_done id l Passes old new e h = absurd (false≢true (sym e))
told_done id l (GoesOn frames) old new e h = absurd (false≢true (sym e))
told_done id l (Declares environment names body) old new e h = absurd (false≢true (sym e))
told_done id l (Starts frames) old new e h = absurd (false≢true (sym e))
told_done id l (GivesValue x v) old new e h = record { tells = _; changes = []; effect = refl; fits = h.0; settles = h.1 }
told_done id l (GivesTerm x t) old new e h = record { tells = _; changes = _; effect = refl; fits = h.0; settles = h.1 }
told_done id l (GivesVariable x y) old new e h = record { tells = _; changes = []; effect = refl; fits = h.0; settles = h.1 }
told_done id l (MakesProcedure x parameters body environment) old new e h = record { tells = _; changes = _; effect = refl; fits = h.0; settles = h.1 }
told_done id l (MakesName x) old new e h = record { tells = _; changes = _; effect = refl; fits = h.0; settles = h.1 }
told_done id l (MakesCell x content) old new e h = record { tells = _; changes = _; effect = refl; fits = h.0; settles = h.1 }
told_done id l (Reads n x) old new e h = record { tells = _; changes = []; effect = refl; fits = h.0; settles = h.1 }
told_done id l (Writes n content) old new e h = absurd (false≢true (sym e))
told_done id l (Exchanges n x content) old new e h = record { tells = _; changes = _; effect = refl; fits = h.0; settles = h.1 }
told_done id l (MakesPort x stream) old new e h = record { tells = _; changes = _; effect = refl; fits = h.0; settles = h.1 }
told_done id l (Sends n item) old new e h = record { tells = _; changes = _; effect = refl; fits = h.0; settles = h.1 }
told_done id l (Confines ts) old new e h = record { tells = _; changes = []; effect = refl; fits = h.0; settles = h.1 }
told_done id l (Posts ts relation xs) old new e h = record { tells = _; changes = _; effect = refl; fits = h.0; settles = h.1 }
told_done id l (Delays procedure x) old new e h = absurd (false≢true (sym e))
told_done id l (Shows x) old new e h = absurd h

-- Edits of one layer that leave who is needed elsewhere: the other layers, what they see, and which spaces are there and were not merged.
use Rattle.std.proofs.Common.{◌≡◌, inl, inr, ℕ, Bool, true, false, not, cond, if◌then◌else◌, List, [], ◌∷◌, refl, sym, ap, ap₂, subst, ◌∙◌, Option, Some, None, drop}
use Rattle.std.specs.Prelude.{option_map}
use Rattle.std.specs.List.{find}
use Rattle.oz_base.specs.Lists.{list_eq, edit_first}
use Rattle.oz_base.specs.declared.names.Ident.{Ident}
use Rattle.oz_language.specs.declared.kernel.Statement.{Statement}
use Rattle.oz_semantics.specs.Names.{is_below}
use Rattle.oz_semantics.specs.Configurations.{is_of, view, in_layer, with_frames, without_terminated, telling}
use Rattle.oz_semantics.specs.Sights.{States, state_in, Offer}
use Rattle.oz_semantics.specs.Spaces.{subtree_goes_on, is_stable, offer_in, is_left, stable_state, state_by, states_behind, states_of, waited_in}
use Rattle.oz_semantics.specs.Triggers.{has_needed}
use Rattle.oz_semantics.specs.Changes.{Change, changed, changed_all, done}
use Rattle.oz_semantics.specs.Steps.{without_top}
use Rattle.oz_semantics.specs.declared.value.Tell.{Tell}
use Rattle.oz_semantics.specs.declared.configuration.Frame.{Frame}
use Rattle.oz_semantics.specs.declared.configuration.Status.{Status}
use Rattle.oz_semantics.specs.declared.configuration.Status.TheVariants as status
use Rattle.oz_semantics.specs.declared.configuration.Propagator.{Propagator}
use Rattle.oz_semantics.specs.declared.configuration.Layer.{Layer}
use Rattle.oz_semantics.specs.Store.{View}
use Rattle.oz_semantics.specs.Propagation.{after_run}
use Rattle.oz_semantics.specs.declared.outcome.State.{State}
use Rattle.oz_semantics.specs.declared.outcome.State.TheVariants as states
use Rattle.oz_laws.proofs.SameLaws.{In}
use Rattle.view_laws.specs.Needs.{NoneNeeded}
use Rattle.view_laws.proofs.Members.{not_both}
use Rattle.view_laws.proofs.ListLaws.{in_edit, found_in}
use Rattle.view_laws.proofs.SightLaws.{change_unseen}
use Rattle.view_laws.proofs.ChangeLaws.{edit_of, changed_by}
use Rattle.need_laws.proofs.StateLaws.{is_live, found_live, AreLive, layer_waits}
use Rattle.need_laws.proofs.RoundLaws.{none_in, needed_same}
use Rattle.settle_laws.specs.Settles.{IsQuiet}
use Rattle.settle_laws.proofs.EditLaws.{are_quiet, edit_quiet, quiet_view}

-- Which spaces are there and were not merged, layer by layer

abbrev was_left : Status → Bool
was_left status.Open = true
was_left status.Failed = true
was_left (status.Raised x) = true
was_left status.Merged = false

abbrev left_in : List ℕ → List Layer → Bool
left_in space [] = false
left_in space (l ∷ ls) = if list_eq l.space space then was_left l.status else left_in space ls

stable_live : (o : Option Offer) (left : Bool) → is_live (stable_state o left) ≡ true
stable_live (Some offer) left = refl
stable_live None true = refl
stable_live None false = refl

open_live : (goes stable : Bool) (o : Option Offer) (left : Bool) → is_live (if goes then states.Running else (if stable then stable_state o left else states.Suspended)) ≡ true
open_live true stable o left = refl
open_live false true o left = stable_live o left
open_live false false o left = refl

status_live : (statements : List Statement) (layers : List Layer) (known : States) (l : Layer) (st : Status) → is_live (state_by statements layers known l st) ≡ was_left st
status_live statements layers known l status.Open =
    open_live (subtree_goes_on statements layers known l.space) (is_stable statements layers known l.space) (offer_in statements layers known l) (is_left (view layers l.space) l)
status_live statements layers known l status.Failed = refl
status_live statements layers known l (status.Raised x) = refl
status_live statements layers known l status.Merged = refl

found_left : (statements : List Statement) (layers ls : List Layer) (space : List ℕ) → found_live (state_in (states_behind statements layers ls) space) ≡ left_in space ls
found_left statements layers [] space = refl
found_left statements layers (l ∷ ls) space = by (states_behind statements layers ls) (list_eq l.space space) (found_left statements layers ls space)
  where
    by : (rest : States) (b : Bool) → found_live (state_in rest space) ≡ left_in space ls
        → found_live (option_map (λ (s : List ℕ × State). s.1) (cond b (Some (l.space, state_by statements layers rest l l.status)) (find (λ (s : List ℕ × State). list_eq s.0 space) rest)))
        ≡ (if b then was_left l.status else left_in space ls)
    by rest true e = status_live statements layers rest l l.status
    by rest false e = e

-- an edit that keeps a layer's name and status leaves it so
edit_left : (test : Layer → Bool) (f : Layer → Layer) → ((l : Layer) → (f l).space ≡ l.space) → ((l : Layer) → (f l).status ≡ l.status) → (other : List ℕ) (ls : List Layer)
    → left_in other (edit_first test f ls) ≡ left_in other ls
edit_left test f named kept other [] = refl
edit_left test f named kept other (l ∷ ls) = by (test l) (edit_left test f named kept other ls)
  where
    by : (b : Bool) → left_in other (edit_first test f ls) ≡ left_in other ls → left_in other (cond b (f l ∷ ls) (l ∷ edit_first test f ls)) ≡ left_in other (l ∷ ls)
    by true rest = ap₂ (λ (s : List ℕ) (st : Status). if list_eq s other then was_left st else left_in other ls) (named l) (kept l)
    by false rest = ap (λ b. if list_eq l.space other then was_left l.status else b) rest

-- One list of layers after the other

-- those of other names are as they were, the spaces that pass the test see what they saw, and the same spaces are there and were not merged
pub record Spares (space : List ℕ) (blind : List ℕ → Bool) (one other : List Layer) : Type 0 where
  pub outer : (l : Layer) → In l other → is_of space l ≡ false → In l one
  pub seen : (u : List ℕ) → blind u ≡ true → view other u ≡ view one u
  pub left : (u : List ℕ) → left_in u other ≡ left_in u one

spares_both : (space : List ℕ) (blind : List ℕ → Bool) (one two three : List Layer) → Spares space blind one two → Spares space blind two three → Spares space blind one three
spares_both space blind one two three p q = record {
  outer = λ l h e. p.outer l (q.outer l h e) e;
  seen = λ u e. q.seen u e ∙ p.seen u e;
  left = λ u. q.left u ∙ p.left u;
}

module _ (space : List ℕ) (blind : List ℕ → Bool) where
  edit_spares : (f : Layer → Layer) (layers : List Layer) → ((l : Layer) → (f l).space ≡ l.space) → ((l : Layer) → (f l).status ≡ l.status)
      → ((u : List ℕ) → blind u ≡ true → view (in_layer space f layers) u ≡ view layers u) → Spares space blind layers (in_layer space f layers)
  edit_spares f layers named kept unseen = record {
    outer = outer;
    seen = unseen;
    left = λ u. edit_left (is_of space) f named kept u layers;
  }
    where
      outer : (l : Layer) → In l (in_layer space f layers) → is_of space l ≡ false → In l layers
      outer l h e = elim (in_edit (is_of space) f layers l h) [
        | inl k ↦ k
        | inr r ↦ absurd (not_both _ (ap (is_of space) r.2 ∙ ap (λ s. list_eq s space) (named r.0) ∙ (found_in (is_of space) f layers r.0 r.1).1) e)
      ]

  quiet_spares : (f : Layer → Layer) (layers : List Layer) → IsQuiet f → Spares space blind layers (in_layer space f layers)
  quiet_spares f layers quiet = edit_spares f layers quiet.space quiet.status (λ u e. quiet_view f layers space u quiet)

  -- what a thread of the space does at the end
  ended_spares : (one layers : List Layer) → Spares space blind one layers → Spares space blind one (in_layer space without_terminated layers)
  ended_spares one layers p = spares_both space blind one layers (in_layer space without_terminated layers) p (quiet_spares without_terminated layers are_quiet.terminated)

module _ (id : Ident) (blind : List ℕ → Bool) where
  changed_spares : (changes : List Change) (one layers : List Layer) → Spares id.space blind one layers → Spares id.space blind one (changed_all id changes layers)
  changed_spares [] one layers p = p
  changed_spares (change ∷ changes) one layers p =
      changed_spares changes one (changed id layers change)
      (subst (Spares id.space blind one) (sym (changed_by id layers change))
      (spares_both id.space blind one layers (in_layer id.space (edit_of id.number change) layers) p (quiet_spares id.space blind (edit_of id.number change) layers (edit_quiet id.number change))))

  frames_spare : (change : List Frame → List Frame) (layers : List Layer) → Spares id.space blind layers (in_layer id.space (with_frames id.number change) layers)
  frames_spare change layers = quiet_spares id.space blind (with_frames id.number change) layers (are_quiet.frames id.number change)

  pub changes_spare : (changes : List Change) (layers : List Layer) → Spares id.space blind layers (in_layer id.space without_terminated (changed_all id changes (without_top id layers)))
  changes_spare changes layers =
      ended_spares id.space blind layers (changed_all id changes (without_top id layers))
      (changed_spares changes layers (without_top id layers) (frames_spare (λ frames. drop 1 frames) layers))

  pub stack_spares : (frames : List Frame) (layers : List Layer)
      → Spares id.space blind layers (in_layer id.space without_terminated (in_layer id.space (with_frames id.number (λ rest. frames)) (without_top id layers)))
  stack_spares frames layers =
      ended_spares id.space blind layers (in_layer id.space (with_frames id.number (λ rest. frames)) (without_top id layers))
      (spares_both id.space blind layers (without_top id layers) (in_layer id.space (with_frames id.number (λ rest. frames)) (without_top id layers))
      (frames_spare (λ fs. drop 1 fs) layers) (frames_spare (λ rest. frames) (without_top id layers)))

-- what is told, those do not see that are not below the space
abbrev pub is_apart : List ℕ → List ℕ → Bool
is_apart space u = not (is_below space u)

pub done_spares : (id : Ident) (ts : List Tell) (changes : List Change) (layers : List Layer)
    → Spares id.space (is_apart id.space) layers (in_layer id.space without_terminated (done id ts changes (without_top id layers)))
done_spares id ts changes layers =
    let popped : List Layer = without_top id layers in
    let told : List Layer = in_layer id.space (telling ts) popped in
    ended_spares id.space (is_apart id.space) layers (changed_all id changes told)
    (changed_spares id (is_apart id.space) changes layers told
    (spares_both id.space (is_apart id.space) layers popped told (frames_spare id (is_apart id.space) (λ frames. drop 1 frames) layers)
    (edit_spares id.space (is_apart id.space) (telling ts) popped (λ l. refl) (λ l. refl) (λ u e. change_unseen (telling ts) popped id.space u (λ l k. refl) (not_true _ e)))))
  where
    not_true : (b : Bool) → not b ≡ true → b ≡ false
    not_true true k = sym k
    not_true false k = refl

-- nor what a propagator tells that runs in it
pub run_spares : (space : List ℕ) (v : View) (p : Propagator) (ts : List Tell) (layers : List Layer) → Spares space (is_apart space) layers (in_layer space (after_run v p ts) layers)
run_spares space v p ts layers =
    edit_spares space (is_apart space) (after_run v p ts) layers (λ l. refl) (λ l. refl) (λ u e. change_unseen (after_run v p ts) layers space u (λ l k. refl) (not_true _ e))
  where
    not_true : (b : Bool) → not b ≡ true → b ≡ false
    not_true true k = sym k
    not_true false k = refl

-- Who is needed

module _ (statements : List Statement) (space : List ℕ) (blind : List ℕ → Bool) (one other : List Layer) (spares : Spares space blind one other) where
  spares_live : AreLive (states_of statements one) (states_of statements other)
  spares_live u = found_left statements one one u ∙ sym (spares.left u) ∙ sym (found_left statements other other u)

  -- the threads of a layer wait for the same
  pub waited_same : (l : Layer) → blind l.space ≡ true → waited_in statements other (states_of statements other) l ≡ waited_in statements one (states_of statements one) l
  waited_same l e = layer_waits statements one other (states_of statements one) (states_of statements other) l (spares.seen l.space e) spares_live

  -- so no trigger is needed of those of another name
  pub outer_unneeded : NoneNeeded statements one → (l : Layer) → In l other → is_of space l ≡ false → blind l.space ≡ true → has_needed statements other l ≡ false
  outer_unneeded none l h apart e =
      needed_same statements one other l (spares.seen l.space e) (waited_same l e) ∙ none_in (has_needed statements one) one none l (spares.outer l h apart)

-- Edits of one space at the place that was looked up.
use Rattle.std.proofs.Common.{◌≡◌, ℕ, Bool, true, false, List, slice_set, slice_index_or, drop, sym, ap, subst, ◌∙◌, Result, Ok, Err, Option, unwrap_or}
use Rattle.std.specs.Prelude.{OnOk, OnErr, IfOk}
use Rattle.std.proofs.lemmas.List.{set-get_or}
use Rattle.oz_base.specs.declared.names.Ident.{Ident}
use Rattle.oz_semantics.specs.Configurations.{is_of, in_layer, stack_of, frames_in, thread_at, new_layer, with_frames}
use Rattle.oz_semantics.specs.Exceptions.{unwound}
use Rattle.oz_semantics.specs.declared.configuration.Frame.{Frame}
use Rattle.oz_semantics.specs.declared.configuration.Layer.{Layer}
use Rattle.space_core.specs.Advances.{IsCaught}
use Rattle.space_core.specs.Unwinding.{IsLevelCaught}
use Rattle.space_core.specs.Places.{IsFirst}
use Rattle.space_core.specs.Shown.{shown_all, IsSound, IsQuiet}
use Rattle.space_core.specs.declared.level.Level.{Level}
use Rattle.space_core.proofs.SoundLaws.{Edited, quiet_edit, read_shown}

-- the place of a space in what is kept, seen as a slice
abbrev pub PlaceIn : List Level → List ℕ → ℕ → Type 0
PlaceIn now space place = (x : Layer) × IsFirst (is_of space) (shown_all now) place x

pub unchanged : (levels : List Level) (place : ℕ) (l m : Level) → l ≡ slice_index_or levels place l → m ≡ l → slice_set levels place m ≡ levels
unchanged levels place l m e same = ap (slice_set levels place) (same ∙ e) ∙ set-get_or levels place l

module _ (levels now : List Level) (value : List Layer) (seen : now ≡ levels) (viewed : shown_all levels ≡ value) (s : IsSound levels) (space : List ℕ) (place : ℕ) (h : PlaceIn now space place)
    (l m : Level) (e : l ≡ slice_index_or levels place l) (change : Layer → Layer) where
  here : PlaceIn levels space place
  here = subst (λ (ls : List Level). PlaceIn ls space place) seen h

  edited : IsQuiet change l m → Edited levels (slice_set levels place m) space change
  edited q = quiet_edit levels space place here.0 here.1 l m e change q s

  pub quiet_sound : IsQuiet change l m → IsSound (slice_set levels place m)
  quiet_sound q = (edited q).sound

  pub quiet_shows : IsQuiet change l m → shown_all (slice_set levels place m) ≡ in_layer space change value
  quiet_shows q = (edited q).shows ∙ ap (in_layer space change) viewed

  pub result_sound : {A E : Type 0} (r : Result A E) → OnOk r (IsQuiet change l m) → OnErr r (m ≡ l) → IsSound (slice_set levels place m)
  result_sound (Ok a) q f = quiet_sound q
  result_sound (Err b) q f = subst IsSound (sym (unchanged levels place l m e f)) s

  pub result_shows : {A E : Type 0} (r : Result A E) → OnOk r (IsQuiet change l m) → OnOk r (shown_all (slice_set levels place m) ≡ in_layer space change value)
  result_shows (Ok a) q = quiet_shows q
  result_shows (Err b) q = q

  -- where this edit comes to the same as these changes
  pub result_becomes : {A E : Type 0} (target : List Layer) → in_layer space change value ≡ target → (r : Result A E) → OnOk r (IsQuiet change l m) → OnOk r (shown_all (slice_set levels place m) ≡ target)
  result_becomes target is (Ok a) q = quiet_shows q ∙ is
  result_becomes target is (Err b) q = q

-- the stack of a thread of the space at the place
module _ (levels now : List Level) (value : List Layer) (seen : now ≡ levels) (viewed : shown_all levels ≡ value) (s : IsSound levels) (id : Ident) (place : ℕ) (h : PlaceIn now id.space place)
    (l m : Level) (e : l ≡ slice_index_or levels place l) (exception : Ident) where
  found_here : PlaceIn levels id.space place
  found_here = subst (λ (ls : List Level). PlaceIn ls id.space place) seen h

  stack_here : stack_of value id ≡ frames_in (thread_at l.threads.list id.number)
  stack_here =
      ap (λ (ls : List Layer). stack_of ls id) (sym viewed)
      ∙ ap (λ (o : Option Layer). frames_in (thread_at (unwrap_or o (new_layer id.space)).threads id.number)) found_here.1.found
      ∙ ap (λ (k : Layer). frames_in (thread_at k.threads id.number)) (sym (read_shown levels id.space place found_here.0 found_here.1 l e))

  pub caught_sound : {E : Type 0} (r : Result Bool E) → IfOk r (IsLevelCaught exception id.number l m) → OnErr r (m ≡ l) → IsSound (slice_set levels place m)
  caught_sound (Ok true) q f = quiet_sound levels now value seen viewed s id.space place h l m e (with_frames id.number (λ rest. q.0)) q.2
  caught_sound (Ok false) q f = subst IsSound (sym (unchanged levels place l m e q.1)) s
  caught_sound (Err b) q f = subst IsSound (sym (unchanged levels place l m e f)) s

  pub caught_shows : {E : Type 0} (r : Result Bool E) → IfOk r (IsLevelCaught exception id.number l m) → IfOk r (IsCaught exception id value (shown_all (slice_set levels place m)))
  caught_shows (Ok true) q =
      (q.0, ap (λ (fs : List Frame). unwound exception (drop 1 fs)) stack_here ∙ q.1, quiet_shows levels now value seen viewed s id.space place h l m e (with_frames id.number (λ rest. q.0)) q.2)
  caught_shows (Ok false) q = (ap (λ (fs : List Frame). unwound exception (drop 1 fs)) stack_here ∙ q.0, ap shown_all (unchanged levels place l m e q.1) ∙ viewed)
  caught_shows (Err b) q = q

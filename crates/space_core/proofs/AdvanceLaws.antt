-- One edit of a space after another, at the place that was looked up.
use Rattle.std.proofs.Common.{◌≡◌, ℕ, ◌+◌, ◌<◌, ◌≤◌, arith, length, true, false, List, [], ◌∷◌, ◌++◌, slice_set, slice_index_or, refl, sym, ap, ap₂, subst, ◌∙◌, drop, take, Option, Some, None, unwrap_or, Bool, Result, Ok, Err}
use Rattle.std.specs.Prelude.{IfOk, MatchOption}
use Rattle.std.specs.List.{list_all}
use Rattle.std.proofs.Math.Seq.{take-length, take-append_seam}
use Rattle.std.proofs.lemmas.List.{get_or-set_same, get_or_default, set-set, set-get_or}
use Rattle.oz_base.specs.Lists.{list_eq}
use Rattle.oz_base.specs.declared.names.Ident.{Ident}
use Rattle.oz_semantics.specs.Store.{named_by, is_consistent}
use Rattle.oz_semantics.specs.Configurations.{is_of, is_numbered, in_layer, view, telling, with_frames, thread_at, frames_in, stack_of, new_layer}
use Rattle.oz_semantics.specs.Changes.{GivesOut, done}
use Rattle.oz_semantics.specs.Exceptions.{unwound}
use Rattle.oz_semantics.specs.Steps.{without_top}
use Rattle.oz_semantics.specs.declared.value.Tell.{Tell}
use Rattle.oz_semantics.specs.declared.configuration.Frame.{Frame}
use Rattle.oz_semantics.specs.declared.configuration.Thread.{Thread}
use Rattle.oz_semantics.specs.declared.configuration.LastRun.TheVariants.{Never}
use Rattle.oz_semantics.specs.declared.configuration.Propagator as propagators
use Rattle.oz_semantics.specs.declared.configuration.Layer.{Layer}
use Rattle.settle_laws.specs.Settles.{Settles, IsQuiet as IsQuietChange}
use Rattle.settle_laws.proofs.EditLaws.{are_quiet}
use Rattle.settle_laws.proofs.SettleLaws.{quiet_settles}
use Rattle.view_laws.proofs.SightLaws.{space_of}
use Rattle.cells_ports.specs.Objects.{Contents}
use Rattle.space_core.specs.Advances.{given_out, IsAdvanced, IsRaised, taken_on}
use Rattle.space_core.specs.Giving.{giving, objects_after, propagators_after, after_giving}
use Rattle.space_core.specs.Places.{IsFirst}
use Rattle.space_core.specs.Shown.{shown, shown_all, is_home, IsSound, IsQuiet}
use Rattle.space_core.specs.Stacks.{cut_out}
use Rattle.space_core.specs.Telling.{after_giving_at, IsToldMore, IsLeft, IsToldThrough, IsToldAt, ToldThrough, ToldAt, ClashesAt, HasThread}
use Rattle.space_core.specs.declared.given.Given.{Given}
use Rattle.space_core.specs.declared.given.Given.TheVariants.{Nothing, Variables, Procedure, Name, Cell, Content, Port, End, Propagator}
use Rattle.space_core.specs.declared.level.Level.{Level}
use Rattle.space_core.specs.Threads.{Running}
use Rattle.space_core.proofs.AnswerLaws.{PlaceIn, unchanged}
use Rattle.space_core.proofs.CatchLaws.{quiet_twice, quiet_as, quiet_same, room_for, room_to_cut}
use Rattle.space_core.proofs.Firsts.{first_edited, edit_same}
use Rattle.space_core.proofs.LayerLaws.{frames_twice, uncut_handler, told_by, told_by_is, raised_is}
use Rattle.space_core.proofs.RemakeLaws.{Told, told_there, told_within, told_all}
use Rattle.space_core.proofs.SoundLaws.{Edited, quiet_edit, read_shown, place_within, place_member}

-- A change that keeps the name of the space
abbrev pub KeepsName : (Layer → Layer) → Type 0
KeepsName change = (k : Layer) → (change k).space ≡ k.space

-- The space at the place was changed, and still stands there
pub record Reached (levels news : List Level) (space : List ℕ) (place : ℕ) (change : Layer → Layer) : Type 0 where
  pub edited : Edited levels news space change
  pub here : PlaceIn news space place

reached : (levels news : List Level) (space : List ℕ) (place : ℕ) (change : Layer → Layer) → KeepsName change → PlaceIn levels space place → Edited levels news space change → Reached levels news space place change
reached levels news space place change keeps h e = record {
  edited = e;
  here = subst (λ (ls : List Layer). (x : Layer) × IsFirst (is_of space) ls place x) (sym e.shows) (first_edited (is_of space) change (λ k. ap (λ s. list_eq s space) (keeps k)) (shown_all levels) place h.0 h.1);
}

pub quiet_step : (levels : List Level) (space : List ℕ) (place : ℕ) → IsSound levels → PlaceIn levels space place → (l m : Level) → l ≡ slice_index_or levels place l → (change : Layer → Layer)
    → KeepsName change → IsQuiet change l m → Reached levels (slice_set levels place m) space place change
quiet_step levels space place s h l m e change keeps q =
    reached levels (slice_set levels place m) space place change keeps h (quiet_edit levels space place h.0 h.1 l m e change q s)

-- What was written at the place is read there
pub read_set : (levels : List Level) (place : ℕ) (m l : Level) → place < length levels → l ≡ slice_index_or (slice_set levels place m) place l → l ≡ m
read_set levels place m l within e = e ∙ get_or-set_same levels place m l within

pub gives_quietly : (given : Given) (l : Level) → IsQuiet (giving given) l (after_giving given l)
gives_quietly Nothing l = record { becomes = refl; space = refl; store = refl; told_from = refl; touched = refl; traced = refl; knows = refl; bare = refl; variables = omega arith; children = omega arith }
gives_quietly (Variables n) l = record { becomes = refl; space = refl; store = refl; told_from = refl; touched = refl; traced = refl; knows = refl; bare = refl; variables = omega arith; children = omega arith }
gives_quietly Procedure l = record { becomes = refl; space = refl; store = refl; told_from = refl; touched = refl; traced = refl; knows = refl; bare = refl; variables = omega arith; children = omega arith }
gives_quietly Name l = record { becomes = refl; space = refl; store = refl; told_from = refl; touched = refl; traced = refl; knows = refl; bare = refl; variables = omega arith; children = omega arith }
gives_quietly (Cell content) l = record { becomes = refl; space = refl; store = refl; told_from = refl; touched = refl; traced = refl; knows = refl; bare = refl; variables = omega arith; children = omega arith }
gives_quietly (Content n content) l = record { becomes = refl; space = refl; store = refl; told_from = refl; touched = refl; traced = refl; knows = refl; bare = refl; variables = omega arith; children = omega arith }
gives_quietly (Port stream) l = record { becomes = refl; space = refl; store = refl; told_from = refl; touched = refl; traced = refl; knows = refl; bare = refl; variables = omega arith; children = omega arith }
gives_quietly (End n end) l = record { becomes = refl; space = refl; store = refl; told_from = refl; touched = refl; traced = refl; knows = refl; bare = refl; variables = omega arith; children = omega arith }
gives_quietly (Propagator relation variables) l = record { becomes = refl; space = refl; store = refl; told_from = refl; touched = refl; traced = refl; knows = refl; bare = refl; variables = omega arith; children = omega arith }

-- A space gives something out and is told more
module _ (levels : List Level) (id : Ident) (place : ℕ) (s : IsSound levels) (h : PlaceIn levels id.space place)
    (ts : List Tell) (given : Given) (news : List Level) (t : ToldAt place ts given levels news) where
  abbrev gave : List Level
  gave = after_giving_at place given t.before levels

  within : place < length levels
  within = place_within levels id.space place h.0 h.1

  name : t.before.space ≡ id.space
  name = ap (λ (k : Layer). k.space) (read_shown levels id.space place h.0 h.1 t.before t.read) ∙ space_of (shown_all levels) id.space h.0 h.1.found

  giving_step : Reached levels gave id.space place (giving given)
  giving_step = quiet_step levels id.space place s h t.before (after_giving given t.before) t.read (giving given) (λ k. refl) (gives_quietly given t.before)

  read_gave : after_giving given t.before ≡ slice_index_or gave place (after_giving given t.before)
  read_gave = sym (get_or-set_same levels place (after_giving given t.before) (after_giving given t.before) within)

  homes : t.home ≡ true → list_all (λ t. list_all (is_home (shown_all gave) id.space) (named_by t)) ts ≡ true
  homes k = subst (λ (p : List ℕ). list_all (λ t. list_all (is_home (shown_all gave) p) (named_by t)) ts ≡ true) name (sym t.homes ∙ k)

  told_step : Told gave news id.space place ts t.told
  told_step = told_all gave id.space place giving_step.here.0 giving_step.here.1 (after_giving given t.before) t.told read_gave ts t.home t.tells homes giving_step.edited.sound news t.left

  pub told_here : PlaceIn news id.space place
  told_here = told_step.here

  pub told_inside : place < length news
  told_inside = told_within gave news id.space place ts t.told told_step

  pub told_sound_at : IsSound news
  told_sound_at = told_step.sound

  pub told_settles_at : Settles id.space (in_layer id.space (telling ts) (in_layer id.space (giving given) (shown_all levels))) (shown_all news)
  told_settles_at = subst (λ (ls : List Layer). Settles id.space (in_layer id.space (telling ts) ls) (shown_all news)) giving_step.edited.shows told_step.settles

  pub told_level : (l : Level) → l ≡ slice_index_or news place l → l ≡ t.told
  told_level l e = told_there gave news id.space place ts t.told told_step l e

  pub sees_more : is_consistent (view (shown_all levels) id.space ++ ts) ≡ true
  sees_more =
      ap (λ (us : List Tell). is_consistent (us ++ ts)) (sym ((s.fits t.before (place_member levels id.space place h.0 h.1 t.before t.read)).seen t.tells.kept ∙ ap (view (shown_all levels)) name))
      ∙ t.tells.consistent

-- What is left after a quiet change of the space itself
settles_quietly : (change : Layer → Layer) (space : List ℕ) (before after made left : List Layer) → IsQuietChange change → Settles space before after → in_layer space change before ≡ made → left ≡ in_layer space change after
    → Settles space made left
settles_quietly change space before after made left quiet settles e f =
    subst (λ (ls : List Layer). Settles space made ls) (sym f) (subst (λ (ls : List Layer). Settles space ls (in_layer space change after)) e (quiet_settles change space before after quiet settles))

-- and then its statement is taken off
module _ (levels : List Level) (value : List Layer) (viewed : shown_all levels ≡ value) (id : Ident) (place : ℕ) (s : IsSound levels) (h : PlaceIn levels id.space place)
    (ts : List Tell) (given : Given) (news : List Level) (t : ToldAt place ts given levels news)
    (l m : Level) (e : l ≡ slice_index_or news place l) (q : IsQuiet (with_frames id.number (λ stack. drop 1 stack)) l m) where
  popping_step : Reached news (slice_set news place m) id.space place (with_frames id.number (λ stack. drop 1 stack))
  popping_step =
      quiet_step news id.space place (told_sound_at levels id place s h ts given news t) (told_here levels id place s h ts given news t) l m e (with_frames id.number (λ stack. drop 1 stack)) (λ k. refl) q

  pub advanced_sound : IsSound (slice_set news place m)
  advanced_sound = popping_step.edited.sound

  pub advanced : IsAdvanced id ts (given_out given) value (shown_all (slice_set news place m)) true
  advanced = (
    ap (λ (ls : List Layer). is_consistent (view ls id.space ++ ts)) (sym viewed) ∙ sees_more levels id place s h ts given news t,
    settles_quietly (with_frames id.number (λ stack. drop 1 stack)) id.space (in_layer id.space (telling ts) (in_layer id.space (giving given) (shown_all levels))) (shown_all news)
        (done id ts (given_out given) (without_top id value)) (shown_all (slice_set news place m)) (are_quiet.frames id.number (λ stack. drop 1 stack)) (told_settles_at levels id place s h ts given news t)
        (ap (λ (ls : List Layer). told_by id ls ts given) viewed ∙ told_by_is id value ts given) popping_step.edited.shows,
  )

-- An exception's term is told while the handler stands on the stack
module _ (levels : List Level) (value : List Layer) (viewed : shown_all levels ≡ value) (id : Ident) (place : ℕ) (s : IsSound levels) (h : PlaceIn levels id.space place)
    (handler : List Frame) (height : ℕ) (high : height ≡ length handler)
    (l l1 : Level) (e : l ≡ slice_index_or levels place l) (q : IsQuiet (with_frames id.number (λ stack. handler ++ stack)) l l1) where
  abbrev pushed : List Level
  pushed = slice_set levels place l1

  pushing_step : Reached levels pushed id.space place (with_frames id.number (λ stack. handler ++ stack))
  pushing_step = quiet_step levels id.space place s h l l1 e (with_frames id.number (λ stack. handler ++ stack)) (λ k. refl) q

  pub raised_inside : (ts : List Tell) (count : ℕ) (news : List Level) → ToldAt place ts (Variables count) pushed news → place < length news
  raised_inside ts count news t = told_inside pushed id place pushing_step.edited.sound pushing_step.here ts (Variables count) news t

  -- it is told, and what stands below the handler is cut out
  module _ (ts : List Tell) (count : ℕ) (news : List Level) (t : ToldAt place ts (Variables count) pushed news) (below : ℕ)
      (l2 m : Level) (e2 : l2 ≡ slice_index_or news place l2) (q2 : IsQuiet (with_frames id.number (cut_out height below)) l2 m) where
    catching_step : Reached news (slice_set news place m) id.space place (with_frames id.number (cut_out height below))
    catching_step =
        quiet_step news id.space place
        (told_sound_at pushed id place pushing_step.edited.sound pushing_step.here ts (Variables count) news t)
        (told_here pushed id place pushing_step.edited.sound pushing_step.here ts (Variables count) news t)
        l2 m e2 (with_frames id.number (cut_out height below)) (λ k. refl) q2

    pub raised_sound : IsSound (slice_set news place m)
    raised_sound = catching_step.edited.sound

    pub raised_shows : (x : Ident) → unwound x (drop 1 (stack_of value id)) ≡ Some (handler ++ drop below (stack_of value id)) → IsRaised x id ts count value (shown_all (slice_set news place m)) true
    raised_shows x u = (
      handler ++ drop below (stack_of value id),
      u,
      settles_quietly (with_frames id.number (cut_out height below)) id.space (in_layer id.space (telling ts) (in_layer id.space (giving (Variables count)) (shown_all pushed))) (shown_all news)
          (taken_on id (handler ++ drop below (stack_of value id)) (done id ts (GivesOut count ∷ []) value)) (shown_all (slice_set news place m)) (are_quiet.frames id.number (cut_out height below))
          (told_settles_at pushed id place pushing_step.edited.sound pushing_step.here ts (Variables count) news t)
          (ap (λ (ls : List Layer). in_layer id.space (with_frames id.number (cut_out height below)) (in_layer id.space (telling ts) (in_layer id.space (giving (Variables count)) ls)))
          (pushing_step.edited.shows ∙ ap (in_layer id.space (with_frames id.number (λ stack. handler ++ stack))) viewed)
          ∙ raised_is id value handler ts count height below high)
          catching_step.edited.shows,
    )

  -- where the exception goes was looked for in the same stack
  module _ (x : Ident) (l0 : Level) (r0 : l0 ≡ slice_index_or levels place l0) (below : ℕ)
      (lands : unwound x (drop 1 (frames_in (thread_at l0.threads.list id.number))) ≡ Some (handler ++ drop below (frames_in (thread_at l0.threads.list id.number))))
      (within : below ≤ length (frames_in (thread_at l0.threads.list id.number))) where
    abbrev stack_in : Level → List Frame
    stack_in k = frames_in (thread_at k.threads.list id.number)

    same_stack : stack_in l0 ≡ stack_in l
    same_stack = ap stack_in (r0 ∙ get_or_default levels place l0 l (place_within levels id.space place h.0 h.1) ∙ sym e)

    value_stack : stack_of value id ≡ stack_in l0
    value_stack =
        ap (λ (ls : List Layer). stack_of ls id) (sym viewed)
        ∙ ap (λ (o : Option Layer). frames_in (thread_at (unwrap_or o (new_layer id.space)).threads id.number)) h.1.found
        ∙ ap (λ (k : Layer). frames_in (thread_at k.threads id.number)) (sym (read_shown levels id.space place h.0 h.1 l0 r0))

    pub lands_here : unwound x (drop 1 (stack_of value id)) ≡ Some (handler ++ drop below (stack_of value id))
    lands_here = subst (λ (fs : List Frame). unwound x (drop 1 fs) ≡ Some (handler ++ drop below fs)) (sym value_stack) lands

    lands_there : unwound x (drop 1 (stack_in l)) ≡ Some (handler ++ drop below (stack_in l))
    lands_there = subst (λ (fs : List Frame). unwound x (drop 1 fs) ≡ Some (handler ++ drop below fs)) same_stack lands

    pub room_below : (ts : List Tell) (count : ℕ) (news : List Level) → ToldAt place ts (Variables count) pushed news → (l2 : Level) → l2 ≡ slice_index_or news place l2 → height + below ≤ length (stack_in l2)
    room_below ts count news t l2 e2 =
        let told : l2 ≡ t.told = told_level pushed id place pushing_step.edited.sound pushing_step.here ts (Variables count) news t l2 e2 in
        let before : t.before ≡ l1 = read_set levels place l1 t.before (place_within levels id.space place h.0 h.1) t.read in
        let threads : l2.threads.list ≡ l1.threads.list = ap (λ (k : Level). k.threads.list) told ∙ ap (λ (r : Running). r.list) t.tells.threads ∙ ap (λ (k : Level). k.threads.list) before in
        subst (λ (us : List Thread). height + below ≤ length (frames_in (thread_at us id.number))) (sym threads)
        (room_to_cut id.number handler l l1 q x (handler ++ drop below (stack_in l)) height below lands_there high (subst (λ (fs : List Frame). below ≤ length fs) same_stack within))

-- A handler that is put on a stack and taken off again leaves what was there
module _ (levels : List Level) (place n : ℕ) (within : place < length levels) (there : HasThread place n levels) (handler : List Frame) (height : ℕ) (high : height ≡ length handler)
    (l l1 : Level) (e : l ≡ slice_index_or levels place l) (q : IsQuiet (with_frames n (λ stack. handler ++ stack)) l l1)
    (news : List Level) (none_told : news ≡ slice_set levels place l1) (l2 : Level) (e2 : l2 ≡ slice_index_or news place l2) where
  read_again : l2 ≡ l1
  read_again = read_set levels place l1 l2 within (subst (λ (ls : List Level). l2 ≡ slice_index_or ls place l2) none_told e2)

  pub room_to_undo : 0 + height ≤ length (frames_in (thread_at l2.threads.list n))
  room_to_undo =
      let room : height + 0 ≤ length (frames_in (thread_at l1.threads.list n)) = room_for n handler l l1 q (there l e) height 0 high (omega arith) in
      subst (λ (j : Level). 0 + height ≤ length (frames_in (thread_at j.threads.list n))) (sym read_again) (omega (arith, room))

  same_layer : (k : Layer) → with_frames n (cut_out 0 height) (with_frames n (λ stack. handler ++ stack) k) ≡ k
  same_layer k =
      frames_twice n (cut_out 0 height) (λ stack. handler ++ stack) k
      ∙ ap (λ (f : List Frame → List Frame). with_frames n f k) (λ i s. uncut_handler handler s height high i)
      ∙ ap (λ (us : List Thread). record k { threads = us }) (edit_same (is_numbered n) k.threads)

  pub undone : (m : Level) → IsQuiet (with_frames n (cut_out 0 height)) l2 m → slice_set news place m ≡ levels
  undone m q2 =
      let p : IsQuiet (with_frames n (cut_out 0 height)) l1 m = subst (λ (j : Level). IsQuiet (with_frames n (cut_out 0 height)) j m) read_again q2 in
      let both : IsQuiet (λ k. with_frames n (cut_out 0 height) (with_frames n (λ stack. handler ++ stack) k)) l m = quiet_twice (with_frames n (λ stack. handler ++ stack)) (with_frames n (cut_out 0 height)) l l1 m q p in
      let same : m ≡ l = quiet_same l m (quiet_as (λ k. with_frames n (cut_out 0 height) (with_frames n (λ stack. handler ++ stack) k)) (λ k. k) l m both (same_layer (shown l))) in
      ap (λ (ls : List Level). slice_set ls place m) none_told ∙ set-set levels place l1 m ∙ unchanged levels place l m e same

-- What was told clashes, and nothing was done
pub clash_shows : (levels : List Level) (value : List Layer) → shown_all levels ≡ value → IsSound levels → (space : List ℕ) (place : ℕ) → PlaceIn levels space place → (ts : List Tell) (news : List Level) → ClashesAt place ts levels news
    → (is_consistent (view value space ++ ts) ≡ false) × (shown_all news ≡ value)
clash_shows levels value viewed s space place h ts news t = (
  ap (λ (ls : List Layer). is_consistent (view ls space ++ ts)) (sym viewed)
      ∙ ap (λ (us : List Tell). is_consistent (us ++ ts)) (sym ((s.fits t.before (place_member levels space place h.0 h.1 t.before t.read)).seen t.kept ∙ ap (view (shown_all levels)) name))
      ∙ t.clash,
  ap shown_all t.left ∙ viewed,
)
  where
    name : t.before.space ≡ space
    name = ap (λ (k : Layer). k.space) (read_shown levels space place h.0 h.1 t.before t.read) ∙ space_of (shown_all levels) space h.0 h.1.found

-- A space that gave something out and then was told
module _ (levels : List Level) (place : ℕ) (within : place < length levels) (given : Given) (l1 g : Level) (r1 : l1 ≡ slice_index_or levels place l1) (e : g ≡ after_giving given l1)
    (ts : List Tell) (seen : List Level) (at : seen ≡ slice_set levels place g) (k : Level) (rk : k ≡ slice_index_or (slice_set levels place g) place k)
    (home : Bool) (homes : home ≡ list_all (λ t. list_all (is_home (shown_all seen) k.space) (named_by t)) ts) (news : List Level) (t : ToldThrough place home ts (slice_set levels place g) news) where
  told_given : t.before ≡ after_giving given l1
  told_given = read_set levels place g t.before within t.read ∙ e

  pub told_at : ToldAt place ts given levels news
  told_at = record {
    before = l1;
    told = t.told;
    home = home;
    read = r1;
    homes = homes
        ∙ ap₂ (λ (ls : List Level) (s : List ℕ). list_all (λ u. list_all (is_home (shown_all ls) s) (named_by u)) ts) (at ∙ ap (slice_set levels place) e)
        (ap (λ (n : Level). n.space) (read_set levels place g k within rk ∙ e));
    tells = subst (λ (n : Level). IsToldMore home ts n t.told) told_given t.tells;
    left = subst (λ (n : Level). IsLeft place n t.told (after_giving_at place given l1 levels) news) told_given (subst (λ (n : Level). IsLeft place t.before t.told (slice_set levels place n) news) e t.left);
  }

-- A space that gives out nothing was told
module _ (levels : List Level) (place : ℕ) (within : place < length levels) (ts : List Tell) (l : Level) (r : l ≡ slice_index_or levels place l)
    (seen : List Level) (at : seen ≡ levels) (home : Bool) (homes : home ≡ list_all (λ t. list_all (is_home (shown_all seen) l.space) (named_by t)) ts) (news : List Level) where
  gave_nothing : (before : Level) → before ≡ slice_index_or levels place before → levels ≡ after_giving_at place Nothing before levels
  gave_nothing before read = sym (ap (slice_set levels place) read ∙ set-get_or levels place before)

  pub told_nothing : {E : Type 0} (answer : Result Bool E) → IfOk answer (IsToldThrough place home ts levels news) → IfOk answer (IsToldAt place ts Nothing levels news)
  told_nothing (Ok true) t = record {
    before = t.before;
    told = t.told;
    home = home;
    read = t.read;
    homes = homes
        ∙ ap₂ (λ (ls : List Level) (s : List ℕ). list_all (λ u. list_all (is_home (shown_all ls) s) (named_by u)) ts) (at ∙ gave_nothing t.before t.read)
        (ap (λ (n : Level). n.space) (r ∙ get_or_default levels place l t.before within ∙ sym t.read));
    tells = t.tells;
    left = subst (λ (ls : List Level). IsLeft place t.before t.told ls news) (gave_nothing t.before t.read) t.left;
  }
  told_nothing (Ok false) t = t
  told_nothing (Err e) t = t

-- What the cells and ports were, where what is given out changes them
abbrev pub IsBefore : Given → Contents → Option Contents → Type 0
IsBefore given objects before = MatchOption before (objects_after given objects ≡ objects) (λ same. same ≡ objects)

set_back_is : (given : Given) (objects : Contents) (before : Option Contents) → IsBefore given objects before → unwrap_or before (objects_after given objects) ≡ objects
set_back_is given objects None h = h
set_back_is given objects (Some same) h = h

-- as many propagators as there were are those
kept_first : (given : Given) (ps : List propagators.Propagator) → take (length ps) (propagators_after given ps) ≡ ps
kept_first Nothing ps = take-length ps
kept_first (Variables n) ps = take-length ps
kept_first Procedure ps = take-length ps
kept_first Name ps = take-length ps
kept_first (Cell content) ps = take-length ps
kept_first (Content n content) ps = take-length ps
kept_first (Port stream) ps = take-length ps
kept_first (End n end) ps = take-length ps
kept_first (Propagator relation variables) ps = take-append_seam ps (record { relation = relation; variables = variables; last = Never } ∷ [])

-- A space that was told nothing after it gave something out, and whose numbers, cells, ports and propagators are set back
module _ (levels : List Level) (place : ℕ) (within : place < length levels) (given : Given) (l0 l1 g : Level) (r0 : l0 ≡ slice_index_or levels place l0) (r1 : l1 ≡ slice_index_or levels place l1)
    (e : g ≡ after_giving given l1) (news : List Level) (same : news ≡ slice_set levels place g) where
  same_level : l1 ≡ l0
  same_level = r1 ∙ get_or_default levels place l1 l0 within ∙ sym r0

  -- what is read there
  pub given_level : (l2 : Level) → l2 ≡ slice_index_or (slice_set levels place g) place l2 → l2 ≡ after_giving given l0
  given_level l2 r2 = read_set levels place g l2 within r2 ∙ e ∙ ap (after_giving given) same_level

  module _ (l3 : Level) (r3 : l3 ≡ slice_index_or news place l3) (before : Option Contents) (b : IsBefore given l1.objects before) (posted : ℕ) (p : posted ≡ length l0.constraints.propagators) (m : Level)
      (back : m ≡ record l3 { numbers = l0.numbers; objects = unwrap_or before l3.objects; constraints = record l3.constraints { propagators = take posted l3.constraints.propagators } }) where
    set_back_level : m ≡ l0
    set_back_level =
        back
        ∙ ap₂ (λ (n : Level) (count : ℕ). record n { numbers = l0.numbers; objects = unwrap_or before n.objects; constraints = record n.constraints { propagators = take count n.constraints.propagators } })
        (given_level l3 (subst (λ (ls : List Level). l3 ≡ slice_index_or ls place l3) same r3)) p
        ∙ ap₂ (λ (o : Contents) (ps : List propagators.Propagator). record l0 { objects = o; constraints = record l0.constraints { propagators = ps } })
        (set_back_is given l0.objects before (subst (λ (n : Level). IsBefore given n.objects before) same_level b)) (kept_first given l0.constraints.propagators)

    pub restored : slice_set news place m ≡ levels
    restored =
        ap (λ (ls : List Level). slice_set ls place m) same
        ∙ set-set levels place g m
        ∙ ap (slice_set levels place) (set_back_level ∙ r0)
        ∙ set-get_or levels place l0

-- the place in what is kept is that in what it is read as
pub place_by : {now levels : List Level} → now ≡ levels → (space : List ℕ) (place : ℕ) → PlaceIn now space place → PlaceIn levels space place
place_by seen space place h = subst (λ (ls : List Level). PlaceIn ls space place) seen h

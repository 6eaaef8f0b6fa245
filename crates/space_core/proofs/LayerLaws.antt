-- What a step makes of a layer, in one edit or in several.
use Rattle.std.proofs.Common.{◌≡◌, ℕ, ◌+◌, arith, List, [], ◌∷◌, ◌++◌, length, take, drop, refl, sym, ap, ap₂, subst, ◌∙◌, Option, Some, unwrap_or}
use Rattle.std.proofs.lemmas.List.{take_at, drop_at, drop-drop}
use Rattle.oz_base.specs.declared.names.Ident.{Ident}
use Rattle.oz_semantics.specs.Configurations.{is_numbered, layer_at, thread_at, frames_in, stack_of, new_layer, in_layer, with_frames, telling, giving_out, spawning, with_content, with_end, adding_trigger}
use Rattle.oz_semantics.specs.Changes.{Pushes, Spawns, GivesOut, Holds, AddsTrigger, changed_all, done}
use Rattle.oz_semantics.specs.Steps.{without_top}
use Rattle.oz_semantics.specs.declared.value.Tell.{Tell}
use Rattle.oz_semantics.specs.declared.configuration.Frame.{Frame}
use Rattle.oz_semantics.specs.declared.configuration.Thread.{Thread}
use Rattle.oz_semantics.specs.declared.configuration.Layer.{Layer}
use Rattle.settle_laws.proofs.ListEdits.{edit_twice, edit_agree}
use Rattle.settle_laws.proofs.EditLaws.{edits_join, edits_agree}
use Rattle.space_core.specs.Levels.{replacing}
use Rattle.space_core.specs.Firing.{delaying}
use Rattle.space_core.specs.Stacks.{cut_out}
use Rattle.space_core.specs.Giving.{giving, declaring, spawning_by, assigning}
use Rattle.space_core.specs.Advances.{given_out, taken_on}
use Rattle.space_core.specs.declared.given.Given.{Given}
use Rattle.space_core.specs.declared.given.Given.TheVariants.{Nothing, Variables, Procedure, Name, Cell, Content, Port, End, Propagator}

-- Stacks

pub frames_twice : (n : ℕ) (f g : List Frame → List Frame) (l : Layer) → with_frames n f (with_frames n g l) ≡ with_frames n (λ s. f (g s)) l
frames_twice n f g l =
    ap (λ (ts : List Thread). record l { threads = ts }) (edit_twice (is_numbered n) (λ (t : Thread). record t { frames = f t.frames }) (λ (t : Thread). record t { frames = g t.frames }) (λ t. refl) l.threads)

pub frames_agree : (n : ℕ) (f g : List Frame → List Frame) (l : Layer) → f (frames_in (thread_at l.threads n)) ≡ g (frames_in (thread_at l.threads n)) → with_frames n f l ≡ with_frames n g l
frames_agree n f g l h =
    ap (λ (ts : List Thread). record l { threads = ts }) (edit_agree (is_numbered n) (λ (t : Thread). record t { frames = f t.frames }) (λ (t : Thread). record t { frames = g t.frames }) l.threads
    (λ t e. ap (λ (fs : List Frame). record t { frames = fs }) (subst (λ (o : Option Thread). f (frames_in o) ≡ g (frames_in o)) e h)))

-- what stands between a handler and what is left is cut out
pub cut_handler : (handler stack : List Frame) (h c : ℕ) → h ≡ length handler → cut_out h c (handler ++ stack) ≡ handler ++ drop c stack
cut_handler handler stack h c e =
    ap₂ (λ (xs ys : List Frame). xs ++ ys) (take_at handler stack h (sym e)) (sym (drop-drop c h (handler ++ stack)) ∙ ap (drop c) (drop_at handler stack h (sym e)))

-- the handler is cut off again
pub uncut_handler : (handler stack : List Frame) (h : ℕ) → h ≡ length handler → cut_out 0 h (handler ++ stack) ≡ stack
uncut_handler handler stack h e =
    let same : 0 + h ≡ h = omega arith in
    ap (λ k. take 0 (handler ++ stack) ++ drop k (handler ++ stack)) same ∙ drop_at handler stack h (sym e)

module _ (id : Ident) (value : List Layer) where
  -- the layer that is there has the thread's stack
  pub own_stack : (l : Layer) → layer_at value id.space ≡ Some l → frames_in (thread_at l.threads id.number) ≡ stack_of value id
  own_stack l e = sym (ap (λ (o : Option Layer). frames_in (thread_at (unwrap_or o (new_layer id.space)).threads id.number)) e)

  pub go_on_is : (fs : List Frame) → in_layer id.space (with_frames id.number (replacing fs)) value ≡ changed_all id (Pushes fs ∷ []) (without_top id value)
  go_on_is fs = sym (
      edits_join id.space (with_frames id.number (λ rest. fs ++ rest)) (with_frames id.number (λ frames. drop 1 frames)) value (λ l. refl)
      ∙ edits_agree id.space (λ l. with_frames id.number (λ rest. fs ++ rest) (with_frames id.number (λ frames. drop 1 frames) l)) (with_frames id.number (replacing fs)) value
      (λ l e. frames_twice id.number (λ rest. fs ++ rest) (λ frames. drop 1 frames) l))

  pub declare_is : (fs : List Frame) (n : ℕ) → in_layer id.space (declaring id.number fs n) value ≡ changed_all id (Pushes fs ∷ GivesOut n ∷ []) (without_top id value)
  declare_is fs n =
      sym (edits_join id.space (giving_out n) (with_frames id.number (replacing fs)) value (λ l. refl))
      ∙ ap (in_layer id.space (giving_out n)) (go_on_is fs)

  pub start_is : (fs : List Frame) → in_layer id.space (spawning_by id.number fs) value ≡ changed_all id (Spawns fs ∷ []) (without_top id value)
  start_is fs = sym (edits_join id.space (spawning fs) (with_frames id.number (λ stack. drop 1 stack)) value (λ l. refl))

  pub assign_is : (n : ℕ) (content : Ident) → in_layer id.space (assigning id.number n content) value ≡ changed_all id (Holds n content ∷ []) (without_top id value)
  assign_is n content = sym (edits_join id.space (with_content n content) (with_frames id.number (λ stack. drop 1 stack)) value (λ l. refl))

  pub delay_is : (procedure variable : Ident) → in_layer id.space (delaying id.number procedure variable) value ≡ changed_all id (AddsTrigger procedure variable ∷ []) (without_top id value)
  delay_is procedure variable = sym (edits_join id.space (adding_trigger procedure variable) (with_frames id.number (λ stack. drop 1 stack)) value (λ l. refl))

  -- what is told beside what is given out, and then the statement is taken off
  abbrev pub told_by : List Tell → Given → List Layer
  told_by ts given = in_layer id.space (with_frames id.number (λ stack. drop 1 stack)) (in_layer id.space (telling ts) (in_layer id.space (giving given) value))

  together : (ts : List Tell) (given : Given) → told_by ts given ≡ in_layer id.space (λ l. with_frames id.number (λ stack. drop 1 stack) (telling ts (giving given l))) value
  together ts given =
      ap (in_layer id.space (with_frames id.number (λ stack. drop 1 stack))) (edits_join id.space (telling ts) (giving given) value (λ l. refl))
      ∙ edits_join id.space (with_frames id.number (λ stack. drop 1 stack)) (λ l. telling ts (giving given l)) value (λ l. refl)

  popped_told : (ts : List Tell) → in_layer id.space (telling ts) (without_top id value) ≡ in_layer id.space (λ l. telling ts (with_frames id.number (λ stack. drop 1 stack) l)) value
  popped_told ts = edits_join id.space (telling ts) (with_frames id.number (λ stack. drop 1 stack)) value (λ l. refl)

  then_given : (ts : List Tell) (change : Layer → Layer)
      → in_layer id.space change (in_layer id.space (telling ts) (without_top id value)) ≡ in_layer id.space (λ l. change (telling ts (with_frames id.number (λ stack. drop 1 stack) l))) value
  then_given ts change =
      ap (in_layer id.space change) (popped_told ts)
      ∙ edits_join id.space change (λ l. telling ts (with_frames id.number (λ stack. drop 1 stack) l)) value (λ l. refl)

  pub told_by_is : (ts : List Tell) (given : Given) → told_by ts given ≡ done id ts (given_out given) (without_top id value)
  told_by_is ts Nothing = together ts Nothing ∙ sym (popped_told ts)
  told_by_is ts (Variables n) = together ts (Variables n) ∙ sym (then_given ts (giving_out n))
  told_by_is ts Procedure = together ts Procedure ∙ sym (then_given ts (giving Procedure))
  told_by_is ts Name = together ts Name ∙ sym (then_given ts (giving Name))
  told_by_is ts (Cell content) = together ts (Cell content) ∙ sym (then_given ts (giving (Cell content)))
  told_by_is ts (Content n content) = together ts (Content n content) ∙ sym (then_given ts (giving (Content n content)))
  told_by_is ts (Port stream) = together ts (Port stream) ∙ sym (then_given ts (giving (Port stream)))
  told_by_is ts (Propagator relation variables) = together ts (Propagator relation variables) ∙ sym (then_given ts (giving (Propagator relation variables)))
  told_by_is ts (End n end) =
      together ts (End n end)
      ∙ sym (edits_join id.space (with_end n end) (giving_out 1) (in_layer id.space (telling ts) (without_top id value)) (λ l. refl) ∙ then_given ts (giving (End n end)))

  -- a handler goes on, the term is told by so many variables, and then what stands below the handler is cut out
  abbrev pub raised_by_parts : List Frame → List Tell → ℕ → ℕ → ℕ → List Layer
  raised_by_parts handler ts n h c =
      in_layer id.space (with_frames id.number (cut_out h c))
      (in_layer id.space (telling ts) (in_layer id.space (giving (Variables n)) (in_layer id.space (with_frames id.number (λ stack. handler ++ stack)) value)))

  module _ (handler : List Frame) (ts : List Tell) (n h c : ℕ) (e : h ≡ length handler) where
    abbrev pushed : Layer → Layer
    pushed = with_frames id.number (λ stack. handler ++ stack)

    abbrev cut_off : Layer → Layer
    cut_off = with_frames id.number (cut_out h c)

    abbrev caught : Layer → Layer
    caught = with_frames id.number (λ rest. handler ++ drop c (stack_of value id))

    parts : raised_by_parts handler ts n h c ≡ in_layer id.space (λ l. cut_off (telling ts (giving (Variables n) (pushed l)))) value
    parts =
        ap (λ (ls : List Layer). in_layer id.space cut_off (in_layer id.space (telling ts) ls)) (edits_join id.space (giving (Variables n)) pushed value (λ l. refl))
        ∙ ap (in_layer id.space cut_off) (edits_join id.space (telling ts) (λ l. giving (Variables n) (pushed l)) value (λ l. refl))
        ∙ edits_join id.space cut_off (λ l. telling ts (giving (Variables n) (pushed l))) value (λ l. refl)

    whole : taken_on id (handler ++ drop c (stack_of value id)) (done id ts (GivesOut n ∷ []) value) ≡ in_layer id.space (λ l. caught (giving_out n (telling ts l))) value
    whole =
        ap (in_layer id.space caught) (edits_join id.space (giving_out n) (telling ts) value (λ l. refl))
        ∙ edits_join id.space caught (λ l. giving_out n (telling ts l)) value (λ l. refl)

    same_here : (l : Layer) → layer_at value id.space ≡ Some l → cut_off (telling ts (giving (Variables n) (pushed l))) ≡ caught (giving_out n (telling ts l))
    same_here l at =
        frames_twice id.number (cut_out h c) (λ stack. handler ++ stack) (giving_out n (telling ts l))
        ∙ frames_agree id.number (λ s. cut_out h c (handler ++ s)) (λ rest. handler ++ drop c (stack_of value id)) (giving_out n (telling ts l))
        (cut_handler handler (frames_in (thread_at l.threads id.number)) h c e ∙ ap (λ (s : List Frame). handler ++ drop c s) (own_stack l at))

    pub raised_is : raised_by_parts handler ts n h c ≡ taken_on id (handler ++ drop c (stack_of value id)) (done id ts (GivesOut n ∷ []) value)
    raised_is =
        parts
        ∙ edits_agree id.space (λ l. cut_off (telling ts (giving (Variables n) (pushed l)))) (λ l. caught (giving_out n (telling ts l))) value same_here
        ∙ sym whole

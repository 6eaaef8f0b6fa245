-- That a step of a thread comes to the same where a space is alone.
use Rattle.std.proofs.Common.{◌≡◌, ℕ, ◌+◌, Bool, true, false, if◌then◌else◌, List, [], ◌∷◌, ◌++◌, drop, refl, sym, ap, ap₂, ◌∙◌, Option, Some, None}
use Rattle.oz_base.specs.declared.names.Ident.{Ident}
use Rattle.oz_language.specs.declared.kernel.Kernel.{Kernel}
use Rattle.oz_semantics.specs.Names.{is_below, is_top, named}
use Rattle.oz_semantics.specs.Store.{View, is_consistent}
use Rattle.oz_semantics.specs.Configurations.{view, in_layer, with_frames, without_terminated, ending, telling, frames_in, thread_at, stack_of, layer_of}
use Rattle.oz_semantics.specs.Spaces.{states_of, answer_in}
use Rattle.oz_semantics.specs.Answers.{Edit, Answer, Acts, Edits, RaisesKind, RaisesTerm, Operates, Widens, Rests}
use Rattle.oz_semantics.specs.Changes.{changed_all}
use Rattle.oz_semantics.specs.Effects.{Effect, Makes, Tells, ShowsText, act_effect}
use Rattle.oz_semantics.specs.Exceptions.{raise_term, with_term, unwound}
use Rattle.oz_semantics.specs.Texts.{term_text}
use Rattle.oz_semantics.specs.Settling.{Turned, term_variable, with_raised, settled, top_ended, without_inconsistent}
use Rattle.oz_semantics.specs.Steps.{went_on, ended_by, uncaught, raised_to, raised, raised_kind, told, shown_by, after_effect, edit_tells, edited, after_edit, after_answer, without_top, stepped}
use Rattle.oz_semantics.specs.declared.configuration.Frame.{Frame}
use Rattle.oz_semantics.specs.declared.configuration.Layer.{Layer}
use Rattle.oz_semantics.specs.declared.configuration.Configuration.{Configuration}
use Rattle.oz_semantics.specs.declared.value.Tell.{Tell}
use Rattle.oz_semantics.specs.declared.outcome.RaiseKind.{RaiseKind}
use Rattle.oz_semantics.specs.declared.outcome.RaiseKind.TheVariants.{FailureTell}
use Rattle.view_laws.specs.Needs.{NoneNeeded}
use Rattle.view_laws.specs.Steps.{IsSound}
use Rattle.view_laws.proofs.NameLaws.{below_itself}
use Rattle.alone_laws.specs.Alone.{alone_layers, alone}
use Rattle.alone_laws.proofs.OrderLaws.{is_sorted, sorted_changed}
use Rattle.alone_laws.proofs.OutsideLaws.{Stay, end_stays}
use Rattle.alone_laws.proofs.WaitLaws.{live_at}
use Rattle.alone_laws.proofs.RestLaws.{top_not_below}
use Rattle.alone_laws.proofs.StepLaws.{EditIsOf, AnswerIsOf, step_is_of, edited_stays, ended_space, edit_stays, changes_stay}
use Rattle.alone_laws.proofs.AloneLaws.{own_layer_of, own_view}
use Rattle.alone_laws.proofs.AloneStates.{states_same, answer_same}
use Rattle.alone_laws.proofs.AloneParts.{own_mover}
use Rattle.alone_laws.proofs.AloneRest.{end_alone, settled_alone}
use Rattle.alone_laws.proofs.AloneEdits.{own_edit, edited_alone, tells_alone, changes_alone}

module _ (k : Kernel) (s : List ℕ) (id : Ident) (inner : is_below s id.space ≡ true) (child : is_top s ≡ false)
    (before : List Layer) (sound : IsSound before) (quiet : NoneNeeded k.statements before) (there : live_at before id.space ≡ true) where
  abbrev u : List ℕ
  u = id.space

  abbrev Part : List Layer → List Layer
  Part layers = alone_layers s layers

  -- what a turn is where the space is alone
  abbrev pub AloneIs : Turned → Turned → Type 0
  AloneIs part turned = ◌≡◌ {A = Turned} part (turned.0, alone s turned.1)

  abbrev Kept : List Layer → Type 0
  Kept layers = Stay u before layers

  keeps : (f : Layer → Layer) (layers : List Layer) → ((l : Layer) → (f l).space ≡ l.space) → Kept layers → Kept (in_layer u f layers)
  keeps f layers h n = edit_stays k id before sound quiet there f layers h n

  mover_own : own_mover s (Some id) ≡ Some id
  mover_own = ap (λ (b : Bool). if b then Some id else None) inner

  settled_with : (cost : ℕ) (c : Configuration) (part layers : List Layer) → Kept layers → part ≡ Part layers
      → AloneIs (settled k.statements (Some id) cost (record (alone s c) { layers = part })) (settled k.statements (Some id) cost (record c { layers = layers }))
  settled_with cost c part layers n e =
      ap (λ (ls : List Layer). settled k.statements (Some id) cost (record (alone s c) { layers = ls })) e
      ∙ ap (λ (m : Option Ident). settled k.statements m cost (record (alone s c) { layers = Part layers })) (sym mover_own)
      ∙ settled_alone k.statements s u inner before sound quiet there child (Some id) cost (record c { layers = layers }) n

  edit_part : (f : Layer → Layer) → ((l : Layer) → (f l).space ≡ l.space) → (part layers : List Layer) → part ≡ Part layers → in_layer u f part ≡ Part (in_layer u f layers)
  edit_part f h part layers e = ap (in_layer u f) e ∙ sym (own_edit s u inner f h layers)

  went_alone : (cost : ℕ) (part layers : List Layer) (c : Configuration) → Kept layers → part ≡ Part layers → AloneIs (went_on k.statements id cost part (alone s c)) (went_on k.statements id cost layers c)
  went_alone cost part layers c n e =
      settled_with cost c (in_layer u without_terminated part) (in_layer u without_terminated layers) (keeps without_terminated layers (λ l. refl) n) (edit_part without_terminated (λ l. refl) part layers e)

  view_part : (part layers : List Layer) → part ≡ Part layers → view part u ≡ view layers u
  view_part part layers e = ap (λ ls. view ls u) e ∙ own_view s u inner layers

  layer_part : (part layers : List Layer) → part ≡ Part layers → layer_of part u ≡ layer_of layers u
  layer_part part layers e = ap (λ ls. layer_of ls u) e ∙ own_layer_of s u inner layers

  stack_part : (part layers : List Layer) → part ≡ Part layers → stack_of part id ≡ stack_of layers id
  stack_part part layers e = ap (λ (l : Layer). frames_in (thread_at l.threads id.number)) (layer_part part layers e)

  -- Exceptions

  below_top : is_top u ≡ false
  below_top = top_not_below s u child inner

  -- where no mark takes it
  uncaught_by : (x : Ident) (layers : List Layer) (c : Configuration) → ◌≡◌ {A = Turned} (uncaught k.statements id x layers c) (settled k.statements (Some id) 1 (record c { layers = ending u (ended_by (view layers u) x) layers }))
  uncaught_by x layers c =
      ap
      (λ (b : Bool).
      if b
      then top_ended 1 x (without_inconsistent (in_layer u (λ l. without_terminated (with_frames id.number (λ frames. []) l)) layers)) c
      else settled k.statements (Some id) 1 (record c { layers = ending u (ended_by (view layers u) x) layers }))
      below_top

  uncaught_alone : (x : Ident) (part layers : List Layer) (c : Configuration) → Kept layers → part ≡ Part layers → AloneIs (uncaught k.statements id x part (alone s c)) (uncaught k.statements id x layers c)
  uncaught_alone x part layers c n e =
      let how : Layer → Layer = ended_by (view layers u) x in
      let named_same : (l : Layer) → (how l).space ≡ l.space = ended_space (view layers u) x in
      let after : ending u (ended_by (view part u) x) part ≡ Part (ending u how layers) =
      ap₂ (λ (v : View) (ls : List Layer). ending u (ended_by v x) ls) (view_part part layers e) e ∙ sym (end_alone k.statements s u inner u how layers inner named_same) in
      uncaught_by x part (alone s c)
      ∙ settled_with 1 c (ending u (ended_by (view part u) x) part) (ending u how layers) (end_stays u u how layers (below_itself u) named_same ∙ n) after
      ∙ ap (λ (w : Turned). (w.0, alone s w.1)) (sym (uncaught_by x layers c))

  raised_to_alone : (x : Ident) (o : Option (List Frame)) (part layers : List Layer) (c : Configuration) → Kept layers → part ≡ Part layers
      → AloneIs (raised_to k.statements id x o part (alone s c)) (raised_to k.statements id x o layers c)
  raised_to_alone x None part layers c n e = uncaught_alone x part layers c n e
  raised_to_alone x (Some frames) part layers c n e =
      went_alone 1 (in_layer u (with_frames id.number (λ rest. frames)) part) (in_layer u (with_frames id.number (λ rest. frames)) layers) c (keeps (with_frames id.number (λ rest. frames)) layers (λ l. refl) n)
      (edit_part (with_frames id.number (λ rest. frames)) (λ l. refl) part layers e)

  raised_alone : (x : Ident) (part layers : List Layer) (c : Configuration) → Kept layers → part ≡ Part layers → AloneIs (raised k.statements id x part (alone s c)) (raised k.statements id x layers c)
  raised_alone x part layers c n e =
      ap (λ frames. raised_to k.statements id x (unwound x frames) part (alone s c)) (stack_part part layers e) ∙ raised_to_alone x (unwound x (stack_of layers id)) part layers c n e

  raised_kind_alone : (kind : RaiseKind) (part layers : List Layer) (c : Configuration) → Kept layers → part ≡ Part layers → AloneIs (raised_kind k.statements id kind part (alone s c)) (raised_kind k.statements id kind layers c)
  raised_kind_alone kind part layers c n e =
      ap (λ (l : Layer). raised k.statements id (named u l.next.variable) (with_raised kind u part) (alone s c)) (layer_part part layers e)
      ∙ raised_alone (term_variable layers u) (with_raised kind u part) (with_raised kind u layers) c (keeps (with_term (raise_term kind)) layers (λ l. refl) n) (edit_part (with_term (raise_term kind)) (λ l. refl) part layers e)

  -- Acts and edits

  told_alone : (ts : List Tell) (change : List Layer → List Layer) (part layers : List Layer) (c : Configuration) → Kept layers → part ≡ Part layers
      → (Kept (in_layer u (telling ts) layers) → Kept (change (in_layer u (telling ts) layers))) → Part (change (in_layer u (telling ts) layers)) ≡ change (Part (in_layer u (telling ts) layers))
      → AloneIs (told k.statements id ts change part (alone s c)) (told k.statements id ts change layers c)
  told_alone ts change part layers c n e stays alike =
      ap (λ (v : View). told_with (is_consistent (v ++ ts)) part (alone s c)) (view_part part layers e) ∙ by (is_consistent (view layers u ++ ts))
    where
      told_with : Bool → List Layer → Configuration → Turned
      told_with b ls d = if b then went_on k.statements id 1 (change (in_layer u (telling ts) ls)) d else raised_kind k.statements id FailureTell ls d

      by : (b : Bool) → AloneIs (told_with b part (alone s c)) (told_with b layers c)
      by true =
          went_alone 1 (change (in_layer u (telling ts) part)) (change (in_layer u (telling ts) layers)) c (stays (keeps (telling ts) layers (λ l. refl) n))
          (ap change (edit_part (telling ts) (λ l. refl) part layers e) ∙ sym alike)
      by false = raised_kind_alone FailureTell part layers c n e

  effect_alone : (part layers : List Layer) (c : Configuration) (effect : Effect) → Kept layers → part ≡ Part layers → AloneIs (after_effect k id part (alone s c) effect) (after_effect k id layers c effect)
  effect_alone part layers c (Makes changes) n e =
      went_alone 1 (changed_all id changes part) (changed_all id changes layers) c (changes_stay k id before sound quiet there changes layers n)
      (ap (changed_all id changes) e ∙ sym (changes_alone s id inner changes layers))
  effect_alone part layers c (Tells ts changes) n e =
      told_alone ts (changed_all id changes) part layers c n e (changes_stay k id before sound quiet there changes (in_layer u (telling ts) layers)) (changes_alone s id inner changes (in_layer u (telling ts) layers))
  effect_alone part layers c (ShowsText x) n e =
      ap (λ (v : View). shown_by k.statements id (term_text k.words v x) part (alone s c)) (view_part part layers e)
      ∙ went_alone (1 + (term_text k.words (view layers u) x).nodes) part layers (record c { shown = c.shown ++ (term_text k.words (view layers u) x).bytes ∷ [] }) n e

  edit_alone : (edit : Edit) (part layers : List Layer) (c : Configuration) → EditIsOf u edit → is_sorted layers ≡ true → Kept layers → part ≡ Part layers
      → AloneIs (after_edit k.statements id edit part (alone s c)) (after_edit k.statements id edit layers c)
  edit_alone edit part layers c own o n e =
      let ts : List Tell = edit_tells layers (layer_of layers u) edit in
      let same : edit_tells part (layer_of part u) edit ≡ ts = ap (λ ls. edit_tells ls (layer_of ls u) edit) e ∙ tells_alone s u inner edit layers own in
      ap (λ us. told k.statements id us (edited k.statements u edit) part (alone s c)) same
      ∙ told_alone ts (edited k.statements u edit) part layers c n e (λ m. edited_stays k.statements u edit (in_layer u (telling ts) layers) own ∙ m)
      (edited_alone s u inner k.statements edit (in_layer u (telling ts) layers) own (sorted_changed u (telling ts) (λ l. refl) layers ∙ o))

  answer_alone : (part layers : List Layer) (c : Configuration) (a : Answer) → AnswerIsOf u a → is_sorted layers ≡ true → Kept layers → Kept c.layers → part ≡ Part layers
      → AloneIs (after_answer k id part (alone s c) a) (after_answer k id layers c a)
  answer_alone part layers c (Acts act) own o n m e =
      ap (λ (l : Layer). after_effect k id part (alone s c) (act_effect l act)) (layer_part part layers e) ∙ effect_alone part layers c (act_effect (layer_of layers u) act) n e
  answer_alone part layers c (Edits edit) own o n m e = edit_alone edit part layers c own o n e
  answer_alone part layers c (RaisesKind kind) own o n m e = raised_kind_alone kind part layers c n e
  answer_alone part layers c (RaisesTerm x) own o n m e = raised_alone x part layers c n e
  answer_alone part layers c (Operates op space x) own o n m e = settled_with 1 c (Part c.layers) c.layers m refl
  answer_alone part layers c (Widens ts) own o n m e = told_alone ts (λ ls. ls) (Part c.layers) c.layers c m refl (λ h. h) refl
  answer_alone part layers c (Rests ready) own o n m e = settled_with 1 c (Part c.layers) c.layers m refl

  -- what its statement answers
  same_answer : (layers : List Layer)
      → answer_in k.statements (Part layers) (states_of k.statements (Part layers)) u (stack_of (Part layers) id) ≡ answer_in k.statements layers (states_of k.statements layers) u (stack_of layers id)
  same_answer layers =
      ap (answer_in k.statements (Part layers) (states_of k.statements (Part layers)) u) (stack_part (Part layers) layers refl)
      ∙ answer_same k.statements s layers (states_of k.statements (Part layers)) (states_of k.statements layers) (states_same k.statements s layers) u inner (stack_of layers id)

  pub stepped_alone : (c : Configuration) → is_sorted c.layers ≡ true → Kept c.layers → AloneIs (stepped k id (alone s c)) (stepped k id c)
  stepped_alone c o n =
      let popped : Layer → Layer = with_frames id.number (λ frames. drop 1 frames) in
      let a : Answer = answer_in k.statements c.layers (states_of k.statements c.layers) u (stack_of c.layers id) in
      ap (after_answer k id (without_top id (Part c.layers)) (alone s c)) (same_answer c.layers)
      ∙ answer_alone (without_top id (Part c.layers)) (without_top id c.layers) c a (step_is_of k.statements c.layers id) (sorted_changed u popped (λ l. refl) c.layers ∙ o)
      (keeps popped c.layers (λ l. refl) n) n (edit_part popped (λ l. refl) (Part c.layers) c.layers refl)

-- A step of a thread (the computation step of CTM 2.4, 2.7 and 4.1), with what follows it. The layers are those without the statement
-- that it takes off its stack.
use Rattle.std.specs.Prelude.{ℕ, ◌+◌, if◌then◌else◌, List, [], ◌∷◌, ◌++◌, Option, Some, None, drop}
use Rattle.oz_base.specs.declared.names.Ident.{Ident}
use Rattle.oz_language.specs.declared.kernel.Statement.{Statement}
use Rattle.oz_language.specs.declared.kernel.Kernel.{Kernel}
use Rattle.oz_semantics.specs.Names.{is_top}
use Rattle.oz_semantics.specs.Store.{View, is_consistent}
use Rattle.oz_semantics.specs.Configurations.{layer_of, stack_of, view, in_layer, with_frames, without_terminated, telling, next_child, ending, failed, raised_by}
use Rattle.oz_semantics.specs.Answers.{Edit, Creates, Commits, Copies, Injects, TakesIn, Answer, Acts, Edits, RaisesKind, RaisesTerm, Operates, Widens, Rests}
use Rattle.oz_semantics.specs.Spaces.{states_of, answer_in}
use Rattle.oz_semantics.specs.Edits.{created, committed, copied, injected, merge_tells, taken_in}
use Rattle.oz_semantics.specs.Changes.{changed_all}
use Rattle.oz_semantics.specs.Effects.{Effect, Makes, Tells, ShowsText, act_effect}
use Rattle.oz_semantics.specs.Exceptions.{is_failure, unwound}
use Rattle.oz_semantics.specs.Texts.{Printed, term_text}
use Rattle.oz_semantics.specs.Settling.{Turned, settled, term_variable, with_raised, top_ended, without_inconsistent}
use Rattle.oz_semantics.specs.declared.value.Value.TheVariants as value
use Rattle.oz_semantics.specs.declared.value.Tell.{Tell}
use Rattle.oz_semantics.specs.declared.value.Tell.TheVariants.{Is}
use Rattle.oz_semantics.specs.declared.configuration.Frame.{Frame}
use Rattle.oz_semantics.specs.declared.configuration.Layer.{Layer}
use Rattle.oz_semantics.specs.declared.configuration.Configuration.{Configuration}
use Rattle.oz_semantics.specs.declared.outcome.RaiseKind.{RaiseKind}
use Rattle.oz_semantics.specs.declared.outcome.RaiseKind.TheVariants.{FailureTell}

-- the thread goes on, or is terminated where nothing is left on its stack
abbrev pub went_on : List Statement → Ident → ℕ → List Layer → Configuration → Turned
went_on statements id cost layers c = settled statements (Some id) cost (record c { layers = in_layer id.space without_terminated layers })

-- Exceptions

-- one that is a failure fails a space, and any other ends it as raised
abbrev pub ended_by : View → Ident → Layer → Layer
ended_by view x l = if is_failure view x then failed l else raised_by x l

-- one that no mark takes ends the run, where spaces that see what is inconsistent fail besides, or the child space
abbrev pub uncaught : List Statement → Ident → Ident → List Layer → Configuration → Turned
uncaught statements id x layers c =
    if is_top id.space
    then top_ended 1 x (without_inconsistent (in_layer id.space (λ l. without_terminated (with_frames id.number (λ frames. []) l)) layers)) c
    else settled statements (Some id) 1 (record c { layers = ending id.space (ended_by (view layers id.space) x) layers })

abbrev pub raised_to : List Statement → Ident → Ident → Option (List Frame) → List Layer → Configuration → Turned
raised_to statements id x None layers c = uncaught statements id x layers c
raised_to statements id x (Some frames) layers c = went_on statements id 1 (in_layer id.space (with_frames id.number (λ rest. frames)) layers) c

-- the exception x goes to the nearest mark
abbrev pub raised : List Statement → Ident → Ident → List Layer → Configuration → Turned
raised statements id x layers c = raised_to statements id x (unwound x (stack_of layers id)) layers c

-- an exception of the machine is a new term of the space
abbrev pub raised_kind : List Statement → Ident → RaiseKind → List Layer → Configuration → Turned
raised_kind statements id kind layers c = raised statements id (term_variable layers id.space) (with_raised kind id.space layers) c

-- Effects

-- the space is told this, and then the layers change; where that clashes with what the space sees, nothing of it is done
abbrev pub told : List Statement → Ident → List Tell → (List Layer → List Layer) → List Layer → Configuration → Turned
told statements id ts change layers c =
    if is_consistent (view layers id.space ++ ts) then went_on statements id 1 (change (in_layer id.space (telling ts) layers)) c
    else raised_kind statements id FailureTell layers c

-- a term that is shown costs a step for each of its nodes besides
abbrev pub shown_by : List Statement → Ident → Printed → List Layer → Configuration → Turned
shown_by statements id printed layers c = went_on statements id (1 + printed.nodes) layers (record c { shown = c.shown ++ printed.bytes ∷ [] })

abbrev pub after_effect : Kernel → Ident → List Layer → Configuration → Effect → Turned
after_effect k id layers c (Makes changes) = went_on k.statements id 1 (changed_all id changes layers) c
after_effect k id layers c (Tells ts changes) = told k.statements id ts (changed_all id changes) layers c
after_effect k id layers c (ShowsText x) = shown_by k.statements id (term_text k.words (view layers id.space) x) layers c

-- Edits of the spaces in the thread's own

-- what the thread's space is told with it, by the thread's own layer
abbrev pub edit_tells : List Layer → Layer → Edit → List Tell
edit_tells layers l (Creates procedure x) = Is x (value.Space (next_child l)) ∷ []
edit_tells layers l (Commits space i) = []
edit_tells layers l (Copies space x) = Is x (value.Space (next_child l)) ∷ []
edit_tells layers l (Injects space procedure) = []
edit_tells layers l (TakesIn space x) = merge_tells (layer_of layers space) l x

abbrev pub edited : List Statement → List ℕ → Edit → List Layer → List Layer
edited statements parent (Creates procedure x) layers = created parent procedure layers
edited statements parent (Commits space i) layers = committed statements space i layers
edited statements parent (Copies space x) layers = copied parent space layers
edited statements parent (Injects space procedure) layers = injected space procedure layers
edited statements parent (TakesIn space x) layers = taken_in parent space layers

abbrev pub after_edit : List Statement → Ident → Edit → List Layer → Configuration → Turned
after_edit statements id edit layers c =
    told statements id (edit_tells layers (layer_of layers id.space) edit) (edited statements id.space edit) layers c

-- by the answer of the statement that it took off; one that can't step yet is not taken off
abbrev pub after_answer : Kernel → Ident → List Layer → Configuration → Answer → Turned
after_answer k id layers c (Acts act) = after_effect k id layers c (act_effect (layer_of layers id.space) act)
after_answer k id layers c (Edits edit) = after_edit k.statements id edit layers c
after_answer k id layers c (RaisesKind kind) = raised_kind k.statements id kind layers c
after_answer k id layers c (RaisesTerm x) = raised k.statements id x layers c
after_answer k id layers c (Operates op space x) = settled k.statements (Some id) 1 c
-- the statement is not taken off
after_answer k id layers c (Widens ts) = told k.statements id ts (λ ls. ls) c.layers c
after_answer k id layers c (Rests ready) = settled k.statements (Some id) 1 c

-- the layers without the statement on top of the thread's stack
abbrev pub without_top : Ident → List Layer → List Layer
without_top id layers = in_layer id.space (with_frames id.number (λ frames. drop 1 frames)) layers

abbrev pub stepped : Kernel → Ident → Configuration → Turned
stepped k id c =
    after_answer k id (without_top id c.layers) c
    (answer_in k.statements c.layers (states_of k.statements c.layers) id.space (stack_of c.layers id))

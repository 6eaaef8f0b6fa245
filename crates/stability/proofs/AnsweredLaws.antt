-- What a thread answers, by what is on top of its stack and by the states that are known.
use Rattle.std.proofs.Common.{◌≡◌, ℕ, ◌-◌, Bool, true, false, List, [], ◌∷◌, length, Option, Some, None, refl, sym, ap, subst, ◌∙◌}
use Rattle.std.specs.Prelude.{slice_get}
use Rattle.oz_base.specs.Lists.{first}
use Rattle.oz_base.specs.declared.names.Ident.{Ident}
use Rattle.oz_language.specs.declared.kernel.Statement.{Statement}
use Rattle.oz_semantics.specs.Store.{View}
use Rattle.oz_semantics.specs.Configurations.{view}
use Rattle.oz_semantics.specs.Sights.{Sight, States, state_in, Waits}
use Rattle.oz_semantics.specs.Answers as answers
use Rattle.oz_semantics.specs.Operations.{operated, with_state, by_state}
use Rattle.oz_semantics.specs.Readiness.{answer_ready}
use Rattle.oz_semantics.specs.Statements.{code_answer, stack_answer}
use Rattle.oz_semantics.specs.Spaces.{sight, answer_in, ready_in}
use Rattle.oz_semantics.specs.declared.value.SpaceOperation.{SpaceOperation}
use Rattle.oz_semantics.specs.declared.configuration.Frame.{Frame}
use Rattle.oz_semantics.specs.declared.configuration.Thread.{Thread}
use Rattle.oz_semantics.specs.declared.configuration.Layer.{Layer}
use Rattle.oz_semantics.specs.declared.outcome.State.{State}
use Rattle.view_laws.specs.Spaceless.{plain_ready}
use Rattle.builtins.specs.Answers.{IsAnswer, IsReady}
use Rattle.builtins.specs.declared.answer.Answer.{Answer}
use Rattle.builtins.specs.declared.answer.Answer.TheVariants as said
use Rattle.builtins.specs.declared.answer.Readiness.{Readiness}
use Rattle.operations.specs.Outcomes.{IsOutcome, seeing}
use Rattle.operations.specs.declared.outcome.Outcome.TheVariants.{Answers}
use Rattle.stability.specs.Known.{known, KnownAt, waits_for_state}
use Rattle.stability.proofs.PlaceLaws.{item_at}
use Rattle.stability.proofs.ReadyLaws.{known_alone}

-- The stack

pub top_answer : (s : Sight) (frames : List Frame) (frame : Frame) → first frames ≡ Some frame → stack_answer s frames ≡ code_answer s frame.environment frame.code
top_answer s [] frame e = cc
top_answer s (f ∷ frames) frame e = ap (λ (g : Frame). code_answer s g.environment g.code) (same f frame e)
  where
    same : (f frame : Frame) → Some f ≡ Some frame → f ≡ frame
    same f frame e = cc

none_rests : (s : Sight) (frames : List Frame) → first frames ≡ None → stack_answer s frames ≡ answers.Rests (Waits [])
none_rests s [] e = refl
none_rests s (f ∷ frames) e = cc

pub none_answers : (statements : List Statement) (layers : List Layer) (states : States) (space : List ℕ) (frames : List Frame) → first frames ≡ None
    → IsOutcome (answer_in statements layers states space frames) (Answers said.Rests)
none_answers statements layers states space [] e = (Waits [], refl)
none_answers statements layers states space (f ∷ frames) e = cc

-- An operation

-- by the state of the space that is known
pub operation_known : (statements : List Statement) (layers : List Layer) (sts : List State) (space child : List ℕ) (op : SpaceOperation) (x : Ident) (st : State) (own inner : View)
    → state_in (known layers sts) child ≡ Some st → own ≡ view layers space → inner ≡ view layers child
    → operated (seeing statements space own) inner op child x st ≡ by_state layers (sight statements layers space) (known layers sts) (answers.Operates op child x)
operation_known statements layers sts space child op x st own inner e o i =
    ap (λ (v : View). operated (seeing statements space v) inner op child x st) o
    ∙ ap (λ (v : View). operated (sight statements layers space) v op child x st) i
    ∙ ap (λ (s : Option State). with_state s (operated (sight statements layers space) (view layers child) op child x)) (sym e)

-- the state that is read there
pub state_read : (layers : List Layer) (sts : List State) (child : List ℕ) (place : ℕ) (o : Option State) (st : State) → KnownAt layers sts child place
    → o ≡ slice_get sts (place - (length layers - length sts)) → o ≡ Some st → state_in (known layers sts) child ≡ Some st
state_read layers sts child place o st h read is = h.state ∙ sym read ∙ is

-- what the space sees whose store is read there
pub seen_there : (layers : List Layer) (sts : List State) (child : List ℕ) (place : ℕ) (inner : View) → KnownAt layers sts child place
    → ((l : Layer) → slice_get layers place ≡ Some l → inner ≡ view layers l.space) → inner ≡ view layers child
seen_there layers sts child place inner h sees =
    let item = item_at layers place h.within in
    sees item.0 item.1 ∙ ap (view layers) (h.named item.0 item.1)

-- Where it is no operation

abbrev pub is_operation : Answer → Bool
is_operation (said.Operates op space x) = true
is_operation (said.Acts act) = false
is_operation (said.Edits edit) = false
is_operation (said.RaisesKind kind) = false
is_operation (said.RaisesTerm x) = false
is_operation (said.Widens ts) = false
is_operation said.Rests = false

pub no_operation : (layers : List Layer) (s : Sight) (states : States) (defined : answers.Answer) (a : Answer) → IsAnswer defined a → is_operation a ≡ false → by_state layers s states defined ≡ defined
no_operation layers s states (answers.Operates op space x) (said.Operates op' space' x') h e = cc
no_operation layers s states (answers.Operates op space x) (said.Acts act) h e = cc
no_operation layers s states (answers.Operates op space x) (said.Edits edit) h e = cc
no_operation layers s states (answers.Operates op space x) (said.RaisesKind kind) h e = cc
no_operation layers s states (answers.Operates op space x) (said.RaisesTerm y) h e = cc
no_operation layers s states (answers.Operates op space x) (said.Widens ts) h e = cc
no_operation layers s states (answers.Operates op space x) said.Rests (ready, h) e = cc
no_operation layers s states (answers.Acts act) a h e = refl
no_operation layers s states (answers.Edits edit) a h e = refl
no_operation layers s states (answers.RaisesKind kind) a h e = refl
no_operation layers s states (answers.RaisesTerm x) a h e = refl
no_operation layers s states (answers.Widens ts) a h e = refl
no_operation layers s states (answers.Rests ready) a h e = refl

module _ (statements : List Statement) (layers : List Layer) (states : States) (space : List ℕ) (t : Thread) (r : Readiness) where
  abbrev own : Sight
  own = sight statements layers space

  -- what is known to be the same by any states
  pub alone_ready : by_state layers own states (stack_answer own t.frames) ≡ stack_answer own t.frames → IsReady (view layers space) (plain_ready own t) r
      → IsReady (view layers space) (ready_in statements layers states space t) r
  alone_ready e h = subst (λ (a : answers.Answer). IsReady (view layers space) (answer_ready a) r) (sym e) h

  pub unwaiting_ready : waits_for_state (plain_ready own t) ≡ false → IsReady (view layers space) (plain_ready own t) r → IsReady (view layers space) (ready_in statements layers states space t) r
  unwaiting_ready e h = alone_ready (known_alone layers own states (stack_answer own t.frames) e) h

  pub none_ready : first t.frames ≡ None → IsReady (view layers space) (plain_ready own t) r → IsReady (view layers space) (ready_in statements layers states space t) r
  none_ready e h =
      alone_ready (ap (by_state layers own states) (none_rests own t.frames e) ∙ sym (none_rests own t.frames e)) h

  pub top_alone : (frame : Frame) (a : Answer) → first t.frames ≡ Some frame → IsAnswer (code_answer own frame.environment frame.code) a → is_operation a ≡ false
      → IsReady (view layers space) (plain_ready own t) r → IsReady (view layers space) (ready_in statements layers states space t) r
  top_alone frame a e is other h =
      let top = top_answer own t.frames frame e in
      alone_ready (ap (by_state layers own states) top ∙ no_operation layers own states (code_answer own frame.environment frame.code) a is other ∙ sym top) h

  pub top_operates : (frame : Frame) (op : SpaceOperation) (child : List ℕ) (x : Ident) → first t.frames ≡ Some frame → code_answer own frame.environment frame.code ≡ answers.Operates op child x
      → IsReady (view layers space) (answer_ready (by_state layers own states (answers.Operates op child x))) r → IsReady (view layers space) (ready_in statements layers states space t) r
  top_operates frame op child x e is h =
      subst (λ (a : answers.Answer). IsReady (view layers space) (answer_ready (by_state layers own states a)) r) (sym (top_answer own t.frames frame e ∙ is)) h

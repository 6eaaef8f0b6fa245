-- What a thread goes by where a layer changes.
use Rattle.std.proofs.Common.{◌≡◌, ℕ, List, map, if◌then◌else◌, [], refl, sym, ap, subst, ◌∙◌, Option, Some, None}
use Rattle.oz_base.specs.declared.names.Ident.{Ident}
use Rattle.oz_language.specs.declared.kernel.Statement.{Statement}
use Rattle.oz_semantics.specs.Store.{View}
use Rattle.oz_semantics.specs.Configurations.{is_open, view, in_layer}
use Rattle.oz_semantics.specs.Sights.{Sight, States, state_in, Readiness}
use Rattle.oz_semantics.specs.Answers.{Answer, Acts, Edits, RaisesKind, RaisesTerm, Operates, Widens, Rests}
use Rattle.oz_semantics.specs.Operations.{operated, with_state, by_state}
use Rattle.oz_semantics.specs.Statements.{stack_answer}
use Rattle.oz_semantics.specs.Readiness.{answer_ready}
use Rattle.oz_semantics.specs.Spaces.{ready_in}
use Rattle.oz_semantics.specs.declared.value.SpaceOperation.{SpaceOperation}
use Rattle.oz_semantics.specs.declared.value.SpaceOperation.TheVariants as operation
use Rattle.oz_semantics.specs.declared.configuration.Thread.{Thread}
use Rattle.oz_semantics.specs.declared.configuration.Layer.{Layer}
use Rattle.oz_semantics.specs.declared.outcome.State.{State}
use Rattle.oz_semantics.specs.declared.outcome.State.TheVariants as states
use Rattle.view_laws.specs.Readies.{seeing, GoByTheSame, ChangeReady, QuietReady}
use Rattle.view_laws.proofs.SightLaws.{change_unseen, quiet_unseen}

-- What a space sees is told in a term alone: no thread goes by it

asked_same : (s : Sight) (one other : View) (space : List ℕ) (x : Ident) (st : State) → answer_ready (operated s one operation.Ask space x st) ≡ answer_ready (operated s other operation.Ask space x st)
asked_same s one other space x states.Running = refl
asked_same s one other space x states.Suspended = refl
asked_same s one other space x states.Failed = refl
asked_same s one other space x (states.Raised y) = refl
asked_same s one other space x states.Merged = refl
asked_same s one other space x (states.Alternatives n) = refl
asked_same s one other space x states.Solved = refl
asked_same s one other space x states.Stuck = refl

operated_same : (s : Sight) (one other : View) (op : SpaceOperation) (space : List ℕ) (x : Ident) (st : State) → answer_ready (operated s one op space x st) ≡ answer_ready (operated s other op space x st)
operated_same s one other operation.Ask space x st = asked_same s one other space x st
operated_same s one other operation.Commit space x st = refl
operated_same s one other operation.Clone space x st = refl
operated_same s one other operation.Inject space x st = refl
operated_same s one other operation.Merge space x st = refl

by_state_same : (before after : List Layer) (s : Sight) (known : States) (a : Answer) → answer_ready (by_state after s known a) ≡ answer_ready (by_state before s known a)
by_state_same before after s known (Operates op space x) = by (state_in known space)
  where
    by : (o : Option State) → answer_ready (with_state o (operated s (view after space) op space x)) ≡ answer_ready (with_state o (operated s (view before space) op space x))
    by None = refl
    by (Some st) = operated_same s (view after space) (view before space) op space x st
by_state_same before after s known (Acts act) = refl
by_state_same before after s known (Edits edit) = refl
by_state_same before after s known (RaisesKind kind) = refl
by_state_same before after s known (RaisesTerm x) = refl
by_state_same before after s known (Widens ts) = refl
by_state_same before after s known (Rests ready) = refl

same_ready : (statements : List Statement) (before after : List Layer) (space : List ℕ) (known : States) (t : Thread) → view after space ≡ view before space
    → ready_in statements after known space t ≡ ready_in statements before known space t
same_ready statements before after space known t e =
    ap (λ (v : View). answer_ready (by_state after (seeing statements space v) known (stack_answer (seeing statements space v) t.frames))) e
    ∙ by_state_same before after (seeing statements space (view before space)) known (stack_answer (seeing statements space (view before space)) t.frames)

pub same_seen : (statements : List Statement) (before after : List Layer) (space : List ℕ) → view after space ≡ view before space → GoByTheSame statements before after space
same_seen statements before after space e = record {
  threads = λ known t. same_ready statements before after space known t e;
  layers = λ known l own.
      let seen : view after l.space ≡ view before l.space = subst (λ s. view after s ≡ view before s) (sym own) e in
      let each : ◌≡◌ {A = Thread → Readiness} (ready_in statements after known l.space) (ready_in statements before known l.space) = λ i t. same_ready statements before after l.space known t seen i in
      ap (λ (f : Thread → Readiness). if is_open l.status then map f l.threads else []) each;
}

pub change_ready : ChangeReady
change_ready statements change layers space other keeps apart = same_seen statements layers (in_layer space change layers) other (change_unseen change layers space other keeps apart)

pub quiet_ready : QuietReady
quiet_ready statements change layers space other keeps quiet = same_seen statements layers (in_layer space change layers) other (quiet_unseen change layers space other keeps quiet)

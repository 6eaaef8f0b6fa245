-- What a thread answers, and turns within a fuel.
use Rattle.std.proofs.Common.{◌≡◌, ◌∙◌, ◌<◌, ◌≤◌, ℕ, Bool, true, false, List, [], ◌∷◌, drop, Option, Some, None, refl, sym, ap, subst, arith}
use Rattle.std.specs.Prelude.{Result, Ok, Err, IfOk, if◌then◌else◌}
use Rattle.std.specs.declared.alloc.AllocError.{AllocError}
use Rattle.oz_base.specs.Lists.{first}
use Rattle.oz_semantics.specs.Sights.{Sight, States, Readiness, can_step}
use Rattle.oz_semantics.specs.Operations.{by_state}
use Rattle.oz_semantics.specs.Readiness.{answer_ready}
use Rattle.oz_semantics.specs.Answers as answers
use Rattle.oz_semantics.specs.Statements.{code_answer, stack_answer}
use Rattle.oz_semantics.specs.Names.{is_top}
use Rattle.oz_semantics.specs.Propagation.{Run, Fails, Narrows, run_of, after_run}
use Rattle.oz_semantics.specs.Settling.{Turned, top_is_inconsistent, top_failed, failing, settled, requeued, without_inconsistent}
use Rattle.oz_semantics.specs.Triggers.{triggered}
use Rattle.oz_semantics.specs.declared.configuration.Frame.{Frame}
use Rattle.oz_semantics.specs.declared.configuration.Configuration.{Configuration}
use Rattle.oz_semantics.specs.declared.outcome.Stepped.{Stepped}
use Rattle.builtins.specs.Answers.{IsAnswer}
use Rattle.operations.specs.Outcomes.{IsOutcome}
use Rattle.operations.specs.declared.outcome.Outcome.{Outcome}
use Rattle.builtins.specs.declared.answer.Answer.{Answer}
use Rattle.builtins.specs.declared.answer.Answer.TheVariants.{Acts, Edits, RaisesKind, RaisesTerm, Operates, Widens, Rests}
use Rattle.oz_base.specs.declared.names.Ident.{Ident}
use Rattle.oz_language.specs.declared.kernel.Kernel.{Kernel}
use Rattle.oz_language.specs.declared.kernel.Statement.{Statement}
use Rattle.oz_semantics.specs.Schedule.{least_due, after_run_of, turn_of_queue, turn_of, turn}
use Rattle.oz_semantics.specs.Steps.{stepped}
use Rattle.oz_semantics.specs.declared.outcome.Stepped.TheVariants.{Moved, Quiescent}
use Rattle.oz_semantics.specs.declared.configuration.Propagator.{Propagator}
use Rattle.settle_laws.proofs.TurnLaws.{cost_law}
use Rattle.oz_machine.specs.declared.course.Due.TheVariants.{Nobody}
use Rattle.oz_machine.specs.declared.course.Course.{Course}
use Rattle.oz_machine.specs.Courses.{config_of, stepping}
use Rattle.oz_semantics.specs.Configurations.{in_layer, stack_of, view}
use Rattle.oz_semantics.specs.Spaces.{sight, states_of, answer_in}
use Rattle.oz_semantics.specs.declared.configuration.Layer.{Layer}
use Rattle.oz_machine.specs.Quiet.{able_in, operates, waits}
use Rattle.oz_machine.specs.Turns.{cost_of, IsTurn}
use Rattle.oz_machine.proofs.DoingLaws.{course_view, headed}
use Rattle.oz_machine.proofs.RestLaws.{rest_stays}

-- a thread without statements rests
pub empty_rests : (s : Sight) (frames : List Frame) → None ≡ first frames → (r : Readiness) × (stack_answer s frames ≡ answers.Rests r)
empty_rests s [] e = (_, refl)
empty_rests s (frame ∷ frames) e = absurd (cc)

-- and one with statements answers what the first of them does
pub top_answers : (s : Sight) (frames : List Frame) (frame : Frame) → Some frame ≡ first frames → stack_answer s frames ≡ code_answer s frame.environment frame.code
top_answers s [] frame e = absurd (cc)
top_answers s (other ∷ frames) frame e = let same : other ≡ frame = cc in subst (λ (f : Frame). code_answer s other.environment other.code ≡ code_answer s f.environment f.code) same refl

pub ok_answer : (r : Result Answer AllocError) (a b : answers.Answer) → a ≡ b → IfOk r (IsAnswer b) → IfOk r (IsAnswer a)
ok_answer (Ok answer) a b e h = subst (λ (x : answers.Answer). IsAnswer x answer) (sym e) h
ok_answer (Err fault) a b e h = h

-- by states as good as those of all spaces
pub ok_outcome : (r : Result Outcome AllocError) (statements : List Statement) (layers : List Layer) (one : States) (l : Layer) (space : List ℕ) (frames : List Frame) (top : Option Frame)
    → IfOk r (λ o. (fs : List Frame) → first fs ≡ top → IsOutcome (answer_in statements layers one l.space fs) o) → l.space ≡ space → first frames ≡ top
    → answer_in statements layers one space frames ≡ answer_in statements layers (states_of statements layers) space frames
    → IfOk r (IsOutcome (answer_in statements layers (states_of statements layers) space frames))
ok_outcome (Ok o) statements layers one l space frames top h name is same =
    subst (λ (a : answers.Answer). IsOutcome a o) (ap (λ (s : List ℕ). answer_in statements layers one s frames) name ∙ same) (h frames is)
ok_outcome (Err fault) statements layers one l space frames top h name is same = h

-- The head of the queue, where nobody is due

pub head_is : (statements : List Statement) (now : Course) (id : Ident) → now.due ≡ Nobody → first now.queue ≡ Some id
    → config_of statements now ≡ record { layers = now.levels; queue = id ∷ drop 1 now.queue; shown = now.shown }
head_is statements now id nobody head = course_view statements now now.levels Nobody (id ∷ drop 1 now.queue) now.shown refl nobody (headed now.queue id head) refl

pub turn_is : (k : Kernel) (now : Course) (id : Ident) → now.due ≡ Nobody → least_due now.levels ≡ None → first now.queue ≡ Some id → turn k (config_of k.statements now) ≡ stepped k id (stepping now)
turn_is k now id nobody none head =
    let c : Configuration = record { layers = now.levels; queue = id ∷ drop 1 now.queue; shown = now.shown } in
    ap (turn k) (head_is k.statements now id nobody head) ∙ ap (turn_of k c) none

pub turn_none : (k : Kernel) (now : Course) → now.due ≡ Nobody → least_due now.levels ≡ None → first now.queue ≡ None
    → ◌≡◌ {A = Turned} (turn k (config_of k.statements now)) (Quiescent, config_of k.statements now)
turn_none k now nobody least none =
    ap (turn k) still ∙ ap (turn_of k (record { layers = now.levels; queue = []; shown = now.shown })) least ∙ ap (λ (d : Configuration). (Quiescent, d)) (sym still)
  where
    empty : (queue : List Ident) → first queue ≡ None → queue ≡ []
    empty [] e = refl
    empty (x ∷ xs) e = absurd (cc)

    still : config_of k.statements now ≡ record { layers = now.levels; queue = []; shown = now.shown }
    still = course_view k.statements now now.levels Nobody [] now.shown refl nobody (empty now.queue none) refl

pub dear_turn : (k : Kernel) (now : Course) (id : Ident) (fuel : ℕ) → now.due ≡ Nobody → least_due now.levels ≡ None → first now.queue ≡ Some id → fuel ≡ 0
    → fuel < cost_of (turn k (config_of k.statements now)).0
dear_turn k now id fuel nobody none head zero =
    let costs : 1 ≤ cost_of (stepped k id (stepping now)).0 = cost_law k id (stepping now) in
    let dear : 1 ≤ cost_of (turn k (config_of k.statements now)).0 = subst (λ (t : Turned). 1 ≤ cost_of t.0) (sym (turn_is k now id nobody none head)) costs in
    omega (arith, dear, zero)

-- A turn that does nothing leaves the machine as it was

settled_dear : (statements : List Statement) (mover : Option Ident) (c : Configuration) → 1 ≤ cost_of (settled statements mover 1 c).0
settled_dear statements mover c = by (top_is_inconsistent c.layers)
  where
    by : (b : Bool) → 1 ≤ cost_of (if b then top_failed 1 c else (Moved 1, requeued statements mover c (triggered statements (without_inconsistent c.layers)))).0
    by true = omega arith
    by false = omega arith

-- the run of a propagator costs 1
pub run_dear : (statements : List Statement) (l : Layer) (p : Propagator) (c : Configuration) (run : Run) → 1 ≤ cost_of (after_run_of statements l p c run).0
run_dear statements l p c Fails = by (is_top l.space)
  where
    by : (b : Bool) → 1 ≤ cost_of (if b then top_failed 1 c else settled statements None 1 (record c { layers = failing c.layers l.space })).0
    by true = omega arith
    by false = settled_dear statements None (record c { layers = failing c.layers l.space })
run_dear statements l p c (Narrows ts) = settled_dear statements None (record c { layers = in_layer l.space (after_run (view c.layers l.space) p ts) c.layers })

pub quiet_turn : (k : Kernel) (c d : Configuration) → ◌≡◌ {A = Turned} (turn k c) (Quiescent, d) → d ≡ c
quiet_turn k c d e = by (least_due c.layers) e
  where
    no_cost : 1 ≤ 0 → ⊥
    no_cost h = omega (arith, h)

    by_queue : (queue : List Ident) → ◌≡◌ {A = Turned} (turn_of_queue k c queue) (Quiescent, d) → d ≡ c
    by_queue [] q = sym (ap (λ (t : Turned). t.1) q)
    by_queue (id ∷ queue) q = absurd (no_cost (subst (λ (t : Turned). 1 ≤ cost_of t.0) q (cost_law k id (record c { queue = queue }))))

    by : (o : Option (Layer × Propagator)) → ◌≡◌ {A = Turned} (turn_of k c o) (Quiescent, d) → d ≡ c
    by None q = by_queue c.queue q
    by (Some due) q = absurd (no_cost (subst (λ (t : Turned). 1 ≤ cost_of t.0) q (run_dear k.statements due.0 due.1 c (run_of (view c.layers due.0.space) due.1))))

-- by a course that is the same
pub ok_turned : (r : Result (Option Stepped) AllocError) (t u : Turned) (fuel : ℕ) (old new : Configuration) → t ≡ u → IfOk r (IsTurn u fuel old new) → IfOk r (IsTurn t fuel old new)
ok_turned r t u fuel old new e h = subst (λ (x : Turned). IfOk r (IsTurn x fuel old new)) (sym e) h

-- What a made answer tells

-- whether a thread can step
pub answer_steps : (a : answers.Answer) (answer : Answer) → IsAnswer a answer → waits answer ≡ false → can_step (answer_ready a) ≡ true
answer_steps a (Acts what) h other = ap (λ (b : answers.Answer). can_step (answer_ready b)) h
answer_steps a (RaisesKind kind) h other = ap (λ (b : answers.Answer). can_step (answer_ready b)) h
answer_steps a (RaisesTerm x) h other = ap (λ (b : answers.Answer). can_step (answer_ready b)) h
answer_steps a (Widens ts) h other = ap (λ (b : answers.Answer). can_step (answer_ready b)) h
answer_steps a (Edits edit) h other = ap (λ (b : answers.Answer). can_step (answer_ready b)) h
answer_steps a (Operates op space x) h other = absurd (cc)
answer_steps a Rests h other = absurd (cc)

-- by an answer that waits, none can step
waiting_stays : (s : Sight) (frames : List Frame) (answer : Answer) → IsAnswer (stack_answer s frames) answer → waits answer ≡ true → can_step (answer_ready (stack_answer s frames)) ≡ false
waiting_stays s frames Rests h e = rest_stays s frames h.0 h.1
waiting_stays s frames (Operates op space x) h e = ap (λ (b : answers.Answer). can_step (answer_ready b)) h
waiting_stays s frames (Acts act) h e = absurd (cc)
waiting_stays s frames (Edits edit) h e = absurd (cc)
waiting_stays s frames (RaisesKind kind) h e = absurd (cc)
waiting_stays s frames (RaisesTerm x) h e = absurd (cc)
waiting_stays s frames (Widens ts) h e = absurd (cc)

-- by any but an operation, the states of spaces are of no use
pub unresolved : (layers : List Layer) (s : Sight) (states : States) (a : answers.Answer) (answer : Answer) → IsAnswer a answer → operates answer ≡ false → by_state layers s states a ≡ a
unresolved layers s states a (Acts act) h e = ap (by_state layers s states) h ∙ sym h
unresolved layers s states a (Edits edit) h e = ap (by_state layers s states) h ∙ sym h
unresolved layers s states a (RaisesKind kind) h e = ap (by_state layers s states) h ∙ sym h
unresolved layers s states a (RaisesTerm x) h e = ap (by_state layers s states) h ∙ sym h
unresolved layers s states a (Widens ts) h e = ap (by_state layers s states) h ∙ sym h
unresolved layers s states a (Operates op space x) h e = absurd (cc)
unresolved layers s states a Rests h e = ap (by_state layers s states) h.1 ∙ sym h.1

-- so the step goes by it
pub answered_so : (k : Kernel) (id : Ident) (layers : List Layer) (answer : Answer) → IsAnswer (stack_answer (sight k.statements layers id.space) (stack_of layers id)) answer → operates answer ≡ false
    → IsAnswer (answer_in k.statements layers (states_of k.statements layers) id.space (stack_of layers id)) answer
answered_so k id layers answer h e =
    subst (λ (a : answers.Answer). IsAnswer a answer) (sym (unresolved layers (sight k.statements layers id.space) (states_of k.statements layers) (stack_answer (sight k.statements layers id.space) (stack_of layers id)) answer h e)) h

-- which joins
pub alone_joins : (statements : List Statement) (layers : List Layer) (id : Ident) (answer : Answer) → IsAnswer (stack_answer (sight statements layers id.space) (stack_of layers id)) answer → waits answer ≡ false
    → id ∷ [] ≡ able_in statements layers id
alone_joins statements layers id answer h other = sym (ap (λ (b : Bool). if b then id ∷ [] else []) (answer_steps (stack_answer (sight statements layers id.space) (stack_of layers id)) answer h other))

-- and where it rests, nothing joins
pub resting_joins : (statements : List Statement) (layers : List Layer) (id : Ident) (answer : Answer) → IsAnswer (stack_answer (sight statements layers id.space) (stack_of layers id)) answer → waits answer ≡ true
    → [] ≡ able_in statements layers id
resting_joins statements layers id answer h e =
    sym (ap (λ (b : Bool). if b then id ∷ [] else []) (waiting_stays (sight statements layers id.space) (stack_of layers id) answer h e))

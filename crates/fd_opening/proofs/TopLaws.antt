-- The run of a top whose one statement makes a procedure.
use Rattle.std.proofs.Common.{◌≡◌, ℕ, zero, suc, ◌+◌, ◌-◌, nat_le, Bool, true, false, not, ◌||◌, if◌then◌else◌, List, [], ◌∷◌, ◌++◌, map, Option, Some, slice_get, refl, sym, ◌∙◌, ap, arith}
use Rattle.std.proofs.lemmas.Bool.Decides.{nat_tests}
use Rattle.std.proofs.lemmas.List.{append-nil}
use Rattle.std.specs.List.{fold}
use Rattle.environments.specs.Environments.{Environment, bound}
use Rattle.oz_base.specs.declared.names.Ident.{Ident}
use Rattle.oz_language.specs.declared.kernel.Identifier.{Identifier}
use Rattle.oz_language.specs.declared.kernel.Statement.{Statement}
use Rattle.oz_language.specs.declared.kernel.Statement.TheVariants.{BindProcedure}
use Rattle.oz_language.specs.declared.kernel.Kernel.{Kernel}
use Rattle.oz_semantics.specs.Names.{named}
use Rattle.oz_semantics.specs.Store.{is_consistent}
use Rattle.oz_semantics.specs.Configurations.{view}
use Rattle.oz_semantics.specs.Sights.{States, can_step}
use Rattle.oz_semantics.specs.Answers.{Answer, Acts, MakesProcedure}
use Rattle.oz_semantics.specs.Statements.{numbered_answer}
use Rattle.oz_semantics.specs.Readiness.{answer_ready}
use Rattle.oz_semantics.specs.Operations.{by_state}
use Rattle.oz_semantics.specs.Spaces.{sight, states_of, answer_in, ready_in, goes_on}
use Rattle.oz_semantics.specs.Steps.{went_on, raised_kind, after_answer}
use Rattle.oz_semantics.specs.Settling.{Turned, settled, top_is_inconsistent, inconsistent_spaces, failing, without_inconsistent, runnable, requeued, queue_after, top_failed}
use Rattle.oz_semantics.specs.Triggers.{triggered}
use Rattle.oz_semantics.specs.Schedule.{turn}
use Rattle.oz_semantics.specs.Runs.{Ended, Over, after_turn, run_for, run}
use Rattle.oz_semantics.specs.declared.value.Value.{Value}
use Rattle.oz_semantics.specs.declared.value.Value.TheVariants as value
use Rattle.oz_semantics.specs.declared.value.Tell.{Tell}
use Rattle.oz_semantics.specs.declared.value.Tell.TheVariants.{Is}
use Rattle.oz_semantics.specs.declared.configuration.Code.TheVariants as codes
use Rattle.oz_semantics.specs.declared.configuration.Frame.{Frame}
use Rattle.oz_semantics.specs.declared.configuration.Status.TheVariants as status
use Rattle.oz_semantics.specs.declared.configuration.Next.{Next}
use Rattle.oz_semantics.specs.declared.configuration.Thread.{Thread}
use Rattle.oz_semantics.specs.declared.configuration.Layer.{Layer}
use Rattle.oz_semantics.specs.declared.configuration.Configuration.{Configuration}
use Rattle.oz_semantics.specs.declared.outcome.RaiseKind.TheVariants.{FailureTell}
use Rattle.oz_semantics.specs.declared.outcome.Stepped.TheVariants.{Moved}
use Rattle.view_laws.proofs.NeedLaws.{nothing_fires}

-- the top with these tells and threads, and nothing else
abbrev pub top_with : List Tell → List Thread → Next → Layer
top_with ts threads n =
    record { space = []; status = status.Open; tells = ts; threads = threads; triggers = []; propagators = []; cells = []; ports = []; next = n }

abbrev pub alone : List Tell → List Thread → Next → List Ident → Configuration
alone ts threads n queue = record { layers = top_with ts threads n ∷ []; queue = queue; shown = [] }

-- its first thread
abbrev pub top_thread : Ident
top_thread = named [] 1

-- ---- what follows a step

module _ (statements : List Statement) (ts : List Tell) (threads : List Thread) (n : Next) (fits : is_consistent ts ≡ true) where
  abbrev layers : List Layer
  layers = top_with ts threads n ∷ []

  sees : view layers [] ≡ ts
  sees = append-nil ts

  stays : top_is_inconsistent layers ≡ false
  stays = ap (λ v. not (is_consistent v) || false) sees ∙ ap (λ b. not b || false) fits

  none_fails : inconsistent_spaces layers ≡ []
  none_fails = by (is_consistent (view layers [])) (ap is_consistent sees ∙ fits) where
    by : (a : Bool) → a ≡ true → map (λ (l : Layer). l.space) (if not a then top_with ts threads n ∷ [] else []) ≡ []
    by true d = refl
    by false d = cc

  same : triggered statements (without_inconsistent layers) ≡ layers
  same = ap (λ ss. triggered statements (fold failing layers ss)) none_fails ∙ nothing_fires statements layers refl

  pub settled_alone : (mover : Option Ident) (cost : ℕ) (queue : List Ident) → settled statements mover cost (alone ts threads n queue) ≡ (Moved cost, alone ts threads n (queue_after (runnable statements layers) mover queue))
  settled_alone mover cost queue =
      ap (λ b. if b then top_failed cost c else (Moved cost, requeued statements mover c (triggered statements (without_inconsistent layers)))) stays
      ∙ ap (λ (ls : List Layer). moved_to (requeued statements mover c ls)) same where
        c : Configuration
        c = alone ts threads n queue

        moved_to : Configuration → Turned
        moved_to d = (Moved cost, d)

-- ---- a thread that makes a procedure

module _ (k : Kernel) (ts : List Tell) (e : Environment) (number : ℕ) (x : Identifier) (ps : List Identifier) (body : List ℕ) (here : slice_get k.statements number ≡ Some (BindProcedure x ps body)) (variable thread procedures name child : ℕ) where
  abbrev next : Next
  next = record { variable = variable; thread = thread; procedure = procedures; name = name; child = child }

  abbrev after : Next
  after = record { variable = variable; thread = thread; procedure = procedures + 1; name = name; child = child }

  abbrev frame : Frame
  frame = record { code = codes.Statement number; environment = e }

  abbrev threads : List Thread
  threads = record { number = 1; frames = frame ∷ [] } ∷ []

  abbrev made : Value
  made = value.Procedure (record { name = named [] procedures; parameters = ps; body = body; environment = e })

  abbrev before_layers : List Layer
  before_layers = top_with ts threads next ∷ []

  abbrev act : Answer
  act = Acts (MakesProcedure (bound e x) ps body e)

  answer_is : (states : States) → answer_in k.statements before_layers states [] (frame ∷ []) ≡ act
  answer_is states = ap (λ o. by_state before_layers (sight k.statements before_layers []) states (numbered_answer (sight k.statements before_layers []) e o)) here

  able : (states : States) → can_step (ready_in k.statements before_layers states [] (record { number = 1; frames = frame ∷ [] })) ≡ true
  able states = ap (λ a. can_step (answer_ready a)) (answer_is states)

  pub can_run : runnable k.statements before_layers ≡ top_thread ∷ []
  can_run = ap (λ b. map (λ (u : Thread). named [] u.number) (if b then record { number = 1; frames = frame ∷ [] } ∷ [] else []) ++ []) (able (states_of k.statements before_layers))

  pub runs_on : goes_on k.statements before_layers [] ≡ true
  runs_on = ap (λ b. ((b || false) || false) || false) (able (states_of k.statements before_layers))

  -- what is told then, and what is left
  abbrev told_more : List Tell
  told_more = ts ++ Is (bound e x) made ∷ []

  abbrev emptied : List Layer
  emptied = top_with ts (record { number = 1; frames = [] } ∷ []) next ∷ []

  module _ (fits : is_consistent told_more ≡ true) where
    fits_here : is_consistent (view emptied [] ++ Is (bound e x) made ∷ []) ≡ true
    fits_here = ap (λ v. is_consistent (v ++ Is (bound e x) made ∷ [])) (append-nil ts) ∙ fits

    pub turn_is : turn k (alone ts threads next (top_thread ∷ [])) ≡ (Moved 1, alone told_more [] after [])
    turn_is =
        ap (after_answer k top_thread emptied c) (answer_is (states_of k.statements before_layers))
        ∙ ap (λ b. if b then went_on k.statements top_thread 1 (top_with told_more (record { number = 1; frames = [] } ∷ []) after ∷ []) c else raised_kind k.statements top_thread FailureTell emptied c) fits_here
        ∙ settled_alone k.statements told_more [] after fits (Some top_thread) 1 [] where
          c : Configuration
          c = alone ts threads next []

-- ---- a run

-- nothing of a top without threads can step
pub rests_alone : (statements : List Statement) (ts : List Tell) (n : Next) → goes_on statements (top_with ts [] n ∷ []) [] ≡ false
rests_alone statements ts n = refl

pays_one : (b : ℕ) → nat_le 1 (suc b) ≡ true
pays_one b = grind (arith, nat_tests)

-- a run of one turn ends with one step less
pub turn_ends : (k : Kernel) (c d : Configuration) (b : ℕ) → goes_on k.statements c.layers [] ≡ true → ◌≡◌ {A = Turned} (turn k c) (Moved 1, d) → goes_on k.statements d.layers [] ≡ false → run k [] c (suc b) ≡ Ended d (suc b - 1)
unfolding run_for
turn_ends k c d b g t r =
    ap (λ a. if a then after_turn (run_for k [] (suc b)) (suc b) c (turn k c) else Ended c (suc b)) g
    ∙ ap (after_turn (run_for k [] (suc b)) (suc b) c) t
    ∙ ap (λ a. if a then run_for k [] (suc b) d (suc b - 1) else Over c) (pays_one b)
    ∙ ap (λ a. if a then after_turn (run_for k [] b) (suc b - 1) d (turn k d) else Ended d (suc b - 1)) r

-- so a run that ended has ended there
pub one_turn : (k : Kernel) (c d : Configuration) (budget left : ℕ) (end : Configuration) → goes_on k.statements c.layers [] ≡ true → ◌≡◌ {A = Turned} (turn k c) (Moved 1, d) → goes_on k.statements d.layers [] ≡ false
    → run k [] c budget ≡ Ended end left → d ≡ end
unfolding run_for
one_turn k c d zero left end g t r e =
    let over : run k [] c 0 ≡ Over c = ap (λ b. if b then after_turn (run_for k [] 0) 0 c (turn k c) else Ended c 0) g ∙ ap (after_turn (run_for k [] 0) 0 c) t in
    absurd (never c end left (sym over ∙ e)) where
      never : (c end : Configuration) (left : ℕ) → Over c ≡ Ended end left → ⊥
      never c end left f = cc
one_turn k c d (suc b) left end g t r e =
    same_end d end (suc b - 1) left (sym (turn_ends k c d b g t r) ∙ e) where
      same_end : (d end : Configuration) (i j : ℕ) → Ended d i ≡ Ended end j → d ≡ end
      same_end d end i j f = cc

-- Steps that told nothing, and the queue after them.
use Rattle.std.specs.Prelude.{ℕ, ◌≡◌, ◌⊎◌, Bool, true, false, ◌&&◌, if◌then◌else◌, List, [], ◌∷◌, Option, Some, None, is_some, map, drop, position}
use Rattle.std.specs.List.{list_any, list_all}
use Rattle.oz_base.specs.Lists.{first}
use Rattle.oz_base.specs.declared.names.Ident.{Ident}
use Rattle.oz_language.specs.declared.kernel.Identifier.{Identifier}
use Rattle.oz_language.specs.declared.kernel.Statement.{Statement}
use Rattle.oz_semantics.specs.Names.{named}
use Rattle.oz_semantics.specs.Configurations.{is_of, is_numbered, layer_at, layer_of, stack_of}
use Rattle.oz_semantics.specs.Sights.{Sight, can_step}
use Rattle.oz_semantics.specs.Answers as answers
use Rattle.oz_semantics.specs.Statements.{code_answer, stack_answer}
use Rattle.oz_semantics.specs.Readiness.{answer_ready}
use Rattle.oz_semantics.specs.Spaces.{sight}
use Rattle.oz_semantics.specs.Changes.{Change}
use Rattle.oz_semantics.specs.declared.configuration.Code.TheVariants as codes
use Rattle.oz_semantics.specs.declared.configuration.Frame.{Frame}
use Rattle.oz_semantics.specs.declared.configuration.Thread.{Thread}
use Rattle.oz_semantics.specs.declared.configuration.Layer.{Layer}
use Rattle.builtins.specs.Answers.{act_of, IsAnswer}
use Rattle.builtins.specs.declared.answer.Answer.{Answer}
use Rattle.builtins.specs.declared.answer.Answer.TheVariants.{Acts, Edits, RaisesKind, RaisesTerm, Operates, Widens, Rests}
use Rattle.view_laws.specs.Spaceless.{has_spaces}
use Rattle.view_laws.specs.Steps.{spawned_from}
use Rattle.need_laws.specs.Needs.{has_triggers}
use Rattle.space_core.specs.Telling.{has_below}
use Rattle.unneeded_laws.specs.Unneeded.{is_waiting}
use Rattle.turn_laws.specs.Kept.{IsKept}
use Rattle.oz_acts.specs.Doings.{is_shown}
use Rattle.oz_machine.specs.declared.course.Course.{Course}
use Rattle.oz_machine.specs.declared.head.Head.{Head}
use Rattle.oz_machine.specs.declared.head.Head.TheVariants.{Unknown, Declares, Answers}

-- whether the statement on top of a thread's stack can step
abbrev pub top_steps : List Statement → List Layer → Ident → Bool
top_steps statements layers id = can_step (answer_ready (stack_answer (sight statements layers id.space) (stack_of layers id)))

-- the thread, if it can step
abbrev pub able_in : List Statement → List Layer → Ident → List Ident
able_in statements layers id = if top_steps statements layers id then id ∷ [] else []

-- the thread that was started, if one was, and it can step
abbrev pub able_of : List Statement → List Layer → Option Ident → List Ident
able_of statements layers None = []
able_of statements layers (Some id) = able_in statements layers id

-- the thread was the head of the queue, when all held that holds from turn to turn
abbrev pub IsHead : List Statement → Ident → List Layer → List Ident → List (List ℕ) → Type 0
IsHead statements id layers queue shown = IsKept statements (record { layers = layers; queue = id ∷ queue; shown = shown })

-- the thread that steps is the head of the queue, where this is known
abbrev pub KeepsHead : List Statement → Ident → Bool → Course → Type 0
KeepsHead statements id kept c = kept ≡ true → IsHead statements id c.levels (drop 1 c.queue) c.shown

-- whatever is seen, a statement on a stack answers that it declares these for the body
abbrev pub AnswersDeclaration : List Statement → Frame → List Identifier → List ℕ → Type 0
AnswersDeclaration statements frame names body =
    (s : Sight) → s.statements ≡ statements → code_answer s frame.environment frame.code ≡ answers.Acts (answers.Declares frame.environment names body)

-- the statement on top of a stack does
pub record IsDeclaration (statements : List Statement) (stack : List Frame) (names : List Identifier) (body : List ℕ) : Type 0 where
  pub frame : Frame
  pub top : Some frame ≡ first stack
  pub answers : AnswersDeclaration statements frame names body

-- a statement on a stack is the one with this number
abbrev pub IsNumbered : Frame → ℕ → Type 0
IsNumbered frame number = frame.code ≡ codes.Statement number

-- and a declaration
pub record IsDeclaring (statements : List Statement) (frame : Frame) (number : ℕ) : Type 0 where
  pub numbered : IsNumbered frame number
  pub names : List Identifier
  pub body : List ℕ
  pub answers : AnswersDeclaration statements frame names body

-- the one with this number is on top of a stack
pub record Stands (stack : List Frame) (number : ℕ) : Type 0 where
  pub frame : Frame
  pub top : Some frame ≡ first stack
  pub numbered : IsNumbered frame number

-- what was found of the thread at the head is so: which statement is on top of its stack, or what that answers; its space is there, at this place
abbrev pub IsHeadAnswer : List Statement → List Layer → List Ident → Head → Type 0
IsHeadAnswer statements layers queue Unknown = Unit {0}
IsHeadAnswer statements layers queue (Declares number) =
    (id : Ident) → first queue ≡ Some id → (is_some (layer_at layers id.space) ≡ true) × Stands (stack_of layers id) number
IsHeadAnswer statements layers queue (Answers place answer) =
    (id : Ident) → first queue ≡ Some id → (Some place ≡ position (is_of id.space) layers) × IsAnswer (stack_answer (sight statements layers id.space) (stack_of layers id)) answer

-- no space is a value, and where a by-need computation has not begun none of these threads waits for a variable
pub record AreSpaceless (statements : List Statement) (layers : List Layer) (ids : List Ident) : Type 0 where
  pub spaces : has_spaces layers ≡ false
  pub waits : has_triggers layers ≡ true → list_any (is_waiting statements layers) ids ≡ false

-- each of these threads can step, and what is given out in their space, if something is, no space below can know of
pub record AreAwake (statements : List Statement) (layers : List Layer) (space : List ℕ) (gives : Bool) (ids : List Ident) : Type 0 where
  pub below : (gives && has_below layers space) ≡ false
  pub able : list_all (top_steps statements layers) ids ≡ true

-- by either the thread that stepped in a space and told nothing, and the one that it started, leave all others and all by-need computations as they are
abbrev pub LeavesOthers : List Statement → List Layer → List ℕ → Bool → List Ident → Type 0
LeavesOthers statements layers space gives ids = AreSpaceless statements layers ids ⊎ AreAwake statements layers space gives ids

-- no by-need computation of the thread's space has not begun, and the thread can step
pub record IsAwakeAlone (statements : List Statement) (layers : List Layer) (id : Ident) : Type 0 where
  pub triggers : (layer_of layers id.space).triggers ≡ []
  pub able : top_steps statements layers id ≡ true

-- no space is a value, and each by-need computation has begun
pub record IsPlain (layers : List Layer) : Type 0 where
  pub spaces : has_spaces layers ≡ false
  pub triggers : has_triggers layers ≡ false

-- by either the thread that stepped and told its space something, with none below, lets no other thread step and no by-need computation begin: it is alone in its space
pub record LetsNoneStep (statements : List Statement) (layers : List Layer) (id : Ident) : Type 0 where
  pub single : list_all (is_numbered id.number) (layer_of layers id.space).threads ≡ true
  pub rest : IsPlain layers ⊎ IsAwakeAlone statements layers id

-- an act that gives out variables and tells nothing
abbrev pub gives_out : answers.Act → Bool
gives_out (answers.Declares environment names body) = true
gives_out (answers.Delays procedure x) = false
gives_out answers.Passes = false
gives_out (answers.GoesOn frames) = false
gives_out (answers.Starts frames) = false
gives_out (answers.GivesValue x v) = false
gives_out (answers.GivesTerm x t) = false
gives_out (answers.GivesVariable x y) = false
gives_out (answers.MakesProcedure x parameters body environment) = false
gives_out (answers.MakesName x) = false
gives_out (answers.MakesCell x content) = false
gives_out (answers.Reads n x) = false
gives_out (answers.Writes n content) = false
gives_out (answers.Exchanges n x content) = false
gives_out (answers.MakesPort x stream) = false
gives_out (answers.Sends n item) = false
gives_out (answers.Confines ts) = false
gives_out (answers.Posts ts relation xs) = false
gives_out (answers.Shows x) = false

-- an act that adds a by-need computation
abbrev pub delays : answers.Act → Bool
delays (answers.Delays procedure x) = true
delays answers.Passes = false
delays (answers.GoesOn frames) = false
delays (answers.Declares environment names body) = false
delays (answers.Starts frames) = false
delays (answers.GivesValue x v) = false
delays (answers.GivesTerm x t) = false
delays (answers.GivesVariable x y) = false
delays (answers.MakesProcedure x parameters body environment) = false
delays (answers.MakesName x) = false
delays (answers.MakesCell x content) = false
delays (answers.Reads n x) = false
delays (answers.Writes n content) = false
delays (answers.Exchanges n x content) = false
delays (answers.MakesPort x stream) = false
delays (answers.Sends n item) = false
delays (answers.Confines ts) = false
delays (answers.Posts ts relation xs) = false
delays (answers.Shows x) = false

-- an answer that shows a text
abbrev pub shows : Answer → Bool
shows (Acts act) = is_shown (act_of act)
shows (RaisesKind kind) = false
shows (RaisesTerm x) = false
shows (Edits edit) = false
shows (Operates op space x) = false
shows (Widens ts) = false
shows Rests = false

-- an answer that goes by the state of a space
abbrev pub operates : Answer → Bool
operates (Operates op space x) = true
operates (Acts act) = false
operates (Edits edit) = false
operates (RaisesKind kind) = false
operates (RaisesTerm x) = false
operates (Widens ts) = false
operates Rests = false

-- an answer by which alone a thread can't step: it rests, or goes by the state of a space
abbrev pub waits : Answer → Bool
waits Rests = true
waits (Operates op space x) = true
waits (Acts act) = false
waits (Edits edit) = false
waits (RaisesKind kind) = false
waits (RaisesTerm x) = false
waits (Widens ts) = false

-- the threads that changes start in a space with this layer
abbrev pub news_of : Layer → List Change → List Thread
news_of before changes = spawned_from before.next.thread changes

-- their names
abbrev pub names_in : List ℕ → List Thread → List Ident
names_in space threads = map (λ (t : Thread). named space t.number) threads

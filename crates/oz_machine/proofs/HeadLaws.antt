-- The one thread that joins a queue, and what was found of it.
use Rattle.std.proofs.Common.{◌≡◌, ◌∙◌, ◌++◌, ℕ, Bool, true, false, List, [], ◌∷◌, Some, sym, ap, subst, position}
use Rattle.std.specs.Prelude.{if◌then◌else◌, is_some}
use Rattle.std.proofs.lemmas.List.{append-nil}
use Rattle.oz_base.specs.Lists.{first}
use Rattle.oz_base.specs.declared.names.Ident.{Ident}
use Rattle.oz_language.specs.declared.kernel.Identifier.{Identifier}
use Rattle.oz_language.specs.declared.kernel.Statement.{Statement}
use Rattle.oz_semantics.specs.Answers as answers
use Rattle.oz_semantics.specs.Configurations.{is_of, layer_at, stack_of, view}
use Rattle.oz_semantics.specs.Readiness.{answer_ready}
use Rattle.oz_semantics.specs.Sights.{Sight, can_step}
use Rattle.oz_semantics.specs.Spaces.{sight}
use Rattle.oz_semantics.specs.Statements.{code_answer, stack_answer}
use Rattle.oz_semantics.specs.Store.{View}
use Rattle.oz_semantics.specs.declared.configuration.Frame.{Frame}
use Rattle.oz_semantics.specs.declared.configuration.Layer.{Layer}
use Rattle.builtins.specs.Answers.{IsAnswer}
use Rattle.builtins.specs.declared.answer.Answer.{Answer}
use Rattle.space_core.specs.Levels.{OfLayer}
use Rattle.oz_acts.proofs.PlaceLaws.{place_view}
use Rattle.oz_machine.specs.Quiet.{able_in, top_steps, IsDeclaration, IsHeadAnswer, Stands}
use Rattle.oz_machine.specs.declared.head.Head.{Head}
use Rattle.oz_machine.specs.declared.head.Head.TheVariants.{Unknown, Declares, Answers}
use Rattle.oz_machine.proofs.DeclareLaws.{answers_so}
use Rattle.oz_machine.proofs.TurnLaws.{top_answers}

-- where nothing joins
pub none_joined : (queue able : List Ident) → [] ≡ able → queue ≡ queue ++ able
none_joined queue able e = sym (append-nil queue) ∙ ap (λ (ids : List Ident). queue ++ ids) e

-- where the thread joins
pub one_joins : (queue after : List Ident) (id copy : Ident) (able : List Ident) → after ≡ queue ++ copy ∷ [] → copy ≡ id → id ∷ [] ≡ able → after ≡ queue ++ able
one_joins queue after id copy able e f g = e ∙ ap (λ (i : Ident). queue ++ i ∷ []) f ∙ ap (λ (ids : List Ident). queue ++ ids) g

-- then it is alone there, if no other was
pub one_alone : (queue after : List Ident) (id copy : Ident) → queue ≡ [] → after ≡ queue ++ copy ∷ [] → copy ≡ id → after ≡ id ∷ []
one_alone queue after id copy none e f = e ∙ ap (λ (ids : List Ident). ids ++ copy ∷ []) none ∙ ap (λ (i : Ident). i ∷ []) f

-- a thread that can't step does not join
pub still_joins : (statements : List Statement) (layers : List Layer) (id : Ident) → false ≡ top_steps statements layers id → [] ≡ able_in statements layers id
still_joins statements layers id e = ap (λ (b : Bool). if b then id ∷ [] else []) e

-- one that declares does
pub declared_joins : (statements : List Statement) (layers : List Layer) (id : Ident) (names : List Identifier) (body : List ℕ) → IsDeclaration statements (stack_of layers id) names body → id ∷ [] ≡ able_in statements layers id
declared_joins statements layers id names body d =
    sym (ap (λ (a : answers.Answer). if can_step (answer_ready a) then id ∷ [] else []) (answers_so statements layers id names body d))

-- what the statement on top answers, by what the space at a place sees
pub answers_at : (statements : List Statement) (layers : List Layer) (id : Ident) (place : ℕ) (frame : Frame) (seen : View) (answer : Answer) → Some place ≡ position (is_of id.space) layers
    → OfLayer layers place (λ l. seen ≡ view layers l.space) → Some frame ≡ first (stack_of layers id)
    → IsAnswer (code_answer (record { statements = statements; space = id.space; view = seen }) frame.environment frame.code) answer
    → IsAnswer (stack_answer (sight statements layers id.space) (stack_of layers id)) answer
answers_at statements layers id place frame seen answer at sees top h =
    let by : View → Sight = λ ts. record { statements = statements; space = id.space; view = ts } in
    let said : code_answer (by seen) frame.environment frame.code ≡ stack_answer (by (view layers id.space)) (stack_of layers id) =
    ap (λ ts. code_answer (by ts) frame.environment frame.code) (place_view layers id.space place seen at sees)
    ∙ sym (top_answers (by (view layers id.space)) (stack_of layers id) frame top)
    in
    subst (λ (a : answers.Answer). IsAnswer a answer) said h

-- the head of a queue with one thread
head_alone : (queue : List Ident) (id other : Ident) → queue ≡ id ∷ [] → first queue ≡ Some other → id ≡ other
head_alone queue id other e h = let said : Some id ≡ Some other = sym (ap first e) ∙ h in cc

-- what was found of the one thread in a queue was found of its head
pub alone_answers : (statements : List Statement) (layers : List Layer) (queue : List Ident) (id : Ident) (place : ℕ) (answer : Answer) → queue ≡ id ∷ []
    → Some place ≡ position (is_of id.space) layers → IsAnswer (stack_answer (sight statements layers id.space) (stack_of layers id)) answer → (other : Ident) → first queue ≡ Some other
    → (Some place ≡ position (is_of other.space) layers) × IsAnswer (stack_answer (sight statements layers other.space) (stack_of layers other)) answer
alone_answers statements layers queue id place answer e at h other head =
    subst (λ (i : Ident). (Some place ≡ position (is_of i.space) layers) × IsAnswer (stack_answer (sight statements layers i.space) (stack_of layers i)) answer)
    (head_alone queue id other e head) (at, h)

pub alone_declares : (layers : List Layer) (queue : List Ident) (id : Ident) (number : ℕ) → queue ≡ id ∷ [] → is_some (layer_at layers id.space) ≡ true → Stands (stack_of layers id) number
    → (other : Ident) → first queue ≡ Some other → (is_some (layer_at layers other.space) ≡ true) × Stands (stack_of layers other) number
alone_declares layers queue id number e there stands other head =
    subst (λ (i : Ident). (is_some (layer_at layers i.space) ≡ true) × Stands (stack_of layers i) number) (head_alone queue id other e head) (there, stands)

-- of a queue without threads all may be said
pub none_answers : (statements : List Statement) (layers : List Layer) (queue : List Ident) (head : Head) → queue ≡ [] → IsHeadAnswer statements layers queue head
none_answers statements layers queue Unknown e = tt
none_answers statements layers queue (Declares number) e = λ id h. absurd (cc (sym (ap first e) ∙ h))
none_answers statements layers queue (Answers place answer) e = λ id h. absurd (cc (sym (ap first e) ∙ h))

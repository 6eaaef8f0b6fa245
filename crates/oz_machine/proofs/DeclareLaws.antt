-- Declarations on top of a stack, and what they answer.
use Rattle.std.proofs.Common.{◌≡◌, ◌∙◌, ℕ, true, List, Option, Some, None, refl, sym, ap}
use Rattle.std.specs.Prelude.{IfSome, is_some}
use Rattle.oz_base.specs.declared.names.Ident.{Ident}
use Rattle.oz_language.specs.declared.kernel.Identifier.{Identifier}
use Rattle.oz_language.specs.declared.kernel.Kernel.{Kernel}
use Rattle.oz_language.specs.declared.kernel.Statement.{Statement}
use Rattle.oz_semantics.specs.Answers as answers
use Rattle.oz_semantics.specs.Configurations.{layer_at, layer_of, stack_of}
use Rattle.oz_semantics.specs.Changes.{changed_all}
use Rattle.oz_semantics.specs.Effects.{declared_changes}
use Rattle.oz_semantics.specs.Spaces.{sight, states_of}
use Rattle.oz_semantics.specs.Operations.{by_state}
use Rattle.oz_semantics.specs.Statements.{stack_answer}
use Rattle.oz_semantics.specs.Steps.{after_answer, after_effect, stepped, went_on, without_top}
use Rattle.oz_semantics.specs.Settling.{Turned}
use Rattle.oz_semantics.specs.declared.configuration.Configuration.{Configuration}
use Rattle.oz_semantics.specs.declared.configuration.Layer.{Layer}
use Rattle.oz_machine.specs.Quiet.{IsDeclaration}
use Rattle.oz_machine.proofs.StepEdits.{effect_popped}
use Rattle.oz_machine.proofs.TurnLaws.{top_answers}

-- a weaker fact of what is there
pub some_weaker : {T : Type 0} (o : Option T) (P Q : T → Type 0) → ((x : T) → P x → Q x) → IfSome o P → IfSome o Q
some_weaker None P Q f h = h
some_weaker (Some x) P Q f h = f x h

-- what is on top of a stack that declares
module _ (statements : List Statement) (layers : List Layer) (id : Ident) (names : List Identifier) (body : List ℕ) (d : IsDeclaration statements (stack_of layers id) names body) where
  abbrev pub act : answers.Act
  act = answers.Declares d.frame.environment names body

  -- this is what it answers
  pub answers_so : stack_answer (sight statements layers id.space) (stack_of layers id) ≡ answers.Acts act
  answers_so = top_answers (sight statements layers id.space) (stack_of layers id) d.frame d.top ∙ d.answers (sight statements layers id.space) refl

-- and what its step makes
pub declaration_made : (k : Kernel) (id : Ident) (names : List Identifier) (body : List ℕ) (c : Configuration) (d : IsDeclaration k.statements (stack_of c.layers id) names body) (new : List Layer)
    → is_some (layer_at c.layers id.space) ≡ true
    → new ≡ changed_all id (declared_changes (layer_of c.layers id.space) d.frame.environment names body) (without_top id c.layers)
    → ◌≡◌ {A = Turned} (stepped k id c) (went_on k.statements id 1 new c)
declaration_made k id names body c d new there made =
    let act = answers.Declares d.frame.environment names body in
    ap (λ a. after_answer k id (without_top id c.layers) c (by_state c.layers (sight k.statements c.layers id.space) (states_of k.statements c.layers) a)) (answers_so k.statements c.layers id names body d)
    ∙ ap (after_effect k id (without_top id c.layers) c) (effect_popped id c.layers act there)
    ∙ ap (λ (ls : List Layer). went_on k.statements id 1 ls c) (sym made)

-- What a step does to the layers, and what the definitions make of it.
use Rattle.std.proofs.Common.{◌≡◌, ◌∙◌, ◌++◌, ◌+◌, ℕ, Bool, true, false, List, [], ◌∷◌, drop, Option, Some, None, if◌then◌else◌, refl, sym, ap}
use Rattle.std.specs.Prelude.{Result, Ok, Err, IfOk, unwrap_or}
use Rattle.std.specs.declared.alloc.AllocError.{AllocError}
use Rattle.oz_base.specs.Lists.{first}
use Rattle.oz_base.specs.declared.names.Ident.{Ident}
use Rattle.oz_language.specs.declared.kernel.Kernel.{Kernel}
use Rattle.oz_language.specs.declared.kernel.Statement.{Statement}
use Rattle.oz_semantics.specs.Names.{named}
use Rattle.oz_semantics.specs.Terms.{Term, term_tells}
use Rattle.oz_semantics.specs.Configurations.{layer_at, layer_of, new_layer, frames_in, thread_at, view}
use Rattle.oz_semantics.specs.Effects.{Effect, Makes, Tells, ShowsText}
use Rattle.oz_semantics.specs.Changes.{done}
use Rattle.oz_semantics.specs.Exceptions.{new_term_tells}
use Rattle.oz_semantics.specs.Triggers.{triggered}
use Rattle.oz_semantics.specs.Settling.{Turned, inconsistent_spaces, settled, top_failed, top_is_inconsistent, requeued, without_inconsistent}
use Rattle.oz_semantics.specs.Spaces.{states_of, answer_in}
use Rattle.oz_semantics.specs.Store.{View, is_consistent}
use Rattle.oz_semantics.specs.Steps.{after_effect, after_answer, went_on, raised_kind, without_top, stepped}
use Rattle.oz_semantics.specs.declared.value.Tell.{Tell}
use Rattle.oz_semantics.specs.declared.configuration.Next.{Next}
use Rattle.oz_semantics.specs.declared.configuration.Layer.{Layer}
use Rattle.oz_semantics.specs.declared.configuration.Configuration.{Configuration}
use Rattle.oz_semantics.specs.declared.outcome.RaiseKind.TheVariants.{FailureTell}
use Rattle.oz_semantics.specs.declared.outcome.Stepped.{Stepped}
use Rattle.oz_semantics.specs.declared.outcome.Stepped.TheVariants.{Moved}
use Rattle.settle_laws.specs.Turns.{cost_of}
use Rattle.settle_laws.specs.Settles.{Settles}
use Rattle.settle_laws.proofs.EditLaws.{pop_view}
use Rattle.settle_laws.proofs.SettleLaws.{nothing_fails}
use Rattle.oz_machine.specs.declared.course.Due.{Due}
use Rattle.oz_machine.specs.declared.course.Due.TheVariants.{Nobody}
use Rattle.oz_machine.specs.declared.course.Course.{Course}
use Rattle.oz_machine.specs.Courses.{layers_after, asked, config_of}
use Rattle.oz_acts.specs.Doings.{IsDone}
use Rattle.oz_acts.proofs.PlaceLaws.{layer_of_name}

-- What is seen of a course

pub course_view : (statements : List Statement) (c : Course) (layers : List Layer) (due : Due) (queue : List Ident) (shown : List (List ℕ))
    → c.levels ≡ layers → c.due ≡ due → c.queue ≡ queue → c.shown ≡ shown
    → config_of statements c ≡ record { layers = layers_after statements layers due; queue = asked statements layers due queue; shown = shown }
course_view statements c layers due queue shown e f g h = λ i. record { layers = layers_after statements (e i) (f i); queue = asked statements (e i) (f i) (g i); shown = h i }

-- where nobody is due, that is what the course holds
pub settled_seen : (statements : List Statement) (c : Course) → c.due ≡ Nobody → config_of statements c ≡ record { layers = c.levels; queue = c.queue; shown = c.shown }
settled_seen statements c nobody = course_view statements c c.levels Nobody c.queue c.shown refl nobody refl refl

-- the head, and what is behind it
pub headed : (queue : List Ident) (id : Ident) → first queue ≡ Some id → queue ≡ id ∷ drop 1 queue
headed [] id e = absurd (cc)
headed (x ∷ xs) id e = let same : x ≡ id = cc in ap (λ (y : Ident). y ∷ xs) same

-- what is told of an exception's term
pub new_told : (layers : List Layer) (space : List ℕ) (next : Next) (u t : Term) (tells : List Tell) → next ≡ (layer_of layers space).next → u ≡ t
    → tells ≡ term_tells space (next.variable + 1) (named space next.variable) u → tells ≡ new_term_tells (layer_of layers space) t
new_told layers space next u t tells e f g =
    g ∙ ap (term_tells space (next.variable + 1) (named space next.variable)) f ∙ ap (λ (k : Next). term_tells space (k.variable + 1) (named space k.variable) t) e
    ∙ ap (λ (s : List ℕ). term_tells s ((layer_of layers space).next.variable + 1) (named s (layer_of layers space).next.variable) t) (sym (layer_of_name layers space))

-- what an effect that was done leaves to follow
pub record Leaves (k : Kernel) (id : Ident) (effect : Effect) (old new : List Layer) (c : Configuration) : Type 0 where
  pub before : List Layer
  pub settles : Settles id.space before new
  pub follows : ◌≡◌ {A = Turned} (after_effect k id (without_top id old) c effect) (went_on k.statements id 1 before c)

-- what is told is as consistent where a statement was taken off
pub fits_popped : (id : Ident) (ts : List Tell) (layers : List Layer) (b : Bool) → is_consistent (view layers id.space ++ ts) ≡ b → is_consistent (view (without_top id layers) id.space ++ ts) ≡ b
fits_popped id ts layers b e = ap (λ (v : View). is_consistent (v ++ ts)) (pop_view id layers id.space) ∙ e

pub done_leaves : (k : Kernel) (id : Ident) (effect : Effect) (old new : List Layer) (c : Configuration) → inconsistent_spaces new ≡ [] → IsDone id effect old new true → Leaves k id effect old new c
done_leaves k id (Makes changes) old new c sound h = record {
  before = new;
  settles = nothing_fails id.space new sound;
  follows = ap (λ (ls : List Layer). went_on k.statements id 1 ls c) (sym h);
}
done_leaves k id (Tells ts changes) old new c sound h = record {
  before = done id ts changes (without_top id old);
  settles = h.1;
  follows =
      ap (λ (b : Bool). if b then went_on k.statements id 1 (done id ts changes (without_top id old)) c else raised_kind k.statements id FailureTell (without_top id old) c)
      (fits_popped id ts old true h.0);
}
done_leaves k id (ShowsText x) old new c sound h = absurd h

-- and of one whose tells clash
pub done_clashes : (k : Kernel) (id : Ident) (effect : Effect) (old new : List Layer) (c : Configuration) → IsDone id effect old new false
    → (new ≡ old) × (◌≡◌ {A = Turned} (after_effect k id (without_top id old) c effect) (raised_kind k.statements id FailureTell (without_top id old) c))
done_clashes k id (Makes changes) old new c h = absurd h
done_clashes k id (Tells ts changes) old new c h = (
  h.1,
  ap (λ (b : Bool). if b then went_on k.statements id 1 (done id ts changes (without_top id old)) c else raised_kind k.statements id FailureTell (without_top id old) c)
      (fits_popped id ts old false h.0),
)
done_clashes k id (ShowsText x) old new c h = absurd h

-- another name for what was turned
pub ok_turn : (r : Result Stepped AllocError) (t u : Turned) (d : Configuration) → ◌≡◌ {A = Turned} t u → IfOk r (λ stepped. ◌≡◌ {A = Turned} u (stepped, d)) → IfOk r (λ stepped. ◌≡◌ {A = Turned} t (stepped, d))
ok_turn (Ok stepped) t u d e h = e ∙ h
ok_turn (Err fault) t u d e h = h

-- What turns cost

pub settled_cost : (statements : List Statement) (mover : Option Ident) (cost : ℕ) (c : Configuration) → cost_of (settled statements mover cost c).0 ≡ cost
settled_cost statements mover cost c = by (top_is_inconsistent c.layers)
  where
    by : (b : Bool) → cost_of (if b then top_failed cost c else (Moved cost, requeued statements mover c (triggered statements (without_inconsistent c.layers)))).0 ≡ cost
    by true = refl
    by false = refl

-- a thread of a space that is not there can't step
pub nowhere_rests : (k : Kernel) (id : Ident) (c : Configuration) → layer_at c.layers id.space ≡ None → ◌≡◌ {A = Turned} (stepped k id c) (settled k.statements (Some id) 1 c)
nowhere_rests k id c e =
    ap (λ (o : Option Layer). after_answer k id (without_top id c.layers) c (answer_in k.statements c.layers (states_of k.statements c.layers) id.space (frames_in (thread_at (unwrap_or o (new_layer id.space)).threads id.number)))) e

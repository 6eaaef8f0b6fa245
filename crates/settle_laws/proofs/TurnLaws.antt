-- What each turn leaves, and costs.
use Rattle.std.proofs.Common.{◌≡◌, ◌⊎◌, inl, inr, refl, ℕ, ◌≤◌, Bool, true, false, if◌then◌else◌, List, [], sym, subst, arith, Option, None}
use Rattle.oz_base.specs.declared.names.Ident.{Ident}
use Rattle.oz_language.specs.declared.kernel.Statement.{Statement}
use Rattle.oz_language.specs.declared.kernel.Kernel.{Kernel}
use Rattle.oz_semantics.specs.Edits.{created, committed}
use Rattle.oz_semantics.specs.Triggers.{triggered}
use Rattle.oz_semantics.specs.Settling.{Turned, settled, top_is_inconsistent, top_failed, without_inconsistent, runnable, requeued}
use Rattle.oz_semantics.specs.Schedule.{turn}
use Rattle.oz_semantics.specs.Runs.{left_by}
use Rattle.oz_semantics.specs.declared.configuration.Layer.{Layer}
use Rattle.oz_semantics.specs.declared.configuration.Configuration.{Configuration}
use Rattle.oz_semantics.specs.declared.outcome.Stepped.TheVariants.{Moved, TopEnded, Quiescent}
use Rattle.view_laws.proofs.QueueLaws.{queue_exact}
use Rattle.settle_laws.proofs.StepLaws.{each_step, each_turn}
use Rattle.settle_laws.proofs.SoundLaws.{sound_top}
use Rattle.settle_laws.proofs.OpeningLaws.{opening_sound}
use Rattle.settle_laws.specs.Turns.{HasExact, SettledExact, StepExact, TurnExact, FollowedExact, opening_layers, OpeningExact, RootExact, ChosenExact, cost_of, CostLaw, TurnCost}

-- Costs

cost_follows : (statements : List Statement) (mover : Option Ident) (cost : ℕ) (c : Configuration) → 1 ≤ cost → 1 ≤ cost_of (settled statements mover cost c).0
cost_follows statements mover cost c h = by (top_is_inconsistent c.layers)
  where
    by : (b : Bool) → 1 ≤ cost_of (if b then top_failed cost c else (Moved cost, requeued statements mover c (triggered statements (without_inconsistent c.layers)))).0
    by true = h
    by false = h

pub cost_law : CostLaw
cost_law k id c = each_step (λ (t : Turned). 1 ≤ cost_of t.0) k (cost_follows k.statements) (λ x layers d. omega arith) id c

-- or there is nothing to do
abbrev Costs : Turned → Type 0
Costs (Moved cost, d) = 1 ≤ cost
Costs (TopEnded x cost, d) = 1 ≤ cost
Costs (Quiescent, d) = Unit {0}

costs_follows : (statements : List Statement) (mover : Option Ident) (cost : ℕ) (c : Configuration) → 1 ≤ cost → Costs (settled statements mover cost c)
costs_follows statements mover cost c h = by (top_is_inconsistent c.layers)
  where
    by : (b : Bool) → Costs (if b then top_failed cost c else (Moved cost, requeued statements mover c (triggered statements (without_inconsistent c.layers))))
    by true = h
    by false = h

rest_or_cost : (t : Turned) → Costs t → (t.0 ≡ Quiescent) ⊎ (1 ≤ cost_of t.0)
rest_or_cost (Moved cost, d) h = inr h
rest_or_cost (TopEnded x cost, d) h = inr h
rest_or_cost (Quiescent, d) h = inl refl

pub turn_cost : TurnCost
turn_cost k c = rest_or_cost (turn k c) (each_turn Costs k (costs_follows k.statements) (λ x layers d. omega arith) (λ d. tt) c)

-- Queues

-- where the machine moved, the queue is exact
abbrev pub MovedExact : List Statement → Turned → Type 0
MovedExact statements (Moved cost, d) = HasExact statements d
MovedExact statements (TopEnded x cost, d) = Unit {0}
MovedExact statements (Quiescent, d) = Unit {0}

requeued_exact : (statements : List Statement) (mover : Option Ident) (c : Configuration) (layers : List Layer) → HasExact statements (requeued statements mover c layers)
requeued_exact statements mover c layers id = queue_exact (runnable statements layers) mover c.queue id

exact_follows : (statements : List Statement) (mover : Option Ident) (cost : ℕ) (c : Configuration) → MovedExact statements (settled statements mover cost c)
exact_follows statements mover cost c = by (top_is_inconsistent c.layers)
  where
    by : (b : Bool) → MovedExact statements (if b then top_failed cost c else (Moved cost, requeued statements mover c (triggered statements (without_inconsistent c.layers))))
    by true = tt
    by false = requeued_exact statements mover c (triggered statements (without_inconsistent c.layers))

pub settled_exact : SettledExact
settled_exact statements mover cost c n d e = subst (MovedExact statements) e (exact_follows statements mover cost c)

pub step_exact : StepExact
step_exact k id c n d e =
    subst (MovedExact k.statements) e (each_step (MovedExact k.statements) k (λ mover cost b h. exact_follows k.statements mover cost b) (λ x layers b. tt) id c)

turn_exact_of : (k : Kernel) (c : Configuration) → MovedExact k.statements (turn k c)
turn_exact_of k c = each_turn (MovedExact k.statements) k (λ mover cost b h. exact_follows k.statements mover cost b) (λ x layers b. tt) (λ b. tt) c

pub turn_exact : TurnExact
turn_exact k c n d e = subst (MovedExact k.statements) e (turn_exact_of k c)

-- where the top is consistent
left_exact : (statements : List Statement) (mover : Option Ident) (cost : ℕ) (c : Configuration) → top_is_inconsistent c.layers ≡ false → HasExact statements (left_by (settled statements mover cost c))
left_exact statements mover cost c e =
    subst (λ (b : Bool). HasExact statements (left_by (if b then top_failed cost c else (Moved cost, requeued statements mover c (triggered statements (without_inconsistent c.layers)))))) (sym e)
    (requeued_exact statements mover c (triggered statements (without_inconsistent c.layers)))

pub followed_exact : FollowedExact
followed_exact statements c layers e = left_exact statements None 1 (record c { layers = layers }) e

pub opening_exact : OpeningExact
opening_exact k = left_exact k.statements None 0 (record { layers = opening_layers k; queue = []; shown = [] }) (sound_top (opening_layers k) (opening_sound k))

pub root_exact : RootExact
root_exact statements procedure c e = followed_exact statements c (created [] procedure c.layers) e

pub chosen_exact : ChosenExact
chosen_exact statements space i c e = followed_exact statements c (committed statements space i c.layers) e

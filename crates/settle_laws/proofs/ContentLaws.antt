-- Each turn leaves no trigger that is needed.
use Rattle.std.proofs.Common.{◌≡◌, ℕ, Bool, true, false, if◌then◌else◌, List, [], sym, subst, Option, None}
use Rattle.oz_base.specs.declared.names.Ident.{Ident}
use Rattle.oz_language.specs.declared.kernel.Statement.{Statement}
use Rattle.oz_language.specs.declared.kernel.Kernel.{Kernel}
use Rattle.oz_semantics.specs.Triggers.{triggered}
use Rattle.oz_semantics.specs.Settling.{Turned, settled, top_is_inconsistent, top_failed, without_inconsistent, requeued}
use Rattle.oz_semantics.specs.Schedule.{turn}
use Rattle.oz_semantics.specs.Runs.{left_by}
use Rattle.oz_semantics.specs.declared.configuration.Configuration.{Configuration}
use Rattle.oz_semantics.specs.declared.outcome.Stepped.TheVariants.{Moved, TopEnded, Quiescent}
use Rattle.view_laws.specs.Needs.{NoneNeeded}
use Rattle.need_laws.proofs.RoundLaws.{none_left}
use Rattle.settle_laws.specs.Turns.{opening_layers}
use Rattle.settle_laws.specs.Content.{SettledContent, StepContent, TurnContent, FollowedContent, OpeningContent}
use Rattle.settle_laws.proofs.StepLaws.{each_step, each_turn}
use Rattle.settle_laws.proofs.SoundLaws.{sound_top}
use Rattle.settle_laws.proofs.OpeningLaws.{opening_sound}

-- where the machine moved, none is needed
abbrev MovedContent : List Statement → Turned → Type 0
MovedContent statements (Moved cost, d) = NoneNeeded statements d.layers
MovedContent statements (TopEnded x cost, d) = Unit {0}
MovedContent statements (Quiescent, d) = Unit {0}

content_follows : (statements : List Statement) (mover : Option Ident) (cost : ℕ) (c : Configuration) → MovedContent statements (settled statements mover cost c)
content_follows statements mover cost c = by (top_is_inconsistent c.layers)
  where
    by : (b : Bool) → MovedContent statements (if b then top_failed cost c else (Moved cost, requeued statements mover c (triggered statements (without_inconsistent c.layers))))
    by true = tt
    by false = none_left statements (without_inconsistent c.layers)

pub settled_content : SettledContent
settled_content statements mover cost c n d e = subst (MovedContent statements) e (content_follows statements mover cost c)

pub step_content : StepContent
step_content k id c n d e =
    subst (MovedContent k.statements) e (each_step (MovedContent k.statements) k (λ mover cost b h. content_follows k.statements mover cost b) (λ x layers b. tt) id c)

turn_content_of : (k : Kernel) (c : Configuration) → MovedContent k.statements (turn k c)
turn_content_of k c = each_turn (MovedContent k.statements) k (λ mover cost b h. content_follows k.statements mover cost b) (λ x layers b. tt) (λ b. tt) c

pub turn_content : TurnContent
turn_content k c n d e = subst (MovedContent k.statements) e (turn_content_of k c)

-- where the top is consistent
left_content : (statements : List Statement) (mover : Option Ident) (cost : ℕ) (c : Configuration) → top_is_inconsistent c.layers ≡ false
    → NoneNeeded statements (left_by (settled statements mover cost c)).layers
left_content statements mover cost c e =
    subst
    (λ (b : Bool). NoneNeeded statements (left_by (if b then top_failed cost c else (Moved cost, requeued statements mover c (triggered statements (without_inconsistent c.layers))))).layers) (sym e)
    (none_left statements (without_inconsistent c.layers))

pub followed_content : FollowedContent
followed_content statements c layers e = left_content statements None 1 (record c { layers = layers }) e

pub opening_content : OpeningContent
opening_content k = left_content k.statements None 0 (record { layers = opening_layers k; queue = []; shown = [] }) (sound_top (opening_layers k) (opening_sound k))

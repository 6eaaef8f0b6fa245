-- By-need computations that begin before those who are due are asked.
use Rattle.std.proofs.Common.{◌≡◌, ◌∙◌, ℕ, false, List, Option, refl, sym, ap}
use Rattle.oz_base.specs.declared.names.Ident.{Ident}
use Rattle.oz_language.specs.declared.kernel.Statement.{Statement}
use Rattle.oz_semantics.specs.Configurations.{view}
use Rattle.oz_semantics.specs.Triggers.{triggered}
use Rattle.oz_semantics.specs.Settling.{runnable, queue_after}
use Rattle.oz_semantics.specs.declared.configuration.Layer.{Layer}
use Rattle.view_laws.proofs.NeedLaws.{nothing_fires}
use Rattle.need_laws.specs.Needs.{has_triggers}
use Rattle.need_laws.proofs.FireLaws.{all_fired}
use Rattle.need_laws.proofs.AfterLaws.{fired_view}
use Rattle.need_laws.proofs.RoundLaws.{none_left, none_there}
use Rattle.oz_machine.specs.declared.course.Due.{Due}
use Rattle.oz_machine.specs.declared.course.Due.TheVariants.{Nobody, Mover, Told, Everybody}
use Rattle.oz_machine.specs.declared.course.Course.{Course}
use Rattle.oz_machine.specs.Courses.{layers_after, asked, config_of}

-- what is left begins no more
begun_again : (statements : List Statement) (layers : List Layer) → triggered statements (triggered statements layers) ≡ triggered statements layers
begun_again statements layers = nothing_fires statements (triggered statements layers) (none_left statements layers)

-- nor does what is not there
pub none_begin : (statements : List Statement) (layers : List Layer) → has_triggers layers ≡ false → triggered statements layers ≡ layers
none_begin statements layers none = nothing_fires statements layers (none_there statements layers none)

-- where everybody is due and what is needed has begun, the layers stay
pub all_stay : (statements : List Statement) (old new : List Layer) (due : Due) (mover : Option Ident) → due ≡ Everybody mover → new ≡ triggered statements old → layers_after statements new due ≡ new
all_stay statements old new due mover e is =
    ap (layers_after statements new) e ∙ ap (triggered statements) is ∙ begun_again statements old ∙ sym is

-- and the configuration is the same
pub all_same : (statements : List Statement) (old new : Course) (mover : Option Ident) → old.due ≡ Everybody mover → new.levels ≡ triggered statements old.levels → new.due ≡ old.due → new.queue ≡ old.queue → new.shown ≡ old.shown
    → config_of statements new ≡ config_of statements old
all_same statements old new mover e is due queue shown =
    let left : layers_after statements new.levels new.due ≡ layers_after statements old.levels old.due =
    all_stay statements old.levels new.levels new.due mover (due ∙ e) is ∙ is ∙ sym (ap (layers_after statements old.levels) e) in
    let follows : asked statements new.levels new.due new.queue ≡ asked statements old.levels old.due old.queue =
    ap (λ (d : Due). asked statements new.levels d new.queue) (due ∙ e)
    ∙ ap (λ (ls : List Layer). queue_after (runnable statements ls) mover new.queue) (ap (triggered statements) is ∙ begun_again statements old.levels)
    ∙ ap (queue_after (runnable statements (triggered statements old.levels)) mover) queue
    ∙ sym (ap (λ (d : Due). asked statements old.levels d old.queue) e) in
    λ i. record { layers = left i; queue = follows i; shown = shown i }

-- What a space sees does not change by that
pub seen_after : (statements : List Statement) (layers : List Layer) (due : Due) (space : List ℕ) → view (layers_after statements layers due) space ≡ view layers space
seen_after statements layers Nobody space = refl
seen_after statements layers (Mover id started) space = refl
seen_after statements layers (Told mover woken) space = refl
seen_after statements layers (Everybody mover) space = fired_view layers (triggered statements layers) space (all_fired statements layers)

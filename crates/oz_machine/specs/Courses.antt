-- What contracts see of a machine.
use Rattle.std.specs.Prelude.{◌≡◌, Bool, true, List, ◌++◌, drop}
use Rattle.oz_base.specs.declared.names.Ident.{Ident}
use Rattle.oz_language.specs.declared.kernel.Kernel.{Kernel}
use Rattle.oz_language.specs.declared.kernel.Statement.{Statement}
use Rattle.oz_semantics.specs.Triggers.{triggered}
use Rattle.oz_semantics.specs.Settling.{runnable, queue_after}
use Rattle.oz_semantics.specs.declared.configuration.Layer.{Layer}
use Rattle.oz_semantics.specs.declared.configuration.Configuration.{Configuration}
use Rattle.turn_laws.specs.Kept.{IsKept}
use Rattle.sleep_laws.specs.Woken.{told_queue}
use Rattle.oz_machine.specs.Quiet.{able_in, able_of}
use Rattle.oz_machine.specs.declared.course.Due.{Due}
use Rattle.oz_machine.specs.declared.course.Due.TheVariants.{Nobody, Mover, Told, Everybody}
use Rattle.oz_machine.specs.declared.course.Course.{Course}

-- the layers that are left once those who are due were asked: where that is everybody, by-need computations that are needed begin before
abbrev pub layers_after : List Statement → List Layer → Due → List Layer
layers_after statements layers Nobody = layers
layers_after statements layers (Mover id started) = layers
layers_after statements layers (Told mover woken) = layers
layers_after statements layers (Everybody mover) = triggered statements layers

-- the queue that is left then
abbrev pub asked : List Statement → List Layer → Due → List Ident → List Ident
asked statements layers Nobody queue = queue
asked statements layers (Mover id started) queue = (queue ++ able_in statements layers id) ++ able_of statements layers started
asked statements layers (Told mover woken) queue = told_queue statements layers mover woken queue
asked statements layers (Everybody mover) queue = queue_after (runnable statements (triggered statements layers)) mover queue

-- the configuration
abbrev pub config_of : List Statement → Course → Configuration
config_of statements c = record { layers = layers_after statements c.levels c.due; queue = asked statements c.levels c.due c.queue; shown = c.shown }

-- the configuration in which the thread at the head steps, where nobody is due: it is off the queue
abbrev pub stepping : Course → Configuration
stepping c = record { layers = c.levels; queue = drop 1 c.queue; shown = c.shown }

-- where it is known, all holds that holds from turn to turn
abbrev pub Keeps : List Statement → Bool → Course → Type 0
Keeps statements kept c = kept ≡ true → IsKept statements (config_of statements c)

-- a machine is a program and a configuration
pub record Loaded : Type 0 where
  pub kernel : Kernel
  pub config : Configuration

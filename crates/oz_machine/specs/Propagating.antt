-- What a run of a propagator looks at.
use Rattle.std.specs.Prelude.{ℕ, List, filter, length}
use Rattle.oz_semantics.specs.Settling.{may_fail}
use Rattle.oz_semantics.specs.declared.configuration.Layer.{Layer}
use Rattle.oz_semantics.specs.declared.configuration.Configuration.{Configuration}
use Rattle.oz_machine.specs.declared.course.Course.{Course}

-- the configuration, where nobody is due
abbrev pub as_it_is : Course → Configuration
as_it_is c = record { layers = c.levels; queue = c.queue; shown = c.shown }

-- so many spaces may fail
abbrev pub fallible : List Layer → ℕ
fallible layers = length (filter (λ (l : Layer). may_fail l.status) layers)

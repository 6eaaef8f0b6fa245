-- What a step makes of the layer of its space besides what it tells.
use Rattle.std.specs.Prelude.{ℕ, ◌+◌, List, [], ◌∷◌, ◌++◌, drop, length, slice_set}
use Rattle.oz_base.specs.declared.names.Ident.{Ident}
use Rattle.oz_language.specs.declared.kernel.Identifier.{Identifier}
use Rattle.oz_semantics.specs.Configurations.{fresh_variables, with_frames, giving_out, spawning, with_content}
use Rattle.oz_semantics.specs.declared.configuration.Frame.{Frame}
use Rattle.oz_semantics.specs.declared.configuration.Layer.{Layer}
use Rattle.oz_semantics.specs.declared.configuration.Next.{Next}
use Rattle.oz_semantics.specs.declared.configuration.LastRun.TheVariants.{Never}
use Rattle.oz_semantics.specs.declared.configuration.Propagator as propagators
use Rattle.cells_ports.specs.Objects.{Contents}
use Rattle.space_core.specs.Levels.{replacing}
use Rattle.space_core.specs.Stacks.{declared_on}
use Rattle.space_core.specs.declared.given.Given.{Given}
use Rattle.space_core.specs.declared.given.Given.TheVariants.{Nothing, Variables, Procedure, Name, Cell, Content, Port, End, Propagator}
use Rattle.space_core.specs.declared.level.Level.{Level}
use Rattle.space_core.specs.declared.level.Numbers.{Numbers}

-- the numbers of a space after it gave this out
abbrev pub next_after : Given → Next → Next
next_after Nothing next = next
next_after (Variables n) next = record next { variable = next.variable + n }
next_after Procedure next = record next { procedure = next.procedure + 1 }
next_after Name next = record next { name = next.name + 1 }
next_after (Cell content) next = next
next_after (Content n content) next = next
next_after (Port stream) next = next
next_after (End n end) next = record next { variable = next.variable + 1 }
next_after (Propagator relation variables) next = next

-- its cells, by what they contain
abbrev pub cells_after : Given → List Ident → List Ident
cells_after Nothing cells = cells
cells_after (Variables n) cells = cells
cells_after Procedure cells = cells
cells_after Name cells = cells
cells_after (Cell content) cells = cells ++ content ∷ []
cells_after (Content n content) cells = slice_set cells n content
cells_after (Port stream) cells = cells
cells_after (End n end) cells = cells
cells_after (Propagator relation variables) cells = cells

-- its ports, by where their streams end
abbrev pub ports_after : Given → List Ident → List Ident
ports_after Nothing ports = ports
ports_after (Variables n) ports = ports
ports_after Procedure ports = ports
ports_after Name ports = ports
ports_after (Cell content) ports = ports
ports_after (Content n content) ports = ports
ports_after (Port stream) ports = ports ++ stream ∷ []
ports_after (End n end) ports = slice_set ports n end
ports_after (Propagator relation variables) ports = ports

-- its propagators
abbrev pub propagators_after : Given → List propagators.Propagator → List propagators.Propagator
propagators_after Nothing ps = ps
propagators_after (Variables n) ps = ps
propagators_after Procedure ps = ps
propagators_after Name ps = ps
propagators_after (Cell content) ps = ps
propagators_after (Content n content) ps = ps
propagators_after (Port stream) ps = ps
propagators_after (End n end) ps = ps
propagators_after (Propagator relation variables) ps = ps ++ record { relation = relation; variables = variables; last = Never } ∷ []

abbrev pub giving : Given → Layer → Layer
giving given l =
    record l {
      propagators = propagators_after given l.propagators;
      cells = cells_after given l.cells;
      ports = ports_after given l.ports;
      next = next_after given l.next;
    }

-- the same of what is kept of them
abbrev pub numbers_after : Given → Numbers → Numbers
numbers_after Nothing numbers = numbers
numbers_after (Variables n) numbers = record numbers { variable = numbers.variable + n }
numbers_after Procedure numbers = record numbers { procedure = numbers.procedure + 1 }
numbers_after Name numbers = record numbers { name = numbers.name + 1 }
numbers_after (Cell content) numbers = numbers
numbers_after (Content n content) numbers = numbers
numbers_after (Port stream) numbers = numbers
numbers_after (End n end) numbers = record numbers { variable = numbers.variable + 1 }
numbers_after (Propagator relation variables) numbers = numbers

abbrev pub objects_after : Given → Contents → Contents
objects_after given objects = record { cells = cells_after given objects.cells; ports = ports_after given objects.ports }

-- what is kept of a space that gave this out
abbrev pub after_giving : Given → Level → Level
after_giving given l =
    record l {
      constraints = record l.constraints { propagators = propagators_after given l.constraints.propagators };
      objects = objects_after given l.objects;
      numbers = numbers_after given l.numbers;
    }

-- the statement on top of a thread's stack gave way to these, and so many variables were given out
abbrev pub declaring : ℕ → List Frame → ℕ → Layer → Layer
declaring number frames count l = giving_out count (with_frames number (replacing frames) l)

-- the statement on top of a thread's stack gave way to a body, in which the identifiers stand for new variables
abbrev pub declaring_in : ℕ → List Identifier → List ℕ → Layer → Layer
declaring_in number names body l = giving_out (length names) (with_frames number (declared_on names (fresh_variables l (length names)) body) l)

-- the statement on top of a thread's stack was taken off, and a thread with these began
abbrev pub spawning_by : ℕ → List Frame → Layer → Layer
spawning_by number frames l = spawning frames (with_frames number (λ stack. drop 1 stack) l)

-- the statement on top of a thread's stack was taken off, and a cell contains this from now on
abbrev pub assigning : ℕ → ℕ → Ident → Layer → Layer
assigning number cell content l = with_content cell content (with_frames number (λ stack. drop 1 stack) l)

-- How a list goes on behind a place of its spine.
use Rattle.std.specs.Prelude.{List, [], ◌∷◌}
use Rattle.oz_base.specs.declared.names.Ident.{Ident}
use Rattle.oz_semantics.specs.Inputs.{Input, Known, Unknown, OtherKind, and_further}
use Rattle.fd_inputs.specs.declared.vectors.Step.{Step}
use Rattle.fd_inputs.specs.declared.vectors.Step.TheVariants as step

-- the elements from a place on
abbrev pub Rest : Type 0
Rest = Ident → Input (List Ident)

-- with the elements that follow a cell
abbrev pub after_step : Rest → Ident → Step → Input (List Ident)
after_step rest x (step.Cell head tail) = and_further (λ xs. Known (head.now ∷ xs)) (rest tail.now)
after_step rest x step.End = Known []
after_step rest x step.OtherKind = OtherKind
after_step rest x step.Unknown = Unknown x

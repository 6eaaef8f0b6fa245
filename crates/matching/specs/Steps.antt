-- How a match goes on behind a node.
use Rattle.std.specs.Prelude.{List}
use Rattle.oz_base.specs.declared.names.Ident.{Ident}
use Rattle.oz_semantics.specs.Matching.{Match, Differs, MatchWaits}
use Rattle.matching.specs.declared.nodes.Step.{Step}
use Rattle.matching.specs.declared.nodes.Step.TheVariants as step

-- a node against x, with what follows its fields
abbrev pub after_step : (List Ident → Match) → Ident → Step → Match
after_step next x (step.Fields xs) = next xs.now
after_step next x step.Differs = Differs
after_step next x step.Waits = MatchWaits x

-- What a verdict says of a match.
use Rattle.std.specs.Prelude.{Option, Some, None}
use Rattle.oz_base.specs.declared.names.Ident.{Ident}
use Rattle.oz_semantics.specs.Matching.{Match, Matches, Differs, MatchWaits}
use Rattle.matching.specs.declared.decided.Verdict.{Verdict}
use Rattle.matching.specs.declared.decided.Verdict.TheVariants as verdict

abbrev pub match_of : Verdict → Match
match_of (verdict.Matches environment) = Matches environment
match_of verdict.Differs = Differs
match_of (verdict.Waits x) = MatchWaits x

-- the variable that a match waits for
abbrev pub waits_in : Match → Option Ident
waits_in (Matches environment) = None
waits_in Differs = None
waits_in (MatchWaits x) = Some x

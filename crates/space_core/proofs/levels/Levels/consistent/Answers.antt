use Rattle.std.proofs.Common.{◌∙◌, sym, ap}
use Rattle.oz_semantics.specs.Settling.{inconsistent_spaces}
use Rattle.space_core.proofs.SoundLaws.{none_inconsistent}
use Rattle.space_core.proofs.levels.Levels.consistent.Goals as goal

pub returns : goal.returns
returns c = sym (ap inconsistent_spaces c.self.view_is) ∙ none_inconsistent c.self.inside.levels.items c.self.invariant

use Rattle.std.proofs.Common.{sym, ◌∙◌}
use Rattle.space_core.proofs.HalvingLaws.{seen_at}
use Rattle.space_core.proofs.looking.is_at.Goals as goal

pub returns-in-Some : goal.returns-in-Some
returns-in-Some c = λ same.
    let found = c.in-Some.ensures.lookup in
    seen_at c.args.levels.now c.args.space.now c.args.place c.in-Some.level.now c.requires.tree.ordered found.0 found.1 (sym c.same_space.ensures ∙ same)

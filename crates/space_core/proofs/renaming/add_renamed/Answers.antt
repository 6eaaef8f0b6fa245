use Rattle.std.proofs.Common.{◌∙◌, sym}
use Rattle.space_core.proofs.RenamedLaws.{placed_renamed}
use Rattle.space_core.proofs.renaming.add_renamed.Goals as goal

pub returns : goal.returns
returns c =
    placed_renamed c.args.by.now c.args.level.now c.in_ok-renamed.renamed c.args.levels.now.items c.add_level.new.levels.items (sym c.gives_name.ensures ∙ c.if-not-gives_name.false) c.in_ok-renamed.ensures c.in_ok-add_level.ensures.ok

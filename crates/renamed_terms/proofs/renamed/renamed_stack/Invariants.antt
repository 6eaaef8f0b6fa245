use Rattle.std.proofs.Common.{◌≡◌, map, take, reverse}
use Rattle.renamed_terms.specs.Meanings.{renaming_of}
use Rattle.renamed_terms.proofs.renamed.renamed_stack.Given as goal

-- the items so far, the last of them on top
abbrev pub invariant-loop-item : goal.invariant-loop-item
invariant-loop-item g l = l.after ≡ map (g.T.Renamed.renamed (renaming_of l.by)) (reverse (take l.item-index l.from_bottom))

use Rattle.std.proofs.Common.{◌≡◌, map, take}
use Rattle.renamed_terms.specs.Meanings.{renaming_of}
use Rattle.renamed_terms.proofs.renamed.renamed_items.Given as goal

-- the items so far
abbrev pub invariant-loop-item : goal.invariant-loop-item
invariant-loop-item g l = l.after.items ≡ map (g.T.Renamed.renamed (renaming_of l.by)) (take l.item-index l.items)

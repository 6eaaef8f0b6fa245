use Rattle.std.proofs.Common.{sym}
use Rattle.search_all.proofs.LeafLaws.{entry_there, place_within}
use Rattle.search_all.proofs.ending.leaf_at.Goals as goal

pub unreachable-requires : goal.unreachable-requires
unreachable-requires c = place_within c.args.entries.now c.args.place c.requires.0 c.requires.1 (sym c.in_default.ensures.lookup.0)

pub leaf_in-requires : goal.leaf_in-requires
leaf_in-requires c = (c.requires.0, entry_there c.args.entries.now c.args.place c.requires.0 c.in-Some.entry.now c.requires.1 c.in-Some.ensures.lookup.1)

pub returns : goal.returns
returns c x there = c.leaf_in.ensures x (entry_there c.args.entries.now c.args.place x c.in-Some.entry.now there c.in-Some.ensures.lookup.1)

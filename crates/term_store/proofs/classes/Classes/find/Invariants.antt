use Rattle.std.proofs.Common.{◌≡◌, ◌-◌, option_copied}
use Rattle.ident_map.specs.Entries.{entry}
use Rattle.term_store.specs.Classes.{rank_in, root_in}
use Rattle.term_store.proofs.classes.Classes.find.Given as goal

abbrev pub invariant-climb : goal.invariant-climb
invariant-climb l = (root_in l.self l.root ≡ root_in l.self l.variable) × (option_copied l.cell ≡ entry l.self l.root)

abbrev pub decreases-climb : goal.decreases-climb
decreases-climb l = 256 - rank_in l.self l.root

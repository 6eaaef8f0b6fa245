use Rattle.std.proofs.Common.{◌≡◌, [], drop}
use Rattle.fd_inputs.specs.News.{told_ones, Marks}
use Rattle.fd_inputs.proofs.news.chosen_ones.Given as goal

abbrev pub invariant-loop-x : goal.invariant-loop-x
invariant-loop-x l =
    (told_ones l.store l.interval l.chosen.variables.items (drop l.x-index l.xs) ≡ told_ones l.store l.interval [] l.xs)
    × Marks l.classes l.chosen.variables.items l.chosen.marks

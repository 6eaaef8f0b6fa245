use Rattle.std.proofs.Common.{◌∙◌, ◌+◌, refl, ap}
use Rattle.oz_semantics.specs.Search.{chosen_in}
use Rattle.oz_machine.specs.Courses.{Loaded}
use Rattle.leaf_search.proofs.Opening.{opens_next}
use Rattle.leaf_search.proofs.search.open_next.Goals as goal

pub returns : goal.returns
returns c =
    opens_next c.args.space.now c.args.node _ c.args.opened.now c.push.new.self c.commit-2.new.self c.requires c.in_ok-push.ensures.ok refl refl refl
    (c.in_ok-commit-2.ensures.kernel ∙ ap (λ (m : Loaded). m.kernel) c.in_ok-child.ensures)
    (c.in_ok-commit-2.ensures.commit ∙ ap (λ (m : Loaded). chosen_in m.kernel.statements c.args.space.now (c.args.node.taken + 1) m.config) c.in_ok-child.ensures)

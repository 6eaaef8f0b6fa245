use Rattle.std.proofs.Common.{◌≡◌, subst, List, Option}
use Rattle.std.specs.Prelude.{IfOk}
use Rattle.oz_search.specs.declared.leaf.Outcome.{Outcome}
use Rattle.oz_semantics.specs.Search.{search_space, with_root}
use Rattle.script_leaves.proofs.FoundLaws.{found_same}
use Rattle.script_leaves.proofs.script.leaves.Goals as goal

pub returns : goal.returns
returns g c =
    let m = c.root.new.self in
    let old = c.args.machine in
    subst (λ (a : Option (List Outcome)). IfOk c.leaves_below.result (λ found. found ≡ a))
    (found_same m.kernel old.kernel c.in_ok-space.space (search_space old.config) m.config (with_root old.kernel.statements c.args.script old.config) c.args.left
    c.in_ok-space.ensures.kernel c.in_ok-space.ensures.name c.in_ok-space.ensures.root)
    c.leaves_below.ensures

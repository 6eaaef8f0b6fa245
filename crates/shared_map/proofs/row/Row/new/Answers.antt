use Rattle.shared_map.specs.Lookup.{four_at}
use Rattle.shared_map.proofs.Joins.{all_nothing}
use Rattle.shared_map.proofs.row.Row.new.Goals as goal

pub returns : goal.returns
returns g c =
    all_nothing 4 (four_at c.empty.result) (four_at c.empty-2.result) (four_at c.empty-3.result) (four_at c.empty-4.result) c.empty.ensures c.empty-2.ensures c.empty-3.ensures c.empty-4.ensures

use Rattle.shared_map.specs.Lookup.{four_at}
use Rattle.shared_map.proofs.Changes.{changed_join}
use Rattle.shared_map.proofs.row.Row.changed.Goals as goal

pub returns : goal.returns
returns g c =
    changed_join (g.C.Change.changed c.args.change.now) 4
    (four_at c.args.self.now.a) (four_at c.args.self.now.b) (four_at c.args.self.now.c) (four_at c.args.self.now.d)
    (four_at c.in_ok-changed.field-0) (four_at c.in_ok-changed-2.field-0) (four_at c.in_ok-changed-3.field-0) (four_at c.in_ok-changed-4.field-0)
    c.in_ok-changed.ensures c.in_ok-changed-2.ensures c.in_ok-changed-3.ensures c.in_ok-changed-4.ensures

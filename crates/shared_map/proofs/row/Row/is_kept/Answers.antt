use Rattle.std.proofs.Common.{refl}
use Rattle.shared_map.specs.Lookup.{four_at}
use Rattle.shared_map.proofs.Changes.{kept_join}
use Rattle.shared_map.proofs.row.Row.is_kept.Goals as goal

pub returns : goal.returns
returns g c = λ kept.
    kept_join (g.C.Change.changed c.args.change.now) 4
    (four_at c.args.self.now.a) (four_at c.args.self.now.b) (four_at c.args.self.now.c) (four_at c.args.self.now.d)
    (c.if-not-is_kept.ensures refl) (c.if-not-is_kept-2.ensures refl) (c.if-not-is_kept-3.ensures refl) (c.is_kept-4.ensures kept)

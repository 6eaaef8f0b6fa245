use Rattle.std.proofs.Common.{sym, ◌∙◌, ◌/◌, ◌≡◌, arith}
use Rattle.shared_map.specs.Lookup.{four_at}
use Rattle.shared_map.proofs.Joins.{put_a, put_b, put_c, put_d}
use Rattle.shared_map.proofs.row.Row.swap.Goals as goal

pub returns-in-0-clause-after : goal.returns-in-0-clause-after
returns-in-0-clause-after g c =
    put_a 4 c.args.key _ c.args.entry.now (four_at c.args.self.now.a) (four_at c.args.self.now.b) (four_at c.args.self.now.c) (four_at c.args.self.now.d) _
    (sym c.place-index.ensures.index ∙ c.in-0.is) c.place-index.ensures.rest c.swap.ensures.after

pub returns-in-1-clause-after : goal.returns-in-1-clause-after
returns-in-1-clause-after g c =
    put_b 4 c.args.key _ c.args.entry.now (four_at c.args.self.now.a) (four_at c.args.self.now.b) (four_at c.args.self.now.c) (four_at c.args.self.now.d) _
    (sym c.place-index.ensures.index ∙ c.in-1.is) c.place-index.ensures.rest c.swap-in-1.ensures.after

pub returns-in-2-clause-after : goal.returns-in-2-clause-after
returns-in-2-clause-after g c =
    put_c 4 c.args.key _ c.args.entry.now (four_at c.args.self.now.a) (four_at c.args.self.now.b) (four_at c.args.self.now.c) (four_at c.args.self.now.d) _
    (sym c.place-index.ensures.index ∙ c.in-2.is) c.place-index.ensures.rest c.swap-in-2.ensures.after

pub returns-in_default-clause-after : goal.returns-in_default-clause-after
returns-in_default-clause-after g c =
    let last : c.args.key / 4 ≡ 3 = grind (arith, c.in_default, c.requires, c.place-index.ensures.index) in
    put_d 4 c.args.key _ c.args.entry.now (four_at c.args.self.now.a) (four_at c.args.self.now.b) (four_at c.args.self.now.c) (four_at c.args.self.now.d) _
    last c.place-index.ensures.rest c.swap-in_default.ensures.after

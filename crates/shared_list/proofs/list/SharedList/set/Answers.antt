use Rattle.std.proofs.Common.{◌≡◌, ◌≤◌, length, sym, ap, ◌∙◌, arith}
use Rattle.std.specs.FinMap as map
use Rattle.shared_list.proofs.Lists.{length_listed, set_map, set_map_full, set_past}
use Rattle.shared_list.proofs.list.SharedList.set.Goals as goal

pub returns-then-place-len-clause-ok : goal.returns-then-place-len-clause-ok
returns-then-place-len-clause-ok g c =
    let size : length c.args.self.now ≡ map.len c.self.inside.items = ap length (sym c.self.view_is) ∙ length_listed _ _ c.self.invariant.0 in
    let past : map.len c.self.inside.items ≤ c.args.place = omega (arith, c.len.ensures, c.if-place-len.true) in
    sym (set_past c.args.self.now c.args.place c.args.item (omega (arith, size, past)))

pub invariant_of-self-2 : goal.invariant_of-self-2
invariant_of-self-2 g c =
    set_map_full c.self.inside.items c.insert.new.self c.args.place c.args.item (omega (arith, c.len.ensures, c.if-place-len.false))
    c.in_ok-insert.ensures.ok c.self.invariant

pub returns-clause-ok : goal.returns-clause-ok
returns-clause-ok g c =
    set_map c.self.inside.items c.insert.new.self c.args.place c.args.item c.args.self.now
    (omega (arith, c.len.ensures, c.if-place-len.false)) c.in_ok-insert.ensures.ok c.self.invariant c.self.view_is

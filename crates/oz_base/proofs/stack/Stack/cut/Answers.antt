use Rattle.std.proofs.Common.{◌≡◌, ◌+◌, ◌-◌, arith, length, ap, sym, ◌∙◌, reverse, take, drop, ◌++◌}
use Rattle.std.proofs.lemmas.List.{length-reverse}
use Rattle.oz_base.proofs.Cuts.{cut_turned}
use Rattle.oz_base.proofs.stack.Stack.cut.Goals as goal

pub returns : goal.returns
returns g c =
    let whole : length c.args.self.now ≡ length c.self.inside.items.items = ap length (sym c.self.view_is) ∙ length-reverse c.self.inside.items.items in
    ap reverse (c.drop.ensures.items ∙ c.drain.ensures.kept)
    ∙ cut_turned c.self.inside.items.items (c.len.result - c.args.uppermost - c.args.count) (c.len.result - c.args.uppermost) c.args.uppermost (c.args.uppermost + c.args.count)
    (omega (arith, c.requires, whole, c.len.ensures)) (omega (arith, c.requires, whole, c.len.ensures))
    ∙ ap (λ l. take c.args.uppermost l ++ drop (c.args.uppermost + c.args.count) l) c.self.view_is

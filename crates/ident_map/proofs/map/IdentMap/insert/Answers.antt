use Rattle.std.proofs.Common.{cond, Some, sym, ap, ◌∙◌}
use Rattle.oz_base.specs.Names.{ident_eq}
use Rattle.ident_map.specs.Entries.{entry, with_top}
use Rattle.ident_map.proofs.Rows.{top_written}
use Rattle.ident_map.proofs.map.IdentMap.insert.Goals as goal

pub returns-then-is_top-clause-ok : goal.returns-then-is_top-clause-ok
returns-then-is_top-clause-ok g c = λ y.
    ap (λ top. entry (with_top top c.self.inside.others.items) y) c.in-Ok.ensures.ok
    ∙ top_written c.self.inside.top c.self.inside.others.items c.args.x.now y c.args.value (sym c.is_top.ensures ∙ c.if-is_top.true)
    ∙ ap (λ rows. cond (ident_eq y c.args.x.now) (Some c.args.value) (entry rows y)) c.self.view_is

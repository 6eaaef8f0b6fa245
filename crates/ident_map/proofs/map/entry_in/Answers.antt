use Rattle.std.proofs.Common.{sym, ◌∙◌}
use Rattle.ident_map.proofs.Rows.{entry_at, entry_none}
use Rattle.ident_map.proofs.map.entry_in.Goals as goal

pub returns-in-Some : goal.returns-in-Some
returns-in-Some g c = c.get.ensures ∙ sym (entry_at _ c.in-Some.place c.index-rows-place.result c.args.x.now (sym c.row_of.ensures ∙ c.in-Some.is))

pub returns-in-None : goal.returns-in-None
returns-in-None g c = sym (entry_none _ c.args.x.now (sym c.row_of.ensures ∙ c.in-None.is))

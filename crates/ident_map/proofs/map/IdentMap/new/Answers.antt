use Rattle.ident_map.proofs.Rows.{entry_new}
use Rattle.ident_map.proofs.map.IdentMap.new.Goals as goal

pub returns : goal.returns
returns g c = λ x. entry_new _ _ x c.new.ensures c.new-2.ensures.items

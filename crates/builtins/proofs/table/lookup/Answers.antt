use Rattle.builtins.proofs.TableLaws.{finds}
use Rattle.builtins.proofs.table.lookup.Goals as goal

pub returns : goal.returns
returns c = finds c.args.name.now c.rows.result.now c.first_called.result c.rows.ensures.rows c.first_called.ensures

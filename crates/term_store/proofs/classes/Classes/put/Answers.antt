use Rattle.std.proofs.lemmas.Result.{on_ok_weaker}
use Rattle.term_store.proofs.ClassLaws.{likewise_unites}
use Rattle.term_store.proofs.classes.Classes.put.Goals as goal

pub returns-clause-ok : goal.returns-clause-ok
returns-clause-ok c =
    on_ok_weaker c.link.result (λ u. likewise_unites c.args.self.now c.raise_above.new.self c.link.new.self c.args.under.now.root c.args.over.now.root c.raise_above.ensures.likewise u) c.link.ensures.ok

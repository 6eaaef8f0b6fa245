use Rattle.term_store.specs.Classes.{kept_in}
use Rattle.term_store.proofs.ClassLaws.{unites_marks}
use Rattle.term_store.proofs.classes.Classes.put_with.Goals as goal

pub returns : goal.returns
returns c =
    unites_marks c.args.self.now c.put.new.self c.mark.new.self c.args.under.now.root c.args.over.now.root (kept_in c.args.self.now c.args.over.now.root) c.args.kept c.in_ok-put.ensures.ok c.in_ok-mark.ensures.ok

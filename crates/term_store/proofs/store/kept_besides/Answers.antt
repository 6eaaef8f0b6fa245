use Rattle.std.proofs.Common.{◌∙◌, Some, subst}
use Rattle.std.specs.Prelude.{IfOk, option_copied}
use Rattle.term_store.specs.Bounds.{Keeps}
use Rattle.term_store.specs.Logs.{told_in}
use Rattle.term_store.proofs.store.kept_besides.Goals as goal

pub returns : goal.returns
returns c =
    subst (λ d. IfOk c.kept_of_two.result (Keeps (told_in c.args.log.now) c.args.first (option_copied c.args.one) (Some d))) (c.in_ok-more.ensures ∙ c.new.ensures) c.kept_of_two.ensures

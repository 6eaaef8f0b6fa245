use Rattle.std.proofs.Common.{ap, sym, ◌∙◌, option_map}
use Rattle.std.specs.Vec.{vec_items}
use Rattle.std.specs.List.{list_any}
use Rattle.oz_semantics.specs.Store.{same}
use Rattle.oz_semantics.specs.Inputs.{Known}
use Rattle.builtins.proofs.DomainLaws.{none_waited, some_waited}
use Rattle.builtins.proofs.domain_readiness.distributing.Goals as goal

pub returns-in-None : goal.returns-in-None
returns-in-None c = λ view i e. none_waited i (ap (λ o. Known (option_map vec_items o)) (sym c.in-None.is) ∙ e)

pub returns-in-Some : goal.returns-in-Some
returns-in-Some c = λ view i e.
    let w = some_waited i c.in-Some.waits.items (ap (λ o. Known (option_map vec_items o)) (sym c.in-Some.is) ∙ e) in
    (w.0, c.in-Some.waits.items, w.1, w.2, λ z. ap (list_any (same view z)) c.from_vec.ensures)

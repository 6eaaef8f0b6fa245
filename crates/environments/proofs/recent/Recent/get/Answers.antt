use Rattle.std.proofs.Common.{sym, ap, ◌∙◌}
use Rattle.std.specs.FinMap as maps
use Rattle.std.specs.Arc.{arc_value}
use Rattle.environments.specs.Recents.{meant}
use Rattle.environments.proofs.RecentLaws.{get_here, get_there}
use Rattle.environments.proofs.recent.Recent.get.Goals as goal

pub returns-in-Over : goal.returns-in-Over
returns-in-Over c = c.get.ensures ∙ sym (ap (λ r. maps.get (meant r) c.args.code) c.in-Over.is) ∙ c.cells.invariant

pub returns-then-deref-code : goal.returns-then-deref-code
returns-then-deref-code c =
    let b = arc_value c.in-Newest.binding in
    rw c.deref-then-deref-code.ensures
    (sym (get_here (meant b.older) b.code c.args.code b.variable (ap (λ d. d.code) (sym c.deref.ensures) ∙ c.if-deref-code.true))
    ∙ sym (ap (λ r. maps.get (meant r) c.args.code) c.in-Newest.is) ∙ c.cells.invariant)

pub cells-preserved : goal.cells-preserved
cells-preserved c =
    let b = arc_value c.in-Newest.binding in
    rw c.deref-in-Newest.ensures
    (sym (get_there (meant b.older) b.code c.args.code b.variable (λ same. c.if-deref-code.false (ap (λ d. d.code) c.deref.ensures ∙ same)))
    ∙ sym (ap (λ r. maps.get (meant r) c.args.code) c.in-Newest.is) ∙ c.cells.invariant)

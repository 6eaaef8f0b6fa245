use Rattle.std.proofs.Common.{sym, ap, ◌∙◌}
use Rattle.recompute.specs.Origins.{Origin}
use Rattle.recompute.proofs.WayLaws.{begins_short, begins_way, begins}
use Rattle.recompute.proofs.explorer.begin.Goals as goal

pub solved-requires : goal.solved-requires
solved-requires g c = c.in_ok-machine.ensures.kernel ∙ ap (λ (q : Origin). q.kernel) c.frozen.ensures

pub returns-in_default-clause-goes : goal.returns-in_default-clause-goes
returns-in_default-clause-goes g c p =
    let x = c.args.source.now in
    begins_short g.T.Kind.SearchKind.search (g.T.Source.maker x) (g.met.T.Source.makes x) (g.T.Source.origin x) c.args.fuel c.args.way.now.items c.in_ok-machine.machine c.free.result p
    (sym (rw c.as_slice.ensures.value at c.is_empty.ensures) ∙ c.if-not-is_empty.false) (c.in_ok-machine.ensures.config ∙ ap (λ (q : Origin). q.config) c.frozen.ensures) (rw c.in_default.is at c.in_ok-root.ensures)

pub returns-clause-way : goal.returns-clause-way
returns-clause-way g c =
    let x = c.args.source.now in
    begins_way g.T.Kind.SearchKind.search (g.T.Source.maker x) (g.met.T.Source.makes x) (g.T.Source.origin x) c.args.fuel c.args.way.now.items c.push.new.self.items c.in_ok-machine.machine c.free.result c.in-Some.root
    (sym (rw c.as_slice.ensures.value at c.is_empty.ensures) ∙ c.if-not-is_empty.false) c.in_ok-push.ensures.items (c.in_ok-machine.ensures.kernel ∙ ap (λ (q : Origin). q.kernel) c.frozen.ensures)
    (c.in_ok-machine.ensures.config ∙ ap (λ (q : Origin). q.config) c.frozen.ensures) (rw c.in-Some.is at c.in_ok-root.ensures)

pub returns-clause-goes : goal.returns-clause-goes
returns-clause-goes g c p =
    let x = c.args.source.now in
    begins g.T.Kind.SearchKind.search (g.T.Source.maker x) (g.met.T.Source.makes x) (g.T.Source.origin x) c.args.fuel c.args.way.now.items c.push.new.self.items c.in_ok-machine.machine c.free.result c.in-Some.root p
    (sym (rw c.as_slice.ensures.value at c.is_empty.ensures) ∙ c.if-not-is_empty.false) c.in_ok-push.ensures.items (c.in_ok-machine.ensures.config ∙ ap (λ (q : Origin). q.config) c.frozen.ensures) (rw c.in-Some.is at c.in_ok-root.ensures)

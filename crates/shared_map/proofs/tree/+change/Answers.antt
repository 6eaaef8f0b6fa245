use Rattle.std.proofs.Common.{◌+◌, ◌-◌, ◌*◌, ◌^◌, ap, ◌∙◌}
use Rattle.std.specs.Prelude.{eqb}
use Rattle.std.specs.Arc.{arc_value}
use Rattle.shared_map.specs.Lookup.{lookup, quad_at, fork_at}
use Rattle.shared_map.specs.Changes.{changed_at}
use Rattle.shared_map.proofs.Changes.{changed_join, changed_above}
use Rattle.shared_map.proofs.tree.+change.Goals as goal

pub Fork::changed-returns-clause-value : goal.Fork::changed-returns-clause-value
Fork::changed-returns-clause-value g t c = λ h.
    changed_join (g.C.Change.changed c.args.change.now) (2 ^ (4 * h + 2))
    (quad_at h c.args.self.now.a) (quad_at h c.args.self.now.b) (quad_at h c.args.self.now.c) (quad_at h c.args.self.now.d)
    (quad_at h c.in_ok-changed.field-0) (quad_at h c.in_ok-changed-2.field-0) (quad_at h c.in_ok-changed-3.field-0) (quad_at h c.in_ok-changed-4.field-0)
    (c.in_ok-changed.ensures.value h) (c.in_ok-changed-2.ensures.value h) (c.in_ok-changed-3.ensures.value h) (c.in_ok-changed-4.ensures.value h)

pub Quad::changed-returns-clause-value : goal.Quad::changed-returns-clause-value
Quad::changed-returns-clause-value g t c = λ h.
    changed_join (g.C.Change.changed c.args.change.now) (2 ^ (4 * h))
    (lookup (h - 1) c.args.self.now.a) (lookup (h - 1) c.args.self.now.b) (lookup (h - 1) c.args.self.now.c) (lookup (h - 1) c.args.self.now.d)
    (lookup (h - 1) c.in_ok-changed.field-0) (lookup (h - 1) c.in_ok-changed-2.field-0) (lookup (h - 1) c.in_ok-changed-3.field-0) (lookup (h - 1) c.in_ok-changed-4.field-0)
    (c.in_ok-changed.ensures.value (h - 1)) (c.in_ok-changed-2.ensures.value (h - 1)) (c.in_ok-changed-3.ensures.value (h - 1)) (c.in_ok-changed-4.ensures.value (h - 1))

pub Tree::changed-returns-in_ok-new_shared-in-Fork-clause-value :
    goal.Tree::changed-returns-in_ok-new_shared-in-Fork-clause-value
Tree::changed-returns-in_ok-new_shared-in-Fork-clause-value g t c = λ h.
    rw c.in-Fork.is (changed_above (g.C.Change.changed c.args.change.now) (eqb h 0) (fork_at h (arc_value c.in-Fork.fork)) (fork_at h (arc_value c.in_ok-new_shared-in-Fork.field-0))
    (ap (fork_at h) c.in_ok-new_shared-in-Fork.ensures ∙ c.in_ok-after-in-Fork.ensures.value h ∙ ap (λ n. changed_at (g.C.Change.changed c.args.change.now) (fork_at h n)) c.deref-in-Fork.ensures))

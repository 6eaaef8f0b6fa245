use Rattle.std.proofs.Common.{◌+◌, ◌*◌, ◌^◌, ◌≡◌, refl}
use Rattle.std.specs.Prelude.{eqb}
use Rattle.std.specs.Arc.{arc_value}
use Rattle.shared_map.specs.Lookup.{quad_at, fork_at}
use Rattle.shared_map.specs.Changes.{changed_at}
use Rattle.shared_map.proofs.Changes.{kept_join, kept_above}
use Rattle.shared_map.proofs.tree.+kept.Goals as goal

pub Fork::is_kept-returns : goal.Fork::is_kept-returns
Fork::is_kept-returns g t c = λ kept h.
    kept_join (g.C.Change.changed c.args.change.now) (2 ^ (4 * h + 2))
    (quad_at h c.args.self.now.a) (quad_at h c.args.self.now.b) (quad_at h c.args.self.now.c) (quad_at h c.args.self.now.d)
    (c.if-not-is_kept.ensures refl h) (c.if-not-is_kept-2.ensures refl h) (c.if-not-is_kept-3.ensures refl h) (c.is_kept-4.ensures kept h)

pub Tree::is_kept-returns-in-Fork : goal.Tree::is_kept-returns-in-Fork
Tree::is_kept-returns-in-Fork g t c = λ kept h.
    let f = g.C.Change.changed c.args.change.now in
    let same : changed_at f (fork_at h (arc_value c.in-Fork.fork)) ≡ fork_at h (arc_value c.in-Fork.fork) = rw c.deref-in-Fork.ensures at (c.is_kept-in-Fork.ensures kept h) in
    rw c.in-Fork.is (kept_above f (eqb h 0) (fork_at h (arc_value c.in-Fork.fork)) same)

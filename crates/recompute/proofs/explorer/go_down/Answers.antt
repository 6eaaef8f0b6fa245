use Rattle.std.proofs.Common.{sym, ◌∙◌}
use Rattle.recompute.proofs.WayLaws.{ends_at, goes_refused, goes_short, goes_way, goes_on}
use Rattle.recompute.proofs.explorer.go_down.Goals as goal

pub opened-requires : goal.opened-requires
opened-requires g c =
    let x = c.args.source.now in
    let last = sym (rw c.as_slice-nodes.ensures.value at c.in-Some.ensures.value) in
    (ends_at g.T.Kind.SearchKind.search (g.T.Source.maker x) (g.met.T.Source.makes x) (g.T.Source.origin x) c.args.fuel c.args.way.now.items c.in-Some.node.now c.requires.way last).kernel

pub solved-requires : goal.solved-requires
solved-requires g c =
    let x = c.args.source.now in
    let last = sym (rw c.as_slice-nodes.ensures.value at c.in-Some.ensures.value) in
    let opens = rw c.in-Some-2.is at c.in_ok-machine.ensures in
    opens.1 ∙ (ends_at g.T.Kind.SearchKind.search (g.T.Source.maker x) (g.met.T.Source.makes x) (g.T.Source.origin x) c.args.fuel c.args.way.now.items c.in-Some.node.now c.requires.way last).kernel

pub returns-in_default-2-clause-goes : goal.returns-in_default-2-clause-goes
returns-in_default-2-clause-goes g c p =
    let x = c.args.source.now in
    let last = sym (rw c.as_slice-nodes.ensures.value at c.in-Some.ensures.value) in
    rw c.as_slice-nodes.ensures.value
    (goes_refused g.T.Kind.SearchKind.search (g.T.Source.maker x) (g.met.T.Source.makes x) (g.T.Source.origin x) c.args.fuel c.args.branch c.args.way.now.items c.in-Some.node.now p c.requires.way last (rw c.in_default-2.is at c.in_ok-machine.ensures))

pub returns-in_default-3-clause-goes : goal.returns-in_default-3-clause-goes
returns-in_default-3-clause-goes g c p =
    let x = c.args.source.now in
    let last = sym (rw c.as_slice-nodes.ensures.value at c.in-Some.ensures.value) in
    rw c.as_slice-nodes.ensures.value
    (goes_short g.T.Kind.SearchKind.search (g.T.Source.maker x) (g.met.T.Source.makes x) (g.T.Source.origin x) c.args.fuel c.args.branch c.args.way.now.items c.in-Some.node.now c.in-Some-2.machine p c.requires.way last
    (rw c.in-Some-2.is at c.in_ok-machine.ensures) (rw c.in_default-3.is at c.in_ok-child.ensures))

pub returns-clause-way : goal.returns-clause-way
returns-clause-way g c =
    let x = c.args.source.now in
    let last = sym (rw c.as_slice-nodes.ensures.value at c.in-Some.ensures.value) in
    goes_way g.T.Kind.SearchKind.search (g.T.Source.maker x) (g.met.T.Source.makes x) (g.T.Source.origin x) c.args.fuel c.args.branch c.args.way.now.items c.push.new.self.items c.in-Some.node.now c.in-Some-3.child c.in-Some-2.machine c.requires.way last
    (rw c.in-Some-2.is at c.in_ok-machine.ensures) (rw c.in-Some-3.is at c.in_ok-child.ensures) c.in_ok-push.ensures.items

pub returns-clause-goes : goal.returns-clause-goes
returns-clause-goes g c p =
    let x = c.args.source.now in
    let last = sym (rw c.as_slice-nodes.ensures.value at c.in-Some.ensures.value) in
    goes_on g.T.Kind.SearchKind.search (g.T.Source.maker x) (g.met.T.Source.makes x) (g.T.Source.origin x) c.args.fuel c.args.branch c.args.way.now.items c.push.new.self.items c.in-Some.node.now c.in-Some-3.child c.in-Some-2.machine p c.requires.way last
    (rw c.in-Some-2.is at c.in_ok-machine.ensures) (rw c.in-Some-3.is at c.in_ok-child.ensures) c.in_ok-push.ensures.items

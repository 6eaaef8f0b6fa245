use Rattle.term_store.proofs.FittingLaws.{joined_on}
use Rattle.term_store.proofs.closing.Draft.settle.Goals as goal

pub pairs-preserved-else-not-branch : goal.pairs-preserved-else-not-branch
pairs-preserved-else-not-branch c =
    let s = c.args.self.now in
    let o = c.pairs.self in
    let n = c.meet.new.self in
    joined_on s.log o.log n.log s.classes o.classes n.classes c.pop.new.self.items n.pending.items s.touched.items o.touched.items n.touched.items c.in_ok-meet.field-0 c.if-not-branch.false c.meet.ensures.log c.pairs.invariant.0
    c.in_ok-meet.ensures.comes c.pairs.invariant.2

pub pairs-preserved : goal.pairs-preserved
pairs-preserved c =
    let s = c.args.self.now in
    let o = c.pairs.self in
    let n = c.meet.new.self in
    joined_on s.log o.log n.log s.classes o.classes n.classes c.pop.new.self.items n.pending.items s.touched.items o.touched.items n.touched.items c.in_ok-meet.field-0 c.if-not-branch.false c.meet.ensures.log c.pairs.invariant.0
    c.in_ok-meet.ensures.comes c.pairs.invariant.2

use Rattle.std.proofs.Common.{subst}
use Rattle.term_store.specs.Telling.{IsTold}
use Rattle.space_core.proofs.ConstraintLaws.{kept_watched, told_watched}
use Rattle.space_core.proofs.constraints.Constraints.tell.Goals as goal

pub invariant_of-self : goal.invariant_of-self
invariant_of-self c =
    kept_watched c.self.inside.store c.tell.new.self c.self.inside.propagators c.self.inside.watch c.foresee-foresight.new.self c.self.inside.watched c.self.invariant c.in_err-tell.ensures.err
    c.foresee-foresight.ensures.keeps

pub invariant_of-self-then-not-branch : goal.invariant_of-self-then-not-branch
invariant_of-self-then-not-branch c =
    kept_watched c.self.inside.store c.tell.new.self c.self.inside.propagators c.self.inside.watch c.foresee-foresight.new.self c.self.inside.watched c.self.invariant
    (subst (IsTold c.self.inside.store c.args.tells.now c.tell.new.self c.taken-noted.result.items c.tell.new.touched.items) c.if-not-branch.true c.in_ok-tell.ensures.told).0
    c.foresee-foresight.ensures.keeps

pub invariant_of-self-2 : goal.invariant_of-self-2
invariant_of-self-2 c =
    told_watched c.self.inside.store c.tell.new.self c.args.tells.now c.self.inside.propagators c.as_slice.result.now c.as_slice.ensures c.self.inside.watch c.foresee-foresight.new.self c.follow.new.watch
    c.self.inside.watched c.len-self-inside.result c.self.invariant c.foresee-foresight.result c.foresee-foresight.ensures.foretells c.taken-noted.result.items c.tell.new.touched.items c.as_slice-2.result.now
    c.taken-noted.ensures c.as_slice-2.ensures.value
    (subst (IsTold c.self.inside.store c.args.tells.now c.tell.new.self c.taken-noted.result.items c.tell.new.touched.items) c.if-not-branch.false c.in_ok-tell.ensures.told)
    c.follow.ensures c.len-self-inside.ensures

use Rattle.std.proofs.Common.{List, sym, subst, ◌∙◌}
use Rattle.oz_semantics.specs.declared.configuration.Thread.{Thread}
use Rattle.space_core.specs.Threads.{IsKept}
use Rattle.space_core.specs.declared.ended.Ended.TheVariants.{Nobody}
use Rattle.space_core.proofs.ThreadLaws.{absent_ended, dropped_ended, kept_absent, kept_filtered, none_ended, others_go}
use Rattle.space_core.proofs.threads.Threads.drop_terminated.Goals as goal

pub invariant_of-self : goal.invariant_of-self
invariant_of-self c =
    kept_absent c.self.inside.threads c.self.inside.next c.self.inside.ended c.args.self.now c.self.invariant c.self.view_is c.in-AtMost.number c.in-AtMost.is c.in_default.ensures

pub returns-in_default : goal.returns-in_default
returns-in_default c =
    c.self.view_is ∙ absent_ended c.self.inside.threads c.self.inside.next c.self.inside.ended c.args.self.now c.self.invariant c.self.view_is c.in-AtMost.number c.in-AtMost.is c.in_default.ensures

pub invariant_of-self-in-AtMost : goal.invariant_of-self-in-AtMost
invariant_of-self-in-AtMost c =
    let found = c.in-Some.ensures in
    let others = others_go c.self.inside.threads c.self.inside.next c.self.inside.ended c.self.invariant c.args.self.now c.self.view_is c.in-AtMost.number c.in-AtMost.is c.in-Some.place found.0 found.1 in
    subst (λ (ts : List Thread). IsKept ts c.self.inside.next Nobody) (sym (c.drop_at.ensures others)) (kept_filtered c.self.inside.threads c.self.inside.next c.self.inside.ended c.self.invariant)

pub invariant_of-self-in-Several : goal.invariant_of-self-in-Several
invariant_of-self-in-Several c =
    subst (λ (ts : List Thread). IsKept ts c.self.inside.next Nobody) (sym c.drop_terminated.ensures) (kept_filtered c.self.inside.threads c.self.inside.next c.self.inside.ended c.self.invariant)

pub returns-in-Nobody : goal.returns-in-Nobody
returns-in-Nobody c = none_ended c.self.inside.threads c.self.inside.next c.self.inside.ended c.args.self.now c.self.invariant c.self.view_is c.in-Nobody.is

pub returns-in-Some : goal.returns-in-Some
returns-in-Some c =
    let found = c.in-Some.ensures in
    let others = others_go c.self.inside.threads c.self.inside.next c.self.inside.ended c.self.invariant c.args.self.now c.self.view_is c.in-AtMost.number c.in-AtMost.is c.in-Some.place found.0 found.1 in
    dropped_ended c.self.inside.threads c.drop_at.new.threads c.self.inside.next c.args.self.now c.self.view_is (c.drop_at.ensures others)

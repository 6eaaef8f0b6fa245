use Rattle.std.proofs.Common.{◌≡◌, ◌∙◌, sym, subst}
use Rattle.oz_base.specs.IdentLaws.{ident_eq-equal}
use Rattle.term_store.specs.Taking.{Takes}
use Rattle.term_store.specs.Logs.{told_in}
use Rattle.term_store.proofs.ClassLaws.{other_than}
use Rattle.term_store.proofs.TakingLaws.{skipped, taken_true, taken_false, noted_two}
use Rattle.term_store.proofs.closing.Draft.meet.Goals as goal

pub returns-then-eq-clause-comes : goal.returns-then-eq-clause-comes
returns-then-eq-clause-comes c =
    let s = c.args.self.now in
    let e = ident_eq-equal c.root-a.result.now c.root-b.result.now (sym c.eq.ensures ∙ c.if-eq.true) in
    skipped (told_in s.log) s.classes s.classes s.pending.items s.pending.items s.touched.items s.touched.items c.args.left.now c.args.right.now c.requires (sym c.root-a.ensures.root ∙ e ∙ c.root-b.ensures.root)

pub returns-then-not-branch-clause-comes : goal.returns-then-not-branch-clause-comes
returns-then-not-branch-clause-comes c =
    let s = c.args.self.now in
    let n = c.join.new.self in
    let ea = c.in_ok-a.ensures ∙ c.root-a.ensures.root in
    let eb = c.in_ok-b.ensures ∙ c.root-b.ensures.root in
    let apart = λ (e : c.in_ok-a.a ≡ c.in_ok-b.b). other_than c.root-a.result.now c.root-b.result.now (sym c.eq.ensures ∙ c.if-eq.false) (sym c.in_ok-a.ensures ∙ e ∙ c.in_ok-b.ensures) in
    taken_false (told_in s.log) s.classes n.classes s.pending.items n.pending.items s.touched.items n.touched.items c.args.left.now c.args.right.now c.requires c.in_ok-a.a c.in_ok-b.b ea eb apart
    (subst (Takes (told_in s.log) s.classes n.classes c.in_ok-a.a c.in_ok-b.b s.pending.items n.pending.items) c.if-not-branch.true c.in_ok-join.ensures.takes)

pub returns-clause-comes : goal.returns-clause-comes
returns-clause-comes c =
    let s = c.args.self.now in
    let n = c.join.new.self in
    let ea = c.in_ok-a.ensures ∙ c.root-a.ensures.root in
    let eb = c.in_ok-b.ensures ∙ c.root-b.ensures.root in
    let apart = λ (e : c.in_ok-a.a ≡ c.in_ok-b.b). other_than c.root-a.result.now c.root-b.result.now (sym c.eq.ensures ∙ c.if-eq.false) (sym c.in_ok-a.ensures ∙ e ∙ c.in_ok-b.ensures) in
    let noted = noted_two s.touched.items n.touched.items c.push.new.self.items c.push-2.new.self.items c.in_ok-a.a c.in_ok-b.b c.in_ok-join.ensures.touched c.in_ok-push.ensures.items c.in_ok-push-2.ensures.items in
    taken_true (told_in s.log) s.classes n.classes s.pending.items n.pending.items s.touched.items c.push-2.new.self.items c.args.left.now c.args.right.now c.requires c.in_ok-a.a c.in_ok-b.b ea eb apart noted
    (subst (Takes (told_in s.log) s.classes n.classes c.in_ok-a.a c.in_ok-b.b s.pending.items n.pending.items) c.if-not-branch.false c.in_ok-join.ensures.takes)

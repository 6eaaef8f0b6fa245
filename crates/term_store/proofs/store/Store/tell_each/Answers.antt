use Rattle.std.proofs.Common.{true, [], refl, sym, subst}
use Rattle.term_store.specs.Closing.{Going}
use Rattle.term_store.specs.Telling.{IsTold}
use Rattle.term_store.proofs.AnswerLaws.{store_consistent}
use Rattle.term_store.proofs.SequenceLaws.{told_nothing, each_goes, each_clashes, each_ends}
use Rattle.term_store.proofs.store.Store.tell_each.Goals as goal

pub loop-tell-init : goal.loop-tell-init
loop-tell-init c =
    let going = subst (λ ts. Going ts c.self.inside.classes []) c.self.view_is c.self.invariant in
    subst (λ ts. IsTold c.args.self.now [] ts c.args.touched.now.items c.args.touched.now.items true) (sym c.in_ok-copy.ensures)
    (told_nothing c.args.self.now c.args.touched.now.items (store_consistent c.args.self.now c.self.inside.classes going))

pub returns-then-not-branch-clause-told : goal.returns-then-not-branch-clause-told
returns-then-not-branch-clause-told c = (refl, each_clashes c.args.self.now c.args.tells.now c.loop-tell.tell-index c.tell-item.result c.loop-tell-test.true c.tell-item.is c.loop-tell.copy c.tell_one.new.self c.args.touched.now.items c.loop-tell.touched.items c.tell_one.new.touched.items c.in_ok-tell_one.field-0 c.loop-tell.invariant c.in_ok-tell_one.ensures.told c.if-not-branch.true)

pub loop-tell-preserved : goal.loop-tell-preserved
loop-tell-preserved c = each_goes c.args.self.now c.args.tells.now c.loop-tell.tell-index c.tell-item.result c.loop-tell-test.true c.tell-item.is c.loop-tell.copy c.tell_one.new.self c.args.touched.now.items c.loop-tell.touched.items c.tell_one.new.touched.items c.in_ok-tell_one.field-0 c.loop-tell.invariant c.in_ok-tell_one.ensures.told c.if-not-branch.false

pub returns-clause-told : goal.returns-clause-told
returns-clause-told c =
    each_ends c.args.self.now c.args.tells.now c.loop-tell.tell-index c.loop-tell-test.false c.loop-tell.copy c.args.touched.now.items c.loop-tell.touched.items c.loop-tell.invariant _ c.copy-2.view_is

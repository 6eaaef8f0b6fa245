use Rattle.std.proofs.Common.{◌∙◌, ◌+◌, drop, true, false, ap, sym, subst}
use Rattle.fd_inputs.specs.News.{told_ones, Marks}
use Rattle.fd_inputs.proofs.NewsLaws.{one_chosen}
use Rattle.fd_inputs.proofs.MarkLaws.{one_mark}
use Rattle.fd_inputs.proofs.news.chosen_ones.Goals.{then-branch+in_ok-add, else-branch}
use Rattle.fd_inputs.proofs.news.chosen_ones.Goals as goal

pub loop-x-preserved : goal.loop-x-preserved
loop-x-preserved c = elim c.if-branch.branch [
  | then-branch+in_ok-add w ↦ rw w.chosen-is (
    ap (λ l. told_ones c.args.store.now c.args.interval l (drop (c.loop-x.x-index + 1) c.args.xs.now)) w.in_ok-add.ensures.variables
        ∙ one_chosen c.args.store.now c.args.interval c.loop-x.chosen.variables.items c.args.xs.now c.loop-x.x-index c.x-item.result true _ c.loop-x-test.true c.x-item.is (sym w.if-branch.true ∙ c.in_ok-is_chosen.ensures) c.loop-x.invariant.0,
    subst (λ l. Marks c.classes-classes.result.now l w.add.new.self.marks) (sym w.in_ok-add.ensures.variables)
        (one_mark c.classes-classes.result.now c.loop-x.chosen.variables.items c.loop-x.chosen.marks w.add.new.self.marks c.x-item.result w.root.result.now c.loop-x.invariant.1 w.root.ensures.root w.in_ok-add.ensures.marks),
  )
  | else-branch w ↦ rw w.chosen-is (
    one_chosen c.args.store.now c.args.interval c.loop-x.chosen.variables.items c.args.xs.now c.loop-x.x-index c.x-item.result false _ c.loop-x-test.true c.x-item.is (sym w.if-branch.false ∙ c.in_ok-is_chosen.ensures) c.loop-x.invariant.0,
    c.loop-x.invariant.1,
  )
]

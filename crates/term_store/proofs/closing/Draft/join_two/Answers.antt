use Rattle.std.proofs.Common.{ap}
use Rattle.std.proofs.lemmas.Result.{IfOk-weaker}
use Rattle.term_store.specs.Logs.{told_in}
use Rattle.term_store.proofs.FittingLaws.{takes_kept}
use Rattle.term_store.proofs.closing.Draft.join_two.Goals as goal

pub returns-in-First-clause-takes : goal.returns-in-First-clause-takes
returns-in-First-clause-takes c =
    let s = c.args.self.now in
    let f = c.first_of_two.new.self in
    let n = c.join_kept.new.self in
    IfOk-weaker c.join_kept.result _ _
    (λ goes k. takes_kept (told_in s.log) (told_in f.log) s.classes f.classes n.classes c.args.left.now c.args.right.now s.pending.items f.pending.items n.pending.items c.in_ok-first_of_two.field-0 c.in-First.first goes
    (ap told_in c.first_of_two.ensures.log) c.first_of_two.ensures.classes c.join_kept.ensures.pending c.in_ok-first_of_two.ensures.first c.in-First.is k)
    c.join_kept.ensures.joins

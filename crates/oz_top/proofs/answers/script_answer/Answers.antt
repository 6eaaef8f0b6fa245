use Rattle.std.proofs.Common.{◌≡◌, ◌-◌, [], subst, sym}
use Rattle.std.proofs.lemmas.Result.{IfOk-weaker}
use Rattle.oz_language.specs.declared.kernel.Kernel.{Kernel}
use Rattle.oz_semantics.specs.Runs.{Ended, run, opening}
use Rattle.oz_replies.specs.BestReplies.{IsToldOf}
use Rattle.oz_top.proofs.CostLaws.{rests_alike}
use Rattle.oz_top.proofs.answers.script_answer.Goals as goal

pub best_answer-requires-clause-rests : goal.best_answer-requires-clause-rests
best_answer-requires-clause-rests g c = λ lives outlives.
    let r = c.rests_law.ensures c.requires.read.0 c.args.program c.requires.cost.0 c.args.budget c.requires.read.1 c.requires.cost.1.script c.requires.budget.0 in
    rests_alike _ _ c.args.budget (c.args.budget - 1) r.0 c.in_ok-kernel.ensures r.1

pub returns : goal.returns
returns g c =
    let p = c.args.program in
    let left = c.args.budget - 1 in
    let read = c.requires.read in
    let s = c.requires.cost in
    let r = c.rests_law.ensures read.0 p s.0 c.args.budget read.1 s.1.script c.requires.budget.0 in
    let is = c.in_ok-kernel.ensures in
    IfOk-weaker c.best_answer.result _ _ (λ plan told. (
      told.0,
      c.best_answer_law.ensures read.0 p s.0 c.args.cost.place c.args.cost.feature c.args.budget left r.0 c.args.workers told.0 read.1 s.1 r.1
          (subst (λ (k : Kernel). IsToldOf k c.args.cost.feature r.0 c.args.budget left c.args.workers told.0) is told.1),
      told.2,
    ))
    (c.best_answer.ensures r.0 left (subst (λ (k : Kernel). run k [] (opening k) c.args.budget ≡ Ended r.0 left) (sym is) r.1))

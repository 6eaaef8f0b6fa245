use Rattle.std.proofs.Common.{◌∙◌, [], ◌∷◌, sym, ap}
use Rattle.oz_semantics.specs.Sights.{Sight}
use Rattle.oz_semantics.specs.Answers.{argument}
use Rattle.oz_semantics.specs.Builtins.{answer}
use Rattle.builtins.specs.Exact.{erased}
use Rattle.builtins.proofs.ChoiceLaws.{chosen}
use Rattle.builtins.proofs.calls.answers.Goals as goal

pub returns-in-Choose : goal.returns-in-Choose
returns-in-Choose c = λ statements.
    let s : Sight = record { statements = statements; space = c.args.space.now; view = c.args.store.now } in
    c.choose.ensures ∙ sym (chosen c.args.store.now c.args.second.now c.args.first.now)
    ∙ ap (λ b. erased (answer s b (argument (c.args.first.now ∷ c.args.second.now ∷ c.args.third.now ∷ [])))) (sym c.in-Choose.is)

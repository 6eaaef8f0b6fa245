use Rattle.std.proofs.Common.{◌∙◌, ap}
use Rattle.std.proofs.lemmas.Result.{IfOk-weaker}
use Rattle.oz_semantics.specs.Constraints.{confined}
use Rattle.fd_inputs.proofs.NewsLaws.{news_are}
use Rattle.fd_inputs.proofs.news.interval_news.Goals as goal

pub returns : goal.returns
returns c =
    IfOk-weaker c.confinements.result _ _
    (λ tells k. k ∙ ap (λ l. confined l c.args.interval) (c.as_slice.ensures.value ∙ c.in_ok-ones.ensures) ∙ news_are c.args.store.now c.args.interval c.args.xs.now)
    c.confinements.ensures

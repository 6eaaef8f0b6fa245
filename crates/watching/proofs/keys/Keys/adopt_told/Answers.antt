use Rattle.std.proofs.Common.{Contains, subst}
use Rattle.std.proofs.lemmas.Result.{on_ok_weaker}
use Rattle.watching.proofs.keys.Keys.adopt_told.Goals as goal

pub returns-in-Within : goal.returns-in-Within
returns-in-Within c =
    on_ok_weaker c.adopt.result (λ f ps tells part told. f ps tells c.in-Within.intervals part (subst (Contains tells) c.in-Within.is told)) c.adopt.ensures

-- What a history of a script's best search tells is a right answer (branch and bound: Schulte, LNCS 2302, on search; CTM 12.1).
use Rattle.std.specs.Prelude.{◌≡◌, ℕ, List, []}
use Rattle.oz_language.specs.declared.kernel.Constant.{Constant}
use Rattle.oz_language.specs.Refusals.{Program, Accepts}
use Rattle.oz_language.specs.Translation.{kernel_of}
use Rattle.oz_semantics.specs.Runs.{Ended, run, opening}
use Rattle.oz_semantics.specs.declared.configuration.Configuration.{Configuration}
use Rattle.oz_replies.specs.BestReplies.{BestAnswer, IsToldOf, IsBestAnswer}
use Rattle.fd_form.specs.Costs.{HasCost}
use Rattle.fd_form.specs.declared.script.FdScript.{FdScript}

-- what a history tells of a script with a cost is right
abbrev pub BestAnswerLaw : Type 0
BestAnswerLaw = (text : List ℕ) (p : Program) (s : FdScript) (place : ℕ) (feature : Constant) (budget left : ℕ) (top : Configuration) (workers : ℕ) (a : BestAnswer)
    → Accepts text p → HasCost p s place feature → run (kernel_of p) [] (opening (kernel_of p)) budget ≡ Ended top left
    → IsToldOf (kernel_of p) feature top budget left workers a → IsBestAnswer p workers budget a

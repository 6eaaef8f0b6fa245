use Rattle.oz_machine.proofs.DeclareLaws.{some_weaker}
use Rattle.oz_machine.proofs.declarations.declaration.Goals as goal

pub returns : goal.returns
returns c = some_weaker c.declared.result _ _ (λ d h. record { frame = c.in_ok-top_frame.field-0.now; top = c.in_ok-top_frame.ensures; answers = h }) c.declared.ensures

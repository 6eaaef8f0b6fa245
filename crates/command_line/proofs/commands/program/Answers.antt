use Rattle.std.proofs.lemmas.Result.{IfOk-weaker}
use Rattle.command_line.proofs.Builds.{adds_command}
use Rattle.command_line.proofs.commands.program.Goals as goal

pub returns : goal.returns
returns c =
    let first = adds_command _ _ _ _ _ c.start.ensures c.in_ok-all.ensures.app c.in_ok-all.ensures.local c.in_ok-subcommand.ensures in
    let second = adds_command _ _ _ _ _ first c.in_ok-run.ensures.app c.in_ok-run.ensures.local c.in_ok-subcommand-2.ensures in
    let third = adds_command _ _ _ _ _ second c.in_ok-best.ensures.app c.in_ok-best.ensures.local c.in_ok-subcommand-3.ensures in
    IfOk-weaker c.subcommand-4.result _ _ (λ new h. adds_command _ _ new _ _ third c.kernel.ensures.app c.kernel.ensures.local h) c.subcommand-4.ensures

use Rattle.std.proofs.Common.{◌-◌, length, arith}
use Rattle.open_constructs.proofs.Views.{stack_last}
use Rattle.open_constructs.proofs.stack.innermost.Goals as goal

pub returns-clause-some : goal.returns-clause-some
returns-clause-some c =
    stack_last c.args.stack.now (length c.args.stack.now - 1) c.index-stack-last.result (omega arith) c.index-stack-last.is

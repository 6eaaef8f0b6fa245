use Rattle.std.proofs.Common.{arith}
use Rattle.std.proofs.lemmas.Int.{ints}
use Rattle.fd_inputs.proofs.PartLaws.{below_greatest}
use Rattle.fd_inputs.proofs.parts.next_above.Goals as goal

pub overflow_add-result : goal.overflow_add-result
overflow_add-result c =
    let below = below_greatest c.args.value c.args.domain.now c.max.ensures.domain c.requires in
    omega (arith, ints, below)

pub returns : goal.returns
returns c =
    let below = below_greatest c.args.value c.args.domain.now c.max.ensures.domain c.requires in
    omega (arith, ints, below)

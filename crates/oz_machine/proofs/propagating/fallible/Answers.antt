use Rattle.std.proofs.Common.{◌∙◌, ◌+◌, sym, ap, arith}
use Rattle.oz_semantics.specs.Settling.{may_fail}
use Rattle.oz_machine.proofs.FallibleLaws.{fallible_more, one_at_most}
use Rattle.oz_machine.proofs.propagating.fallible.Goals as goal

pub loop-place-preserved : goal.loop-place-preserved
loop-place-preserved c =
    let one = one_at_most (may_fail c.status_at.result.now) c.count_of-count.result c.count_of-count.ensures in
    let held = c.loop-place.invariant.within in
    record {
      counted =
          ap (λ n. n + c.count_of-count.result) c.loop-place.invariant.counted
          ∙ sym (fallible_more c.args.levels.now c.loop-place.place c.count_of-count.result c.status_at.result.now (omega arith) c.status_at.ensures c.count_of-count.ensures);
      within = omega (arith, one, held);
    }

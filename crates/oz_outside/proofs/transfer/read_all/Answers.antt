use Rattle.std.proofs.Common.{◌≡◌, ◌≤◌, ◌++◌, ◌-◌, length, take, arith, vec_len, length-append}
use Rattle.std.proofs.lemmas.List.{length-take}
use Rattle.std.proofs.Common.{rules, ℕ}
use Rattle.std.proofs.lemmas.Grind.{common_steps}
use Rattle.std.proofs.KnownBytes.{Consumes-trans}
use Rattle.oz_outside.proofs.transfer.read_all.Goals as goal

-- where memory is wanting, what was kept and the last piece were consumed
pub returns-then-is_err-clause-most : goal.returns-then-is_err-clause-most
returns-then-is_err-clause-most g c =
    let old = c.reads.bytes.items in
    let more = take c.in-Ok.n c.read.new.buf in
    let short : length more ≤ 1048577 - vec_len c.reads.bytes = grind (arith, common_steps, length-take {A = ℕ}) in
    let whole : length old ≡ vec_len c.reads.bytes = search rules in
    let fits : length (old ++ more) ≤ 1048577 = omega (arith, length-append old more) in (
      old ++ more,
      fits,
      Consumes-trans (g.S.Source.left c.args.source.now) (g.S.Source.left c.reads.source) (g.S.Source.left c.read.new.self) old more
          c.reads.invariant.read c.in-Ok.ensures.bytes.0,
    )

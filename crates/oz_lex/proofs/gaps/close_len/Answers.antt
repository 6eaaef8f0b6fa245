use Rattle.std.proofs.Common.{arith, drop, ◌≡◌, sym, ap, ◌∙◌, false}
use Rattle.oz_lex.proofs.Closings.{next, short, tail}
use Rattle.oz_lex.specs.Scanning.{begins_close}
use Rattle.oz_lex.proofs.gaps.close_len.Goals as goal

pub loop-n-preserved : goal.loop-n-preserved
loop-n-preserved c =
    let xs = c.args.text.now in
    let n = c.loop-n.n in
    let f : begins_close (drop n xs) ≡ false = ap begins_close (sym (tail xs n)) ∙ sym c.begins_close.ensures ∙ c.if-begins_close.false in
    record { within = omega arith; far = next xs n f c.loop-n-test.true c.loop-n.invariant.far }

pub returns-clause-value : goal.returns-clause-value
returns-clause-value c = short c.args.text.now c.loop-n.n (omega arith) c.loop-n.invariant.far

use Rattle.std.proofs.Common.{◌≡◌, ◌+◌, get_or, arith}
use Rattle.std.specs.Char.{digit_value}
use Rattle.std.proofs.lemmas.Int.Digits.{digits_value_more}
use Rattle.oz_lex.proofs.Digits.{digit_at, too_large}
use Rattle.oz_lex.proofs.integers.number_of.Goals as goal

pub returns-in_err-checked_mul-clause-large : goal.returns-in_err-checked_mul-clause-large
returns-in_err-checked_mul-clause-large c = rw c.from_residual.ensures (too_large c.args.digits.now c.loop-digit.digit-index c.loop-digit-test.true (omega (arith, c.in_err-checked_mul.ensures, c.loop-digit.invariant.value)))

pub returns-in_err-number-clause-large : goal.returns-in_err-number-clause-large
returns-in_err-number-clause-large c =
    let ds = c.args.digits.now in
    let i = c.loop-digit.digit-index in
    let d : digit_value (get_or ds i 0) + 48 ≡ get_or ds i 0 = digit_at ds i c.requires c.loop-digit-test.true in
    let e = c.in_err-number.ensures in
    let m = c.in_ok-checked_mul.ensures.1 in
    rw c.from_residual-in_err-number.ensures (too_large ds i c.loop-digit-test.true (omega (arith, d, e, m, c.loop-digit.invariant.value)))

pub loop-digit-preserved : goal.loop-digit-preserved
loop-digit-preserved c =
    let ds = c.args.digits.now in
    let i = c.loop-digit.digit-index in
    let d : digit_value (get_or ds i 0) + 48 ≡ get_or ds i 0 = digit_at ds i c.requires c.loop-digit-test.true in
    let e = c.in_ok-number.ensures in
    let m = c.in_ok-checked_mul.ensures.1 in
    let v = digits_value_more 10 ds i c.loop-digit-test.true in
    record { value = omega (arith, d, e.1, m, v, c.loop-digit.invariant.value); small = omega (arith, e.0, e.1) }

use Rattle.std.proofs.Common.{◌+◌, ap, ◌∙◌, arith, length-drop}
use Rattle.oz_lex.specs.Scanning.{step_length}
use Rattle.oz_lex.proofs.Closings.{tail}
use Rattle.oz_lex.proofs.QuoteLaws.{next_step}
use Rattle.oz_lex.proofs.quotes.inner_len.Goals as goal

pub loop-step-preserved : goal.loop-step-preserved
loop-step-preserved c =
    let text = c.args.text.now in
    let n = c.loop-step.len + c.loop-step.step in
    let rest = tail text n in
    let w = c.step_len-step-in-loop-step.ensures.within in
    record {
      goes_on = next_step c.args.quote text c.loop-step.len c.loop-step.step c.loop-step.invariant.goes_on c.loop-step.invariant.next c.loop-step-test.true;
      next = c.step_len-step-in-loop-step.ensures.value ∙ ap (step_length c.args.quote) rest;
      fits = omega (arith, rw rest at w, length-drop n text);
    }

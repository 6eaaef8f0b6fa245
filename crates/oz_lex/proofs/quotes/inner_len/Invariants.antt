use Rattle.std.proofs.Common.{◌≡◌, ◌≤◌, ◌-◌, length, drop}
use Rattle.oz_lex.specs.Scanning.{step_length, GoesOn}
use Rattle.oz_lex.proofs.quotes.inner_len.Given as goal

abbrev pub invariant-loop-step : goal.invariant-loop-step
invariant-loop-step l = record {
  goes_on : GoesOn l.quote l.text l.len;
  next : l.step ≡ step_length l.quote (drop l.len l.text);
  fits : l.step ≤ length l.text - l.len;
}

abbrev pub decreases-loop-step : goal.decreases-loop-step
decreases-loop-step l = length l.text - l.len

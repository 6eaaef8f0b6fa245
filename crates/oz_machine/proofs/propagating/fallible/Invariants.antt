use Rattle.std.proofs.Common.{◌≡◌, ◌≤◌, take}
use Rattle.oz_machine.specs.Propagating.{fallible}
use Rattle.oz_machine.proofs.propagating.fallible.Given as goal

-- those passed so far that may fail
abbrev pub invariant-loop-place : goal.invariant-loop-place
invariant-loop-place l = record {
  counted : l.count ≡ fallible (take l.place l.levels);
  within : l.count ≤ l.place;
}

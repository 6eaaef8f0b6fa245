use Rattle.std.proofs.Common.{◌≡◌, ◌+◌, ◌-◌, ◌≤◌, length, drop}
use Rattle.oz_semantics.specs.Spaces.{states_behind}
use Rattle.stability.specs.Known.{known}
use Rattle.stability.proofs.behind.states_behind.Given as goal

-- the states are known of the spaces from the place on
abbrev pub invariant-levels : goal.invariant-levels
invariant-levels l = record {
  from : l.from ≤ l.place;
  counted : length l.states + l.place ≡ length l.levels;
  told : known l.levels l.states ≡ states_behind l.statements l.levels (drop l.place l.levels);
}

abbrev pub decreases-levels : goal.decreases-levels
decreases-levels l = l.place - l.from

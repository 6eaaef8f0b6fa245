use Rattle.std.proofs.Common.{◌≡◌, ◌≤◌, drop, length, map}
use Rattle.std.specs.List.{range_with_len}
use Rattle.environments.specs.Environments.{binding_all}
use Rattle.oz_semantics.specs.Names.{named}
use Rattle.space_core.proofs.declarations.bind_from.Given as goal

-- the last ones are bound
abbrev pub invariant-names : goal.invariant-names
invariant-names l = record {
  within : l.left ≤ length l.names;
  set : l.environment ≡ binding_all (drop l.left l.names) (drop l.left (map (named l.space) (range_with_len l.from (length l.names)))) l.initial.environment;
}

abbrev pub decreases-names : goal.decreases-names
decreases-names l = l.left

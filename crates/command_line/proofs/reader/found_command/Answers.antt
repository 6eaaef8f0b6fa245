use Rattle.std.proofs.Common.{◌≡◌}
use Rattle.oz_commands.specs.Commands.{Verb, all, run, best, kernel, verb_word}
use Rattle.command_line.proofs.Numbers.{found_name, found_rows}
use Rattle.command_line.proofs.reader.found_command.Goals as goal

pub workers_in-requires : goal.workers_in-requires
workers_in-requires c =
    let (verb, given, (rows, ok)) = c.requires in
    (verb, given, found_rows c.args.matches.now _ verb given c.in_ok-name.ensures.rows rows, ok)

pub workers_in-requires-in-best : goal.workers_in-requires-in-best
workers_in-requires-in-best c =
    let (verb, given, (rows, ok)) = c.requires in
    (verb, given, found_rows c.args.matches.now _ verb given c.in_ok-name.ensures.rows rows, ok)

-- no other command was found
pub returns-in_default : goal.returns-in_default
returns-in_default c verb given found = absurd (other verb (found_name c.args.matches.now c.in_ok-name.name.now verb given c.in_ok-name.ensures.name found.0))
  where
    other : (v : Verb) → c.in_ok-name.name.now ≡ verb_word v → ⊥
    other all e = c.in_default.not-all e
    other run e = c.in_default.not-run e
    other best e = c.in_default.not-best e
    other kernel e = c.in_default.not-kernel e

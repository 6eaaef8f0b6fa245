use Rattle.std.proofs.Common.{map}
use Rattle.std.specs.String.{string_bytes}
use Rattle.std.proofs.lemmas.Result.{IfOk-weaker}
use Rattle.command_line.proofs.SpellingLaws.{is_spelled, spells_only}
use Rattle.command_line.proofs.Numbers.{spelled_ranges}
use Rattle.command_line.proofs.reader.read_command.Goals as goal

pub returns-clause-spelled : goal.returns-clause-spelled
returns-clause-spelled c = IfOk-weaker c.read.result _ _ (λ r e. is_spelled _ r e) c.read.ensures

pub returns-clause-only : goal.returns-clause-only
returns-clause-only c = IfOk-weaker c.read.result _ _ (λ r e. spells_only _ r e) c.read.ensures

pub returns-clause-range : goal.returns-clause-range
returns-clause-range c =
    let words = map string_bytes c.args.words.now in
    IfOk-weaker c.read.result _ _ (λ r e. spelled_ranges words r (is_spelled words r e)) c.read.ensures

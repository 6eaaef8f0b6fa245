use Rattle.std.proofs.Common.{◌≡◌, ◌≤◌, ◌∙◌, ap, arith, refl}
use Rattle.std.specs.Prelude.{unwrap_or}
use Rattle.oz_commands.specs.Commands.{workers, value_in}
use Rattle.command_line.proofs.Numbers.{value_most}
use Rattle.command_line.proofs.reader.workers_in.Goals as goal

pub overflow_cast-result : goal.overflow_cast-result
overflow_cast-result c =
    let (verb, given, rows, ok) = c.requires in
    let count : c.unwrap_or.result ≡ value_in given workers = c.unwrap_or.ensures ∙ ap (λ o. unwrap_or o 1) (c.number.ensures verb workers given refl rows ok) in
    let most : value_in given workers ≤ 64 = value_most verb workers given ok in
    omega (arith, count, most)

use Rattle.print_law.proofs.Classes.{only_tree}
use Rattle.print_law.proofs.TheLaws.{trees_printed, printed_read, printed_read_alone}
use Rattle.print_law.proofs.printing_law.Goals as goal

pub returns : goal.returns
returns c = record { one = only_tree; printed = trees_printed; read = printed_read; alone = printed_read_alone }

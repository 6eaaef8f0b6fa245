-- The laws of what is printed.
use Rattle.std.proofs.Common.{suc, [], length, sym, subst}
use Rattle.text_laws.specs.Laws.{IsReadAs, IsReadAlone}
use Rattle.text_laws.proofs.TermLaws.{terms_read}
use Rattle.text_laws.proofs.OwnWords.{terms_read_alone}
use Rattle.print_law.specs.Laws.{TreePrinted, PrintedRead, PrintedReadAlone}
use Rattle.oz_laws.proofs.OpeningLaws.{left_at_first}
use Rattle.print_law.proofs.Openings.{none_open}
use Rattle.print_law.proofs.Printing.{tree_printed}

pub trees_printed : TreePrinted
trees_printed words view x t h = tree_printed words view h (suc (length view)) [] none_open (left_at_first view)

pub printed_read : PrintedRead
printed_read words view x t ws h v = subst (λ bytes. IsReadAs words bytes t) (sym (trees_printed words view x t h).text) (terms_read words t ws v)

pub printed_read_alone : PrintedReadAlone
printed_read_alone words view x t ws h v = subst (λ bytes. IsReadAlone words bytes t) (sym (trees_printed words view x t h).text) (terms_read_alone words t ws v)

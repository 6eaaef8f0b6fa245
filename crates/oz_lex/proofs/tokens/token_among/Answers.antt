use Rattle.std.proofs.Common.{◌∙◌, ℕ, List, Bor}
use Rattle.oz_base.specs.Lists.{list_eq}
use Rattle.oz_lex.proofs.Tables.{found_as}
use Rattle.oz_lex.proofs.tokens.token_among.Goals as goal

pub returns : goal.returns
returns c = c.first_beside.ensures ∙ found_as (λ (b : Bor (List ℕ)). b.now) (list_eq c.args.bytes.now) c.args.table.now

use Rattle.std.proofs.Common.{◌-◌, ◌∙◌, drop, map, arith}
use Rattle.oz_language.specs.declared.kernel.Operation.TheVariants.{Same}
use Rattle.builtins.specs.Tables.{row_of}
use Rattle.builtins.specs.declared.table.Row.TheVariants.{Operator}
use Rattle.oz_machine.proofs.OpeningLaws.{word_at, names_before}
use Rattle.oz_machine.proofs.opening.builtin_names.Goals as goal

pub name_row-requires : goal.name_row-requires
name_row-requires c =
    word_at c.rows-rows.result.now (c.rows.left - 1) (Operator Same) (omega arith) c.rows.invariant.these c.rows.invariant.words

pub rows-preserved : goal.rows-preserved
rows-preserved c =
    let cs = c.rows-rows.result.now in
    let left = c.rows.left in
    record {
      these = c.rows.invariant.these;
      words = c.rows.invariant.words;
      within = omega arith;
      set =
          c.in_ok-name_row.ensures (drop left (map row_of cs)) c.rows.invariant.set
          ∙ names_before cs left (Operator Same) c.rows-test.true c.rows.invariant.within;
    }

use Rattle.std.proofs.Common.{◌+◌, ◌++◌, ◌∙◌, ap, sym, drop, map}
use Rattle.oz_language.specs.declared.kernel.Operation.TheVariants.{Same}
use Rattle.oz_semantics.specs.Runs.{builtin_tells}
use Rattle.builtins.specs.Tables.{row_of}
use Rattle.builtins.specs.declared.table.Row.TheVariants.{Operator}
use Rattle.oz_machine.proofs.OpeningLaws.{tells_before}
use Rattle.oz_machine.proofs.opening.built_ins.Goals as goal

pub rows-preserved : goal.rows-preserved
rows-preserved c =
    let cs = c.rows-row-items.result.now in
    let i = c.rows.row-index in
    record {
      these = c.rows.invariant.these;
      count = ap (λ n. n + 1) c.rows.invariant.count;
      told =
          ap (λ n. c.add_tell.new.tells.items ++ builtin_tells (n + 1 + 1) (drop (i + 1) (map row_of cs))) (sym c.rows.invariant.count)
          ∙ c.in_ok-add_tell.ensures (drop (i + 1) (map row_of cs))
          ∙ tells_before cs c.rows.tells.items i c.rows.number (Operator Same) c.rows-test.true c.rows.invariant.count
          ∙ c.rows.invariant.told;
    }

use Rattle.std.proofs.Common.{◌+◌, ◌∙◌, ap, drop, map}
use Rattle.oz_base.specs.declared.names.Ident.{Ident}
use Rattle.oz_language.specs.declared.kernel.Constant.{Constant}
use Rattle.oz_language.specs.declared.kernel.Operation.TheVariants.{Same}
use Rattle.builtins.specs.Tables.{row_of}
use Rattle.builtins.specs.declared.table.Row.TheVariants.{Operator}
use Rattle.oz_machine.proofs.OpeningLaws.{word_at, parts_before}
use Rattle.oz_machine.proofs.opening.fd_parts.Goals as goal

pub add_part-requires : goal.add_part-requires
add_part-requires c = word_at c.rows-row-items.result.now c.rows.row-index (Operator Same) c.rows-test.true c.rows.invariant.these c.rows.invariant.words

pub rows-preserved : goal.rows-preserved
rows-preserved c =
    let cs = c.rows-row-items.result.now in
    let i = c.rows.row-index in
    let made = c.in_ok-add_part.ensures (drop (i + 1) (map row_of cs)) in
    record {
      these = c.rows.invariant.these;
      words = c.rows.invariant.words;
      count = ap (λ n. n + 1) c.rows.invariant.count;
      features = parts_before (λ (p : Constant × Ident). p.0) cs c.rows.parts.features.items c.add_part.new.parts.features.items i c.rows.number (Operator Same) c.rows-test.true c.rows.invariant.count made.0 ∙ c.rows.invariant.features;
      fields = parts_before (λ (p : Constant × Ident). p.1) cs c.rows.parts.fields.items c.add_part.new.parts.fields.items i c.rows.number (Operator Same) c.rows-test.true c.rows.invariant.count made.1 ∙ c.rows.invariant.fields;
    }

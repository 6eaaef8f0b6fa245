use Rattle.std.proofs.Common.{◌∙◌, sym, ap}
use Rattle.std.proofs.lemmas.Result.{err_from_is_err_and}
use Rattle.oz_lex.specs.Scanning.{begins_paren}
use Rattle.oz_lex.proofs.Closings.{tail}
use Rattle.oz_lex.proofs.Openings.{quoted_longest, quoted_label, quoted_bad}
use Rattle.oz_lex.proofs.scan.quoted_at.Goals as goal

pub returns-in_err-len : goal.returns-in_err-len
returns-in_err-len c =
    let p = err_from_is_err_and c.from_residual.result c.from_residual.ensures.1 in
    rw (p.1, p.2) (quoted_bad c.args.text.now _ c.requires c.in_err-len.ensures)

pub returns-then-begins_paren : goal.returns-then-begins_paren
returns-then-begins_paren c =
    let text = c.args.text.now in
    let n = c.in_ok-len.len in
    quoted_label text n c.requires c.in_ok-len.ensures (ap begins_paren (sym (tail text n)) ∙ sym c.begins_paren.ensures ∙ c.if-begins_paren.true)

pub returns : goal.returns
returns c =
    let text = c.args.text.now in
    let n = c.in_ok-len.len in
    quoted_longest text n c.requires c.in_ok-len.ensures (ap begins_paren (sym (tail text n)) ∙ sym c.begins_paren.ensures ∙ c.if-begins_paren.false)

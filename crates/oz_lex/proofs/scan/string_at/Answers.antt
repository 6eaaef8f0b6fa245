use Rattle.std.proofs.lemmas.Result.{err_from_is_err_and}
use Rattle.oz_lex.proofs.Openings.{string_front, string_bad}
use Rattle.oz_lex.proofs.scan.string_at.Goals as goal

pub returns-in_err-len : goal.returns-in_err-len
returns-in_err-len c =
    let p = err_from_is_err_and c.from_residual.result c.from_residual.ensures.1 in
    rw (p.1, p.2) (string_bad c.args.text.now _ c.requires c.in_err-len.ensures)

pub returns : goal.returns
returns c = string_front c.args.text.now c.in_ok-len.len c.requires c.in_ok-len.ensures

use Rattle.std.proofs.Common.{◌≡◌, ◌∙◌, sym, ap, inl, inr, drop, true}
use Rattle.oz_lex.specs.Scanning.{begins_paren}
use Rattle.oz_lex.proofs.Closings.{tail}
use Rattle.oz_lex.proofs.Longest.{word_longest, label_longest, EndsWord}
use Rattle.oz_lex.proofs.scan.word_at.Goals as goal
use Rattle.oz_lex.proofs.scan.word_at.Goals.{else-begins_paren-via-then-begins_paren+else-not-is_reserved, else-begins_paren-via-else-begins_paren}

pub returns-then-not-is_reserved : goal.returns-then-not-is_reserved
returns-then-not-is_reserved c =
    let text = c.args.text.now in
    let n = c.word_len-len.result in
    let p : begins_paren (drop n text) ≡ true = ap begins_paren (sym (tail text n)) ∙ sym c.begins_paren.ensures ∙ c.if-begins_paren.true in
    label_longest text c.requires n c.word_len-len.ensures.value p (sym c.is_reserved.ensures ∙ c.if-not-is_reserved.true)

pub returns : goal.returns
returns c =
    let text = c.args.text.now in
    let n = c.word_len-len.result in
    let e : EndsWord text n = elim c.else-begins_paren.branch [
      | else-begins_paren-via-then-begins_paren+else-not-is_reserved w ↦ inr (sym w.is_reserved.ensures ∙ w.if-not-is_reserved.false)
      | else-begins_paren-via-else-begins_paren w ↦ inl (ap begins_paren (sym (tail text n)) ∙ sym c.begins_paren.ensures ∙ w.if-begins_paren.false)
    ] in
    word_longest text c.requires n c.word_len-len.ensures.value e

use Rattle.std.proofs.Common.{◌≡◌, ◌∙◌, ℕ, List, Some, None, inr, sym, ap, subst}
use Rattle.std.specs.Prelude.{OnOk, OnErr, IfOk}
use Rattle.oz_base.specs.Words.{with_text, number_in}
use Rattle.oz_language.specs.Wording.{meant, unquoted, number_of}
use Rattle.oz_lex.specs.Lexing.{has_escape, KeepsNumbers}
use Rattle.oz_lex.proofs.TokenLaws.{escape_inside, plain_meant, on_err, err_takes, stays}
use Rattle.oz_lex.proofs.tokens.quoted_number.Goals as goal

pub returns-in_err-word-clause-refused : goal.returns-in_err-word-clause-refused
returns-in_err-word-clause-refused c =
    on_err c.from_residual.result (inr (escape_inside c.args.bytes.now (ap has_escape (sym c.inside_of-inside.ensures) ∙ sym c.has_escape.ensures ∙ c.if-has_escape.true)))

pub returns-clause-refused : goal.returns-clause-refused
returns-clause-refused c =
    let q = sym (plain_meant c.inside_of-inside.result.now (sym c.has_escape.ensures ∙ c.if-has_escape.false)) ∙ ap meant c.inside_of-inside.ensures in
    err_takes c.args.words.now c.args.bytes.now (Some (unquoted c.args.bytes.now)) c.number-2.result
    (subst (λ w. OnErr c.number-2.result (number_in c.args.words.now w ≡ None)) q c.number-2.ensures.absent)

pub returns-clause-words : goal.returns-clause-words
returns-clause-words c =
    let q = sym (plain_meant c.inside_of-inside.result.now (sym c.has_escape.ensures ∙ c.if-has_escape.false)) ∙ ap meant c.inside_of-inside.ensures in
    subst (λ w. OnOk c.number-2.result (c.number-2.new.self ≡ with_text c.args.words.now w)) q c.number-2.ensures.joined

pub returns-clause-number : goal.returns-clause-number
returns-clause-number c =
    let q = sym (plain_meant c.inside_of-inside.result.now (sym c.has_escape.ensures ∙ c.if-has_escape.false)) ∙ ap meant c.inside_of-inside.ensures in
    subst (λ w. IfOk c.number-2.result (λ n. (later : List (List ℕ)) → KeepsNumbers c.number-2.new.self later → n ≡ number_of later w)) q
    (stays c.number-2.new.self c.inside_of-inside.result.now c.number-2.result c.number-2.ensures.number)

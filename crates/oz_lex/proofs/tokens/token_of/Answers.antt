use Rattle.std.proofs.Common.{◌≡◌, ◌∙◌, true, ap, sym, Some, subst}
use Rattle.std.specs.Prelude.{OnErr}
use Rattle.oz_language.specs.Tokens.{sort_of, is_literal}
use Rattle.oz_language.specs.Wording.{bytes_of, word_in, label_word, label_in}
use Rattle.oz_lex.specs.Lexing.{IsNew, TakesMemory}
use Rattle.oz_lex.proofs.TokenLaws.{int_bytes, label_bytes, var_token, small_tokens, label_token, quoted_token, string_token, word_of_small, word_of_label, longer_takes, err_takes, on_err}
use Rattle.oz_lex.proofs.tokens.token_of.Goals as goal

pub int_token-requires : goal.int_token-requires
int_token-requires c = int_bytes c.bytes_of-bytes.result.now (ap sort_of c.bytes_of-bytes.ensures ∙ c.requires.token ∙ ap Some c.in-Int.is)

pub returns-in_ok-number-in-Var-clause-token : goal.returns-in_ok-number-in-Var-clause-token
returns-in_ok-number-in-Var-clause-token c =
    var_token c.args.text.now c.number.new.self c.args.lexeme c.bytes_of-bytes.result.now c.bytes_of-bytes.ensures c.in_ok-number-in-Var.field-0 c.in-Var.is c.in_ok-number-in-Var.ensures.number

pub returns-in-Word-clause-token : goal.returns-in-Word-clause-token
returns-in-Word-clause-token c =
    small_tokens c.args.text.now c.word_token.new.words c.args.lexeme c.bytes_of-bytes.result.now c.bytes_of-bytes.ensures c.word_token.result c.in-Word.is c.word_token.ensures.token

pub returns-in-Word-clause-refused : goal.returns-in-Word-clause-refused
returns-in-Word-clause-refused c =
    let words = c.args.words.now in
    let bytes = bytes_of c.args.text.now c.args.lexeme in
    let word = word_of_small c.args.text.now words c.args.lexeme c.bytes_of-bytes.result.now c.bytes_of-bytes.ensures c.in-Word.is in
    err_takes words bytes (word_in c.args.lexeme.sort bytes) c.word_token.result (subst (λ w. OnErr c.word_token.result (IsNew words w)) word c.word_token.ensures.refused)

pub label_in-requires : goal.label_in-requires
label_in-requires c =
    subst (λ w. is_literal w ≡ true) (sym c.without_last.ensures)
    (label_bytes c.bytes_of-bytes.result.now (ap sort_of c.bytes_of-bytes.ensures ∙ c.requires.token ∙ ap Some c.in-Label.is))

pub returns-in_err-label_in-in-Label-clause-refused : goal.returns-in_err-label_in-in-Label-clause-refused
returns-in_err-label_in-in-Label-clause-refused c =
    let words = c.args.words.now in
    let bytes = c.bytes_of-bytes.result.now in
    let short = subst (λ w. TakesMemory words w (label_word w)) c.without_last.ensures c.in_err-label_in-in-Label.ensures.refused in
    let whole = longer_takes words bytes _ short in
    let word = word_of_label c.args.text.now words c.args.lexeme bytes c.bytes_of-bytes.ensures c.in-Label.is in
    on_err c.from_residual-in_err-label_in-in-Label.result
    (subst (λ b. TakesMemory words b (word_in c.args.lexeme.sort (bytes_of c.args.text.now c.args.lexeme))) c.bytes_of-bytes.ensures (subst (TakesMemory words bytes) word whole))

pub returns-in_ok-label_in-in-Label-clause-token : goal.returns-in_ok-label_in-in-Label-clause-token
returns-in_ok-label_in-in-Label-clause-token c =
    label_token c.args.text.now c.label_in.new.words c.args.lexeme c.bytes_of-bytes.result.now c.bytes_of-bytes.ensures c.in_ok-label_in-in-Label.field-0 c.in-Label.is
    (λ later k. c.in_ok-label_in-in-Label.ensures.literal later k ∙ ap (label_in later) c.without_last.ensures)

pub returns-in_ok-quoted_in-in-Quoted-clause-token : goal.returns-in_ok-quoted_in-in-Quoted-clause-token
returns-in_ok-quoted_in-in-Quoted-clause-token c =
    quoted_token c.args.text.now c.quoted_in.new.words c.args.lexeme c.bytes_of-bytes.result.now c.bytes_of-bytes.ensures c.in_ok-quoted_in-in-Quoted.field-0 c.in-Quoted.is
    c.in_ok-quoted_in-in-Quoted.ensures.literal

pub returns-in_ok-quoted_number-in-String-clause-token : goal.returns-in_ok-quoted_number-in-String-clause-token
returns-in_ok-quoted_number-in-String-clause-token c =
    string_token c.args.text.now c.quoted_number.new.words c.args.lexeme c.bytes_of-bytes.result.now c.bytes_of-bytes.ensures c.in_ok-quoted_number-in-String.field-0 c.in-String.is
    c.in_ok-quoted_number-in-String.ensures.number

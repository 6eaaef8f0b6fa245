use Rattle.std.proofs.Common.{◌≡◌, ◌∙◌, sym, subst}
use Rattle.std.specs.Prelude.{OnOk, OnErr}
use Rattle.oz_language.specs.Wording.{with_word}
use Rattle.oz_lex.specs.Lexing.{TakesMemory}
use Rattle.oz_lex.proofs.TokenLaws.{bare_word, err_takes}
use Rattle.oz_lex.proofs.tokens.label_in.Goals as goal

pub returns-clause-words : goal.returns-clause-words
returns-clause-words c =
    let w = bare_word c.args.bytes.now c.requires (sym c.begins_with.ensures ∙ c.if-begins_with.false) in
    subst (λ word. OnOk c.literal_in.result (c.literal_in.new.words ≡ with_word c.args.words.now word)) w c.literal_in.ensures.words

pub returns-clause-refused : goal.returns-clause-refused
returns-clause-refused c =
    let w = bare_word c.args.bytes.now c.requires (sym c.begins_with.ensures ∙ c.if-begins_with.false) in
    subst (λ word. OnErr c.literal_in.result (TakesMemory c.args.words.now c.args.bytes.now word)) w
    (err_takes c.args.words.now c.args.bytes.now _ c.literal_in.result c.literal_in.ensures.refused)

use Rattle.std.proofs.Common.{subst, sym}
use Rattle.std.specs.List.{All}
use Rattle.oz_lex.specs.Lexing.{IsLexeme}
use Rattle.oz_lex.proofs.Readings.{read_lexemes}
use Rattle.text_tests.proofs.tokens.tokens.Goals as goal

pub token_of-requires : goal.token_of-requires
token_of-requires c =
    let each : All (IsLexeme c.args.text.now) c.deref-lexeme-items.result.now =
    subst (All (IsLexeme c.args.text.now)) (sym c.deref-lexeme-items.ensures.value) (read_lexemes c.args.text.now 0 _ _ c.in_ok-found.ensures.found) in
    each c.loop-lexeme.lexeme-index _ c.loop-lexeme-test.true

use Rattle.oz_lex.proofs.tokens.known_token.Goals as goal

pub returns : goal.returns
returns c = c.token_among.ensures

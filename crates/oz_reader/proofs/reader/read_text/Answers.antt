use Rattle.std.proofs.Common.{List, sym, ap, ◌∙◌, subst}
use Rattle.oz_language.specs.Grammar.{Phrase}
use Rattle.oz_language.specs.Refusals.{IsRefused, faults, first_scope, first_of}
use Rattle.oz_language.specs.declared.token.Lexeme.{Lexeme}
use Rattle.oz_reader.specs.Reading.{Faults, IsRead, error_of}
use Rattle.oz_reader.proofs.Progress.{err_is, lex_refused, names_refused, names_accepted}
use Rattle.oz_reader.proofs.reader.read_text.Goals as goal

pub returns-in_err-lexemes-clause-refused : goal.returns-in_err-lexemes-clause-refused
returns-in_err-lexemes-clause-refused c =
    err_is c.from_residual.result (error_of c.in_err-lexemes.field-0.0) (Faults (IsRefused c.args.text.now)) c.from_residual.ensures
    (lex_refused c.args.text.now c.in_err-lexemes.field-0.0 c.in_err-lexemes.ensures.bad)

pub returns-in-Some-clause-refused : goal.returns-in-Some-clause-refused
returns-in-Some-clause-refused c =
    names_refused c.args.text.now c.in_ok-lexemes.lexemes.items c.in_ok-program.program c.in-Some.fault c.in_ok-lexemes.ensures.found
    (subst (λ (ls : List Lexeme). IsRead c.args.text.now ls c.in_ok-program.program) c.as_slice.ensures.value c.in_ok-program.ensures.read)
    (ap (λ (p : Phrase). first_of (faults first_scope p)) (sym c.phrase.ensures) ∙ (sym c.in_ok-fault.ensures ∙ c.in-Some.is))

pub returns-clause-accepted : goal.returns-clause-accepted
returns-clause-accepted c =
    names_accepted c.args.text.now c.in_ok-lexemes.lexemes.items c.in_ok-program.program c.in_ok-lexemes.ensures.found
    (subst (λ (ls : List Lexeme). IsRead c.args.text.now ls c.in_ok-program.program) c.as_slice.ensures.value c.in_ok-program.ensures.read)
    (ap (λ (p : Phrase). first_of (faults first_scope p)) (sym c.phrase.ensures) ∙ (sym c.in_ok-fault.ensures ∙ c.in-None.is))

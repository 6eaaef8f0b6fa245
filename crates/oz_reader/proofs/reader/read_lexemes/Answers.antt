use Rattle.std.proofs.Common.{◌≡◌, ◌≤◌, ◌<◌, ◌+◌, ℕ, nat_lt, true, false, ap, List, [], take, length, slice_index_or, slice_get, Some, sym, ◌∙◌, subst, arith}
use Rattle.std.proofs.lemmas.Option.{slice_get-get_or}
use Rattle.oz_language.specs.Grammar.{Phrase, Derives}
use Rattle.oz_language.specs.Refusals.{Open, IsRefused, depth_limit, depth_of, text_open}
use Rattle.oz_language.specs.Tokens.{Whole}
use Rattle.oz_language.specs.Wording.{tokens_in}
use Rattle.oz_language.specs.declared.token.Lexeme.{Lexeme}
use Rattle.oz_language.specs.declared.token.Sort.TheVariants as sort
use Rattle.oz_syntax.specs.View.{view}
use Rattle.reader_law.specs.Machine.{Stack, step, finish}
use Rattle.oz_reader.specs.Reading.{Faults}
use Rattle.open_constructs.specs.View.{stack_of}
use Rattle.oz_reader.proofs.Progress.{Goes, depth_after, is_within, goes_start, lexemes_are, words_next, words_all, deep_refused, syntax_refused, went, end_refused, all_derived, all_shallow, step_refused, value_refused, err_is}
use Rattle.oz_reader.proofs.reader.read_lexemes.Goals as goal

abbrev none : Lexeme
none = record { sort = sort.Var; at = 0; len = 0 }

there : (ls : List Lexeme) (n : ℕ) → n < length ls → slice_get ls n ≡ Some (slice_index_or ls n none)
there ls n h = slice_get-get_or ls n none h

pub loop-lexeme-init : goal.loop-lexeme-init
loop-lexeme-init c = record {
  words = sym c.in_ok-words.ensures;
  goes = subst (λ (os : List Open). Goes [] os (stack_of c.in_ok-stack.stack.items)) (sym c.in_ok-depth.ensures) (subst (λ (k : Stack). Goes [] text_open k) (sym c.in_ok-stack.ensures) goes_start);
  shallow = subst (λ (os : List Open). depth_of os ≤ depth_limit) (sym c.in_ok-depth.ensures) (omega arith);
}

pub token_of-requires : goal.token_of-requires
token_of-requires c =
    lexemes_are c.args.text.now 0 c.args.lexemes.now Whole c.loop-lexeme.lexeme-index (slice_index_or c.args.lexemes.now c.loop-lexeme.lexeme-index none) c.requires
    (there c.args.lexemes.now c.loop-lexeme.lexeme-index (omega arith))

pub take-requires : goal.take-requires
take-requires c = c.loop-lexeme.invariant.shallow

pub returns-then-is_too_deep-clause-refused : goal.returns-then-is_too_deep-clause-refused
returns-then-is_too_deep-clause-refused c =
    let far : nat_lt depth_limit (depth_after c.loop-lexeme.depth c.in_ok-token.token) ≡ true =
    ap (λ (os : List Open). nat_lt depth_limit (depth_of os)) (sym c.in_ok-take.ensures) ∙ (sym c.is_too_deep.ensures ∙ c.if-is_too_deep.true) in
    subst (Faults (IsRefused c.args.text.now)) (sym c.refusal.ensures)
    (deep_refused c.begins_law.ensures c.args.text.now c.args.lexemes.now c.requires c.loop-lexeme.lexeme-index (slice_index_or c.args.lexemes.now c.loop-lexeme.lexeme-index none)
    (there c.args.lexemes.now c.loop-lexeme.lexeme-index (omega arith)) c.loop-lexeme.words c.token_of.new.words c.in_ok-token.token c.loop-lexeme.invariant.words
    c.in_ok-token.ensures.words c.in_ok-token.ensures.token c.loop-lexeme.depth (stack_of c.loop-lexeme.stack.items) c.loop-lexeme.invariant.goes far)

pub returns-in_err-take_at-clause-refused : goal.returns-in_err-take_at-clause-refused
returns-in_err-take_at-clause-refused c =
    let near : nat_lt depth_limit (depth_after c.loop-lexeme.depth c.in_ok-token.token) ≡ false =
    ap (λ (os : List Open). nat_lt depth_limit (depth_of os)) (sym c.in_ok-take.ensures) ∙ (sym c.is_too_deep.ensures ∙ c.if-is_too_deep.false) in
    err_is c.from_residual-in_err-take_at.result c.in_err-take_at.field-0.0 (Faults (IsRefused c.args.text.now)) c.from_residual-in_err-take_at.ensures
    (step_refused c.args.text.now _ c.in_err-take_at.field-0.0 c.take_at.new.stack.items (step c.in_ok-token.token (stack_of c.loop-lexeme.stack.items)) c.in_err-take_at.ensures
    (syntax_refused c.begins_law.ensures c.args.text.now c.args.lexemes.now c.requires c.loop-lexeme.lexeme-index (slice_index_or c.args.lexemes.now c.loop-lexeme.lexeme-index none)
    (there c.args.lexemes.now c.loop-lexeme.lexeme-index (omega arith)) c.loop-lexeme.words c.token_of.new.words c.in_ok-token.token c.loop-lexeme.invariant.words
    c.in_ok-token.ensures.words c.in_ok-token.ensures.token c.loop-lexeme.depth (stack_of c.loop-lexeme.stack.items) c.loop-lexeme.invariant.goes near))

pub loop-lexeme-preserved : goal.loop-lexeme-preserved
loop-lexeme-preserved c =
    let near : nat_lt depth_limit (depth_after c.loop-lexeme.depth c.in_ok-token.token) ≡ false =
    ap (λ (os : List Open). nat_lt depth_limit (depth_of os)) (sym c.in_ok-take.ensures) ∙ (sym c.is_too_deep.ensures ∙ c.if-is_too_deep.false) in
    record {
      words =
          words_next c.args.text.now c.args.lexemes.now c.loop-lexeme.lexeme-index (slice_index_or c.args.lexemes.now c.loop-lexeme.lexeme-index none) c.loop-lexeme.words c.token_of.new.words
          (there c.args.lexemes.now c.loop-lexeme.lexeme-index (omega arith)) c.loop-lexeme.invariant.words c.in_ok-token.ensures.words;
      goes =
          subst (λ (os : List Open). Goes (take (c.loop-lexeme.lexeme-index + 1) (tokens_in c.args.text.now c.args.lexemes.now)) os (stack_of c.take_at.new.stack.items)) (sym c.in_ok-take.ensures)
          (went c.begins_law.ensures c.args.text.now c.args.lexemes.now c.requires c.loop-lexeme.lexeme-index (slice_index_or c.args.lexemes.now c.loop-lexeme.lexeme-index none)
          (there c.args.lexemes.now c.loop-lexeme.lexeme-index (omega arith)) c.loop-lexeme.words c.token_of.new.words c.in_ok-token.token c.loop-lexeme.invariant.words
          c.in_ok-token.ensures.words c.in_ok-token.ensures.token c.loop-lexeme.depth (stack_of c.loop-lexeme.stack.items) c.loop-lexeme.invariant.goes
          (stack_of c.take_at.new.stack.items) near c.in_ok-take_at.ensures);
      shallow = is_within depth_limit (depth_of c.take.new.self) (sym c.is_too_deep.ensures ∙ c.if-is_too_deep.false);
    }

pub returns-in_err-phrase-clause-refused : goal.returns-in_err-phrase-clause-refused
returns-in_err-phrase-clause-refused c =
    err_is c.from_residual-in_err-phrase.result c.in_err-phrase.field-0.0 (Faults (IsRefused c.args.text.now)) c.from_residual-in_err-phrase.ensures
    (value_refused c.args.text.now (length c.args.text.now) c.in_err-phrase.field-0.0 view (finish (stack_of c.loop-lexeme.stack.items)) c.in_err-phrase.ensures
    (end_refused c.begins_law.ensures c.parses_law.ensures c.args.text.now c.args.lexemes.now c.requires c.loop-lexeme.lexeme-index c.loop-lexeme.depth (stack_of c.loop-lexeme.stack.items)
    c.loop-lexeme.invariant.goes (omega arith)))

pub returns-clause-read : goal.returns-clause-read
returns-clause-read c = record {
  words = c.new-2.ensures.words ∙ (sym c.loop-lexeme.invariant.words ∙ words_all c.args.text.now c.args.lexemes.now c.loop-lexeme.lexeme-index (omega arith));
  derived =
      subst (λ (p : Phrase). Derives (tokens_in c.args.text.now c.args.lexemes.now) p) (sym c.new-2.ensures.phrase)
      (all_derived c.begins_law.ensures c.parses_law.ensures c.args.text.now c.args.lexemes.now c.requires c.loop-lexeme.lexeme-index c.loop-lexeme.depth (stack_of c.loop-lexeme.stack.items)
      c.loop-lexeme.invariant.goes (omega arith) (view c.in_ok-phrase.phrase) c.in_ok-phrase.ensures);
  shallow =
      all_shallow c.begins_law.ensures c.parses_law.ensures c.args.text.now c.args.lexemes.now c.requires c.loop-lexeme.lexeme-index c.loop-lexeme.depth (stack_of c.loop-lexeme.stack.items)
      c.loop-lexeme.invariant.goes (omega arith);
}

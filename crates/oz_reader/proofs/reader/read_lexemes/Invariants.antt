use Rattle.std.proofs.Common.{◌≡◌, ◌≤◌, take, fold}
use Rattle.oz_language.specs.Refusals.{depth_limit, depth_of}
use Rattle.oz_language.specs.Wording.{first_words, joining, tokens_in}
use Rattle.open_constructs.specs.View.{stack_of}
use Rattle.oz_reader.proofs.Progress.{Goes}
use Rattle.oz_reader.proofs.reader.read_lexemes.Given as goal

abbrev pub invariant-loop-lexeme : goal.invariant-loop-lexeme
invariant-loop-lexeme l = record {
  words : fold (joining l.text) first_words (take l.lexeme-index l.lexemes) ≡ l.words;
  goes : Goes (take l.lexeme-index (tokens_in l.text l.lexemes)) l.depth (stack_of l.stack.items);
  shallow : depth_of l.depth ≤ depth_limit;
}

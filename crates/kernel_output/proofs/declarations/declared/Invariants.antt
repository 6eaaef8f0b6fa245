use Rattle.std.proofs.Common.{◌≡◌, ◌++◌, [], drop}
use Rattle.oz_language.specs.Grammar.{of_list}
use Rattle.oz_language.specs.Translation.{declared}
use Rattle.oz_syntax.specs.View.{views}
use Rattle.kernel_output.proofs.declarations.declared.Given as goal

abbrev pub invariant-phrases : goal.invariant-phrases
invariant-phrases l = l.names ++ declared l.seen (of_list (views (drop l.phrase-index l.phrases))) ≡ declared [] (of_list (views l.phrases))

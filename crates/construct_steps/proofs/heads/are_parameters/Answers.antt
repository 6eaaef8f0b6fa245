use Rattle.std.proofs.Common.{◌∙◌, rules, tests}
use Rattle.std.proofs.lemmas.Iterator.{YieldsList-from_slice}
use Rattle.std.proofs.lemmas.Iterator.Search.{all_from_yields_List}
use Rattle.oz_language.specs.Grammar.{is_parameter}
use Rattle.oz_syntax.specs.declared.phrase.Phrase.{Phrase as Tree}
use Rattle.oz_syntax.specs.View.{view}
use Rattle.construct_steps.proofs.HeadLaws.{all_parameters}
use Rattle.construct_steps.proofs.heads.are_parameters.Goals as goal

pub returns : goal.returns
returns c =
    all_from_yields_List (λ (p : Tree). is_parameter (view p)) c.all.new.self _ _ c.all.ensures.ran (YieldsList-from_slice c.args.phrases.now cc) (λ x b q k. search (rules, tests))
    ∙ all_parameters c.args.phrases.now

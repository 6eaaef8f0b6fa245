use Rattle.std.proofs.Common.{◌≡◌, suc, drop}
use Rattle.oz_language.specs.SimpleTexts.{count_from}
use Rattle.simple_text.proofs.forms.count_from_one.Given as goal

abbrev pub invariant-loop-feature : goal.invariant-loop-feature
invariant-loop-feature l =
    record {
      number : l.number ≡ suc l.feature-index;
      left : count_from 1 l.features ≡ count_from (suc l.feature-index) (drop l.feature-index l.features);
    }

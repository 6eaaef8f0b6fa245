use Rattle.std.proofs.Common.{◌≡◌, ◌++◌, drop, map, codes}
use Rattle.oz_language.specs.SimpleTexts.{gapped}
use Rattle.oz_language.specs.KernelTexts.{linear_text}
use Rattle.kernel_form.proofs.sums.add_further_terms.Given as goal

abbrev pub invariant-terms : goal.invariant-terms
invariant-terms l =
    l.out.items ++ gapped (codes " ") (map (linear_text l.words) (drop l.term-index l.terms)) ≡ l.initial.out.items ++ gapped (codes " ") (map (linear_text l.words) l.terms)

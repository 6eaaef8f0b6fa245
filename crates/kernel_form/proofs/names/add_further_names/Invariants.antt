use Rattle.std.proofs.Common.{◌≡◌, ◌++◌, drop, codes}
use Rattle.oz_language.specs.SimpleTexts.{gapped}
use Rattle.oz_language.specs.KernelTexts.{name_texts}
use Rattle.kernel_form.proofs.names.add_further_names.Given as goal

abbrev pub invariant-names : goal.invariant-names
invariant-names l =
    l.out.items ++ gapped (codes " ") (name_texts l.words (drop l.name-index l.names)) ≡ l.initial.out.items ++ gapped (codes " ") (name_texts l.words l.names)

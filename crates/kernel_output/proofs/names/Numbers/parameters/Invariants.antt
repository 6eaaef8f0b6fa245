use Rattle.std.proofs.Common.{◌≡◌, ◌++◌, drop}
use Rattle.oz_language.specs.Grammar.{of_list}
use Rattle.oz_language.specs.Translation.{parameter_names, behind_parameters}
use Rattle.oz_syntax.specs.View.{views}
use Rattle.kernel_output.proofs.names.Numbers.parameters.Given as goal

abbrev pub invariant-parameters : goal.invariant-parameters
invariant-parameters l =
    (parameter_names l.initial.self.next (of_list (views l.parameters)) ≡ l.names ++ parameter_names l.self.next (of_list (views (drop l.parameter-index l.parameters))))
    × (behind_parameters l.initial.self.next (of_list (views l.parameters)) ≡ behind_parameters l.self.next (of_list (views (drop l.parameter-index l.parameters))))

use Rattle.std.proofs.Common.{◌≡◌, ◌++◌, drop}
use Rattle.oz_language.specs.Grammar.{of_list}
use Rattle.oz_language.specs.Translation.{names_of, behind_names}
use Rattle.oz_syntax.specs.View.{views}
use Rattle.kernel_output.proofs.names.Numbers.parts.Given as goal

abbrev pub invariant-parts : goal.invariant-parts
invariant-parts l =
    (names_of l.initial.self.next (of_list (views l.parts)) ≡ l.names ++ names_of l.self.next (of_list (views (drop l.part-index l.parts))))
    × (behind_names l.initial.self.next (of_list (views l.parts)) ≡ behind_names l.self.next (of_list (views (drop l.part-index l.parts))))

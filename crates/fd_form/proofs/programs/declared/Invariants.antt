use Rattle.std.proofs.Common.{◌≡◌, drop}
use Rattle.oz_language.specs.Grammar.{of_list}
use Rattle.oz_syntax.specs.View.{views}
use Rattle.fd_form.specs.FdScripts.{bare_variable}
use Rattle.fd_form.specs.Parts.{each}
use Rattle.fd_form.proofs.EachLaws.{behind}
use Rattle.fd_form.proofs.programs.declared.Given as goal

abbrev pub invariant-declarations : goal.invariant-declarations
invariant-declarations l =
    each bare_variable (of_list (views l.declarations))
    ≡ behind l.names (each bare_variable (of_list (views (drop l.declaration-index l.declarations))))

use Rattle.std.proofs.Common.{◌≡◌, drop}
use Rattle.oz_language.specs.Grammar.{of_list}
use Rattle.oz_syntax.specs.View.{views}
use Rattle.fd_form.specs.Parts.{each, place_of}
use Rattle.fd_form.proofs.EachLaws.{behind}
use Rattle.fd_form.proofs.vectors.each_place.Given as goal

abbrev pub invariant-elements : goal.invariant-elements
invariant-elements l =
    each (place_of l.variables) (of_list (views l.elements))
    ≡ behind l.found (each (place_of l.variables) (of_list (views (drop l.element-index l.elements))))

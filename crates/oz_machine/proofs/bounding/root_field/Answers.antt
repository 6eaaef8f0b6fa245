use Rattle.std.proofs.Common.{List, ℕ, ◌∙◌, ap}
use Rattle.std.specs.Option.{option_and_then}
use Rattle.oz_semantics.specs.Names.{root_of}
use Rattle.oz_semantics.specs.Store.{value_of}
use Rattle.oz_semantics.specs.BestSearch.{field_of}
use Rattle.oz_machine.proofs.bounding.root_field.Goals as goal

pub returns : goal.returns
returns c =
    c.field_of.ensures
    ∙ ap (option_and_then (field_of c.args.feature)) (c.in-Some.ensures ∙ ap (λ (space : List ℕ). value_of c.args.store.now (root_of space)) c.in_ok-copied.ensures)

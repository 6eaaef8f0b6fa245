use Rattle.std.proofs.Common.{◌∙◌, ap, length, map, refl}
use Rattle.std.specs.List.{range_with_len}
use Rattle.environments.specs.Environments.{binding_all}
use Rattle.oz_semantics.specs.Names.{named}
use Rattle.space_core.proofs.DeclareLaws.{given_way}
use Rattle.space_core.proofs.declarations.declare.Goals as goal

pub returns-clause-ok : goal.returns-clause-ok
returns-clause-ok c =
    let names = c.args.names.now in
    let xs = map (named c.args.space.now) (range_with_len c.args.from (length names)) in
    c.cut.ensures
    ∙ given_way c.bind_from.new.environment names xs c.args.body.now (length c.args.body.now) refl c.in-Some.frame.now c.args.stack.now c.push_body.new.stack c.in-Some.ensures (c.in_ok-bind_from.ensures ∙ ap (binding_all names xs) c.in_ok-environment.ensures) c.in_ok-push_body.ensures.ok

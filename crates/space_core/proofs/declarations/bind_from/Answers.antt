use Rattle.std.proofs.Common.{◌-◌, ◌∙◌, ap, get_or, arith}
use Rattle.environments.specs.Environments.{binding}
use Rattle.oz_language.specs.declared.kernel.Identifier.TheVariants.{Word}
use Rattle.oz_semantics.specs.Names.{named}
use Rattle.space_core.proofs.DeclareLaws.{bound_next}
use Rattle.space_core.proofs.declarations.bind_from.Goals as goal

pub names-preserved : goal.names-preserved
names-preserved c =
    let ns = c.args.names.now in
    let left = c.names.left in
    let n = get_or ns (left - 1) (Word 0) in
    let number = c.in_ok-number.number in
    record {
      within = let w = c.names.invariant.within in omega (arith, w);
      set =
          c.in_ok-bind.ensures.ok
          ∙ ap (λ s. binding n (named s number) c.names.environment) c.in_ok-space.ensures
          ∙ ap (binding n (named c.args.space.now number)) c.names.invariant.set
          ∙ bound_next ns c.args.space.now c.args.from left number c.args.environment.now (Word 0) c.names-test.true c.names.invariant.within c.in_ok-number.ensures;
    }

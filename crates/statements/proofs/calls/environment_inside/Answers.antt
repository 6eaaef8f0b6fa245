use Rattle.std.proofs.Common.{◌-◌, ◌∙◌, ap, length, get_or, arith}
use Rattle.environments.specs.Environments.{binding}
use Rattle.oz_language.specs.declared.kernel.Identifier.TheVariants.{Word}
use Rattle.oz_semantics.specs.Answers.{argument}
use Rattle.statements.specs.Variables.{variables_of}
use Rattle.statements.proofs.BindLaws.{bind_front}
use Rattle.statements.proofs.calls.environment_inside.Goals as goal

pub parameters-preserved : goal.parameters-preserved
parameters-preserved c =
    let ns = c.as_slice-parameters.result.now in
    let xs = variables_of c.args.arguments.now in
    let left = c.parameters.left in
    let n = get_or ns (left - 1) (Word 0) in
    record {
      these = c.parameters.invariant.these;
      within = omega arith;
      set =
          c.in_ok-bind.ensures.ok ∙ ap (λ x. binding n x c.parameters.inside) c.in_ok-copy_at.ensures ∙ ap (binding n (argument xs (left - 1))) c.parameters.invariant.set
          ∙ bind_front ns xs c.args.procedure.now.environment left (Word 0) c.parameters-test.true c.parameters.invariant.within (ap length c.parameters.invariant.these ∙ c.requires);
    }

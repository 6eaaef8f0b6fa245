use Rattle.std.proofs.Common.{List, subst}
use Rattle.oz_language.specs.declared.kernel.Statement.{Statement}
use Rattle.oz_semantics.specs.Configurations.{stack_of}
use Rattle.oz_sleep.proofs.WakingLaws.{some_holds}
use Rattle.oz_machine.specs.Quiet.{AnswersDeclaration, IsDeclaration}
use Rattle.oz_machine.proofs.turn.step_declaring.Goals as goal

pub declare-requires : goal.declare-requires
declare-requires c =
    let st = c.args.kernel.now.statements in
    let s = c.requires.stands in
    let names = c.in-Some.names.now in
    let body = c.in-Some.body.now in
    let said = some_holds c.declaration_at.result (c.in-Some.names, c.in-Some.body) (λ d. AnswersDeclaration c.as_slice.result.now s.frame d.0.now d.1.now) c.in-Some.is (c.declaration_at.ensures s.frame s.numbered) in
    let d : IsDeclaration st (stack_of c.args.course.now.levels c.args.id.now) names body =
    record { frame = s.frame; top = s.top; answers = subst (λ (sts : List Statement). AnswersDeclaration sts s.frame names body) c.as_slice.ensures said } in
    record { head = c.requires.head; there = c.requires.there; kept = c.requires.kept; declared = d; asleep = c.requires.asleep }

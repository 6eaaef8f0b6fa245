use Rattle.std.proofs.Common.{◌≡◌, ◌∙◌, ℕ, false, sym, subst}
use Rattle.oz_semantics.specs.Names.{is_top}
use Rattle.oz_semantics.specs.Edits.{committed}
use Rattle.settle_laws.specs.Settles.{Settles}
use Rattle.oz_machine.proofs.BoundLaws.{bound_settles}
use Rattle.oz_machine.proofs.StepEdits.{empty_top}
use Rattle.oz_machine.proofs.bounding.committed_below.Goals as goal

pub returns-clause-settles : goal.returns-clause-settles
returns-clause-settles c =
    let st = c.args.statements.now in
    let space = c.args.space.now in
    let b = c.args.branch in
    let left = c.commit_in.new.levels in
    let lower : is_top space ≡ false = sym (empty_top space) ∙ sym c.is_top.ensures ∙ c.if-is_top.false in
    let settles : Settles space (committed st space b.alternative c.args.levels) left =
    subst (λ (i : ℕ). Settles space (committed st space i c.args.levels) left) c.from.ensures c.in_ok-commit_in.ensures.ok in
    bound_settles space c.args.feature b.bound (committed st space b.alternative c.args.levels) left c.tell_below.new.levels lower settles c.in_ok-tell_below.ensures.ok

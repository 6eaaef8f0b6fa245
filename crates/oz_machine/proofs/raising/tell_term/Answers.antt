use Rattle.std.proofs.Common.{[], ◌∷◌, List, subst}
use Rattle.oz_semantics.specs.Changes.{GivesOut, done}
use Rattle.oz_semantics.specs.Steps.{without_top}
use Rattle.oz_semantics.specs.declared.value.Tell.{Tell}
use Rattle.settle_laws.specs.Settles.{Settles}
use Rattle.oz_machine.proofs.raising.tell_term.Goals as goal

pub returns-then-branch-clause-told : goal.returns-then-branch-clause-told
returns-then-branch-clause-told c =
    let id = c.args.id.now in
    let told = rw c.if-branch.true at c.in_ok-tell_by.ensures.told in
    subst (λ (ts : List Tell). Settles id.space (done id ts (GivesOut c.args.count ∷ []) (without_top id c.args.levels.now)) c.tell_by.new.self) c.deref.ensures.value told.1

use Rattle.std.proofs.Common.{subst}
use Rattle.term_store.specs.Classes.{Ranked}
use Rattle.term_store.specs.declared.cell.Cell.TheVariants.{Root}
use Rattle.term_store.proofs.ClassLaws.{Written, mark_ranked, mark_marks}
use Rattle.term_store.proofs.classes.Classes.mark.Goals as goal

pub invariant_of-self-2 : goal.invariant_of-self-2
invariant_of-self-2 c =
    let w = subst (λ t. Written t c.insert.new.self c.args.root.now (Root c.args.rank c.args.kept)) c.self.view_is c.in_ok-insert.ensures.ok in
    mark_ranked c.args.self.now c.insert.new.self c.args.root.now c.args.rank c.args.kept w c.requires.top (subst Ranked c.self.view_is c.self.invariant) c.requires.rank

pub returns-clause-ok : goal.returns-clause-ok
returns-clause-ok c =
    let w = subst (λ t. Written t c.insert.new.self c.args.root.now (Root c.args.rank c.args.kept)) c.self.view_is c.in_ok-insert.ensures.ok in
    mark_marks c.args.self.now c.insert.new.self c.args.root.now c.args.rank c.args.kept w c.requires.top

use Rattle.std.proofs.Common.{subst}
use Rattle.term_store.specs.Classes.{Ranked}
use Rattle.term_store.specs.declared.cell.Cell.TheVariants.{Below}
use Rattle.term_store.proofs.ClassLaws.{Written, link_ranked, link_unites}
use Rattle.term_store.proofs.classes.Classes.link.Goals as goal

pub invariant_of-self-2 : goal.invariant_of-self-2
invariant_of-self-2 c =
    let v = subst (λ t. Written t c.insert.new.self c.args.under.now (Below c.in_ok-parent.parent c.args.rank)) c.self.view_is c.in_ok-insert.ensures.ok in
    let w = subst (λ o. Written c.args.self.now c.insert.new.self c.args.under.now (Below o c.args.rank)) c.in_ok-parent.ensures v in
    link_ranked c.args.self.now c.insert.new.self c.args.under.now c.args.over.now c.args.rank w (subst Ranked c.self.view_is c.self.invariant) c.requires.rank c.requires.under c.requires.over c.requires.higher

pub returns-clause-ok : goal.returns-clause-ok
returns-clause-ok c =
    let v = subst (λ t. Written t c.insert.new.self c.args.under.now (Below c.in_ok-parent.parent c.args.rank)) c.self.view_is c.in_ok-insert.ensures.ok in
    let w = subst (λ o. Written c.args.self.now c.insert.new.self c.args.under.now (Below o c.args.rank)) c.in_ok-parent.ensures v in
    link_unites c.args.self.now c.insert.new.self c.args.under.now c.args.over.now c.args.rank w (subst Ranked c.self.view_is c.self.invariant) c.requires.rank c.requires.under c.requires.over c.requires.higher

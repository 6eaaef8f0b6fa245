use Rattle.std.proofs.Common.{◌∙◌, subst, arith}
use Rattle.term_store.specs.Classes.{Ranked}
use Rattle.term_store.specs.declared.cell.Cell.TheVariants.{Root}
use Rattle.term_store.proofs.ClassLaws.{Written, raise_likewise, raise_rank, raise_ranked}
use Rattle.term_store.proofs.classes.Classes.raise.Goals as goal

pub invariant_of-self-2 : goal.invariant_of-self-2
invariant_of-self-2 c =
    let w = subst (λ t. Written t c.insert.new.self c.args.top.now.root (Root c.args.rank c.in_ok-kept.kept)) c.self.view_is c.in_ok-insert.ensures.ok in
    raise_ranked c.args.self.now c.insert.new.self c.args.top.now.root c.args.rank c.in_ok-kept.kept w c.requires.known.stands (subst Ranked c.self.view_is c.self.invariant) (omega (arith, c.requires.more, c.requires.known.rank)) (omega (arith, c.ranges.rank.fits))

pub returns-clause-likewise : goal.returns-clause-likewise
returns-clause-likewise c =
    let w = subst (λ t. Written t c.insert.new.self c.args.top.now.root (Root c.args.rank c.in_ok-kept.kept)) c.self.view_is c.in_ok-insert.ensures.ok in
    raise_likewise c.args.self.now c.insert.new.self c.args.top.now.root c.args.rank c.in_ok-kept.kept w c.requires.known.stands (c.in_ok-kept.ensures ∙ c.requires.known.kept)

pub returns-clause-ok : goal.returns-clause-ok
returns-clause-ok c =
    let w = subst (λ t. Written t c.insert.new.self c.args.top.now.root (Root c.args.rank c.in_ok-kept.kept)) c.self.view_is c.in_ok-insert.ensures.ok in
    raise_rank c.args.self.now c.insert.new.self c.args.top.now.root c.args.rank c.in_ok-kept.kept w c.requires.known.stands

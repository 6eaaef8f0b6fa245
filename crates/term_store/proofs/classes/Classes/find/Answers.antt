use Rattle.std.proofs.Common.{◌≡◌, ◌∙◌, Some, sym, subst, rules}
use Rattle.term_store.specs.Classes.{link_in, Ranked, IsTop}
use Rattle.term_store.proofs.ClassLaws.{root_up, top_root}
use Rattle.term_store.proofs.classes.Classes.find.Goals as goal

pub climb-preserved : goal.climb-preserved
climb-preserved c =
    let at : link_in c.args.self.now c.climb.root.now ≡ Some c.in-Some-Below.parent = search rules in
    (root_up c.args.self.now (subst Ranked c.self.view_is c.self.invariant) c.climb.root.now c.in-Some-Below.parent at ∙ c.climb.invariant.0, search rules)

pub returns-clause-root : goal.returns-clause-root
returns-clause-root c =
    let at : IsTop c.args.self.now c.climb.root.now = search rules in
    sym (top_root c.args.self.now c.climb.root.now at) ∙ c.climb.invariant.0

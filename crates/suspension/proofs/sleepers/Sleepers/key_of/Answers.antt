use Rattle.std.proofs.Common.{◌∙◌, Some, sym, subst}
use Rattle.oz_base.specs.declared.names.Ident.{Ident}
use Rattle.oz_semantics.specs.Store.{Same}
use Rattle.suspension.specs.Changes.{Finds}
use Rattle.suspension.proofs.KeyLaws.{root_same, finds_root, finds_alone}
use Rattle.suspension.proofs.sleepers.Sleepers.key_of.Goals as goal

pub returns-then-is_key : goal.returns-then-is_key
returns-then-is_key c =
    let s : Same c.args.store.now c.args.variable.now c.root-root.result.now =
    root_same c.args.store.now c.classes.result.now c.classes.ensures c.args.variable.now c.root-root.result.now c.root-root.ensures.root in
    subst (λ (k : Ident). Finds c.args.store.now c.args.self.now c.args.variable.now (Some k)) (sym c.in_ok-copied.ensures)
    (finds_root c.args.store.now c.args.self.now c.args.variable.now c.root-root.result.now s (sym c.is_key.ensures ∙ c.if-is_key.true))

pub returns-then-is_alone : goal.returns-then-is_alone
returns-then-is_alone c =
    let s : Same c.args.store.now c.args.variable.now c.root-root.result.now =
    root_same c.args.store.now c.classes.result.now c.classes.ensures c.args.variable.now c.root-root.result.now c.root-root.ensures.root in
    finds_alone c.args.store.now c.args.self.now c.args.variable.now c.root-root.result.now s (sym c.is_key.ensures ∙ c.if-is_key.false)
    (c.is_alone.ensures c.if-is_alone.true)

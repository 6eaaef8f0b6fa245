use Rattle.std.proofs.Common.{ℕ, List, sym, ap, ◌∙◌}
use Rattle.std.specs.List.{list_any}
use Rattle.oz_base.specs.ListLaws.{list_eq-decides}
use Rattle.oz_semantics.specs.Configurations.{view}
use Rattle.oz_semantics.specs.Spaces.{has_due}
use Rattle.oz_semantics.specs.declared.configuration.Layer.{Layer}
use Rattle.view_laws.specs.Queues.{is_due_below}
use Rattle.stability.proofs.DueLaws.{no_due_below}
use Rattle.stability.proofs.PartLaws.{nothing_below}
use Rattle.stability.proofs.due.is_due_below.Goals as goal

pub returns-then-not-has_propagators : goal.returns-then-not-has_propagators
returns-then-not-has_propagators c = no_due_below c.args.levels.now c.args.space.now (sym c.has_propagators.ensures ∙ c.if-not-has_propagators.true)

pub returns-in_default : goal.returns-in_default
returns-in_default c =
    ap (λ (ls : List Layer). list_any (λ (m : Layer). has_due (view c.args.levels.now m.space) m) ls) (sym (nothing_below c.args.space.now c.args.levels.now c.is_tree.ensures c.in_default.ensures.none))

pub returns : goal.returns
returns c =
    let layers = c.args.levels.now in
    let l = c.in-Some.ensures.0 in
    let h = c.in-Some.ensures.1 in
    c.has_due_between.ensures
    ∙ ap (λ (ls : List Layer). list_any (λ (m : Layer). has_due (view layers m.space) m) ls) (sym (c.end_of.ensures.all l h.item))
    ∙ ap (λ (s : List ℕ). is_due_below layers s) ((list_eq-decides l.space c.args.space.now).0 h.passes)

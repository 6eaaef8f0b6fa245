use Rattle.std.proofs.Common.{◌∙◌, sym, ap, List}
use Rattle.std.specs.List.{list_all}
use Rattle.oz_base.specs.declared.names.Ident.{Ident}
use Rattle.oz_semantics.specs.Names.{parent_of}
use Rattle.oz_semantics.specs.Configurations.{view}
use Rattle.space_core.specs.Shown.{shown_all}
use Rattle.space_core.specs.Silence.{variable_alike}
use Rattle.space_core.proofs.ParentLaws.{not_empty}
use Rattle.space_core.proofs.SilentLaws.{empty_silent, has_parent, silent_by_touched, silent_by_names}
use Rattle.space_core.proofs.silence.is_silent.Goals as goal

pub returns-then-is_top : goal.returns-then-is_top
returns-then-is_top c =
    λ s m. empty_silent (shown_all c.args.levels.now) c.args.level.now.space (sym c.is_top.ensures ∙ c.if-is_top.true) (view (shown_all c.args.levels.now) c.args.level.now.space)
    (view (shown_all c.args.levels.now) (parent_of c.args.level.now.space))

pub returns-in_default : goal.returns-in_default
returns-in_default c = λ s m. absurd (has_parent c.args.levels.now s c.args.level.now m (not_empty c.args.level.now.space (sym c.is_top.ensures ∙ c.if-is_top.false)) c.in_default.ensures)

pub returns-then-all_traced : goal.returns-then-all_traced
returns-then-all_traced c =
    λ s m. c.all_alike.ensures
    ∙ ap (λ (vs : List Ident). list_all (variable_alike (shown_all c.args.levels.now) c.args.level.now.space c.store_of-own.result.now c.store_of-above.result.now vs) vs)
    c.as_slice.ensures
    ∙ silent_by_touched c.args.levels.now c.args.level.now (sym c.is_top.ensures ∙ c.if-is_top.false) c.in-Some.parent c.in-Some.ensures c.index-levels-parent.result c.index-levels-parent.is s m c.store_of-own.result.now c.store_of-above.result.now (c.store_of-own.ensures s m) c.store_of-above.ensures
    (sym c.all_traced.ensures ∙ c.if-all_traced.true)

pub returns : goal.returns
returns c =
    λ s m. c.named_alike.ensures
    ∙ silent_by_names c.args.levels.now c.args.level.now (sym c.is_top.ensures ∙ c.if-is_top.false) c.in-Some.parent c.in-Some.ensures c.index-levels-parent.result c.index-levels-parent.is s m c.store_of-own.result.now c.store_of-above.result.now (c.store_of-own.ensures s m) c.store_of-above.ensures

use Rattle.std.proofs.Common.{◌∙◌, refl, sym, ap, List}
use Rattle.std.specs.List.{list_any}
use Rattle.oz_base.specs.declared.names.Ident.{Ident}
use Rattle.oz_semantics.specs.Configurations.{view}
use Rattle.space_core.specs.Shown.{shown_all}
use Rattle.space_core.specs.Silence.{holds_variable}
use Rattle.space_core.proofs.SilentLaws.{top_not_held, determined_not_held, held_outer, held_by_names, held_by_touched}
use Rattle.space_core.proofs.AloneLaws.{by_none}
use Rattle.space_core.proofs.silence.is_held.Goals as goal

pub returns-then-is_top : goal.returns-then-is_top
returns-then-is_top c = λ s m. top_not_held c.args.levels.now c.args.level.now c.args.space.now c.args.variable.now s m (view (shown_all c.args.levels.now) c.args.level.now.space) refl (sym c.is_top.ensures ∙ c.if-is_top.true)

pub returns-then-is_determined : goal.returns-then-is_determined
returns-then-is_determined c = λ s m. determined_not_held c.args.levels.now c.args.level.now c.args.space.now c.args.variable.now s m c.store_of-store.result.now (c.store_of-store.ensures s m) (sym c.is_determined.ensures ∙ c.if-is_determined.true)

pub returns-then-is_outer : goal.returns-then-is_outer
returns-then-is_outer c = λ s m. held_outer c.args.levels.now c.args.level.now c.args.space.now c.args.variable.now s m c.store_of-store.result.now (c.store_of-store.ensures s m) (sym c.is_determined.ensures ∙ c.if-is_determined.false) (sym c.is_outer.ensures ∙ c.if-is_outer.true)

pub returns-then-is_alone : goal.returns-then-is_alone
returns-then-is_alone c =
    λ s m. sym (by_none (shown_all c.args.levels.now) c.args.space.now c.store_of-store.result.now c.args.variable.now (c.is_alone.ensures c.if-is_alone.true) (sym c.is_outer.ensures ∙ c.if-is_outer.false) c.store_of-store.result.now)
    ∙ held_by_names c.args.levels.now c.args.level.now c.args.space.now c.args.variable.now s m c.store_of-store.result.now (c.store_of-store.ensures s m) (sym c.is_determined.ensures ∙ c.if-is_determined.false) (sym c.is_outer.ensures ∙ c.if-is_outer.false)

pub returns-then-not-same_space : goal.returns-then-not-same_space
returns-then-not-same_space c = λ s m. c.named_holds.ensures ∙ held_by_names c.args.levels.now c.args.level.now c.args.space.now c.args.variable.now s m c.store_of-store.result.now (c.store_of-store.ensures s m) (sym c.is_determined.ensures ∙ c.if-is_determined.false) (sym c.is_outer.ensures ∙ c.if-is_outer.false)

pub returns-then-not-all_traced : goal.returns-then-not-all_traced
returns-then-not-all_traced c = λ s m. c.named_holds-then-not-all_traced.ensures ∙ held_by_names c.args.levels.now c.args.level.now c.args.space.now c.args.variable.now s m c.store_of-store.result.now (c.store_of-store.ensures s m) (sym c.is_determined.ensures ∙ c.if-is_determined.false) (sym c.is_outer.ensures ∙ c.if-is_outer.false)

pub returns : goal.returns
returns c =
    λ s m. c.any_holds.ensures
    ∙ ap (λ (vs : List Ident). list_any (holds_variable (shown_all c.args.levels.now) c.args.space.now c.store_of-store.result.now c.args.variable.now) vs) c.as_slice.ensures
    ∙ held_by_touched c.args.levels.now c.args.level.now c.args.space.now c.args.variable.now s m c.store_of-store.result.now (c.store_of-store.ensures s m) (sym c.is_top.ensures ∙ c.if-is_top.false) (sym c.is_determined.ensures ∙ c.if-is_determined.false) (sym c.is_outer.ensures ∙ c.if-is_outer.false) (sym c.same_space.ensures ∙ c.if-not-same_space.false) (sym c.all_traced.ensures ∙ c.if-not-all_traced.false)

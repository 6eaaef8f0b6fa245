use Rattle.std.proofs.Common.{List, inl, inr, sym, ap, ◌∙◌}
use Rattle.std.specs.List.{list_all}
use Rattle.oz_semantics.specs.Store.{named_by}
use Rattle.oz_semantics.specs.declared.value.Tell.{Tell}
use Rattle.space_core.specs.Shown.{shown_all, is_home}
use Rattle.space_core.proofs.fates.is_traced.Goals as goal

pub returns-then-level : goal.returns-then-level
returns-then-level c = λ e. inl c.if-level.true

pub returns : goal.returns
returns c = λ e. inr (
    ap (λ (ts : List Tell). list_all (λ t. list_all (is_home (shown_all c.args.levels.now) c.args.level.now.space) (named_by t)) ts) (sym c.requires)
    ∙ sym c.all_home.ensures ∙ e
    )

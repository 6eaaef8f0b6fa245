use Rattle.std.proofs.Common.{List, ◌∷◌, ◌++◌, [], sym, subst, ap, ◌∙◌}
use Rattle.space_core.specs.Shown.{IsSound}
use Rattle.space_core.specs.declared.level.Level.{Level}
use Rattle.space_core.proofs.BeginLaws.{top_sound}
use Rattle.space_core.proofs.levels.Levels.new.Goals as goal

pub invariant_of-result : goal.invariant_of-result
invariant_of-result c = subst IsSound (sym (c.in_ok-push.ensures.items ∙ ap (λ (ls : List Level). ls ++ c.top_level.result ∷ []) c.new-levels.ensures.items)) (top_sound c.top_level.result c.top_level.ensures)

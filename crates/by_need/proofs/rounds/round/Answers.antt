use Rattle.std.proofs.Common.{◌∙◌, ap, sym, map, List, Bool}
use Rattle.std.specs.List.{list_any}
use Rattle.oz_semantics.specs.declared.configuration.Layer.{Layer}
use Rattle.by_need.specs.Rounds.{is_mark, fire_each}
use Rattle.by_need.proofs.RoundLaws.{marks_in, any_needed, fired_each}
use Rattle.by_need.proofs.rounds.round.Goals as goal

pub returns-then-not-is_marked : goal.returns-then-not-is_marked
returns-then-not-is_marked c =
    sym (any_needed c.args.statements.now c.args.levels.now c.args.levels.now)
    ∙ ap (λ (ms : List (List Bool)). list_any (list_any is_mark) ms) (sym (c.as_slice.ensures ∙ c.in_ok-marks.ensures)) ∙ sym c.is_marked.ensures ∙ c.if-not-is_marked.true

pub returns : goal.returns
returns c = (
  sym (any_needed c.args.statements.now c.args.levels.now c.args.levels.now)
      ∙ ap (λ (ms : List (List Bool)). list_any (list_any is_mark) ms) (sym (c.as_slice.ensures ∙ c.in_ok-marks.ensures)) ∙ sym c.is_marked.ensures ∙ c.if-not-is_marked.false,
  c.in_ok-fire_each.ensures
      ∙ ap (λ (ms : List (List Bool)). fire_each ms c.in_ok-after.after) (c.as_slice-2.ensures ∙ c.in_ok-marks.ensures)
      ∙ ap (λ (ls : List Layer). fire_each (map (marks_in c.args.statements.now c.args.levels.now) c.args.levels.now) ls) c.in_ok-after.ensures
      ∙ fired_each c.args.statements.now c.args.levels.now c.args.levels.now,
)

use Rattle.std.proofs.Common.{[], sym, ap, ◌∙◌}
use Rattle.std.specs.Prelude.{position}
use Rattle.oz_semantics.specs.Configurations.{is_of}
use Rattle.oz_base.specs.Lists.{holds_of}
use Rattle.oz_semantics.specs.Store.{value_of}
use Rattle.oz_semantics.specs.Search.{is_script, script_variable}
use Rattle.oz_acts.proofs.PlaceLaws.{place_none, place_view}
use Rattle.oz_machine.proofs.TopLaws.{no_top}
use Rattle.oz_machine.proofs.scripts.has_script.Goals as goal

pub returns-in-None : goal.returns-in-None
returns-in-None c =
    let levels = c.args.levels.now in
    let absent = place_none levels [] (sym c.in-None.is ∙ c.place-2.ensures ∙ ap (λ space. position (is_of space) levels) c.top.ensures) in
    ap (λ ts. holds_of is_script (value_of ts script_variable)) (sym (no_top levels absent))

pub returns : goal.returns
returns c =
    let levels = c.args.levels.now in
    let seen = place_view levels [] c.in-Some.place c.store_at.result.now (sym c.in-Some.is ∙ c.place-2.ensures ∙ ap (λ space. position (is_of space) levels) c.top.ensures) c.store_at.ensures in
    c.is_script.ensures ∙ ap (holds_of is_script) (c.value.ensures ∙ ap (value_of c.store_at.result.now) c.script_variable.ensures ∙ ap (λ ts. value_of ts script_variable) seen)

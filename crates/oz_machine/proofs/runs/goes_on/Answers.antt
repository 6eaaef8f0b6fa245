use Rattle.std.proofs.Common.{◌≡◌, ◌∙◌, ◌||◌, sym, ap, subst}
use Rattle.std.specs.Prelude.{IfOk}
use Rattle.std.specs.List.{list_any}
use Rattle.oz_base.specs.declared.names.Ident.{Ident}
use Rattle.oz_semantics.specs.Names.{is_below}
use Rattle.turn_laws.proofs.HeadLaws.{kept_goes_on}
use Rattle.oz_semantics.specs.Spaces.{goes_on}
use Rattle.oz_semantics.specs.declared.configuration.Configuration.{Configuration}
use Rattle.view_laws.specs.Queues.{is_due_below}
use Rattle.oz_machine.specs.Courses.{config_of}
use Rattle.oz_machine.proofs.DoingLaws.{settled_seen}
use Rattle.oz_machine.proofs.runs.goes_on.Goals as goal

pub returns-then-kept : goal.returns-then-kept
returns-then-kept c = λ nobody keeps.
    let st = c.args.statements.now in
    let now = c.args.course.now in
    let space = c.args.space.now in
    c.is_moving.ensures
    ∙ ap (λ (d : Configuration). list_any (λ (id : Ident). is_below space id.space) d.queue || is_due_below d.layers space) (sym (settled_seen st now nobody))
    ∙ sym (kept_goes_on st (config_of st now) space (keeps c.if-kept.true))

pub returns : goal.returns
returns c = λ nobody keeps.
    let st = c.args.statements.now in
    let now = c.args.course.now in
    subst (λ (d : Configuration). IfOk c.goes_on.result (λ goes. goes ≡ goes_on st d.layers c.args.space.now)) (sym (settled_seen st now nobody)) c.goes_on.ensures

use Rattle.std.proofs.Common.{◌≡◌, ◌∙◌, sym, ap, subst}
use Rattle.std.specs.Prelude.{IfOk}
use Rattle.oz_semantics.specs.BestSearch.{field_in}
use Rattle.oz_semantics.specs.Configurations.{view}
use Rattle.oz_semantics.specs.Store.{View}
use Rattle.oz_machine.specs.Courses.{Loaded}
use Rattle.oz_machine.proofs.NeedLaws.{seen_after}
use Rattle.oz_machine.proofs.machine.Machine.field.Goals as goal

pub returns : goal.returns
returns c =
    let space = c.args.space.now in
    let course = c.self.inside.course in
    let seen : view course.levels space ≡ view c.args.self.now.config.layers space =
    sym (seen_after c.self.inside.kernel.statements course.levels course.due space) ∙ ap (λ (m : Loaded). view m.config.layers space) c.self.view_is in
    subst (λ (v : View). IfOk c.field_in.result (λ integer. integer ≡ field_in v space c.args.feature)) seen c.field_in.ensures

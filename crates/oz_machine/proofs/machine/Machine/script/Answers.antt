use Rattle.std.proofs.Common.{◌≡◌, ◌∙◌, [], sym, ap}
use Rattle.oz_base.specs.Lists.{holds_of}
use Rattle.oz_semantics.specs.Store.{View, value_of}
use Rattle.oz_semantics.specs.Configurations.{view}
use Rattle.oz_semantics.specs.Search.{has_script, is_script, script_variable}
use Rattle.oz_machine.specs.Courses.{Loaded}
use Rattle.oz_machine.proofs.NeedLaws.{seen_after}
use Rattle.oz_machine.proofs.machine.Machine.script.Goals as goal

pub returns-then-has_script : goal.returns-then-has_script
returns-then-has_script c =
    let course = c.self.inside.course in
    let is : c.has_script.result ≡ has_script c.args.self.now.config =
    c.has_script.ensures
    ∙ ap (λ (v : View). holds_of is_script (value_of v script_variable)) (sym (seen_after c.self.inside.kernel.statements course.levels course.due []) ∙ ap (λ (m : Loaded). view m.config.layers []) c.self.view_is) in
    (sym is ∙ c.if-has_script.true, c.script_variable.ensures)

pub returns-else-has_script : goal.returns-else-has_script
returns-else-has_script c =
    let course = c.self.inside.course in
    let is : c.has_script.result ≡ has_script c.args.self.now.config =
    c.has_script.ensures
    ∙ ap (λ (v : View). holds_of is_script (value_of v script_variable)) (sym (seen_after c.self.inside.kernel.statements course.levels course.due []) ∙ ap (λ (m : Loaded). view m.config.layers []) c.self.view_is) in
    sym is ∙ c.if-has_script.false

use Rattle.std.proofs.Common.{◌≡◌, List, [], ℕ, sym, ap, ap₂, subst, ◌∙◌}
use Rattle.std.specs.Prelude.{IfOk, position}
use Rattle.oz_language.specs.declared.kernel.Kernel.{Kernel}
use Rattle.oz_semantics.specs.Configurations.{is_of, view}
use Rattle.oz_semantics.specs.Store.{View}
use Rattle.oz_semantics.specs.Texts.{Printed, term_text}
use Rattle.oz_machine.specs.Answers.{PrintsWithin}
use Rattle.oz_machine.specs.Courses.{Loaded}
use Rattle.oz_machine.proofs.NeedLaws.{seen_after}
use Rattle.oz_acts.proofs.PlaceLaws.{place_view}
use Rattle.oz_machine.proofs.machine.Machine.top_text.Goals as goal

pub returns : goal.returns
returns c =
    let machine = c.args.self.now in
    let levels = c.self.inside.course.levels in
    let words : c.get.result.now.words ≡ machine.kernel.words = ap (λ (k : Kernel). k.words) c.get.ensures ∙ ap (λ (m : Loaded). m.kernel.words) c.self.view_is in
    let seen : c.store_at.result.now ≡ view machine.config.layers [] =
    place_view levels [] c.in-Some.place c.store_at.result.now (sym c.in-Some.is ∙ c.place-2.ensures ∙ ap (λ space. position (is_of space) levels) c.top.ensures) c.store_at.ensures
    ∙ sym (seen_after c.self.inside.kernel.statements levels c.self.inside.course.due [])
    ∙ ap (λ (m : Loaded). view m.config.layers []) c.self.view_is in
    subst (λ (p : Printed). IfOk c.variable_text.result (PrintsWithin p c.args.fuel)) (ap₂ (λ (ws : List (List ℕ)) (v : View). term_text ws v c.args.variable.now) words seen) c.variable_text.ensures

use Rattle.std.proofs.Common.{◌≡◌, List, ℕ, sym, ap, subst, ◌∙◌}
use Rattle.std.specs.Prelude.{IfOk}
use Rattle.oz_language.specs.declared.kernel.Kernel.{Kernel}
use Rattle.oz_semantics.specs.Search.{state_text}
use Rattle.oz_machine.specs.Answers.{PrintsWithin}
use Rattle.oz_semantics.specs.Configurations.{view}
use Rattle.oz_machine.specs.Courses.{Loaded}
use Rattle.oz_machine.proofs.NeedLaws.{seen_after}
use Rattle.oz_machine.proofs.machine.Machine.leaf_text.Goals as goal

pub returns : goal.returns
returns c =
    let machine = c.args.self.now in
    let words : c.get.result.now.words ≡ machine.kernel.words = ap (λ (k : Kernel). k.words) c.get.ensures ∙ ap (λ (m : Loaded). m.kernel.words) c.self.view_is in
    subst (λ (ws : List (List ℕ)). IfOk c.state_text.result (PrintsWithin (state_text ws machine.config c.args.space.now c.args.state.now) c.args.fuel)) words
    (c.state_text.ensures machine.config (ap (λ (m : Loaded). view m.config.layers c.args.space.now) (sym c.self.view_is) ∙ seen_after c.self.inside.kernel.statements c.self.inside.course.levels c.self.inside.course.due c.args.space.now))

use Rattle.std.proofs.Common.{◌≡◌, ◌∙◌, List, ℕ, Some, sym, subst}
use Rattle.oz_semantics.specs.Configurations.{layer_at}
use Rattle.oz_acts.proofs.PlaceLaws.{place_some}
use Rattle.oz_sleep.proofs.LaidLaws.{able_exact}
use Rattle.oz_sleep.proofs.sleeping.Sleeping.learn.Goals as goal

pub returns-in-Ok : goal.returns-in-Ok
returns-in-Ok c = λ ids exact.
    let levels = c.args.levels.now in
    let there = place_some levels c.args.space.now c.in-Some.place (sym c.in-Some.is ∙ c.place.ensures) in
    c.in-Ok.ensures ids (λ id e able.
    able_exact c.args.statements.now levels ids id there.0 exact (subst (λ (s : List ℕ). layer_at levels s ≡ Some there.0) (sym e) there.1.found)
    (c.is_crowded.ensures c.if-not-is_crowded.false there.0 there.1.item) able)

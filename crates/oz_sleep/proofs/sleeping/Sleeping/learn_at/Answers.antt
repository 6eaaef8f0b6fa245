use Rattle.std.proofs.Common.{◌≡◌, ◌∙◌, true, List, ℕ, Some, sym, ap}
use Rattle.oz_semantics.specs.Configurations.{layer_of}
use Rattle.oz_acts.proofs.PlaceLaws.{place_own}
use Rattle.oz_sleep.specs.declared.sleeping.Sleeping.{Sleeping}
use Rattle.oz_sleep.proofs.LaidLaws.{on_ok, learn_lays}
use Rattle.oz_sleep.proofs.sleeping.Sleeping.learn_at.Goals as goal

pub returns : goal.returns
returns c =
    let levels = c.args.levels.now in
    let mid : Sleeping = record { space = c.in_ok-self.field-0; sleepers = c.new.result; known = true; pending = c.args.self.now.pending; wanted = c.args.self.now.wanted } in
    let own : mid.space ≡ c.args.space.now = c.in_ok-self.ensures in
    on_ok c.lay_all.result (λ rests ids able.
    learn_lays c.args.statements.now levels mid c.lay_all.new.self c.args.place ids
    (place_own levels c.args.space.now c.args.place c.requires.place ∙ ap (λ (s : List ℕ). Some (layer_of levels s)) (sym own))
    c.lay_all.ensures.more c.new.ensures.keys rests (λ id e t. able id (e ∙ own) t)) c.lay_all.ensures.rests

use Rattle.std.proofs.Common.{◌≡◌, ◌+◌, ◌-◌, ◌<◌, ℕ, List, ap, ◌∙◌, zero-add, length, drop, arith}
use Rattle.oz_semantics.specs.Spaces.{states_behind}
use Rattle.oz_semantics.specs.declared.outcome.State.{State}
use Rattle.stability.specs.Known.{known}
use Rattle.stability.proofs.PlaceLaws.{item_at}
use Rattle.stability.proofs.AlikeLaws.{none_known, known_behind, one_counted}
use Rattle.stability.proofs.behind.states_behind.Goals as goal

pub levels-init : goal.levels-init
levels-init c = record {
  from = omega (arith, c.requires, c.len-place.ensures);
  counted = ap (λ (xs : List State). length xs + c.len-place.result) c.new-states.ensures ∙ zero-add c.len-place.result ∙ c.len-place.ensures;
  told = none_known c.args.statements.now c.args.levels.now c.new-states.result c.len-place.result c.new-states.ensures c.len-place.ensures;
}

pub levels-preserved : goal.levels-preserved
levels-preserved c =
    let layers = c.args.levels.now in
    let here : c.levels.place - 1 < length layers = omega arith in
    let item = item_at layers (c.levels.place - 1) here in
    record {
      from = omega arith;
      counted = one_counted c.levels.states c.push.new.self c.in_ok-state.state c.levels.place (length layers) c.in_ok-push.ensures.ok (omega arith) c.levels.invariant.counted;
      told =
          ap (known layers) c.in_ok-push.ensures.ok
          ∙ known_behind c.args.statements.now layers c.levels.states (c.levels.place - 1) c.levels.place item.0 c.in_ok-state.state (omega arith) c.levels.invariant.counted item.1 c.levels.invariant.told
          (c.in_ok-state.ensures item.0 item.1);
    }

pub returns : goal.returns
returns c =
    let here : c.levels.place ≡ c.args.from = omega arith in
    c.levels.invariant.told ∙ ap (λ (n : ℕ). states_behind c.args.statements.now c.args.levels.now (drop n c.args.levels.now)) here

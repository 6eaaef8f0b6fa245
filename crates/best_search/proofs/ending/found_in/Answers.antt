use Rattle.std.proofs.Common.{◌+◌, ◌∙◌, sym, subst, refl, ap, arith}
use Rattle.oz_search.specs.Histories.{total_of}
use Rattle.oz_replies.specs.BestReplies.{IsStopped}
use Rattle.best_search.proofs.StopLaws.{total_within, spent_by_fuel, spent_by_total}
use Rattle.best_search.proofs.ending.found_in.Goals as goal

pub returns-in-None-clause-found : goal.returns-in-None-clause-found
returns-in-None-clause-found c = rw c.as_slice-in-None.ensures.value at c.best_in.ensures c.args.budget

pub total_of-requires : goal.total_of-requires
total_of-requires c =
    let within = total_within c.args.budget c.args.ended.entries.items c.requires.replays in
    let small = c.requires.small in
    rw c.as_slice-in-Fuel.ensures.value (omega (arith, within, small))

pub overflow_add-total : goal.overflow_add-total
overflow_add-total c =
    let sum = c.total_of.ensures ∙ ap total_of c.as_slice-in-Fuel.ensures.value in
    let within = total_within c.args.budget c.args.ended.entries.items c.requires.replays in
    let small = c.requires.small in
    omega (arith, sum, within, small)

pub overflow_add-total-in-Fuel : goal.overflow_add-total-in-Fuel
overflow_add-total-in-Fuel c =
    let sum = c.total_of.ensures ∙ ap total_of c.as_slice-in-Fuel.ensures.value in
    let within = total_within c.args.budget c.args.ended.entries.items c.requires.replays in
    let small = c.requires.small in
    omega (arith, sum, within, small)

pub returns-in-Fuel-clause-found : goal.returns-in-Fuel-clause-found
returns-in-Fuel-clause-found c =
    let sum = c.total_of.ensures ∙ ap total_of c.as_slice-in-Fuel.ensures.value in
    let stop = sym (rw c.as_slice.ensures.value at c.in-Some.ensures) in (
      refl,
      subst
          (λ n. IsStopped c.args.budget c.args.ended.entries.items (n + c.args.budget + 1))
          (sym sum)
          (spent_by_fuel c.args.budget c.args.ended.entries.items c.in-Some.halt c.requires.replays stop c.in-Fuel.is),
    )

pub returns-clause-found : goal.returns-clause-found
returns-clause-found c = (refl, spent_by_total c.args.budget c.args.ended.entries.items c.in-Some.halt c.in-Total.total c.requires.replays (sym (rw c.as_slice.ensures.value at c.in-Some.ensures)) c.in-Total.is)

use Rattle.std.proofs.Common.{sym}
use Rattle.search_all.specs.Answers.{leaves_in}
use Rattle.search_all.proofs.LeafLaws.{found_all, found_none, spent_fuel, spent_total}
use Rattle.search_all.proofs.ending.found.Goals as goal

pub leaves_at-requires : goal.leaves_at-requires
leaves_at-requires c = (leaves_in c.args.ended.entries.items, rw c.as_slice-in-None.ensures.value c.requires)

pub returns-in-None-clause-found : goal.returns-in-None-clause-found
returns-in-None-clause-found c o closes =
    found_all o c.args.ended.entries.items c.in_ok-leaves_at-in-None.field-0 closes (sym (rw c.as_slice.ensures.value at c.in-None.ensures))
    (c.in_ok-leaves_at-in-None.ensures (leaves_in c.args.ended.entries.items) (rw c.as_slice-in-None.ensures.value c.requires))

pub returns-in-Fuel-clause-found : goal.returns-in-Fuel-clause-found
returns-in-Fuel-clause-found c o closes = found_none o c.args.ended.entries.items c.in-Some.halt closes (sym (rw c.as_slice.ensures.value at c.in-Some.ensures)) (spent_fuel c.in-Some.halt.cause c.in-Fuel.is)

pub returns-clause-found : goal.returns-clause-found
returns-clause-found c o closes = found_none o c.args.ended.entries.items c.in-Some.halt closes (sym (rw c.as_slice.ensures.value at c.in-Some.ensures)) (spent_total c.in-Some.halt.cause c.in-Total.field-0 c.in-Total.is)

use Rattle.oz_semantics.specs.declared.value.Builtin.TheVariants.{Label, Width, Arity, Wait, Access, Assign, Exchange, Send, ByNeed, NewSpace}
use Rattle.builtins.proofs.ReadyLaws.{ready_one_input, ready_two_inputs, ready_choose_input, ready_space_input, ready_distinct_input, ready_distribute_input, label_waits, width_waits, arity_waits, wait_waits, access_waits, assign_waits, exchange_waits, send_waits, by_need_waits, new_space_waits}
use Rattle.builtins.proofs.readiness.ready_given.Goals as goal

pub returns-in-Operation : goal.returns-in-Operation
returns-in-Operation c =
    ready_two_inputs c.args.space.now c.args.store.now c.args.builtin c.in-Operation.operation c.args.first.now c.args.second.now c.ready_operation.result c.in-Operation.is c.ready_operation.ensures

pub returns-in-Label : goal.returns-in-Label
returns-in-Label c =
    ready_one_input c.args.space.now c.args.store.now c.args.builtin Label c.args.first.now c.args.second.now c.ready_one.result c.in-Label.is label_waits c.ready_one.ensures

pub returns-in-Width : goal.returns-in-Width
returns-in-Width c =
    ready_one_input c.args.space.now c.args.store.now c.args.builtin Width c.args.first.now c.args.second.now c.ready_one-in-Width.result c.in-Width.is width_waits c.ready_one-in-Width.ensures

pub returns-in-Arity : goal.returns-in-Arity
returns-in-Arity c =
    ready_one_input c.args.space.now c.args.store.now c.args.builtin Arity c.args.first.now c.args.second.now c.ready_one-in-Arity.result c.in-Arity.is arity_waits c.ready_one-in-Arity.ensures

pub returns-in-Wait : goal.returns-in-Wait
returns-in-Wait c =
    ready_one_input c.args.space.now c.args.store.now c.args.builtin Wait c.args.first.now c.args.second.now c.ready_one-in-Wait.result c.in-Wait.is wait_waits c.ready_one-in-Wait.ensures

pub returns-in-Access : goal.returns-in-Access
returns-in-Access c =
    ready_one_input c.args.space.now c.args.store.now c.args.builtin Access c.args.first.now c.args.second.now c.ready_one-in-Access.result c.in-Access.is access_waits c.ready_one-in-Access.ensures

pub returns-in-Assign : goal.returns-in-Assign
returns-in-Assign c =
    ready_one_input c.args.space.now c.args.store.now c.args.builtin Assign c.args.first.now c.args.second.now c.ready_one-in-Assign.result c.in-Assign.is assign_waits c.ready_one-in-Assign.ensures

pub returns-in-Exchange : goal.returns-in-Exchange
returns-in-Exchange c =
    ready_one_input c.args.space.now c.args.store.now c.args.builtin Exchange c.args.first.now c.args.second.now c.ready_one-in-Exchange.result c.in-Exchange.is exchange_waits c.ready_one-in-Exchange.ensures

pub returns-in-Send : goal.returns-in-Send
returns-in-Send c =
    ready_one_input c.args.space.now c.args.store.now c.args.builtin Send c.args.first.now c.args.second.now c.ready_one-in-Send.result c.in-Send.is send_waits c.ready_one-in-Send.ensures

pub returns-in-ByNeed : goal.returns-in-ByNeed
returns-in-ByNeed c =
    ready_one_input c.args.space.now c.args.store.now c.args.builtin ByNeed c.args.first.now c.args.second.now c.ready_one-in-ByNeed.result c.in-ByNeed.is by_need_waits c.ready_one-in-ByNeed.ensures

pub returns-in-NewSpace : goal.returns-in-NewSpace
returns-in-NewSpace c =
    ready_one_input c.args.space.now c.args.store.now c.args.builtin NewSpace c.args.first.now c.args.second.now c.ready_one-in-NewSpace.result c.in-NewSpace.is new_space_waits c.ready_one-in-NewSpace.ensures

pub returns-in-Choose : goal.returns-in-Choose
returns-in-Choose c =
    ready_choose_input c.args.space.now c.args.store.now c.args.builtin c.args.first.now c.args.second.now c.ready_choose.result c.in-Choose.is c.ready_choose.ensures

pub returns-in-OnSpace : goal.returns-in-OnSpace
returns-in-OnSpace c =
    ready_space_input c.args.space.now c.args.store.now c.args.builtin _ c.args.first.now c.args.second.now c.ready_on_space.result c.in-OnSpace.is c.ready_on_space.ensures

pub returns-in-Distinct : goal.returns-in-Distinct
returns-in-Distinct c =
    ready_distinct_input c.args.space.now c.args.store.now c.args.builtin c.args.first.now c.args.second.now c.ready_distinct.result c.in-Distinct.is c.ready_distinct.ensures

pub returns-in-Distribute : goal.returns-in-Distribute
returns-in-Distribute c =
    ready_distribute_input c.args.space.now c.args.store.now c.args.builtin c.args.first.now c.args.second.now c.ready_distributor.result c.in-Distribute.is c.ready_distributor.ensures

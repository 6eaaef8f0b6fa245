use Rattle.std.proofs.Common.{◌∙◌, ap, sym, option_map}
use Rattle.std.specs.Vec.{vec_items}
use Rattle.oz_semantics.specs.Distributors.{distribution}
use Rattle.fd_inputs.specs.Answers.{input_of}
use Rattle.builtins.proofs.DomainLaws.{unknown_waited, other_waited}
use Rattle.builtins.proofs.ReadyLaws.{ready_so}
use Rattle.builtins.proofs.domain_readiness.ready_distributor.Goals as goal

pub returns-in-Known : goal.returns-in-Known
returns-in-Known c =
    c.distributing.ensures c.args.store.now (distribution c.args.store.now c.args.rule.now c.args.elements.now) (ap (input_of (option_map vec_items)) (sym c.in-Known.is) ∙ c.in_ok-waits.ensures)

pub returns-in-Unknown : goal.returns-in-Unknown
returns-in-Unknown c =
    ready_so c.args.store.now _ _ c.ready_by.result (unknown_waited _ c.in-Unknown.variable (ap (input_of (option_map vec_items)) (sym c.in-Unknown.is) ∙ c.in_ok-waits.ensures)) c.ready_by.ensures

pub returns-in-OtherKind : goal.returns-in-OtherKind
returns-in-OtherKind c = other_waited (distribution c.args.store.now c.args.rule.now c.args.elements.now) (ap (input_of (option_map vec_items)) (sym c.in-OtherKind.is) ∙ c.in_ok-waits.ensures)

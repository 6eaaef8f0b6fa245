use Rattle.std.proofs.Common.{◌∙◌, List, ap}
use Rattle.std.proofs.lemmas.Result.{IfOk-weaker}
use Rattle.std.specs.Vec.{vec_items}
use Rattle.oz_base.specs.declared.names.Ident.{Ident}
use Rattle.oz_base.specs.declared.distribution.Rule.{Rule}
use Rattle.oz_semantics.specs.Inputs.{and_further}
use Rattle.oz_semantics.specs.Vectors.{vector}
use Rattle.oz_semantics.specs.Distributors.{distribution_of as distributed, rule_input}
use Rattle.fd_inputs.specs.Answers.{as_it_is, offered_in}
use Rattle.fd_inputs.proofs.InputLaws.{both_read}
use Rattle.fd_inputs.proofs.distribution.distributor_waits.Goals as goal

pub returns-in-Known : goal.returns-in-Known
returns-in-Known c =
    IfOk-weaker c.offered.result _ _
    (λ input h. (
    h
    ∙ ap (λ l. offered_in (distributed c.args.store.now c.in-Known.field-0-0 l)) c.as_slice.ensures.value
    ∙ ap (λ i. offered_in (and_further (λ (i : Rule × List Ident). distributed c.args.store.now i.0 i.1) i))
    (both_read as_it_is vec_items c.in_ok-rule.rule c.in_ok-elements.elements (rule_input c.args.store.now c.args.rule.now) (vector c.args.store.now c.args.vector.now) _ c.in-Known.ensures c.in_ok-rule.ensures c.in_ok-elements.ensures)
    ))
    (c.offered.ensures c.in-Known.field-0-0)

pub returns-in-Unknown : goal.returns-in-Unknown
returns-in-Unknown c =
    ap (λ i. offered_in (and_further (λ (i : Rule × List Ident). distributed c.args.store.now i.0 i.1) i))
    (both_read as_it_is vec_items c.in_ok-rule.rule c.in_ok-elements.elements (rule_input c.args.store.now c.args.rule.now) (vector c.args.store.now c.args.vector.now) _ c.in-Unknown.ensures c.in_ok-rule.ensures c.in_ok-elements.ensures)

pub returns-in-OtherKind : goal.returns-in-OtherKind
returns-in-OtherKind c =
    ap (λ i. offered_in (and_further (λ (i : Rule × List Ident). distributed c.args.store.now i.0 i.1) i))
    (both_read as_it_is vec_items c.in_ok-rule.rule c.in_ok-elements.elements (rule_input c.args.store.now c.args.rule.now) (vector c.args.store.now c.args.vector.now) _ c.in-OtherKind.ensures c.in_ok-rule.ensures c.in_ok-elements.ensures)

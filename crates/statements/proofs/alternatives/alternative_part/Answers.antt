use Rattle.std.proofs.Common.{◌≡◌, ◌∙◌, Some, None, length, sym, ap}
use Rattle.oz_semantics.specs.Answers.{argument}
use Rattle.builtins.specs.Choices.{part_of}
use Rattle.statements.specs.Variables.{variables_of}
use Rattle.statements.proofs.OfferLaws.{no_part, part_taken}
use Rattle.statements.proofs.alternatives.alternative_part.Goals as goal

pub returns-in-None : goal.returns-in-None
returns-in-None c =
    let view = c.args.store.now in
    let xs = variables_of c.args.arguments.now in
    let e : length xs ≡ 2 = sym c.len.ensures ∙ c.if-len-ne2.false in
    let h : None ≡ part_of view c.args.index (argument xs 0) (argument xs 1) =
    sym c.in-None.is ∙ c.in_ok-part_of.ensures ∙ ap (λ x. part_of view c.args.index x c.at-elements.result.now) c.at-rule.ensures
    ∙ ap (part_of view c.args.index (argument xs 0)) c.at-elements.ensures
    in
    c.nothing-in-None.ensures ∙ no_part view c.args.index xs e h

pub returns : goal.returns
returns c =
    let view = c.args.store.now in
    let xs = variables_of c.args.arguments.now in
    let e : length xs ≡ 2 = sym c.len.ensures ∙ c.if-len-ne2.false in
    let h : Some c.in-Some.part ≡ part_of view c.args.index (argument xs 0) (argument xs 1) =
    sym c.in-Some.is ∙ c.in_ok-part_of.ensures ∙ ap (λ x. part_of view c.args.index x c.at-elements.result.now) c.at-rule.ensures
    ∙ ap (part_of view c.args.index (argument xs 0)) c.at-elements.ensures
    in
    part_taken view c.args.index xs c.in-Some.part e h

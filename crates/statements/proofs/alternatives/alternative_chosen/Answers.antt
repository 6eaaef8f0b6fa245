use Rattle.std.proofs.Common.{◌≡◌, ◌∙◌, Some, length, sym, ap}
use Rattle.oz_semantics.specs.Answers.{argument}
use Rattle.builtins.specs.Choices.{choice_of}
use Rattle.statements.specs.Variables.{variables_of}
use Rattle.statements.proofs.OfferLaws.{number_taken}
use Rattle.statements.proofs.alternatives.alternative_chosen.Goals as goal

pub returns : goal.returns
returns c =
    let view = c.args.store.now in
    let xs = variables_of c.args.arguments.now in
    let e : length xs ≡ 2 = sym c.len.ensures ∙ c.if-len-ne2.false in
    let h : Some c.in-Some.field-0 ≡ choice_of view (argument xs 0) =
    sym c.in-Some.is ∙ c.choice_of.ensures ∙ ap (choice_of view) c.at.ensures
    in
    number_taken view c.args.index xs c.in-Some.field-0 c.in_ok-copy_at-in-Some.field-0 c.in_ok-frames-in-Some.frames.items e h c.in_ok-copy_at-in-Some.ensures c.in_ok-frames-in-Some.ensures

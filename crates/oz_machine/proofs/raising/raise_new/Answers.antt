use Rattle.std.proofs.Common.{◌∙◌, [], ◌∷◌, List, Option, sym, ap, subst}
use Rattle.std.specs.Prelude.{is_some}
use Rattle.oz_base.specs.declared.names.Ident.{Ident}
use Rattle.oz_semantics.specs.Configurations.{layer_at}
use Rattle.oz_semantics.specs.Changes.{GivesOut, done}
use Rattle.oz_semantics.specs.Settling.{with_raised}
use Rattle.oz_semantics.specs.Steps.{raised, raised_to, without_top}
use Rattle.oz_semantics.specs.declared.configuration.Frame.{Frame}
use Rattle.oz_semantics.specs.declared.configuration.Layer.{Layer}
use Rattle.settle_laws.specs.Settles.{Settles}
use Rattle.space_core.specs.Advances.{taken_on}
use Rattle.oz_machine.specs.Courses.{stepping}
use Rattle.oz_machine.proofs.StepEdits.{raised_taken, raised_unwound, term_popped, term_told, told_there}
use Rattle.oz_machine.proofs.raising.raise_new.Goals as goal

pub returns-then-branch-clause-turn : goal.returns-then-branch-clause-turn
returns-then-branch-clause-turn c = λ statements kind made.
    let id = c.args.id.now in
    let now = c.args.course.now in
    let wt = without_top id now.levels in
    let told = with_raised kind id.space wt in
    let x = c.args.made.variable in
    let u = rw c.if-branch.true at c.in_ok-raise.ensures.raised in
    let taken = raised_taken id kind c.deref.result.now c.args.count u.0 now.levels c.requires.there (c.deref.ensures.value ∙ made.tells) made.count in
    let settles : Settles id.space (taken_on id u.0 told) c.raise.new.self = subst (λ (ls : List Layer). Settles id.space ls c.raise.new.self) taken u.2 in
    ap (λ (y : Ident). raised statements id y told (stepping now)) (term_popped id now.levels c.requires.there ∙ sym made.variable)
    ∙ ap (λ (o : Option (List Frame)). raised_to statements id x o told (stepping now)) (raised_unwound id kind x now.levels c.requires.there ∙ u.1)
    ∙ c.go_on.ensures.turn statements (taken_on id u.0 told) settles

pub tell_term-requires : goal.tell_term-requires
tell_term-requires c =
    let u = rw c.if-branch.false at c.in_ok-raise.ensures.raised in
    ap (λ (ls : List Layer). is_some (layer_at ls c.args.id.now.space)) u.1 ∙ c.requires.there

pub end_space-requires : goal.end_space-requires
end_space-requires c =
    let id = c.args.id.now in
    let old = c.raise.new.self in
    let u = rw c.if-branch.false at c.in_ok-raise.ensures.raised in
    let there = ap (λ (ls : List Layer). is_some (layer_at ls id.space)) u.1 ∙ c.requires.there in
    record {
      head = c.requires.head;
      there = told_there id c.args.made.tells.items c.args.count old c.tell_term.new.levels c.in_ok-tell_term.ensures.told there;
    }

pub returns-clause-turn : goal.returns-clause-turn
returns-clause-turn c = λ statements kind made.
    let id = c.args.id.now in
    let now = c.args.course.now in
    let wt = without_top id now.levels in
    let told = with_raised kind id.space wt in
    let x = c.args.made.variable in
    let ts = c.args.made.tells.items in
    let u = rw c.if-branch.false at c.in_ok-raise.ensures.raised in
    let after = c.tell_term.new.levels in
    let settled : Settles id.space (done id ts (GivesOut c.args.count ∷ []) wt) after =
    subst (λ (ls : List Layer). Settles id.space (done id ts (GivesOut c.args.count ∷ []) (without_top id ls)) after) u.1 c.in_ok-tell_term.ensures.told in
    let settles : Settles id.space told after = subst (λ (ls : List Layer). Settles id.space ls after) (term_told id kind ts c.args.count now.levels c.requires.there made.tells made.count) settled in
    ap (λ (y : Ident). raised statements id y told (stepping now)) (term_popped id now.levels c.requires.there ∙ sym made.variable)
    ∙ ap (λ (o : Option (List Frame)). raised_to statements id x o told (stepping now)) (raised_unwound id kind x now.levels c.requires.there ∙ u.0)
    ∙ c.end_space.ensures.turn statements told settles

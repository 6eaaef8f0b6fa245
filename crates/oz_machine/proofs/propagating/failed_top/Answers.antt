use Rattle.std.proofs.Common.{◌≡◌, ◌∙◌, true, [], List, ℕ, sym, ap, subst}
use Rattle.std.specs.Prelude.{is_some}
use Rattle.oz_semantics.specs.Configurations.{layer_at, layer_of, in_layer, giving_out}
use Rattle.oz_semantics.specs.Exceptions.{raise_term, new_term_tells}
use Rattle.oz_semantics.specs.Settling.{term_variable, with_raised}
use Rattle.oz_semantics.specs.declared.configuration.Layer.{Layer}
use Rattle.oz_semantics.specs.declared.outcome.RaiseKind.TheVariants.{FailureTop}
use Rattle.space_core.specs.Levels.{IsToldTo, ToldTo}
use Rattle.oz_acts.proofs.PlaceLaws.{place_seen}
use Rattle.oz_machine.specs.Raising.{IsTermOf}
use Rattle.oz_machine.specs.Propagating.{fallible}
use Rattle.oz_machine.proofs.PropagatingLaws.{top_told}
use Rattle.oz_machine.proofs.propagating.failed_top.Goals as goal

pub tell-requires : goal.tell-requires
tell-requires c = place_seen c.in_ok-levels.levels c.top-top.result c.place.result c.place.ensures c.if-is_none.ensures

pub returns-clause-levels : goal.returns-clause-levels
returns-clause-levels c =
    let old = c.args.levels.now in
    let levels = c.in_ok-levels.levels in
    let told = c.tell.new.self in
    let new = c.give_out.new.self in
    let top : List ℕ = c.top-top.result in
    let name : top ≡ [] = c.top-top.ensures in
    let raised = c.in_ok-raised.raised in
    let ts = c.deref.result.now in
    let same : levels ≡ old = c.in_ok-levels.ensures in
    let made : IsTermOf FailureTop old [] raised.term raised.count = subst (λ (s : List ℕ). IsTermOf FailureTop old s raised.term raised.count) name c.in_ok-raised.ensures in
    let there : is_some (layer_at levels []) ≡ true = subst (λ (s : List ℕ). is_some (layer_at levels s) ≡ true) name (place_seen levels top c.place.result c.place.ensures c.if-is_none.ensures) in
    let are : ts ≡ new_term_tells (layer_of levels []) (raise_term FailureTop) =
    c.deref.ensures.value ∙ made.tells ∙ ap (λ (ls : List Layer). new_term_tells (layer_of ls []) (raise_term FailureTop)) (sym same) in
    let tells : ToldTo [] ts levels told = subst (λ (s : List ℕ). ToldTo s ts levels told) name (subst (IsToldTo top ts levels told) c.if-not-branch.false c.in_ok-tell.ensures.told) in
    let as_many : fallible told ≡ fallible levels = sym c.fallible.ensures ∙ c.if-fallible-before.false ∙ c.fallible-before.ensures in
    let gives : new ≡ in_layer [] (giving_out raised.count) told = c.in_ok-give_out.ensures.ok ∙ ap (λ (s : List ℕ). in_layer s (giving_out raised.count) told) name in
    subst (λ (ls : List Layer). new ≡ with_raised FailureTop [] ls) same (top_told levels told new ts raised.count FailureTop c.is_tree.ensures there are made.count tells as_many gives)

pub returns-clause-exception : goal.returns-clause-exception
returns-clause-exception c = c.in_ok-raised.ensures.variable ∙ ap (term_variable c.args.levels.now) c.top-top.ensures

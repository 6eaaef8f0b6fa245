use Rattle.std.proofs.Common.{◌≡◌, ℕ, List, ◌⊎◌, inl, inr, sym, ap, subst, ◌∙◌}
use Rattle.std.specs.Prelude.{IfOk}
use Rattle.oz_semantics.specs.Names.{root_of}
use Rattle.oz_semantics.specs.Configurations.{view}
use Rattle.oz_semantics.specs.Texts.{no_text, term_text}
use Rattle.oz_semantics.specs.Search.{state_text}
use Rattle.oz_semantics.specs.declared.outcome.State.{State}
use Rattle.oz_semantics.specs.declared.outcome.State.TheVariants.{Solved, Stuck, Running, Suspended, Failed, Merged, Alternatives}
use Rattle.oz_semantics.specs.declared.configuration.Configuration.{Configuration}
use Rattle.oz_machine.specs.Answers.{PrintsWithin}
use Rattle.oz_acts.proofs.PlaceLaws.{place_view}
use Rattle.oz_machine.proofs.texts.state_text.Goals as goal

-- a state in which there is nothing to show
shows_nothing : (words : List (List ℕ)) (d : Configuration) (space : List ℕ) (s : State) → (s ≡ Running) ⊎ ((s ≡ Suspended) ⊎ ((s ≡ Failed) ⊎ ((s ≡ Merged) ⊎ ((n : ℕ) × (s ≡ Alternatives n)))))
    → no_text ≡ state_text words d space s
shows_nothing words d space s (inl e) = ap (state_text words d space) (sym e)
shows_nothing words d space s (inr (inl e)) = ap (state_text words d space) (sym e)
shows_nothing words d space s (inr (inr (inl e))) = ap (state_text words d space) (sym e)
shows_nothing words d space s (inr (inr (inr (inl e)))) = ap (state_text words d space) (sym e)
shows_nothing words d space s (inr (inr (inr (inr (n, e))))) = ap (state_text words d space) (sym e)

-- and one in which the root variable is shown
shows_root : (words : List (List ℕ)) (d : Configuration) (space : List ℕ) (s : State) → (s ≡ Solved) ⊎ (s ≡ Stuck) → term_text words (view d.layers space) (root_of space) ≡ state_text words d space s
shows_root words d space s (inl e) = ap (state_text words d space) (sym e)
shows_root words d space s (inr e) = ap (state_text words d space) (sym e)

pub returns-in-Raised : goal.returns-in-Raised
returns-in-Raised c d e =
    let levels = c.args.levels.now in
    let space = c.args.space.now in
    let words = c.args.words.now in
    let store = c.store_at.result.now in
    let x = c.in-Raised.exception in
    let seen = place_view levels space c.in-Some.place store (sym c.in-Some.is ∙ c.place.ensures) c.store_at.ensures in
    let same : term_text words store x ≡ state_text words d space c.args.state.now =
    ap (λ view. term_text words view x) (seen ∙ sym e) ∙ ap (state_text words d space) (sym c.in-Raised.is) in
    subst (λ printed. IfOk c.variable_text.result (PrintsWithin printed c.args.fuel)) same c.variable_text.ensures

pub returns-in-Running : goal.returns-in-Running
returns-in-Running c d e =
    subst (λ printed. PrintsWithin printed c.args.fuel c.nothing.result) (shows_nothing c.args.words.now d c.args.space.now c.args.state.now c.in-Running.is) (c.nothing.ensures c.args.fuel)

pub returns-in-Solved : goal.returns-in-Solved
returns-in-Solved c d e =
    let levels = c.args.levels.now in
    let space = c.args.space.now in
    let words = c.args.words.now in
    let store = c.store_at-in-Solved.result.now in
    let seen = place_view levels space c.in-Some.place store (sym c.in-Some.is ∙ c.place.ensures) c.store_at-in-Solved.ensures in
    let same : term_text words store (root_of space) ≡ state_text words d space c.args.state.now =
    ap (λ view. term_text words view (root_of space)) (seen ∙ sym e) ∙ shows_root words d space c.args.state.now c.in-Solved.is in
    subst (λ printed. IfOk c.root_text.result (PrintsWithin printed c.args.fuel)) same c.root_text.ensures

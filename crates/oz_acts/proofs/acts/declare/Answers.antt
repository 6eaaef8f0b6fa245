use Rattle.std.proofs.Common.{◌≡◌, ℕ, List, [], ◌∷◌, length, subst}
use Rattle.std.specs.Prelude.{OnOk}
use Rattle.environments.specs.Environments.{Environment, binding_all}
use Rattle.oz_language.specs.declared.kernel.Identifier.{Identifier}
use Rattle.oz_semantics.specs.Configurations.{layer_of, fresh_variables, frames_of}
use Rattle.oz_semantics.specs.Changes.{GivesOut, Pushes, changed_all}
use Rattle.oz_semantics.specs.Steps.{without_top}
use Rattle.oz_acts.proofs.ActLaws.{declared_frames}
use Rattle.oz_acts.proofs.acts.declare.Goals as goal

pub returns-clause-ok : goal.returns-clause-ok
returns-clause-ok c =
    let id = c.args.id.now in
    let old = c.args.levels.now in
    let names = c.as_slice-names.result.now in
    let body = c.as_slice.result.now in
    let environment = c.in_ok-environment.environment in
    let same = declared_frames old id.space c.next_of-next.result names body environment c.bind_from.new.environment c.in_ok-frames.frames.items
    c.next_of-next.ensures c.in_ok-bind_from.ensures c.in_ok-frames.ensures in
    let made = subst (λ fs. OnOk c.declare.result (c.declare.new.self ≡ changed_all id (Pushes fs ∷ GivesOut (length names) ∷ []) (without_top id old))) same c.declare.ensures.ok in
    let inner : List Identifier → Environment → Environment = λ ns e. binding_all ns (fresh_variables (layer_of old id.space) (length ns)) e in
    let after : List Identifier → List ℕ → Environment → Type 0 = λ ns is e.
    OnOk c.declare.result (c.declare.new.self ≡ changed_all id (Pushes (frames_of (inner ns e) is) ∷ GivesOut (length ns) ∷ []) (without_top id old)) in
    let in_names = subst (λ ns. after ns body environment) c.as_slice-names.ensures made in
    let in_body = subst (λ is. after c.args.declaration.now.names is environment) c.as_slice.ensures in_names in
    subst (after c.args.declaration.now.names c.args.declaration.now.body) c.in_ok-environment.ensures in_body

-- The node of a machine that was run until its space came to rest.
use Rattle.std.proofs.Common.{◌≡◌, ◌≢◌, ℕ, zero, suc, ◌+◌, ◌-◌, ◌≤◌, List, Some, refl, sym, subst, ap, arith, ◌∙◌}
use Rattle.oz_language.specs.declared.kernel.Kernel.{Kernel}
use Rattle.oz_search.specs.Trees.{report}
use Rattle.oz_search.specs.Nodes.{Reached}
use Rattle.oz_search.specs.declared.leaf.Outcome.{Outcome}
use Rattle.oz_search.specs.declared.tree.Kind.{Kind}
use Rattle.oz_semantics.specs.Spaces.{state}
use Rattle.oz_semantics.specs.Runs as runs
use Rattle.oz_semantics.specs.Search.{node_at, kind_of, state_text}
use Rattle.oz_semantics.specs.declared.configuration.Configuration.{Configuration}
use Rattle.oz_semantics.specs.declared.outcome.State.{State}
use Rattle.machine_search.proofs.MakerLaws.{node_law}
use Rattle.oz_machine.specs.Courses.{Loaded}
use Rattle.oz_machine.specs.Answers.{IsRun, PrintsWithin}
use Rattle.oz_machine.specs.declared.runs.Ran.{Ran}
use Rattle.oz_machine.specs.declared.runs.Ran.TheVariants.{Ended}
use Rattle.oz_machine.specs.declared.texts.Text.{Text}
use Rattle.recompute.specs.declared.waypoint.Rest.{Rest}

-- the node in this configuration
abbrev pub node_in : Configuration → Kind Outcome → ℕ → Reached Configuration Outcome
node_in c kind steps = record { config = c; report = report kind steps }

solves_by : (k : Kernel) (c : Configuration) (d : Loaded) (space : List ℕ) (fuel steps : ℕ) (s : State) (text : Text) (kind : Kind Outcome) → fuel ≢ 0
    → IsRun d space (fuel - 1) (runs.run k space c (fuel - 1)) (Ended (Some s) steps) → d.kernel ≡ k
    → PrintsWithin (state_text k.words d.config space s) (fuel - 1 - steps) (Some text) → kind_of s text.bytes ≡ Some kind
    → node_at k space fuel c ≡ Some (node_in d.config kind (fuel - (fuel - 1 - steps - text.steps)))
solves_by k c d space zero steps s text kind n r e p known = absurd (n refl)
solves_by k c d space (suc f) steps s text kind n r e p known =
    let one : suc f - 1 ≡ f = omega arith in
    let printed = state_text k.words d.config space s in
    let within : steps ≤ suc f - 1 = r.0 in
    let ran : runs.run k space c f ≡ runs.Ended d.config (f - steps) = ap (runs.run k space c) (sym one) ∙ r.1 ∙ ap (λ m. runs.Ended d.config (m - steps)) one in
    let at_state : state k.statements d.config.layers space ≡ Some s = sym (r.2 ∙ ap (λ (q : Kernel). state q.statements d.config.layers space) e) in
    let nodes : text.steps ≡ printed.nodes = p.1 in
    let fits : printed.nodes ≤ suc f - 1 - steps = p.2 in
    let low : printed.nodes ≤ f - steps = omega arith in
    let cost : suc f - (f - steps) + printed.nodes ≡ suc f - (suc f - 1 - steps - text.steps) = omega arith in
    node_law k space c f d.config (f - steps) s kind ran at_state (ap (kind_of s) (sym p.0) ∙ known) low ∙ ap (λ m. Some (node_in d.config kind m)) cost

-- it was run, and the text of its state was printed
pub solves : (m d : Loaded) (space : List ℕ) (fuel : ℕ) (r : Ran) (rest : Rest) (text : Text) (kind : Kind Outcome) → fuel ≢ 0
    → IsRun d space (fuel - 1) (runs.run m.kernel space m.config (fuel - 1)) r → d.kernel ≡ m.kernel → r ≡ Ended (Some rest.state) rest.steps
    → PrintsWithin (state_text d.kernel.words d.config space rest.state) (fuel - 1 - rest.steps) (Some text) → kind_of rest.state text.bytes ≡ Some kind
    → node_at m.kernel space fuel m.config ≡ Some (node_in d.config kind (fuel - (fuel - 1 - rest.steps - text.steps)))
solves m d space fuel r rest text kind n run e h p known =
    solves_by m.kernel m.config d space fuel rest.steps rest.state text kind n
    (subst (λ (x : Ran). IsRun d space (fuel - 1) (runs.run m.kernel space m.config (fuel - 1)) x) h run) e
    (subst (λ (q : Kernel). PrintsWithin (state_text q.words d.config space rest.state) (fuel - 1 - rest.steps) (Some text)) e p) known

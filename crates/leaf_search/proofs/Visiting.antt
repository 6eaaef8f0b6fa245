-- What a visit of one node finds.
use Rattle.std.proofs.Common.{◌≡◌, ◌≢◌, ℕ, zero, suc, ◌+◌, ◌-◌, ◌<◌, ◌≤◌, nat_le, Bool, true, false, if◌then◌else◌, List, ◌++◌, Option, Some, None, refl, sym, subst, ap, arith, ◌∙◌}
use Rattle.oz_language.specs.declared.kernel.Kernel.{Kernel}
use Rattle.oz_search.specs.Trees.{report}
use Rattle.oz_search.specs.Nodes.{Reached}
use Rattle.oz_search.specs.declared.leaf.Outcome.{Outcome}
use Rattle.oz_search.specs.declared.leaf.Outcome.TheVariants as outcome
use Rattle.oz_search.specs.declared.tree.Kind.{Kind}
use Rattle.oz_search.specs.declared.tree.Kind.TheVariants as kinds
use Rattle.oz_semantics.specs.Spaces.{state}
use Rattle.oz_semantics.specs.Runs as runs
use Rattle.oz_semantics.specs.Search.{node_in_state, node_of_run, node_at, kind_of, state_text}
use Rattle.oz_semantics.specs.declared.configuration.Configuration.{Configuration}
use Rattle.oz_semantics.specs.declared.outcome.State.{State}
use Rattle.oz_semantics.specs.declared.outcome.State.TheVariants as states
use Rattle.machine_search.specs.Visits.{leaf_of, children_of, Visits}
use Rattle.machine_search.proofs.MakerLaws.{node_law, no_node_law}
use Rattle.oz_machine.specs.Courses.{Loaded}
use Rattle.oz_machine.specs.Answers.{IsRun, PrintsWithin}
use Rattle.oz_machine.specs.declared.runs.Ran.{Ran}
use Rattle.oz_machine.specs.declared.runs.Ran.TheVariants.{Ended, TopEnded, OutOfFuel}
use Rattle.oz_machine.specs.declared.texts.Text.{Text}
use Rattle.leaf_search.specs.declared.open.Rest.{Rest}
use Rattle.leaf_search.specs.Searching.{is_no_node, Restless, RestsBy, children_by, leaf_by}

-- ---- nodes that are there

-- what a node in this state adds is what one of its kind does
record IsKind (k : Kernel) (space : List ℕ) (d : Configuration) (s : State) (text : List ℕ) : Type 0 where
  kind : Kind Outcome
  known : kind_of s text ≡ Some kind
  leaf : leaf_by s text ≡ leaf_of kind
  children : children_by k space d s ≡ children_of k space d kind

kind_by : (k : Kernel) (space : List ℕ) (d : Configuration) (s : State) (text : List ℕ) → is_no_node s ≡ false → IsKind k space d s text
kind_by k space d states.Solved text n = record { kind = kinds.End (outcome.Solved text); known = refl; leaf = refl; children = refl }
kind_by k space d states.Stuck text n = record { kind = kinds.End (outcome.Stuck text); known = refl; leaf = refl; children = refl }
kind_by k space d (states.Raised x) text n = record { kind = kinds.End (outcome.Raised text); known = refl; leaf = refl; children = refl }
kind_by k space d states.Suspended text n = record { kind = kinds.End outcome.Suspended; known = refl; leaf = refl; children = refl }
kind_by k space d states.Failed text n = record { kind = kinds.End outcome.Failed; known = refl; leaf = refl; children = refl }
kind_by k space d (states.Alternatives m) text n = record { kind = kinds.Alternatives m; known = refl; leaf = refl; children = refl }
kind_by k space d states.Running text n = absurd (cc)
kind_by k space d states.Merged text n = absurd (cc)

visited_by : (k : Kernel) (c : Configuration) (d : Loaded) (space : List ℕ) (fuel steps : ℕ) (s : State) (text : Text) (opened after : List Configuration) (leaves leaves_after : List Outcome) → fuel ≢ 0
    → IsRun d space (fuel - 1) (runs.run k space c (fuel - 1)) (Ended (Some s) steps) → d.kernel ≡ k → is_no_node s ≡ false
    → PrintsWithin (state_text k.words d.config space s) (fuel - 1 - steps) (Some text)
    → after ≡ children_by k space d.config s ++ opened → leaves_after ≡ leaves ++ leaf_by s text.bytes
    → Visits k space c fuel (fuel - 1 - steps - text.steps) opened after leaves leaves_after
visited_by k c d space zero steps s text opened after leaves leaves_after n r e still p o l = absurd (n refl)
visited_by k c d space (suc f) steps s text opened after leaves leaves_after n r e still p o l =
    let one : suc f - 1 ≡ f = omega arith in
    let printed = state_text k.words d.config space s in
    let within : steps ≤ suc f - 1 = r.0 in
    let ran : runs.run k space c f ≡ runs.Ended d.config (f - steps) = ap (runs.run k space c) (sym one) ∙ r.1 ∙ ap (λ m. runs.Ended d.config (m - steps)) one in
    let at_state : state k.statements d.config.layers space ≡ Some s = sym (r.2 ∙ ap (λ (q : Kernel). state q.statements d.config.layers space) e) in
    let nodes : text.steps ≡ printed.nodes = p.1 in
    let fits : printed.nodes ≤ suc f - 1 - steps = p.2 in
    let low : printed.nodes ≤ f - steps = omega arith in
    let is = kind_by k space d.config s text.bytes still in
    record {
      node = record { config = d.config; report = report is.kind (suc f - (f - steps) + printed.nodes) };
      made = node_law k space c f d.config (f - steps) s is.kind ran at_state (ap (kind_of s) (sym p.0) ∙ is.known) low;
      spends = omega arith;
      opens = o ∙ ap (λ cs. cs ++ opened) is.children;
      adds = l ∙ ap (λ ls. leaves ++ ls) is.leaf;
    }

-- a node that was run, and whose text was printed
pub visited : (m d : Loaded) (space : List ℕ) (fuel : ℕ) (r : Ran) (rest : Rest) (text : Text) (opened after : List Configuration) (leaves leaves_after : List Outcome) → fuel ≢ 0
    → IsRun d space (fuel - 1) (runs.run m.kernel space m.config (fuel - 1)) r → d.kernel ≡ m.kernel → RestsBy r (Some rest)
    → PrintsWithin (state_text d.kernel.words d.config space rest.state) (fuel - 1 - rest.steps) (Some text)
    → after ≡ children_by d.kernel space d.config rest.state ++ opened → leaves_after ≡ leaves ++ leaf_by rest.state text.bytes
    → Visits m.kernel space m.config fuel (fuel - 1 - rest.steps - text.steps) opened after leaves leaves_after
visited m d space fuel r rest text opened after leaves leaves_after n run e h p o l =
    let s = rest.state in
    visited_by m.kernel m.config d space fuel rest.steps s text opened after leaves leaves_after n
    (subst (λ (x : Ran). IsRun d space (fuel - 1) (runs.run m.kernel space m.config (fuel - 1)) x) h.0 run) e h.1
    (subst (λ (q : Kernel). PrintsWithin (state_text q.words d.config space s) (fuel - 1 - rest.steps) (Some text)) e p)
    (o ∙ ap (λ (q : Kernel). children_by q space d.config s ++ opened) e) l

-- ---- and nodes that are not

either_none : (b : Bool) → ◌≡◌ {A = Option (Reached Configuration Outcome)} (if b then None else None) None
either_none true = refl
either_none false = refl

none_there : (k : Kernel) (space : List ℕ) (fuel left : ℕ) (d : Configuration) (s : State) → is_no_node s ≡ true → node_in_state k space fuel d left (Some s) ≡ None
none_there k space fuel left d states.Running e = either_none (nat_le 0 left)
none_there k space fuel left d states.Merged e = either_none (nat_le 0 left)
none_there k space fuel left d states.Solved e = absurd (cc)
none_there k space fuel left d states.Stuck e = absurd (cc)
none_there k space fuel left d (states.Raised x) e = absurd (cc)
none_there k space fuel left d states.Suspended e = absurd (cc)
none_there k space fuel left d states.Failed e = absurd (cc)
none_there k space fuel left d (states.Alternatives m) e = absurd (cc)

ran_none : (k : Kernel) (c : Configuration) (d : Loaded) (space : List ℕ) (f : ℕ) (r : Ran) → IsRun d space f (runs.run k space c f) r → d.kernel ≡ k → Restless r
    → node_of_run k space (suc f) (runs.run k space c f) ≡ None
ran_none k c d space f OutOfFuel r e h = ap (node_of_run k space (suc f)) r
ran_none k c d space f (TopEnded exception steps) r e h = ap (node_of_run k space (suc f)) r.1
ran_none k c d space f (Ended None steps) r e h =
    ap (node_of_run k space (suc f)) r.1
    ∙ ap (node_in_state k space (suc f) d.config (f - steps)) (sym (r.2 ∙ ap (λ (q : Kernel). state q.statements d.config.layers space) e))
ran_none k c d space f (Ended (Some s) steps) r e h =
    ap (node_of_run k space (suc f)) r.1
    ∙ ap (node_in_state k space (suc f) d.config (f - steps)) (sym (r.2 ∙ ap (λ (q : Kernel). state q.statements d.config.layers space) e))
    ∙ none_there k space (suc f) (f - steps) d.config s h

pub no_node : (m d : Loaded) (space : List ℕ) (fuel : ℕ) (r : Ran) → fuel ≢ 0 → IsRun d space (fuel - 1) (runs.run m.kernel space m.config (fuel - 1)) r → d.kernel ≡ m.kernel
    → Restless r → node_at m.kernel space fuel m.config ≡ None
no_node m d space zero r n run e h = absurd (n refl)
no_node m d space (suc f) r n run e h =
    let one : suc f - 1 ≡ f = omega arith in
    ran_none m.kernel m.config d space f r (subst (λ x. IsRun d space x (runs.run m.kernel space m.config x) r) one run) e h

-- a text that does not fit
unprinted_by : (k : Kernel) (c : Configuration) (d : Loaded) (space : List ℕ) (f steps : ℕ) (s : State)
    → IsRun d space f (runs.run k space c f) (Ended (Some s) steps) → d.kernel ≡ k → f - steps < (state_text k.words d.config space s).nodes
    → node_at k space (suc f) c ≡ None
unprinted_by k c d space f steps s r e h =
    no_node_law k space c f d.config (f - steps) s r.1 (sym (r.2 ∙ ap (λ (q : Kernel). state q.statements d.config.layers space) e)) h

pub unprinted : (m d : Loaded) (space : List ℕ) (fuel : ℕ) (r : Ran) (rest : Rest) → fuel ≢ 0
    → IsRun d space (fuel - 1) (runs.run m.kernel space m.config (fuel - 1)) r → d.kernel ≡ m.kernel → RestsBy r (Some rest)
    → PrintsWithin (state_text d.kernel.words d.config space rest.state) (fuel - 1 - rest.steps) None
    → node_at m.kernel space fuel m.config ≡ None
unprinted m d space zero r rest n run e h p = absurd (n refl)
unprinted m d space (suc f) r rest n run e h p =
    let s = rest.state in
    let one : suc f - 1 ≡ f = omega arith in
    let ended = subst (λ (x : Ran). IsRun d space (suc f - 1) (runs.run m.kernel space m.config (suc f - 1)) x) h.0 run in
    unprinted_by m.kernel m.config d space f rest.steps s (subst (λ x. IsRun d space x (runs.run m.kernel space m.config x) (Ended (Some s) rest.steps)) one ended) e
    (subst (λ (q : Kernel). f - rest.steps < (state_text q.words d.config space s).nodes) e (subst (λ x. x - rest.steps < (state_text d.kernel.words d.config space s).nodes) one p))

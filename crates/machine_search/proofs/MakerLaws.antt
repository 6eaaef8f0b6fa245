-- The machine is a maker: its nodes take the same steps with any fuel that suffices for them.
use Rattle.std.proofs.Common.{◌≡◌, ℕ, zero, suc, ◌+◌, ◌-◌, ◌<◌, ◌≤◌, nat_le, Bool, true, false, cond, if◌then◌else◌, List, Option, Some, None, refl, sym, ap, arith, ◌∙◌, subst}
use lib.Dec.{leb}
use Rattle.std.proofs.lemmas.Bool.Decides.{nat_tests}
use Rattle.std.proofs.lemmas.Option.{same_Some}
use Rattle.oz_semantics.specs.Spaces.{state}
use Rattle.oz_semantics.specs.Texts.{Printed}
use Rattle.oz_semantics.specs.Runs.{Ran, Ended, TopRaised, Over, run}
use Rattle.oz_semantics.specs.Search.{kind_of, node_of_kind, node_with, node_in_state, node_of_run, node_at, state_text}
use Rattle.oz_language.specs.declared.kernel.Kernel.{Kernel}
use Rattle.oz_semantics.specs.declared.configuration.Configuration.{Configuration}
use Rattle.oz_semantics.specs.declared.outcome.State.{State}
use Rattle.oz_search.specs.declared.leaf.Outcome.{Outcome}
use Rattle.oz_search.specs.declared.tree.Kind.{Kind}
use Rattle.oz_search.specs.Trees.{report}
use Rattle.oz_search.specs.Nodes.{Reached, if_within}
use Rattle.machine_search.specs.Laws.{MakerLaw, NodeLaw, NoNodeLaw}
use Rattle.machine_search.proofs.RunLaws.{IsExact, exact}

-- the node of a run that ended at d
abbrev made : Configuration → Kind Outcome → ℕ → Reached Configuration Outcome
made d kind steps = record { config = d; report = report kind steps }

node_by_kind : (fuel : ℕ) (d : Configuration) (left : ℕ) (s : State) (printed : Printed) (kind : Kind Outcome) → kind_of s printed.bytes ≡ Some kind
    → node_with fuel d left s printed ≡ cond (nat_le printed.nodes left) (Some (made d kind (fuel - left + printed.nodes))) None
node_by_kind fuel d left s printed kind known = by (nat_le printed.nodes left) refl
  where
    by : (b : Bool) → nat_le printed.nodes left ≡ b → node_with fuel d left s printed ≡ cond b (Some (made d kind (fuel - left + printed.nodes))) None
    by true e = rw (e, known) refl
    by false e = rw e refl

none_by_kind : (fuel : ℕ) (d : Configuration) (left : ℕ) (s : State) (printed : Printed) → kind_of s printed.bytes ≡ None → node_with fuel d left s printed ≡ None
none_by_kind fuel d left s printed known = by (nat_le printed.nodes left) refl
  where
    by : (b : Bool) → nat_le printed.nodes left ≡ b → node_with fuel d left s printed ≡ None
    by true e = rw (e, known) refl
    by false e = rw e refl

module _ (k : Kernel) (space : List ℕ) where
  -- what the run of c ends at
  module _ (c d : Configuration) (f left : ℕ) (h : IsExact k space c f d left) (s : State) (printed : Printed) (kind : Kind Outcome) (known : kind_of s printed.bytes ≡ Some kind)
      (is : (g after : ℕ) → run k space c g ≡ Ended d after → node_at k space (suc g) c ≡ node_with (suc g) d after s printed) (fits : nat_le printed.nodes left ≡ true) where
    steps : ℕ
    steps = suc f - left + printed.nodes

    one : 1 ≤ steps
    unfolding steps
    one = let a = h.fits in omega (arith, a)

    within : steps ≤ suc f
    unfolding steps
    within = let a = h.fits in grind (arith, nat_tests, a, fits)

    enough : (g : ℕ) → f ≤ g + left → node_at k space (suc g) c ≡ if_within (suc g) (made d kind steps)
    unfolding steps
    enough g e =
        let low = h.fits in
        let after = g + left - f in
        let ran : run k space c g ≡ Ended d after = h.enough g (suc g) (omega arith) e in
        let same : suc g - after + printed.nodes ≡ suc f - left + printed.nodes = omega (arith, low, e) in
        let step : (b : Bool) → nat_le printed.nodes after ≡ b → cond b (Some (made d kind (suc g - after + printed.nodes))) None ≡ if_within (suc g) (made d kind (suc f - left + printed.nodes))
        = elim [
          | true ↦ λ i.
              let yes : leb (suc f - left + printed.nodes) (suc g) ≡ true = grind (arith, nat_tests, low, e, i) in
              ap (λ n. Some (made d kind n)) same ∙ ap (λ b. cond b (Some (made d kind (suc f - left + printed.nodes))) None) (sym yes)
          | false ↦ λ i.
              let not_so : leb (suc f - left + printed.nodes) (suc g) ≡ false = grind (arith, nat_tests, low, e, i) in
              ap (λ b. cond b (Some (made d kind (suc f - left + printed.nodes))) None) (sym not_so)
        ] in
        is g after ran ∙ (node_by_kind (suc g) d after s printed kind known ∙ step (nat_le printed.nodes after) refl)

    short : (g : ℕ) → g + left < f → node_at k space (suc g) c ≡ if_within (suc g) (made d kind steps)
    unfolding steps
    short g e =
        let low = h.fits in
        let over = h.short g (suc g) (omega arith) e in
        let none : node_at k space (suc g) c ≡ None = ap (λ r. node_of_run k space (suc g) r) over.1 in
        let not_so : leb (suc f - left + printed.nodes) (suc g) ≡ false = grind (arith, nat_tests, low, e) in
        none ∙ ap (λ b. cond b (Some (made d kind (suc f - left + printed.nodes))) None) (sym not_so)

    as_steps : (r : Reached Configuration Outcome) → ◌≡◌ {A = Option (Reached Configuration Outcome)} (Some (made d kind (suc f - left + printed.nodes))) (Some r) → made d kind steps ≡ r
    unfolding steps
    as_steps r e = same_Some _ _ e

    nothing : None ≡ if_within 0 (made d kind steps)
    nothing = let a = one in let not_so : leb steps 0 ≡ false = grind (arith, nat_tests, a) in ap (λ b. cond b (Some (made d kind steps)) None) (sym not_so)

    each : (g : ℕ) → node_at k space g c ≡ if_within g (made d kind steps)
    each zero = nothing
    each (suc g) =
        let step : (b : Bool) → nat_le f (g + left) ≡ b → node_at k space (suc g) c ≡ if_within (suc g) (made d kind steps)
        = elim [ true ↦ λ i. enough g (grind (arith, nat_tests, i)) | false ↦ λ i. short g (grind (arith, nat_tests, i)) ] in
        step (nat_le f (g + left)) refl

  abbrev Holds : ℕ → Configuration → Reached Configuration Outcome → Type 0
  Holds f c r = (1 ≤ r.report.steps) × (r.report.steps ≤ f) × ((g : ℕ) → node_at k space g c ≡ if_within g r)

  by_kind : (f : ℕ) (c d : Configuration) (left : ℕ) → run k space c f ≡ Ended d left → (s : State) → state k.statements d.layers space ≡ Some s
      → (o : Option (Kind Outcome)) → kind_of s (state_text k.words d space s).bytes ≡ o
      → (r : Reached Configuration Outcome) → node_with (suc f) d left s (state_text k.words d space s) ≡ Some r → Holds (suc f) c r
  by_kind f c d left ran s there None known r e = absurd (cc (none_by_kind (suc f) d left s (state_text k.words d space s) known, e))
  by_kind f c d left ran s there (Some kind) known r e =
      let printed = state_text k.words d space s in
      let h = exact k space (suc f) c f d left (omega arith) ran in
      let is : (g after : ℕ) → run k space c g ≡ Ended d after → node_at k space (suc g) c ≡ node_with (suc g) d after s printed
      = λ g after i. ap (node_of_run k space (suc g)) i ∙ ap (node_in_state k space (suc g) d after) there in
      let step : (b : Bool) → nat_le printed.nodes left ≡ b → cond b (Some (made d kind (suc f - left + printed.nodes))) None ≡ Some r → Holds (suc f) c r
      = elim [
        | true ↦ λ i g.
            let same : made d kind (steps c d f left h s printed kind known is i) ≡ r = as_steps c d f left h s printed kind known is i r g in
            let P : Reached Configuration Outcome → Type 0 = λ x. Holds (suc f) c x in
            subst P same (one c d f left h s printed kind known is i, within c d f left h s printed kind known is i, each c d f left h s printed kind known is i)
        | false ↦ λ i g. absurd (cc (g))
      ] in
      step (nat_le printed.nodes left) refl (sym (node_by_kind (suc f) d left s printed kind known) ∙ e)

  by_state : (f : ℕ) (c d : Configuration) (left : ℕ) → run k space c f ≡ Ended d left → (o : Option State) → state k.statements d.layers space ≡ o
      → (r : Reached Configuration Outcome) → node_in_state k space (suc f) d left o ≡ Some r → Holds (suc f) c r
  by_state f c d left ran None there r e = absurd (cc (e))
  by_state f c d left ran (Some s) there r e = by_kind f c d left ran s there (kind_of s (state_text k.words d space s).bytes) refl r e

  ended : (f : ℕ) (c d : Configuration) (left : ℕ) → run k space c f ≡ Ended d left → (r : Reached Configuration Outcome) → node_of_run k space (suc f) (Ended d left) ≡ Some r → Holds (suc f) c r
  ended f c d left ran r e = by_state f c d left ran (state k.statements d.layers space) refl r e

  ran : (f : ℕ) (c : Configuration) (o : Ran) → run k space c f ≡ o → (r : Reached Configuration Outcome) → node_of_run k space (suc f) o ≡ Some r → Holds (suc f) c r
  ran f c (Ended d left) is r e = ended f c d left is r e
  ran f c (TopRaised d left exception) is r e = absurd (cc (e))
  ran f c (Over d) is r e = absurd (cc (e))

  pub makes : (f : ℕ) (c : Configuration) (r : Reached Configuration Outcome) → node_at k space f c ≡ Some r → Holds f c r
  makes zero c r e = absurd (cc (e))
  makes (suc f) c r e = ran f c (run k space c f) refl r e

pub maker_law : MakerLaw
maker_law k space f c r e = makes k space f c r e

-- ---- the node of a run
fits_in : (nodes left : ℕ) → nodes ≤ left → nat_le nodes left ≡ true
fits_in nodes left h = grind (arith, nat_tests, h)

fits_not : (nodes left : ℕ) → left < nodes → nat_le nodes left ≡ false
fits_not nodes left h = grind (arith, nat_tests, h)

ended_node : (k : Kernel) (space : List ℕ) (c : Configuration) (fuel : ℕ) (d : Configuration) (left : ℕ) (s : State) → run k space c fuel ≡ Ended d left → state k.statements d.layers space ≡ Some s
    → node_at k space (suc fuel) c ≡ node_with (suc fuel) d left s (state_text k.words d space s)
ended_node k space c fuel d left s ran there = ap (node_of_run k space (suc fuel)) ran ∙ ap (node_in_state k space (suc fuel) d left) there

pub node_law : NodeLaw
node_law k space c fuel d left s kind ran there known fits =
    let printed = state_text k.words d space s in
    ended_node k space c fuel d left s ran there
    ∙ (node_by_kind (suc fuel) d left s printed kind known
    ∙ ap (λ b. cond b (Some (made d kind (suc fuel - left + printed.nodes))) None) (fits_in printed.nodes left fits))

pub no_node_law : NoNodeLaw
no_node_law k space c fuel d left s ran there short =
    let printed = state_text k.words d space s in
    ended_node k space c fuel d left s ran there
    ∙ ap (λ b. if b then node_of_kind d (suc fuel - left + printed.nodes) (kind_of s printed.bytes) else None) (fits_not printed.nodes left short)

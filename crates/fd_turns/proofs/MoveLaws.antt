-- Turns make a run.
use Rattle.std.proofs.Common.{◌≡◌, ℕ, zero, suc, ◌+◌, ◌-◌, ◌<◌, ◌≤◌, Bool, true, false, if◌then◌else◌, List, Some, refl, sym, ◌∙◌, ap, subst, nat_le, arith}
use Rattle.std.proofs.lemmas.Bool.Decides.{nat_tests}
use Rattle.oz_language.specs.declared.kernel.Kernel.{Kernel}
use Rattle.oz_search.specs.Trees.{report}
use Rattle.oz_search.specs.declared.leaf.Outcome.{Outcome}
use Rattle.oz_search.specs.declared.tree.Kind.{Kind}
use Rattle.oz_semantics.specs.Spaces.{goes_on, state}
use Rattle.oz_semantics.specs.Schedule.{turn}
use Rattle.oz_semantics.specs.Runs.{Ran, Ended, Over, after_turn, run_for, run}
use Rattle.oz_semantics.specs.Search.{state_text, kind_of, node_at}
use Rattle.oz_semantics.specs.declared.configuration.Configuration.{Configuration}
use Rattle.oz_semantics.specs.declared.outcome.State.{State}
use Rattle.machine_search.proofs.MakerLaws.{node_law}
use Rattle.fd_turns.specs.Moves.{Moves, stays, moves}

pays : (j r : ℕ) → nat_le 1 (suc j + r) ≡ true
pays j r = grind (arith, nat_tests)

module _ (k : Kernel) (space : List ℕ) where
  pub joined : {c d e : Configuration} {i j : ℕ} → Moves k space c i d → Moves k space d j e → Moves k space c (i + j) e
  joined {e = e} {j = j} (stays {c = c}) n = (let f : j ≡ 0 + j = omega arith in subst (λ i. Moves k space c i e) f n)
  joined {c = c} {e = e} {j = j} (moves {n = i} g t m) n = (let f : suc (i + j) ≡ suc i + j = omega arith in subst (λ i. Moves k space c i e) f (moves g t (joined m n)))

  ends_for : (n : ℕ) (c d : Configuration) (j r : ℕ) → Moves k space c j d → goes_on k.statements d.layers space ≡ false → j + r < n → run_for k space n c (j + r) ≡ Ended d r
  unfolding run_for
  ends_for zero c d j r m e l = absurd (omega (arith, l))
  ends_for (suc n) c d zero r stays e l = (let f : r ≡ 0 + r = omega arith in ap (run_for k space (suc n) c) (sym f) ∙ ap (λ b. if b then after_turn (run_for k space n) r c (turn k c) else Ended c r) e)
  ends_for (suc n) c d (suc j) r (moves {d = b} g t m) e l =
      let less : suc j + r - 1 ≡ j + r = omega arith in
      ap (λ a. if a then after_turn (run_for k space n) (suc j + r) c (turn k c) else Ended c (suc j + r)) g
      ∙ ap (after_turn (run_for k space n) (suc j + r) c) t
      ∙ ap (λ a. if a then run_for k space n b (suc j + r - 1) else Over c) (pays j r)
      ∙ ap (run_for k space n b) less
      ∙ ends_for n b d j r m e (omega (arith, l))

  -- with what is left of the fuel
  pub ends : (c d : Configuration) (j r : ℕ) → Moves k space c j d → goes_on k.statements d.layers space ≡ false → run k space c (j + r) ≡ Ended d r
  ends c d j r m e = ends_for (suc (j + r)) c d j r m e (omega arith)

  -- so the node is there with fuel enough
  pub node_there : (c d : Configuration) (j : ℕ) (s : State) (kind : Kind Outcome) → Moves k space c j d → goes_on k.statements d.layers space ≡ false → state k.statements d.layers space ≡ Some s
      → kind_of s (state_text k.words d space s).bytes ≡ Some kind
      → node_at k space (suc (j + (state_text k.words d space s).nodes)) c
      ≡ Some (record { config = d; report = report kind (suc (j + (state_text k.words d space s).nodes) - (state_text k.words d space s).nodes + (state_text k.words d space s).nodes) })
  node_there c d j s kind m e f g = node_law k space c (j + (state_text k.words d space s).nodes) d (state_text k.words d space s).nodes s kind (ends c d j (state_text k.words d space s).nodes m e) f g (omega arith)

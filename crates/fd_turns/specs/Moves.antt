-- The turns of a computation space, one after another (computation steps, CTM 2.4; how a space runs until it is stable, CTM 12.4; Schulte,
-- LNCS 2302, chapter 4).
use Rattle.std.specs.Prelude.{◌≡◌, ℕ, suc, List, true}
use Rattle.oz_language.specs.declared.kernel.Kernel.{Kernel}
use Rattle.oz_semantics.specs.Spaces.{goes_on}
use Rattle.oz_semantics.specs.Settling.{Turned}
use Rattle.oz_semantics.specs.Schedule.{turn}
use Rattle.oz_semantics.specs.declared.configuration.Configuration.{Configuration}
use Rattle.oz_semantics.specs.declared.outcome.Stepped.TheVariants.{Moved}

-- the space makes so many turns, each of one step, while a thread of it or below it can step or a propagator there is due
pub data Moves (k : Kernel) (space : List ℕ) : Configuration → ℕ → Configuration → Type 0 where
  stays : {c : Configuration} → Moves k space c 0 c
  moves : {c d e : Configuration} {n : ℕ} → goes_on k.statements c.layers space ≡ true → ◌≡◌ {A = Turned} (turn k c) (Moved 1, d) → Moves k space d n e
      → Moves k space c (suc n) e

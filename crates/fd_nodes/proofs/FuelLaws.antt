-- Comparisons with the fuel.
use Rattle.std.proofs.Common.{◌≡◌, ℕ, ◌<◌, ◌≤◌, ◌⊎◌, true, false, arith}
use lib.Dec.{leb}
use Rattle.std.proofs.lemmas.Bool.Decides.{nat_tests}

pub le_test : (s f : ℕ) → s ≤ f → leb s f ≡ true
le_test s f h = grind (arith, nat_tests)

pub gt_test : (s f : ℕ) → f < s → leb s f ≡ false
gt_test s f h = grind (arith, nat_tests)

pub at_most_or : (a b : ℕ) → (a ≤ b) ⊎ (b < a)
at_most_or a b = grind arith

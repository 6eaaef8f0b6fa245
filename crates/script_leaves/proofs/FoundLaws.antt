-- What a search finds from where it begins.
use Rattle.std.proofs.Common.{◌≡◌, ℕ, List}
use Rattle.oz_language.specs.declared.kernel.Kernel.{Kernel}
use Rattle.oz_semantics.specs.declared.configuration.Configuration.{Configuration}
use Rattle.machine_search.specs.Visits.{found_below, leaves_of}

-- what is found below equal configurations of equal programs
pub found_same : (k l : Kernel) (s t : List ℕ) (c d : Configuration) (left : ℕ) → k ≡ l → s ≡ t → c ≡ d → leaves_of (found_below k s c left) ≡ leaves_of (found_below l t d left)
found_same k l s t c d left p q e = λ i. leaves_of (found_below (p i) (q i) (e i) left)

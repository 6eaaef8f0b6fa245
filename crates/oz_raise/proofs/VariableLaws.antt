-- One more variable behind those that are there.
use Rattle.std.proofs.Common.{◌≡◌, ℕ, ◌+◌, List, [], ◌∷◌, ◌++◌, map}
use Rattle.std.specs.List.{range_with_len}
use Rattle.std.proofs.lemmas.List.FromFn.{map-range_with_len_more}
use Rattle.oz_semantics.specs.Names.{named}

pub variables_more : (space : List ℕ) (from n next : ℕ) → from + n ≡ next
    → map (named space) (range_with_len from (n + 1)) ≡ map (named space) (range_with_len from n) ++ named space next ∷ []
variables_more space from n next e = map-range_with_len_more (named space) from n next e

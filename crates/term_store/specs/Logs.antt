-- What was told, as chunks and a rest.
use Rattle.std.specs.Prelude.{ℕ, ◌≡◌, ◌<◌, List, [], ◌∷◌, ◌++◌, length, Option, Some, None}
use Rattle.std.specs.List.{flat_map}
use Rattle.oz_semantics.specs.declared.value.Tell.{Tell}

pub record Written : Type 0 where
  pub chunks : List (List Tell)
  pub rest : List Tell
  -- how many tells the rest may come to before memory is taken for it
  pub capacity : ℕ

-- the chunk that ended last stands behind the others
abbrev pub with_ended : List (List Tell) → Option (List Tell) → List (List Tell)
with_ended chunks None = chunks
with_ended chunks (Some chunk) = chunks ++ chunk ∷ []

-- the chunks joined, then the rest
abbrev pub told_in : Written → List Tell
told_in l = flat_map (λ chunk. chunk) l.chunks ++ l.rest

-- each chunk has 32 tells
abbrev pub AllFull : List (List Tell) → Type 0
AllFull [] = Unit {0}
AllFull (chunk ∷ chunks) = (length chunk ≡ 32) × AllFull chunks

-- one tell more goes into the rest, and no memory is taken for it
abbrev pub HasRoom : Written → Type 0
HasRoom l = (length l.rest < 32) × (length l.rest < l.capacity)

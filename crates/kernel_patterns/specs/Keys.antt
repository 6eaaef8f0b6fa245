-- The feature of one field.
use Rattle.std.specs.Prelude.{ℕ, suc, pos, Option, Some, None, List, [], ◌∷◌, ◌++◌}
use Rattle.oz_language.specs.Grammar.{Phrase, keyed}
use Rattle.oz_language.specs.declared.kernel.Constant.{Constant}
use Rattle.oz_language.specs.declared.kernel.Constant.TheVariants.{Int}

-- the key of a field that has one
abbrev pub key_of : Phrase → Option Constant
key_of (keyed k at e) = Some k
key_of e = None

-- a field without a key has the next place
abbrev pub feature_or : ℕ → Option Constant → Constant
feature_or n (Some k) = k
feature_or n None = Int (pos n)

abbrev pub place_after : ℕ → Option Constant → ℕ
place_after n (Some k) = n
place_after n None = suc n

-- one more field, where there is a feature for it
abbrev pub with_field : {A : Type 0} → Option Constant → List (Constant × A) → A → List (Constant × A)
with_field None fs v = fs
with_field (Some k) fs v = fs ++ (k, v) ∷ []

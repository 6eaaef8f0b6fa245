-- The keys of fields: the features 1, 2, .. have none as far as they go without a gap.
use Rattle.std.specs.Prelude.{ℕ, suc, pos, List, [], ◌++◌, codes, if◌then◌else◌}
use Rattle.oz_language.specs.Constants.{constant_eq}
use Rattle.oz_language.specs.SimpleTexts.{constant_text}
use Rattle.oz_language.specs.declared.kernel.Constant.{Constant}
use Rattle.oz_language.specs.declared.kernel.Constant.TheVariants as constant

-- what stands before the text of a field, where n is the next feature to be left out
abbrev pub key_text : List (List ℕ) → Constant → ℕ → List ℕ
key_text words f n = if constant_eq f (constant.Int (pos n)) then [] else constant_text words f ++ codes ":"

-- the next feature to be left out, behind a field
abbrev pub next_after : Constant → ℕ → ℕ
next_after f n = if constant_eq f (constant.Int (pos n)) then suc n else n

-- Arities (CTM 2.3.2): the order in which a record's features stand. Integers come first and ascend, then come atoms by the bytes
-- of their texts, and then `false`, `true` and `unit`.
use Rattle.std.specs.Prelude.{ℕ, nat_lt, Bool, true, false, if◌then◌else◌, List, [], ◌∷◌}
use Rattle.std.specs.Cmp.Lexicographic.{slice_cmp}
use Rattle.std.specs.Ordering.{is_lt, nat_cmp, int_cmp}
use Rattle.oz_language.specs.Constants.{literal_rank}
use Rattle.oz_language.specs.Kernels.{word_text}
use Rattle.oz_language.specs.declared.token.Literal.{Literal}
use Rattle.oz_language.specs.declared.token.Literal.TheVariants as literal
use Rattle.oz_language.specs.declared.kernel.Constant.{Constant}
use Rattle.oz_language.specs.declared.kernel.Constant.TheVariants as constant

-- an atom is a number among the words
abbrev pub literal_lt : List (List ℕ) → Literal → Literal → Bool
literal_lt words (literal.Atom a) (literal.Atom b) = is_lt (slice_cmp nat_cmp (word_text words a) (word_text words b))
literal_lt words l m = nat_lt (literal_rank l) (literal_rank m)

abbrev pub feature_lt : List (List ℕ) → Constant → Constant → Bool
feature_lt words (constant.Int i) (constant.Int j) = is_lt (int_cmp i j)
feature_lt words (constant.Int i) (constant.Literal m) = true
feature_lt words (constant.Literal l) (constant.Int j) = false
feature_lt words (constant.Literal l) (constant.Literal m) = literal_lt words l m

-- one more field, by its feature, among fields in order
abbrev pub placed_field : {A : Type 0} → List (List ℕ) → Constant × A → List (Constant × A) → List (Constant × A)
placed_field words f [] = f ∷ []
placed_field words f (g ∷ gs) = if feature_lt words g.0 f.0 then g ∷ placed_field words f gs else f ∷ g ∷ gs

-- fields in the order of their features
abbrev pub in_arity_order : {A : Type 0} → List (List ℕ) → List (Constant × A) → List (Constant × A)
in_arity_order words [] = []
in_arity_order words (f ∷ fs) = placed_field words f (in_arity_order words fs)

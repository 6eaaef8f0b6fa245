-- Products in a side of a relation, by the integers among their factors.
use Rattle.std.specs.Prelude.{ℕ, suc, ℤ, pos, Bool, Option, Some, None, List, [], ◌∷◌}
use Rattle.oz_language.specs.Grammar.{Phrase, int}
use Rattle.oz_language.specs.Kernels.{Stmt, Stmts, none, just}
use Rattle.oz_language.specs.Kernels as k
use Rattle.oz_language.specs.Translation.{variable_of, name_or, behind_factor, linear}
use Rattle.oz_language.specs.declared.kernel.LinearTerm.{LinearTerm}
use Rattle.oz_language.specs.declared.kernel.Identifier.{Identifier}
use Rattle.oz_language.specs.declared.kernel.Identifier.TheVariants.{Fresh}

abbrev pub integer_of : Phrase → Option ℤ
integer_of (int i at) = Some i
integer_of p = None

-- the identifier of a factor
abbrev pub factor_name : ℕ → Phrase → Identifier
factor_name n p = name_or n (variable_of p)

-- what stands behind both factors: the product itself, where neither is an integer
abbrev pub behind_factors : ℕ → Phrase → Phrase → ℕ
behind_factors n a b = behind_factor (behind_factor n a) b

abbrev pub behind_product : ℕ → Option ℤ → Option ℤ → Phrase → Phrase → ℕ
behind_product n (Some i) j a b = behind_factor n b
behind_product n None (Some j) a b = behind_factor n a
behind_product n None None a b = suc (behind_factors n a b)

abbrev pub product_term : Bool → ℕ → Option ℤ → Option ℤ → Phrase → Phrase → LinearTerm
product_term s n (Some i) j a b = linear s i (factor_name n b)
product_term s n None (Some j) a b = linear s j (factor_name n a)
product_term s n None None a b = linear s (pos 1) (Fresh (behind_factors n a b))

abbrev pub product_made : ℕ → Option ℤ → Option ℤ → Phrase → Phrase → Stmts
product_made n (Some i) j a b = none
product_made n None (Some j) a b = none
product_made n None None a b = just (k.post_times (factor_name n a) (factor_name (behind_factor n a) b) (Fresh (behind_factors n a b)))

-- an integer is no term, and what is no operation is one
abbrev pub plain_terms : Bool → ℕ → Option ℤ → Phrase → List LinearTerm
plain_terms s n (Some i) p = []
plain_terms s n None p = linear s (pos 1) (factor_name n p) ∷ []

-- The relations A op B of a finite-domain script: a side is a sum of integers, variables, multiples of a variable and products of two.
use Rattle.std.specs.Prelude.{ℕ, ℤ, pos, ◌+ℤ◌, Bool, true, false, not, List, [], ◌∷◌, ◌++◌, Option, Some, option_map}
use Rattle.oz_language.specs.declared.token.Operator.TheVariants as operator
use Rattle.oz_language.specs.declared.token.Comparison.{Comparison}
use Rattle.oz_language.specs.declared.token.Comparison.TheVariants as comparison
use Rattle.oz_language.specs.declared.kernel.Sign.{Sign}
use Rattle.oz_language.specs.declared.kernel.Sign.TheVariants.{Zero, NotZero, Negative, NotPositive}
use Rattle.oz_language.specs.Grammar.{Phrase, int, binary}
use Rattle.oz_language.specs.Translation.{signed}
use Rattle.fd_problems.specs.declared.problem.Term.{Term}
use Rattle.fd_problems.specs.declared.problem.Term.TheVariants.{Multiple, Product}
use Rattle.fd_problems.specs.declared.problem.Item.{Item}
use Rattle.fd_problems.specs.declared.problem.Item.TheVariants.{Compares}
use Rattle.fd_form.specs.declared.sums.Sum.{Sum}
use Rattle.fd_form.specs.Parts.{both, place_of}

abbrev pub sum : ℤ → List Term → Sum
sum k ms = record { constant = k; terms = ms }

abbrev pub added : Sum × Sum → Sum
added p = sum (p.0.constant +ℤ p.1.constant) (p.0.terms ++ p.1.terms)

abbrev pub multiple : Bool → ℤ → Option ℕ → Option Sum
multiple s a x = option_map (λ y. sum (pos 0) (Multiple (signed s a) y ∷ [])) x

-- a term that is added or, where s says so, taken away
abbrev pub term_of : List ℕ → Bool → Phrase → Option Sum
term_of vs s (int i at) = Some (sum (signed s i) [])
term_of vs s (binary operator.Times (int i at) b) = multiple s i (place_of vs b)
term_of vs s (binary operator.Times a (int i at)) = multiple s i (place_of vs a)
term_of vs s (binary operator.Times a b) =
    option_map (λ (p : ℕ × ℕ). sum (pos 0) (Product (signed s (pos 1)) p.0 p.1 ∷ [])) (both (place_of vs a) (place_of vs b))
term_of vs s p = multiple s (pos 1) (place_of vs p)

abbrev pub side_of : List ℕ → Bool → Phrase → Option Sum
side_of vs s (binary operator.Plus a b) = option_map added (both (side_of vs s a) (term_of vs s b))
side_of vs s (binary operator.Minus a b) = option_map added (both (side_of vs s a) (term_of vs (not s) b))
side_of vs s p = term_of vs s p

-- a - b
abbrev pub difference : List ℕ → Phrase → Phrase → Option Sum
difference vs a b = option_map added (both (side_of vs false a) (side_of vs true b))

abbrev pub compared : Sign → Option Sum → Option (List Item)
compared r d = option_map (λ (k : Sum). Compares r k.constant k.terms ∷ []) d

abbrev pub relation_of : List ℕ → Comparison → Phrase → Phrase → Option (List Item)
relation_of vs comparison.Equal a b = compared Zero (difference vs a b)
relation_of vs comparison.Unequal a b = compared NotZero (difference vs a b)
relation_of vs comparison.Below a b = compared Negative (difference vs a b)
relation_of vs comparison.NotAbove a b = compared NotPositive (difference vs a b)
relation_of vs comparison.Above a b = compared Negative (difference vs b a)
relation_of vs comparison.NotBelow a b = compared NotPositive (difference vs b a)

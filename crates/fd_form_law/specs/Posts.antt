-- What the kernel code of a relation posts: the propagators of the problem, each product with a fresh identifier (translation into the
-- kernel language, CTM 2.6; posting constraints, CTM 12.4; Schulte, LNCS 2302, chapter 2).
use Rattle.std.specs.Prelude.{◌≡◌, ℕ, suc, ◌+◌, ℤ, Bool, true, false, if◌then◌else◌, List, [], ◌∷◌, ◌++◌, Some, slice_index_or}
use Rattle.oz_language.specs.declared.kernel.Identifier.{Identifier}
use Rattle.oz_language.specs.declared.kernel.Identifier.TheVariants.{Word, Fresh}
use Rattle.oz_language.specs.declared.kernel.LinearTerm.{LinearTerm}
use Rattle.oz_language.specs.declared.kernel.Sign.{Sign}
use Rattle.oz_language.specs.declared.token.Comparison.{Comparison}
use Rattle.oz_language.specs.declared.token.Comparison.TheVariants as comparison
use Rattle.oz_language.specs.Grammar.{Phrase, relate}
use Rattle.oz_language.specs.Kernels.{Stmts, none, just, ◌⨾◌}
use Rattle.oz_language.specs.Kernels as kernel
use Rattle.oz_language.specs.Translation.{Made, made, statement, translated, within, fresh_names}
use Rattle.fd_problems.specs.declared.problem.Term.{Term}
use Rattle.fd_problems.specs.declared.problem.Term.TheVariants.{Multiple, Product}
use Rattle.fd_problems.specs.declared.problem.Item.TheVariants.{Compares}
use Rattle.fd_form.specs.Sums.{relation_of}
use Rattle.fd_trees.specs.Scripts.{product_count}

-- the identifier of variable x of the problem, which is its word
abbrev pub identifier : List ℕ → ℕ → Identifier
identifier vs x = Word (slice_index_or vs x 0)

-- a term of a linear sum: a coefficient, and the identifier of a variable
abbrev pub linear_term : ℤ → Identifier → LinearTerm
linear_term a x = record { coefficient = a; variable = x }

-- the linear terms of a sum that is posted, each product of two variables replaced by a fresh identifier, from n on
abbrev pub posted_terms : List ℕ → ℕ → List Term → List LinearTerm
posted_terms vs n [] = []
posted_terms vs n (Multiple a x ∷ ms) = linear_term a (identifier vs x) ∷ posted_terms vs n ms
posted_terms vs n (Product a x y ∷ ms) = linear_term a (Fresh n) ∷ posted_terms vs (suc n) ms

-- and the kernel statements that post the propagators of these products
abbrev pub posted_products : List ℕ → ℕ → List Term → Stmts
posted_products vs n [] = none
posted_products vs n (Multiple a x ∷ ms) = posted_products vs n ms
posted_products vs n (Product a x y ∷ ms) = just (kernel.post_times (identifier vs x) (identifier vs y) (Fresh n)) ⨾ posted_products vs (suc n) ms

-- the relations of which the translation exchanges the sides: `>:` and `>=:`
abbrev pub is_exchanged : Comparison → Bool
is_exchanged comparison.Equal = false
is_exchanged comparison.Unequal = false
is_exchanged comparison.Below = false
is_exchanged comparison.NotAbove = false
is_exchanged comparison.Above = true
is_exchanged comparison.NotBelow = true

-- The terms of a relation are those of the left side and those of the right. The products of the left side have the first
-- identifiers, from n on; then all products are posted in their order, and then the relation. What is posted last has the terms in
-- the order of the problem.
pub record IsPosted (vs : List ℕ) (n : ℕ) (r : Comparison) (z : Sign) (k : ℤ) (ms : List Term) (code : Made) : Type 0 where
  pub left : List Term
  pub right : List Term
  pub all : ms ≡ (if is_exchanged r then right ++ left else left ++ right)
  pub made : code ≡ within (fresh_names n (product_count left + product_count right)) (made
      ((posted_products vs n left ⨾ posted_products vs (n + product_count left) right)
      ⨾ just (kernel.post z k
      (if is_exchanged r then posted_terms vs (n + product_count left) right ++ posted_terms vs n left
      else posted_terms vs n left ++ posted_terms vs (n + product_count left) right)))
      (n + product_count left + product_count right))

-- and this is what each relation that states an item of the problem is translated into
abbrev pub RelationsPosted : Type 0
RelationsPosted = (words : List (List ℕ)) (vs : List ℕ) (n : ℕ) (r : Comparison) (a b : Phrase) (z : Sign) (k : ℤ) (ms : List Term)
    → relation_of vs r a b ≡ Some (Compares z k ms ∷ []) → IsPosted vs n r z k ms (translated words statement n (relate r a b))

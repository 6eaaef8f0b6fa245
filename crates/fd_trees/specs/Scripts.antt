-- The constraints that a finite-domain problem posts, and the laws of its search (Schulte, LNCS 2302, chapters 2 and 4; CTM chapter
-- 12).
use Rattle.std.specs.Prelude.{◌≡◌, ◌≢◌, ◌↔◌, ℕ, suc, ◌+◌, ◌<◌, ℤ, List, [], ◌∷◌, ◌++◌, length, map, take, replicate, Contains, All, AllPairs, IsSomeAnd, ⊤}
use Rattle.oz_base.specs.declared.interval.TheConstants.{LEAST_VALUE, GREATEST_VALUE}
use Rattle.oz_base.specs.declared.distribution.Rule.TheVariants.{Naive}
use Rattle.oz_base.specs.declared.relation.Linear.{Linear}
use Rattle.oz_base.specs.declared.relation.Relation.{Relation}
use Rattle.oz_base.specs.declared.relation.Relation.TheVariants.{Le, Lt, Eq, Ne, Times, Distinct}
use Rattle.oz_language.specs.declared.kernel.Sign.{Sign}
use Rattle.oz_language.specs.declared.kernel.Sign.TheVariants.{Zero, NotZero, Negative, NotPositive}
use Rattle.oz_domains.specs.Domains.{between, least}
use Rattle.oz_domains.specs.Relations.{IsSum}
use Rattle.fd_problems.specs.declared.problem.Problem.{Problem}
use Rattle.fd_problems.specs.declared.problem.Item.{Item}
use Rattle.fd_problems.specs.declared.problem.Item.TheVariants.{Within, Compares, Different}
use Rattle.fd_problems.specs.declared.problem.Term.{Term}
use Rattle.fd_problems.specs.declared.problem.Term.TheVariants.{Multiple, Product}
use Rattle.fd_problems.specs.Problems.{Meets, IsAnswer, values_at, IsLeft}
use Rattle.fd_stores.specs.Stores.{Store, Constraint, Posted, Told, settled, total}
use Rattle.fd_trees.specs.Trees.{Tree, IsTree, leaves, tree, answers, IsSolved}

-- ---- what is posted: each product of two variables gets a variable of its own, numbered from n on

-- the variables of a sum, that of a product in place of its factors
abbrev pub term_variables : ℕ → List Term → List ℕ
term_variables n [] = []
term_variables n (Multiple a x ∷ ms) = x ∷ term_variables n ms
term_variables n (Product a x y ∷ ms) = n ∷ term_variables (suc n) ms

-- the coefficient of a term
abbrev pub coefficient : Term → ℤ
coefficient (Multiple a x) = a
coefficient (Product a x y) = a

-- those of a sum
abbrev pub coefficients : List Term → List ℤ
coefficients ms = map coefficient ms

-- the propagators of the products in a sum
abbrev pub products : ℕ → List Term → List Constraint
products n [] = []
products n (Multiple a x ∷ ms) = products n ms
products n (Product a x y ∷ ms) = Posted Times (x ∷ y ∷ n ∷ []) ∷ products (suc n) ms

-- how many products a sum has
abbrev pub product_count : List Term → ℕ
product_count [] = 0
product_count (Multiple a x ∷ ms) = product_count ms
product_count (Product a x y ∷ ms) = suc (product_count ms)

-- a constant and terms
abbrev pub linear : ℤ → List Term → Linear
linear k ms = record { constant = k; coefficients = coefficients ms }

-- the sum stands so to 0
abbrev pub relation : Sign → Linear → Relation
relation Zero l = Eq l
relation NotZero l = Ne l
relation Negative l = Lt l
relation NotPositive l = Le l

-- what is posted of an item
abbrev pub item_constraints : ℕ → Item → List Constraint
item_constraints n (Within x low high) = Told x (between low high) ∷ []
item_constraints n (Compares c k ms) = products n ms ++ Posted (relation c (linear k ms)) (term_variables n ms) ∷ []
item_constraints n (Different xs) = Posted Distinct xs ∷ []

-- the terms of an item
abbrev pub item_terms : Item → List Term
item_terms (Within x low high) = []
item_terms (Compares c k ms) = ms
item_terms (Different xs) = []

-- what is posted of several items, one after another
abbrev pub constraints_from : ℕ → List Item → List Constraint
constraints_from n [] = []
constraints_from n (i ∷ is) = item_constraints n i ++ constraints_from (n + product_count (item_terms i)) is

-- how many products they have
abbrev pub products_in : List Item → ℕ
products_in [] = 0
products_in (i ∷ is) = product_count (item_terms i) + products_in is

-- what is posted of a problem
abbrev pub constraints : Problem → List Constraint
constraints p = constraints_from p.count p.items

-- at the start all variables, those of products too, have all domain values
abbrev pub start : Problem → Store
start p = replicate (p.count + products_in p.items) (between LEAST_VALUE GREATEST_VALUE)

-- ---- the problems that are meant

-- a term over n variables
abbrev pub IsTerm : ℕ → Term → Type 0
IsTerm n (Multiple a x) = x < n
IsTerm n (Product a x y) = (x < n) × (y < n)

abbrev pub AreTerms : ℕ → List Term → Type 0
AreTerms n [] = ⊤
AreTerms n (m ∷ ms) = IsTerm n m × AreTerms n ms

-- an item over n variables, with a sum in the limits
abbrev pub IsItem : ℕ → Item → Type 0
IsItem n (Within x low high) = x < n
IsItem n (Compares c k ms) = AreTerms n ms × IsSum (linear k ms) (length ms)
IsItem n (Different xs) = All (λ x. x < n) xs

-- the items and the distribution are over the problem's variables, and all variables are distributed
pub record IsProblem (p : Problem) : Type 0 where
  pub items : (i : Item) → Contains p.items i → IsItem p.count i
  pub over : All (λ x. x < p.count) p.distribution.over
  pub covers : (x : ℕ) → x < p.count → Contains p.distribution.over x

-- ---- the laws

-- the values of the problem's variables at each leaf, from left to right
abbrev pub tuple_at : Problem → Store → List ℤ
tuple_at p m = take p.count (map least m)

abbrev pub tuples : Problem → Tree → List (List ℤ)
tuples p t = map (tuple_at p) (leaves t)

-- all leaves are solved, and give the tuples that meet the problem; in the order of the distributed variables these are the
-- answers, each once, for `naive` in lexicographic order, which makes them one list
pub record AreAnswers (p : Problem) (t : Tree) : Type 0 where
  pub solved : All (IsSolved (constraints p)) (leaves t)
  pub each : (v : List ℤ) → Contains (tuples p t) v ↔ Meets p v
  pub reads : answers p.distribution t ≡ map (λ v. values_at v p.distribution.over) (tuples p t)
  pub answered : (u : List ℤ) → Contains (answers p.distribution t) u ↔ IsAnswer p u
  pub once : AllPairs (λ u v. u ≢ v) (answers p.distribution t)
  pub ordered : p.distribution.rule ≡ Naive → AllPairs IsLeft (answers p.distribution t)
  pub listed : p.distribution.rule ≡ Naive → (us : List (List ℤ)) → AllPairs IsLeft us → ((u : List ℤ) → Contains us u ↔ IsAnswer p u) → answers p.distribution t ≡ us

abbrev pub ScriptLaw : Type 0
ScriptLaw = (p : Problem) (t : Tree) → IsProblem p → IsTree (constraints p) p.distribution (start p) t → AreAnswers p t

-- and there is such a tree
abbrev pub SearchLaw : Type 0
SearchLaw = (p : Problem) → IsProblem p → IsSomeAnd (tree (settled (constraints p)) p.distribution (total (start p) + 1) (start p)) (AreAnswers p)

-- What a relation posts, as constraints over the variables of the search: those of the problem, and behind them the products in the
-- order of the problem (posting constraints, CTM 12.4; Schulte, LNCS 2302, chapter 2).
use Rattle.std.specs.Prelude.{◌≡◌, ◌↔◌, ℕ, ◌+◌, ◌<◌, ℤ, List, [], ◌∷◌, ◌++◌, length, map, Contains}
use Rattle.oz_base.specs.declared.relation.Relation.TheVariants.{Times}
use Rattle.oz_language.specs.declared.kernel.Identifier.{Identifier}
use Rattle.oz_language.specs.declared.kernel.Identifier.TheVariants.{Fresh}
use Rattle.oz_language.specs.declared.kernel.LinearTerm.{LinearTerm}
use Rattle.oz_language.specs.declared.kernel.Sign.{Sign}
use Rattle.oz_language.specs.Kernels.{Stmt, Stmts, none, followed, just, ◌⨾◌}
use Rattle.oz_language.specs.Kernels as kernel
use Rattle.fd_problems.specs.declared.problem.Term.{Term}
use Rattle.fd_problems.specs.declared.problem.Item.TheVariants.{Compares}
use Rattle.fd_stores.specs.Stores.{Constraint, Posted}
use Rattle.fd_trees.specs.Scripts.{product_count, relation, AreTerms, item_constraints}
use Rattle.fd_form_law.specs.Posts.{identifier, posted_terms, posted_products}

-- the constraint that a statement posts, by the variables that its identifiers are
abbrev pub constraints_by : (Identifier → ℕ) → Stmt → List Constraint
constraints_by index (kernel.post z k ts) = Posted (relation z (record { constant = k; coefficients = map (λ (t : LinearTerm). t.coefficient) ts })) (map (λ (t : LinearTerm). index t.variable) ts) ∷ []
constraints_by index (kernel.post_times x y z) = Posted Times (index x ∷ index y ∷ index z ∷ []) ∷ []
constraints_by index s = []

-- those that several statements post, one after another
abbrev pub all_constraints : (Identifier → ℕ) → Stmts → List Constraint
all_constraints index none = []
all_constraints index (followed s ss) = constraints_by index s ++ all_constraints index ss

-- the identifiers of the problem's variables stand for these variables
abbrev pub AreVariables : List ℕ → (Identifier → ℕ) → Type 0
AreVariables vs index = (x : ℕ) → x < length vs → index (identifier vs x) ≡ x

-- the products of these terms are the variables of the search from q on, and have the fresh identifiers from n on
abbrev pub AreProducts : (Identifier → ℕ) → ℕ → ℕ → List Term → Type 0
AreProducts index n q ms = (i : ℕ) → i < product_count ms → index (Fresh (n + i)) ≡ q + i

-- the sides of a relation in the order of the text, of which the products have the identifiers from n on: what is posted is what
-- the problem says, with the products numbered from q on
abbrev pub ForwardsNumbered : Type 0
ForwardsNumbered = (vs : List ℕ) (index : Identifier → ℕ) (n q : ℕ) (z : Sign) (k : ℤ) (left right : List Term) → AreVariables vs index → AreTerms (length vs) left → AreTerms (length vs) right
    → AreProducts index n q left → AreProducts index (n + product_count left) (q + product_count left) right
    → all_constraints index ((posted_products vs n left ⨾ posted_products vs (n + product_count left) right) ⨾ just (kernel.post z k (posted_terms vs n left ++ posted_terms vs (n + product_count left) right)))
    ≡ item_constraints q (Compares z k (left ++ right))

-- where the sides are exchanged, the products of the right side come first among the variables of the search, and the same is posted,
-- in another order
abbrev pub BackwardsNumbered : Type 0
BackwardsNumbered = (vs : List ℕ) (index : Identifier → ℕ) (n q : ℕ) (z : Sign) (k : ℤ) (left right : List Term) → AreVariables vs index → AreTerms (length vs) left → AreTerms (length vs) right
    → AreProducts index n (q + product_count right) left → AreProducts index (n + product_count left) q right → (c : Constraint)
    → Contains (all_constraints index ((posted_products vs n left ⨾ posted_products vs (n + product_count left) right) ⨾ just (kernel.post z k (posted_terms vs (n + product_count left) right ++ posted_terms vs n left)))) c
    ↔ Contains (item_constraints q (Compares z k (right ++ left))) c

-- The constraints that a relation posts are those of the problem.
use Rattle.std.proofs.Common.{◌≡◌, inl, inr, ℕ, suc, ◌+◌, ◌<◌, ℤ, List, [], ◌∷◌, ◌++◌, length, map, Contains, refl, sym, ◌∙◌, ap, subst, arith}
use Rattle.std.proofs.lemmas.List.{append_assoc, map-append}
use Rattle.std.proofs.lemmas.List.Elements.{Contains-append_left, Contains-append_right, Contains-append_cases}
use Rattle.oz_base.specs.declared.relation.Relation.TheVariants.{Times}
use Rattle.oz_language.specs.declared.kernel.Identifier.{Identifier}
use Rattle.oz_language.specs.declared.kernel.Identifier.TheVariants.{Fresh}
use Rattle.oz_language.specs.declared.kernel.LinearTerm.{LinearTerm}
use Rattle.oz_language.specs.declared.kernel.Sign.{Sign}
use Rattle.oz_language.specs.Kernels.{Stmt, Stmts, none, followed, just, ◌⨾◌}
use Rattle.oz_language.specs.Kernels as kernel
use Rattle.fd_problems.specs.declared.problem.Term.{Term}
use Rattle.fd_problems.specs.declared.problem.Term.TheVariants.{Multiple, Product}
use Rattle.fd_stores.specs.Stores.{Constraint, Posted}
use Rattle.fd_trees.specs.Scripts.{product_count, products, coefficients, term_variables, relation, linear, AreTerms}
use Rattle.fd_form_law.specs.Posts.{posted_terms, posted_products}
use Rattle.fd_form_law.specs.Numbered.{constraints_by, all_constraints, AreVariables, AreProducts, ForwardsNumbered, BackwardsNumbered}

all_joined : (index : Identifier → ℕ) (a b : Stmts) → all_constraints index (a ⨾ b) ≡ all_constraints index a ++ all_constraints index b
all_joined index none b = refl
all_joined index (followed s a) b = ap (λ z. constraints_by index s ++ z) (all_joined index a b) ∙ sym (append_assoc (constraints_by index s) (all_constraints index a) (all_constraints index b))

products_joined : (q : ℕ) (ms ns : List Term) → products q (ms ++ ns) ≡ products q ms ++ products (q + product_count ms) ns
products_joined q [] ns = (let e : q ≡ q + 0 = omega arith in ap (λ z. products z ns) e)
products_joined q (Multiple a x ∷ ms) ns = products_joined q ms ns
products_joined q (Product a x y ∷ ms) ns =
    let e : suc q + product_count ms ≡ q + suc (product_count ms) = omega arith in
    ap (λ z. Posted Times (x ∷ y ∷ q ∷ []) ∷ z) (products_joined (suc q) ms ns ∙ ap (λ z. products (suc q) ms ++ products z ns) e)

variables_joined : (q : ℕ) (ms ns : List Term) → term_variables q (ms ++ ns) ≡ term_variables q ms ++ term_variables (q + product_count ms) ns
variables_joined q [] ns = (let e : q ≡ q + 0 = omega arith in ap (λ z. term_variables z ns) e)
variables_joined q (Multiple a x ∷ ms) ns = ap (λ z. x ∷ z) (variables_joined q ms ns)
variables_joined q (Product a x y ∷ ms) ns =
    let e : suc q + product_count ms ≡ q + suc (product_count ms) = omega arith in
    ap (λ z. q ∷ z) (variables_joined (suc q) ms ns ∙ ap (λ z. term_variables (suc q) ms ++ term_variables z ns) e)

coefficients_joined : (ms ns : List Term) → coefficients (ms ++ ns) ≡ coefficients ms ++ coefficients ns
coefficients_joined [] ns = refl
coefficients_joined (Multiple a x ∷ ms) ns = ap (λ z. a ∷ z) (coefficients_joined ms ns)
coefficients_joined (Product a x y ∷ ms) ns = ap (λ z. a ∷ z) (coefficients_joined ms ns)

module _ (vs : List ℕ) (index : Identifier → ℕ) (are : AreVariables vs index) where
  first_product : (n q a : ℕ) (ms : List Term) → ((i : ℕ) → i < suc (product_count ms) → index (Fresh (n + i)) ≡ q + i) → index (Fresh n) ≡ q
  first_product n q a ms h = (let e : n ≡ n + 0 = omega arith in let f : q + 0 ≡ q = omega arith in ap (λ z. index (Fresh z)) e ∙ h 0 (omega arith) ∙ f)

  later_products : (n q : ℕ) (ms : List Term) → ((i : ℕ) → i < suc (product_count ms) → index (Fresh (n + i)) ≡ q + i) → AreProducts index (suc n) (suc q) ms
  later_products n q ms h i l = (let e : suc n + i ≡ n + suc i = omega arith in let f : q + suc i ≡ suc q + i = omega arith in ap (λ z. index (Fresh z)) e ∙ h (suc i) (omega (arith, l)) ∙ f)

  products_numbered : (n q : ℕ) (ms : List Term) → AreTerms (length vs) ms → AreProducts index n q ms → all_constraints index (posted_products vs n ms) ≡ products q ms
  products_numbered n q [] w h = refl
  products_numbered n q (Multiple a x ∷ ms) w h = products_numbered n q ms w.1 h
  products_numbered n q (Product a x y ∷ ms) w h =
      let rest = products_numbered (suc n) (suc q) ms w.1 (later_products n q ms h) in
      λ i. Posted Times (are x w.0.0 i ∷ are y w.0.1 i ∷ first_product n q 0 ms h i ∷ []) ∷ rest i

  variables_numbered : (n q : ℕ) (ms : List Term) → AreTerms (length vs) ms → AreProducts index n q ms → map (λ (t : LinearTerm). index t.variable) (posted_terms vs n ms) ≡ term_variables q ms
  variables_numbered n q [] w h = refl
  variables_numbered n q (Multiple a x ∷ ms) w h = (let rest = variables_numbered n q ms w.1 h in λ i. are x w.0 i ∷ rest i)
  variables_numbered n q (Product a x y ∷ ms) w h =
      let rest = variables_numbered (suc n) (suc q) ms w.1 (later_products n q ms h) in
      λ i. first_product n q 0 ms h i ∷ rest i

  coefficients_numbered : (n : ℕ) (ms : List Term) → map (λ (t : LinearTerm). t.coefficient) (posted_terms vs n ms) ≡ coefficients ms
  coefficients_numbered n [] = refl
  coefficients_numbered n (Multiple a x ∷ ms) = ap (λ z. a ∷ z) (coefficients_numbered n ms)
  coefficients_numbered n (Product a x y ∷ ms) = ap (λ z. a ∷ z) (coefficients_numbered (suc n) ms)

  -- a relation over terms of which the first have products from q on
  last_numbered : (z : Sign) (k : ℤ) (m n q : ℕ) (first second : List Term) → AreTerms (length vs) first → AreTerms (length vs) second → AreProducts index m q first → AreProducts index n (q + product_count first) second
      → all_constraints index (just (kernel.post z k (posted_terms vs m first ++ posted_terms vs n second))) ≡ Posted (relation z (linear k (first ++ second))) (term_variables q (first ++ second)) ∷ []
  last_numbered z k m n q first second w x h g =
      let coefficient = λ (t : LinearTerm). t.coefficient in
      let variable = λ (t : LinearTerm). index t.variable in
      let es = map-append coefficient (posted_terms vs m first) (posted_terms vs n second) ∙ (λ i. coefficients_numbered m first i ++ coefficients_numbered n second i) ∙ sym (coefficients_joined first second) in
      let xs = map-append variable (posted_terms vs m first) (posted_terms vs n second) ∙ (λ i. variables_numbered m q first w h i ++ variables_numbered n (q + product_count first) second x g i) ∙ sym (variables_joined q first second) in
      λ i. Posted (relation z (record { constant = k; coefficients = es i })) (xs i) ∷ []

pub forwards_numbered : ForwardsNumbered
forwards_numbered vs index n q z k left right are w x h g =
    let m = n + product_count left in
    let pl = posted_products vs n left in
    let pr = posted_products vs m right in
    let last = just (kernel.post z k (posted_terms vs n left ++ posted_terms vs m right)) in
    all_joined index (pl ⨾ pr) last
    ∙ (λ i. (all_joined index pl pr ∙ (λ j. products_numbered vs index are n q left w h j ++ products_numbered vs index are m (q + product_count left) right x g j) ∙ sym (products_joined q left right)) i
    ++ last_numbered vs index are z k n m q left right w x h g i)

swapped : (as' bs cs : List Constraint) (c : Constraint) → Contains ((as' ++ bs) ++ cs) c → Contains ((bs ++ as') ++ cs) c
swapped as' bs cs c h = elim (Contains-append_cases (as' ++ bs) cs c h) [
  | inr k ↦ Contains-append_right (bs ++ as') cs c k
  | inl k ↦ Contains-append_left (bs ++ as') cs c (elim (Contains-append_cases as' bs c k) [
    | inl j ↦ Contains-append_right bs as' c j
    | inr j ↦ Contains-append_left bs as' c j
  ])
]

pub backwards_numbered : BackwardsNumbered
backwards_numbered vs index n q z k left right are w x h g c =
    let m = n + product_count left in
    let pl = posted_products vs n left in
    let pr = posted_products vs m right in
    let last = just (kernel.post z k (posted_terms vs m right ++ posted_terms vs n left)) in
    let as' = products (q + product_count right) left in
    let bs = products q right in
    let cs = Posted (relation z (linear k (right ++ left))) (term_variables q (right ++ left)) ∷ [] in
    let there : all_constraints index ((pl ⨾ pr) ⨾ last) ≡ (as' ++ bs) ++ cs =
    all_joined index (pl ⨾ pr) last
    ∙ (λ i. (all_joined index pl pr ∙ (λ j. products_numbered vs index are n (q + product_count right) left w h j ++ products_numbered vs index are m q right x g j)) i
    ++ last_numbered vs index are z k m n q right left x w g h i) in
    let here : products q (right ++ left) ++ cs ≡ (bs ++ as') ++ cs = ap (λ z. z ++ cs) (products_joined q right left) in (
      λ y. subst (λ z. Contains z c) (sym here) (swapped as' bs cs c (subst (λ z. Contains z c) there y)),
      λ y. subst (λ z. Contains z c) (sym there) (swapped bs as' cs c (subst (λ z. Contains z c) here y)),
    )

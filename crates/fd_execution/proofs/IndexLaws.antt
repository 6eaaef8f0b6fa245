-- The identifiers of a relation, as variables of the search.
use Rattle.std.proofs.Common.{◌≡◌, ◌≢◌, inl, inr, ℕ, zero, suc, ◌+◌, ◌<◌, ◌≤◌, nat_eq, Bool, true, false, if◌then◌else◌, List, [], ◌∷◌, ◌++◌, length, map, Contains, AllPairs, slice_index_or, refl, sym, ◌∙◌, ap, subst, arith}
use Rattle.std.proofs.lemmas.List.{length-map, get_or-map, get_or_append_left, get_or-append-add}
use Rattle.std.proofs.lemmas.List.FromFn.{length-range_with_len, get_or-range_with_len}
use Rattle.std.specs.List.{range_with_len}
use Rattle.environments.specs.Environments.{Environment, bound, binding_all, nowhere}
use Rattle.oz_base.specs.declared.names.Ident.{Ident}
use Rattle.oz_language.specs.declared.kernel.Identifier.{Identifier}
use Rattle.oz_language.specs.declared.kernel.Identifier.TheVariants.{Word, Fresh}
use Rattle.oz_language.specs.declared.kernel.LinearTerm.{LinearTerm}
use Rattle.oz_language.specs.Translation.{fresh_names}
use Rattle.oz_laws.proofs.SameLaws.{eq-refl, eq-true}
use Rattle.fd_problems.specs.declared.problem.Term.{Term}
use Rattle.fd_problems.specs.declared.problem.Term.TheVariants.{Multiple, Product}
use Rattle.fd_stores.proofs.Lists.{contains_none, contains_cases}
use Rattle.fd_trees.specs.Scripts.{product_count, AreTerms}
use Rattle.fd_views.specs.Views.{variable_at}
use Rattle.fd_form_law.specs.Shapes.{Differ}
use Rattle.fd_form_law.specs.Posts.{identifier, posted_terms, posted_products}
use Rattle.fd_turns.specs.Nodes.{own}
use Rattle.fd_execution.proofs.ScopeLaws.{bound_here, bound_other}
use Rattle.fd_execution.proofs.PostedLaws.{Reads, AreRead, ArePosts}

-- ---- many fresh identifiers

pub many_names : (n c : ℕ) → length (fresh_names n c) ≡ c
many_names n zero = refl
many_names n (suc c) = (let e = many_names (suc n) c in omega (arith, e))

abbrev pub opened : ℕ → ℕ → ℕ → Environment → Environment
opened n c i e = binding_all (fresh_names n c) (map own (range_with_len i c)) e

fresh_apart : (m n : ℕ) → (m ≡ n → ⊥) → Fresh m ≢ Fresh n
fresh_apart m n d e = d (same m n e) where
  same : (a b : ℕ) → Fresh a ≡ Fresh b → a ≡ b
  same a b f = cc

pub opened_at : (n c i j : ℕ) (e : Environment) → j < c → bound (opened n c i e) (Fresh (n + j)) ≡ own (i + j)
opened_at n zero i j e l = absurd (omega (arith, l))
opened_at n (suc c) i zero e l = (let a : n + 0 ≡ n = omega arith in let b : i + 0 ≡ i = omega arith in
    ap (λ m. bound (opened n (suc c) i e) (Fresh m)) a ∙ bound_here (Fresh n) (own i) (opened (suc n) c (i + 1) e) ∙ ap own (sym b))
opened_at n (suc c) i (suc j) e l = (let a : n + suc j ≡ suc n + j = omega arith in let b : i + 1 + j ≡ i + suc j = omega arith in
    bound_other (Fresh n) (Fresh (n + suc j)) (own i) (opened (suc n) c (i + 1) e) (fresh_apart (n + suc j) n (λ f. omega (arith, f)))
    ∙ ap (λ m. bound (opened (suc n) c (i + 1) e) (Fresh m)) a ∙ opened_at (suc n) c (i + 1) j e (omega (arith, l)) ∙ ap own b)

pub opened_word : (n c i w : ℕ) (e : Environment) → bound (opened n c i e) (Word w) ≡ bound e (Word w)
opened_word n zero i w e = refl
opened_word n (suc c) i w e = bound_other (Fresh n) (Word w) (own i) (opened (suc n) c (i + 1) e) (λ f. cc) ∙ opened_word (suc n) c (i + 1) w e

-- ---- places

-- the place of a word
abbrev pub place_in : List ℕ → ℕ → ℕ
place_in [] w = 0
place_in (v ∷ vs) w = if nat_eq v w then 0 else suc (place_in vs w)

pub place_is : (vs : List ℕ) (x : ℕ) → Differ vs → x < length vs → place_in vs (slice_index_or vs x 0) ≡ x
place_is [] x d l = absurd (omega (arith, l))
place_is (v ∷ vs) zero d l = ap (λ b. if b then 0 else suc (place_in vs v)) (eq-refl v)
place_is (v ∷ vs) (suc x) d l = by (nat_eq v (slice_index_or vs x 0)) refl (place_is vs x (λ y z a b e. (let f = d (suc y) (suc z) (omega (arith, a)) (omega (arith, b)) e in omega (arith, f))) (omega (arith, l))) where
  by : (b : Bool) → nat_eq v (slice_index_or vs x 0) ≡ b → place_in vs (slice_index_or vs x 0) ≡ x → (if b then 0 else suc (place_in vs (slice_index_or vs x 0))) ≡ suc x
  by true e f = d 0 (suc x) (omega arith) l (eq-true v (slice_index_or vs x 0) e)
  by false e f = ap suc f

-- words by their places, and fresh identifiers by this
abbrev pub index_of : List ℕ → (ℕ → ℕ) → Identifier → ℕ
index_of vs fresh (Word w) = place_in vs w
index_of vs fresh (Fresh n) = fresh n

-- ---- sums

module _ (vs : List ℕ) (e : Environment) (index : Identifier → ℕ) (xs : List Ident) (words : (x : ℕ) → x < length vs → Reads e index xs (identifier vs x)) where
  abbrev FreshRead : ℕ → ℕ → Type 0
  FreshRead n c = (i : ℕ) → i < c → Reads e index xs (Fresh (n + i))

  later_read : (n c : ℕ) → FreshRead n (suc c) → FreshRead (suc n) c
  later_read n c f i l = (let g : n + suc i ≡ suc n + i = omega arith in subst (λ m. Reads e index xs (Fresh m)) g (f (suc i) (omega (arith, l))))

  first_read : (n c : ℕ) → FreshRead n (suc c) → Reads e index xs (Fresh n)
  first_read n c f = (let g : n + 0 ≡ n = omega arith in subst (λ m. Reads e index xs (Fresh m)) g (f 0 (omega arith)))

  pub terms_read : (n : ℕ) (ms : List Term) → AreTerms (length vs) ms → FreshRead n (product_count ms) → AreRead e index xs (posted_terms vs n ms)
  terms_read n [] a f = tt
  terms_read n (Multiple c x ∷ ms) a f = (words x a.0, terms_read n ms a.1 f)
  terms_read n (Product c x y ∷ ms) a f = (first_read n (product_count ms) f, terms_read (suc n) ms a.1 (later_read n (product_count ms) f))

  pub products_post : (n : ℕ) (ms : List Term) → AreTerms (length vs) ms → FreshRead n (product_count ms) → ArePosts e index xs (posted_products vs n ms)
  products_post n [] a f = tt
  products_post n (Multiple c x ∷ ms) a f = products_post n ms a.1 f
  products_post n (Product c x y ∷ ms) a f = ((words x a.0.0, words y a.0.1, first_read n (product_count ms) f), products_post (suc n) ms a.1 (later_read n (product_count ms) f))

  pub both_read : (us ws : List LinearTerm) → AreRead e index xs us → AreRead e index xs ws → AreRead e index xs (us ++ ws)
  both_read [] ws h g = g
  both_read (u ∷ us) ws h g = (h.0, both_read us ws h.1 g)

pub terms_left : (n : ℕ) (ms ns : List Term) → AreTerms n (ms ++ ns) → AreTerms n ms
terms_left n [] ns a = tt
terms_left n (m ∷ ms) ns a = (a.0, terms_left n ms ns a.1)

pub terms_right : (n : ℕ) (ms ns : List Term) → AreTerms n (ms ++ ns) → AreTerms n ns
terms_right n [] ns a = a
terms_right n (m ∷ ms) ns a = terms_right n ms ns a.1

-- ---- ranges

pub range_inside : (a c x : ℕ) → Contains (range_with_len a c) x → (a ≤ x) × (x < a + c)
range_inside a zero x h = absurd (contains_none x h)
range_inside a (suc c) x h = elim (contains_cases a x (range_with_len (a + 1) c) h) [
  | inl e ↦ (omega (arith, e), omega (arith, e))
  | inr k ↦ (let r = range_inside (a + 1) c x k in (omega (arith, r.0), omega (arith, r.1)))
]

pub range_apart : (a c : ℕ) → AllPairs (λ x y. x ≢ y) (range_with_len a c)
range_apart a c i j d l m e =
    let n = length-range_with_len a c in
    let p = get_or-range_with_len a c i d (omega (arith, n, l, m)) in
    let q = get_or-range_with_len a c j d (omega (arith, n, m)) in
    omega (arith, e, p, q, l)

-- what stands behind a list at a place of a range
pub range_at : (xs : List Ident) (a c j q : ℕ) (more : List Ident) → length xs ≡ q → j < c → variable_at (xs ++ (map own (range_with_len a c) ++ more)) (q + j) ≡ own (a + j)
range_at xs a c j q more e l =
    let n = length-range_with_len a c in
    let m = length-map (range_with_len a c) own in
    ap (λ k. variable_at (xs ++ (map own (range_with_len a c) ++ more)) (k + j)) (sym e) ∙ get_or-append-add xs (map own (range_with_len a c) ++ more) j nowhere
    ∙ get_or_append_left (map own (range_with_len a c)) more nowhere j (omega (arith, n, m, l))
    ∙ get_or-map own (range_with_len a c) j 0 nowhere (omega (arith, n, l)) ∙ ap own (get_or-range_with_len a c j 0 l)

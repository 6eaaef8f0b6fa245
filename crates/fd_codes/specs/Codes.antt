-- The kernel statements into which the parts of a finite-domain script are translated (the kernel language, CTM 2.3; translation into it,
-- CTM 2.6; scripts, CTM 12.2; Schulte, LNCS 2302, chapter 2).
use Rattle.std.specs.Prelude.{◌≡◌, ◌≢◌, ◌<◌, ℕ, ◌+◌, ℤ, pos, true, List, [], ◌∷◌, ◌++◌, length}
use Rattle.oz_base.specs.declared.distribution.Rule.{Rule}
use Rattle.oz_language.specs.Wording.{hash_word}
use Rattle.oz_language.specs.declared.token.Literal.TheVariants.{Atom}
use Rattle.oz_language.specs.declared.kernel.Identifier.{Identifier}
use Rattle.oz_language.specs.declared.kernel.Identifier.TheVariants.{Word, Fresh}
use Rattle.oz_language.specs.declared.kernel.Constant.{Constant}
use Rattle.oz_language.specs.declared.kernel.Constant.TheVariants as constant
use Rattle.oz_language.specs.declared.kernel.Operation.TheVariants as operation
use Rattle.oz_language.specs.declared.kernel.Sign.{Sign}
use Rattle.oz_language.specs.Kernels.{Stmts, none, followed, just, ◌⨾◌}
use Rattle.oz_language.specs.Kernels as kernel
use Rattle.oz_language.specs.Translation.{nil_constant, cell_bound, fresh_names, scoped}
use Rattle.oz_domains.specs.Domains.{is_domain_value}
use Rattle.fd_problems.specs.declared.problem.Term.{Term}
use Rattle.fd_problems.specs.declared.problem.Item.{Item}
use Rattle.fd_problems.specs.declared.problem.Item.TheVariants.{Within, Compares, Different}
use Rattle.fd_problems.specs.declared.problem.Distribution.{Distribution}
use Rattle.fd_views.specs.Views.{rule_word}
use Rattle.fd_form.specs.Parts.{fd_word, distinct_word, distribute_word, places}
use Rattle.fd_form.specs.FdScripts.{all_within}
use Rattle.fd_trees.specs.Scripts.{product_count}
use Rattle.fd_form_law.specs.Posts.{identifier, posted_terms, posted_products}

-- Parts

-- code that binds x to a description of a domain by its bounds: an integer, or the pair L#H
pub data BoundsCode (x : Identifier) : ℤ → ℤ → Stmts → Type 0 where
  one : {i : ℤ} → BoundsCode x i i (just (kernel.bind x (constant.Int i)))
  two : {low high : ℤ} (n m : ℕ) → n ≢ m → x ≢ Fresh n → x ≢ Fresh m
      → BoundsCode x low high (just (kernel.local (Fresh n ∷ Fresh m ∷ [])
      (followed (kernel.bind_record x (Atom hash_word) (constant.Int (pos 1) ∷ constant.Int (pos 2) ∷ []) (Fresh n ∷ Fresh m ∷ []))
      (followed (kernel.bind (Fresh n) (constant.Int low)) (just (kernel.bind (Fresh m) (constant.Int high)))))))

-- code that binds x to the list of these variables of the problem
pub data ListCode (vs : List ℕ) : Identifier → List ℕ → Stmts → Type 0 where
  ends : {x : Identifier} → ListCode vs x [] (just (kernel.bind x nil_constant))
  cell : {x : Identifier} {y : ℕ} {ys : List ℕ} {code : Stmts} (n : ℕ) → y < length vs → x ≢ Fresh n → ListCode vs (Fresh n) ys code
      → ListCode vs x (y ∷ ys) (just (kernel.local (Fresh n ∷ []) (followed (cell_bound x (identifier vs y) (Fresh n)) code)))

-- code that binds x to the field `FD.word` of the record of finite-domain built-ins
pub data FdCode (x : Identifier) (word : ℕ) : Stmts → Type 0 where
  selects : (n : ℕ) → x ≢ Fresh n
      → FdCode x word (just (kernel.local (Fresh n ∷ []) (followed (kernel.bind (Fresh n) (constant.Literal (Atom word)))
      (just (kernel.operate operation.Select (Word fd_word ∷ Fresh n ∷ x ∷ []))))))

-- code that makes a vector of these variables, the fresh identifiers that it needs, and the vector's identifier: that of the root, for all
-- variables, or a fresh one, which is bound to a list
pub data VectorCode (root : ℕ) (vs : List ℕ) (m : ℕ) : List ℕ → List Identifier → Identifier → Stmts → Type 0 where
  whole : VectorCode root vs m (places vs) [] (Word root) none
  listed : {ys : List ℕ} {code : Stmts} → ListCode vs (Fresh m) ys code → VectorCode root vs m ys (Fresh m ∷ []) (Fresh m) code

-- Items

-- the bounds of a domain, which are domain values
pub record AreBounds (low high : ℤ) : Type 0 where
  pub low_fits : is_domain_value low ≡ true
  pub high_fits : is_domain_value high ≡ true

-- the code of a statement that states these items: it tells variables a domain, posts a comparison of sums, or calls `FD.distinct`
pub data ItemCode (root : ℕ) (vs : List ℕ) : List Item → Stmts → Type 0 where
  within : {low high : ℤ} {x : ℕ} {code : Stmts} (n : ℕ) → x < length vs → AreBounds low high → BoundsCode (Fresh n) low high code
      → ItemCode root vs (Within x low high ∷ []) (just (kernel.local (Fresh n ∷ []) (code ⨾ just (kernel.operate operation.Bound (identifier vs x ∷ Fresh n ∷ [])))))
  within_all : {low high : ℤ} {code : Stmts} (n : ℕ) → AreBounds low high → BoundsCode (Fresh n) low high code
      → ItemCode root vs (all_within (places vs) (low, high)) (just (kernel.local (Fresh n ∷ []) (code ⨾ just (kernel.operate operation.BoundEach (Word root ∷ Fresh n ∷ [])))))
  -- the products of the left side come first, and the relation has the sides in their order, or exchanged
  forwards : {z : Sign} {k : ℤ} (n : ℕ) (left right : List Term)
      → ItemCode root vs (Compares z k (left ++ right) ∷ []) (scoped (fresh_names n (product_count left + product_count right))
      ((posted_products vs n left ⨾ posted_products vs (n + product_count left) right)
      ⨾ just (kernel.post z k (posted_terms vs n left ++ posted_terms vs (n + product_count left) right))))
  backwards : {z : Sign} {k : ℤ} (n : ℕ) (left right : List Term)
      → ItemCode root vs (Compares z k (right ++ left) ∷ []) (scoped (fresh_names n (product_count left + product_count right))
      ((posted_products vs n left ⨾ posted_products vs (n + product_count left) right)
      ⨾ just (kernel.post z k (posted_terms vs (n + product_count left) right ++ posted_terms vs n left))))
  different : {xs : List ℕ} {names : List Identifier} {y : Identifier} {code make : Stmts} (n m : ℕ) → n ≢ m → FdCode (Fresh n) distinct_word code → VectorCode root vs m xs names y make
      → ItemCode root vs (Different xs ∷ []) (just (kernel.local (Fresh n ∷ names) (code ⨾ (make ⨾ just (kernel.call (Fresh n) (y ∷ []))))))

-- the code of the last statement, which calls `FD.distribute` with a rule and a vector of variables
pub data DistributionCode (root : ℕ) (vs : List ℕ) : Distribution → Stmts → Type 0 where
  distributes : {r : Rule} {xs : List ℕ} {names : List Identifier} {y : Identifier} {code make : Stmts} (n m l : ℕ) → n ≢ m → n ≢ l → m ≢ l → FdCode (Fresh n) distribute_word code
      → VectorCode root vs l xs names y make
      → DistributionCode root vs (record { rule = r; over = xs }) (just (kernel.local (Fresh n ∷ Fresh m ∷ names)
      (code ⨾ (just (kernel.bind (Fresh m) (constant.Literal (Atom (rule_word r)))) ⨾ (make ⨾ just (kernel.call (Fresh n) (Fresh m ∷ y ∷ [])))))))

-- the code of a script: that of statements that state these items, one after another, and then of the distributor
pub data ScriptCode (root : ℕ) (vs : List ℕ) : List Item → Distribution → Stmts → Type 0 where
  last : {d : Distribution} {code : Stmts} → DistributionCode root vs d code → ScriptCode root vs [] d code
  next : {is js : List Item} {d : Distribution} {code rest : Stmts} → ItemCode root vs is code → ScriptCode root vs js d rest → ScriptCode root vs (is ++ js) d (code ⨾ rest)

-- Fields

-- a field of a kernel record: its feature, and the identifier of its variable in place of its word
abbrev pub named_field : Constant × ℕ → Constant × Identifier
named_field f = (f.0, Word f.1)

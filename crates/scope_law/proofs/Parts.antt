-- The identifiers of parts are in scope, and so is what records and lists of codes are made of.
use Rattle.std.proofs.Common.{ℕ, List, [], ◌∷◌, ◌++◌, None, Bool, true, pos}
use Rattle.std.specs.List.{Contains, AllByRecursion, zip}
use Rattle.std.proofs.lemmas.List.Elements.{All-from_recursion}
use Rattle.oz_language.specs.declared.kernel.Identifier.{Identifier}
use Rattle.oz_language.specs.declared.kernel.Constant.{Constant}
use Rattle.oz_language.specs.declared.kernel.Constant.TheVariants as constant
use Rattle.oz_language.specs.declared.token.Literal.{Literal}
use Rattle.oz_language.specs.Arities.{feature_lt, placed_field, in_arity_order}
use Rattle.oz_language.specs.Grammar.{Phrase, Phrases, nothing, more, var, keyed, paren}
use Rattle.oz_language.specs.Kernels.{just}
use Rattle.oz_language.specs.Kernels as k
use Rattle.oz_language.specs.Translation.{made, variable_of, name_or, next_after, names_of, fresh_among, keys_of, record_or_label, record_bound, last_variable, codes_made}
use Rattle.scope_law.specs.Closed.{Closed, ClosedAll}
use Rattle.scope_law.proofs.Basics.{by_test, here, there}
use Rattle.scope_law.proofs.Scopes.{Named, part_in, cell_closed}
use Rattle.scope_law.proofs.Names.{Knows}
use Rattle.scope_law.proofs.Patterns.{seconds}
use Rattle.scope_law.proofs.Bound.{Bound, BoundEach}

-- ---- parts

pub named : (names : List ℕ) (S : List Identifier) (v : Bool) (p : Phrase) → Knows names S → Bound names v p → Named S (variable_of p)
named names S v (var name at) k h = k.word name h
named names S v (paren at (more e nothing)) k h = named names S v e k h.0
named names S v (keyed c at e) k h = named names S true e k h
named names S v p k h = tt

pub last_named : (names : List ℕ) (S : List Identifier) (v : Bool) (ps : Phrases) → Knows names S → BoundEach names v ps → Named S (last_variable ps)
last_named names S v (more e nothing) k h = named names S v e k h.0
last_named names S v ps k h = tt

-- the parts among others that are bound with them
parts_among : (names : List ℕ) (S xs : List Identifier) (v : Bool) (n : ℕ) (es : Phrases) → Knows names S → BoundEach names v es → ((x : Identifier) → Contains (names_of n es) x → Contains xs x)
    → AllByRecursion (Contains (fresh_among xs ++ S)) (names_of n es)
parts_among names S xs v n nothing k h f = tt
parts_among names S xs v n (more e es) k h f =
    let x = name_or n (variable_of e) in
    let rest = names_of (next_after n (variable_of e)) es in
    (part_in S xs n (variable_of e) (named names S v e k h.0) (f x (here x rest)), parts_among names S xs v (next_after n (variable_of e)) es k h.1 (λ y i. f y (there x y rest i)))

pub parts_named : (names : List ℕ) (S : List Identifier) (v : Bool) (n : ℕ) (es : Phrases) → Knows names S → BoundEach names v es → AllByRecursion (Contains (fresh_among (names_of n es) ++ S)) (names_of n es)
parts_named names S v n es k h = parts_among names S (names_of n es) v n es k h (λ x i. i)

-- ---- records

module _ (P : Identifier → Type 0) (words : List (List ℕ)) where
  placed_each : (f : Constant × Identifier) (gs : List (Constant × Identifier)) → P f.1 → AllByRecursion P (seconds gs) → AllByRecursion P (seconds (placed_field words f gs))
  placed_each f [] h i = (h, tt)
  placed_each f (g ∷ gs) h i = by_test (λ (fs : List (Constant × Identifier)). AllByRecursion P (seconds fs)) (feature_lt words g.0 f.0) (g ∷ placed_field words f gs) (f ∷ g ∷ gs) (i.0, placed_each f gs h i.1) (h, i)

  ordered_each : (fs : List (Constant × Identifier)) → AllByRecursion P (seconds fs) → AllByRecursion P (seconds (in_arity_order words fs))
  ordered_each [] h = tt
  ordered_each (f ∷ fs) h = placed_each f (in_arity_order words fs) h.0 (ordered_each fs h.1)

  zipped_each : (cs : List Constant) (xs : List Identifier) → AllByRecursion P xs → AllByRecursion P (seconds (zip cs xs))
  zipped_each [] xs h = tt
  zipped_each (c ∷ cs) [] h = tt
  zipped_each (c ∷ cs) (x ∷ xs) h = (h.0, zipped_each cs xs h.1)

record_closed : (S : List Identifier) (x : Identifier) (l : Literal) (fs : List (Constant × Identifier)) → Contains S x → AllByRecursion (Contains S) (seconds fs) → Closed S (record_or_label x l fs)
record_closed S x l [] h i = h
record_closed S x l (f ∷ fs) h i = (h, All-from_recursion (Contains S) (seconds (f ∷ fs)) i)

pub bound_closed : (words : List (List ℕ)) (S : List Identifier) (x : Identifier) (l : Literal) (fs : Phrases) (xs : List Identifier) → Contains S x → AllByRecursion (Contains S) xs → Closed S (record_bound words x l fs xs)
bound_closed words S x l fs xs h i =
    let parts = zip (keys_of fs) xs in
    record_closed S x l (in_arity_order words parts) h (ordered_each (Contains S) words parts (zipped_each (Contains S) words (keys_of fs) xs i))

-- ---- strings

pub codes_closed : (S : List Identifier) (x : Identifier) (cs : List ℕ) (n : ℕ) → Contains S x → ClosedAll S (codes_made x cs n).code
codes_closed S x [] n h = (h, tt)
codes_closed S x (c ∷ cs) n h =
    cell_closed S n x None None (λ y i. made (just (k.bind y (constant.Int (pos c)))) i) (λ z i. codes_made z cs i) h tt tt
    (record { code = λ T w y i j. (i, tt) }) (record { code = λ T w z i j. codes_closed T z cs j i })

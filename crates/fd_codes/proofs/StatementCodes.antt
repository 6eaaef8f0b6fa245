-- The code of statements, and of all of a script's.
use Rattle.std.proofs.Common.{◌≡◌, ◌≢◌, ℕ, zero, suc, ◌+◌, ◌≤◌, nat_eq, ◌&&◌, ◌==◌, ℤ, Bool, true, false, if◌then◌else◌, List, [], ◌∷◌, ◌++◌, length, Option, Some, None, option_map, option_and_then, refl, sym, ◌∙◌, ap, subst, arith}
use Rattle.std.proofs.lemmas.Bool.Decides.{nat_tests}
use Rattle.std.specs.List.{list_all}
use Rattle.oz_base.specs.declared.distribution.Rule.{Rule}
use Rattle.oz_base.specs.declared.distribution.Rule.TheVariants.{Naive, FirstFail, Split as Halve}
use Rattle.oz_language.specs.Wording.{naive_word, ff_word, split_word}
use Rattle.oz_language.specs.declared.token.Literal.TheVariants.{Atom}
use Rattle.oz_language.specs.declared.token.Comparison.{Comparison}
use Rattle.oz_language.specs.declared.token.Comparison.TheVariants as comparison
use Rattle.oz_language.specs.declared.token.Connective.TheVariants.{Bounds, BoundsEach}
use Rattle.oz_language.specs.declared.kernel.Identifier.{Identifier}
use Rattle.oz_language.specs.declared.kernel.Identifier.TheVariants.{Word, Fresh}
use Rattle.oz_language.specs.declared.kernel.Constant.TheVariants as constant
use Rattle.oz_language.specs.declared.kernel.Operation.{Operation}
use Rattle.oz_language.specs.declared.kernel.Operation.TheVariants as operation
use Rattle.oz_language.specs.declared.kernel.Sign.{Sign}
use Rattle.oz_language.specs.Grammar.{Phrase, nothing, more, connected, relate, call}
use Rattle.oz_language.specs.Refusals.{contains}
use Rattle.oz_language.specs.Kernels.{Stmt, Stmts, none, followed, just, ◌⨾◌}
use Rattle.oz_language.specs.Kernels as kernel
use Rattle.oz_language.specs.Translation.{Made, made, and_then, value, statement, variable_of, name_or, next_after, within, fresh_among, part_made, with_parts, called, fresh_names, scoped, translated, translated_each}
use Rattle.fd_problems.specs.declared.problem.Term.{Term}
use Rattle.fd_problems.specs.declared.problem.Item.{Item}
use Rattle.fd_problems.specs.declared.problem.Item.TheVariants.{Within, Compares, Different}
use Rattle.fd_problems.specs.declared.problem.Distribution.{Distribution}
use Rattle.fd_trees.specs.Scripts.{product_count}
use Rattle.fd_views.specs.Views.{rule_word}
use Rattle.fd_form.specs.declared.sums.Sum.{Sum}
use Rattle.fd_form.specs.Sums.{compared, relation_of}
use Rattle.fd_form.specs.Parts.{distinct_word, distribute_word, only_if, both, atom_of, is_named, place_of, places, vector_of, bounds_of}
use Rattle.fd_form.specs.FdScripts.{is_of_fd, all_within, items_of, rule_named, distribution_of, stated}
use Rattle.fd_form_law.specs.Posts.{identifier, posted_terms, posted_products, is_exchanged}
use Rattle.fd_form_law.proofs.FormLaws.{map_some, then_some, both_some, only_some, if_some}
use Rattle.fd_form_law.proofs.PostLaws.{relations_posted}
use Rattle.fd_codes.specs.Codes.{ListCode, whole, listed, ItemCode, within as within_code, within_all, forwards, backwards, different, DistributionCode, distributes, ScriptCode, last, next}
use Rattle.fd_codes.specs.Laws.{ScriptsCoded}
use Rattle.fd_codes.proofs.PartCodes.{nothing_behind, behind_behind, is_place, named_variable, atom_code, fresh_older, fresh_apart, domain_code, IsVector, is_root, is_list, vector_code, fd_code}

-- ---- X::D and R:::D

-- a variable and a description, which is made first
module _ (words : List (List ℕ)) (n : ℕ) (x d : Phrase) (op : Operation) (y : Identifier) (word : ℕ) (is_word : y ≡ Word word) (first : variable_of x ≡ Some y) (second : variable_of d ≡ None) where
  abbrev operated : Identifier → Identifier → Stmt
  operated a b = kernel.operate op (a ∷ b ∷ [])

  abbrev X : Identifier → ℕ → Made
  X a i = translated words (value a) i x

  abbrev D : Identifier → ℕ → Made
  D a i = translated words (value a) i d

  described : (with_parts n (variable_of x) (variable_of d) X D operated).code ≡ just (kernel.local (Fresh n ∷ []) ((D (Fresh n) (suc n)).code ⨾ just (operated (Word word) (Fresh n))))
  described = (λ i. (with_parts n ((first ∙ ap Some is_word) i) (second i) X D operated).code)

-- ---- relations

all_fresh : (n c : ℕ) → fresh_among (fresh_names n c) ≡ fresh_names n c
all_fresh n zero = refl
all_fresh n (suc c) = ap (λ xs. Fresh n ∷ xs) (all_fresh (suc n) c)

-- what is compared
record IsComparison (is : List Item) : Type 0 where
  sign : Sign
  constant : ℤ
  terms : List Term
  only : Compares sign constant terms ∷ [] ≡ is

compared_is : (r : Sign) (o : Option Sum) (is : List Item) → compared r o ≡ Some is → IsComparison is
compared_is r o is e = (let m = map_some (λ (k : Sum). Compares r k.constant k.terms ∷ []) o is e in record { sign = r; constant = m.0.constant; terms = m.0.terms; only = m.2 })

comparison_is : (vs : List ℕ) (r : Comparison) (a b : Phrase) (is : List Item) → relation_of vs r a b ≡ Some is → IsComparison is
comparison_is vs comparison.Equal a b is e = compared_is _ _ is e
comparison_is vs comparison.Unequal a b is e = compared_is _ _ is e
comparison_is vs comparison.Below a b is e = compared_is _ _ is e
comparison_is vs comparison.NotAbove a b is e = compared_is _ _ is e
comparison_is vs comparison.Above a b is e = compared_is _ _ is e
comparison_is vs comparison.NotBelow a b is e = compared_is _ _ is e

module _ (root : ℕ) (vs : List ℕ) (n : ℕ) (z : Sign) (k : ℤ) (left right : List Term) where
  abbrev many : ℕ
  many = product_count left + product_count right

  abbrev behind : ℕ
  behind = n + product_count left

  abbrev either_way : Bool → Stmts
  either_way b =
      (posted_products vs n left ⨾ posted_products vs behind right)
      ⨾ just (kernel.post z k (if b then posted_terms vs behind right ++ posted_terms vs n left else posted_terms vs n left ++ posted_terms vs behind right))

  by_way : (b : Bool) → ItemCode root vs (Compares z k (if b then right ++ left else left ++ right) ∷ []) (scoped (fresh_names n many) (either_way b))
  by_way true = backwards n left right
  by_way false = forwards n left right

relation_code : (words : List (List ℕ)) (root : ℕ) (vs : List ℕ) (n : ℕ) (r : Comparison) (a b : Phrase) (is : List Item) → relation_of vs r a b ≡ Some is → ItemCode root vs is (translated words statement n (relate r a b)).code
relation_code words root vs n r a b is e =
    let c = comparison_is vs r a b is e in
    let h = relations_posted words vs n r a b c.sign c.constant c.terms (e ∙ ap Some (sym c.only)) in
    let names = fresh_names n (product_count h.left + product_count h.right) in
    let code = either_way root vs n c.sign c.constant h.left h.right (is_exchanged r) in
    let made' : (translated words statement n (relate r a b)).code ≡ scoped names code = ap (λ (m : Made). m.code) h.made ∙ ap (λ xs. scoped xs code) (all_fresh n (product_count h.left + product_count h.right)) in
    subst (λ js. ItemCode root vs js (translated words statement n (relate r a b)).code) c.only
    (subst (λ ms. ItemCode root vs (Compares c.sign c.constant ms ∷ []) (translated words statement n (relate r a b)).code) (sym h.all)
    (subst (ItemCode root vs (Compares c.sign c.constant (if is_exchanged r then h.right ++ h.left else h.left ++ h.right) ∷ [])) (sym made') (by_way root vs n c.sign c.constant h.left h.right (is_exchanged r))))

-- ---- {FD.distinct W}

-- a call of two parts, by which are variables and how the others are made
abbrev call_of_two : ℕ → Option Identifier → Option Identifier → (Identifier → ℕ → Made) → (Identifier → ℕ → Made) → Made
call_of_two n v w first second =
    let x = name_or n v in
    let m = next_after n v in
    let y = name_or m w in
    within (x ∷ y ∷ [])
    (and_then (and_then (part_made v (λ i. first x i) (next_after m w)) (λ i. and_then (part_made w (λ j. second y j) i) (λ j. made none j))) (λ i. made (called (x ∷ y ∷ [])) i))

module _ (words : List (List ℕ)) (root : ℕ) (vs : List ℕ) (n at : ℕ) (f w : Phrase) (fd : is_of_fd distinct_word f ≡ true) where
  abbrev F : Identifier → ℕ → Made
  F x i = translated words (value x) i f

  abbrev W : Identifier → ℕ → Made
  W x i = translated words (value x) i w

  abbrev the_call : Phrase
  the_call = call at (more f (more w nothing))

  -- of the root
  distinct_whole : variable_of w ≡ Some (Word root) → ItemCode root vs (Different (places vs) ∷ []) (translated words statement n the_call).code
  distinct_whole v =
      let p = fd_code words distinct_word f fd in
      let c = p.code (Fresh n) (suc n) (fresh_older n (suc n) (omega arith)) in
      let code : (translated words statement n the_call).code ≡ just (kernel.local (Fresh n ∷ []) ((c.0 ⨾ none) ⨾ just (kernel.call (Fresh n) (Word root ∷ [])))) =
      (λ i. (call_of_two n (p.other i) (v i) F W).code) ∙ ap (λ (m : Made). (within (Fresh n ∷ Word root ∷ []) (and_then (and_then m (λ i. made none i)) (λ i. made (just (kernel.call (Fresh n) (Word root ∷ []))) i))).code) c.2 in
      subst (ItemCode root vs (Different (places vs) ∷ [])) (sym (code ∙ ap (λ a. just (kernel.local (Fresh n ∷ []) (a ⨾ just (kernel.call (Fresh n) (Word root ∷ []))))) (nothing_behind c.0)))
      (different n (suc n) (fresh_apart n (suc n) (omega arith)) c.1 whole)

  -- of a list
  distinct_listed : (ys : List ℕ) → variable_of w ≡ None → ((x : Identifier) (m : ℕ) → ((i : ℕ) → m ≤ i → x ≢ Fresh i) → ListCode vs x ys (W x m).code) → ItemCode root vs (Different ys ∷ []) (translated words statement n the_call).code
  distinct_listed ys v list =
      let p = fd_code words distinct_word f fd in
      let c = p.code (Fresh n) (suc (suc n)) (fresh_older n (suc (suc n)) (omega arith)) in
      let make = (W (Fresh (suc n)) (suc (suc (suc n)))).code in
      let the_last = just (kernel.call (Fresh n) (Fresh (suc n) ∷ [])) in
      let code : (translated words statement n the_call).code ≡ just (kernel.local (Fresh n ∷ Fresh (suc n) ∷ []) ((c.0 ⨾ (make ⨾ none)) ⨾ the_last)) =
      (λ i. (call_of_two n (p.other i) (v i) F W).code)
      ∙ ap (λ (m : Made). (within (Fresh n ∷ Fresh (suc n) ∷ []) (and_then (and_then m (λ i. and_then (W (Fresh (suc n)) i) (λ j. made none j))) (λ i. made the_last i))).code) c.2 in
      let tidy : (c.0 ⨾ (make ⨾ none)) ⨾ the_last ≡ c.0 ⨾ (make ⨾ the_last) = ap (λ a. (c.0 ⨾ a) ⨾ the_last) (nothing_behind make) ∙ behind_behind c.0 make the_last in
      subst (ItemCode root vs (Different ys ∷ [])) (sym (code ∙ ap (λ a. just (kernel.local (Fresh n ∷ Fresh (suc n) ∷ []) a)) tidy))
      (different n (suc n) (fresh_apart n (suc n) (omega arith)) c.1 (listed (list (Fresh (suc n)) (suc (suc (suc n))) (fresh_older (suc n) (suc (suc (suc n))) (omega arith)))))

  distinct_code : (ys : List ℕ) → IsVector words root vs w ys → ItemCode root vs (Different ys ∷ []) (translated words statement n the_call).code
  distinct_code _ (is_root v) = distinct_whole v
  distinct_code ys (is_list v list) = distinct_listed ys v list

-- ---- any item

item_code : (words : List (List ℕ)) (root : ℕ) (vs : List ℕ) (n : ℕ) (p : Phrase) (is : List Item) → items_of root vs p ≡ Some is → ItemCode root vs is (translated words statement n p).code
item_code words root vs n (connected Bounds x d) is e =
    let m = map_some (λ (q : ℕ × (ℤ × ℤ)). Within q.0 q.1.0 q.1.1 ∷ []) (both (place_of vs x) (bounds_of d)) is e in
    let o = both_some (place_of vs x) (bounds_of d) m.0 m.1 in
    let place = is_place vs x m.0.0 o.0 in
    let domain = domain_code words d m.0.1.0 m.0.1.1 o.1 in
    subst (λ js. ItemCode root vs js (translated words statement n (connected Bounds x d)).code) m.2
    (subst (ItemCode root vs (Within m.0.0 m.0.1.0 m.0.1.1 ∷ [])) (sym (described words n x d operation.Bound (identifier vs m.0.0) _ refl place.variable domain.other))
    (within_code n place.below domain.bounds (domain.code (Fresh n) (suc n) (fresh_older n (suc n) (omega arith)))))
item_code words root vs n (connected BoundsEach r d) is e =
    let t = if_some (is_named root r) (option_map (all_within (places vs)) (bounds_of d)) is e in
    let m = map_some (all_within (places vs)) (bounds_of d) is t.1 in
    let domain = domain_code words d m.0.0 m.0.1 m.1 in
    subst (λ js. ItemCode root vs js (translated words statement n (connected BoundsEach r d)).code) m.2
    (subst (ItemCode root vs (all_within (places vs) m.0)) (sym (described words n r d operation.BoundEach (Word root) root refl (named_variable root r t.0) domain.other))
    (within_all n domain.bounds (domain.code (Fresh n) (suc n) (fresh_older n (suc n) (omega arith)))))
item_code words root vs n (relate r a b) is e = relation_code words root vs n r a b is e
item_code words root vs n (call at (more f (more w nothing))) is e =
    let t = if_some (is_of_fd distinct_word f) (option_map (λ xs. Different xs ∷ []) (vector_of root vs w)) is e in
    let m = map_some (λ xs. Different xs ∷ []) (vector_of root vs w) is t.1 in
    subst (λ js. ItemCode root vs js (translated words statement n (call at (more f (more w nothing)))).code) m.2 (distinct_code words root vs n at f w t.0 m.0 (vector_code words root vs w m.0 m.1))
item_code words root vs n p is e = absurd (cc)

-- ---- {FD.distribute Rule U}

rule_is : (word : ℕ) (r : Rule) → rule_named word ≡ Some r → rule_word r ≡ word
rule_is word r e = first (nat_eq word naive_word) refl e where
  same : (a b : ℕ) → nat_eq a b ≡ true → a ≡ b
  same a b h = grind (arith, nat_tests, h)

  same_rule : (a b : Rule) → Some a ≡ Some b → a ≡ b
  same_rule a b h = cc

  third : (b : Bool) → nat_eq word split_word ≡ b → (if b then Some Halve else None) ≡ Some r → rule_word r ≡ word
  third true f h = ap rule_word (sym (same_rule Halve r h)) ∙ sym (same word split_word f)
  third false f h = absurd (cc)

  second : (b : Bool) → nat_eq word ff_word ≡ b → (if b then Some FirstFail else (if nat_eq word split_word then Some Halve else None)) ≡ Some r → rule_word r ≡ word
  second true f h = ap rule_word (sym (same_rule FirstFail r h)) ∙ sym (same word ff_word f)
  second false f h = third (nat_eq word split_word) refl h

  first : (b : Bool) → nat_eq word naive_word ≡ b → (if b then Some Naive else (if nat_eq word ff_word then Some FirstFail else (if nat_eq word split_word then Some Halve else None))) ≡ Some r → rule_word r ≡ word
  first true f h = ap rule_word (sym (same_rule Naive r h)) ∙ sym (same word naive_word f)
  first false f h = second (nat_eq word ff_word) refl h

-- a call of three parts
abbrev call_of_three : ℕ → Option Identifier → Option Identifier → Option Identifier → (Identifier → ℕ → Made) → (Identifier → ℕ → Made) → (Identifier → ℕ → Made) → Made
call_of_three n u v w first second third =
    let x = name_or n u in
    let m = next_after n u in
    let y = name_or m v in
    let l = next_after m v in
    let z = name_or l w in
    within (x ∷ y ∷ z ∷ [])
    (and_then (and_then (part_made u (λ i. first x i) (next_after l w)) (λ i. and_then (part_made v (λ j. second y j) i) (λ j. and_then (part_made w (λ k. third z k) j) (λ k. made none k))))
    (λ i. made (called (x ∷ y ∷ z ∷ [])) i))

module _ (words : List (List ℕ)) (root : ℕ) (vs : List ℕ) (n at : ℕ) (f r u : Phrase) (fd : is_of_fd distribute_word f ≡ true) (rule : Rule) (ruled : atom_of r ≡ Some (rule_word rule)) where
  abbrev P : Identifier → ℕ → Made
  P x i = translated words (value x) i f

  abbrev R : Identifier → ℕ → Made
  R x i = translated words (value x) i r

  abbrev U : Identifier → ℕ → Made
  U x i = translated words (value x) i u

  abbrev the_last_call : Phrase
  the_last_call = call at (more f (more r (more u nothing)))

  abbrev names_rule : Stmt
  names_rule = kernel.bind (Fresh (suc n)) (constant.Literal (Atom (rule_word rule)))

  distribute_whole : variable_of u ≡ Some (Word root) → DistributionCode root vs (record { rule = rule; over = places vs }) (translated words statement n the_last_call).code
  distribute_whole v =
      let p = fd_code words distribute_word f fd in
      let a = atom_code words r (rule_word rule) ruled in
      let c = p.code (Fresh n) (suc (suc n)) (fresh_older n (suc (suc n)) (omega arith)) in
      let the_last = just (kernel.call (Fresh n) (Fresh (suc n) ∷ Word root ∷ [])) in
      let names = Fresh n ∷ Fresh (suc n) ∷ Word root ∷ [] in
      let code : (translated words statement n the_last_call).code ≡ just (kernel.local (Fresh n ∷ Fresh (suc n) ∷ []) ((c.0 ⨾ just names_rule) ⨾ the_last)) =
      (λ i. (call_of_three n (p.other i) (a.other i) (v i) P R U).code)
      ∙ ap (λ (m : Made). (within names (and_then (and_then m (λ i. and_then (R (Fresh (suc n)) i) (λ j. made none j))) (λ i. made the_last i))).code) c.2
      ∙ ap (λ (m : Made). (within names (and_then (and_then (made c.0 (suc (suc (suc n)))) (λ i. and_then m (λ j. made none j))) (λ i. made the_last i))).code) (a.code (Fresh (suc n)) (suc (suc (suc n)))) in
      subst (DistributionCode root vs (record { rule = rule; over = places vs })) (sym (code ∙ ap (λ b. just (kernel.local (Fresh n ∷ Fresh (suc n) ∷ []) b)) (behind_behind c.0 (just names_rule) the_last)))
      (distributes n (suc n) (suc (suc n)) (fresh_apart n (suc n) (omega arith)) (fresh_apart n (suc (suc n)) (omega arith)) (fresh_apart (suc n) (suc (suc n)) (omega arith)) c.1 whole)

  distribute_listed : (ys : List ℕ) → variable_of u ≡ None → ((x : Identifier) (m : ℕ) → ((i : ℕ) → m ≤ i → x ≢ Fresh i) → ListCode vs x ys (U x m).code)
      → DistributionCode root vs (record { rule = rule; over = ys }) (translated words statement n the_last_call).code
  distribute_listed ys v list =
      let p = fd_code words distribute_word f fd in
      let a = atom_code words r (rule_word rule) ruled in
      let l = suc (suc n) in
      let c = p.code (Fresh n) (suc l) (fresh_older n (suc l) (omega arith)) in
      let make = (U (Fresh l) (suc (suc l))).code in
      let the_last = just (kernel.call (Fresh n) (Fresh (suc n) ∷ Fresh l ∷ [])) in
      let names = Fresh n ∷ Fresh (suc n) ∷ Fresh l ∷ [] in
      let code : (translated words statement n the_last_call).code ≡ just (kernel.local names ((c.0 ⨾ followed names_rule (make ⨾ none)) ⨾ the_last)) =
      (λ i. (call_of_three n (p.other i) (a.other i) (v i) P R U).code)
      ∙ ap (λ (m : Made). (within names (and_then (and_then m (λ i. and_then (R (Fresh (suc n)) i) (λ j. and_then (U (Fresh l) j) (λ k. made none k)))) (λ i. made the_last i))).code) c.2
      ∙ ap (λ (m : Made). (within names (and_then (and_then (made c.0 (suc (suc l))) (λ i. and_then m (λ j. and_then (U (Fresh l) j) (λ k. made none k)))) (λ i. made the_last i))).code) (a.code (Fresh (suc n)) (suc (suc l))) in
      let tidy : (c.0 ⨾ followed names_rule (make ⨾ none)) ⨾ the_last ≡ c.0 ⨾ (just names_rule ⨾ (make ⨾ the_last)) = ap (λ b. (c.0 ⨾ followed names_rule b) ⨾ the_last) (nothing_behind make) ∙ behind_behind c.0 (followed names_rule make) the_last in
      subst (DistributionCode root vs (record { rule = rule; over = ys })) (sym (code ∙ ap (λ b. just (kernel.local names b)) tidy))
      (distributes n (suc n) l (fresh_apart n (suc n) (omega arith)) (fresh_apart n l (omega arith)) (fresh_apart (suc n) l (omega arith)) c.1 (listed (list (Fresh l) (suc (suc l)) (fresh_older l (suc (suc l)) (omega arith)))))

  distribute_code : (ys : List ℕ) → IsVector words root vs u ys → DistributionCode root vs (record { rule = rule; over = ys }) (translated words statement n the_last_call).code
  distribute_code _ (is_root v) = distribute_whole v
  distribute_code ys (is_list v list) = distribute_listed ys v list

last_code : (words : List (List ℕ)) (root : ℕ) (vs : List ℕ) (n : ℕ) (p : Phrase) (d : Distribution) → distribution_of root vs p ≡ Some d → DistributionCode root vs d (translated words statement n p).code
last_code words root vs n (call at (more f (more r (more u nothing)))) d e =
    let read = option_and_then rule_named (atom_of r) in
    let order = option_and_then (λ xs. only_if ((length xs == length vs) && list_all (contains xs) (places vs)) xs) (vector_of root vs u) in
    let t = if_some (is_of_fd distribute_word f) (option_map record_of (both read order)) d e in
    let m = map_some record_of (both read order) d t.1 in
    let o = both_some read order m.0 m.1 in
    let a = then_some rule_named (atom_of r) m.0.0 o.0 in
    let w = then_some (λ xs. only_if ((length xs == length vs) && list_all (contains xs) (places vs)) xs) (vector_of root vs u) m.0.1 o.1 in
    let same = only_some ((length w.0 == length vs) && list_all (contains w.0) (places vs)) w.0 m.0.1 w.2 in
    let vector = w.1 ∙ ap Some same.1 in
    subst (λ z. DistributionCode root vs z (translated words statement n (call at (more f (more r (more u nothing))))).code) m.2
    (distribute_code words root vs n at f r u t.0 m.0.0 (a.1 ∙ ap Some (sym (rule_is a.0 m.0.0 a.2))) m.0.1 (vector_code words root vs u m.0.1 vector)) where
      record_of : Rule × List ℕ → Distribution
      record_of q = record { rule = q.0; over = q.1 }
last_code words root vs n p d e = absurd (cc)

-- ---- all statements

pub scripts_coded : ScriptsCoded
scripts_coded words root vs n nothing is d e = absurd (cc)
scripts_coded words root vs n (more s nothing) is d e =
    let m = map_some (λ (z : Distribution). ([], z)) (distribution_of root vs s) (is, d) e in
    let none_stated : [] ≡ is = ap (λ (q : List Item × Distribution). q.0) m.2 in
    let same : m.0 ≡ d = ap (λ (q : List Item × Distribution). q.1) m.2 in
    subst (ScriptCode root vs is d) (sym (nothing_behind (translated words statement n s).code))
    (subst (λ z. ScriptCode root vs is z (translated words statement n s).code) same (subst (λ js. ScriptCode root vs js m.0 (translated words statement n s).code) none_stated (last (last_code words root vs n s m.0 m.1))))
scripts_coded words root vs n (more s (more t ss)) is d e =
    let m = map_some (λ (q : List Item × (List Item × Distribution)). (q.0 ++ q.1.0, q.1.1)) (both (items_of root vs s) (stated root vs (more t ss))) (is, d) e in
    let o = both_some (items_of root vs s) (stated root vs (more t ss)) m.0 m.1 in
    let all : m.0.0 ++ m.0.1.0 ≡ is = ap (λ (q : List Item × Distribution). q.0) m.2 in
    let same : m.0.1.1 ≡ d = ap (λ (q : List Item × Distribution). q.1) m.2 in
    let first = item_code words root vs n s m.0.0 o.0 in
    let rest = scripts_coded words root vs (translated words statement n s).next (more t ss) m.0.1.0 m.0.1.1 o.1 in
    subst (λ z. ScriptCode root vs is z (translated_each words n (more s (more t ss))).code) same
    (subst (λ js. ScriptCode root vs js m.0.1.1 (translated_each words n (more s (more t ss))).code) all (next first rest))

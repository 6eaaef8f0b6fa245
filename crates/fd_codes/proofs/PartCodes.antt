-- The code of the parts of statements: bounds, lists, vectors and procedures of `FD`.
use Rattle.std.proofs.Common.{◌≡◌, ◌≢◌, ℕ, suc, ◌<◌, ◌≤◌, nat_eq, ℤ, pos, true, List, [], ◌∷◌, length, map, position, Option, Some, None, slice_index_or, refl, sym, ◌∙◌, ap, subst, arith}
use Rattle.std.proofs.lemmas.Bool.Decides.{nat_tests}
use Rattle.std.proofs.lemmas.List.Quantifiers.{position-Some}
use Rattle.std.specs.List.{zip}
use Rattle.oz_base.specs.Lists.{holds_of}
use Rattle.oz_language.specs.Wording.{hash_word}
use Rattle.oz_language.specs.declared.token.Literal.TheVariants.{Atom}
use Rattle.oz_language.specs.declared.kernel.Identifier.{Identifier}
use Rattle.oz_language.specs.declared.kernel.Identifier.TheVariants.{Word, Fresh}
use Rattle.oz_language.specs.declared.kernel.Constant.{Constant}
use Rattle.oz_language.specs.declared.kernel.Constant.TheVariants as constant
use Rattle.oz_language.specs.declared.kernel.Operation.TheVariants as operation
use Rattle.oz_language.specs.Grammar.{Phrase, Phrases, nothing, more, var, int, literal, list, paren, hashes, select}
use Rattle.oz_language.specs.Arities.{in_arity_order}
use Rattle.oz_language.specs.Refusals.{features}
use Rattle.oz_language.specs.Kernels.{Stmt, Stmts, none, followed, just, ◌⨾◌}
use Rattle.oz_language.specs.Kernels as kernel
use Rattle.oz_language.specs.Translation.{Made, made, and_then, value, variable_of, name_or, next_after, within, part_made, preceded, keys_of, record_or_label, nil_constant, cell_made, selected, list_made, translated}
use Rattle.fd_form.specs.Parts.{fd_word, name_of, integer_of, atom_of, is_named, both, each, place_of, places, only_if, vector_of, bound_of, bounds_of}
use Rattle.fd_form.specs.FdScripts.{is_of_fd}
use Rattle.fd_domain.proofs.SetLaws.{and_left, and_right}
use Rattle.oz_domains.specs.Domains.{is_domain_value}
use Rattle.fd_form_law.specs.Posts.{identifier}
use Rattle.fd_form_law.proofs.FormLaws.{map_some, then_some, both_some, only_some}
use Rattle.fd_form_law.proofs.PostLaws.{name_variable}
use Rattle.fd_codes.specs.Codes.{AreBounds, BoundsCode, one, two, ListCode, ends, cell, FdCode, selects}

-- ---- blocks

pub nothing_behind : (a : Stmts) → a ⨾ none ≡ a
nothing_behind none = refl
nothing_behind (followed s a) = ap (followed s) (nothing_behind a)

pub behind_behind : (a b c : Stmts) → (a ⨾ b) ⨾ c ≡ a ⨾ (b ⨾ c)
behind_behind none b c = refl
behind_behind (followed s a) b c = ap (followed s) (behind_behind a b c)

-- ---- names

-- a variable of the problem
pub record IsPlace (vs : List ℕ) (p : Phrase) (x : ℕ) : Type 0 where
  pub variable : variable_of p ≡ Some (identifier vs x)
  pub below : x < length vs

pub is_place : (vs : List ℕ) (p : Phrase) (x : ℕ) → place_of vs p ≡ Some x → IsPlace vs p x
is_place vs p x e =
    let r = then_some (λ name. position (nat_eq name) vs) (name_of p) x e in
    let at = position-Some (nat_eq r.0) vs x 0 r.2 in
    let same : r.0 ≡ slice_index_or vs x 0 = (let t = at.1 in grind (arith, nat_tests, t)) in
    record { variable = subst (λ z. variable_of p ≡ Some (Word z)) same (name_variable p r.0 r.1); below = at.0 }

-- a name
pub named_variable : (name : ℕ) (p : Phrase) → is_named name p ≡ true → variable_of p ≡ Some (Word name)
named_variable name p h = by (name_of p) refl h where
  by : (o : Option ℕ) → name_of p ≡ o → holds_of (nat_eq name) o ≡ true → variable_of p ≡ Some (Word name)
  by None e g = absurd (cc)
  by (Some x) e g = (let same : x ≡ name = grind (arith, nat_tests, g) in subst (λ z. variable_of p ≡ Some (Word z)) same (name_variable p x e))

-- ---- integers and atoms

-- its value is one constant, and it is no variable
pub record IsConstant (words : List (List ℕ)) (p : Phrase) (c : Constant) : Type 0 where
  pub other : variable_of p ≡ None
  pub code : (x : Identifier) (n : ℕ) → translated words (value x) n p ≡ made (just (kernel.bind x c)) n

number_same : (i j : ℤ) → Some i ≡ Some j → i ≡ j
number_same i j e = cc

word_same : (a b : ℕ) → Some a ≡ Some b → a ≡ b
word_same a b e = cc

pub integer_code : (words : List (List ℕ)) (p : Phrase) (i : ℤ) → integer_of p ≡ Some i → IsConstant words p (constant.Int i)
integer_code words (int j at) i e = subst (λ z. IsConstant words (int j at) (constant.Int z)) (number_same j i e) (record { other = refl; code = λ x n. refl })
integer_code words (paren at (more p nothing)) i e = (let r = integer_code words p i e in record { other = r.other; code = r.code })
integer_code words p i e = absurd (cc)

pub atom_code : (words : List (List ℕ)) (p : Phrase) (a : ℕ) → atom_of p ≡ Some a → IsConstant words p (constant.Literal (Atom a))
atom_code words (literal (Atom b) at) a e = subst (λ z. IsConstant words (literal (Atom b) at) (constant.Literal (Atom z))) (word_same b a e) (record { other = refl; code = λ x n. refl })
atom_code words (paren at (more p nothing)) a e = (let r = atom_code words p a e in record { other = r.other; code = r.code })
atom_code words p a e = absurd (cc)

-- ---- fresh identifiers

same_fresh : (a b : ℕ) → Fresh a ≡ Fresh b → a ≡ b
same_fresh a b e = cc

-- none of those from number n on
abbrev pub IsOlder : Identifier → ℕ → Type 0
IsOlder x n = (m : ℕ) → n ≤ m → x ≢ Fresh m

pub fresh_older : (k n : ℕ) → k < n → IsOlder (Fresh k) n
fresh_older k n l m g e = (let f = same_fresh k m e in omega (arith, l, g, f))

pub fresh_apart : (k n : ℕ) → k < n → k ≢ n
fresh_apart k n l e = omega (arith, l, e)

-- ---- bounds

abbrev keys_from : ℕ → Phrases → List Constant
keys_from n ps = map (λ (f : Constant × ℕ). f.0) (features n ps)

-- an integer has the next number as its feature
integer_key : (n : ℕ) (p : Phrase) (ps : Phrases) (i : ℤ) → integer_of p ≡ Some i → keys_from n (more p ps) ≡ constant.Int (pos n) ∷ keys_from (suc n) ps
integer_key n (int j at) ps i e = refl
integer_key n (paren at qs) ps i e = refl
integer_key n p ps i e = absurd (cc)

-- a pair, by what its parts are, their features, and how their values are made
abbrev hash_by : List (List ℕ) → Identifier → ℕ → Option Identifier → Option Identifier → List Constant → (Identifier → ℕ → Made) → (Identifier → ℕ → Made) → Made
hash_by words x n v w ks first second =
    let y = name_or n v in
    let m = next_after n v in
    let z = name_or m w in
    within (y ∷ z ∷ []) (preceded (record_or_label x (Atom hash_word) (in_arity_order words (zip ks (y ∷ z ∷ []))))
    (and_then (part_made v (λ i. first y i) (next_after m w)) (λ i. and_then (part_made w (λ j. second z j) i) (λ j. made none j))))

abbrev pair_body : Identifier → ℤ → ℤ → ℕ → Stmts
pair_body x low high n =
    followed (kernel.bind_record x (Atom hash_word) (constant.Int (pos 1) ∷ constant.Int (pos 2) ∷ []) (Fresh n ∷ Fresh (suc n) ∷ []))
    (followed (kernel.bind (Fresh n) (constant.Int low)) (just (kernel.bind (Fresh (suc n)) (constant.Int high))))

module _ (words : List (List ℕ)) (a b : Phrase) (low high : ℤ) (p : integer_of a ≡ Some low) (q : integer_of b ≡ Some high) where
  keys_are : keys_of (more a (more b nothing)) ≡ constant.Int (pos 1) ∷ constant.Int (pos 2) ∷ []
  keys_are = integer_key 1 a (more b nothing) low p ∙ ap (λ ks. constant.Int (pos 1) ∷ ks) (integer_key 2 b nothing high q)

  pair_code : (x : Identifier) (n : ℕ) → translated words (value x) n (hashes (more a (more b nothing))) ≡ made (just (kernel.local (Fresh n ∷ Fresh (suc n) ∷ []) (pair_body x low high n))) (suc (suc n))
  pair_code x n =
      let first = integer_code words a low p in
      let second = integer_code words b high q in
      let A = λ (y : Identifier) (i : ℕ). translated words (value y) i a in
      let B = λ (y : Identifier) (i : ℕ). translated words (value y) i b in
      (λ i. hash_by words x n (first.other i) (second.other i) (keys_are i) A B)
      ∙ (λ i. hash_by words x n None None (constant.Int (pos 1) ∷ constant.Int (pos 2) ∷ []) (λ y j. first.code y j i) (λ y j. second.code y j i))

-- the bounds of a domain
pub record IsDomain (words : List (List ℕ)) (p : Phrase) (low high : ℤ) : Type 0 where
  pub other : variable_of p ≡ None
  pub bounds : AreBounds low high
  pub code : (x : Identifier) (n : ℕ) → IsOlder x n → BoundsCode x low high (translated words (value x) n p).code

bound_is : (p : Phrase) (i : ℤ) → bound_of p ≡ Some i → (integer_of p ≡ Some i) × (is_domain_value i ≡ true)
bound_is p i e =
    let r = then_some (λ j. only_if (is_domain_value j) j) (integer_of p) i e in
    let o = only_some (is_domain_value r.0) r.0 i r.2 in
    (r.1 ∙ ap Some o.1, ap is_domain_value (sym o.1) ∙ o.0)

pub domain_code : (words : List (List ℕ)) (p : Phrase) (low high : ℤ) → bounds_of p ≡ Some (low, high) → IsDomain words p low high
domain_code words (int i at) low high e =
    let o = only_some (is_domain_value i) (i, i) (low, high) e in
    let is_low : i ≡ low = ap (λ (r : ℤ × ℤ). r.0) o.1 in
    let is_high : i ≡ high = ap (λ (r : ℤ × ℤ). r.1) o.1 in
    record {
      other = refl;
      bounds = record { low_fits = ap is_domain_value (sym is_low) ∙ o.0; high_fits = ap is_domain_value (sym is_high) ∙ o.0 };
      code = λ x n older. subst (λ j. BoundsCode x low j (just (kernel.bind x (constant.Int i)))) is_high (subst (λ j. BoundsCode x j i (just (kernel.bind x (constant.Int i)))) is_low one);
    }
domain_code words (hashes (more a (more b nothing))) low high e =
    let o = both_some (bound_of a) (bound_of b) (low, high) e in
    let first = bound_is a low o.0 in
    let second = bound_is b high o.1 in
    record {
      other = refl;
      bounds = record { low_fits = first.1; high_fits = second.1 };
      code = λ x n older. subst (λ (m : Made). BoundsCode x low high m.code) (sym (pair_code words a b low high first.0 second.0 x n)) (two n (suc n) (fresh_apart n (suc n) (omega arith)) (older n (omega arith)) (older (suc n) (omega arith)));
    }
domain_code words (paren at (more p nothing)) low high e = (let r = domain_code words p low high e in record { other = r.other; bounds = r.bounds; code = r.code })
domain_code words p low high e = absurd (cc)

-- ---- lists and vectors

pub list_code : (words : List (List ℕ)) (vs : List ℕ) (es : Phrases) (ys : List ℕ) (x : Identifier) (n : ℕ) → each (place_of vs) es ≡ Some ys → IsOlder x n → ListCode vs x ys (list_made words x es n).code
list_code words vs nothing ys x n e older = (let f : Some [] ≡ Some ys = e in let g : [] ≡ ys = cc in subst (λ zs. ListCode vs x zs (just (kernel.bind x nil_constant))) g ends)
list_code words vs (more p es) ys x n e older =
    let r = map_some (λ (a : ℕ × List ℕ). a.0 ∷ a.1) (both (place_of vs p) (each (place_of vs) es)) ys e in
    let o = both_some (place_of vs p) (each (place_of vs) es) r.0 r.1 in
    let place = is_place vs p r.0.0 o.0 in
    let rest = list_code words vs es r.0.1 (Fresh n) (suc n) o.1 (fresh_older n (suc n) (omega arith)) in
    let make = λ (y : Identifier) (i : ℕ). translated words (value y) i p in
    let tail = λ (z : Identifier) (i : ℕ). list_made words z es i in
    subst (λ zs. ListCode vs x zs (list_made words x (more p es) n).code) r.2
    (subst (λ (m : Made). ListCode vs x (r.0.0 ∷ r.0.1) m.code) (λ i. cell_made n x (sym place.variable i) None make tail) (cell n place.below (older n (omega arith)) rest))

-- a vector is the root, or a list
pub data IsVector (words : List (List ℕ)) (root : ℕ) (vs : List ℕ) (p : Phrase) : List ℕ → Type 0 where
  is_root : variable_of p ≡ Some (Word root) → IsVector words root vs p (places vs)
  is_list : {ys : List ℕ} → variable_of p ≡ None → ((x : Identifier) (n : ℕ) → IsOlder x n → ListCode vs x ys (translated words (value x) n p).code) → IsVector words root vs p ys

same_name : (a b : ℕ) → nat_eq a b ≡ true → a ≡ b
same_name a b e = grind (arith, nat_tests, e)

in_parens : (words : List (List ℕ)) (root : ℕ) (vs : List ℕ) (p : Phrase) (at : ℕ) (ys : List ℕ) → IsVector words root vs p ys → IsVector words root vs (paren at (more p nothing)) ys
in_parens words root vs p at _ (is_root e) = is_root e
in_parens words root vs p at _ (is_list e h) = is_list e h

pub vector_code : (words : List (List ℕ)) (root : ℕ) (vs : List ℕ) (p : Phrase) (ys : List ℕ) → vector_of root vs p ≡ Some ys → IsVector words root vs p ys
vector_code words root vs (var name at) ys e =
    let o = only_some (nat_eq root name) (places vs) ys e in
    subst (IsVector words root vs (var name at)) o.1 (is_root (ap (λ a. Some (Word a)) (sym (same_name root name o.0))))
vector_code words root vs (list at es) ys e = is_list refl (λ x n older. list_code words vs es ys x n e older)
vector_code words root vs (paren at (more p nothing)) ys e = in_parens words root vs p at ys (vector_code words root vs p ys e)
vector_code words root vs p ys e = absurd (cc)

-- ---- procedures of `FD`

pub record IsFd (words : List (List ℕ)) (p : Phrase) (word : ℕ) : Type 0 where
  pub other : variable_of p ≡ None
  pub code : (x : Identifier) (n : ℕ) → IsOlder x n → (c : Stmts) × FdCode x word c × (translated words (value x) n p ≡ made c (suc n))

is_atom : (word : ℕ) (p : Phrase) → holds_of (nat_eq word) (atom_of p) ≡ true → atom_of p ≡ Some word
is_atom word p h = by (atom_of p) h where
  by : (o : Option ℕ) → holds_of (nat_eq word) o ≡ true → o ≡ Some word
  by None g = absurd (cc)
  by (Some a) g = ap Some (sym (same_name word a g))

pub fd_code : (words : List (List ℕ)) (word : ℕ) (p : Phrase) → is_of_fd word p ≡ true → IsFd words p word
fd_code words word (select e f) h =
    let fd = named_variable fd_word e (and_left (is_named fd_word e) (holds_of (nat_eq word) (atom_of f)) h) in
    let feature = atom_code words f word (is_atom word f (and_right (is_named fd_word e) (holds_of (nat_eq word) (atom_of f)) h)) in
    let E = λ (y : Identifier) (i : ℕ). translated words (value y) i e in
    let F = λ (y : Identifier) (i : ℕ). translated words (value y) i f in
    record {
      other = refl;
      code = λ x n older. (
        just (kernel.local (Fresh n ∷ []) (followed (kernel.bind (Fresh n) (constant.Literal (Atom word))) (just (kernel.operate operation.Select (Word fd_word ∷ Fresh n ∷ x ∷ []))))),
        selects n (older n (omega arith)),
        (λ i. selected n x (fd i) (feature.other i) E F)
            ∙ (λ i. selected n x (Some (Word fd_word)) None E (λ y j. feature.code y j i)),
      );
    }
fd_code words word (paren at (more p nothing)) h = (let r = fd_code words word p h in record { other = r.other; code = r.code })
fd_code words word p h = absurd (cc)

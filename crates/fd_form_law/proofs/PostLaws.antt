-- What the translation of a relation posts.
use Rattle.std.proofs.Common.{◌≡◌, ℕ, suc, ◌+◌, ◌-◌, ℤ, pos, ◌+ℤ◌, nat_eq, Bool, true, false, not, if◌then◌else◌, List, [], ◌∷◌, ◌++◌, position, Option, Some, option_map, refl, sym, ◌∙◌, ap, subst, arith, slice_index_or}
use Rattle.std.proofs.lemmas.Bool.Decides.{nat_tests}
use Rattle.std.proofs.lemmas.List.Quantifiers.{position-Some}
use Rattle.oz_language.specs.declared.kernel.Identifier.TheVariants.{Word, Fresh}
use Rattle.oz_language.specs.declared.kernel.LinearTerm.{LinearTerm}
use Rattle.oz_language.specs.declared.kernel.Sign.{Sign}
use Rattle.oz_language.specs.declared.kernel.Sign.TheVariants.{Zero, NotZero, Negative, NotPositive}
use Rattle.oz_language.specs.declared.token.Operator.TheVariants as operator
use Rattle.oz_language.specs.declared.token.Comparison.{Comparison}
use Rattle.oz_language.specs.declared.token.Comparison.TheVariants as comparison
use Rattle.oz_language.specs.Grammar.{Phrase, nothing, more, var, int, paren, binary, select, relate}
use Rattle.oz_language.specs.Kernels.{Stmt, Stmts, none, followed, just, ◌⨾◌}
use Rattle.oz_language.specs.Kernels as kernel
use Rattle.oz_language.specs.Translation.{Made, made, variable_of, name_or, behind_factor, behind_side, terms_of, constant_of, products_of, references, fresh_names, translated, statement, within, and_then, posted}
use Rattle.fd_problems.specs.declared.problem.Term.{Term}
use Rattle.fd_problems.specs.declared.problem.Term.TheVariants.{Multiple, Product}
use Rattle.fd_problems.specs.declared.problem.Item.TheVariants.{Compares}
use Rattle.fd_form.specs.declared.sums.Sum.{Sum}
use Rattle.fd_form.specs.Sums.{sum, added, multiple, term_of, side_of, difference, compared}
use Rattle.oz_language.specs.Translation.{signed}
use Rattle.fd_form.specs.Parts.{both, place_of, name_of}
use Rattle.fd_trees.specs.Scripts.{product_count}
use Rattle.fd_form_law.specs.Posts.{identifier, linear_term, posted_terms, posted_products, is_exchanged, IsPosted, RelationsPosted}
use Rattle.fd_form_law.proofs.FormLaws.{map_some, then_some, both_some}

-- ---- lists

pub count_joined : (ms ns : List Term) → product_count (ms ++ ns) ≡ product_count ms + product_count ns
count_joined [] ns = sym (omega arith)
count_joined (Multiple a x ∷ ms) ns = count_joined ms ns
count_joined (Product a x y ∷ ms) ns = (let e = count_joined ms ns in omega arith)

terms_joined : (vs : List ℕ) (n : ℕ) (ms ns : List Term) → posted_terms vs n (ms ++ ns) ≡ posted_terms vs n ms ++ posted_terms vs (n + product_count ms) ns
terms_joined vs n [] ns = (let e : n ≡ n + 0 = omega arith in ap (λ z. posted_terms vs z ns) e)
terms_joined vs n (Multiple a x ∷ ms) ns = ap (λ z. linear_term a (identifier vs x) ∷ z) (terms_joined vs n ms ns)
terms_joined vs n (Product a x y ∷ ms) ns =
    let e : suc n + product_count ms ≡ n + suc (product_count ms) = omega arith in
    ap (λ z. linear_term a (Fresh n) ∷ z) (terms_joined vs (suc n) ms ns ∙ ap (λ z. posted_terms vs (suc n) ms ++ posted_terms vs z ns) e)

after_after : (a b c : Stmts) → (a ⨾ b) ⨾ c ≡ a ⨾ (b ⨾ c)
after_after none b c = refl
after_after (followed s a) b c = ap (followed s) (after_after a b c)

products_joined : (vs : List ℕ) (n : ℕ) (ms ns : List Term) → posted_products vs n (ms ++ ns) ≡ posted_products vs n ms ⨾ posted_products vs (n + product_count ms) ns
products_joined vs n [] ns = (let e : n ≡ n + 0 = omega arith in ap (λ z. posted_products vs z ns) e)
products_joined vs n (Multiple a x ∷ ms) ns = products_joined vs n ms ns
products_joined vs n (Product a x y ∷ ms) ns =
    let e : suc n + product_count ms ≡ n + suc (product_count ms) = omega arith in
    ap (λ z. just (kernel.post_times (identifier vs x) (identifier vs y) (Fresh n)) ⨾ z) (products_joined vs (suc n) ms ns ∙ ap (λ z. posted_products vs (suc n) ms ⨾ posted_products vs z ns) e)

-- ---- variables

pub name_variable : (p : Phrase) (name : ℕ) → name_of p ≡ Some name → variable_of p ≡ Some (Word name)
name_variable (var x at) name e = (let f : Some x ≡ Some name = e in let g : x ≡ name = cc in ap (λ z. Some (Word z)) g)
name_variable (paren at (more p nothing)) name e = name_variable p name e
name_variable p name e = absurd (cc)

name_factor : (p : Phrase) (name n : ℕ) → name_of p ≡ Some name → behind_factor n p ≡ n
name_factor (select p q) name n e = absurd (cc)
name_factor p name n e = refl

name_references : (words : List (List ℕ)) (m i : ℕ) (p : Phrase) (name : ℕ) → name_of p ≡ Some name → references words m p i ≡ made none i
name_references words m i (var x at) name e = refl
name_references words m i (paren at ps) name e = refl
name_references words m i p name e = absurd (cc)

record IsVariable (words : List (List ℕ)) (vs : List ℕ) (p : Phrase) (x : ℕ) : Type 0 where
  variable : variable_of p ≡ Some (identifier vs x)
  factor : (n : ℕ) → behind_factor n p ≡ n
  references : (m i : ℕ) → references words m p i ≡ made none i

is_variable : (words : List (List ℕ)) (vs : List ℕ) (p : Phrase) (x : ℕ) → place_of vs p ≡ Some x → IsVariable words vs p x
is_variable words vs p x e =
    let r = then_some (λ name. position (nat_eq name) vs) (name_of p) x e in
    let at = (position-Some (nat_eq r.0) vs x 0 r.2).1 in
    let same : r.0 ≡ slice_index_or vs x 0 = grind (arith, nat_tests, at) in
    record {
      variable = subst (λ z. variable_of p ≡ Some (Word z)) same (name_variable p r.0 r.1);
      factor = λ n. name_factor p r.0 n r.1;
      references = λ m i. name_references words m i p r.0 r.1;
    }

-- ---- sides

-- terms, a constant, statements and a next number are those of a sum with identifiers from n on, and no reference needs a statement
record AreMade (vs : List ℕ) (n : ℕ) (k : Sum) (ts : List LinearTerm) (c : ℤ) (ps : Stmts) (l : ℕ) (refs : ℕ → ℕ → Made) : Type 0 where
  terms : ts ≡ posted_terms vs n k.terms
  constant : c ≡ k.constant
  products : ps ≡ posted_products vs n k.terms
  behind : l ≡ n + product_count k.terms
  references : (m i : ℕ) → refs m i ≡ made none i

module _ (words : List (List ℕ)) (vs : List ℕ) where
  abbrev IsPart : Bool → ℕ → Phrase → Sum → Type 0
  IsPart s n p k = AreMade vs n k (terms_of s n p) (constant_of s p) (products_of n p) (behind_side n p) (λ m i. references words m p i)

  number_part : (s : Bool) (n : ℕ) (i : ℤ) (at : ℕ) (k : Sum) → Some (sum (signed s i) []) ≡ Some k → IsPart s n (int i at) k
  number_part s n i at k e =
      let f : sum (signed s i) [] ≡ k = cc in
      subst (IsPart s n (int i at)) f (record { terms = refl; constant = refl; products = refl; behind = omega arith; references = λ m j. refl })

  abbrev term_at : Bool → ℤ → ℕ → Phrase → LinearTerm
  term_at s i n q = linear_term (signed s i) (name_or n (variable_of q))

  multiple_part : (s : Bool) (n : ℕ) (i : ℤ) (p q : Phrase) (k : Sum) → multiple s i (place_of vs q) ≡ Some k
      → terms_of s n p ≡ term_at s i n q ∷ [] → constant_of s p ≡ pos 0 → products_of n p ≡ none → behind_side n p ≡ behind_factor n q
      → (((m j : ℕ) → references words m q j ≡ made none j) → (m j : ℕ) → references words m p j ≡ made none j) → IsPart s n p k
  multiple_part s n i p q k e ts c ps l refs =
      let r = map_some (λ y. sum (pos 0) (Multiple (signed s i) y ∷ [])) (place_of vs q) k e in
      let v = is_variable words vs q r.0 r.1 in
      subst (IsPart s n p) r.2 (record {
        terms = ts ∙ ap (λ z. linear_term (signed s i) (name_or n z) ∷ []) v.variable;
        constant = c;
        products = ps;
        behind = l ∙ v.factor n ∙ omega arith;
        references = refs v.references;
      })

  product_part : (s : Bool) (n : ℕ) (p a b : Phrase) (k : Sum) → option_map (λ (p : ℕ × ℕ). sum (pos 0) (Product (signed s (pos 1)) p.0 p.1 ∷ [])) (both (place_of vs a) (place_of vs b)) ≡ Some k
      → terms_of s n p ≡ linear_term (signed s (pos 1)) (Fresh (behind_factor (behind_factor n a) b)) ∷ [] → constant_of s p ≡ pos 0
      → products_of n p ≡ just (kernel.post_times (name_or n (variable_of a)) (name_or (behind_factor n a) (variable_of b)) (Fresh (behind_factor (behind_factor n a) b)))
      → behind_side n p ≡ suc (behind_factor (behind_factor n a) b)
      → ((m j : ℕ) → references words m p j ≡ and_then (references words m a j) (λ i. references words (behind_factor m a) b i)) → IsPart s n p k
  product_part s n p a b k e ts c ps l refs =
      let r = map_some (λ (p : ℕ × ℕ). sum (pos 0) (Product (signed s (pos 1)) p.0 p.1 ∷ [])) (both (place_of vs a) (place_of vs b)) k e in
      let o = both_some (place_of vs a) (place_of vs b) r.0 r.1 in
      let v = is_variable words vs a r.0.0 o.0 in
      let w = is_variable words vs b r.0.1 o.1 in
      let f : behind_factor (behind_factor n a) b ≡ n = ap (λ z. behind_factor z b) (v.factor n) ∙ w.factor n in
      subst (IsPart s n p) r.2 (record {
        terms = ts ∙ ap (λ z. linear_term (signed s (pos 1)) (Fresh z) ∷ []) f;
        constant = c;
        products = ps ∙ (λ i. just (kernel.post_times (name_or n (v.variable i)) (name_or (v.factor n i) (w.variable i)) (Fresh (f i))));
        behind = l ∙ ap suc f ∙ omega arith;
        references = λ m j. refs m j ∙ ap (λ z. and_then z (λ i. references words (behind_factor m a) b i)) (v.references m j) ∙ ap (λ (z : Made). made z.code z.next) (w.references (behind_factor m a) j);
      })

  term_part : (s : Bool) (n : ℕ) (p : Phrase) (k : Sum) → term_of vs s p ≡ Some k → IsPart s n p k
  term_part s n (int i at) k e = number_part s n i at k e
  term_part s n (binary operator.Times (int i at) b) k e =
      multiple_part s n i (binary operator.Times (int i at) b) b k e refl refl refl refl (λ h m j. ap (λ (z : Made). made z.code z.next) (h m j))
  term_part s n (binary operator.Times a (int i at)) k e =
      multiple_part s n i (binary operator.Times a (int i at)) a k e refl refl refl refl (λ h m j. ap (λ z. and_then z (λ i. made none i)) (h m j))
  term_part s n (binary operator.Times a b) k e = product_part s n (binary operator.Times a b) a b k e refl refl refl refl (λ m j. refl)
  term_part s n (var name at) k e = multiple_part s n (pos 1) (var name at) (var name at) k e refl refl refl refl (λ h. h)
  term_part s n (paren at ps) k e = multiple_part s n (pos 1) (paren at ps) (paren at ps) k e refl refl refl refl (λ h. h)
  term_part s n p k e = absurd (cc)

  abbrev IsJoined : Bool → Bool → ℕ → Phrase → Phrase → Sum → Type 0
  IsJoined s t n a b k =
      AreMade vs n k (terms_of s n a ++ terms_of t (behind_side n a) b) (constant_of s a +ℤ constant_of t b) (products_of n a ⨾ products_of (behind_side n a) b) (behind_side (behind_side n a) b)
      (λ m j. and_then (references words m a j) (λ i. references words (behind_side m a) b i))

  joined_part : (s t : Bool) (n : ℕ) (a b : Phrase) (k : Sum) → ((j : Sum) → side_of vs s a ≡ Some j → IsPart s n a j) → option_map added (both (side_of vs s a) (term_of vs t b)) ≡ Some k → IsJoined s t n a b k
  joined_part s t n a b k h e =
      let r = map_some added (both (side_of vs s a) (term_of vs t b)) k e in
      let o = both_some (side_of vs s a) (term_of vs t b) r.0 r.1 in
      let ms = r.0.0.terms in
      let ns = r.0.1.terms in
      let x = h r.0.0 o.0 in
      let y = term_part t (n + product_count ms) b r.0.1 o.1 in
      let c = count_joined ms ns in
      let more : n + product_count ms + product_count ns ≡ n + product_count (ms ++ ns) = omega (arith, c) in
      subst (IsJoined s t n a b) r.2 (record {
        terms = (λ i. x.terms i ++ terms_of t (x.behind i) b) ∙ ap (λ z. posted_terms vs n ms ++ z) y.terms ∙ sym (terms_joined vs n ms ns);
        constant = λ i. x.constant i +ℤ y.constant i;
        products = (λ i. x.products i ⨾ products_of (x.behind i) b) ∙ ap (λ z. posted_products vs n ms ⨾ z) y.products ∙ sym (products_joined vs n ms ns);
        behind = ap (λ z. behind_side z b) x.behind ∙ y.behind ∙ more;
        references = λ m j. ap (λ z. and_then z (λ i. references words (behind_side m a) b i)) (x.references m j) ∙ ap (λ (z : Made). made z.code z.next) (y.references (behind_side m a) j);
      })

  side_part : (s : Bool) (n : ℕ) (p : Phrase) (k : Sum) → side_of vs s p ≡ Some k → IsPart s n p k
  side_part s n (binary operator.Plus a b) k e = joined_part s s n a b k (λ j f. side_part s n a j f) e
  side_part s n (binary operator.Minus a b) k e = joined_part s (not s) n a b k (λ j f. side_part s n a j f) e
  side_part s n p k e = term_part s n p k e

  -- ---- relations

  module _ (n : ℕ) (a b : Phrase) (k j : Sum) (s t : Bool) (x : IsPart s n a k) (y : IsPart t (n + product_count k.terms) b j) where
    abbrev next : ℕ
    next = n + product_count k.terms

    code_of : (r : Comparison) (p : Stmt) → posted r n a b ≡ p → translated words statement n (relate r a b) ≡ within (fresh_names n (product_count k.terms + product_count j.terms)) (made ((posted_products vs n k.terms ⨾ posted_products vs next j.terms) ⨾ just p) (next + product_count j.terms))
    code_of r p e =
        let m = behind_side n a in
        let l = behind_side m b in
        let last : l ≡ next + product_count j.terms = ap (λ z. behind_side z b) x.behind ∙ y.behind in
        let refs : and_then (references words n a l) (λ i. references words m b i) ≡ made none l = ap (λ z. and_then z (λ i. references words m b i)) (x.references n l) ∙ ap (λ (z : Made). made z.code z.next) (y.references m l) in
        let many : l - n ≡ product_count k.terms + product_count j.terms = omega (arith, last) in
        let all : products_of n a ⨾ products_of m b ≡ posted_products vs n k.terms ⨾ posted_products vs next j.terms = (λ i. x.products i ⨾ products_of (x.behind i) b) ∙ ap (λ z. posted_products vs n k.terms ⨾ z) y.products in
        ap (λ q. within (fresh_names n (l - n)) (and_then q (λ i. made ((products_of n a ⨾ products_of m b) ⨾ just (posted r n a b)) i))) refs
        ∙ (λ i. within (fresh_names n (many i)) (made (all i ⨾ just (e i)) (last i)))

    right_terms : terms_of t (behind_side n a) b ≡ posted_terms vs next j.terms
    right_terms = ap (λ z. terms_of t z b) x.behind ∙ y.terms

  -- the sum that a relation compares
  record IsCompared (w z : Sign) (k : ℤ) (ms : List Term) (o q : Option Sum) : Type 0 where
    first : Sum
    second : Sum
    first_is : o ≡ Some first
    second_is : q ≡ Some second
    sign : w ≡ z
    constant : first.constant +ℤ second.constant ≡ k
    terms : ms ≡ first.terms ++ second.terms

  is_compared : (w z : Sign) (k : ℤ) (ms : List Term) (o q : Option Sum) → compared w (option_map added (both o q)) ≡ Some (Compares z k ms ∷ []) → IsCompared w z k ms o q
  is_compared w z k ms o q e =
      let d = map_some (λ (k : Sum). Compares w k.constant k.terms ∷ []) (option_map added (both o q)) (Compares z k ms ∷ []) e in
      let r = map_some added (both o q) d.0 d.1 in
      let f = both_some o q r.0 r.1 in
      let same : Compares w d.0.constant d.0.terms ∷ [] ≡ Compares z k ms ∷ [] = d.2 in
      let c : d.0.constant ≡ k = cc in
      let t : d.0.terms ≡ ms = cc in
      record {
        first = r.0.0;
        second = r.0.1;
        first_is = f.0;
        second_is = f.1;
        sign = cc;
        constant = ap (λ (z : Sum). z.constant) r.2 ∙ c;
        terms = sym (ap (λ (z : Sum). z.terms) r.2 ∙ t);
      }

  module _ (n : ℕ) (a b : Phrase) (r : Comparison) (w z : Sign) (k : ℤ) (ms : List Term) where
    forwards : is_exchanged r ≡ false → posted r n a b ≡ kernel.post w (constant_of false a +ℤ constant_of true b) (terms_of false n a ++ terms_of true (behind_side n a) b)
        → compared w (difference vs a b) ≡ Some (Compares z k ms ∷ []) → IsPosted vs n r z k ms (translated words statement n (relate r a b))
    forwards ex p e =
        let c = is_compared w z k ms (side_of vs false a) (side_of vs true b) e in
        let x = side_part false n a c.first c.first_is in
        let y = side_part true (n + product_count c.first.terms) b c.second c.second_is in
        let ts = right_terms n a b c.first c.second false true x y in
        let number : constant_of false a +ℤ constant_of true b ≡ k = (λ i. x.constant i +ℤ y.constant i) ∙ c.constant in
        let last = p ∙ (λ i. kernel.post (c.sign i) (number i) (x.terms i ++ ts i)) in
        record {
          left = c.first.terms;
          right = c.second.terms;
          all = subst (λ f. ms ≡ (if f then c.second.terms ++ c.first.terms else c.first.terms ++ c.second.terms)) (sym ex) c.terms;
          made = subst (λ f. translated words statement n (relate r a b) ≡ within (fresh_names n (product_count c.first.terms + product_count c.second.terms)) (made
              ((posted_products vs n c.first.terms ⨾ posted_products vs (n + product_count c.first.terms) c.second.terms)
              ⨾ just (kernel.post z k (if f then posted_terms vs (n + product_count c.first.terms) c.second.terms ++ posted_terms vs n c.first.terms else posted_terms vs n c.first.terms ++ posted_terms vs (n + product_count c.first.terms) c.second.terms)))
              (n + product_count c.first.terms + product_count c.second.terms))) (sym ex) (code_of n a b c.first c.second false true x y r _ last);
        }

    backwards : is_exchanged r ≡ true → posted r n a b ≡ kernel.post w (constant_of false b +ℤ constant_of true a) (terms_of false (behind_side n a) b ++ terms_of true n a)
        → compared w (difference vs b a) ≡ Some (Compares z k ms ∷ []) → IsPosted vs n r z k ms (translated words statement n (relate r a b))
    backwards ex p e =
        let c = is_compared w z k ms (side_of vs false b) (side_of vs true a) e in
        let x = side_part true n a c.second c.second_is in
        let y = side_part false (n + product_count c.second.terms) b c.first c.first_is in
        let ts = right_terms n a b c.second c.first true false x y in
        let number : constant_of false b +ℤ constant_of true a ≡ k = (λ i. y.constant i +ℤ x.constant i) ∙ c.constant in
        let last = p ∙ (λ i. kernel.post (c.sign i) (number i) (ts i ++ x.terms i)) in
        record {
          left = c.second.terms;
          right = c.first.terms;
          all = subst (λ f. ms ≡ (if f then c.first.terms ++ c.second.terms else c.second.terms ++ c.first.terms)) (sym ex) c.terms;
          made = subst (λ f. translated words statement n (relate r a b) ≡ within (fresh_names n (product_count c.second.terms + product_count c.first.terms)) (made
              ((posted_products vs n c.second.terms ⨾ posted_products vs (n + product_count c.second.terms) c.first.terms)
              ⨾ just (kernel.post z k (if f then posted_terms vs (n + product_count c.second.terms) c.first.terms ++ posted_terms vs n c.second.terms else posted_terms vs n c.second.terms ++ posted_terms vs (n + product_count c.second.terms) c.first.terms)))
              (n + product_count c.second.terms + product_count c.first.terms))) (sym ex) (code_of n a b c.second c.first true false x y r _ last);
        }

pub relations_posted : RelationsPosted
relations_posted words vs n comparison.Equal a b z k ms e = forwards words vs n a b comparison.Equal Zero z k ms refl refl e
relations_posted words vs n comparison.Unequal a b z k ms e = forwards words vs n a b comparison.Unequal NotZero z k ms refl refl e
relations_posted words vs n comparison.Below a b z k ms e = forwards words vs n a b comparison.Below Negative z k ms refl refl e
relations_posted words vs n comparison.NotAbove a b z k ms e = forwards words vs n a b comparison.NotAbove NotPositive z k ms refl refl e
relations_posted words vs n comparison.Above a b z k ms e = backwards words vs n a b comparison.Above Negative z k ms refl refl e
relations_posted words vs n comparison.NotBelow a b z k ms e = backwards words vs n a b comparison.NotBelow NotPositive z k ms refl refl e

-- The right side of a relation: integers, references, products and sums.
use Rattle.std.proofs.Common.{◌≡◌, ℕ, ℤ, suc, ◌+◌, nat_le, nat_lt, ◌∷◌, Some, Bool, true, false, not, ◌&&◌, ◌||◌, if◌then◌else◌, refl, sym, ap, ◌∙◌, arith, true≢false}
use Rattle.std.proofs.lemmas.Bool.Decides.{nat_tests}
use Rattle.oz_language.specs.Grammar.{Phrase, var, int, binary, select, tokens_of, is_small, is_small_int, is_reference, is_product, is_side_term, is_side, level_of_selection, term, feature, terms_in, terms_limit}
use Rattle.oz_language.specs.declared.token.Token.{Token}
use Rattle.oz_language.specs.declared.token.Operator.{Operator}
use Rattle.oz_language.specs.declared.token.Comparison.{Comparison}
use Rattle.oz_language.specs.declared.token.Token.TheVariants.{Var, Int, Dot, Infix}
use Rattle.oz_language.specs.declared.token.Operator.TheVariants.{Plus, Minus, Times}
use Rattle.reader_law.specs.Machine.{whole, left_of, dotted, relating, Stack, guard, side, kind_of, had, begins, takes_int, takes_factor, shift_in, reduce, next, run}
use Rattle.reader_law.proofs.Basics.{split, or_true, guard_true, then_run}
use Rattle.reader_law.proofs.CompleteBasics.{le_through, steps}
use Rattle.reader_law.proofs.CompletePlaces.{level_before, top, after_same, Finds, finds_whole, finds_binary, level_of_signs, level_of_products}

-- where a part of a right side may stand
pub record SidePlace (k : Stack) : Type 0 where
  pub kind : kind_of k ≡ side
  pub keeps : (p : Phrase) (s e : Bool) → had p s e k ≡ whole p s e ∷ k
  pub opens : (t : Token) → next (Some t) k ≡ begins (kind_of k) t k

pub side_place : (r : Comparison) (a : Phrase) (k : Stack) → SidePlace (relating r a ∷ k)
side_place r a k = record { kind = refl; keeps = λ p s e. refl; opens = λ t. refl }

pub side_place_behind : (op : Operator) (a : Phrase) (k : Stack) → SidePlace k → SidePlace (left_of op a ∷ k)
side_place_behind op a k f = record { kind = f.kind; keeps = λ p s e. refl; opens = λ t. refl }

-- the tokens lead to a stack that a token finds like this one with the side on it, if the token binds at most as a sign
pub record ReadsSide (p : Phrase) (k : Stack) : Type 0 where
  pub at : Stack
  pub states : Bool
  pub reads : run (Some k) (tokens_of p) ≡ Some at
  pub finds : Finds p states true level_of_signs at k

-- ---- terms of one part

abbrev pub ReadsWhole : Phrase → Stack → Type 0
ReadsWhole p k = run (Some k) (tokens_of p) ≡ Some (whole p false true ∷ k)

pub side_var : (name at : ℕ) (k : Stack) → SidePlace k → ReadsWhole (var name at) k
side_var name at k f = f.opens (Var name at) ∙ ap (λ w. begins w (Var name at) k) f.kind ∙ ap Some (f.keeps (var name at) false true)

side_int : (i : ℤ) (at : ℕ) (k : Stack) → SidePlace k → is_small i ≡ true → takes_int k ≡ true → ReadsWhole (int i at) k
side_int i at k f h j =
    f.opens (Int i at)
    ∙ ap (λ w. begins w (Int i at) k) f.kind
    ∙ ap (λ q. guard (q && takes_int k) (Some (had (int i at) false true k))) h
    ∙ guard_true (takes_int k) _ j
    ∙ ap Some (f.keeps (int i at) false true)

pub side_select : (e p : Phrase) (k : Stack) → SidePlace k → is_reference e ≡ true → ReadsWhole e k → run (Some (dotted e ∷ k)) (tokens_of p) ≡ Some (whole (select e p) false true ∷ k) → ReadsWhole (select e p) k
side_select e p k f h r q =
    then_run (Some k) (tokens_of e) (Dot ∷ tokens_of p) _ r
    ∙ steps Dot (tokens_of p) (whole e false true ∷ k) _ (ap (λ w. shift_in w Dot e false k) f.kind ∙ guard_true (is_reference e) _ h)
    ∙ q

or_nothing : (a : Bool) → a || false ≡ true → a ≡ true
or_nothing true h = refl
or_nothing false h = h

-- an integer or a reference
reads_simple : (p : Phrase) (k : Stack) → SidePlace k → is_small_int p || is_reference p ≡ true → not (is_small_int p) || takes_int k ≡ true → (is_reference p ≡ true → ReadsWhole p k) → ReadsWhole p k
reads_simple (int i at) k f h j r =
    let s = or_nothing (is_small i) h in
    side_int i at k f s (ap (λ q. not q || takes_int k) (sym s) ∙ j)
reads_simple p k f h j r = r h

-- ---- products

reference_no_int : (p : Phrase) → is_reference p ≡ true → is_small_int p ≡ false
reference_no_int (int i at) h = absurd (cc)
reference_no_int p h = refl

-- what a product's factors are: not both are integers
record Factors (a b : Phrase) : Type 0 where
  first : is_small_int a || is_reference a ≡ true
  second : is_small_int b || is_reference b ≡ true
  apart : not (is_small_int b) || not (is_small_int a) ≡ true

factors : (a b : Phrase) → is_product a b ≡ true → Factors a b
factors a b h = by (is_small_int a) (is_reference a) (is_small_int b) (is_reference b) refl refl refl refl h (reference_no_int a) (reference_no_int b)
  where
    by : (s r t u : Bool) → is_small_int a ≡ s → is_reference a ≡ r → is_small_int b ≡ t → is_reference b ≡ u → (s && u) || (r && (t || u)) ≡ true
        → (is_reference a ≡ true → is_small_int a ≡ false) → (is_reference b ≡ true → is_small_int b ≡ false) → Factors a b
    by s true true u hs hr ht hu i f g = record {
      first = ap (λ q. is_small_int a || q) hr ∙ or_true (is_small_int a);
      second = ap (λ q. q || is_reference b) ht;
      apart = ap (λ q. not (is_small_int b) || not q) (f hr) ∙ or_true (not (is_small_int b));
    }
    by s true t true hs hr ht hu i f g = record {
      first = ap (λ q. is_small_int a || q) hr ∙ or_true (is_small_int a);
      second = ap (λ q. is_small_int b || q) hu ∙ or_true (is_small_int b);
      apart = ap (λ q. not (is_small_int b) || not q) (f hr) ∙ or_true (not (is_small_int b));
    }
    by true r t true hs hr ht hu i f g = record {
      first = ap (λ q. q || is_reference a) hs;
      second = ap (λ q. is_small_int b || q) hu ∙ or_true (is_small_int b);
      apart = ap (λ q. not q || not (is_small_int a)) (g hu);
    }
    by true true false false hs hr ht hu i f g = absurd (cc)
    by false true false false hs hr ht hu i f g = absurd (cc)
    by true r t false hs hr ht hu i f g = absurd (cc)
    by false r t u hs hr ht hu i f g = absurd (cc)

product_finds : (a b : Phrase) (k : Stack) → SidePlace k → Finds (binary Times a b) false true level_of_signs (whole b false true ∷ left_of Times a ∷ k) k
product_finds a b k f = record {
  on = λ t h.
      after_same t b (binary Times a b) false false true (left_of Times a ∷ k) k refl (ap (λ w. nat_le (level_before t) (top w)) f.kind ∙ h)
      (ap (λ q. if q then reduce (level_before t) (binary Times a b) false k else record { phrase = b; states = false; rest = left_of Times a ∷ k }) (le_through (level_before t) level_of_signs level_of_products h refl));
}

reads_product : (a b : Phrase) (k : Stack) → SidePlace k → takes_int k ≡ true → takes_factor k ≡ true → is_product a b ≡ true
    → (is_reference a ≡ true → ReadsWhole a k) → (is_reference b ≡ true → ReadsWhole b (left_of Times a ∷ k)) → ReadsSide (binary Times a b) k
reads_product a b k f ti tf h r q =
    let v = factors a b h in
    record {
      at = whole b false true ∷ left_of Times a ∷ k;
      states = false;
      reads =
          then_run (Some k) (tokens_of a) (Infix Times ∷ tokens_of b) _ (reads_simple a k f v.first (ap (λ w. not (is_small_int a) || w) ti ∙ or_true (not (is_small_int a))) r)
          ∙ steps (Infix Times) (tokens_of b) (whole a false true ∷ k) _ (ap (λ w. shift_in w (Infix Times) a false k) f.kind ∙ guard_true (takes_factor k) _ tf)
          ∙ reads_simple b (left_of Times a ∷ k) (side_place_behind Times a k f) v.second v.apart q;
      finds = product_finds a b k f;
    }

-- ---- sums

abbrev pub sign : Bool → Operator
sign true = Plus
sign false = Minus

pub more_terms : (a b : ℕ) → nat_le (a + suc b) 64 ≡ true → nat_lt (a + b) 64 ≡ true
more_terms a b h = grind (arith, nat_tests, h)

pub fewer_terms : (a b : ℕ) → nat_le (a + suc b) 64 ≡ true → nat_le (a + b) 64 ≡ true
fewer_terms a b h = grind (arith, nat_tests, h)

takes_sign : (c : Bool) (a : Phrase) (s : Bool) (r : Comparison) (x : Phrase) (j k : Stack) → nat_lt (terms_in x + terms_in a) terms_limit ≡ true
    → Finds a s true level_of_signs j (relating r x ∷ k) → next (Some (Infix (sign c))) j ≡ Some (left_of (sign c) a ∷ relating r x ∷ k)
takes_sign true a s r x j k h f = f.on (Some (Infix Plus)) refl ∙ guard_true (nat_lt (terms_in x + terms_in a) terms_limit) _ h
takes_sign false a s r x j k h f = f.on (Some (Infix Minus)) refl ∙ guard_true (nat_lt (terms_in x + terms_in a) terms_limit) _ h

pub reads_sum : (c : Bool) (a b : Phrase) (r : Comparison) (x : Phrase) (k : Stack) → nat_le (terms_in x + suc (terms_in a)) terms_limit ≡ true
    → ReadsSide a (relating r x ∷ k) → ReadsSide b (left_of (sign c) a ∷ relating r x ∷ k) → ReadsSide (binary (sign c) a b) (relating r x ∷ k)
reads_sum c a b r x k h f g = record {
  at = g.at;
  states = false;
  reads =
      then_run (Some (relating r x ∷ k)) (tokens_of a) (Infix (sign c) ∷ tokens_of b) _ f.reads
      ∙ steps (Infix (sign c)) (tokens_of b) f.at _ (takes_sign c a f.states r x f.at k (more_terms (terms_in x) (terms_in a) h) f.finds)
      ∙ g.reads;
  finds = found c g.finds;
}
  where
    found : (d : Bool) → Finds b g.states true level_of_signs g.at (left_of (sign d) a ∷ relating r x ∷ k) → Finds (binary (sign d) a b) false true level_of_signs g.at (relating r x ∷ k)
    found true q = finds_binary Plus a b g.states level_of_signs g.at (relating r x ∷ k) refl refl q
    found false q = finds_binary Minus a b g.states level_of_signs g.at (relating r x ∷ k) refl refl q

-- ---- all that a right side may be

-- what is read of a phrase as a reference, as a term of a sum and as a whole side
pub record SideReads (p : Phrase) : Type 0 where
  pub reference : (n : ℕ) (k : Stack) → SidePlace k → is_reference p ≡ true → term false n p ≡ true → ReadsWhole p k
  pub part : (n : ℕ) (k : Stack) → SidePlace k → takes_int k ≡ true → takes_factor k ≡ true → is_side_term p ≡ true → term false n p ≡ true → ReadsSide p k
  pub sum : (n : ℕ) (r : Comparison) (x : Phrase) (k : Stack) → is_side p ≡ true → term false n p ≡ true → nat_le (terms_in x + terms_in p) terms_limit ≡ true → ReadsSide p (relating r x ∷ k)

-- a term of one part
simple_part : (p : Phrase) (k : Stack) → SidePlace k → takes_int k ≡ true → is_small_int p || is_reference p ≡ true → (is_reference p ≡ true → ReadsWhole p k) → ReadsSide p k
simple_part p k f ti h r = record {
  at = whole p false true ∷ k;
  states = false;
  reads = reads_simple p k f h (ap (λ w. not (is_small_int p) || w) ti ∙ or_true (not (is_small_int p))) r;
  finds = finds_whole p false true level_of_signs k;
}

pub var_side : (name at : ℕ) → SideReads (var name at)
var_side name at = record {
  reference = λ n k f h i. side_var name at k f;
  part = λ n k f ti tf h i. simple_part (var name at) k f ti refl (λ j. side_var name at k f);
  sum = λ n r x k h i l. simple_part (var name at) (relating r x ∷ k) (side_place r x k) refl refl (λ j. side_var name at (relating r x ∷ k) (side_place r x k));
}

pub int_side : (i : ℤ) (at : ℕ) → SideReads (int i at)
int_side i at = record {
  reference = λ n k f h j. absurd (cc);
  part = λ n k f ti tf h j. simple_part (int i at) k f ti h (λ q. absurd (cc));
  sum = λ n r x k h j l. simple_part (int i at) (relating r x ∷ k) (side_place r x k) refl h (λ q. absurd (cc));
}

pub select_side : (e p : Phrase) → SideReads e → ((k : Stack) → feature p ≡ true → run (Some (dotted e ∷ k)) (tokens_of p) ≡ Some (whole (select e p) false true ∷ k)) → SideReads (select e p)
select_side e p s q = record {
  reference = λ n k f h i. found k f h i;
  part = λ n k f ti tf h i. simple_part (select e p) k f ti h (λ j. found k f j i);
  sum = λ n r x k h i l. simple_part (select e p) (relating r x ∷ k) (side_place r x k) refl h (λ j. found (relating r x ∷ k) (side_place r x k) j i);
}
  where
    found : (k : Stack) → SidePlace k → is_reference e ≡ true → term false level_of_selection e && feature p ≡ true → ReadsWhole (select e p) k
    found k f h i =
        let j = split (term false level_of_selection e) (feature p) i in
        side_select e p k f h (s.reference level_of_selection k f h j.fst) (q k j.snd)

pub times_side : (a b : Phrase) → SideReads a → SideReads b → SideReads (binary Times a b)
times_side a b s q = record {
  reference = λ n k f h i. absurd (cc);
  part = λ n k f ti tf h i. found n k f ti tf h i;
  sum = λ n r x k h i l. found n (relating r x ∷ k) (side_place r x k) refl refl h i;
}
  where
    found : (n : ℕ) (k : Stack) → SidePlace k → takes_int k ≡ true → takes_factor k ≡ true → is_product a b ≡ true → term false n (binary Times a b) ≡ true → ReadsSide (binary Times a b) k
    found n k f ti tf h i =
        let j = split (nat_le n level_of_products) (term false level_of_products a && term false level_of_selection b) i in
        let v = split (term false level_of_products a) (term false level_of_selection b) j.snd in
        reads_product a b k f ti tf h (λ w. s.reference level_of_products k f w v.fst) (λ w. q.reference level_of_selection (left_of Times a ∷ k) (side_place_behind Times a k f) w v.snd)

pub plus_side : (a b : Phrase) → SideReads a → SideReads b → SideReads (binary Plus a b)
plus_side a b s q = record {
  reference = λ n k f h i. absurd (cc);
  part = λ n k f ti tf h i. absurd (cc);
  sum = λ n r x k h i l.
      let g = split (is_side a) (is_side_term b) h in
      let j = split (nat_le n level_of_signs) (term false level_of_signs a && term false level_of_products b) i in
      let v = split (term false level_of_signs a) (term false level_of_products b) j.snd in
      reads_sum true a b r x k l (s.sum level_of_signs r x k g.fst v.fst (fewer_terms (terms_in x) (terms_in a) l))
      (q.part level_of_products (left_of Plus a ∷ relating r x ∷ k) (side_place_behind Plus a (relating r x ∷ k) (side_place r x k)) refl refl g.snd v.snd);
}

pub minus_side : (a b : Phrase) → SideReads a → SideReads b → SideReads (binary Minus a b)
minus_side a b s q = record {
  reference = λ n k f h i. absurd (cc);
  part = λ n k f ti tf h i. absurd (cc);
  sum = λ n r x k h i l.
      let g = split (is_side a) (is_side_term b) h in
      let j = split (nat_le n level_of_signs) (term false level_of_signs a && term false level_of_products b) i in
      let v = split (term false level_of_signs a) (term false level_of_products b) j.snd in
      reads_sum false a b r x k l (s.sum level_of_signs r x k g.fst v.fst (fewer_terms (terms_in x) (terms_in a) l))
      (q.part level_of_products (left_of Minus a ∷ relating r x ∷ k) (side_place_behind Minus a (relating r x ∷ k) (side_place r x k)) refl refl g.snd v.snd);
}

-- what is no side
pub no_side : (p : Phrase) → is_reference p ≡ false → is_side_term p ≡ false → is_side p ≡ false → SideReads p
no_side p a b c = record {
  reference = λ n k f h i. absurd (true≢false (sym h ∙ a));
  part = λ n k f ti tf h i. absurd (true≢false (sym h ∙ b));
  sum = λ n r x k h i l. absurd (true≢false (sym h ∙ c));
}

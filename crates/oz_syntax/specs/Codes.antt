-- Phrases as trees of numbers, by which proofs tell them apart.
use Rattle.std.specs.Prelude.{◌≡◌, ℕ, zero, suc, ℤ, pos, negsuc, Option, Some, None, List, [], ◌∷◌, refl}
use Rattle.std.specs.Coded.{Coded, code_by}
use base.Stored.{Gv, gnil, gnum, gcons}
use denote.Struct.Codes.{itself}
use Rattle.oz_language.specs.Grammar.{Phrase, Phrases, nothing, more, var, any, int, string, literal, rec, keyed, list, paren, binary, bars, hashes, select, access, skip, fail, raise, connected, relate, call, dollar, head, proc, fun, local, thread, choice, when, choose, arm, cases, cases_or, clause, attempt, body}
use Rattle.oz_language.specs.declared.kernel.Constant.{Constant}
use Rattle.oz_language.specs.declared.kernel.Constant.TheVariants as constant
use Rattle.oz_language.specs.declared.token.Literal.{Literal}
use Rattle.oz_language.specs.declared.token.Literal.TheVariants as lit
use Rattle.oz_language.specs.declared.token.Operator.{Operator}
use Rattle.oz_language.specs.declared.token.Operator.TheVariants as operator
use Rattle.oz_language.specs.declared.token.Comparison.{Comparison}
use Rattle.oz_language.specs.declared.token.Comparison.TheVariants as comparison
use Rattle.oz_language.specs.declared.token.Connective.{Connective}
use Rattle.oz_language.specs.declared.token.Connective.TheVariants as connective

-- ---- the tree of a phrase: a number for its kind, with what it says, and the phrases in it

abbrev pub literal_number : Literal → ℕ
literal_number lit.True = 0
literal_number lit.False = 1
literal_number lit.Unit = 2
literal_number (lit.Atom n) = suc (suc (suc n))

abbrev pub int_tree : ℤ → Gv
int_tree (pos n) = gcons (gnum 0) (gnum n)
int_tree (negsuc n) = gcons (gnum 1) (gnum n)

abbrev pub constant_tree : Constant → Gv
constant_tree (constant.Int i) = gcons (gnum 0) (int_tree i)
constant_tree (constant.Literal l) = gcons (gnum 1) (gnum (literal_number l))

abbrev pub operator_number : Operator → ℕ
operator_number operator.OrElse = 0
operator_number operator.AndThen = 1
operator_number operator.Same = 2
operator_number operator.Differs = 3
operator_number operator.Less = 4
operator_number operator.AtMost = 5
operator_number operator.Greater = 6
operator_number operator.AtLeast = 7
operator_number operator.Plus = 8
operator_number operator.Minus = 9
operator_number operator.Times = 10
operator_number operator.Div = 11
operator_number operator.Mod = 12

abbrev pub comparison_number : Comparison → ℕ
comparison_number comparison.Equal = 0
comparison_number comparison.Unequal = 1
comparison_number comparison.Below = 2
comparison_number comparison.NotAbove = 3
comparison_number comparison.Above = 4
comparison_number comparison.NotBelow = 5

abbrev pub connective_number : Connective → ℕ
connective_number connective.Equates = 0
connective_number connective.Assigns = 1
connective_number connective.Bounds = 2
connective_number connective.BoundsEach = 3

abbrev pub place_number : Option ℕ → ℕ
place_number None = 0
place_number (Some at) = suc at

abbrev pub node : ℕ → Gv → Gv → Gv
node kind said inside = gcons (gcons (gnum kind) said) inside

abbrev mutual
  pub tree : Phrase → Gv
  tree (var a b) = node 0 (gcons (gnum a) (gnum b)) gnil
  tree (any a) = node 1 (gnum a) gnil
  tree (int a b) = node 2 (gcons (int_tree a) (gnum b)) gnil
  tree (string a b) = node 3 (gcons (gnum a) (gnum b)) gnil
  tree (literal a b) = node 4 (gcons (gnum (literal_number a)) (gnum b)) gnil
  tree (rec a b xs) = node 5 (gcons (gnum (literal_number a)) (gnum b)) (trees xs)
  tree (keyed a b c) = node 6 (gcons (constant_tree a) (gnum b)) (gcons (tree c) gnil)
  tree (list a xs) = node 7 (gnum a) (trees xs)
  tree (paren a xs) = node 8 (gnum a) (trees xs)
  tree (binary a b c) = node 9 (gnum (operator_number a)) (gcons (tree b) (gcons (tree c) gnil))
  tree (bars xs) = node 10 gnil (trees xs)
  tree (hashes xs) = node 11 gnil (trees xs)
  tree (select a b) = node 12 gnil (gcons (tree a) (gcons (tree b) gnil))
  tree (access a b) = node 13 (gnum a) (gcons (tree b) gnil)
  tree skip = node 14 gnil gnil
  tree (fail a) = node 15 (gnum a) gnil
  tree (raise a b) = node 16 (gnum a) (gcons (tree b) gnil)
  tree (connected a b c) = node 17 (gnum (connective_number a)) (gcons (tree b) (gcons (tree c) gnil))
  tree (relate a b c) = node 18 (gnum (comparison_number a)) (gcons (tree b) (gcons (tree c) gnil))
  tree (call a xs) = node 19 (gnum a) (trees xs)
  tree dollar = node 20 gnil gnil
  tree (head a xs) = node 21 (gnum a) (trees xs)
  tree (proc a b c) = node 22 (gnum a) (gcons (tree b) (gcons (tree c) gnil))
  tree (fun a b c d) = node 23 (gcons (gnum a) (gnum (place_number b))) (gcons (tree c) (gcons (tree d) gnil))
  tree (local a xs c) = node 24 (gnum a) (gcons (tree c) (trees xs))
  tree (thread a b) = node 25 (gnum a) (gcons (tree b) gnil)
  tree (choice a xs) = node 26 (gnum a) (trees xs)
  tree (when a xs) = node 27 (gnum a) (trees xs)
  tree (choose a xs c) = node 28 (gnum a) (gcons (tree c) (trees xs))
  tree (arm a b) = node 29 gnil (gcons (tree a) (gcons (tree b) gnil))
  tree (cases a b xs) = node 30 (gnum a) (gcons (tree b) (trees xs))
  tree (cases_or a b xs d) = node 31 (gnum a) (gcons (tree b) (gcons (tree d) (trees xs)))
  tree (clause a b) = node 32 gnil (gcons (tree a) (gcons (tree b) gnil))
  tree (attempt a xs) = node 33 gnil (gcons (tree a) (trees xs))
  tree (body xs ys) = node 34 (trees xs) (trees ys)

  pub trees : Phrases → Gv
  trees nothing = gnil
  trees (more p ps) = gcons (tree p) (trees ps)

-- ---- the phrase of a tree

abbrev pub literal_from : ℕ → Literal
literal_from zero = lit.True
literal_from (suc zero) = lit.False
literal_from (suc (suc zero)) = lit.Unit
literal_from (suc (suc (suc n))) = lit.Atom n

abbrev pub number : Gv → ℕ
number gnil = 0
number (gnum n) = n
number (gcons a b) = 0

abbrev pub left : Gv → Gv
left gnil = gnil
left (gnum n) = gnil
left (gcons a b) = a

abbrev pub right : Gv → Gv
right gnil = gnil
right (gnum n) = gnil
right (gcons a b) = b

abbrev pub int_by : ℕ → ℕ → ℤ
int_by zero n = pos n
int_by (suc m) n = negsuc n

abbrev pub int_from : Gv → ℤ
int_from t = int_by (number (left t)) (number (right t))

abbrev pub constant_by : ℕ → Gv → Constant
constant_by zero t = constant.Int (int_from t)
constant_by (suc m) t = constant.Literal (literal_from (number t))

abbrev pub constant_from : Gv → Constant
constant_from t = constant_by (number (left t)) (right t)

abbrev pub operator_from : ℕ → Operator
operator_from zero = operator.OrElse
operator_from (suc zero) = operator.AndThen
operator_from (suc (suc zero)) = operator.Same
operator_from (suc (suc (suc zero))) = operator.Differs
operator_from (suc (suc (suc (suc zero)))) = operator.Less
operator_from (suc (suc (suc (suc (suc zero))))) = operator.AtMost
operator_from (suc (suc (suc (suc (suc (suc zero)))))) = operator.Greater
operator_from (suc (suc (suc (suc (suc (suc (suc zero))))))) = operator.AtLeast
operator_from (suc (suc (suc (suc (suc (suc (suc (suc zero)))))))) = operator.Plus
operator_from (suc (suc (suc (suc (suc (suc (suc (suc (suc zero))))))))) = operator.Minus
operator_from (suc (suc (suc (suc (suc (suc (suc (suc (suc (suc zero)))))))))) = operator.Times
operator_from (suc (suc (suc (suc (suc (suc (suc (suc (suc (suc (suc zero))))))))))) = operator.Div
operator_from n = operator.Mod

abbrev pub comparison_from : ℕ → Comparison
comparison_from zero = comparison.Equal
comparison_from (suc zero) = comparison.Unequal
comparison_from (suc (suc zero)) = comparison.Below
comparison_from (suc (suc (suc zero))) = comparison.NotAbove
comparison_from (suc (suc (suc (suc zero)))) = comparison.Above
comparison_from n = comparison.NotBelow

abbrev pub connective_from : ℕ → Connective
connective_from zero = connective.Equates
connective_from (suc zero) = connective.Assigns
connective_from (suc (suc zero)) = connective.Bounds
connective_from n = connective.BoundsEach

abbrev pub place_from : ℕ → Option ℕ
place_from zero = None
place_from (suc at) = Some at

abbrev pub first_of : Phrases → Phrase
first_of nothing = skip
first_of (more p ps) = p

abbrev pub others_of : Phrases → Phrases
others_of nothing = nothing
others_of (more p ps) = ps

abbrev pub second_of : Phrases → Phrase
second_of ps = first_of (others_of ps)

abbrev pub third_of : Phrases → Phrase
third_of ps = first_of (others_of (others_of ps))

-- the phrase of each kind, by what is said of it, the phrases there, and those in it
abbrev pub kinds : Gv → Phrases → Phrases → List Phrase
kinds t ds ps =
    var (number (left t)) (number (right t))
    ∷ any (number t)
    ∷ int (int_from (left t)) (number (right t))
    ∷ string (number (left t)) (number (right t))
    ∷ literal (literal_from (number (left t))) (number (right t))
    ∷ rec (literal_from (number (left t))) (number (right t)) ps
    ∷ keyed (constant_from (left t)) (number (right t)) (first_of ps)
    ∷ list (number t) ps
    ∷ paren (number t) ps
    ∷ binary (operator_from (number t)) (first_of ps) (second_of ps)
    ∷ bars ps
    ∷ hashes ps
    ∷ select (first_of ps) (second_of ps)
    ∷ access (number t) (first_of ps)
    ∷ skip
    ∷ fail (number t)
    ∷ raise (number t) (first_of ps)
    ∷ connected (connective_from (number t)) (first_of ps) (second_of ps)
    ∷ relate (comparison_from (number t)) (first_of ps) (second_of ps)
    ∷ call (number t) ps
    ∷ dollar
    ∷ head (number t) ps
    ∷ proc (number t) (first_of ps) (second_of ps)
    ∷ fun (number (left t)) (place_from (number (right t))) (first_of ps) (second_of ps)
    ∷ local (number t) (others_of ps) (first_of ps)
    ∷ thread (number t) (first_of ps)
    ∷ choice (number t) ps
    ∷ when (number t) ps
    ∷ choose (number t) (others_of ps) (first_of ps)
    ∷ arm (first_of ps) (second_of ps)
    ∷ cases (number t) (first_of ps) (others_of ps)
    ∷ cases_or (number t) (first_of ps) (others_of (others_of ps)) (second_of ps)
    ∷ clause (first_of ps) (second_of ps)
    ∷ attempt (first_of ps) (others_of ps)
    ∷ body ds ps
    ∷ []

abbrev pub nth : ℕ → List Phrase → Phrase
nth n [] = skip
nth zero (p ∷ ps) = p
nth (suc n) (p ∷ ps) = nth n ps

abbrev pub phrase_from : Gv → Phrases → Phrases → Phrase
phrase_from h ds ps = nth (number (left h)) (kinds (right h) ds ps)

-- as a phrase, and as phrases
abbrev pub back : Gv → Phrase × Phrases
back gnil = (skip, nothing)
back (gnum n) = (skip, nothing)
back (gcons t x) = (phrase_from t (others_of (back t).1) (back x).1, more (back t).0 (back x).1)

pub literal_back : (l : Literal) → literal_from (literal_number l) ≡ l
literal_back lit.True = refl
literal_back lit.False = refl
literal_back lit.Unit = refl
literal_back (lit.Atom n) = refl

pub int_back : (i : ℤ) → int_from (int_tree i) ≡ i
int_back (pos n) = refl
int_back (negsuc n) = refl

pub constant_back : (k : Constant) → constant_from (constant_tree k) ≡ k
constant_back (constant.Int i) = λ j. constant.Int (int_back i j)
constant_back (constant.Literal l) = λ j. constant.Literal (literal_back l j)

pub operator_back : (x : Operator) → operator_from (operator_number x) ≡ x
operator_back operator.OrElse = refl
operator_back operator.AndThen = refl
operator_back operator.Same = refl
operator_back operator.Differs = refl
operator_back operator.Less = refl
operator_back operator.AtMost = refl
operator_back operator.Greater = refl
operator_back operator.AtLeast = refl
operator_back operator.Plus = refl
operator_back operator.Minus = refl
operator_back operator.Times = refl
operator_back operator.Div = refl
operator_back operator.Mod = refl

pub comparison_back : (x : Comparison) → comparison_from (comparison_number x) ≡ x
comparison_back comparison.Equal = refl
comparison_back comparison.Unequal = refl
comparison_back comparison.Below = refl
comparison_back comparison.NotAbove = refl
comparison_back comparison.Above = refl
comparison_back comparison.NotBelow = refl

pub connective_back : (x : Connective) → connective_from (connective_number x) ≡ x
connective_back connective.Equates = refl
connective_back connective.Assigns = refl
connective_back connective.Bounds = refl
connective_back connective.BoundsEach = refl

pub place_back : (x : Option ℕ) → place_from (place_number x) ≡ x
place_back None = refl
place_back (Some at) = refl

mutual
  pub tree_back : (p : Phrase) → (back (tree p)).0 ≡ p
  tree_back (var a b) = refl
  tree_back (any a) = refl
  tree_back (int a b) = λ j. int (int_back a j) b
  tree_back (string a b) = refl
  tree_back (literal a b) = λ j. literal (literal_back a j) b
  tree_back (rec a b xs) = λ j. rec (literal_back a j) b (trees_back xs j)
  tree_back (keyed a b c) = λ j. keyed (constant_back a j) b (tree_back c j)
  tree_back (list a xs) = λ j. list a (trees_back xs j)
  tree_back (paren a xs) = λ j. paren a (trees_back xs j)
  tree_back (binary a b c) = λ j. binary (operator_back a j) (tree_back b j) (tree_back c j)
  tree_back (bars xs) = λ j. bars (trees_back xs j)
  tree_back (hashes xs) = λ j. hashes (trees_back xs j)
  tree_back (select a b) = λ j. select (tree_back a j) (tree_back b j)
  tree_back (access a b) = λ j. access a (tree_back b j)
  tree_back skip = refl
  tree_back (fail a) = refl
  tree_back (raise a b) = λ j. raise a (tree_back b j)
  tree_back (connected a b c) = λ j. connected (connective_back a j) (tree_back b j) (tree_back c j)
  tree_back (relate a b c) = λ j. relate (comparison_back a j) (tree_back b j) (tree_back c j)
  tree_back (call a xs) = λ j. call a (trees_back xs j)
  tree_back dollar = refl
  tree_back (head a xs) = λ j. head a (trees_back xs j)
  tree_back (proc a b c) = λ j. proc a (tree_back b j) (tree_back c j)
  tree_back (fun a b c d) = λ j. fun a (place_back b j) (tree_back c j) (tree_back d j)
  tree_back (local a xs c) = λ j. local a (trees_back xs j) (tree_back c j)
  tree_back (thread a b) = λ j. thread a (tree_back b j)
  tree_back (choice a xs) = λ j. choice a (trees_back xs j)
  tree_back (when a xs) = λ j. when a (trees_back xs j)
  tree_back (choose a xs c) = λ j. choose a (trees_back xs j) (tree_back c j)
  tree_back (arm a b) = λ j. arm (tree_back a j) (tree_back b j)
  tree_back (cases a b xs) = λ j. cases a (tree_back b j) (trees_back xs j)
  tree_back (cases_or a b xs d) = λ j. cases_or a (tree_back b j) (trees_back xs j) (tree_back d j)
  tree_back (clause a b) = λ j. clause (tree_back a j) (tree_back b j)
  tree_back (attempt a xs) = λ j. attempt (tree_back a j) (trees_back xs j)
  tree_back (body xs ys) = λ j. body (trees_back xs j) (trees_back ys j)

  pub trees_back : (ps : Phrases) → (back (trees ps)).1 ≡ ps
  trees_back nothing = refl
  trees_back (more p ps) = λ j. more (tree_back p j) (trees_back ps j)

abbrev pub phrase_code : Coded Phrase
phrase_code = code_by Gv itself tree (λ t. (back t).0) tree_back

-- The sides of relations, and what is posted.
use Rattle.std.proofs.Common.{◌≡◌, ℕ, suc, List, [], ◌∷◌, refl, ap, sym, ◌∙◌, ◌+◌, ◌-◌, ◌++◌, append_assoc, ◌<◌, ◌≤◌, arith, Bool}
use Rattle.std.proofs.lemmas.List.{append-nil}
use Rattle.oz_language.specs.Grammar.{Phrase, binary, int}
use Rattle.oz_language.specs.Kernels.{just, ◌⨾◌, Stmt}
use Rattle.oz_language.specs.Translation.{between, fresh_names, behind_side, products_of, terms_of}
use Rattle.oz_language.specs.declared.kernel.Identifier.TheVariants.{Fresh}
use Rattle.oz_language.specs.declared.kernel.Identifier.{Identifier}
use Rattle.oz_language.specs.declared.token.Operator.TheVariants as operator
use Rattle.kernel_output.proofs.Writing.{with_both}
use Rattle.kernel_output.specs.Outputs.{with_all}
use Rattle.kernel_output.specs.declared.output.Output.{Output}
use Rattle.kernel_relations.specs.Relations.{integer_of, behind_product, product_term, product_made}

pub behind_times : (n : ℕ) (a b : Phrase) → behind_side n (binary operator.Times a b) ≡ behind_product n (integer_of a) (integer_of b) a b
behind_times n (int i at) b = refl
behind_times n a (int i at) = refl
behind_times n a b = refl

pub terms_times : (s : Bool) (n : ℕ) (a b : Phrase) →
    terms_of s n (binary operator.Times a b) ≡ product_term s n (integer_of a) (integer_of b) a b ∷ []
terms_times s n (int i at) b = refl
terms_times s n a (int i at) = refl
terms_times s n a b = refl

pub products_times : (n : ℕ) (a b : Phrase) → products_of n (binary operator.Times a b) ≡ product_made n (integer_of a) (integer_of b) a b
products_times n (int i at) b = refl
products_times n a (int i at) = refl
products_times n a b = refl

-- Identifiers in a row

between_more : (n m : ℕ) → n < m → between n m ≡ Fresh n ∷ between (suc n) m
between_more n m lt =
    let e : m - n ≡ suc (m - suc n) = omega arith in
    ap (fresh_names n) e

between_none : (n m : ℕ) → m ≤ n → between n m ≡ []
between_none n m le =
    let e : m - n ≡ 0 = omega arith in
    ap (fresh_names n) e

pub between_loop : (xs xs' f : List Identifier) (n m : ℕ) → n < m → xs' ≡ xs ++ Fresh n ∷ [] → xs ++ between n m ≡ f → xs' ++ between (n + 1) m ≡ f
between_loop xs xs' f n m lt e h =
    let next : n + 1 ≡ suc n = omega arith in
    ap (λ q. q ++ between (n + 1) m) e ∙ append_assoc xs (Fresh n ∷ []) _ ∙ ap (λ q. xs ++ Fresh n ∷ between q m) next
    ∙ sym (ap (λ q. xs ++ q) (between_more n m lt)) ∙ h

pub between_end : (xs f : List Identifier) (n m : ℕ) → m ≤ n → xs ++ between n m ≡ f → xs ≡ f
between_end xs f n m le h = sym (append-nil xs) ∙ sym (ap (λ q. xs ++ q) (between_none n m le)) ∙ h

-- The products of two sides

products_both : (o o1 o2 : Output) (n m : ℕ) (a b : Phrase) →
    o1 ≡ with_all o (products_of n a) → m ≡ behind_side n a → o2 ≡ with_all o1 (products_of m b) →
    o2 ≡ with_all o (products_of n a ⨾ products_of (behind_side n a) b)
products_both o o1 o2 n m a b e1 em e2 =
    e2 ∙ ap (λ q. with_all q (products_of m b)) e1 ∙ ap (λ q. with_all (with_all o (products_of n a)) (products_of q b)) em
    ∙ with_both o (products_of n a) (products_of (behind_side n a) b)

pub products_plus : (o o1 o2 : Output) (n m : ℕ) (a b : Phrase) →
    o1 ≡ with_all o (products_of n a) → m ≡ behind_side n a → o2 ≡ with_all o1 (products_of m b) →
    o2 ≡ with_all o (products_of n (binary operator.Plus a b))
products_plus o o1 o2 n m a b e1 em e2 = products_both o o1 o2 n m a b e1 em e2

pub products_minus : (o o1 o2 : Output) (n m : ℕ) (a b : Phrase) →
    o1 ≡ with_all o (products_of n a) → m ≡ behind_side n a → o2 ≡ with_all o1 (products_of m b) →
    o2 ≡ with_all o (products_of n (binary operator.Minus a b))
products_minus o o1 o2 n m a b e1 em e2 = products_both o o1 o2 n m a b e1 em e2

-- the products of both sides, and what is posted
pub relation_written : (o o1 o2 o3 : Output) (n m : ℕ) (a b : Phrase) (s : Stmt) →
    o1 ≡ with_all o (products_of n a) → m ≡ behind_side n a → o2 ≡ with_all o1 (products_of m b) → o3 ≡ with_all o2 (just s) →
    o3 ≡ with_all o ((products_of n a ⨾ products_of (behind_side n a) b) ⨾ just s)
relation_written o o1 o2 o3 n m a b s e1 em e2 e3 =
    e3 ∙ ap (λ q. with_all q (just s)) (products_both o o1 o2 n m a b e1 em e2)
    ∙ with_both o (products_of n a ⨾ products_of (behind_side n a) b) (just s)

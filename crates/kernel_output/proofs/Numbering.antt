-- The numbers of statements behind other statements.
use Rattle.std.proofs.Common.{◌≡◌, ℕ, suc, ◌+◌, arith, ◌∷◌, ◌++◌, length, length-append, append_assoc, refl, ap, sym, ◌∙◌}
use Rattle.oz_language.specs.Kernels.{Stmt, Stmts, none, followed, Bodies, no_body, ◌⨾◌, inside, count, count_bodies, numbers, statement_at, listed_inside, listed_all, listed_bodies}
use Rattle.oz_language.specs.Kernels as k

pub then_nothing : (a : Stmts) → (a ⨾ none) ≡ a
then_nothing none = refl
then_nothing (followed s a) = ap (followed s) (then_nothing a)

pub count_both : (a b : Stmts) → count (a ⨾ b) ≡ count a + count b
count_both none b = omega arith
count_both (followed s a) b = let h = count_both a b in omega (arith, h)

pub numbers_both : (n : ℕ) (a b : Stmts) → numbers n (a ⨾ b) ≡ numbers n a ++ numbers (n + count a) b
numbers_both n none b = let e : n + 0 ≡ n = omega arith in rw e refl
numbers_both n (followed s a) b =
    let e : n + suc (inside s) + count a ≡ n + (suc (inside s) + count a) = omega arith in
    ap (λ xs. (n + inside s) ∷ xs) (numbers_both (n + suc (inside s)) a b ∙ ap (λ m. numbers (n + suc (inside s)) a ++ numbers m b) e)

pub listed_both : (n : ℕ) (a b : Stmts) → listed_all n (a ⨾ b) ≡ listed_all n a ++ listed_all (n + count a) b
listed_both n none b = let e : n + 0 ≡ n = omega arith in rw e refl
listed_both n (followed s a) b =
    let e : n + suc (inside s) + count a ≡ n + (suc (inside s) + count a) = omega arith in
    ap (λ xs. listed_inside n s ++ statement_at n s ∷ xs) (listed_both (n + suc (inside s)) a b ∙ ap (λ m. listed_all (n + suc (inside s)) a ++ listed_all m b) e)
    ∙ sym (append_assoc (listed_inside n s) (statement_at n s ∷ listed_all (n + suc (inside s)) a) _)

mutual
  -- there are as many as are counted
  pub length-listed_inside : (n : ℕ) (s : Stmt) → length (listed_inside n s) ≡ inside s
  length-listed_inside n (k.local xs ss) = length-listed_all n ss
  length-listed_inside n (k.bind_procedure x xs ss) = length-listed_all n ss
  length-listed_inside n (k.choice bs) = length-listed_bodies n bs
  length-listed_inside n (k.test x ss us) =
      let first = length-listed_all n ss in
      let second = length-listed_all (n + count ss) us in
      let both = length-append (listed_all n ss) (listed_all (n + count ss) us) in
      omega (arith, first, second, both)
  length-listed_inside n (k.matching x p ss us) =
      let first = length-listed_all n ss in
      let second = length-listed_all (n + count ss) us in
      let both = length-append (listed_all n ss) (listed_all (n + count ss) us) in
      omega (arith, first, second, both)
  length-listed_inside n (k.thread ss) = length-listed_all n ss
  length-listed_inside n (k.attempt ss x us) =
      let first = length-listed_all n ss in
      let second = length-listed_all (n + count ss) us in
      let both = length-append (listed_all n ss) (listed_all (n + count ss) us) in
      omega (arith, first, second, both)
  length-listed_inside n s = refl

  pub length-listed_all : (n : ℕ) (ss : Stmts) → length (listed_all n ss) ≡ count ss
  length-listed_all n none = refl
  length-listed_all n (followed s ss) =
      let first = length-listed_inside n s in
      let others = length-listed_all (n + suc (inside s)) ss in
      let both = length-append (listed_inside n s) (statement_at n s ∷ listed_all (n + suc (inside s)) ss) in
      omega (arith, first, others, both)

  pub length-listed_bodies : (n : ℕ) (bs : Bodies) → length (listed_bodies n bs) ≡ count_bodies bs
  length-listed_bodies n no_body = refl
  length-listed_bodies n (k.body ss bs) =
      let first = length-listed_all n ss in
      let others = length-listed_bodies (n + count ss) bs in
      let both = length-append (listed_all n ss) (listed_bodies (n + count ss) bs) in
      omega (arith, first, others, both)

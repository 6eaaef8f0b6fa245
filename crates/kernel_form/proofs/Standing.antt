-- The statements inside a statement are in the list at their numbers.
use Rattle.std.proofs.Common.{◌≡◌, ◌∙◌, ℕ, suc, ◌+◌, List, [], ◌∷◌, ◌++◌, Some, length, slice_get, refl, sym, subst, arith}
use Rattle.std.proofs.lemmas.List.{length-append, append_assoc}
use Rattle.oz_language.specs.Kernels.{Stmt, skip, fail, local, equate, bind, bind_record, bind_procedure, call, choice, test, matching, no_match, operate, thread, attempt, raise, post, post_times, Stmts, none, followed, Bodies, no_body, body, inside, count, count_bodies, statement_at, listed_inside, listed_all, listed_bodies}
use Rattle.oz_language.specs.declared.kernel.Statement.{Statement}
use Rattle.kernel_form.specs.Pending.{Stand}

mutual
  pub length_inside : (s : Stmt) (n : ℕ) → length (listed_inside n s) ≡ inside s
  length_inside skip n = refl
  length_inside fail n = refl
  length_inside (local xs ss) n = length_all ss n
  length_inside (equate x y) n = refl
  length_inside (bind x v) n = refl
  length_inside (bind_record x l fs xs) n = refl
  length_inside (bind_procedure x xs ss) n = length_all ss n
  length_inside (call x xs) n = refl
  length_inside (choice bs) n = length_bodies bs n
  length_inside (test x ss us) n = omega (arith, length-append (listed_all n ss) (listed_all (n + count ss) us), length_all ss n, length_all us (n + count ss))
  length_inside (matching x p ss us) n = omega (arith, length-append (listed_all n ss) (listed_all (n + count ss) us), length_all ss n, length_all us (n + count ss))
  length_inside no_match n = refl
  length_inside (operate op xs) n = refl
  length_inside (thread ss) n = length_all ss n
  length_inside (attempt ss x us) n = omega (arith, length-append (listed_all n ss) (listed_all (n + count ss) us), length_all ss n, length_all us (n + count ss))
  length_inside (raise x) n = refl
  length_inside (post s c ts) n = refl
  length_inside (post_times x y z) n = refl

  pub length_all : (ss : Stmts) (n : ℕ) → length (listed_all n ss) ≡ count ss
  length_all none n = refl
  length_all (followed s ss) n =
      omega (arith, length-append (listed_inside n s) (statement_at n s ∷ listed_all (n + suc (inside s)) ss), length_inside s n, length_all ss (n + suc (inside s)))

  pub length_bodies : (bs : Bodies) (n : ℕ) → length (listed_bodies n bs) ≡ count_bodies bs
  length_bodies no_body n = refl
  length_bodies (body ss bs) n = omega (arith, length-append (listed_all n ss) (listed_bodies (n + count ss) bs), length_all ss n, length_bodies bs (n + count ss))

-- statements one behind the other
pub split : (all xs ys : List Statement) (n m : ℕ) → m ≡ n + length xs → Stand all n (xs ++ ys) → Stand all n xs × Stand all m ys
split all [] ys n m e h = let k : n ≡ m = omega (arith, e) in (tt, subst (λ i. Stand all i ys) k h)
split all (x ∷ xs) ys n m e h = let on = split all xs ys (suc n) m (omega (arith, e)) h.1 in ((h.0, on.0), on.1)

-- all that is in a list is there
get_behind : (before : List Statement) (x : Statement) (xs : List Statement) → slice_get (before ++ x ∷ xs) (length before) ≡ Some x
get_behind [] x xs = refl
get_behind (b ∷ before) x xs = get_behind before x xs

behind : (all before xs : List Statement) (n : ℕ) → n ≡ length before → all ≡ before ++ xs → Stand all n xs
behind all before [] n e h = tt
behind all before (x ∷ xs) n e h = (
  rw (e, h) (get_behind before x xs),
  behind all (before ++ x ∷ []) xs (suc n) (omega (arith, e, length-append before (x ∷ []))) (h ∙ sym (append_assoc before (x ∷ []) xs)),
)

pub all_stand : (all : List Statement) → Stand all 0 all
all_stand all = behind all [] all 0 refl refl

-- a statement, those inside it, and those behind it
pub split_statement : (all : List Statement) (s : Stmt) (ss : Stmts) (n : ℕ) → Stand all n (listed_all n (followed s ss))
    → Stand all n (listed_inside n s) × (slice_get all (n + inside s) ≡ Some (statement_at n s)) × Stand all (n + suc (inside s)) (listed_all (n + suc (inside s)) ss)
split_statement all s ss n h =
    let more = listed_all (n + suc (inside s)) ss in
    let parts = split all (listed_inside n s) (statement_at n s ∷ more) n (n + inside s) (omega (arith, length_inside s n)) h in
    let e : suc (n + inside s) ≡ n + suc (inside s) = omega arith in
    (parts.0, parts.1.0, subst (λ i. Stand all i more) e parts.1.1)

pub split_two : (all : List Statement) (ss us : Stmts) (n : ℕ) → Stand all n (listed_all n ss ++ listed_all (n + count ss) us)
    → Stand all n (listed_all n ss) × Stand all (n + count ss) (listed_all (n + count ss) us)
split_two all ss us n h = split all (listed_all n ss) (listed_all (n + count ss) us) n (n + count ss) (omega (arith, length_all ss n)) h

pub split_body : (all : List Statement) (ss : Stmts) (bs : Bodies) (n : ℕ) → Stand all n (listed_bodies n (body ss bs))
    → Stand all n (listed_all n ss) × Stand all (n + count ss) (listed_bodies (n + count ss) bs)
split_body all ss bs n h = split all (listed_all n ss) (listed_bodies (n + count ss) bs) n (n + count ss) (omega (arith, length_all ss n)) h

-- Environments with fresh identifiers, and blocks of code.
use Rattle.std.proofs.Common.{◌≡◌, ◌≢◌, ℕ, suc, ◌+◌, Bool, true, false, cond, List, [], ◌∷◌, ◌++◌, Some, None, unwrap_or, refl, sym, ◌∙◌, ap, subst, arith}
use Rattle.std.proofs.lemmas.List.{append_assoc}
use Rattle.std.specs.Ordering.{nat_cmp, eq_by_cmp}
use Rattle.std.specs.FinMap as maps
use Rattle.std.specs.FinMap.{get-insert}
use Rattle.std.specs.Cmp.{nat_cmp_total, unsigned_tied}
use Rattle.environments.specs.Environments.{Environment, code, bound, binding, nowhere}
use Rattle.oz_base.specs.declared.names.Ident.{Ident}
use Rattle.oz_language.specs.declared.kernel.Identifier.{Identifier}
use Rattle.oz_language.specs.declared.kernel.Identifier.TheVariants.{Word, Fresh}
use Rattle.oz_language.specs.declared.kernel.Statement.{Statement}
use Rattle.oz_language.specs.Kernels.{Stmts, none, followed, ◌⨾◌, inside, count, numbers, statement_at, listed_inside, listed_all}
use Rattle.oz_semantics.specs.Configurations.{frames_of}
use Rattle.oz_semantics.specs.Exceptions.{unwound}
use Rattle.oz_semantics.specs.declared.configuration.Code.TheVariants as codes
use Rattle.oz_semantics.specs.declared.configuration.Frame.{Frame}
use Rattle.oz_laws.proofs.SameLaws.{eq-refl, eq-true}
use Rattle.kernel_form.specs.Pending.{Stand}
use Rattle.kernel_form.proofs.Standing.{split, length_all}

-- ---- identifiers

same_code : (x y : Identifier) → code x ≡ code y → x ≡ y
same_code (Word m) (Word n) e = ap Word (omega (arith, e))
same_code (Fresh m) (Fresh n) e = ap Fresh (omega (arith, e))
same_code (Word m) (Fresh n) e = absurd (omega (arith, e))
same_code (Fresh m) (Word n) e = absurd (omega (arith, e))

-- an identifier that was bound, and another
pub bound_here : (x : Identifier) (v : Ident) (e : Environment) → bound (binding x v e) x ≡ v
bound_here x v e = ap (λ o. unwrap_or o nowhere) (get-insert nat_cmp_total e (code x) v (code x) ∙ ap (λ b. cond b (Some v) (maps.get e (code x))) (unsigned_tied (code x) (code x) ∙ eq-refl (code x)))

pub bound_other : (x y : Identifier) (v : Ident) (e : Environment) → y ≢ x → bound (binding x v e) y ≡ bound e y
bound_other x y v e n = ap (λ o. unwrap_or o nowhere) (get-insert nat_cmp_total e (code x) v (code y) ∙ ap (λ b. cond b (Some v) (maps.get e (code y))) (other (eq_by_cmp nat_cmp (code y) (code x)) refl)) where
  other : (b : Bool) → eq_by_cmp nat_cmp (code y) (code x) ≡ b → b ≡ false
  other true f = absurd (n (same_code y x (eq-true (code y) (code x) (sym (unsigned_tied (code y) (code x)) ∙ f))))
  other false f = refl

-- ---- blocks

-- the statements are in the program at their numbers
abbrev pub AreAt : List Statement → ℕ → Stmts → Type 0
AreAt all b ss = Stand all b (listed_all b ss)

pub listed_joined : (b : ℕ) (ss us : Stmts) → listed_all b (ss ⨾ us) ≡ listed_all b ss ++ listed_all (b + count ss) us
listed_joined b none us = (let e : b ≡ b + 0 = omega arith in ap (λ n. listed_all n us) e)
listed_joined b (followed s ss) us =
    let e : b + suc (inside s) + count ss ≡ b + (suc (inside s) + count ss) = omega arith in
    ap (λ l. listed_inside b s ++ (statement_at b s ∷ l)) (listed_joined (b + suc (inside s)) ss us ∙ ap (λ n. listed_all (b + suc (inside s)) ss ++ listed_all n us) e)
    ∙ sym (append_assoc (listed_inside b s) (statement_at b s ∷ listed_all (b + suc (inside s)) ss) (listed_all (b + (suc (inside s) + count ss)) us))

pub numbers_joined : (b : ℕ) (ss us : Stmts) → numbers b (ss ⨾ us) ≡ numbers b ss ++ numbers (b + count ss) us
numbers_joined b none us = (let e : b ≡ b + 0 = omega arith in ap (λ n. numbers n us) e)
numbers_joined b (followed s ss) us =
    let e : b + suc (inside s) + count ss ≡ b + (suc (inside s) + count ss) = omega arith in
    ap (λ l. (b + inside s) ∷ l) (numbers_joined (b + suc (inside s)) ss us ∙ ap (λ n. numbers (b + suc (inside s)) ss ++ numbers n us) e)

-- two parts of a block
pub parts_at : (all : List Statement) (b : ℕ) (ss us : Stmts) → AreAt all b (ss ⨾ us) → AreAt all b ss × AreAt all (b + count ss) us
parts_at all b ss us h = split all (listed_all b ss) (listed_all (b + count ss) us) b (b + count ss) (omega (arith, length_all ss b)) (subst (Stand all b) (listed_joined b ss us) h)

-- the frames of a block, before what else is on the stack
abbrev pub block : Environment → ℕ → Stmts → List Frame → List Frame
block e b ss rest = frames_of e (numbers b ss) ++ rest

frames_joined : (e : Environment) (ms ns : List ℕ) → frames_of e (ms ++ ns) ≡ frames_of e ms ++ frames_of e ns
frames_joined e [] ns = refl
frames_joined e (m ∷ ms) ns = ap (λ fs. record { code = codes.Statement m; environment = e } ∷ fs) (frames_joined e ms ns)

pub block_joined : (e : Environment) (b : ℕ) (ss us : Stmts) (rest : List Frame) → block e b (ss ⨾ us) rest ≡ block e b ss (block e (b + count ss) us rest)
block_joined e b ss us rest =
    ap (λ ns. frames_of e ns ++ rest) (numbers_joined b ss us) ∙ ap (λ fs. fs ++ rest) (frames_joined e (numbers b ss) (numbers (b + count ss) us))
    ∙ append_assoc (frames_of e (numbers b ss)) (frames_of e (numbers (b + count ss) us)) rest

-- a block has no mark
pub block_unmarked : (e : Environment) (b : ℕ) (ss : Stmts) (rest : List Frame) → ((x : Ident) → unwound x rest ≡ None) → (x : Ident) → unwound x (block e b ss rest) ≡ None
block_unmarked e b none rest u x = u x
block_unmarked e b (followed s ss) rest u x = block_unmarked e (b + suc (inside s)) ss rest u x

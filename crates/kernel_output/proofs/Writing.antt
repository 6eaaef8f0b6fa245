-- What the output comes to, piece by piece.
use Rattle.std.proofs.Common.{◌≡◌, ℕ, List, [], ◌∷◌, refl, ap, sym, ◌∙◌, ◌+◌, ◌++◌, length, append_assoc, ℤ, length-append}
use Rattle.std.proofs.lemmas.List.{append-nil}
use Rattle.oz_language.specs.Kernels as k
use Rattle.oz_language.specs.Kernels.{Stmts, just, none, ◌⨾◌, count, numbers, listed_all, Stmt, statement_at, listed_inside}
use Rattle.oz_language.specs.Translation.{record_or_label}
use Rattle.oz_language.specs.declared.kernel.Constant.{Constant}
use Rattle.oz_language.specs.declared.kernel.Identifier.{Identifier}
use Rattle.oz_language.specs.declared.kernel.LinearTerm.{LinearTerm}
use Rattle.oz_language.specs.declared.kernel.Sign.{Sign}
use Rattle.oz_language.specs.declared.kernel.Statement.TheVariants as numbered
use Rattle.oz_language.specs.declared.kernel.Statement.{Statement}
use Rattle.oz_language.specs.declared.token.Literal.{Literal}
use Rattle.kernel_output.proofs.Numbering.{numbers_both, listed_both, length-listed_all, length-listed_inside}
use Rattle.kernel_output.specs.Outputs.{with_statement, with_all}
use Rattle.kernel_output.specs.declared.output.Output.{Output}

-- the same statements and the same body
pub same : (s t : List Statement) (a b : List ℕ) → s ≡ t → a ≡ b →
    ◌≡◌ {A = Output} (record { statements = s; body = a }) (record { statements = t; body = b })
same s t a b e d = λ i. record { statements = e i; body = d i }

pub behind_all : (s : List Statement) (ss : Stmts) → length (s ++ listed_all (length s) ss) ≡ length s + count ss
behind_all s ss = length-append s (listed_all (length s) ss) ∙ ap (λ m. length s + m) (length-listed_all (length s) ss)

pub with_nothing : (o : Output) → with_all o none ≡ o
unfolding with_all
with_nothing o = same _ _ _ _ (append-nil o.statements) (append-nil o.body)

-- first some statements, then others
pub with_both : (o : Output) (a b : Stmts) → with_all (with_all o a) b ≡ with_all o (a ⨾ b)
unfolding with_all
with_both o a b = same _ _ _ _
    (ap (λ m. (o.statements ++ listed_all (length o.statements) a) ++ listed_all m b) (behind_all o.statements a)
    ∙ append_assoc o.statements _ _ ∙ ap (λ xs. o.statements ++ xs) (sym (listed_both (length o.statements) a b)))
    (ap (λ m. (o.body ++ numbers (length o.statements) a) ++ numbers m b) (behind_all o.statements a)
    ∙ append_assoc o.body _ _ ∙ ap (λ xs. o.body ++ xs) (sym (numbers_both (length o.statements) a b)))

-- a statement has those inside it before it
pub with_outer : (o : Output) (s : Stmt) →
    with_statement (record { statements = o.statements ++ listed_inside (length o.statements) s; body = o.body }) (statement_at (length o.statements) s)
    ≡ with_all o (just s)
unfolding with_all
with_outer o s = same _ _ _ _
    (append_assoc o.statements _ _)
    (ap (λ m. o.body ++ m ∷ []) (length-append o.statements (listed_inside (length o.statements) s) ∙ ap (λ m. length o.statements + m) (length-listed_inside (length o.statements) s)))

-- one that has none inside
pub with_plain : (o : Output) (s : Stmt) (st : Statement) → [] ≡ listed_inside (length o.statements) s → statement_at (length o.statements) s ≡ st →
    with_all o (just s) ≡ with_statement o st
with_plain o s st h e =
    sym (with_outer o s)
    ∙ ap (λ xs. with_statement (record { statements = o.statements ++ xs; body = o.body }) (statement_at (length o.statements) s)) (sym h)
    ∙ ap (λ xs. with_statement (record { statements = xs; body = o.body }) (statement_at (length o.statements) s)) (append-nil o.statements)
    ∙ ap (with_statement o) e

pub skip_written : (o : Output) → with_all o (just k.skip) ≡ with_statement o numbered.Skip
skip_written o = with_plain o k.skip numbered.Skip refl refl

pub fail_written : (o : Output) → with_all o (just k.fail) ≡ with_statement o numbered.Fail
fail_written o = with_plain o k.fail numbered.Fail refl refl

pub equate_written : (o : Output) (x y : Identifier) → with_all o (just (k.equate x y)) ≡ with_statement o (numbered.Equate x y)
equate_written o x y = with_plain o (k.equate x y) (numbered.Equate x y) refl refl

pub bind_written : (o : Output) (x : Identifier) (v : Constant) → with_all o (just (k.bind x v)) ≡ with_statement o (numbered.Bind x v)
bind_written o x v = with_plain o (k.bind x v) (numbered.Bind x v) refl refl

pub no_match_written : (o : Output) → with_all o (just k.no_match) ≡ with_statement o numbered.NoMatch
no_match_written o = with_plain o k.no_match numbered.NoMatch refl refl

pub raise_written : (o : Output) (x : Identifier) → with_all o (just (k.raise x)) ≡ with_statement o (numbered.Raise x)
raise_written o x = with_plain o (k.raise x) (numbered.Raise x) refl refl

pub call_written : (o : Output) (x : Identifier) (xs : List Identifier) → with_all o (just (k.call x xs)) ≡ with_statement o (numbered.Call x xs)
call_written o x xs = with_plain o (k.call x xs) (numbered.Call x xs) refl refl

pub record_written : (o : Output) (x : Identifier) (l : Literal) (fs : List (Constant × Identifier)) →
    with_all o (just (record_or_label x l fs)) ≡ with_statement o (statement_at 0 (record_or_label x l fs))
record_written o x l [] = with_plain o (record_or_label x l []) _ refl refl
record_written o x l (f ∷ fs) = with_plain o (record_or_label x l (f ∷ fs)) _ refl refl

pub post_written : (o : Output) (s : Sign) (c : ℤ) (ts : List LinearTerm) → with_all o (just (k.post s c ts)) ≡ with_statement o (numbered.Post s c ts)
post_written o s c ts = with_plain o (k.post s c ts) (numbered.Post s c ts) refl refl

pub post_times_written : (o : Output) (x y z : Identifier) → with_all o (just (k.post_times x y z)) ≡ with_statement o (numbered.PostTimes x y z)
post_times_written o x y z = with_plain o (k.post_times x y z) (numbered.PostTimes x y z) refl refl

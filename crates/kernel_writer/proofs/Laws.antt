-- What tasks come to, one behind the other.
use Rattle.std.proofs.Common.{◌≡◌, ℕ, ◌+◌, Option, Some, None, List, [], ◌∷◌, ◌++◌, length, append_assoc, refl, ap, sym, ◌∙◌}
use Rattle.std.specs.Borrow.{Bor}
use Rattle.oz_language.specs.Grammar.{Phrases, nothing, more}
use Rattle.oz_language.specs.Kernels.{Stmt, Stmts, none, followed, just, ◌⨾◌, inside, count, numbers, statement_at, listed_inside, listed_all, listed_bodies, pieces}
use Rattle.oz_language.specs.Kernels as k
use Rattle.oz_language.specs.Translation.{Made, made, and_then, value, variable_of, next_after, name_or, fresh_among, scoped, within, part_made, declaring, declared, translated}
use Rattle.oz_language.specs.declared.kernel.Identifier.{Identifier}
use Rattle.oz_language.specs.declared.kernel.Statement.{Statement}
use Rattle.oz_language.specs.declared.kernel.Statement.TheVariants as numbered
use Rattle.oz_syntax.specs.declared.phrase.Phrase.{Phrase as Tree}
use Rattle.oz_syntax.specs.View.{view}
use Rattle.kernel_output.specs.declared.output.Output.{Output}
use Rattle.kernel_writer.specs.declared.tasks.Task.{Task}
use Rattle.kernel_writer.specs.declared.tasks.Task.TheVariants as task
use Rattle.kernel_writer.specs.declared.tasks.Closing.TheVariants as closing
use Rattle.kernel_writer.specs.Parts.{with_one, with_two}
use Rattle.kernel_output.specs.Outputs.{with_statement, with_all}
use Rattle.kernel_writer.specs.Tasks.{State, written, added, begun, closed, numbered_behind, all_done, scope_begun, ending, declarations_begun, declarations_ending, filling}
use Rattle.kernel_output.proofs.Writing.{with_nothing, with_both, with_plain, with_outer, behind_all}

-- States

pub nothing_written : (s : State) → written s (made none s.next) ≡ s
nothing_written s = ap (λ o. record { output = o; outer = s.outer; next = s.next }) (with_nothing s.output)

-- first some statements, then others
pub written_both : (s : State) (a b : Made) → written (written s a) b ≡ written s (made (a.code ⨾ b.code) b.next)
written_both s a b = ap (λ o. record { output = o; outer = s.outer; next = b.next }) (with_both s.output a.code b.code)

-- a statement with nothing inside it
pub added_plain : (s : State) (st : Stmt) (c : Statement) → [] ≡ listed_inside (length s.output.statements) st → statement_at (length s.output.statements) st ≡ c →
    added s c ≡ written s (made (just st) s.next)
added_plain s st c h e = ap (λ o. record { output = o; outer = s.outer; next = s.next }) (sym (with_plain s.output st c h e))

-- Bodies that end

pub local_law : (s : State) (xs : List Identifier) (a : Made) → closed (closing.Local xs) (written (begun s) a) ≡ written s (made (just (k.local xs a.code)) a.next)
unfolding with_all
local_law s xs a = ap (λ o. record { output = o; outer = s.outer; next = a.next }) (with_outer s.output (k.local xs a.code))

pub procedure_law : (s : State) (x : Identifier) (xs : List Identifier) (a : Made) →
    closed (closing.Procedure x xs) (written (begun s) a) ≡ written s (made (just (k.bind_procedure x xs a.code)) a.next)
unfolding with_all
procedure_law s x xs a = ap (λ o. record { output = o; outer = s.outer; next = a.next }) (with_outer s.output (k.bind_procedure x xs a.code))

pub thread_law : (s : State) (a : Made) → closed closing.Thread (written (begun s) a) ≡ written s (made (just (k.thread a.code)) a.next)
unfolding with_all
thread_law s a = ap (λ o. record { output = o; outer = s.outer; next = a.next }) (with_outer s.output (k.thread a.code))

-- two bodies: the numbers of the second begin behind the first
two_bodies : (o : Output) (ss us : Stmts) (make : List ℕ → List ℕ → Statement) (st : Stmt) →
    (listed_all (length o.statements) ss ++ listed_all (length o.statements + count ss) us) ≡ listed_inside (length o.statements) st →
    make (numbers (length o.statements) ss) (numbers (length o.statements + count ss) us) ≡ statement_at (length o.statements) st →
    with_statement (record { statements = (o.statements ++ listed_all (length o.statements) ss) ++ listed_all (length (o.statements ++ listed_all (length o.statements) ss)) us; body = o.body })
    (make (numbers (length o.statements) ss) (numbers (length (o.statements ++ listed_all (length o.statements) ss)) us))
    ≡ with_all o (just st)
two_bodies o ss us make st h e =
    let m = length o.statements in
    ap (λ q. with_statement (record { statements = (o.statements ++ listed_all m ss) ++ listed_all q us; body = o.body }) (make (numbers m ss) (numbers q us))) (behind_all o.statements ss)
    ∙ ap (λ q. with_statement (record { statements = q; body = o.body }) (make (numbers m ss) (numbers (m + count ss) us))) (append_assoc o.statements _ _)
    ∙ ap (λ q. with_statement (record { statements = o.statements ++ q; body = o.body }) (make (numbers m ss) (numbers (m + count ss) us))) h
    ∙ ap (λ q. with_statement (record { statements = o.statements ++ listed_inside m st; body = o.body }) q) e
    ∙ with_outer o st

pub test_law : (s : State) (x : Identifier) (a b : Made) →
    closed (closing.If x) (written (begun (written (begun s) a)) b) ≡ written s (made (just (k.test x a.code b.code)) b.next)
unfolding with_all
test_law s x a b = ap (λ o. record { output = o; outer = s.outer; next = b.next }) (two_bodies s.output a.code b.code (numbered.If x) (k.test x a.code b.code) refl refl)

pub case_law : (s : State) (x : Identifier) (p : k.Pattern) (a b : Made) →
    closed (closing.Case x (pieces p)) (written (begun (written (begun s) a)) b) ≡ written s (made (just (k.matching x p a.code b.code)) b.next)
unfolding with_all
case_law s x p a b = ap (λ o. record { output = o; outer = s.outer; next = b.next }) (two_bodies s.output a.code b.code (numbered.Case x (pieces p)) (k.matching x p a.code b.code) refl refl)

pub try_law : (s : State) (x : Identifier) (a b : Made) →
    closed (closing.Try x) (written (begun (written (begun s) a)) b) ≡ written s (made (just (k.attempt a.code x b.code)) b.next)
unfolding with_all
try_law s x a b = ap (λ o. record { output = o; outer = s.outer; next = b.next }) (two_bodies s.output a.code b.code (λ c h. numbered.Try c x h) (k.attempt a.code x b.code) refl refl)

-- Scopes that end

pub scope_law : (words : List (List ℕ)) (xs : List Identifier) (ts : List Task) (s : State) (a : Made) →
    all_done words (ending xs ts) (written (scope_begun xs s) a) ≡ all_done words ts (written s (made (scoped xs a.code) a.next))
scope_law words [] ts s a = refl
scope_law words (x ∷ xs) ts s a = ap (all_done words ts) (local_law s (x ∷ xs) a)

pub declarations_law : (words : List (List ℕ)) (ds : Phrases) (ts : List Task) (s : State) (a : Made) →
    all_done words (declarations_ending ds ts) (written (declarations_begun ds s) a) ≡ all_done words ts (written s (declaring ds a))
declarations_law words nothing ts s a = refl
declarations_law words (more d ds) ts s a = ap (all_done words ts) (local_law s (declared [] (more d ds)) a)

-- the number of the next identifier does not matter where it is said
pub scope_next : (xs : List Identifier) (s : State) (n : ℕ) → (scope_begun xs s).next ≡ s.next
scope_next [] s n = refl
scope_next (x ∷ xs) s n = refl

-- Parts

pub fill_law : (words : List (List ℕ)) (x : Identifier) (v : Option Identifier) (p : Bor Tree) (ts : List Task) (s : State) →
    all_done words (filling x v p ts) s ≡ all_done words ts (written s (part_made v (λ i. translated words (value x) i (view p.now)) s.next))
fill_law words x (Some y) p ts s = ap (all_done words ts) (sym (nothing_written s))
fill_law words x None p ts s = refl

-- a part and what is done with its identifier, which comes of tasks
pub part_law : (words : List (List ℕ)) (x : Identifier) (p : Bor Tree) (ts us : List Task) (s : State) (use_of : Identifier → ℕ → Made) →
    x ≡ name_or s.next (variable_of (view p.now)) →
    ((q : State) → all_done words us q ≡ all_done words (ending (fresh_among (x ∷ [])) ts) (written q (use_of x q.next))) →
    all_done words (filling x (variable_of (view p.now)) p us) (scope_begun (fresh_among (x ∷ [])) (numbered_behind s (view p.now)))
    ≡ all_done words ts (written s (with_one words s.next (view p.now) use_of))
part_law words x p ts us s use_of is after =
    let v = variable_of (view p.now) in
    let xs = fresh_among (x ∷ []) in
    let begin = scope_begun xs (numbered_behind s (view p.now)) in
    let part = λ (y : Identifier) (i : ℕ). part_made v (λ j. translated words (value y) j (view p.now)) i in
    let first : all_done words (filling x v p us) begin ≡ all_done words (ending xs ts) (written begin (and_then (part x begin.next) (λ i. use_of x i))) =
    fill_law words x v p us begin
    ∙ after (written begin (part x begin.next))
    ∙ ap (all_done words (ending xs ts)) (written_both begin (part x begin.next) (use_of x (part x begin.next).next)) in
    first
    ∙ ap (λ i. all_done words (ending xs ts) (written begin (and_then (part x i) (λ j. use_of x j)))) (scope_next xs (numbered_behind s (view p.now)) 0)
    ∙ scope_law words xs ts (numbered_behind s (view p.now)) (and_then (part x (next_after s.next v)) (λ j. use_of x j))
    ∙ ap (λ y. all_done words ts (written s (within (y ∷ []) (and_then (part y (next_after s.next v)) (λ j. use_of y j))))) is

-- two parts, and a statement with their identifiers
pub parts_law : (words : List (List ℕ)) (x y : Identifier) (p q : Bor Tree) (ts : List Task) (s : State) (use_of : Identifier → Identifier → Stmt) (c : Statement) →
    x ≡ name_or s.next (variable_of (view p.now)) → y ≡ name_or (next_after s.next (variable_of (view p.now))) (variable_of (view q.now)) →
    ((r : State) → added r c ≡ written r (made (just (use_of x y)) r.next)) →
    all_done words (filling x (variable_of (view p.now)) p (filling y (variable_of (view q.now)) q (task.Statement c ∷ ending (fresh_among (x ∷ y ∷ [])) ts)))
    (scope_begun (fresh_among (x ∷ y ∷ [])) (numbered_behind (numbered_behind s (view p.now)) (view q.now)))
    ≡ all_done words ts (written s (with_two words s.next (view p.now) (view q.now) use_of))
parts_law words x y p q ts s use_of c ex ey plain =
    let v = variable_of (view p.now) in
    let w = variable_of (view q.now) in
    let xs = fresh_among (x ∷ y ∷ []) in
    let behind = numbered_behind (numbered_behind s (view p.now)) (view q.now) in
    let begin = scope_begun xs behind in
    let one = λ (z : Identifier) (i : ℕ). part_made v (λ j. translated words (value z) j (view p.now)) i in
    let two = λ (z : Identifier) (i : ℕ). part_made w (λ j. translated words (value z) j (view q.now)) i in
    let both = λ (z u : Identifier) (i : ℕ). and_then (and_then (one z i) (two u)) (λ j. made (just (use_of z u)) j) in
    let m = next_after (next_after s.next v) w in
    let st1 = written begin (one x begin.next) in
    let st2 = written begin (and_then (one x begin.next) (two y)) in
    fill_law words x v p (filling y w q (task.Statement c ∷ ending xs ts)) begin
    ∙ fill_law words y w q (task.Statement c ∷ ending xs ts) st1
    ∙ ap (λ r. all_done words (ending xs ts) (added r c)) (written_both begin (one x begin.next) (two y (one x begin.next).next))
    ∙ ap (all_done words (ending xs ts)) (plain st2 ∙ written_both begin (and_then (one x begin.next) (two y)) (made (just (use_of x y)) (two y (one x begin.next).next).next))
    ∙ ap (λ i. all_done words (ending xs ts) (written begin (both x y i))) (scope_next xs behind 0)
    ∙ scope_law words xs ts behind (both x y m)
    ∙ ap (λ z. all_done words ts (written s (within (z ∷ y ∷ []) (both z y m)))) ex
    ∙ ap (λ u. all_done words ts (written s (within (name_or s.next v ∷ u ∷ []) (both (name_or s.next v) u m)))) ey

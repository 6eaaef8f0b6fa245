-- What each statement puts in front of what is left comes to what the statement makes.
use Rattle.std.proofs.Common.{◌≡◌, ℕ, suc, List, [], ◌∷◌, refl, ap, sym, ◌∙◌, zero, ◌-◌, ◌++◌}
use Rattle.std.specs.Borrow.{Bor}
use Rattle.oz_language.specs.Grammar.{Phrases, more, of_list, Phrase, nothing, paren}
use Rattle.oz_language.specs.Kernels as k
use Rattle.oz_language.specs.Kernels.{just, followed, ◌⨾◌}
use Rattle.oz_language.specs.Translation.{Made, made, and_then, within, value, variable_of, next_after, name_or, names_of, behind_names, fresh_among, filled, translated, Goal, statement, result_in, scoped, called, references, between, fresh_names, behind_side, products_of, posted, kernel_of}
use Rattle.oz_language.specs.Wording.{assign_word, by_need_word}
use Rattle.oz_language.specs.declared.kernel.Identifier.TheVariants.{Word, Fresh}
use Rattle.oz_language.specs.declared.kernel.Identifier.{Identifier}
use Rattle.oz_language.specs.declared.kernel.Kernel.{Kernel}
use Rattle.oz_language.specs.declared.kernel.Statement.TheVariants as numbered
use Rattle.oz_language.specs.declared.token.Comparison.{Comparison}
use Rattle.oz_syntax.specs.View.{view, views}
use Rattle.oz_syntax.specs.declared.phrase.Phrase.{Phrase as Tree}
use Rattle.kernel_output.specs.Outputs.{with_all}
use Rattle.kernel_output.specs.declared.names.Numbers.{Numbers}
use Rattle.kernel_output.specs.declared.output.Output.{Output}
use Rattle.kernel_trans.specs.Statements.{relation_made, call_made, lazy_made}
use Rattle.kernel_values.specs.Values.{inner_made}
use Rattle.kernel_writer.proofs.Laws.{nothing_written, written_both, added_plain, scope_law, scope_next, part_law, parts_law, local_law, procedure_law}
use Rattle.kernel_writer.proofs.Outcomes.{numbered_to, outcome_by}
use Rattle.kernel_writer.specs.Goals.{goal_of}
use Rattle.kernel_writer.specs.Parts.{with_one, with_two}
use Rattle.kernel_writer.specs.Tasks.{State, state_of, written, added, begun, closed, numbered_behind, all_done, outcome, scope_begun, ending, filling, done, calling}
use Rattle.kernel_writer.specs.declared.goals.Goal.TheVariants as goal
use Rattle.kernel_writer.specs.declared.goals.Goal.{Goal as Sort}
use Rattle.kernel_writer.specs.declared.tasks.Closing.TheVariants as closing
use Rattle.kernel_writer.specs.declared.tasks.Task.TheVariants as task
use Rattle.kernel_writer.specs.declared.tasks.Task.{Task}
use Rattle.kernel_writer.specs.declared.writer.Writer.{Writer}

pub raise_law : (words : List (List ℕ)) (out : Writer) (x : Identifier) (p : Bor Tree) (ts : List Task) (s : State) → x ≡ name_or s.next (variable_of (view p.now)) →
    out.tasks ≡ filling x (variable_of (view p.now)) p (task.Statement (numbered.Raise x) ∷ ending (fresh_among (x ∷ [])) ts) →
    state_of out ≡ scope_begun (fresh_among (x ∷ [])) (numbered_behind s (view p.now)) →
    outcome words out ≡ all_done words ts (written s (with_one words s.next (view p.now) (λ y i. made (just (k.raise y)) i)))
raise_law words out x p ts s is et so =
    outcome_by words out
    (part_law words x p ts (task.Statement (numbered.Raise x) ∷ ending (fresh_among (x ∷ [])) ts) s (λ y i. made (just (k.raise y)) i) is
    (λ q. ap (all_done words (ending (fresh_among (x ∷ [])) ts)) (added_plain q (k.raise x) (numbered.Raise x) refl refl)))
    et so

pub assign_law : (words : List (List ℕ)) (out : Writer) (x y : Identifier) (p q : Bor Tree) (ts : List Task) (s : State) →
    x ≡ name_or s.next (variable_of (view p.now)) → y ≡ name_or (next_after s.next (variable_of (view p.now))) (variable_of (view q.now)) →
    out.tasks ≡ filling x (variable_of (view p.now)) p (filling y (variable_of (view q.now)) q (task.Statement (numbered.Call (Word assign_word) (x ∷ y ∷ [])) ∷ ending (fresh_among (x ∷ y ∷ [])) ts)) →
    state_of out ≡ scope_begun (fresh_among (x ∷ y ∷ [])) (numbered_behind (numbered_behind s (view p.now)) (view q.now)) →
    outcome words out ≡ all_done words ts (written s (with_two words s.next (view p.now) (view q.now) (λ z u. k.call (Word assign_word) (z ∷ u ∷ []))))
assign_law words out x y p q ts s ex ey et so =
    outcome_by words out
    (parts_law words x y p q ts s (λ z u. k.call (Word assign_word) (z ∷ u ∷ [])) (numbered.Call (Word assign_word) (x ∷ y ∷ [])) ex ey
    (λ r. added_plain r (k.call (Word assign_word) (x ∷ y ∷ [])) (numbered.Call (Word assign_word) (x ∷ y ∷ [])) refl refl))
    et so

-- two statements one behind the other
pub two_law : (words : List (List ℕ)) (out : Writer) (t u : Task) (ts : List Task) (s : State) (a : Made) (b : ℕ → Made) →
    done words t s ≡ written s a → done words u (written s a) ≡ written (written s a) (b a.next) →
    out.tasks ≡ t ∷ u ∷ ts →
    state_of out ≡ s →
    outcome words out ≡ all_done words ts (written s (and_then a b))
two_law words out t u ts s a b ft fu et so =
    outcome_by words out
    (ap (λ q. all_done words ts (done words u q)) ft ∙ ap (all_done words ts) (fu ∙ written_both s a (b a.next)))
    et so

-- an equation between two expressions that are no variables
pub equate_law : (words : List (List ℕ)) (out : Writer) (p q : Bor Tree) (ts : List Task) (s : State) →
    out.tasks ≡ task.Phrase (goal.Value (Fresh s.next)) p ∷ task.Phrase (goal.Value (Fresh s.next)) q ∷ task.Close (closing.Local (Fresh s.next ∷ [])) ∷ ts →
    state_of out ≡ begun (numbered_to s (suc s.next)) →
    outcome words out ≡ all_done words ts (written s (within (Fresh s.next ∷ []) (and_then (translated words (value (Fresh s.next)) (suc s.next) (view p.now)) (λ i. translated words (value (Fresh s.next)) i (view q.now)))))
equate_law words out p q ts s et so =
    outcome_by words out
    (let x = Fresh s.next in
    let a = translated words (value x) (suc s.next) (view p.now) in
    let b = translated words (value x) a.next (view q.now) in
    ap (λ r. all_done words ts (closed (closing.Local (x ∷ [])) r)) (written_both (begun (numbered_to s (suc s.next))) a b)
    ∙ ap (all_done words ts) (local_law (numbered_to s (suc s.next)) (x ∷ []) (made (a.code ⨾ b.code) b.next)))
    et so

fresh_all : (n m : ℕ) → fresh_among (fresh_names n m) ≡ fresh_names n m
fresh_all n zero = refl
fresh_all n (suc m) = ap (λ xs. Fresh n ∷ xs) (fresh_all (suc n) m)

fresh_between : (n m : ℕ) → fresh_among (between n m) ≡ between n m
fresh_between n m = fresh_all n (m - n)

pub relate_law : (words : List (List ℕ)) (out : Writer) (r : Comparison) (first second behind : Numbers) (p q : Bor Tree) (ts : List Task) (s : State) →
    first.next ≡ s.next → second.next ≡ behind_side s.next (view p.now) → behind.next ≡ behind_side (behind_side s.next (view p.now)) (view q.now) →
    out.tasks ≡ task.References first p ∷ task.References second q ∷ task.Relation r first p q ∷ ending (between first.next behind.next) ts →
    state_of out ≡ scope_begun (between first.next behind.next) (numbered_to s behind.next) →
    outcome words out ≡ all_done words ts (written s (relation_made words s.next r (view p.now) (view q.now)))
relate_law words out r first second behind p q ts s e1 e2 e3 et so =
    outcome_by words out
    (let a = view p.now in
    let b = view q.now in
    let xs = between first.next behind.next in
    let base = numbered_to s behind.next in
    let begin = scope_begun xs base in
    let left = λ (n i : ℕ). references words n a i in
    let right = λ (m i : ℕ). references words m b i in
    let last = λ (n : ℕ) (i : ℕ). made ((products_of n a ⨾ products_of (behind_side n a) b) ⨾ just (posted r n a b)) i in
    let all = λ (n m i : ℕ). and_then (and_then (left n i) (right m)) (last n) in
    ap (λ u. all_done words (ending xs ts) (done words (task.Relation r first p q) u)) (written_both begin (left first.next begin.next) (right second.next (left first.next begin.next).next))
    ∙ ap (all_done words (ending xs ts)) (written_both begin (and_then (left first.next begin.next) (right second.next)) (last first.next (right second.next (left first.next begin.next).next).next))
    ∙ ap (λ i. all_done words (ending xs ts) (written begin (all first.next second.next i))) (scope_next xs base 0)
    ∙ scope_law words xs ts base (all first.next second.next behind.next)
    ∙ ap (λ q. all_done words ts (written s (made (scoped q (all first.next second.next behind.next).code) (all first.next second.next behind.next).next))) (sym (fresh_between first.next behind.next))
    ∙ ap (λ n. all_done words ts (written s (within (between n behind.next) (all n second.next behind.next)))) e1
    ∙ ap (λ m. all_done words ts (written s (within (between s.next behind.next) (all s.next m behind.next)))) e2
    ∙ ap (λ l. all_done words ts (written s (within (between s.next l) (all s.next (behind_side s.next a) l)))) e3)
    et so

calling_law : (words : List (List ℕ)) (xs : List Identifier) (ts : List Task) (q : State) → all_done words (calling xs ts) q ≡ all_done words ts (written q (made (called xs) q.next))
calling_law words [] ts q = ap (all_done words ts) (sym (nothing_written q))
calling_law words (x ∷ xs) ts q = ap (all_done words ts) (added_plain q (k.call x xs) (numbered.Call x xs) refl refl)

pub call_law : (words : List (List ℕ)) (out : Writer) (goal : Goal) (first : Numbers) (ps : Bor (List Tree)) (ts : List Task) (s : State) → first.next ≡ s.next →
    out.tasks ≡ task.Filled first ps ∷ calling (names_of s.next (of_list (views ps.now)) ++ result_in goal) (ending (fresh_among (names_of s.next (of_list (views ps.now)))) ts) →
    state_of out ≡ scope_begun (fresh_among (names_of s.next (of_list (views ps.now)))) (numbered_to s (behind_names s.next (of_list (views ps.now)))) →
    outcome words out ≡ all_done words ts (written s (call_made words goal s.next (of_list (views ps.now))))
call_law words out goal first ps ts s e et so =
    outcome_by words out
    (let n = s.next in
    let es = of_list (views ps.now) in
    let names = names_of n es in
    let xs = fresh_among names in
    let base = numbered_to s (behind_names n es) in
    let begin = scope_begun xs base in
    let parts = λ (m i : ℕ). filled words m es i in
    let all = λ (m i : ℕ). and_then (parts m i) (λ j. made (called (names ++ result_in goal)) j) in
    calling_law words (names ++ result_in goal) (ending xs ts) (written begin (parts first.next begin.next))
    ∙ ap (all_done words (ending xs ts)) (written_both begin (parts first.next begin.next) (made (called (names ++ result_in goal)) (parts first.next begin.next).next))
    ∙ ap (λ i. all_done words (ending xs ts) (written begin (all first.next i))) (scope_next xs base 0)
    ∙ scope_law words xs ts base (all first.next (behind_names n es))
    ∙ ap (λ m. all_done words ts (written s (within names (all m (behind_names n es))))) e)
    et so

pub body_law : (words : List (List ℕ)) (out : Writer) (x : Identifier) (xs : List Identifier) (g : Sort) (p : Bor Tree) (ts : List Task) (s : State) (n : ℕ) →
    out.tasks ≡ task.Phrase g p ∷ task.Close (closing.Procedure x xs) ∷ ts →
    state_of out ≡ begun (numbered_to s n) →
    outcome words out ≡ all_done words ts (written s (made (just (k.bind_procedure x xs (translated words (goal_of g) n (view p.now)).code)) (translated words (goal_of g) n (view p.now)).next))
body_law words out x xs g p ts s n et so =
    outcome_by words out
    (ap (all_done words ts) (procedure_law (numbered_to s n) x xs (translated words (goal_of g) n (view p.now))))
    et so

pub lazy_law : (words : List (List ℕ)) (out : Writer) (r : Identifier) (p : Bor Tree) (ts : List Task) (s : State) →
    out.tasks ≡ task.Phrase (goal.Value (Fresh (suc s.next))) p ∷ task.Close (closing.Procedure (Fresh s.next) (Fresh (suc s.next) ∷ [])) ∷ task.Statement (numbered.Call (Word by_need_word) (Fresh s.next ∷ r ∷ [])) ∷ task.Close (closing.Local (Fresh s.next ∷ [])) ∷ ts →
    state_of out ≡ begun (begun (numbered_to s (suc (suc s.next)))) →
    outcome words out ≡ all_done words ts (written s (lazy_made words r s.next (view p.now)))
lazy_law words out r p ts s et so =
    outcome_by words out
    (let f = Fresh s.next in
    let x = Fresh (suc s.next) in
    let base = numbered_to s (suc (suc s.next)) in
    let a = translated words (value x) (suc (suc s.next)) (view p.now) in
    let bound = made (just (k.bind_procedure f (x ∷ []) a.code)) a.next in
    ap (λ q. all_done words ts (closed (closing.Local (f ∷ [])) (added q (numbered.Call (Word by_need_word) (f ∷ r ∷ []))))) (procedure_law (begun base) f (x ∷ []) a)
    ∙ ap (λ q. all_done words ts (closed (closing.Local (f ∷ [])) q)) (added_plain (written (begun base) bound) (k.call (Word by_need_word) (f ∷ r ∷ [])) (numbered.Call (Word by_need_word) (f ∷ r ∷ [])) refl refl)
    ∙ ap (λ q. all_done words ts (closed (closing.Local (f ∷ [])) q)) (written_both (begun base) bound (made (just (k.call (Word by_need_word) (f ∷ r ∷ []))) a.next))
    ∙ ap (all_done words ts) (local_law base (f ∷ []) (made (followed (k.bind_procedure f (x ∷ []) a.code) (just (k.call (Word by_need_word) (f ∷ r ∷ [])))) a.next)))
    et so

-- a lazy function, whose body is put in front of what ends it
pub lazy_function_law : (words : List (List ℕ)) (x : Identifier) (xs : List Identifier) (n : ℕ) (p : Phrase) (ts : List Task) (s : State) →
    all_done words (task.Close (closing.Procedure x (xs ++ Fresh n ∷ [])) ∷ ts) (written (begun (numbered_to s (suc n))) (lazy_made words (Fresh n) (suc n) p))
    ≡ all_done words ts (written s (made (just (k.bind_procedure x (xs ++ Fresh n ∷ []) (lazy_made words (Fresh n) (suc n) p).code)) (lazy_made words (Fresh n) (suc n) p).next))
lazy_function_law words x xs n p ts s = ap (all_done words ts) (procedure_law (numbered_to s (suc n)) x (xs ++ Fresh n ∷ []) (lazy_made words (Fresh n) (suc n) p))

-- where a parenthesis stands does not matter
pub inner_anywhere : (words : List (List ℕ)) (x : Identifier) (n at : ℕ) (es : Phrases) → translated words (value x) n (paren at es) ≡ inner_made words x n es
inner_anywhere words x n at nothing = refl
inner_anywhere words x n at (more e nothing) = refl
inner_anywhere words x n at (more e (more f fs)) = refl

pub kernel_law : (words texts : List (List ℕ)) (o : Output) (p : Phrase) → texts ≡ words → o ≡ with_all (record { statements = []; body = [] }) (translated words statement 1 p).code →
    ◌≡◌ {A = Kernel} (record { words = texts; statements = o.statements; body = o.body }) (kernel_of (record { words = words; phrase = p }))
unfolding with_all kernel_of
kernel_law words texts o p ew eo = λ i. record { words = ew i; statements = (eo i).statements; body = (eo i).body }

-- What each expression puts in front of what is left comes to what the expression makes.
use Rattle.std.proofs.Common.{◌≡◌, ℕ, suc, true, false, Option, Some, None, List, [], ◌∷◌, refl, ap, sym, ◌∙◌}
use Rattle.std.specs.Borrow.{Bor}
use Rattle.std.specs.List.{zip}
use Rattle.oz_language.specs.Arities.{in_arity_order}
use Rattle.oz_language.specs.Grammar.{Phrases, more, of_list, Phrase, nothing}
use Rattle.oz_language.specs.Kernels as k
use Rattle.oz_language.specs.Kernels.{just, inside}
use Rattle.oz_language.specs.Translation.{Made, made, and_then, preceded, within, value, variable_of, next_after, name_or, names_of, behind_names, fresh_among, part_made, cell_made, cell_bound, last_variable, list_made, chain_made, filled, record_bound, keys_of, and_made, or_made, truth, translated}
use Rattle.oz_language.specs.Wording.{access_word}
use Rattle.oz_language.specs.declared.kernel.Constant.TheVariants as constant
use Rattle.oz_language.specs.declared.kernel.Identifier.TheVariants.{Word, Fresh}
use Rattle.oz_language.specs.declared.kernel.Identifier.{Identifier}
use Rattle.oz_language.specs.declared.kernel.Operation.{Operation}
use Rattle.oz_language.specs.declared.kernel.Statement.TheVariants as numbered
use Rattle.oz_language.specs.declared.kernel.Statement.{Statement}
use Rattle.oz_language.specs.declared.token.Literal.TheVariants as literals
use Rattle.oz_language.specs.declared.token.Literal.{Literal}
use Rattle.oz_syntax.specs.View.{view, views}
use Rattle.oz_syntax.specs.declared.phrase.Phrase.{Phrase as Tree}
use Rattle.kernel_output.proofs.Writing.{record_written}
use Rattle.kernel_output.specs.declared.names.Numbers.{Numbers}
use Rattle.kernel_values.specs.Values.{record_made, accessed, links_made}
use Rattle.kernel_writer.proofs.Laws.{nothing_written, written_both, added_plain, test_law, scope_law, scope_next, fill_law, part_law, parts_law}
use Rattle.kernel_writer.proofs.Outcomes.{numbered_to, outcome_by}
use Rattle.kernel_writer.specs.Parts.{with_one, with_two, result_names}
use Rattle.kernel_writer.specs.Tasks.{State, state_of, written, added, begun, closed, numbered_behind, all_done, outcome, scope_begun, ending, filling, chain_tail}
use Rattle.kernel_writer.specs.declared.goals.Goal.TheVariants as goal
use Rattle.kernel_writer.specs.declared.tasks.Closing.TheVariants as closing
use Rattle.kernel_writer.specs.declared.tasks.Task.TheVariants as task
use Rattle.kernel_writer.specs.declared.tasks.Task.{Task}
use Rattle.kernel_writer.specs.declared.writer.Writer.{Writer}

pub access_law : (words : List (List ℕ)) (out : Writer) (x y : Identifier) (p : Bor Tree) (ts : List Task) (s : State) → y ≡ name_or s.next (variable_of (view p.now)) →
    out.tasks ≡ filling y (variable_of (view p.now)) p (task.Statement (numbered.Call (Word access_word) (y ∷ x ∷ [])) ∷ ending (fresh_among (y ∷ [])) ts) →
    state_of out ≡ scope_begun (fresh_among (y ∷ [])) (numbered_behind s (view p.now)) →
    outcome words out ≡ all_done words ts (written s (accessed words x s.next (view p.now)))
access_law words out x y p ts s is et so =
    outcome_by words out
    (part_law words y p ts (task.Statement (numbered.Call (Word access_word) (y ∷ x ∷ [])) ∷ ending (fresh_among (y ∷ [])) ts) s (λ z i. made (just (k.call (Word access_word) (z ∷ x ∷ []))) i) is
    (λ q. ap (all_done words (ending (fresh_among (y ∷ [])) ts)) (added_plain q (k.call (Word access_word) (y ∷ x ∷ [])) (numbered.Call (Word access_word) (y ∷ x ∷ [])) refl refl)))
    et so

pub and_law : (words : List (List ℕ)) (out : Writer) (x y : Identifier) (p q : Bor Tree) (ts : List Task) (s : State) → y ≡ name_or s.next (variable_of (view p.now)) →
    out.tasks ≡ filling y (variable_of (view p.now)) p (task.Begin ∷ task.Phrase (goal.Value x) q ∷ task.Begin ∷ task.Statement (numbered.Bind x (constant.Literal literals.False)) ∷ task.Close (closing.If y) ∷ ending (fresh_among (y ∷ [])) ts) →
    state_of out ≡ scope_begun (fresh_among (y ∷ [])) (numbered_behind s (view p.now)) →
    outcome words out ≡ all_done words ts (written s (with_one words s.next (view p.now) (λ z i. and_made x z (translated words (value x) i (view q.now)))))
and_law words out x y p q ts s is et so =
    outcome_by words out
    (part_law words y p ts (task.Begin ∷ task.Phrase (goal.Value x) q ∷ task.Begin ∷ task.Statement (numbered.Bind x (constant.Literal literals.False)) ∷ task.Close (closing.If y) ∷ ending (fresh_among (y ∷ [])) ts) s
    (λ z i. and_made x z (translated words (value x) i (view q.now))) is
    (λ r.
    let b = translated words (value x) r.next (view q.now) in
    ap (λ u. all_done words (ending (fresh_among (y ∷ [])) ts) (closed (closing.If y) u)) (added_plain (begun (written (begun r) b)) (k.bind x (truth false)) (numbered.Bind x (truth false)) refl refl)
    ∙ ap (all_done words (ending (fresh_among (y ∷ [])) ts)) (test_law r y b (made (just (k.bind x (truth false))) b.next))))
    et so

pub or_law : (words : List (List ℕ)) (out : Writer) (x y : Identifier) (p q : Bor Tree) (ts : List Task) (s : State) → y ≡ name_or s.next (variable_of (view p.now)) →
    out.tasks ≡ filling y (variable_of (view p.now)) p (task.Begin ∷ task.Statement (numbered.Bind x (constant.Literal literals.True)) ∷ task.Begin ∷ task.Phrase (goal.Value x) q ∷ task.Close (closing.If y) ∷ ending (fresh_among (y ∷ [])) ts) →
    state_of out ≡ scope_begun (fresh_among (y ∷ [])) (numbered_behind s (view p.now)) →
    outcome words out ≡ all_done words ts (written s (with_one words s.next (view p.now) (λ z i. or_made x z (translated words (value x) i (view q.now)))))
or_law words out x y p q ts s is et so =
    outcome_by words out
    (part_law words y p ts (task.Begin ∷ task.Statement (numbered.Bind x (constant.Literal literals.True)) ∷ task.Begin ∷ task.Phrase (goal.Value x) q ∷ task.Close (closing.If y) ∷ ending (fresh_among (y ∷ [])) ts) s
    (λ z i. or_made x z (translated words (value x) i (view q.now))) is
    (λ r.
    let b = translated words (value x) r.next (view q.now) in
    ap (λ u. all_done words (ending (fresh_among (y ∷ [])) ts) (closed (closing.If y) (written (begun u) b))) (added_plain (begun r) (k.bind x (truth true)) (numbered.Bind x (truth true)) refl refl)
    ∙ ap (all_done words (ending (fresh_among (y ∷ [])) ts)) (test_law r y (made (just (k.bind x (truth true))) r.next) b)))
    et so

pub apply_law : (words : List (List ℕ)) (out : Writer) (op : Operation) (given : Option Identifier) (x y : Identifier) (p q : Bor Tree) (ts : List Task) (s : State) →
    x ≡ name_or s.next (variable_of (view p.now)) → y ≡ name_or (next_after s.next (variable_of (view p.now))) (variable_of (view q.now)) →
    out.tasks ≡ filling x (variable_of (view p.now)) p (filling y (variable_of (view q.now)) q (task.Statement (numbered.Operate op (x ∷ y ∷ result_names given)) ∷ ending (fresh_among (x ∷ y ∷ [])) ts)) →
    state_of out ≡ scope_begun (fresh_among (x ∷ y ∷ [])) (numbered_behind (numbered_behind s (view p.now)) (view q.now)) →
    outcome words out ≡ all_done words ts (written s (with_two words s.next (view p.now) (view q.now) (λ z u. k.operate op (z ∷ u ∷ result_names given))))
apply_law words out op given x y p q ts s ex ey et so =
    outcome_by words out
    (parts_law words x y p q ts s (λ z u. k.operate op (z ∷ u ∷ result_names given)) (numbered.Operate op (x ∷ y ∷ result_names given)) ex ey
    (λ r. added_plain r (k.operate op (x ∷ y ∷ result_names given)) (numbered.Operate op (x ∷ y ∷ result_names given)) refl refl))
    et so

pub filled_law : (words : List (List ℕ)) (out : Writer) (x : Identifier) (m : ℕ) (behind : Numbers) (p : Bor Tree) (ps : Bor (List Tree)) (es : Phrases) (ts : List Task) (s : State) →
    x ≡ name_or m (variable_of (view p.now)) → behind.next ≡ next_after m (variable_of (view p.now)) → es ≡ more (view p.now) (of_list (views ps.now)) →
    out.tasks ≡ filling x (variable_of (view p.now)) p (task.Filled behind ps ∷ ts) →
    state_of out ≡ s →
    outcome words out ≡ all_done words ts (written s (filled words m es s.next))
filled_law words out x m behind p ps es ts s ex eb ee et so =
    outcome_by words out
    (let v = variable_of (view p.now) in
    let rest = of_list (views ps.now) in
    let part = λ (y : Identifier). part_made v (λ i. translated words (value y) i (view p.now)) s.next in
    fill_law words x v p (task.Filled behind ps ∷ ts) s
    ∙ ap (all_done words ts) (written_both s (part x) (filled words behind.next rest (part x).next))
    ∙ ap (λ y. all_done words ts (written s (and_then (part y) (λ i. filled words behind.next rest i)))) ex
    ∙ ap (λ n. all_done words ts (written s (and_then (part (name_or m v)) (λ i. filled words n rest i)))) eb
    ∙ ap (λ q. all_done words ts (written s (filled words m q s.next))) (sym ee))
    et so

pub record_law : (words : List (List ℕ)) (out : Writer) (w : Writer) (x : Identifier) (l : Literal) (ps : Bor (List Tree)) (ts : List Task) (st : Statement) →
    st ≡ k.statement_at 0 (record_bound words x l (of_list (views ps.now)) (names_of w.numbers.next (of_list (views ps.now)))) →
    out.tasks ≡ task.Filled w.numbers ps ∷ ending (fresh_among (names_of w.numbers.next (of_list (views ps.now)))) ts →
    state_of out ≡ added (scope_begun (fresh_among (names_of w.numbers.next (of_list (views ps.now)))) (numbered_to (state_of w) (behind_names w.numbers.next (of_list (views ps.now))))) st →
    outcome words out ≡ all_done words ts (written (state_of w) (record_made words x w.numbers.next l (of_list (views ps.now))))
record_law words out w x l ps ts st is et so =
    outcome_by words out
    (let n = w.numbers.next in
    let fs = of_list (views ps.now) in
    let names = names_of n fs in
    let xs = fresh_among names in
    let behind = numbered_to (state_of w) (behind_names n fs) in
    let begin = scope_begun xs behind in
    let bound = record_bound words x l fs names in
    let plain : added begin st ≡ written begin (made (just bound) begin.next) =
    ap (added begin) is ∙ ap (λ o. record { output = o; outer = begin.outer; next = begin.next }) (sym (record_written begin.output x l (in_arity_order words (zip (keys_of fs) names)))) in
    ap (λ q. all_done words (ending xs ts) (written q (filled words n fs q.next))) plain
    ∙ ap (all_done words (ending xs ts)) (written_both begin (made (just bound) begin.next) (filled words n fs begin.next))
    ∙ ap (λ i. all_done words (ending xs ts) (written begin (preceded bound (filled words n fs i)))) (scope_next xs behind 0)
    ∙ scope_law words xs ts behind (preceded bound (filled words n fs (behind_names n fs))))
    et so

-- a cell, by what its tail is
pub cell_law : (words : List (List ℕ)) (x y z : Identifier) (p : Bor Tree) (t : Option Identifier) (rest : Identifier → ℕ → Made) (ts us : List Task) (s : State) →
    y ≡ name_or s.next (variable_of (view p.now)) → z ≡ name_or (next_after s.next (variable_of (view p.now))) t →
    ((q : State) → all_done words us q ≡ all_done words (ending (fresh_among (y ∷ z ∷ [])) ts) (written q (part_made t (rest z) q.next))) →
    all_done words (filling y (variable_of (view p.now)) p us)
    (written (scope_begun (fresh_among (y ∷ z ∷ [])) (numbered_to s (next_after (next_after s.next (variable_of (view p.now))) t))) (made (just (cell_bound x y z)) (next_after (next_after s.next (variable_of (view p.now))) t)))
    ≡ all_done words ts (written s (cell_made s.next x (variable_of (view p.now)) t (λ y i. translated words (value y) i (view p.now)) rest))
cell_law words x y z p t rest ts us s ey ez after =
    let v = variable_of (view p.now) in
    let m = next_after s.next v in
    let j = next_after m t in
    let xs = fresh_among (y ∷ z ∷ []) in
    let behind = numbered_to s j in
    let begin = scope_begun xs behind in
    let cell = made (just (cell_bound x y z)) j in
    let head = λ (u : Identifier). part_made v (λ i. translated words (value u) i (view p.now)) j in
    let inside = λ (u w : Identifier). and_then (head u) (part_made t (rest w)) in
    fill_law words y v p us (written begin cell)
    ∙ after (written (written begin cell) (head y))
    ∙ ap (λ q. all_done words (ending xs ts) (written q (part_made t (rest z) (head y).next))) (written_both begin cell (head y))
    ∙ ap (all_done words (ending xs ts)) (written_both begin (preceded (cell_bound x y z) (head y)) (part_made t (rest z) (head y).next))
    ∙ scope_law words xs ts behind (preceded (cell_bound x y z) (inside y z))
    ∙ ap (λ u. all_done words ts (written s (within (u ∷ z ∷ []) (preceded (cell_bound x u z) (inside u z))))) ey
    ∙ ap (λ w. all_done words ts (written s (within (name_or s.next v ∷ w ∷ []) (preceded (cell_bound x (name_or s.next v) w) (inside (name_or s.next v) w))))) ez

pub list_law : (words : List (List ℕ)) (out : Writer) (x y z : Identifier) (p : Bor Tree) (ps : Bor (List Tree)) (es : Phrases) (ts : List Task) (s : State) →
    y ≡ name_or s.next (variable_of (view p.now)) → z ≡ Fresh (next_after s.next (variable_of (view p.now))) → es ≡ more (view p.now) (of_list (views ps.now)) →
    out.tasks ≡ filling y (variable_of (view p.now)) p (task.List z ps ∷ ending (fresh_among (y ∷ z ∷ [])) ts) →
    state_of out ≡ written (scope_begun (fresh_among (y ∷ z ∷ [])) (numbered_to s (suc (next_after s.next (variable_of (view p.now)))))) (made (just (cell_bound x y z)) (suc (next_after s.next (variable_of (view p.now))))) →
    outcome words out ≡ all_done words ts (written s (list_made words x es s.next))
list_law words out x y z p ps es ts s ey ez ee et so =
    outcome_by words out
    (cell_law words x y z p None (λ u i. list_made words u (of_list (views ps.now)) i) ts (task.List z ps ∷ ending (fresh_among (y ∷ z ∷ [])) ts) s ey ez (λ q. refl)
    ∙ ap (λ q. all_done words ts (written s (list_made words x q s.next))) (sym ee))
    et so

tail_law : (words : List (List ℕ)) (z : Identifier) (t : Option Identifier) (ps : Bor (List Tree)) (ts : List Task) (q : State) →
    all_done words (chain_tail z t ps ts) q ≡ all_done words ts (written q (part_made t (λ i. chain_made words z (of_list (views ps.now)) i) q.next))
tail_law words z (Some t) ps ts q = ap (all_done words ts) (sym (nothing_written q))
tail_law words z None ps ts q = refl

pub links_law : (words : List (List ℕ)) (out : Writer) (x y z : Identifier) (p : Bor Tree) (ps : Bor (List Tree)) (ts : List Task) (s : State) →
    y ≡ name_or s.next (variable_of (view p.now)) → z ≡ name_or (next_after s.next (variable_of (view p.now))) (last_variable (of_list (views ps.now))) →
    out.tasks ≡ filling y (variable_of (view p.now)) p (chain_tail z (last_variable (of_list (views ps.now))) ps (ending (fresh_among (y ∷ z ∷ [])) ts)) →
    state_of out ≡ written (scope_begun (fresh_among (y ∷ z ∷ [])) (numbered_to s (next_after (next_after s.next (variable_of (view p.now))) (last_variable (of_list (views ps.now)))))) (made (just (cell_bound x y z)) (next_after (next_after s.next (variable_of (view p.now))) (last_variable (of_list (views ps.now))))) →
    outcome words out ≡ all_done words ts (written s (links_made words x s.next (view p.now) (of_list (views ps.now))))
links_law words out x y z p ps ts s ey ez et so =
    outcome_by words out
    (cell_law words x y z p (last_variable (of_list (views ps.now))) (λ u i. chain_made words u (of_list (views ps.now)) i) ts (chain_tail z (last_variable (of_list (views ps.now))) ps (ending (fresh_among (y ∷ z ∷ [])) ts)) s ey ez
    (λ q. tail_law words z (last_variable (of_list (views ps.now))) ps (ending (fresh_among (y ∷ z ∷ [])) ts) q))
    et so

pub chain_then : (words : List (List ℕ)) (x : Identifier) (p : Phrase) (n : ℕ) {es qs : Phrases} {q : Phrase} → es ≡ more q qs → links_made words x n p es ≡ chain_made words x (more p es) n
chain_then words x p n {es} {qs} {q} e =
    ap (links_made words x n p) e ∙ ap (λ fs. chain_made words x (more p fs) n) (sym e)

pub chain_alone : (words : List (List ℕ)) (x : Identifier) (p : Phrase) (n : ℕ) {es : Phrases} → es ≡ nothing → translated words (value x) n p ≡ chain_made words x (more p es) n
chain_alone words x p n e = ap (λ fs. chain_made words x (more p fs) n) (sym e)

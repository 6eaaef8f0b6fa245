-- What each construct with bodies puts in front of what is left comes to what the construct makes.
use Rattle.std.proofs.Common.{◌≡◌, ℕ, List, [], ◌∷◌, refl, ap, sym, ◌∙◌, ◌+◌, ◌++◌, length, append_assoc}
use Rattle.std.proofs.lemmas.List.{append-nil}
use Rattle.std.specs.Borrow.{Bor}
use Rattle.oz_language.specs.Grammar.{Phrases, more, of_list, Phrase, nothing, arm, clause}
use Rattle.oz_language.specs.Kernels as k
use Rattle.oz_language.specs.Kernels.{Stmts, just, Bodies, count, pieces, numbers, numbers_each, listed_all, listed_bodies, inside}
use Rattle.oz_language.specs.Translation.{Made, made, and_then, variable_of, name_or, fresh_among, translated, statement, Alternatives, translated_each, valued_last, alternatives, arms_made, clauses_made, patterned}
use Rattle.oz_language.specs.declared.kernel.Identifier.{Identifier}
use Rattle.oz_language.specs.declared.kernel.Statement.TheVariants as numbered
use Rattle.oz_syntax.specs.View.{view, views}
use Rattle.oz_syntax.specs.declared.phrase.Phrase.{Phrase as Tree}
use Rattle.kernel_bodies.specs.Bodies.{thread_made, case_made, body_made, last_statements, then_valued}
use Rattle.kernel_output.proofs.Writing.{same, behind_all, with_outer}
use Rattle.kernel_output.specs.Outputs.{with_statement, with_all, with_inside, with_bodies}
use Rattle.kernel_output.specs.declared.output.Output.{Output}
use Rattle.kernel_writer.proofs.Laws.{written_both, added_plain, test_law, part_law, thread_law, case_law, try_law, declarations_law}
use Rattle.kernel_writer.proofs.Outcomes.{numbered_to, outcome_by}
use Rattle.kernel_writer.specs.Goals.{goal_of}
use Rattle.kernel_writer.specs.Tasks.{State, state_of, written, added, begun, closed, numbered_behind, all_done, outcome, scope_begun, ending, filling, last_made, chosen, no_alternatives, gathered, done, declarations_begun, declarations_ending, standing}
use Rattle.kernel_writer.specs.declared.goals.Goal.TheVariants as goal
use Rattle.kernel_writer.specs.declared.goals.Goal.{Goal as Sort}
use Rattle.kernel_writer.specs.declared.tasks.Closing.TheVariants as closing
use Rattle.kernel_writer.specs.declared.tasks.Last.{Last}
use Rattle.kernel_writer.specs.declared.tasks.Task.TheVariants as task
use Rattle.kernel_writer.specs.declared.tasks.Task.{Task}
use Rattle.kernel_writer.specs.declared.writer.Writer.{Writer}

pub declaring_law : (words : List (List ℕ)) (out : Writer) (t : Task) (p : Bor (List Tree)) (ts : List Task) (s : State) (inside : ℕ → Made) →
    ((q : State) → done words t q ≡ written q (inside q.next)) →
    out.tasks ≡ task.Each p ∷ t ∷ declarations_ending (of_list (views p.now)) ts →
    state_of out ≡ declarations_begun (of_list (views p.now)) s →
    outcome words out ≡ all_done words ts (written s (body_made words s.next (of_list (views p.now)) inside))
declaring_law words out t p ts s inside e et so =
    outcome_by words out
    (let ds = of_list (views p.now) in
    let begin = declarations_begun ds s in
    let a = λ (i : ℕ). translated_each words i ds in
    ap (all_done words (declarations_ending ds ts)) (e (written begin (a begin.next)) ∙ written_both begin (a begin.next) (inside (a begin.next).next))
    ∙ ap (λ i. all_done words (declarations_ending ds ts) (written begin (and_then (a i) inside))) (declarations_next ds s)
    ∙ declarations_law words ds ts s (and_then (a s.next) inside))
    et so
  where
    declarations_next : (ds : Phrases) (s : State) → (declarations_begun ds s).next ≡ s.next
    declarations_next nothing s = refl
    declarations_next (more d ds) s = refl

pub standing_law : (words : List (List ℕ)) (es : Phrases) (ps : Bor (List Tree)) (q : State) → es ≡ of_list (views ps.now) →
    done words (standing es ps) q ≡ written q (last_statements words q.next es)
standing_law words nothing ps q h = added_plain q k.skip numbered.Skip refl refl
standing_law words (more e es) ps q h = ap (λ u. written q (translated_each words q.next u)) (sym h)

pub each_law : (words : List (List ℕ)) (out : Writer) (p : Bor Tree) (ps : Bor (List Tree)) (es : Phrases) (ts : List Task) (s : State) → es ≡ more (view p.now) (of_list (views ps.now)) →
    out.tasks ≡ task.Phrase goal.Statement p ∷ task.Each ps ∷ ts →
    state_of out ≡ s →
    outcome words out ≡ all_done words ts (written s (translated_each words s.next es))
each_law words out p ps es ts s e et so =
    outcome_by words out
    (let a = translated words statement s.next (view p.now) in
    ap (all_done words ts) (written_both s a (translated_each words a.next (of_list (views ps.now))))
    ∙ ap (λ q. all_done words ts (written s (translated_each words s.next q))) (sym e))
    et so

pub valued_law : (words : List (List ℕ)) (out : Writer) (x : Identifier) (p : Bor Tree) (ps : Bor (List Tree)) (ts : List Task) (s : State) →
    out.tasks ≡ task.Phrase goal.Statement p ∷ task.ValuedLast x ps ∷ ts →
    state_of out ≡ s →
    outcome words out ≡ all_done words ts (written s (then_valued words x s.next (view p.now) (of_list (views ps.now))))
valued_law words out x p ps ts s et so =
    let a = translated words statement s.next (view p.now) in
    outcome_by words out (ap (all_done words ts) (written_both s a (valued_last words x (of_list (views ps.now)) a.next))) et so

pub thread_step : (words : List (List ℕ)) (out : Writer) (g : Sort) (p : Bor Tree) (ts : List Task) (s : State) →
    out.tasks ≡ task.Phrase g p ∷ task.Close closing.Thread ∷ ts →
    state_of out ≡ begun s →
    outcome words out ≡ all_done words ts (written s (thread_made words (goal_of g) s.next (view p.now)))
thread_step words out g p ts s et so =
    outcome_by words out
    (ap (all_done words ts) (thread_law s (translated words (goal_of g) s.next (view p.now))))
    et so

pub arm_law : (words : List (List ℕ)) (out : Writer) (g : Sort) (x : Identifier) (e b : Bor Tree) (xs : Bor (List Tree)) (last : Last) (ts : List Task) (s : State) → x ≡ name_or s.next (variable_of (view e.now)) →
    out.tasks ≡ filling x (variable_of (view e.now)) e (task.Begin ∷ task.Phrase g b ∷ task.Begin ∷ task.Arms g xs last ∷ task.Close (closing.If x) ∷ ending (fresh_among (x ∷ [])) ts) →
    state_of out ≡ scope_begun (fresh_among (x ∷ [])) (numbered_behind s (view e.now)) →
    outcome words out ≡ all_done words ts (written s (arms_made words (goal_of g) (more (arm (view e.now) (view b.now)) (of_list (views xs.now))) (last_made words (goal_of g) last) s.next))
arm_law words out g x e b xs last ts s is et so =
    outcome_by words out
    (part_law words x e ts (task.Begin ∷ task.Phrase g b ∷ task.Begin ∷ task.Arms g xs last ∷ task.Close (closing.If x) ∷ ending (fresh_among (x ∷ [])) ts) s
    (λ y i.
    let a = translated words (goal_of g) i (view b.now) in
    let rest = arms_made words (goal_of g) (of_list (views xs.now)) (last_made words (goal_of g) last) a.next in
    made (just (k.test y a.code rest.code)) rest.next)
    is
    (λ q.
    let a = translated words (goal_of g) q.next (view b.now) in
    ap (all_done words (ending (fresh_among (x ∷ [])) ts)) (test_law q x a (arms_made words (goal_of g) (of_list (views xs.now)) (last_made words (goal_of g) last) a.next))))
    et so

pub clause_law : (words : List (List ℕ)) (out : Writer) (g : Sort) (x : Identifier) (p : Phrase) (b : Bor Tree) (cs : Bor (List Tree)) (last : Last) (ts : List Task) (s : State) →
    out.tasks ≡ task.Phrase g b ∷ task.Begin ∷ task.Clauses g x cs last ∷ task.Close (closing.Case x (pieces (patterned words p))) ∷ ts →
    state_of out ≡ begun s →
    outcome words out ≡ all_done words ts (written s (clauses_made words (goal_of g) x (more (clause p (view b.now)) (of_list (views cs.now))) (last_made words (goal_of g) last) s.next))
clause_law words out g x p b cs last ts s et so =
    outcome_by words out
    (let a = translated words (goal_of g) s.next (view b.now) in
    ap (all_done words ts) (case_law s x (patterned words p) a (clauses_made words (goal_of g) x (of_list (views cs.now)) (last_made words (goal_of g) last) a.next)))
    et so

pub cases_law : (words : List (List ℕ)) (out : Writer) (g : Sort) (x : Identifier) (e : Bor Tree) (cs : Bor (List Tree)) (last : Last) (ts : List Task) (s : State) → x ≡ name_or s.next (variable_of (view e.now)) →
    out.tasks ≡ filling x (variable_of (view e.now)) e (task.Clauses g x cs last ∷ ending (fresh_among (x ∷ [])) ts) →
    state_of out ≡ scope_begun (fresh_among (x ∷ [])) (numbered_behind s (view e.now)) →
    outcome words out ≡ all_done words ts (written s (case_made words (goal_of g) s.next (view e.now) (of_list (views cs.now)) (last_made words (goal_of g) last)))
cases_law words out g x e cs last ts s is et so =
    outcome_by words out
    (part_law words x e ts (task.Clauses g x cs last ∷ ending (fresh_among (x ∷ [])) ts) s
    (λ y i. clauses_made words (goal_of g) y (of_list (views cs.now)) (last_made words (goal_of g) last) i) is (λ q. refl))
    et so

pub attempt_law : (words : List (List ℕ)) (out : Writer) (x : Identifier) (b : Bor Tree) (t : Task) (ts : List Task) (s : State) (n : ℕ) (handler : ℕ → Made) →
    ((q : State) → done words t q ≡ written q (handler q.next)) →
    out.tasks ≡ task.Phrase goal.Statement b ∷ task.Begin ∷ t ∷ task.Close (closing.Try x) ∷ ts →
    state_of out ≡ begun (numbered_to s n) →
    outcome words out ≡ (let a = translated words statement n (view b.now) in let h = handler a.next in all_done words ts (written s (made (just (k.attempt a.code x h.code)) h.next)))
attempt_law words out x b t ts s n handler after et so =
    let a = translated words statement n (view b.now) in
    outcome_by words out
    (ap (λ q. all_done words ts (closed (closing.Try x) q)) (after (begun (written (begun (numbered_to s n)) a)))
    ∙ ap (all_done words ts) (try_law (numbered_to s n) x a (handler a.next)))
    et so

no_bodies : (o : Output) → with_bodies o k.no_body ≡ o
unfolding with_bodies
no_bodies o = same _ _ _ _ (append-nil o.statements) refl

bodies_both : (o : Output) (ss : Stmts) (bs : Bodies) → with_bodies (with_inside o ss) bs ≡ with_bodies o (k.body ss bs)
unfolding with_inside with_bodies
bodies_both o ss bs = same _ _ _ _
    (ap (λ m. (o.statements ++ listed_all (length o.statements) ss) ++ listed_bodies m bs) (behind_all o.statements ss)
    ∙ append_assoc o.statements _ _)
    refl

behind_inside : (o : Output) (ss : Stmts) → length ((with_inside o ss).statements) ≡ length o.statements + count ss
unfolding with_inside
behind_inside o ss = behind_all o.statements ss

pub none_chosen : (s : State) (bs : List (List ℕ)) → added s (numbered.Choice bs) ≡ chosen s bs (no_alternatives s.next)
none_chosen s bs =
    sym
    (ap (λ o. record { output = with_statement o (numbered.Choice (bs ++ [])); outer = s.outer; next = s.next }) (no_bodies s.output)
    ∙ ap (λ q. added s (numbered.Choice q)) (append-nil bs))

pub choice_law : (s : State) (a : Alternatives) → chosen s [] a ≡ written s (made (just (k.choice a.bodies)) a.next)
unfolding with_bodies
choice_law s a = ap (λ o. record { output = o; outer = s.outer; next = a.next }) (with_outer s.output (k.choice a.bodies))

-- the state behind a body of a choice
abbrev behind_body : State → Made → State
behind_body s a = record { output = with_inside s.output a.code; outer = s.outer; next = a.next }

one_more : (s : State) (bs : List (List ℕ)) (a : Made) (rest : Alternatives) →
    chosen (behind_body s a) (bs ++ numbers (length s.output.statements) a.code ∷ []) rest ≡ chosen s bs (record { bodies = k.body a.code rest.bodies; next = rest.next })
one_more s bs a rest =
    let m = length s.output.statements in
    let first = bs ++ numbers m a.code ∷ [] in
    ap (λ o. record { output = with_statement o (numbered.Choice (first ++ numbers_each (length ((with_inside s.output a.code).statements)) rest.bodies)); outer = s.outer; next = rest.next }) (bodies_both s.output a.code rest.bodies)
    ∙ ap (λ q. record { output = with_statement (with_bodies s.output (k.body a.code rest.bodies)) (numbered.Choice q); outer = s.outer; next = rest.next })
    (ap (λ l. first ++ numbers_each l rest.bodies) (behind_inside s.output a.code) ∙ append_assoc bs (numbers m a.code ∷ []) _)

gathered_body : (bs : List (List ℕ)) (rest : State → List (List ℕ) → State) (s : State) (a : Made) →
    gathered bs rest (s.output.body ∷ s.outer) (written (begun s) a) ≡ rest (behind_body s a) (bs ++ numbers (length s.output.statements) a.code ∷ [])
unfolding with_all with_inside
gathered_body bs rest s a = refl

pub alternative_law : (words : List (List ℕ)) (out : Writer) (g : Sort) (bs : List (List ℕ)) (p : Bor Tree) (ps : Bor (List Tree)) (ts : List Task) (s : State) →
    out.tasks ≡ task.Phrase g p ∷ task.Gather g bs ps ∷ ts →
    state_of out ≡ begun s →
    outcome words out ≡ all_done words ts (chosen s bs (alternatives words (goal_of g) s.next (more (view p.now) (of_list (views ps.now)))))
alternative_law words out g bs p ps ts s et so =
    let a = translated words (goal_of g) s.next (view p.now) in
    let rest = λ (q : State) (cs : List (List ℕ)). chosen q cs (alternatives words (goal_of g) q.next (of_list (views ps.now))) in
    outcome_by words out
    (ap (all_done words ts) (gathered_body bs rest s a ∙ one_more s bs a (alternatives words (goal_of g) a.next (of_list (views ps.now)))))
    et so

pub gather_law : (words : List (List ℕ)) (g : Sort) (bs : List (List ℕ)) (ps : Bor (List Tree)) (s t : State) →
    s.outer ≡ t.output.body ∷ t.outer → t.output.statements ≡ s.output.statements → t.next ≡ s.next →
    done words (task.Alternatives g (bs ++ s.output.body ∷ []) ps) t ≡ done words (task.Gather g bs ps) s
gather_law words g bs ps s t eo es en =
    let rest = λ (q : State) (cs : List (List ℕ)). chosen q cs (alternatives words (goal_of g) q.next (of_list (views ps.now))) in
    ap (λ q. rest q (bs ++ s.output.body ∷ [])) (λ i. record { output = record { statements = es i; body = t.output.body }; outer = t.outer; next = en i })
    ∙ ap (λ q. gathered bs rest q s) (sym eo)

-- What stands first, and what there is where there are some.
use Rattle.std.proofs.Common.{◌≡◌, ℕ, None, List, [], ◌∷◌, refl, ap, sym, ◌∙◌, length, ◌≤◌, arith}
use Rattle.std.specs.Borrow.{Bor}
use Rattle.oz_language.specs.Grammar.{Phrases, more, of_list, Phrase, nothing, arm, clause}
use Rattle.oz_language.specs.Translation.{Made, value, translated, Goal, valued_last, arms_made, clauses_made, caught_in, declared, handled}
use Rattle.oz_language.specs.declared.kernel.Identifier.{Identifier}
use Rattle.oz_syntax.specs.View.{view, views}
use Rattle.oz_syntax.specs.declared.phrase.Phrase.{Phrase as Tree}
use Rattle.kernel_bodies.specs.Bodies.{then_valued, arm_first, clause_first, handled_first}
use Rattle.kernel_writer.specs.Tasks.{State, begun, declarations_begun, declarations_ending, standing}
use Rattle.kernel_writer.specs.declared.tasks.Closing.TheVariants as closing
use Rattle.kernel_writer.specs.declared.tasks.Task.TheVariants as task
use Rattle.kernel_writer.specs.declared.tasks.Task.{Task}

pub many_not_caught : (ps : List Tree) → 2 ≤ length ps → caught_in (of_list (views ps)) ≡ None
many_not_caught [] h = absurd (omega (arith, h))
many_not_caught (p ∷ []) h = absurd (omega (arith, h))
many_not_caught (p ∷ q ∷ ps) h = go (view p)
  where
    go : (c : Phrase) → caught_in (more c (of_list (views (q ∷ ps)))) ≡ None
    go (clause a b) = refl
    go c = refl

pub standing_some : (ps : List Tree) (r : Bor (List Tree)) → 1 ≤ length ps → standing (of_list (views ps)) r ≡ task.Each r
standing_some [] r h = absurd (omega (arith, h))
standing_some (p ∷ ps) r h = refl

pub declarations_begin : (ps : List Tree) (s : State) → 1 ≤ length ps → declarations_begun (of_list (views ps)) s ≡ begun s
declarations_begin [] s h = absurd (omega (arith, h))
declarations_begin (p ∷ ps) s h = refl

pub declarations_end : (ps : List Tree) (ts : List Task) → 1 ≤ length ps →
    declarations_ending (of_list (views ps)) ts ≡ task.Close (closing.Local (declared [] (of_list (views ps)))) ∷ ts
declarations_end [] ts h = absurd (omega (arith, h))
declarations_end (p ∷ ps) ts h = refl

pub arms_first : (words : List (List ℕ)) (goal : Goal) (p : Phrase) (xs : Phrases) (last : ℕ → Made) (n : ℕ) →
    arms_made words goal (more p xs) last n ≡ arm_first words goal p xs last n
arms_first words goal (arm e b) xs last n = refl
arms_first words goal p xs last n = refl

pub clauses_first : (words : List (List ℕ)) (goal : Goal) (x : Identifier) (p : Phrase) (cs : Phrases) (last : ℕ → Made) (n : ℕ) →
    clauses_made words goal x (more p cs) last n ≡ clause_first words goal x p cs last n
clauses_first words goal x (clause p b) cs last n = refl
clauses_first words goal x p cs last n = refl

handled_more : (words : List (List ℕ)) (p : Phrase) (cs : Phrases) (n : ℕ) → handled_first words p n ≡ handled words (more p cs) n
handled_more words (clause p b) cs n = refl
handled_more words p cs n = refl

pub handles_first : (words : List (List ℕ)) (p : Phrase) (n : ℕ) {es cs : Phrases} → es ≡ more p cs → handled_first words p n ≡ handled words es n
handles_first words p n {es} {cs} e = handled_more words p cs n ∙ ap (λ q. handled words q n) (sym e)

pub valued_then : (words : List (List ℕ)) (x : Identifier) (p : Phrase) (n : ℕ) {es qs : Phrases} {q : Phrase} → es ≡ more q qs → then_valued words x n p es ≡ valued_last words x (more p es) n
valued_then words x p n {es} {qs} {q} e =
    ap (then_valued words x n p) e ∙ ap (λ fs. valued_last words x (more p fs) n) (sym e)

pub valued_alone : (words : List (List ℕ)) (x : Identifier) (p : Phrase) (n : ℕ) {es : Phrases} → es ≡ nothing → translated words (value x) n p ≡ valued_last words x (more p es) n
valued_alone words x p n e = ap (λ fs. valued_last words x (more p fs) n) (sym e)

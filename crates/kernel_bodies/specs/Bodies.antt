-- What each construct with bodies makes, whatever it is for.
use Rattle.std.specs.Prelude.{ℕ, List}
use Rattle.oz_language.specs.Grammar as g
use Rattle.oz_language.specs.Grammar.{Phrases, more, Phrase, arm, clause, choice, when, choose, cases, cases_or}
use Rattle.oz_language.specs.Kernels as k
use Rattle.oz_language.specs.Kernels.{just, none, inside}
use Rattle.oz_language.specs.Translation.{Made, made, and_then, translated, Goal, statement, translated_each, valued_last, alternatives, arms_made, clauses_made, caught_in, handled, or_skip, declaring, attempted}
use Rattle.oz_language.specs.declared.kernel.Identifier.{Identifier}
use Rattle.kernel_writer.specs.Parts.{with_one}

abbrev pub local_made : List (List ℕ) → Goal → ℕ → Phrases → Phrase → Made
local_made words goal n ds b = declaring ds (and_then (translated_each words n ds) (λ i. translated words goal i b))

abbrev pub thread_made : List (List ℕ) → Goal → ℕ → Phrase → Made
thread_made words goal n b = let a = translated words goal n b in made (just (k.thread a.code)) a.next

abbrev pub choice_made : List (List ℕ) → Goal → ℕ → Phrases → Made
choice_made words goal n bs = let a = alternatives words goal n bs in made (just (k.choice a.bodies)) a.next

abbrev pub case_made : List (List ℕ) → Goal → ℕ → Phrase → Phrases → (ℕ → Made) → Made
case_made words goal n e cs last = with_one words n e (λ y i. clauses_made words goal y cs last i)

abbrev pub try_made : List (List ℕ) → ℕ → Phrase → Phrases → Made
try_made words n b cs =
    attempted n (caught_in cs) (λ i. translated words statement i b) (λ i. handled words cs i)
    (λ y i. clauses_made words statement y cs (λ j. made (just (k.raise y)) j) i)

-- a statement, and others behind it, of which the last has a value
abbrev pub then_valued : List (List ℕ) → Identifier → ℕ → Phrase → Phrases → Made
then_valued words x n p ps = and_then (translated words statement n p) (λ i. valued_last words x ps i)

-- the first arm, or the others where it is none
abbrev pub arm_first : List (List ℕ) → Goal → Phrase → Phrases → (ℕ → Made) → ℕ → Made
arm_first words goal (arm e b) xs last n = arms_made words goal (more (arm e b) xs) last n
arm_first words goal p xs last n = arms_made words goal xs last n

-- the first clause
abbrev pub clause_first : List (List ℕ) → Goal → Identifier → Phrase → Phrases → (ℕ → Made) → ℕ → Made
clause_first words goal x (clause p b) cs last n = clauses_made words goal x (more (clause p b) cs) last n
clause_first words goal x p cs last n = clauses_made words goal x cs last n

-- the body of a clause
abbrev pub handled_first : List (List ℕ) → Phrase → ℕ → Made
handled_first words (clause p b) n = translated words statement n b
handled_first words p n = made none n

-- an `if` and a `case` that end in other statements
abbrev pub choose_made : List (List ℕ) → Goal → ℕ → Phrases → Phrase → Made
choose_made words goal n xs b = arms_made words goal xs (λ i. translated words goal i b) n

abbrev pub case_else_made : List (List ℕ) → Goal → ℕ → Phrase → Phrases → Phrase → Made
case_else_made words goal n e cs b = case_made words goal n e cs (λ j. translated words goal j b)

-- a construct with bodies, and nothing else
abbrev pub construct_made : List (List ℕ) → Goal → ℕ → Phrase → Made
construct_made words goal n (g.local at ds b) = local_made words goal n ds b
construct_made words goal n (g.thread at b) = thread_made words goal n b
construct_made words goal n (choice at bs) = choice_made words goal n bs
construct_made words goal n (when at xs) = arms_made words goal xs (λ i. made (just k.skip) i) n
construct_made words goal n (choose at xs b) = choose_made words goal n xs b
construct_made words goal n (cases at e cs) = case_made words goal n e cs (λ j. made (just k.no_match) j)
construct_made words goal n (cases_or at e cs b) = case_else_made words goal n e cs b
construct_made words goal n (g.attempt b cs) = try_made words n b cs
construct_made words goal n p = made none n

-- the last statements of a body, of which there are some
abbrev pub last_statements : List (List ℕ) → ℕ → Phrases → Made
last_statements words n ss = or_skip ss (translated_each words n ss)

-- declarations and what is in their scope
abbrev pub body_made : List (List ℕ) → ℕ → Phrases → (ℕ → Made) → Made
body_made words n ds inside = declaring ds (and_then (translated_each words n ds) inside)

-- The leaves of a finite-domain script: exactly the assignments that meet every relation that it posts, each once, and for `naive` in
-- lexicographic order (scripts and their solutions, CTM 12.2; search for all solutions, CTM 9.1, 12.4; Schulte, LNCS 2302, chapter 2 and
-- on search).
use Rattle.std.specs.Prelude.{◌≡◌, ◌≢◌, ◌↔◌, ℕ, ℤ, List, map, Contains, AllPairs, Some}
use Rattle.oz_base.specs.declared.distribution.Rule.TheVariants.{Naive}
use Rattle.oz_language.specs.Refusals.{Program, Accepts}
use Rattle.oz_language.specs.Translation.{kernel_of}
use Rattle.oz_search.specs.declared.leaf.Outcome.{Outcome}
use Rattle.oz_search.specs.declared.leaf.Outcome.TheVariants.{Solved}
use Rattle.oz_replies.specs.Replies.{Searches, all_answer, leaves_reply}
use Rattle.oz_replies.specs.declared.cause.Cause.TheVariants.{Done}
use Rattle.fd_problems.specs.Problems.{Meets, IsLeft, values_at}
use Rattle.fd_form.specs.FdScripts.{fd_form, answer_text}
use Rattle.fd_form.specs.declared.script.FdScript.{FdScript}

-- These leaves are the answers of a script: each is solved and shows R with the values of an assignment, and the assignments that
-- are shown are all that there are, each once.
pub record AreAnswers (words : List (List ℕ)) (s : FdScript) (leaves : List Outcome) : Type 0 where
  pub assignments : List (List ℤ)
  pub shown : leaves ≡ map (λ t. Solved (answer_text words s t)) assignments
  pub all : (t : List ℤ) → Contains assignments t ↔ Meets s.problem t
  pub once : AllPairs (λ t u. t ≢ u) assignments
  -- for `naive` they stand in lexicographic order of the variables that are distributed
  pub ordered : s.problem.distribution.rule ≡ Naive
      → AllPairs (λ t u. IsLeft (values_at t s.problem.distribution.over) (values_at u s.problem.distribution.over)) assignments

-- the leaves of the search tree of a script are its answers, for each text that is a script, and each budget within which its tree ends
abbrev pub FdCompleteness : Type 0
FdCompleteness = (text : List ℕ) (p : Program) (s : FdScript) (budget : ℕ) (leaves : List (List ℕ × Outcome)) (steps : ℕ)
    → Accepts text p → fd_form p ≡ Some s → Searches (kernel_of p) budget (Some (leaves, steps))
    → AreAnswers p.words s (map (λ (leaf : List ℕ × Outcome). leaf.1) leaves)

-- what the search for all solutions of a script writes: the lines of the answers, and nothing before them
abbrev pub FdReply : Type 0
FdReply = (text : List ℕ) (p : Program) (s : FdScript) (budget : ℕ) (bytes : List ℕ)
    → Accepts text p → fd_form p ≡ Some s → all_answer (kernel_of p) budget ≡ (Done, bytes)
    → (leaves : List Outcome) × AreAnswers p.words s leaves × (bytes ≡ leaves_reply leaves)

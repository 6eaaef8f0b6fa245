-- The answer that a search for a best solution comes to.
use Rattle.std.specs.Prelude.{ℕ, ◌+◌}
use Rattle.oz_replies.specs.Replies.{Answer}
use Rattle.oz_replies.specs.BestReplies.{BestAnswer, Best, NoSolution, Spent, best_cause, best_reply}
use Rattle.best_search.specs.declared.ending.Found.{Found}
use Rattle.best_search.specs.declared.ending.Found.TheVariants as found

-- what was found is this answer, where the top took so many steps before
abbrev pub answer_after : ℕ → Found → BestAnswer
answer_after steps (found.Best text cost) = Best text cost
answer_after steps found.NoSolution = NoSolution
answer_after steps (found.Spent total entries) = Spent (steps + total) entries.items

-- its cause, and what is written
abbrev pub planned : ℕ → BestAnswer → Answer
planned budget a = (best_cause a, best_reply budget a)

-- What the program answers to its words.
use Rattle.std.specs.Prelude.{ℕ, ◌≡◌, List}
use Rattle.oz_commands.specs.Commands.{IsUsage, AsksAll, AsksRun, AsksBest, AsksKernel}
use Rattle.oz_language.specs.Translation.{kernel_of}
use Rattle.oz_replies.specs.declared.cause.Cause.TheVariants as causes
use Rattle.oz_replies.specs.Replies.{Answer, IsTextReply, all_answer, run_answer, kernel_answer, usage_reply}
use Rattle.oz_replies.specs.BestReplies.{IsTextAnswer, IsBestReply, best_cause}

-- What the program answers to its words, where the source has these bytes: a cause, and what is written.
pub record IsReply (words : List (List ℕ)) (bytes : List ℕ) (answer : Answer) : Type 0 where
  pub usage : IsUsage words → answer ≡ (causes.Usage, usage_reply)
  pub all : (budget : ℕ) → AsksAll words budget → IsTextReply bytes (λ p. all_answer (kernel_of p) budget) answer
  pub run : (budget : ℕ) → AsksRun words budget → IsTextReply bytes (λ p. run_answer (kernel_of p) budget) answer
  -- a right answer, of which there may be several
  pub best : (workers budget : ℕ) → AsksBest words workers budget → IsTextAnswer bytes (IsBestReply best_cause workers budget) answer
  -- a kernel is written for each text that is accepted
  pub kernel : AsksKernel words → IsTextReply bytes kernel_answer answer

-- What a call of the program answers, reads and writes.
use Rattle.std.specs.Prelude.{ℕ, ◌≡◌, ◌≢◌, ◌<◌, ◌≤◌, ◌+◌, ◌⊎◌, List, [], ◌++◌, take, drop, length, Option, Some, None}
use Rattle.std.specs.Io.KnownBytes.{Appends, Consumes, IsAtEnd}
use Rattle.oz_outside.specs.Counts.{Rose}
use Rattle.oz_search.specs.declared.leaf.Outcome.{Outcome}
use Rattle.oz_language.specs.Refusals.{Program, Accepts, IsRefused}
use Rattle.oz_commands.specs.Commands.{Spells, IsUsage}
use Rattle.oz_language.specs.Translation.{kernel_of}
use Rattle.oz_commands.specs.declared.command.Command.{Command}
use Rattle.oz_commands.specs.declared.command.Command.TheVariants as commands
use Rattle.oz_replies.specs.Replies.{Answer, spent, leaves_reply, all_answer, run_answer, kernel_answer, text_limit, usage_reply, too_large_reply, refused_reply, refused_answer}
use Rattle.oz_replies.specs.BestReplies.{IsBestReply, best_cause}
use Rattle.oz_replies.specs.Calls.{IsReply}
use Rattle.oz_language.specs.declared.fault.Fault.{Fault}
use Rattle.oz_replies.specs.declared.cause.Cause.{Cause}
use Rattle.oz_replies.specs.declared.cause.Cause.TheVariants as causes

-- what a command answers for a program: `best` has several right answers, each other command one
abbrev pub IsAnswered : Command → Program → Answer → Type 0
IsAnswered (commands.All workers budget) p answer = answer ≡ all_answer (kernel_of p) budget
IsAnswered (commands.Run budget) p answer = answer ≡ run_answer (kernel_of p) budget
IsAnswered (commands.Best workers budget) p answer = IsBestReply best_cause workers budget p answer
IsAnswered commands.Kernel p answer = answer ≡ kernel_answer p

-- what is written of the leaves that a search found, behind what was shown
abbrev pub answer_of_leaves : List ℕ → ℕ → Option (List Outcome) → Answer
answer_of_leaves shown budget None = spent shown budget
answer_of_leaves shown budget (Some leaves) = (causes.Done, shown ++ leaves_reply leaves)

-- what a call sees of its source, and of its sink
pub record Reading : Type 0 where
  pub left : Option (List ℕ)
  pub faults : ℕ

pub record Writing : Type 0 where
  pub written : Option (List ℕ)
  pub faults : ℕ

-- the source's bytes were read to their end, and they are this text
pub record HasRead (old new : Reading) (text : List ℕ) : Type 0 where
  pub read : Consumes old.left new.left text
  pub ended : IsAtEnd new.left
  pub fits : length text ≤ text_limit

-- whatever became of reading, no more bytes were taken than a text may have and one
abbrev pub IsBounded : Option (List ℕ) → Option (List ℕ) → Type 0
IsBounded old new = (bytes : List ℕ) × (length bytes ≤ text_limit + 1) × Consumes old new bytes

-- a program of the text has this answer
abbrev pub ProgramGives : List ℕ → Command → Answer → Type 0
ProgramGives text c answer = (p : Program) × Accepts text p × IsAnswered c p answer

-- a text gives this cause and this reply, before anything is written
abbrev pub TextGives : List ℕ → Command → Cause → List ℕ → Type 0
TextGives text c (causes.Refused fault) reply = IsRefused text fault × (reply ≡ refused_reply fault)
TextGives text c causes.Done reply = ProgramGives text c (causes.Done, reply)
TextGives text c (causes.Raised shown) reply = ProgramGives text c (causes.Raised shown, reply)
TextGives text c (causes.Spent total) reply = ProgramGives text c (causes.Spent total, reply)
TextGives text c (causes.SpentBest total entries) reply = ProgramGives text c (causes.SpentBest total entries, reply)
TextGives text c causes.NoScript reply = ProgramGives text c (causes.NoScript, reply)
TextGives text c causes.NotFd reply = ProgramGives text c (causes.NotFd, reply)
TextGives text c causes.NoMemory reply = reply ≡ []
TextGives text c causes.Usage reply = ⊥
TextGives text c causes.ReadFault reply = ⊥
TextGives text c causes.WriteFault reply = ⊥
TextGives text c (causes.TooLarge count) reply = ⊥

-- the words spell a command, and a text that was read gives this cause and this reply
pub record ReadGives (words : List (List ℕ)) (old new : Reading) (cause : Cause) (reply : List ℕ) : Type 0 where
  pub asked : Command
  pub spelled : Spells words asked
  pub text : List ℕ
  pub read : HasRead old new text
  pub gives : TextGives text asked cause reply

-- the words spell a command
abbrev pub AsksSome : List (List ℕ) → Type 0
AsksSome words = (c : Command) × Spells words c

-- The words and what was read of the source give this cause and this reply, before anything is written.
abbrev pub Plans : List (List ℕ) → Reading → Reading → Cause → List ℕ → Type 0
Plans words old new causes.Usage reply = IsUsage words × (reply ≡ usage_reply)
Plans words old new causes.ReadFault reply = AsksSome words × Rose old.faults new.faults × (reply ≡ [])
Plans words old new (causes.TooLarge count) reply =
    AsksSome words × (count ≡ text_limit + 1) × ((bytes : List ℕ) × (length bytes ≡ count) × Consumes old.left new.left bytes) × (reply ≡ too_large_reply)
Plans words old new causes.NoMemory reply = reply ≡ []
Plans words old new causes.WriteFault reply = ⊥
Plans words old new (causes.Refused fault) reply = ReadGives words old new (causes.Refused fault) reply
Plans words old new causes.Done reply = ReadGives words old new causes.Done reply
Plans words old new (causes.Raised shown) reply = ReadGives words old new (causes.Raised shown) reply
Plans words old new (causes.Spent total) reply = ReadGives words old new (causes.Spent total) reply
Plans words old new (causes.SpentBest total entries) reply = ReadGives words old new (causes.SpentBest total entries) reply
Plans words old new causes.NoScript reply = ReadGives words old new causes.NoScript reply
Plans words old new causes.NotFd reply = ReadGives words old new causes.NotFd reply

-- The reply of a planned cause was written whole, and the cause is that one; or a write failed, and a part of it was written.
abbrev pub Ends : Cause → List ℕ → Writing → Writing → Cause → Type 0
Ends planned reply before after cause =
    ((cause ≡ planned) × Appends before.written after.written reply)
    ⊎ ((cause ≡ causes.WriteFault) × Rose before.faults after.faults × ((n : ℕ) × (n < length reply) × Appends before.written after.written (take n reply)))

-- what a call that ends with this cause has read and written
pub record Answers (words : List (List ℕ)) (old new : Reading) (before after : Writing) (cause : Cause) : Type 0 where
  pub planned : Cause
  pub reply : List ℕ
  pub plans : Plans words old new planned reply
  pub ends : Ends planned reply before after cause

-- a fault that was counted, or want of memory
abbrev pub IsExcused : Cause → Type 0
IsExcused cause = (cause ≡ causes.ReadFault) ⊎ ((cause ≡ causes.WriteFault) ⊎ (cause ≡ causes.NoMemory))

-- What each text asks for, where memory is there.
pub record AsText (text : List ℕ) (c : Command) (answer : Answer) : Type 0 where
  pub refused : answer.0 ≢ causes.NoMemory → (fault : Fault) → IsRefused text fault → answer ≡ refused_answer fault
  pub accepted : answer.0 ≢ causes.NoMemory → (p : Program) → Accepts text p → IsAnswered c p answer

-- the words spell this command and no other
pub record IsCommand (words : List (List ℕ)) (c : Command) : Type 0 where
  pub spelled : Spells words c
  pub only : (d : Command) → Spells words d → d ≡ c

-- The plan is the answer to the words and bytes, where nothing fails.
abbrev pub IsDue : List (List ℕ) → List ℕ → Cause → List ℕ → Type 0
IsDue words bytes cause reply = cause ≢ causes.ReadFault → cause ≢ causes.NoMemory → IsReply words bytes (cause, reply)

-- All bytes were read, or one more than a text may have, where nothing fails.
abbrev pub IsRead : List ℕ → Option (List ℕ) → Cause → Type 0
IsRead bytes left cause = cause ≢ causes.ReadFault → cause ≢ causes.NoMemory → left ≡ Some (drop (text_limit + 1) bytes)

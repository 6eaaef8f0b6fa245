-- What reading a text comes to.
use Rattle.std.specs.Prelude.{◌≡◌, ℕ, false, List, Option, Some, None, Result, Ok, Err}
use Rattle.oz_language.specs.Grammar.{Derives}
use Rattle.oz_language.specs.Refusals.{Program, Accepts, IsRefused, too_deep, text_open}
use Rattle.oz_language.specs.Wording.{words_of, tokens_in}
use Rattle.oz_language.specs.declared.fault.Fault.{Fault}
use Rattle.oz_language.specs.declared.fault.RefusalKind.{RefusalKind}
use Rattle.oz_language.specs.declared.fault.RefusalKind.TheVariants as kind
use Rattle.oz_language.specs.declared.token.Lexeme.{Lexeme}
use Rattle.oz_lex.specs.declared.lexer.LexError.{LexError}
use Rattle.oz_lex.specs.declared.lexer.LexError.TheVariants as lex
use Rattle.reader_law.specs.Machine.{Stack}
use Rattle.oz_reader.specs.declared.error.ReadError.{ReadError}
use Rattle.oz_reader.specs.declared.error.ReadError.TheVariants.{Memory, Refused}
use Rattle.open_constructs.specs.declared.frame.Frame.{Frame as FrameKept}
use Rattle.open_constructs.specs.View.{stack_of}

abbrev pub refusal : RefusalKind → ℕ → ReadError
refusal kind at = Refused (record { kind = kind; at = at })

-- what is said of the text's fault, unless memory ran out
abbrev pub Faults : (Fault → Type 0) → ReadError → Type 0
Faults holds Memory = Unit {0}
Faults holds (Refused fault) = holds fault

-- the text is refused with this fault, with no other one, and as no program
pub record IsOnlyRefused (text : List ℕ) (fault : Fault) : Type 0 where
  pub refused : IsRefused text fault
  pub only : (other : Fault) → IsRefused text other → other ≡ fault
  pub unaccepted : (p : Program) → Accepts text p → ⊥

abbrev pub Refuses : List ℕ → ReadError → Type 0
Refuses text e = Faults (IsOnlyRefused text) e

-- the program is that of these tokens of the text
pub record IsRead (text : List ℕ) (ls : List Lexeme) (p : Program) : Type 0 where
  pub words : p.words ≡ words_of text ls
  pub derived : Derives (tokens_in text ls) p.phrase
  pub shallow : too_deep text_open (tokens_in text ls) ≡ false

-- where no token begins, the text is refused
abbrev pub error_of : LexError → ReadError
error_of lex.Memory = Memory
error_of (lex.BadByte at) = refusal kind.Byte at

-- a step answers the next stack, or is refused at a place, unless memory runs out
abbrev pub StepsAt : ℕ → Result (Unit {0}) ReadError → List FrameKept → Option Stack → Type 0
StepsAt at (Ok u) new next = next ≡ Some (stack_of new)
StepsAt at (Err Memory) new next = Unit {0}
StepsAt at (Err (Refused fault)) new next = (next ≡ None) × (fault ≡ record { kind = kind.Syntax; at = at })

-- a value is answered, or it is refused at a place, unless memory runs out
abbrev pub GivesAt : {X Y : Type 0} → (X → Y) → ℕ → Result X ReadError → Option Y → Type 0
GivesAt see at (Ok x) next = next ≡ Some (see x)
GivesAt see at (Err Memory) next = Unit {0}
GivesAt see at (Err (Refused fault)) next = (next ≡ None) × (fault ≡ record { kind = kind.Syntax; at = at })

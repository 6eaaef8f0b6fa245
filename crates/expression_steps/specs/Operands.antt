-- Operands and operators, case by case as the code reads them.
use Rattle.std.specs.Prelude.{◌≡◌, ◌+◌, nat_lt, ℕ, Bool, false, List, [], ◌∷◌, Option, Some, None, Result, Ok, Err}
use Rattle.oz_language.specs.Grammar.{Phrase, var, any, int, string, literal, terms_in, terms_limit}
use Rattle.oz_language.specs.declared.kernel.Constant.{Constant}
use Rattle.oz_language.specs.declared.kernel.Constant.TheVariants as constant
use Rattle.oz_language.specs.declared.token.Token.{Token}
use Rattle.oz_language.specs.declared.token.Token.TheVariants.{Var, Any, Int, String, Literal as Lit, Label, OpenParen, OpenBracket}
use Rattle.oz_syntax.specs.View.{view}
use Rattle.open_constructs.specs.View.{stack_of}
use Rattle.open_constructs.specs.declared.frame.Frame.{Frame as FrameKept}
use Rattle.open_constructs.specs.declared.error.StepError.{StepError}
use Rattle.open_constructs.specs.declared.error.StepError.TheVariants as e
use Rattle.expression_steps.specs.declared.operators.Reduced.{Reduced as ReducedKept}
use Rattle.reader_law.specs.Machine.{relating, fields, listing, enclosing, Stack, Reduced, value}

-- what begins an expression and a pattern alike
abbrev pub term_begins : Bool → Token → Stack → Option Stack
term_begins w (Var name at) k = value (var name at) k
term_begins w (Any at) k = value (any at) k
term_begins w (Int i at) k = value (int i at) k
term_begins w (String s at) k = value (string s at) k
term_begins w (Lit l at) k = value (literal l at) k
term_begins w (Label l at) k = Some (fields w l at [] ∷ k)
term_begins w (OpenParen at) k = Some (enclosing w at ∷ k)
term_begins w (OpenBracket at) k = Some (listing w at [] ∷ k)
term_begins w t k = None

-- what a phrase is as a key, with its place
abbrev pub key_of : Phrase → Option (Constant × ℕ)
key_of (int i at) = Some (constant.Int i, at)
key_of (literal l at) = Some (constant.Literal l, at)
key_of e = None

-- what is reduced, unless memory runs out
abbrev pub Reduces : Result ReducedKept StepError → List FrameKept → Reduced → Type 0
Reduces (Ok r) new next = next ≡ record { phrase = view r.phrase; states = r.states; rest = stack_of new }
Reduces (Err e.Memory) new next = Unit {0}
Reduces (Err e.Refused) new next = ⊥

-- the right side of a relation has room for another term
abbrev pub takes_term : Phrase → Stack → Bool
takes_term p (relating r a ∷ k) = nat_lt (terms_in a + terms_in p) terms_limit
takes_term p k = false

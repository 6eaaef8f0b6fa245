-- Calls, by their arguments.
use Rattle.std.proofs.Common.{◌≡◌, ◌∙◌, ℕ, refl, sym, ap, List, Option, length, slice_get, if◌then◌else◌, eq-eqb}
use Rattle.oz_base.specs.declared.names.Ident.{Ident}
use Rattle.environments.specs.Environments.{Environment}
use Rattle.oz_language.specs.declared.kernel.Statement.{Statement}
use Rattle.oz_semantics.specs.Sights.{Sight}
use Rattle.oz_semantics.specs.Statements.{numbered_answer, code_answer}
use Rattle.oz_semantics.specs.declared.configuration.Code.{Code}
use Rattle.oz_semantics.specs.declared.configuration.Code.TheVariants as codes
use Rattle.oz_semantics.specs.Answers as answers
use Rattle.oz_semantics.specs.Answers.{argument}
use Rattle.oz_semantics.specs.Builtins.{arguments_of, answer, call_answer}
use Rattle.oz_semantics.specs.declared.value.Builtin.{Builtin}
use Rattle.oz_semantics.specs.declared.outcome.RaiseKind.TheVariants as raise
use Rattle.builtins.specs.Answers.{IsAnswer}
use Rattle.builtins.specs.Exact.{answer_of, erased}
use Rattle.builtins.specs.Looks.{Given}
use Rattle.builtins.specs.declared.answer.Answer.{Answer}
use Rattle.builtins.specs.declared.answer.Answer.TheVariants as said

-- the answer says the same but for a rest
pub said_as : (a : answers.Answer) (r : Answer) → IsAnswer a r → answer_of r ≡ erased a
said_as a (said.Acts b) e = sym (ap erased e)
said_as a (said.Edits b) e = sym (ap erased e)
said_as a (said.RaisesKind kind) e = sym (ap erased e)
said_as a (said.RaisesTerm x) e = sym (ap erased e)
said_as a (said.Operates op space x) e = sym (ap erased e)
said_as a (said.Widens ts) e = sym (ap erased e)
said_as a said.Rests (ready, e) = sym (ap erased e)

-- and what says the same is the answer
pub is_answer : (a : answers.Answer) (r : Answer) → answer_of r ≡ erased a → IsAnswer a r
is_answer (answers.Acts b) (said.Acts c) e = sym e
is_answer (answers.Edits b) (said.Edits c) e = sym e
is_answer (answers.RaisesKind k) (said.RaisesKind l) e = sym e
is_answer (answers.RaisesTerm x) (said.RaisesTerm y) e = sym e
is_answer (answers.Operates op space x) (said.Operates other child y) e = sym e
is_answer (answers.Widens ts) (said.Widens us) e = sym e
is_answer (answers.Rests ready) said.Rests e = (ready, refl)
is_answer a r e = cc

-- a call with as many arguments as the built-in takes
pub call_is : (s : Sight) (b : Builtin) (xs : List Ident) → length xs ≡ arguments_of b → call_answer s b xs ≡ answer s b (argument xs)
call_is s b xs e = ap (λ t. if t then answer s b (argument xs) else answers.RaisesKind raise.Arity) (eq-eqb (length xs) (arguments_of b) e)

-- these are the first three arguments
pub given_at : (b : Builtin) (xs : List Ident) (x y z : Ident) → x ≡ argument xs 0 → y ≡ argument xs 1 → z ≡ argument xs 2 → Given b x y z (argument xs)
given_at b xs x y z f g k = record { first = sym f; second = λ m. sym g; third = λ m. sym k }

-- a statement with a number answers what that says
pub numbered_so : (s : Sight) (e : Environment) (k : Code) (n : ℕ) (o : Option Statement) → o ≡ slice_get s.statements n → k ≡ codes.Statement n → erased (numbered_answer s e o) ≡ erased (code_answer s e k)
numbered_so s e k n o found is = ap (λ (p : Option Statement). erased (numbered_answer s e p)) found ∙ ap (λ (c : Code). erased (code_answer s e c)) (sym is)

-- What calls, tests and matches wait for.
use Rattle.std.proofs.Common.{◌≡◌, [], ℕ, refl, sym, ap, ◌∙◌, Bool, true, false, Option, Some, None, List, length, map, subst, if◌then◌else◌}
use Rattle.std.specs.Prelude.{◌==◌}
use Rattle.std.specs.List.{list_any}
use Rattle.std.proofs.lemmas.List.{length-map}
use Rattle.oz_base.specs.declared.names.Ident.{Ident}
use Rattle.environments.specs.Environments.{Environment, binding_all}
use Rattle.oz_language.specs.declared.token.Literal.TheVariants as literal
use Rattle.oz_language.specs.declared.kernel.Constant.TheVariants as constant
use Rattle.oz_semantics.specs.Store.{View, value_of, same}
use Rattle.oz_semantics.specs.Sights.{Readiness, Steps, Offers, Bodies}
use Rattle.oz_semantics.specs.Answers.{Answer, RaisesKind, argument, given, with_value}
use Rattle.oz_semantics.specs.Configurations.{frames_of}
use Rattle.oz_semantics.specs.Matching.{Match, Matches, Differs, MatchWaits}
use Rattle.oz_semantics.specs.Statements.{goes_on_with, procedure_called, branch, clause}
use Rattle.oz_semantics.specs.Readiness.{answer_ready}
use Rattle.oz_semantics.specs.declared.value.Builtin.{Builtin}
use Rattle.oz_semantics.specs.declared.value.Procedure as procedures
use Rattle.oz_semantics.specs.declared.value.Value.{Value}
use Rattle.oz_semantics.specs.declared.value.Value.TheVariants as value
use Rattle.oz_semantics.specs.declared.outcome.RaiseKind.TheVariants.{Arity}
use Rattle.builtins.specs.Answers.{IsReady}
use Rattle.builtins.specs.declared.answer.Readiness as said
use Rattle.builtins.specs.declared.answer.Readiness.TheVariants as kinds
use Rattle.builtins.specs.Looks.{Inputs, ready_by, awaiting}
use Rattle.matching.specs.Verdicts.{waits_in}

-- the call of a procedure steps
pub procedure_steps : (q : procedures.Procedure) (xs : List Ident) → answer_ready (procedure_called q xs) ≡ Steps
procedure_steps q xs = by (length xs == length q.parameters)
  where
    by : (b : Bool) → answer_ready (if b then goes_on_with (frames_of (binding_all q.parameters xs q.environment) q.body) else RaisesKind Arity) ≡ Steps
    by true = refl
    by false = refl

pub branch_steps : (e : Environment) (accepted otherwise : List ℕ) (v : Value) → answer_ready (branch e accepted otherwise v) ≡ Steps
branch_steps e accepted otherwise (value.Constant (constant.Literal literal.True)) = refl
branch_steps e accepted otherwise (value.Constant (constant.Literal literal.False)) = refl
branch_steps e accepted otherwise (value.Constant (constant.Literal literal.Unit)) = refl
branch_steps e accepted otherwise (value.Constant (constant.Literal (literal.Atom a))) = refl
branch_steps e accepted otherwise (value.Constant (constant.Int i)) = refl
branch_steps e accepted otherwise (value.Record r) = refl
branch_steps e accepted otherwise (value.Procedure p) = refl
branch_steps e accepted otherwise (value.Name n) = refl
branch_steps e accepted otherwise (value.Cell c) = refl
branch_steps e accepted otherwise (value.Port p) = refl
branch_steps e accepted otherwise (value.Space s) = refl
branch_steps e accepted otherwise (value.Builtin b) = refl

one_waits : (x : Ident) (o : Option Value) (go : Value → Answer) → ((v : Value) → answer_ready (go v) ≡ Steps) → answer_ready (given x o go) ≡ awaiting x o Steps
one_waits x None go h = refl
one_waits x (Some v) go h = h v

-- a test waits for its condition
pub test_waits : (view : View) (x : Ident) (e : Environment) (accepted otherwise : List ℕ) → answer_ready (with_value view x (branch e accepted otherwise)) ≡ awaiting x (value_of view x) Steps
test_waits view x e accepted otherwise = one_waits x (value_of view x) (branch e accepted otherwise) (branch_steps e accepted otherwise)

-- a match waits for what it meets
pub match_waits : (e : Environment) (accepted otherwise : List ℕ) (m : Match) → answer_ready (clause e accepted otherwise m) ≡ ready_by (waits_in m)
match_waits e accepted otherwise (Matches extended) = refl
match_waits e accepted otherwise Differs = refl
match_waits e accepted otherwise (MatchWaits x) = refl

-- the inputs of a call are among its first two arguments
pub inputs_at : (b : Builtin) (xs : List Ident) (x y : Ident) → x ≡ argument xs 0 → y ≡ argument xs 1 → Inputs b x y (argument xs)
inputs_at b xs x y f g = record { first = sym f; second = λ m. sym g }

-- a thread can do this, by another word for it
pub ready_along : (view : View) (p q : Readiness) (r : said.Readiness) → p ≡ q → IsReady view p r → IsReady view q r
ready_along view p q r e h = subst (λ w. IsReady view w r) e h

-- an offer of so many
pub offers_all : (view : View) (ready : Readiness) (e : Environment) (alternatives : List (List ℕ)) (n : ℕ) (waits : List Ident) → ready ≡ Offers (Bodies (map (frames_of e) alternatives)) [] → n ≡ length alternatives → waits ≡ []
    → IsReady view ready (kinds.Offers n waits)
offers_all view ready e alternatives n waits h k l =
    (Bodies (map (frames_of e) alternatives), [], h, k ∙ sym (length-map alternatives (frames_of e)), λ z. ap (list_any (same view z)) l)

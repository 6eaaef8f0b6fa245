-- Exceptions (CTM 2.7): the terms that the machine raises itself, and the way of an exception to the nearest mark.
use Rattle.std.specs.Prelude.{ℕ, ◌+◌, Bool, List, [], ◌∷◌, ◌++◌, Option, Some, None, length, codes}
use Rattle.oz_base.specs.Lists.{holds_of}
use Rattle.oz_base.specs.declared.names.Ident.{Ident}
use Rattle.environments.specs.Environments.{Environment, binding}
use Rattle.oz_language.specs.Wording.{given_atom}
use Rattle.oz_language.specs.Constants.{constant_eq}
use Rattle.oz_language.specs.declared.kernel.Constant.TheVariants as constant
use Rattle.oz_semantics.specs.Names.{named}
use Rattle.oz_semantics.specs.Store.{View, value_of}
use Rattle.oz_semantics.specs.Terms.{Term, just_atom, around, tuple_node, term_tells}
use Rattle.oz_semantics.specs.Configurations.{frames_of, telling, giving_out}
use Rattle.oz_semantics.specs.Builtins.{label_in}
use Rattle.oz_semantics.specs.declared.value.Value.{Value}
use Rattle.oz_semantics.specs.declared.value.Tell.{Tell}
use Rattle.oz_semantics.specs.declared.configuration.Code.{Code}
use Rattle.oz_semantics.specs.declared.configuration.Code.TheVariants as code
use Rattle.oz_semantics.specs.declared.configuration.Frame.{Frame}
use Rattle.oz_semantics.specs.declared.configuration.Layer.{Layer}
use Rattle.oz_semantics.specs.declared.outcome.RaiseKind.{RaiseKind}
use Rattle.oz_semantics.specs.declared.outcome.RaiseKind.TheVariants as raise

-- Terms

abbrev pub failure : List ℕ → Term
failure what = around (codes "failure") (just_atom what)

abbrev pub kernel_error : List ℕ → Term
kernel_error what = around (codes "error") (around (codes "kernel") (just_atom what))

-- error(kernel(globalState K))
abbrev pub global_error : List ℕ → Term
global_error kind = around (codes "error") (tuple_node (given_atom (codes "kernel")) 2 ∷ just_atom (codes "globalState") ++ just_atom kind)

abbrev pub raise_term : RaiseKind → Term
raise_term raise.FailureTell = failure (codes "tell")
raise_term raise.FailureFail = failure (codes "fail")
raise_term raise.FailureTop = failure (codes "top")
raise_term raise.FailureSpace = failure (codes "space")
raise_term raise.Overflow = kernel_error (codes "overflow")
raise_term raise.DivZero = kernel_error (codes "div0")
raise_term raise.BadKind = kernel_error (codes "type")
raise_term raise.Apply = kernel_error (codes "apply")
raise_term raise.Arity = kernel_error (codes "arity")
raise_term raise.Feature = kernel_error (codes "feature")
raise_term raise.Boolean = kernel_error (codes "boolean")
raise_term raise.NoElse = kernel_error (codes "noElse")
raise_term raise.Domain = kernel_error (codes "domain")
raise_term raise.SpaceParent = kernel_error (codes "spaceParent")
raise_term raise.SpaceChoice = kernel_error (codes "spaceChoice")
raise_term raise.SpaceMerged = kernel_error (codes "spaceMerged")
raise_term raise.SpaceRaised = kernel_error (codes "spaceRaised")
raise_term raise.GlobalCell = global_error (codes "cell")
raise_term raise.GlobalPort = global_error (codes "port")
raise_term raise.GlobalIo = global_error (codes "io")

-- what a space is told of a term, by new variables, of which the first stands for it
abbrev pub new_term_tells : Layer → Term → List Tell
new_term_tells l t = term_tells l.space (l.next.variable + 1) (named l.space l.next.variable) t

abbrev pub with_term : Term → Layer → Layer
with_term t l = giving_out (length t) (telling (new_term_tells l t) l)

-- a term is a failure where it is determined, with the label `failure`
abbrev pub is_failure_label : Value → Bool
is_failure_label v = holds_of (constant_eq (constant.Literal (given_atom (codes "failure")))) (label_in v)

abbrev pub is_failure : View → Ident → Bool
is_failure view x = holds_of is_failure_label (value_of view x)

-- Unwinding

-- at a mark the handler goes on with the exception; of anything else an exception leaves nothing
abbrev pub unwound_at : Ident → Environment → Code → List Frame → Option (List Frame) → Option (List Frame)
unwound_at x environment (code.Mark exception handler) rest below = Some (frames_of (binding exception x environment) handler ++ rest)
unwound_at x environment (code.Statement n) rest below = below
unwound_at x environment (code.Call procedure argument) rest below = below
unwound_at x environment (code.Bind y n) rest below = below

-- the stack that the exception x leaves of a stack, where that has a mark
abbrev pub unwound : Ident → List Frame → Option (List Frame)
unwound x [] = None
unwound x (frame ∷ rest) = unwound_at x frame.environment frame.code rest (unwound x rest)

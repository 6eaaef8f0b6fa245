-- What an exception and a declaration do to a stack.
use Rattle.std.specs.Prelude.{ℕ, ◌≡◌, ◌+◌, ◌≤◌, ◌++◌, List, [], ◌∷◌, Option, Some, None, length, take, drop}
use Rattle.oz_base.specs.declared.names.Ident.{Ident}
use Rattle.environments.specs.Environments.{binding_all}
use Rattle.oz_language.specs.declared.kernel.Identifier.{Identifier}
use Rattle.oz_semantics.specs.Configurations.{frames_of}
use Rattle.oz_semantics.specs.Exceptions.{unwound, unwound_at}
use Rattle.oz_semantics.specs.declared.configuration.Frame.{Frame}
use Rattle.space_core.specs.declared.stacks.Landing.{Landing}

-- it leaves the handler's statements and what stands below; or what it leaves of what stands below
abbrev pub HandlerOf : Ident → Frame → Option (List Frame) → Type 0
HandlerOf x frame (Some frames) = (rest : List Frame) (below : Option (List Frame)) → unwound_at x frame.environment frame.code rest below ≡ Some (frames ++ rest)
HandlerOf x frame None = (rest : List Frame) (below : Option (List Frame)) → unwound_at x frame.environment frame.code rest below ≡ below

-- an exception of the statement on top of a stack goes to this mark; or there is none below it
abbrev pub IsLanding : Ident → List Frame → Option Landing → Type 0
IsLanding x stack (Some l) = (unwound x (drop 1 stack) ≡ Some (l.frames ++ drop l.count stack)) × (l.count ≤ length stack)
IsLanding x stack None = unwound x (drop 1 stack) ≡ None

-- a stack without so many that stand below the uppermost ones
abbrev pub cut_out : ℕ → ℕ → List Frame → List Frame
cut_out uppermost count stack = take uppermost stack ++ drop (uppermost + count) stack

-- a stack on which the statement on top gave way to a body, in which the identifiers stand for these
abbrev pub declared_on : List Identifier → List Ident → List ℕ → List Frame → List Frame
declared_on names xs body [] = []
declared_on names xs body (frame ∷ rest) = frames_of (binding_all names xs frame.environment) body ++ rest

-- Statements of the kernel of which each identifier is bound (CTM 2.3): it is among those in scope, or is bound round it.
use Rattle.std.specs.Prelude.{ℕ, List, [], ◌∷◌, ◌++◌, map, All, Contains}
use Rattle.oz_language.specs.declared.kernel.Identifier.{Identifier}
use Rattle.oz_language.specs.declared.kernel.Identifier.TheVariants.{Word}
use Rattle.oz_language.specs.declared.kernel.LinearTerm.{LinearTerm}
use Rattle.oz_language.specs.Kernels.{Pattern, Patterns, variable, any, constant, labelled, no_pattern, beside, Stmt, Stmts, Bodies, skip, fail, local, equate, bind, bind_record, bind_procedure, call, choice, test, matching, no_match, operate, thread, attempt, raise, post, post_times, none, followed, no_body, body}
use Rattle.oz_language.specs.Refusals.{Program, Accepts, first_scope}
use Rattle.oz_language.specs.Translation.{statements_of}

-- the variables of a pattern
abbrev mutual
  pub pattern_names : Pattern → List Identifier
  pattern_names (variable x) = x ∷ []
  pattern_names any = []
  pattern_names (constant c) = []
  pattern_names (labelled l fs ps) = names_beside ps

  pub names_beside : Patterns → List Identifier
  names_beside no_pattern = []
  names_beside (beside p ps) = pattern_names p ++ names_beside ps

abbrev mutual
  -- each identifier of the statement is among those in scope, or is bound round it
  pub Closed : List Identifier → Stmt → Type 0
  Closed scope skip = Unit {0}
  Closed scope fail = Unit {0}
  Closed scope (local xs ss) = ClosedAll (xs ++ scope) ss
  Closed scope (equate x y) = Contains scope x × Contains scope y
  Closed scope (bind x v) = Contains scope x
  Closed scope (bind_record x l fs xs) = Contains scope x × All (Contains scope) xs
  Closed scope (bind_procedure x xs ss) = Contains scope x × ClosedAll (xs ++ scope) ss
  Closed scope (call x xs) = Contains scope x × All (Contains scope) xs
  Closed scope (choice bs) = ClosedEach scope bs
  Closed scope (test x ss us) = Contains scope x × ClosedAll scope ss × ClosedAll scope us
  Closed scope (matching x p ss us) = Contains scope x × ClosedAll (pattern_names p ++ scope) ss × ClosedAll scope us
  Closed scope no_match = Unit {0}
  Closed scope (operate op xs) = All (Contains scope) xs
  Closed scope (thread ss) = ClosedAll scope ss
  Closed scope (attempt ss x us) = ClosedAll scope ss × ClosedAll (x ∷ scope) us
  Closed scope (raise x) = Contains scope x
  Closed scope (post s c ts) = All (λ (t : LinearTerm). Contains scope t.variable) ts
  Closed scope (post_times x y z) = Contains scope x × Contains scope y × Contains scope z

  pub ClosedAll : List Identifier → Stmts → Type 0
  ClosedAll scope none = Unit {0}
  ClosedAll scope (followed s ss) = Closed scope s × ClosedAll scope ss

  pub ClosedEach : List Identifier → Bodies → Type 0
  ClosedEach scope no_body = Unit {0}
  ClosedEach scope (body ss bs) = ClosedAll scope ss × ClosedEach scope bs

-- what runs uses no identifier that nothing binds: the names that every text has are in scope from the first
abbrev pub ClosedLaw : Type 0
ClosedLaw = (text : List ℕ) (p : Program) → Accepts text p → ClosedAll (map Word first_scope) (statements_of p)

-- Kernel programs (CTM 2.3): their statements as trees, and how these are numbered.
use Rattle.std.specs.Prelude.{ℕ, suc, ℤ, ◌+◌, ◌==◌, Bool, false, List, [], ◌∷◌, ◌++◌, Option, Some, slice_get, unwrap_or}
use Rattle.oz_language.specs.declared.token.Literal.{Literal}
use Rattle.oz_language.specs.declared.kernel.Identifier.{Identifier}
use Rattle.oz_language.specs.declared.kernel.Identifier.TheVariants.{Word, Fresh}
use Rattle.oz_language.specs.declared.kernel.Constant.{Constant}
use Rattle.oz_language.specs.declared.kernel.Piece.{Piece}
use Rattle.oz_language.specs.declared.kernel.Piece.TheVariants as piece
use Rattle.oz_language.specs.declared.kernel.Kernel.{Kernel}
use Rattle.oz_language.specs.declared.kernel.LinearTerm.{LinearTerm}
use Rattle.oz_language.specs.declared.kernel.Operation.{Operation}
use Rattle.oz_language.specs.declared.kernel.Sign.{Sign}
use Rattle.oz_language.specs.declared.kernel.Statement.{Statement}
use Rattle.oz_language.specs.declared.kernel.Statement.TheVariants as statement

-- Patterns and statements as trees

mutual
  pub data Pattern : Type 0 where
    variable : Identifier → Pattern
    any : Pattern
    constant : Constant → Pattern
    -- l(F:P ..), with the features of its fields in the order of arities
    labelled : Literal → List Constant → Patterns → Pattern

  pub data Patterns : Type 0 where
    no_pattern : Patterns
    beside : Pattern → Patterns → Patterns

mutual
  pub data Stmt : Type 0 where
    skip : Stmt
    fail : Stmt
    -- local X .. in S .. end
    local : List Identifier → Stmts → Stmt
    -- X=Y
    equate : Identifier → Identifier → Stmt
    -- X=v
    bind : Identifier → Constant → Stmt
    -- X=l(F:Y ..)
    bind_record : Identifier → Literal → List Constant → List Identifier → Stmt
    -- X=proc {$ Y ..} S .. end
    bind_procedure : Identifier → List Identifier → Stmts → Stmt
    -- {X Y ..}
    call : Identifier → List Identifier → Stmt
    -- choice S .. [] .. end
    choice : Bodies → Stmt
    -- if X then S .. else S .. end
    test : Identifier → Stmts → Stmts → Stmt
    -- case X of P then S .. else S .. end
    matching : Identifier → Pattern → Stmts → Stmts → Stmt
    -- no clause of a case matches
    no_match : Stmt
    -- {'op' X ..}
    operate : Operation → List Identifier → Stmt
    -- thread S .. end
    thread : Stmts → Stmt
    -- try S .. catch X then S .. end
    attempt : Stmts → Identifier → Stmts → Stmt
    -- raise X end
    raise : Identifier → Stmt
    -- post(s C A*X ..) and post(times X Y Z)
    post : Sign → ℤ → List LinearTerm → Stmt
    post_times : Identifier → Identifier → Identifier → Stmt

  pub data Stmts : Type 0 where
    none : Stmts
    followed : Stmt → Stmts → Stmts

  pub data Bodies : Type 0 where
    no_body : Bodies
    body : Stmts → Bodies → Bodies

-- one statement
abbrev pub just : Stmt → Stmts
just s = followed s none

-- one list of statements behind another
infixr 20 ◌⨾◌
abbrev pub ◌⨾◌ : Stmts → Stmts → Stmts
none ⨾ b = b
followed s a ⨾ b = followed s (a ⨾ b)

-- Numbers: those inside a statement come before it, and each in the order of the text

abbrev mutual
  -- how many statements there are inside
  pub inside : Stmt → ℕ
  inside (local xs ss) = count ss
  inside (bind_procedure x xs ss) = count ss
  inside (choice bs) = count_bodies bs
  inside (test x ss us) = count ss + count us
  inside (matching x p ss us) = count ss + count us
  inside (thread ss) = count ss
  inside (attempt ss x us) = count ss + count us
  inside s = 0

  pub count : Stmts → ℕ
  count none = 0
  count (followed s ss) = suc (inside s) + count ss

  pub count_bodies : Bodies → ℕ
  count_bodies no_body = 0
  count_bodies (body ss bs) = count ss + count_bodies bs

-- the numbers of the statements of a body, those inside them being numbered from n on
abbrev pub numbers : ℕ → Stmts → List ℕ
numbers n none = []
numbers n (followed s ss) = (n + inside s) ∷ numbers (n + suc (inside s)) ss

abbrev pub numbers_each : ℕ → Bodies → List (List ℕ)
numbers_each n no_body = []
numbers_each n (body ss bs) = numbers n ss ∷ numbers_each (n + count ss) bs

-- a pattern is numbered as the list of its nodes, each before those inside it
abbrev mutual
  pub pieces : Pattern → List Piece
  pieces (variable x) = piece.Variable x ∷ []
  pieces any = piece.Any ∷ []
  pieces (constant c) = piece.Constant c ∷ []
  pieces (labelled l fs ps) = piece.Record l fs ∷ pieces_each ps

  pub pieces_each : Patterns → List Piece
  pieces_each no_pattern = []
  pieces_each (beside p ps) = pieces p ++ pieces_each ps

-- the statement itself, with its bodies by their numbers
abbrev pub statement_at : ℕ → Stmt → Statement
statement_at n skip = statement.Skip
statement_at n fail = statement.Fail
statement_at n (local xs ss) = statement.Local xs (numbers n ss)
statement_at n (equate x y) = statement.Equate x y
statement_at n (bind x v) = statement.Bind x v
statement_at n (bind_record x l fs xs) = statement.BindRecord x l fs xs
statement_at n (bind_procedure x xs ss) = statement.BindProcedure x xs (numbers n ss)
statement_at n (call x xs) = statement.Call x xs
statement_at n (choice bs) = statement.Choice (numbers_each n bs)
statement_at n (test x ss us) = statement.If x (numbers n ss) (numbers (n + count ss) us)
statement_at n (matching x p ss us) = statement.Case x (pieces p) (numbers n ss) (numbers (n + count ss) us)
statement_at n no_match = statement.NoMatch
statement_at n (operate op xs) = statement.Operate op xs
statement_at n (thread ss) = statement.Thread (numbers n ss)
statement_at n (attempt ss x us) = statement.Try (numbers n ss) x (numbers (n + count ss) us)
statement_at n (raise x) = statement.Raise x
statement_at n (post s c ts) = statement.Post s c ts
statement_at n (post_times x y z) = statement.PostTimes x y z

abbrev mutual
  -- the statements inside one, numbered from n on
  pub listed_inside : ℕ → Stmt → List Statement
  listed_inside n (local xs ss) = listed_all n ss
  listed_inside n (bind_procedure x xs ss) = listed_all n ss
  listed_inside n (choice bs) = listed_bodies n bs
  listed_inside n (test x ss us) = listed_all n ss ++ listed_all (n + count ss) us
  listed_inside n (matching x p ss us) = listed_all n ss ++ listed_all (n + count ss) us
  listed_inside n (thread ss) = listed_all n ss
  listed_inside n (attempt ss x us) = listed_all n ss ++ listed_all (n + count ss) us
  listed_inside n s = []

  -- statements, each with those inside it before it
  pub listed_all : ℕ → Stmts → List Statement
  listed_all n none = []
  listed_all n (followed s ss) = listed_inside n s ++ (statement_at n s ∷ listed_all (n + suc (inside s)) ss)

  pub listed_bodies : ℕ → Bodies → List Statement
  listed_bodies n no_body = []
  listed_bodies n (body ss bs) = listed_all n ss ++ listed_bodies (n + count ss) bs

-- a program of these statements
abbrev pub numbered : List (List ℕ) → Stmts → Kernel
numbered words ss = record { words = words; statements = listed_all 0 ss; body = numbers 0 ss }

-- Looking up what numbers name

abbrev pub name_eq : Identifier → Identifier → Bool
name_eq (Word m) (Word n) = (m == n)
name_eq (Fresh m) (Fresh n) = (m == n)
name_eq (Word m) (Fresh n) = false
name_eq (Fresh m) (Word n) = false

-- the text of a word
abbrev pub word_text : List (List ℕ) → ℕ → List ℕ
word_text words n = unwrap_or (slice_get words n) []

-- the bodies of a choice
abbrev pub alternatives_of : Option Statement → List (List ℕ)
alternatives_of (Some (statement.Choice alternatives)) = alternatives
alternatives_of statement = []

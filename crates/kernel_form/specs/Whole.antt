-- Kernel programs whose records have as many fields as features. Only of these does the numbered form tell the statements.
use Rattle.std.specs.Prelude.{ℕ, suc, ◌≡◌, length}
use Rattle.oz_language.specs.Kernels.{Pattern, labelled, Patterns, no_pattern, beside, Stmt, local, bind_record, bind_procedure, choice, test, matching, thread, attempt, Stmts, none, followed, Bodies, no_body, body}

abbrev pub width : Patterns → ℕ
width no_pattern = 0
width (beside p ps) = suc (width ps)

abbrev mutual
  pub IsWholePattern : Pattern → Type 0
  IsWholePattern (labelled l fs ps) = (length fs ≡ width ps) × AreWholePatterns ps
  IsWholePattern p = Unit {0}

  pub AreWholePatterns : Patterns → Type 0
  AreWholePatterns no_pattern = Unit {0}
  AreWholePatterns (beside p ps) = IsWholePattern p × AreWholePatterns ps

abbrev mutual
  pub IsWhole : Stmt → Type 0
  IsWhole (local xs ss) = AreWhole ss
  IsWhole (bind_record x l fs xs) = length fs ≡ length xs
  IsWhole (bind_procedure x xs ss) = AreWhole ss
  IsWhole (choice bs) = AreWholeBodies bs
  IsWhole (test x ss us) = AreWhole ss × AreWhole us
  IsWhole (matching x p ss us) = IsWholePattern p × (AreWhole ss × AreWhole us)
  IsWhole (thread ss) = AreWhole ss
  IsWhole (attempt ss x us) = AreWhole ss × AreWhole us
  IsWhole s = Unit {0}

  pub AreWhole : Stmts → Type 0
  AreWhole none = Unit {0}
  AreWhole (followed s ss) = IsWhole s × AreWhole ss

  pub AreWholeBodies : Bodies → Type 0
  AreWholeBodies no_body = Unit {0}
  AreWholeBodies (body ss bs) = AreWhole ss × AreWholeBodies bs

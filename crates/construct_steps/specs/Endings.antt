-- How an `if` and a `case` end, case by case as the code reads it.
use Rattle.std.specs.Prelude.{◌&&◌, Bool, true, false, [], ◌∷◌, ◌++◌, Option, Some, None}
use Rattle.oz_language.specs.Grammar.{Phrase, of_list, when, choose, arm, cases, cases_or, clause}
use Rattle.reader_law.specs.Machine.{Opener, of_then, of_else, of_clause, of_case_else, Stack, guard, may_state, had, ends}

-- an `if` or a `case` ends with a body
abbrev pub end_branch : Opener → Bool → Bool → Phrase → Stack → Option Stack
end_branch (of_then at sb eb bs c) s e b k = guard (may_state k && (sb && s)) (Some (had (when at (of_list (bs ++ arm c b ∷ []))) true false k))
end_branch (of_else at sb eb bs) s e b k = ends (choose at (of_list bs) b) (sb && s) (eb && e) k
end_branch (of_clause at c sb eb cs p) s e b k = ends (cases at c (of_list (cs ++ clause p b ∷ []))) (sb && s) (eb && e) k
end_branch (of_case_else at c sb eb cs) s e b k = ends (cases_or at c (of_list cs) b) (sb && s) (eb && e) k
end_branch o s e b k = None

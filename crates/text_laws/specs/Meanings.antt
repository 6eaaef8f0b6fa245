-- What a term is where a phrase says it: a pattern, and kernel statements that make it the value of an identifier.
use Rattle.std.specs.Prelude.{ℕ, zero, suc, ◌+◌}
use Rattle.oz_language.specs.Kernels.{Pattern, Patterns, no_pattern, none, just}
use Rattle.oz_language.specs.Kernels as k
use Rattle.oz_language.specs.Translation.{Made, made, and_then, preceded, within, fresh_names}
use Rattle.oz_language.specs.declared.kernel.Identifier.{Identifier}
use Rattle.oz_language.specs.declared.kernel.Identifier.TheVariants.{Fresh}
use Rattle.text_laws.specs.Terms.{Term, Terms, simple, compound, no_term, beside}

-- the pattern that this term alone matches
abbrev mutual
  pub pattern_of : Term → Pattern
  pattern_of (simple c) = k.constant c
  pattern_of (compound l fs ts) = k.labelled l fs (patterns_of ts)

  pub patterns_of : Terms → Patterns
  patterns_of no_term = no_pattern
  patterns_of (beside t ts) = k.beside (pattern_of t) (patterns_of ts)

abbrev pub count : Terms → ℕ
count no_term = zero
count (beside t ts) = suc (count ts)

abbrev mutual
  -- the term becomes the value of x: X=c, or local F .. in X=l(F:F ..) S .. end, where each S makes one F the value of its field.
  -- The identifiers of fields are numbered from n on
  pub term_made : Identifier → ℕ → Term → Made
  term_made x n (simple c) = made (just (k.bind x c)) n
  term_made x n (compound l fs ts) =
      let names = fresh_names n (count ts) in
      within names (preceded (k.bind_record x l fs names) (fields_made n ts (n + count ts)))

  -- fields, whose identifiers are numbered from m on
  pub fields_made : ℕ → Terms → ℕ → Made
  fields_made m no_term n = made none n
  fields_made m (beside t ts) n = and_then (term_made (Fresh m) n t) (λ i. fields_made (suc m) ts i)

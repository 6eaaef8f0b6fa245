-- Constraints as a program writes them (CTM 12.3.1, 12.4.4; Schulte 2): descriptions of domains, and relations between variables.
use Rattle.std.specs.Prelude.{ℤ, int_le, ◌&&◌, if◌then◌else◌, List, [], ◌∷◌, Option, Some, None, map}
use Rattle.oz_base.specs.declared.names.Ident.{Ident}
use Rattle.oz_base.specs.declared.interval.Interval.{Interval}
use Rattle.oz_base.specs.declared.relation.Relation.{Relation}
use Rattle.oz_base.specs.declared.relation.Relation.TheVariants.{Le, Lt, Eq, Ne}
use Rattle.oz_semantics.specs.Values.{integer_in, pair_in}
use Rattle.oz_language.specs.Wording.{hash_word}
use Rattle.oz_domains.specs.Domains.{is_domain_value}
use Rattle.oz_semantics.specs.Store.{View, value_of}
use Rattle.oz_semantics.specs.Inputs.{Input, Known, OtherKind, both, read, integer_input}
use Rattle.oz_language.specs.declared.kernel.Sign.{Sign}
use Rattle.oz_language.specs.declared.kernel.Sign.TheVariants.{Zero, NotZero, Negative, NotPositive}
use Rattle.oz_language.specs.declared.kernel.LinearTerm.{LinearTerm}
use Rattle.oz_semantics.specs.declared.value.Tell.{Tell}
use Rattle.oz_semantics.specs.declared.value.Tell.TheVariants.{Within}
use Rattle.oz_semantics.specs.declared.outcome.RaiseKind.{RaiseKind}
use Rattle.oz_semantics.specs.declared.outcome.RaiseKind.TheVariants.{FailureTell, Domain}

-- descriptions of domains

-- an integer stands for itself alone, and L#H for all from L to H
abbrev pub bounds_by : View → Option ℤ → Option (Ident × Ident) → Input (ℤ × ℤ)
bounds_by view (Some i) pair = Known (i, i)
bounds_by view None (Some pair) = both (integer_input view pair.0) (integer_input view pair.1)
bounds_by view None None = OtherKind

-- the bounds that a domain description has
abbrev pub bounds : View → Ident → Input (ℤ × ℤ)
bounds view d = read (λ v. bounds_by view (integer_in v) (pair_in hash_word v)) d (value_of view d)

-- why no domain has these bounds, if none has
abbrev pub refusal_of : ℤ → ℤ → Option RaiseKind
refusal_of low high = if is_domain_value low && is_domain_value high then (if int_le low high then None else Some FailureTell) else Some Domain

-- each of these variables is an integer of the interval
abbrev pub confined : List Ident → Interval → List Tell
confined xs i = map (λ x. Within x (i ∷ [])) xs

-- relations

-- what is said of a sum: a constant, and a coefficient for each position
abbrev pub sum_relation : Sign → ℤ → List ℤ → Relation
sum_relation NotPositive c as' = Le (record { constant = c; coefficients = as' })
sum_relation Negative c as' = Lt (record { constant = c; coefficients = as' })
sum_relation Zero c as' = Eq (record { constant = c; coefficients = as' })
sum_relation NotZero c as' = Ne (record { constant = c; coefficients = as' })

-- that of a statement's terms
abbrev pub relation_of : Sign → ℤ → List LinearTerm → Relation
relation_of s c ts = sum_relation s c (map (λ (t : LinearTerm). t.coefficient) ts)

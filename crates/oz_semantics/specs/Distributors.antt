-- Distributors (CTM 12.4.6; Schulte 2): how `FD.distribute` tries the values of a vector of variables. Where an element has no
-- domain yet it is told all domain values. Then the distributor offers two alternatives, the parts of a domain, as long as there is an
-- element that is not determined, and waits for these elements as well.
use Rattle.std.specs.Prelude.{Bool, not, if◌then◌else◌, is_some, List, [], ◌∷◌, Option, Some, None, option_map, unwrap_or, map, filter, slice_get}
use Rattle.std.specs.List.{list_any}
use Rattle.oz_base.specs.Lists.{holds_of}
use Rattle.oz_base.specs.declared.names.Ident.{Ident}
use Rattle.oz_base.specs.declared.distribution.Rule.{Rule}
use Rattle.oz_base.specs.declared.distribution.Rule.TheVariants.{Naive, FirstFail, Split as Halve}
use Rattle.oz_base.specs.declared.distribution.Test.{Test}
use Rattle.oz_base.specs.declared.distribution.Split.{Split}
use Rattle.oz_semantics.specs.Values.{is_like, atom, integer_in}
use Rattle.oz_language.specs.Wording.{naive_word, ff_word, split_word}
use Rattle.oz_domains.specs.Domains.{IntSet, intervals_of}
use Rattle.oz_domains.specs.Positions.{domain}
use Rattle.oz_domains.specs.Splits.{split_of, first_part, second_part}
use Rattle.oz_semantics.specs.Store.{View, value_of, domain_of, is_determined}
use Rattle.oz_semantics.specs.Inputs.{Input, Known, OtherKind, both, known_if, and_further, read}
use Rattle.oz_semantics.specs.Vectors.{vector}
use Rattle.oz_semantics.specs.Propagation.{domain_in}
use Rattle.oz_semantics.specs.declared.value.Value.{Value}
use Rattle.oz_semantics.specs.declared.value.Tell.{Tell}
use Rattle.oz_semantics.specs.declared.value.Tell.TheVariants.{Within}

-- the rule

abbrev pub rule_in : Value → Option Rule
rule_in v =
    if is_like (atom naive_word) v then Some Naive
    else (if is_like (atom ff_word) v then Some FirstFail else (if is_like (atom split_word) v then Some Halve else None))

abbrev pub rule_input : View → Ident → Input Rule
rule_input view x = read (λ v. known_if (rule_in v)) x (value_of view x)

-- what a distributor does

pub data Distribution : Type 0 where
  -- these elements are told all domain values, and it starts anew
  Widens : List Ident → Distribution
  -- all elements are determined
  Finished : Distribution
  -- one of two parts of a domain is told, the first or the second; it waits for these elements as well
  Splits : Tell → Tell → List Ident → Distribution

-- determined, and no integer
abbrev pub is_foreign : View → Ident → Bool
is_foreign view x = holds_of (λ v. not (is_some (integer_in v))) (value_of view x)

-- neither determined to an integer nor with a domain
abbrev pub is_bare : View → Ident → Bool
is_bare view x = not (is_some (domain_of view x))

abbrev pub undetermined : View → List Ident → List Ident
undetermined view xs = filter (λ x. not (is_determined view x)) xs

-- the parts of the domain d of x
abbrev pub parts_of : List Ident → Test → IntSet → Ident → Distribution
parts_of waits t d x = Splits (Within x (intervals_of (first_part t d))) (Within x (intervals_of (second_part t d))) waits

-- by the place that is to be split, which is one of these elements
abbrev pub splits_at : View → List Ident → List IntSet → Option Split → Distribution
splits_at view xs ds None = Finished
splits_at view xs ds (Some s) = unwrap_or (option_map (parts_of (undetermined view xs) s.test (domain ds s.var)) (slice_get xs s.var)) Finished

-- where all elements have a domain
abbrev pub splits : View → Rule → List Ident → Distribution
splits view rule xs = let ds = map (domain_in view) xs in splits_at view xs ds (split_of rule ds)

abbrev pub widens_or : List Ident → Distribution → Distribution
widens_or [] d = d
widens_or (x ∷ xs) d = Widens (x ∷ xs)

abbrev pub distribution_of : View → Rule → List Ident → Input Distribution
distribution_of view rule xs = if list_any (is_foreign view) xs then OtherKind else Known (widens_or (filter (is_bare view) xs) (splits view rule xs))

-- a distributor with this rule and this vector
abbrev pub distribution : View → Ident → Ident → Input Distribution
distribution view rule v = and_further (λ (i : Rule × List Ident). distribution_of view i.0 i.1) (both (rule_input view rule) (vector view v))

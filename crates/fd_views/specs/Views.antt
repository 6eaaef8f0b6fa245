-- What a space sees of a search over finite domains: variables that are told domains alone, and the constraint store that these domains
-- make (the single-assignment store, CTM 2.2; basic constraints, CTM 12.3; Schulte, LNCS 2302, chapter 2).
use Rattle.std.specs.Prelude.{◌≡◌, ◌≢◌, ◌<◌, ◌≤◌, ℕ, ℤ, pos, List, [], ◌∷◌, length, map, slice_index_or, unwrap_or, is_some, true, false, Option, Some, None, ◌++◌, Contains, AllPairs, ⊤}
use Rattle.environments.specs.Environments.{nowhere}
use Rattle.oz_base.specs.declared.names.Ident.{Ident}
use Rattle.oz_base.specs.declared.interval.Interval.{Interval}
use Rattle.oz_base.specs.declared.interval.TheConstants.{LEAST_VALUE, GREATEST_VALUE}
use Rattle.oz_base.specs.declared.distribution.Rule.{Rule}
use Rattle.oz_base.specs.declared.distribution.Rule.TheVariants.{Naive, FirstFail, Split as Halve}
use Rattle.oz_language.specs.Wording.{nil_word, hash_word, naive_word, ff_word, split_word}
use Rattle.oz_language.specs.declared.token.Literal.TheVariants.{Atom}
use Rattle.oz_language.specs.declared.kernel.Constant.TheVariants as constant
use Rattle.oz_domains.specs.Domains.{IntSet, Has, between}
use Rattle.oz_domains.specs.Positions.{domain}
use Rattle.oz_semantics.specs.Values.{atom}
use Rattle.oz_semantics.specs.Store.{View, Same, domain_of, is_consistent}
use Rattle.oz_semantics.specs.Effects.{stream_value}
use Rattle.oz_semantics.specs.declared.value.Value.{Value}
use Rattle.oz_semantics.specs.declared.value.Value.TheVariants as value
use Rattle.oz_semantics.specs.declared.value.Tell.{Tell}
use Rattle.oz_semantics.specs.declared.value.Tell.TheVariants.{Equal, Is, Within}
use Rattle.fd_stores.specs.Stores.{Store}

-- The variables of a search

-- the variable at position x of the store, of these in the order of the store
abbrev pub variable_at : List Ident → ℕ → Ident
variable_at xs x = slice_index_or xs x nowhere

-- the variables at several positions: those of a propagator, or of a distributor
abbrev pub variables_at : List Ident → List ℕ → List Ident
variables_at xs is = map (variable_at xs) is

-- the largest domain: all integers that a finite domain may have
abbrev pub all_values : IntSet
all_values = between LEAST_VALUE GREATEST_VALUE

-- a set of integers that are all domain values
abbrev pub AreDomainValues : IntSet → Type 0
AreDomainValues s = (v : ℤ) → Has s v → Has all_values v

-- the domain that a view gives a variable, and the largest one where it gives none
abbrev pub domain_or_all : View → Ident → IntSet
domain_or_all view x = unwrap_or (domain_of view x) all_values

-- each of these is a finite-domain variable: the view gives it a domain
abbrev pub HaveDomains : View → List Ident → Type 0
HaveDomains view xs = (x : Ident) → Contains xs x → is_some (domain_of view x) ≡ true

-- What is seen of them

-- an unbound variable that no equation joins to another: no other variable is equal to x, and it was told no value
pub record IsFree (view : View) (x : Ident) : Type 0 where
  pub apart : (y : Ident) → Same view x y → x ≡ y
  pub untold : (v : Value) → Contains view (Is x v) → ⊥

-- The view of a search over these variables: they are free, and all basic constraints on domains are theirs. Equal variables were told
-- one value at most.
pub record IsPlain (view : View) (xs : List Ident) : Type 0 where
  pub free : (x : Ident) → Contains xs x → IsFree view x
  pub only : (x : Ident) (is : List Interval) → Contains view (Within x is) → Contains xs x
  pub one : (x y : Ident) (v w : Value) → Same view x y → Contains view (Is x v) → Contains view (Is y w) → v ≡ w

-- The view stands for the store of a search: their domains are those of its first variables, and its other variables, which the space has
-- not made yet, have all domain values.
pub record StandsFor (view : View) (xs : List Ident) (s : Store) : Type 0 where
  pub plain : IsPlain view xs
  pub once : AllPairs (λ x y. x ≢ y) xs
  pub fits : length xs ≤ length s
  pub told : (x : ℕ) → x < length xs → domain_or_all view (variable_at xs x) ≡ domain s x
  pub rest : (x : ℕ) → length xs ≤ x → x < length s → domain s x ≡ all_values

-- a tell that is a basic constraint on a domain: no equation, and no value
abbrev pub IsDomainTell : Tell → Type 0
IsDomainTell (Within x is) = ⊤
IsDomainTell (Equal x y) = ⊥
IsDomainTell (Is x v) = ⊥

-- tells that are such basic constraints alone, as propagators and distributors tell them
abbrev pub OnlyDomains : List Tell → Type 0
OnlyDomains ts = (t : Tell) → Contains ts t → IsDomainTell t

-- what a tell does: the view stands for the store that is left of the one before, and is inconsistent where a domain became empty
abbrev pub IsTold : View → List Ident → List Tell → Option Store → Type 0
IsTold view xs ts None = is_consistent (view ++ ts) ≡ false
IsTold view xs ts (Some m) = StandsFor (view ++ ts) xs m

-- What else is seen

-- a determined variable: x is equal to a variable that was told this value
pub record HasValue (view : View) (x : Ident) (v : Value) : Type 0 where
  pub variable : Ident
  pub equal : Same view x variable
  pub told : Contains view (Is variable v)

-- the atom that names a rule of distribution: `naive`, `ff` (first-fail) or `split`
abbrev pub rule_word : Rule → ℕ
rule_word Naive = naive_word
rule_word FirstFail = ff_word
rule_word Halve = split_word

-- the pair L#H, which describes a domain by its least and its greatest value
abbrev pub hash_value : Ident → Ident → Value
hash_value a b = value.Record (record { label = Atom hash_word; features = constant.Int (pos 1) ∷ constant.Int (pos 2) ∷ []; fields = a ∷ b ∷ [] })

-- a list (CTM 2.3.2): x is a chain of cells `y|z` that ends with `nil`, and these variables are its elements
pub data IsList (view : View) : Ident → List Ident → Type 0 where
  ends : {x : Ident} → HasValue view x (atom nil_word) → IsList view x []
  cell : {x y z : Ident} {ys : List Ident} → HasValue view x (stream_value y z) → IsList view z ys → IsList view x (y ∷ ys)

-- The laws of views of a search: which tells leave its store as it is, and which inputs the machine reads in such a view (the
-- single-assignment store, CTM 2.2; basic constraints, CTM 12.3; Schulte, LNCS 2302, chapter 2).
use Rattle.std.specs.Prelude.{◌≡◌, ◌<◌, ℕ, ℤ, not, List, [], ◌∷◌, ◌++◌, length, flat_map, Contains, All, Some, None, option_map}
use Rattle.oz_base.specs.declared.names.Ident.{Ident}
use Rattle.oz_base.specs.declared.relation.Relation.{Relation}
use Rattle.oz_base.specs.declared.distribution.Rule.{Rule}
use Rattle.oz_language.specs.Wording.{bar_word}
use Rattle.oz_language.specs.declared.token.Literal.{Literal}
use Rattle.oz_language.specs.declared.kernel.Constant.TheVariants as constant
use Rattle.oz_domains.specs.Domains.{only}
use Rattle.oz_domains.specs.Positions.{domain, AreDomains, all_single}
use Rattle.oz_semantics.specs.Values.{integer, atom, pair_in}
use Rattle.oz_semantics.specs.Store.{View, IsConsistent, value_of, named_by}
use Rattle.oz_semantics.specs.Inputs.{Known}
use Rattle.oz_semantics.specs.Constraints.{bounds}
use Rattle.oz_semantics.specs.Vectors.{vector}
use Rattle.oz_semantics.specs.Propagation.{is_undecided}
use Rattle.oz_semantics.specs.Distributors.{rule_input}
use Rattle.oz_semantics.specs.declared.value.Record.{Record}
use Rattle.oz_semantics.specs.declared.value.Value.{Value}
use Rattle.oz_semantics.specs.declared.value.Value.TheVariants as value
use Rattle.oz_semantics.specs.declared.value.Tell.{Tell}
use Rattle.oz_semantics.specs.declared.value.Tell.TheVariants.{Equal, Is}
use Rattle.oz_semantics.specs.declared.configuration.LastRun.{LastRun}
use Rattle.fd_stores.specs.Stores.{Store, domains_at}
use Rattle.fd_views.specs.Views.{variable_at, variables_at, IsFree, IsPlain, StandsFor, OnlyDomains, HasValue, rule_word, hash_value, IsList}

-- Views

-- a view that stands for a store without an empty domain is consistent, so that its space has not failed
abbrev pub ConsistentLaw : Type 0
ConsistentLaw = (view : View) (xs : List Ident) (s : Store) → StandsFor view xs s → AreDomains s → IsConsistent view

-- Which tells leave a variable free: it is free as long as nothing names it, and all that does not bind it or make it equal to another
-- keeps it so
pub record FreeLaw : Type 0 where
  pub unnamed : (view : View) (x : Ident) → (Contains (flat_map named_by view) x → ⊥) → IsFree view x
  pub domains : (view : View) (ts : List Tell) (x : Ident) → OnlyDomains ts → IsFree view x → IsFree (view ++ ts) x
  pub value : (view : View) (x y : Ident) (v : Value) → IsFree view x → IsFree view y → (y ≡ x → ⊥) → IsFree (view ++ Is y v ∷ []) x
  pub equation : (view : View) (x y z : Ident) → IsFree view x → IsFree view y → (x ≡ y → ⊥) → (x ≡ z → ⊥) → IsFree (view ++ Equal y z ∷ []) x

-- Where a free variable, which is none of the search, gets a value or becomes equal to another, the view goes on standing for its store;
-- and a further variable of the search has all domain values
pub record GoesOnLaw : Type 0 where
  pub value : (view : View) (xs : List Ident) (s : Store) (y : Ident) (v : Value) → StandsFor view xs s → IsFree view y → (Contains xs y → ⊥)
      → StandsFor (view ++ Is y v ∷ []) xs s
  pub equation : (view : View) (xs : List Ident) (s : Store) (y z : Ident) → StandsFor view xs s → IsFree view y → (Contains xs y → ⊥) → (Contains xs z → ⊥)
      → StandsFor (view ++ Equal y z ∷ []) xs s
  pub variable : (view : View) (xs : List Ident) (s : Store) (y : Ident) → StandsFor view xs s → IsFree view y → (Contains xs y → ⊥) → length xs < length s
      → StandsFor view (xs ++ y ∷ []) s

-- a variable is determined where its domain has one value, which is then its value; and a propagator is undecided as long as one of its
-- variables is not determined
pub record DeterminedLaw : Type 0 where
  pub value : (view : View) (xs : List Ident) (s : Store) (x : ℕ) → StandsFor view xs s → x < length xs → value_of view (variable_at xs x) ≡ option_map integer (only (domain s x))
  pub undecided : (view : View) (xs : List Ident) (s : Store) (r : Relation) (is : List ℕ) (last : LastRun) → StandsFor view xs s → All (λ x. x < length xs) is
      → is_undecided view (record { relation = r; variables = variables_at xs is; last = last }) ≡ not (all_single (domains_at s is))

-- Inputs

-- a variable that is determined stays so, whatever else is told (the store is monotonic); and in a plain view that is its value
pub record ValueLaw : Type 0 where
  pub kept : (view : View) (ts : List Tell) (x : Ident) (v : Value) → HasValue view x v → HasValue (view ++ ts) x v
  pub known : (view : View) (xs : List Ident) (x : Ident) (v : Value) → IsPlain view xs → HasValue view x v → value_of view x ≡ Some v

-- the bounds that a description of a domain gives: those of an integer i are i and i, and those of L#H are L and H
pub record BoundsLaw : Type 0 where
  pub one : (view : View) (xs : List Ident) (d : Ident) (i : ℤ) → IsPlain view xs → HasValue view d (integer i) → bounds view d ≡ Known (i, i)
  pub two : (view : View) (xs : List Ident) (d a b : Ident) (low high : ℤ) → IsPlain view xs → HasValue view d (hash_value a b) → HasValue view a (integer low)
      → HasValue view b (integer high) → bounds view d ≡ Known (low, high)

-- the elements of a vector of variables: the fields of a record that is no cell of a list, none of a literal, and the elements of a list
pub record VectorLaw : Type 0 where
  pub fields : (view : View) (xs : List Ident) (x : Ident) (r : Record) → IsPlain view xs → pair_in bar_word (value.Record r) ≡ None → HasValue view x (value.Record r)
      → vector view x ≡ Known r.fields
  pub none : (view : View) (xs : List Ident) (x : Ident) (l : Literal) → IsPlain view xs → HasValue view x (value.Constant (constant.Literal l)) → vector view x ≡ Known []
  pub elements : (view : View) (xs : List Ident) (x : Ident) (ys : List Ident) → IsPlain view xs → IsList view x ys → vector view x ≡ Known ys

-- the atom of a rule is read as this rule of distribution
abbrev pub RuleLaw : Type 0
RuleLaw = (view : View) (xs : List Ident) (x : Ident) (r : Rule) → IsPlain view xs → HasValue view x (atom (rule_word r)) → rule_input view x ≡ Known r

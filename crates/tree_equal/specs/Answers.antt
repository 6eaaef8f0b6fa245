-- What the test of equality answers.
use Rattle.std.specs.Prelude.{◌≡◌, Bool, true, false, List, [], ◌∷◌, Option, Some, None}
use Rattle.std.specs.List.{list_any}
use Rattle.oz_base.specs.declared.names.Ident.{Ident}
use Rattle.oz_domains.specs.Domains.{IntSet}
use Rattle.oz_semantics.specs.Store.{same}
use Rattle.oz_semantics.specs.Values.{is_like, fields_of}
use Rattle.oz_semantics.specs.declared.value.Value.{Value}
use Rattle.oz_semantics.specs.Entailment as entailment
use Rattle.oz_semantics.specs.declared.value.Tell.{Tell}
use Rattle.tree_equal.specs.declared.equality.Equality.{Equality}
use Rattle.tree_equal.specs.declared.equality.Equality.TheVariants.{Entailed, Contradicted, Undecided}

-- two lists of variables are of the same classes
abbrev pub SameClasses : List Tell → List Ident → List Ident → Type 0
SameClasses view xs ys = (z : Ident) → list_any (same view z) xs ≡ list_any (same view z) ys

-- the answer is the definition's; a class that is waited for may be named by any variable of it, and more than once
abbrev pub IsEquality : List Tell → entailment.Equality → Equality → Type 0
IsEquality view e Entailed = e ≡ entailment.Entailed
IsEquality view e Contradicted = e ≡ entailment.Contradicted
IsEquality view e (Undecided xs) = (ys : List Ident) × (e ≡ entailment.Undecided ys) × SameClasses view xs ys

-- the answer where the equation does not clash: it is undecided where variables wait
abbrev pub unless : List Ident → Equality
unless [] = Entailed
unless (x ∷ xs) = Undecided (x ∷ xs)

-- what is found out of an equation: a clash, or the variables that wait
abbrev pub IsFound : List Tell → entailment.Equality → Option (List Ident) → Type 0
IsFound view e None = e ≡ entailment.Contradicted
IsFound view e (Some waits) = IsEquality view e (unless waits)

-- what is said of an equation that is decided
abbrev pub decided_as : Bool → entailment.Equality
decided_as true = entailment.Entailed
decided_as false = entailment.Contradicted

-- two values are equal or not whatever their fields are
abbrev pub Decides : Option Value → Option Value → Option Bool → Type 0
Decides (Some v) (Some w) (Some true) = (is_like v w ≡ true) × (fields_of v ≡ [])
Decides (Some v) (Some w) (Some false) = is_like v w ≡ false
Decides o p None = Unit
Decides o p (Some b) = ⊥

-- neither a value nor a domain
abbrev pub is_bare : Option Value → Option IntSet → Bool
is_bare None None = true
is_bare None (Some s) = false
is_bare (Some v) domain = false

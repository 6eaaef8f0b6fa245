-- What the code's answers say.
use Rattle.std.specs.Prelude.{◌≡◌, ◌⊎◌, ℤ, List, Option, Some, None, option_map}
use Rattle.std.specs.Borrow.{Bor}
use Rattle.oz_base.specs.declared.names.Ident.{Ident}
use Rattle.oz_domains.specs.Domains.{single}
use Rattle.oz_semantics.specs.Store.{View, domain_of}
use Rattle.oz_semantics.specs.Inputs.{Input, Known, Unknown, OtherKind}
use Rattle.oz_semantics.specs.Distributors.{Distribution, Widens, Finished, Splits}
use Rattle.fd_inputs.specs.declared.input.Input as inputs
use Rattle.fd_inputs.specs.declared.input.Input.TheVariants as input
use Rattle.fd_inputs.specs.declared.descriptions.Range.{Range}
use Rattle.fd_inputs.specs.declared.distribution.Distribution as distributions
use Rattle.fd_inputs.specs.declared.distribution.Distribution.TheVariants as distribution

-- an input, by what is made of the known thing
abbrev pub input_of : {A B : Type 0} → (A → B) → inputs.Input A → Input B
input_of make (input.Known a) = Known (make a)
input_of make (input.Unknown x) = Unknown x
input_of make input.OtherKind = OtherKind

-- of two inputs, both are waited for from left to right before a kind is looked at
abbrev pub both_of : {A B : Type 0} → inputs.Input A → inputs.Input B → inputs.Input (A × B)
both_of (input.Known a) (input.Known b) = input.Known (a, b)
both_of (input.Known a) (input.Unknown y) = input.Unknown y
both_of (input.Known a) input.OtherKind = input.OtherKind
both_of (input.Unknown x) b = input.Unknown x
both_of input.OtherKind (input.Known b) = input.OtherKind
both_of input.OtherKind (input.Unknown y) = input.Unknown y
both_of input.OtherKind input.OtherKind = input.OtherKind

-- a known thing as it is
abbrev pub as_it_is : {A : Type 0} → A → A
as_it_is a = a

abbrev pub bounds_of : Range → ℤ × ℤ
bounds_of b = (b.low, b.high)

-- a variable has no domain, or is one integer
abbrev pub IsUntold : View → Ident → Type 0
IsUntold view x = (domain_of view x ≡ None) ⊎ ((i : ℤ) × (domain_of view x ≡ Some (single i)))

abbrev pub distribution_of : distributions.Distribution → Distribution
distribution_of (distribution.Widens xs) = Widens xs.items
distribution_of distribution.Finished = Finished
distribution_of (distribution.Splits one other xs) = Splits one other xs.items

-- the elements that a distributor waits for besides, where it offers two parts
abbrev pub offered : Distribution → Option (List Ident)
offered (Widens xs) = None
offered Finished = None
offered (Splits one other xs) = Some xs

abbrev pub offered_in : Input Distribution → Input (Option (List Ident))
offered_in (Known d) = Known (offered d)
offered_in (Unknown x) = Unknown x
offered_in OtherKind = OtherKind

-- two fields of a record
abbrev pub pair_seen : Option (Bor Ident × Bor Ident) → Option (Ident × Ident)
pair_seen o = option_map (λ (p : Bor Ident × Bor Ident). (p.0.now, p.1.now)) o

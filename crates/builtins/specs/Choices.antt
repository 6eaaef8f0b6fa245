-- How many alternatives a `Choose` offers, and the parts of a domain that a distributor offers.
use Rattle.std.specs.Prelude.{ℕ, ℤ, pos, negsuc, nat_le, ◌==◌, ◌&&◌, if◌then◌else◌, Option, Some, None}
use Rattle.std.specs.Option.{option_and_then}
use Rattle.oz_base.specs.declared.names.Ident.{Ident}
use Rattle.oz_semantics.specs.Values.{integer_in}
use Rattle.oz_semantics.specs.Store.{View, value_of}
use Rattle.oz_semantics.specs.Inputs.{Input, Known, Unknown, OtherKind}
use Rattle.oz_semantics.specs.Distributors.{Distribution, Widens, Finished, Splits, distribution}
use Rattle.oz_semantics.specs.Builtins.{choice_limit}
use Rattle.oz_semantics.specs.declared.value.Value.{Value}
use Rattle.oz_semantics.specs.declared.value.Tell.{Tell}

-- of an integer, if any are offered
abbrev pub size_in : ℤ → Option ℕ
size_in (pos n) = if nat_le 1 n && nat_le n choice_limit then Some n else None
size_in (negsuc n) = None

-- of a value
abbrev pub choice_in : Value → Option ℕ
choice_in v = option_and_then size_in (integer_in v)

-- of a variable
abbrev pub choice_of : View → Ident → Option ℕ
choice_of view x = option_and_then choice_in (value_of view x)

-- the part that is told with the i-th alternative, from 1, if there are any
abbrev pub part_in : ℕ → Input Distribution → Option Tell
part_in i (Known (Widens xs)) = None
part_in i (Known Finished) = None
part_in i (Known (Splits one other xs)) = Some (if i == 1 then one else other)
part_in i (Unknown x) = None
part_in i OtherKind = None

-- of a distributor with this rule and this vector
abbrev pub part_of : View → ℕ → Ident → Ident → Option Tell
part_of view i rule v = part_in i (distribution view rule v)

-- Where the new variables of a step are unknown below its space.
use Rattle.std.proofs.Common.{ℕ, [], subst, Contains, map}
use Rattle.std.specs.List.{range_with_len}
use Rattle.oz_semantics.specs.Names.{named}
use Rattle.oz_semantics.specs.Configurations.{layer_of}
use Rattle.oz_laws.proofs.SameLaws.{In-from_contains}
use Rattle.view_laws.proofs.Members.{not_both}
use Rattle.quiet_laws.specs.Unknown.{NoneGiven, NoneBelow}

pub none_given : NoneGiven
none_given statements layers space changes e l x there below given =
    let l = layer_of layers space in
    let none : Contains [] x = subst (λ (n : ℕ). Contains (map (named l.space) (range_with_len l.next.variable n)) x) e given in
    elim (In-from_contains [] x none) [ ]

pub none_below : NoneBelow
none_below statements layers space xs alone l x there below given = absurd (not_both _ below (alone l there))

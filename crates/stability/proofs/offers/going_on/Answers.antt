use Rattle.std.proofs.Common.{ℕ, List, refl, ap, ap₂}
use Rattle.std.proofs.lemmas.Option.{get_or_from_slice_get}
use Rattle.oz_semantics.specs.Names.{named}
use Rattle.oz_semantics.specs.declared.configuration.Thread.{Thread}
use Rattle.stability.proofs.offers.going_on.Goals as goal

pub returns : goal.returns
returns c =
    λ t e. (
      ap₂ (λ (s : List ℕ) (n : ℕ). named s n) c.in_ok-space.ensures (ap (λ (u : Thread). u.number) (get_or_from_slice_get c.args.threads.now c.args.place t c.index-threads-place.result e)),
      refl,
      (c.is_first_numbered.ensures t e).0 c.if-not-is_first_numbered.false,
    )

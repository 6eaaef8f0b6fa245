use Rattle.std.proofs.Common.{◌≡◌, drop}
use Rattle.std.specs.Prelude.{option_map}
use Rattle.std.specs.List.{filter_map}
use Rattle.oz_base.specs.Lists.{first}
use Rattle.oz_semantics.specs.Sights.{count_of, offer_of}
use Rattle.view_laws.specs.Spaceless.{plain_ready}
use Rattle.oz_threads.specs.Sights.{sight_of}
use Rattle.stability.proofs.offers.first_size.Given as goal

-- those passed so far offer nothing
abbrev pub invariant-loop-thread : goal.invariant-loop-thread
invariant-loop-thread l =
    option_map count_of (first (filter_map (λ t. offer_of (plain_ready (sight_of l.statements l.space l.store) t)) (drop l.thread-index l.threads)))
    ≡ option_map count_of (first (filter_map (λ t. offer_of (plain_ready (sight_of l.statements l.space l.store) t)) l.threads))

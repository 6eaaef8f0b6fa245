use Rattle.settle_laws.proofs.SettleLaws.{nothing_fails, quiet_fails, quiet_settles, changes_settle, keeps_own, keeps_view, ends_same, settled_by, tell_settles, top_kept}
use Rattle.settle_laws.proofs.TellLaws.{tell_below}
use Rattle.settle_laws.proofs.settle_law.Goals as goal

pub returns : goal.returns
returns c =
    record { nothing = nothing_fails; fails = quiet_fails; quiet = quiet_settles; changes = changes_settle; own = keeps_own; seen = keeps_view; end = ends_same; settled = settled_by; tell = tell_settles; below = tell_below; top = top_kept }

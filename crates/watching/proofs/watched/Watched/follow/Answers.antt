use Rattle.std.proofs.Common.{subst}
use Rattle.std.proofs.lemmas.Result.{on_ok_weaker}
use Rattle.watching.specs.Watching.{Foresees}
use Rattle.watching.proofs.WatchLaws.{settles_on, adopted, rejoins_all}
use Rattle.watching.proofs.watched.Watched.follow.Goals as goal

pub returns-in-Settled : goal.returns-in-Settled
returns-in-Settled c =
    λ old ps f e h. settles_on old c.args.tells.now c.args.store.now ps c.args.self.now e c.consistent.ensures (subst (Foresees old c.args.tells.now ps c.args.self.now) c.in-Settled.is f)

pub returns-in-Fresh : goal.returns-in-Fresh
returns-in-Fresh c =
    on_ok_weaker c.adopt_all.result
    (λ k old ps f e h. adopted old c.args.tells.now c.args.store.now ps c.args.self.now e c.consistent.ensures (subst (Foresees old c.args.tells.now ps c.args.self.now) c.in-Fresh.is f) c.adopt_all.new.self (k ps))
    c.adopt_all.ensures

pub returns-in-Joins : goal.returns-in-Joins
returns-in-Joins c =
    on_ok_weaker c.rejoin_all.result
    (λ k old ps f e h. rejoins_all old c.args.tells.now c.args.store.now ps c.args.noted.now c.args.self.now c.rejoin_all.new.self e h c.consistent.ensures
    (subst (Foresees old c.args.tells.now ps c.args.self.now) c.in-Joins.is f) (k old ps))
    c.rejoin_all.ensures

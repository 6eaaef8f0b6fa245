use Rattle.std.proofs.Common.{sym}
use Rattle.watching.specs.Changes.{Wakes}
use Rattle.std.proofs.Common.{flat_map}
use Rattle.watching.specs.Watching.{touched_by}
use Rattle.watching.proofs.FreeLaws.{free_joined}
use Rattle.watching.proofs.WatchLaws.{fresh_empty, fresh_told, settled}
use Rattle.watching.proofs.watched.Watched.foresee.Goals as goal

pub returns-then-is_empty : goal.returns-then-is_empty
returns-then-is_empty c = λ ps t. fresh_empty c.args.store.now c.args.tells.now ps c.args.self.now t (c.is_empty.ensures c.if-is_empty.true)

pub returns-then-all_domainless : goal.returns-then-all_domainless
returns-then-all_domainless c = λ ps t. fresh_told c.args.store.now c.args.tells.now ps c.args.self.now t (sym c.if-not-join_nothing.ensures) (sym c.if-all_domainless.ensures)

pub returns : goal.returns
returns c =
    λ ps t. (let w : Wakes c.args.store.now ps (flat_map (touched_by c.args.store.now) c.args.tells.now) c.args.self.now c.attend_all.new.self = c.in_ok-attend_all.ensures ps t in
    settled c.args.store.now c.args.tells.now ps c.attend_all.new.self w.tracks (sym c.if-not-join_nothing.ensures) w.woken)

pub returns-then-joins_free : goal.returns-then-joins_free
returns-then-joins_free c = λ ps t. free_joined c.args.store.now c.args.tells.now ps c.args.self.now (sym c.if-joins_free.ensures) t

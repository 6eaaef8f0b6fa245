use Rattle.std.proofs.Common.{refl, sym}
use Rattle.oz_semantics.specs.Store.{Same, domain_of}
use Rattle.watching.specs.declared.watched.Watched.{Watched}
use Rattle.watching.proofs.KeyLaws.{root_same}
use Rattle.watching.proofs.DueLaws.{on_ok_both, none_left}
use Rattle.watching.proofs.WatchLaws.{rejoined, rejoin_none, rejoin_unwatched}
use Rattle.watching.proofs.watched.Watched.rejoin.Goals as goal

pub returns-then-not-has_domain : goal.returns-then-not-has_domain
returns-then-not-has_domain c =
    λ old ps done rest r. rejoin_none old c.args.store.now ps done rest c.args.variable.now c.args.self.now (none_left (domain_of c.args.store.now c.args.variable.now) (sym c.if-not-has_domain.ensures)) r

pub returns : goal.returns
returns c =
    let s : Same c.args.store.now c.args.variable.now c.root-root.result.now = root_same c.args.store.now c.classes.result.now c.classes.ensures c.args.variable.now c.root-root.result.now c.root-root.ensures.root in
    let middle : Watched = record { keys = c.gather.new.self; due = c.args.self.now.due } in
    on_ok_both _ _ _ c.wake.result
    (λ f g old ps done rest r. rejoined old c.args.store.now ps done rest c.args.variable.now c.root-root.result.now c.args.self.now middle c.wake.new.self s refl
    (λ q. c.in_ok-gather.ensures q.keys.listed) (sym c.if-not-has_domain.ensures) f g r)
    c.wake.ensures.keys c.wake.ensures.due

pub returns-then-not-any_equal : goal.returns-then-not-any_equal
returns-then-not-any_equal c =
    let s : Same c.args.store.now c.args.variable.now c.root-root.result.now =
    root_same c.args.store.now c.classes.result.now c.classes.ensures c.args.variable.now c.root-root.result.now c.root-root.ensures.root in
    λ old ps done rest r. rejoin_unwatched old c.args.store.now ps done rest c.args.variable.now c.args.self.now c.root-root.result.now s (λ q. c.if-not-any_equal.ensures refl q.keys.listed) r

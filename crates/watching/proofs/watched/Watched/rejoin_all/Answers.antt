use Rattle.std.proofs.Common.{◌+◌, [], List, take, drop, subst, sym}
use Rattle.std.proofs.lemmas.List.{take_all, drop_all}
use Rattle.oz_base.specs.declared.names.Ident.{Ident}
use Rattle.watching.specs.Changes.{Rejoins}
use Rattle.watching.proofs.DueLaws.{taken_item, dropped_item}
use Rattle.watching.proofs.watched.Watched.rejoin_all.Goals as goal

pub loop-variable-preserved : goal.loop-variable-preserved
loop-variable-preserved c =
    let i = c.loop-variable.variable-index in
    let xs = c.args.noted.now in
    let x = c.variable-item.result in
    λ old ps r. subst (λ (ys : List Ident). Rejoins old c.args.store.now ps ys (drop (i + 1) xs) c.rejoin.new.self) (sym (taken_item xs i x c.loop-variable-test.true c.variable-item.is))
    (c.in_ok-rejoin.ensures old ps (take i xs) (drop (i + 1) xs)
    (subst (λ (ys : List Ident). Rejoins old c.args.store.now ps (take i xs) ys c.loop-variable.self) (dropped_item xs i x c.loop-variable-test.true c.variable-item.is) (c.loop-variable.invariant old ps r)))

pub returns : goal.returns
returns c =
    let i = c.loop-variable.variable-index in
    let xs = c.args.noted.now in
    λ old ps r. subst (λ (ys : List Ident). Rejoins old c.args.store.now ps ys [] c.loop-variable.self) (take_all i xs c.loop-variable-test.false)
    (subst (λ (ys : List Ident). Rejoins old c.args.store.now ps (take i xs) ys c.loop-variable.self) (drop_all i xs c.loop-variable-test.false) (c.loop-variable.invariant old ps r))

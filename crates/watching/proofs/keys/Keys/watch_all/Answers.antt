use Rattle.std.proofs.Common.{◌∷◌, [], List, take, subst, sym}
use Rattle.std.proofs.lemmas.List.{take_all}
use Rattle.oz_base.specs.declared.names.Ident.{Ident}
use Rattle.watching.specs.Lists.{AreWatched}
use Rattle.watching.proofs.KeyLaws.{watched_more}
use Rattle.watching.proofs.DueLaws.{taken_item}
use Rattle.watching.proofs.keys.Keys.watch_all.Goals as goal

pub loop-variable-preserved : goal.loop-variable-preserved
loop-variable-preserved c =
    λ ps k a. subst (λ (xs : List Ident). AreWatched c.args.store.now ps xs c.args.index c.args.self.now c.watch.new.self)
    (sym (taken_item c.args.variables.now c.loop-variable.variable-index c.variable-item.result c.loop-variable-test.true c.variable-item.is))
    (watched_more c.args.store.now ps (take c.loop-variable.variable-index c.args.variables.now) (c.variable-item.result ∷ []) c.args.index c.args.self.now c.loop-variable.self c.watch.new.self
    (c.loop-variable.invariant ps k a) (c.in_ok-watch.ensures ps))

pub returns : goal.returns
returns c =
    λ ps k a. subst (λ (xs : List Ident). AreWatched c.args.store.now ps xs c.args.index c.args.self.now c.loop-variable.self)
    (take_all c.loop-variable.variable-index c.args.variables.now c.loop-variable-test.false) (c.loop-variable.invariant ps k a)

use Rattle.std.proofs.Common.{◌≡◌, ◌∙◌, ◌+◌, ◌++◌, List, take, flat_map, subst, sym, ap}
use Rattle.std.proofs.lemmas.List.{take_all}
use Rattle.oz_base.specs.declared.names.Ident.{Ident}
use Rattle.oz_semantics.specs.declared.value.Tell.{Tell}
use Rattle.watching.specs.Changes.{Wakes}
use Rattle.watching.specs.Watching.{touched_by}
use Rattle.watching.proofs.DueLaws.{taken_item}
use Rattle.watching.proofs.WatchLaws.{wakes_more, flat_push}
use Rattle.watching.proofs.watched.Watched.attend_all.Goals as goal

pub loop-tell-preserved : goal.loop-tell-preserved
loop-tell-preserved c =
    let i = c.loop-tell.tell-index in
    let e : flat_map (touched_by c.args.store.now) (take (i + 1) c.args.tells.now) ≡ flat_map (touched_by c.args.store.now) (take i c.args.tells.now) ++ touched_by c.args.store.now c.tell-item.result =
    ap (flat_map (touched_by c.args.store.now)) (taken_item c.args.tells.now i c.tell-item.result c.loop-tell-test.true c.tell-item.is)
    ∙ flat_push (touched_by c.args.store.now) (take i c.args.tells.now) c.tell-item.result in
    λ ps t. subst (λ (xs : List Ident). Wakes c.args.store.now ps xs c.args.self.now c.attend_tell.new.self) (sym e)
    (wakes_more c.args.store.now ps (flat_map (touched_by c.args.store.now) (take i c.args.tells.now)) (touched_by c.args.store.now c.tell-item.result) c.args.self.now c.loop-tell.self c.attend_tell.new.self
    (c.loop-tell.invariant ps t) (c.in_ok-attend_tell.ensures ps))

pub returns : goal.returns
returns c =
    λ ps t. subst (λ (ts : List Tell). Wakes c.args.store.now ps (flat_map (touched_by c.args.store.now) ts) c.args.self.now c.loop-tell.self)
    (take_all c.loop-tell.tell-index c.args.tells.now c.loop-tell-test.false) (c.loop-tell.invariant ps t)

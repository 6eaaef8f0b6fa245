use Rattle.std.proofs.Common.{◌∙◌, ◌++◌, inl, inr, if◌then◌else◌, List, [], ◌∷◌, Some, filter, map, ap, ap₂, subst}
use Rattle.oz_base.specs.declared.names.Ident.{Ident}
use Rattle.oz_semantics.specs.Names.{named}
use Rattle.oz_semantics.specs.Settling.{queue_after}
use Rattle.sleep_laws.specs.Woken.{top_able}
use Rattle.sleep_laws.proofs.RequeueLaws.{requeued_told}
use Rattle.oz_sleep.specs.Laid.{RestsOr}
use Rattle.oz_sleep.proofs.LaidLaws.{on_ok, on_err, lays_on, more_then, or_then, rests_then, told_lays}
use Rattle.oz_sleep.proofs.asking.ask_told.Goals as goal

pub returns-clause-ok : goal.returns-clause-ok
returns-clause-ok c =
    let st = c.args.statements.now in
    let levels = c.args.levels.now in
    let mover = c.args.mover.now in
    let names : List Ident = map (named mover.space) c.args.woken.now in
    let able = c.in_ok-add_able.ensures.able ∙ ap₂ (λ (xs : List Ident) (id : Ident). xs ++ (if top_able st levels id then id ∷ [] else [])) c.in_ok-able.ensures.able c.in_ok-copied.ensures in
    let all = c.deref.ensures.value ∙ c.in_ok-add_woken.ensures.able ∙ ap (λ (xs : List Ident). xs ++ filter (top_able st levels) names) able in
    on_ok c.requeue.result (λ e. e ∙ ap (λ (ids : List Ident). queue_after ids (Some mover) c.args.queue.now) all ∙ requeued_told st levels mover c.args.woken.now c.args.queue.now) c.requeue.ensures.ok

pub returns-clause-laid : goal.returns-clause-laid
returns-clause-laid c =
    let st = c.args.statements.now in
    let levels = c.args.levels.now in
    let mover = c.args.mover.now in
    let old = c.args.sleeping.now in
    let one = c.staying.new.sleeping in
    let two = c.add_able.new.sleeping in
    let new = c.add_woken.new.sleeping in
    let names : List Ident = map (named mover.space) c.args.woken.now in
    let able = c.in_ok-add_able.ensures.able ∙ ap₂ (λ (xs : List Ident) (id : Ident). xs ++ (if top_able st levels id then id ∷ [] else [])) c.in_ok-able.ensures.able c.in_ok-copied.ensures in
    let all = c.deref.ensures.value ∙ c.in_ok-add_woken.ensures.able ∙ ap (λ (xs : List Ident). xs ++ filter (top_able st levels) names) able in
    let later = more_then levels one two new c.add_able.ensures.more c.add_woken.ensures.more in
    on_ok c.requeue.result (λ e.
    told_lays st levels old new mover c.args.woken.now c.args.queue.now c.requeue.new.self
    (λ o h. elim (c.in_ok-able.ensures.rests o h) [ inl k ↦ inl k | inr r ↦ inr (rests_then st levels one new o later r) ])
    (or_then st levels two new mover c.add_woken.ensures.more (subst (RestsOr st levels two) c.in_ok-copied.ensures c.in_ok-add_able.ensures.rests))
    c.in_ok-add_woken.ensures.rests (e ∙ ap (λ (ids : List Ident). queue_after ids (Some mover) c.args.queue.now) all)
    (more_then levels old one new c.staying.ensures.more later) c.requires) c.requeue.ensures.ok

pub returns-clause-left : goal.returns-clause-left
returns-clause-left c =
    let levels = c.args.levels.now in
    let mover = c.args.mover.now in
    let later = more_then levels c.staying.new.sleeping c.add_able.new.sleeping c.add_woken.new.sleeping c.add_able.ensures.more c.add_woken.ensures.more in
    on_err c.requeue.result (lays_on c.args.statements.now levels c.args.sleeping.now c.add_woken.new.sleeping (c.args.queue.now ++ mover ∷ map (named mover.space) c.args.woken.now)
    (more_then levels c.args.sleeping.now c.staying.new.sleeping c.add_woken.new.sleeping c.staying.ensures.more later) c.requires)

pub returns-in_err-able-clause-left : goal.returns-in_err-able-clause-left
returns-in_err-able-clause-left c =
    let mover = c.args.mover.now in
    on_err c.from_residual.result (lays_on c.args.statements.now c.args.levels.now c.args.sleeping.now c.staying.new.sleeping (c.args.queue.now ++ mover ∷ map (named mover.space) c.args.woken.now) c.staying.ensures.more c.requires)

pub returns-in_err-copied-clause-left : goal.returns-in_err-copied-clause-left
returns-in_err-copied-clause-left c =
    let mover = c.args.mover.now in
    on_err c.from_residual-in_err-copied.result
    (lays_on c.args.statements.now c.args.levels.now c.args.sleeping.now c.staying.new.sleeping (c.args.queue.now ++ mover ∷ map (named mover.space) c.args.woken.now) c.staying.ensures.more c.requires)

pub returns-in_err-add_able-clause-left : goal.returns-in_err-add_able-clause-left
returns-in_err-add_able-clause-left c =
    let levels = c.args.levels.now in
    let mover = c.args.mover.now in
    on_err c.from_residual-in_err-add_able.result
    (lays_on c.args.statements.now levels c.args.sleeping.now c.add_able.new.sleeping (c.args.queue.now ++ mover ∷ map (named mover.space) c.args.woken.now)
    (more_then levels c.args.sleeping.now c.staying.new.sleeping c.add_able.new.sleeping c.staying.ensures.more c.add_able.ensures.more) c.requires)

pub returns-in_err-add_woken-clause-left : goal.returns-in_err-add_woken-clause-left
returns-in_err-add_woken-clause-left c =
    let levels = c.args.levels.now in
    let mover = c.args.mover.now in
    let later = more_then levels c.staying.new.sleeping c.add_able.new.sleeping c.add_woken.new.sleeping c.add_able.ensures.more c.add_woken.ensures.more in
    on_err c.from_residual-in_err-add_woken.result
    (lays_on c.args.statements.now levels c.args.sleeping.now c.add_woken.new.sleeping (c.args.queue.now ++ mover ∷ map (named mover.space) c.args.woken.now)
    (more_then levels c.args.sleeping.now c.staying.new.sleeping c.add_woken.new.sleeping c.staying.ensures.more later) c.requires)

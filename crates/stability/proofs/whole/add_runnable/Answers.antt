use Rattle.std.proofs.Common.{sym, ap, ◌∙◌, ◌++◌, ◌≡◌, List, map, filter, subst, OnOk}
use Rattle.oz_base.specs.declared.names.Ident.{Ident}
use Rattle.oz_semantics.specs.Names.{named}
use Rattle.oz_semantics.specs.Spaces.{states_of}
use Rattle.oz_semantics.specs.declared.configuration.Thread.{Thread}
use Rattle.stability.specs.Known.{known}
use Rattle.stability.proofs.ReadyLaws.{thread_steps}
use Rattle.stability.proofs.AlikeLaws.{able_alike}
use Rattle.stability.proofs.whole.add_runnable.Goals as goal

pub returns-in-Open : goal.returns-in-Open
returns-in-Open c =
    λ serves l e.
    let statements = c.args.statements.now in
    let layers = c.args.levels.now in
    let states = known layers c.args.states.now in
    subst (λ (xs : List Ident). OnOk c.add_able.result (c.add_able.new.ids.items ≡ c.args.ids.now.items ++ xs))
    (ap (λ (ts : List Thread). map (λ (t : Thread). named l.space t.number) (filter (thread_steps statements layers states l) ts)) (c.threads_at.ensures l e)
    ∙ able_alike statements layers states (states_of statements layers) serves l (sym (c.status_at.ensures l e) ∙ c.in-Open.is))
    (c.add_able.ensures l e)

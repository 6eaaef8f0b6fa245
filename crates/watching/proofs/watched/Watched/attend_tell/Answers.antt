use Rattle.std.proofs.Common.{true, false, List, subst, sym}
use Rattle.std.proofs.lemmas.Result.{on_ok_weaker}
use Rattle.oz_base.specs.declared.names.Ident.{Ident}
use Rattle.watching.specs.Changes.{Wakes}
use Rattle.watching.proofs.WatchLaws.{wakes_none, touched_value, touched_domain}
use Rattle.watching.proofs.watched.Watched.attend_tell.Goals as goal

pub returns-then-has_value : goal.returns-then-has_value
returns-then-has_value c =
    let e = touched_value c.args.store.now c.args.tell.now c.in-Is.variable c.in-Is.value c.in-Is.is true c.if-has_value.ensures in
    λ ps t. subst (λ (xs : List Ident). Wakes c.args.store.now ps xs c.args.self.now c.args.self.now) (sym e) (wakes_none c.args.store.now ps c.args.self.now t)

pub returns-else-has_value : goal.returns-else-has_value
returns-else-has_value c =
    let e = touched_value c.args.store.now c.args.tell.now c.in-Is.variable c.in-Is.value c.in-Is.is false c.if-has_value.ensures in
    on_ok_weaker c.attend.result (λ f ps t. subst (λ (xs : List Ident). Wakes c.args.store.now ps xs c.args.self.now c.attend.new.self) (sym e) (f ps t)) c.attend.ensures

pub returns-else-not-is_news : goal.returns-else-not-is_news
returns-else-not-is_news c =
    let e = touched_domain c.args.store.now c.args.tell.now c.in-Within.variable c.in-Within.intervals c.in-Within.is true c.if-not-is_news.ensures in
    on_ok_weaker c.attend-in-Within.result (λ f ps t. subst (λ (xs : List Ident). Wakes c.args.store.now ps xs c.args.self.now c.attend-in-Within.new.self) (sym e) (f ps t)) c.attend-in-Within.ensures

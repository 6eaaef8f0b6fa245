use Rattle.std.proofs.Common.{◌≡◌, sym, ap, ◌∙◌}
use Rattle.std.specs.FinMap as maps
use Rattle.std.specs.Arc.{arc_value}
use Rattle.environments.specs.Environments.{renamed}
use Rattle.environments.specs.Recents.{meant}
use Rattle.renamings.specs.Renames.{ident_by}
use Rattle.renamings.specs.declared.given.Kind.TheVariants.{Variable}
use Rattle.environments.proofs.RecentLaws.{renamed_insert}
use Rattle.environments.proofs.recent.Recent.+renamed.Goals as goal

pub returns-in_ok-push-in-Newest-clause-meant : goal.returns-in_ok-push-in-Newest-clause-meant
returns-in_ok-push-in-Newest-clause-meant t c =
    let b = arc_value c.in-Newest.binding in
    let f = ident_by Variable c.args.by.now in
    let older : meant c.in_ok-after-in-Newest.after ≡ renamed f (meant b.older) = c.in_ok-after-in-Newest.ensures.meant ∙ ap (λ d. renamed f (meant d.older)) c.deref.ensures in
    let name : c.in_ok-variable-in-Newest.variable ≡ f b.variable = c.in_ok-variable-in-Newest.ensures ∙ ap (λ d. f d.variable) c.deref-in-Newest.ensures in
    c.in_ok-push-in-Newest.ensures.ok
    ∙ ap (λ m. maps.insert m c.deref-in-Newest-2.result.now.code c.in_ok-variable-in-Newest.variable) older
    ∙ ap (λ d. maps.insert (renamed f (meant b.older)) d.code c.in_ok-variable-in-Newest.variable) c.deref-in-Newest-2.ensures
    ∙ ap (maps.insert (renamed f (meant b.older)) b.code) name
    ∙ renamed_insert f (meant b.older) b.code b.variable
    ∙ sym (ap (λ r. renamed f (meant r)) c.in-Newest.is)

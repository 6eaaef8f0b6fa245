use Rattle.std.proofs.Common.{◌∙◌, Bool, true, if◌then◌else◌, sym, ap}
use Rattle.watching.specs.Watching.{equates_free, is_free}
use Rattle.watching.proofs.tells.equates_free.Goals as goal

pub returns-else-is_free : goal.returns-else-is_free
returns-else-is_free c =
    c.is_free-else-is_free.ensures
    ∙ ap (λ (b : Bool). if b then true else is_free c.args.store.now c.in-Equal.right) c.if-is_free.ensures
    ∙ ap (equates_free c.args.store.now) (sym c.in-Equal.is)

use Rattle.std.proofs.Common.{◌++◌, List, drop, sym, ap, ap₂, subst, ◌∙◌}
use Rattle.oz_semantics.specs.Store.{is_consistent}
use Rattle.oz_semantics.specs.declared.value.Tell.{Tell}
use Rattle.term_store.specs.Telling.{IsTold}
use Rattle.space_core.proofs.fates.seen_under.Goals as goal

pub returns-then-not-branch : goal.returns-then-not-branch
returns-then-not-branch c =
    ap₂ (λ (us ts : List Tell). is_consistent (us ++ ts)) (sym c.in_ok-store.ensures) (sym (c.as_slice.ensures.value ∙ c.in_ok-tells.ensures ∙ ap (λ (us : List Tell). drop c.args.level.now.told_from us) c.store.ensures))
    ∙ (subst (IsTold c.in_ok-store.store c.as_slice.result.now c.tell.new.self c.new-touched.result.items c.tell.new.touched.items) c.if-not-branch.true c.in_ok-tell.ensures.told).1

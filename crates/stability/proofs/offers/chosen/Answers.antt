use Rattle.std.proofs.Common.{Result, Ok, Err, sym, ap, ◌∙◌, List}
use Rattle.std.specs.Prelude.{IfOk, OnErr}
use Rattle.oz_base.specs.Lists.{is_empty}
use Rattle.oz_semantics.specs.declared.configuration.Thread.{Thread}
use Rattle.stability.proofs.OfferLaws.{commits_space, commits_nothing}
use Rattle.stability.proofs.offers.chosen.Goals as goal

mapped_ok : {A E : Type 0} (r : Result A E) {P Q : A → Type 0} → ((x : A) → P x → Q x) → IfOk r P → IfOk r Q
mapped_ok (Ok x) f h = f x h
mapped_ok (Err e) f h = h

mapped_err : {A E : Type 0} (r : Result A E) {P Q : Type 0} → (P → Q) → OnErr r P → OnErr r Q
mapped_err (Ok x) f h = h
mapped_err (Err e) f h = f h

pub returns-in_default-clause-commits : goal.returns-in_default-clause-commits
returns-in_default-clause-commits c = commits_nothing c.args.statements.now c.args.levels.now c.args.space.now c.args.index c.in_default.ensures.none

pub returns-clause-commits : goal.returns-clause-commits
returns-clause-commits c =
    let l = c.in-Some.ensures.0 in
    let h = c.in-Some.ensures.1 in
    mapped_ok c.choice_where.result (λ found choice. commits_space c.args.statements.now c.args.levels.now c.args.space.now c.args.index _ l h found choice)
    (rw (c.space_at-space.ensures l h.item, c.store_at-store.ensures l h.item, c.threads_at-threads.ensures l h.item) at c.choice_where.ensures.choice)

pub returns-clause-err : goal.returns-clause-err
returns-clause-err c =
    let l = c.in-Some.ensures.0 in
    let h = c.in-Some.ensures.1 in
    mapped_err c.choice_where.result
    (λ some. record { layer = l; there = h.found; some = ap (λ (ts : List Thread). is_empty ts) (sym (c.threads_at-threads.ensures l h.item)) ∙ some })
    c.choice_where.ensures.err

use Rattle.std.proofs.Common.{◌≡◌, ◌∙◌, ◌+◌, inl, inr, List, ℕ, [], Contains, take, length, ◌≤◌, refl, sym, subst}
use Rattle.oz_semantics.specs.Names.{named}
use Rattle.oz_semantics.specs.declared.configuration.Thread.{Thread}
use Rattle.oz_laws.proofs.SameLaws.{In-from_contains}
use Rattle.suspension.proofs.KeyLaws.{taken_item}
use Rattle.oz_sleep.specs.Laid.{RestsOr}
use Rattle.oz_sleep.proofs.LaidLaws.{more_itself, more_then, or_then, or_from, taken_more, taken_all}
use Rattle.oz_sleep.proofs.sleeping.Sleeping.lay_all.Goals as goal

pub loop-thread-init : goal.loop-thread-init
loop-thread-init c = record {
  space = refl;
  more = more_itself c.args.levels.now c.args.self.now;
  rests = λ l at t h. elim (In-from_contains [] t h) [ ];
}

pub loop-thread-preserved : goal.loop-thread-preserved
loop-thread-preserved c =
    let statements = c.args.statements.now in
    let levels = c.args.levels.now in
    let first = c.args.self.now in
    let old = c.loop-thread.self in
    let new = c.lay_down.new.self in
    let item = c.thread-item.result in
    let items = c.threads_at-thread-items.result.now in
    let i = c.loop-thread.thread-index in
    let step = c.lay_down.ensures.more in
    let place : c.in_ok-copied.field-0 ≡ first.space = c.in_ok-copied.ensures ∙ c.loop-thread.invariant.space in
    record {
      space = (step c.if-not-self.false).space ∙ c.loop-thread.invariant.space;
      more = more_then levels first old new c.loop-thread.invariant.more step;
      rests = λ l at t h.
          let are : items ≡ l.threads = c.threads_at-thread-items.ensures l at in
          elim (taken_more items i item t (taken_item items i item c.loop-thread-test.true c.thread-item.is) (subst (λ (zs : List Thread). Contains (take (i + 1) zs) t) (sym are) h)) [
            | inl k ↦ or_then statements levels old new (named first.space t.number) step (c.loop-thread.invariant.rests l at t (subst (λ (zs : List Thread). Contains (take i zs) t) are k))
            | inr q ↦ subst (λ (u : Thread). RestsOr statements levels new (named first.space u.number)) (sym q)
                (subst (λ (s : List ℕ). RestsOr statements levels new (named s item.number)) place (or_from statements levels new (named c.in_ok-copied.field-0 item.number) c.lay_down.ensures.rests))
          ];
    }

pub returns-clause-rests : goal.returns-clause-rests
returns-clause-rests c = λ l at t h.
    let items = c.threads_at-thread-items.result.now in
    let are : items ≡ l.threads = c.threads_at-thread-items.ensures l at in
    c.loop-thread.invariant.rests l at t (taken_all l.threads c.loop-thread.thread-index t (subst (λ (zs : List Thread). length zs ≤ c.loop-thread.thread-index) are c.loop-thread-test.false) h)

use Rattle.std.proofs.Common.{◌≡◌, ◌∙◌, ◌++◌, inl, inr, true, List, [], Contains, filter, sym, ap, subst}
use Rattle.std.proofs.lemmas.List.{append-nil}
use Rattle.oz_base.specs.declared.names.Ident.{Ident}
use Rattle.oz_laws.proofs.SameLaws.{In-from_contains}
use Rattle.sleep_laws.specs.Woken.{is_asked_still}
use Rattle.oz_sleep.proofs.LaidLaws.{more_itself, more_then, filter_stays, filter_leaves, asked_then}
use Rattle.oz_sleep.proofs.asking.staying.Goals as goal

pub queued-init : goal.queued-init
queued-init c =
    let still = is_asked_still c.args.statements.now c.args.levels.now c.args.space.now in
    record {
      able = ap (filter still) (sym c.in_ok-rest.ensures) ∙ ap (λ (xs : List Ident). xs ++ filter still c.in_ok-rest.rest) (sym c.new-able.ensures.items);
      more = more_itself c.args.levels.now c.args.sleeping.now;
      rests = λ id h. inl (subst (λ (os : List Ident). Contains os id) (sym c.in_ok-rest.ensures) h);
    }

pub queued-preserved : goal.queued-preserved
queued-preserved c =
    let statements = c.args.statements.now in
    let levels = c.args.levels.now in
    let still = is_asked_still statements levels c.args.space.now in
    let asked = c.in_ok-stays.ensures in
    record {
      able = filter_leaves still (filter still c.args.queue.now) c.queued.able.items c.queued.rest c.next.new.self c.in-Some.id c.in-Some.ensures (sym c.if-branch.false ∙ asked.able) c.queued.invariant.able;
      more = more_then levels c.args.sleeping.now c.queued.sleeping c.stays.new.sleeping c.queued.invariant.more c.stays.ensures.more;
      rests = λ o h. asked_then statements levels c.queued.sleeping c.stays.new.sleeping still c.queued.rest c.next.new.self c.in-Some.id o c.stays.ensures.more c.in-Some.ensures
          (inr (asked.rests c.if-branch.false)) (c.queued.invariant.rests o h);
    }

pub queued-preserved-else-branch : goal.queued-preserved-else-branch
queued-preserved-else-branch c =
    let statements = c.args.statements.now in
    let levels = c.args.levels.now in
    let still = is_asked_still statements levels c.args.space.now in
    let asked = c.in_ok-stays.ensures in
    record {
      able = filter_leaves still (filter still c.args.queue.now) c.queued.able.items c.queued.rest c.next.new.self c.in-Some.id c.in-Some.ensures (sym c.if-branch.false ∙ asked.able) c.queued.invariant.able;
      more = more_then levels c.args.sleeping.now c.queued.sleeping c.stays.new.sleeping c.queued.invariant.more c.stays.ensures.more;
      rests = λ o h. asked_then statements levels c.queued.sleeping c.stays.new.sleeping still c.queued.rest c.next.new.self c.in-Some.id o c.stays.ensures.more c.in-Some.ensures
          (inr (asked.rests c.if-branch.false)) (c.queued.invariant.rests o h);
    }

pub queued-preserved-in-Continue-branch-3 : goal.queued-preserved-in-Continue-branch-3
queued-preserved-in-Continue-branch-3 c =
    let statements = c.args.statements.now in
    let levels = c.args.levels.now in
    let still = is_asked_still statements levels c.args.space.now in
    let asked = c.in_ok-stays.ensures in
    let stays : true ≡ still c.in-Some.id = sym c.if-branch.true ∙ asked.able in
    record {
      able = filter_stays still (filter still c.args.queue.now) c.queued.able.items c.queued.rest c.next.new.self c.in-Some.id c.in-Some.ensures stays c.queued.invariant.able
          ∙ ap (λ (xs : List Ident). xs ++ filter still c.next.new.self) (sym c.in_ok-push.ensures.items);
      more = more_then levels c.args.sleeping.now c.queued.sleeping c.stays.new.sleeping c.queued.invariant.more c.stays.ensures.more;
      rests = λ o h. asked_then statements levels c.queued.sleeping c.stays.new.sleeping still c.queued.rest c.next.new.self c.in-Some.id o c.stays.ensures.more c.in-Some.ensures (inl (sym stays)) (c.queued.invariant.rests o h);
    }

pub returns-clause-able : goal.returns-clause-able
returns-clause-able c =
    let still = is_asked_still c.args.statements.now c.args.levels.now c.args.space.now in
    sym (c.queued.invariant.able ∙ ap (λ (os : List Ident). c.queued.able.items ++ filter still os) c.in_default.ensures.0 ∙ append-nil c.queued.able.items)

pub returns-clause-more : goal.returns-clause-more
returns-clause-more c = c.queued.invariant.more

pub returns-clause-rests : goal.returns-clause-rests
returns-clause-rests c = λ id h. elim (c.queued.invariant.rests id h) [
  | inl k ↦ elim (In-from_contains [] id (subst (λ (os : List Ident). Contains os id) c.in_default.ensures.0 k)) [ ]
  | inr k ↦ k
]

pub returns-in_err-stays-clause-more : goal.returns-in_err-stays-clause-more
returns-in_err-stays-clause-more c = more_then c.args.levels.now c.args.sleeping.now c.queued.sleeping c.stays.new.sleeping c.queued.invariant.more c.stays.ensures.more

pub returns-in_err-push-clause-more : goal.returns-in_err-push-clause-more
returns-in_err-push-clause-more c = more_then c.args.levels.now c.args.sleeping.now c.queued.sleeping c.stays.new.sleeping c.queued.invariant.more c.stays.ensures.more

pub returns-in_err-rest-clause-more : goal.returns-in_err-rest-clause-more
returns-in_err-rest-clause-more c = more_itself c.args.levels.now c.args.sleeping.now

use Rattle.std.proofs.Common.{◌≡◌, ◌∙◌, ◌+◌, ◌++◌, inl, inr, if◌then◌else◌, List, ℕ, [], ◌∷◌, take, get_or, map, filter, sym, ap, subst}
use Rattle.std.proofs.lemmas.List.{append-nil, take_all, take_more}
use Rattle.oz_semantics.specs.Names.{named}
use Rattle.oz_laws.proofs.SameLaws.{In-from_contains}
use Rattle.sleep_laws.specs.Woken.{top_able}
use Rattle.oz_sleep.specs.Laid.{RestsOr}
use Rattle.oz_sleep.proofs.LaidLaws.{more_itself, more_then, or_then, taken_more, taken_all, filter_more}
use Rattle.oz_sleep.proofs.asking.add_woken.Goals as goal

pub loop-number-init : goal.loop-number-init
loop-number-init c = record {
  able = sym (append-nil c.args.able.now.items);
  more = more_itself c.args.levels.now c.args.sleeping.now;
  rests = λ n h. elim (In-from_contains [] n h) [ ];
}

pub loop-number-preserved : goal.loop-number-preserved
loop-number-preserved c =
    let statements = c.args.statements.now in
    let levels = c.args.levels.now in
    let space = c.args.space.now in
    let woken = c.args.woken.now in
    let i = c.loop-number.number-index in
    let n : ℕ = get_or woken i 0 in
    let own : c.in_ok-copied.field-0 ≡ space = c.in_ok-copied.ensures in
    let more : take (i + 1) woken ≡ take i woken ++ n ∷ [] = take_more woken i 0 c.loop-number-test.true in
    let step = c.in_ok-add_able.ensures in
    record {
      able =
          step.able
          ∙ ap (λ (s : List ℕ). c.loop-number.able.items ++ (if top_able statements levels (named s n) then named s n ∷ [] else [])) own
          ∙ filter_more (top_able statements levels) space woken i n c.args.able.now.items c.loop-number.able.items more c.loop-number.invariant.able;
      more = more_then levels c.args.sleeping.now c.loop-number.sleeping c.add_able.new.sleeping c.loop-number.invariant.more c.add_able.ensures.more;
      rests = λ m h. elim (taken_more woken i n m more h) [
        | inl k ↦ or_then statements levels c.loop-number.sleeping c.add_able.new.sleeping (named space m) c.add_able.ensures.more (c.loop-number.invariant.rests m k)
        | inr q ↦ subst (λ (k : ℕ). RestsOr statements levels c.add_able.new.sleeping (named space k)) (sym q)
            (subst (λ (s : List ℕ). RestsOr statements levels c.add_able.new.sleeping (named s n)) own step.rests)
      ];
    }

pub returns-clause-able : goal.returns-clause-able
returns-clause-able c =
    let woken = c.args.woken.now in
    c.loop-number.invariant.able
    ∙ ap (λ (ns : List ℕ). c.args.able.now.items ++ filter (top_able c.args.statements.now c.args.levels.now) (map (named c.args.space.now) ns)) (take_all c.loop-number.number-index woken c.loop-number-test.false)

pub returns-clause-more : goal.returns-clause-more
returns-clause-more c = c.loop-number.invariant.more

pub returns-clause-rests : goal.returns-clause-rests
returns-clause-rests c = λ n h. c.loop-number.invariant.rests n (taken_all c.args.woken.now c.loop-number.number-index n c.loop-number-test.false h)

pub returns-in_err-copied-clause-more : goal.returns-in_err-copied-clause-more
returns-in_err-copied-clause-more c = c.loop-number.invariant.more

pub returns-in_err-add_able-clause-more : goal.returns-in_err-add_able-clause-more
returns-in_err-add_able-clause-more c =
    more_then c.args.levels.now c.args.sleeping.now c.loop-number.sleeping c.add_able.new.sleeping c.loop-number.invariant.more c.add_able.ensures.more

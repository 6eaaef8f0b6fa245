use Rattle.std.proofs.Common.{rules, Some}
use Rattle.std.proofs.lemmas.List.Sorted.{answers_always}
use Rattle.oz_semantics.specs.Configurations.{is_numbered}
use Rattle.oz_semantics.specs.declared.configuration.Thread.{Thread}
use Rattle.space_core.proofs.Firsts.{found_at}
use Rattle.space_core.proofs.ThreadLaws.{found_in_kept, guessed_in_kept}
use Rattle.space_core.proofs.threads.Threads.later_place.Goals as goal

pub returns-then-is_at : goal.returns-then-is_at
returns-then-is_at c =
    let h = c.is_at.ensures c.if-is_at.true in
    found_at (is_numbered c.args.number) c.args.self.now.list (Some c.from_first-guess.result)
    (guessed_in_kept c.self.inside.threads c.as_slice-threads.result.now c.self.inside.next c.self.inside.ended c.args.self.now c.as_slice-threads.ensures c.self.view_is c.self.invariant c.args.number c.from_first-guess.result h.0 h.1)

pub returns-then-is_at-2 : goal.returns-then-is_at-2
returns-then-is_at-2 c =
    let h = c.is_at-2.ensures c.if-is_at-2.true in
    found_at (is_numbered c.args.number) c.args.self.now.list (Some c.from_last-guess.result)
    (guessed_in_kept c.self.inside.threads c.as_slice-threads.result.now c.self.inside.next c.self.inside.ended c.args.self.now c.as_slice-threads.ensures c.self.view_is c.self.invariant c.args.number c.from_last-guess.result h.0 h.1)

-- the closure gives a thread's number
pub returns : goal.returns
returns c =
    found_at (is_numbered c.args.number) c.args.self.now.list c.ok.result
    (found_in_kept c.self.inside.threads c.as_slice-threads.result.now c.self.inside.next c.self.inside.ended c.args.self.now c.as_slice-threads.ensures c.self.view_is c.self.invariant c.args.number c.binary_search_by_key.result c.binary_search_by_key.ensures.bound
    (c.binary_search_by_key.ensures.position (λ (t : Thread). t.number) (answers_always _ _ _ (λ f a r g called. search rules))) c.ok.result c.ok.ensures.value)

use Rattle.std.proofs.Common.{ℕ, ◌+◌, ◌++◌, List, map, sym, subst, ap, ap₂, ◌∙◌}
use Rattle.oz_semantics.specs.Renamings.{renamed_thread}
use Rattle.oz_semantics.specs.declared.configuration.Thread.{Thread}
use Rattle.renamed_terms.specs.Meanings.{renaming_of}
use Rattle.space_core.specs.Merging.{raised_by}
use Rattle.space_core.specs.Threads.{Running, IsKept}
use Rattle.space_core.proofs.MergeLists.{kept_by, kept_none}
use Rattle.space_core.proofs.threads.Threads.join.Goals as goal

pub invariant_of-self : goal.invariant_of-self
invariant_of-self c =
    subst (λ (ts : List Thread). IsKept ts c.self.inside.next c.self.inside.ended) (sym (c.replace-threads.ensures.after ∙ c.new.ensures))
    (kept_none c.self.inside.threads c.self.inside.next c.self.inside.ended c.self.invariant)

pub invariant_of-self-2 : goal.invariant_of-self-2
invariant_of-self-2 c =
    kept_by (renaming_of c.args.by.now) c.self.inside.threads c.other.inside.threads c.self.inside.next c.other.inside.next c.self.inside.ended c.other.inside.ended c.self.invariant c.other.invariant
    c.append.new.self
    (c.in_ok-append.ensures
    ∙ ap₂ (λ (ts us : List Thread). ts ++ us) c.replace-threads.ensures.value
    (c.in_ok-more.ensures
    ∙ ap₂ (λ (k : ℕ) (us : List Thread). map (raised_by k) (map (renamed_thread (renaming_of c.args.by.now)) us)) c.in_ok-raise.ensures
    (c.as_slice.ensures ∙ sym (ap (λ (r : Running). r.list) c.other.view_is))))
    c.in_ok-next.next (c.in_ok-next.ensures ∙ ap (λ (k : ℕ). c.self.inside.next + k) c.in_ok-one_before.ensures)
    c.with_other-self-inside.result c.with_other-self-inside.ensures

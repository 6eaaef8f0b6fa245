use Rattle.std.proofs.Common.{◌≡◌, ◌∙◌, ap, sym, length, take, drop, ◌++◌, List, ℕ}
use Rattle.std.proofs.Math.Seq.{take-append_seam}
use Rattle.oz_semantics.specs.Propagation.{narrowed}
use Rattle.propagation.proofs.RunLaws.{are_long, run_fails, run_rests, run_narrows}
use Rattle.propagation.proofs.runs.run_of.Goals as goal

pub returns-in-Fail : goal.returns-in-Fail
returns-in-Fail c =
    run_fails c.args.store.now c.args.propagator.now c.as_slice-variables.result.now c.in_ok-domains.domains.items c.as_mut_slice.result.now c.narrow.new.domains c.in_ok-narrow.field-0
    c.as_slice-variables.ensures c.in_ok-domains.ensures c.as_mut_slice.ensures.value c.in_ok-narrow.ensures.pass c.in-Fail.is

pub returns-in-Same : goal.returns-in-Same
returns-in-Same c =
    run_rests c.args.store.now c.args.propagator.now c.as_slice-variables.result.now c.in_ok-domains.domains.items c.as_mut_slice.result.now c.narrow.new.domains c.in_ok-narrow.field-0 c.new.result.items
    c.as_slice-variables.ensures c.in_ok-domains.ensures c.as_mut_slice.ensures.value c.in_ok-narrow.ensures.pass c.in-Same.is c.consistent.ensures c.new.ensures.items

-- what is written through a slice of a vector stands in it
written : {A : Type 0} (n : ℕ) (new old xs : List A) → xs ≡ take n (new ++ drop (length new) old) → length new ≡ n → xs ≡ new
written n new old xs e long = e ∙ ap (λ k. take k (new ++ drop (length new) old)) (sym long) ∙ take-append_seam new (drop (length new) old)

pub confinements-requires : goal.confinements-requires
confinements-requires c =
    ap length (written c.in_ok-domains.domains.len c.narrow.new.domains c.in_ok-domains.domains.items c.as_slice.result.now c.as_slice.ensures.value (c.narrow.ensures.shrunk.long ∙ c.as_mut_slice.ensures.len))
    ∙ c.narrow.ensures.shrunk.long ∙ ap length c.as_mut_slice.ensures.value
    ∙ are_long c.args.store.now c.as_slice-variables.result.now c.in_ok-domains.domains.items c.in_ok-domains.ensures

pub returns : goal.returns
returns c =
    rw (run_narrows c.args.store.now c.args.propagator.now c.as_slice-variables.result.now c.in_ok-domains.domains.items c.as_mut_slice.result.now c.narrow.new.domains c.in_ok-narrow.field-0 c.as_slice-in-Changed.result.now
    c.as_slice-variables.ensures c.in_ok-domains.ensures c.as_mut_slice.ensures.value c.in_ok-narrow.ensures.pass c.in-Changed.is
    (c.as_slice-in-Changed.ensures.value ∙ c.in_ok-tells-in-Changed.ensures ∙ ap (narrowed c.as_slice-variables.result.now)
    (written c.in_ok-domains.domains.len c.narrow.new.domains c.in_ok-domains.domains.items c.as_slice.result.now c.as_slice.ensures.value (c.narrow.ensures.shrunk.long ∙ c.as_mut_slice.ensures.len))))
    c.news_of.ensures

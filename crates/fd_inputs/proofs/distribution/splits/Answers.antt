use Rattle.std.proofs.Common.{◌∙◌, ◌<◌, map, length, get_or, ap, subst, sym}
use Rattle.oz_domains.specs.Splits.{split_of, AreHalves}
use Rattle.oz_semantics.specs.Propagation.{domain_in}
use Rattle.fd_inputs.proofs.PlaceLaws.{all_in_domain, none_split}
use Rattle.fd_inputs.proofs.SplitLaws.{taken_inside, domain_read, told_parts}
use Rattle.fd_inputs.proofs.distribution.splits.Goals as goal

pub returns-in_default : goal.returns-in_default
returns-in_default c =
    sym (none_split c.args.store.now c.args.rule c.args.xs.now c.in_ok-waits.waits.items c.in_ok-domains.domains.items
    (all_in_domain c.args.store.now c.args.xs.now c.requires.integers c.requires.domains) c.in_ok-waits.ensures
    (c.in_ok-domains.ensures ∙ ap (map (domain_in c.args.store.now)) c.as_slice.ensures.value) (c.in_default.ensures.split ∙ ap (split_of c.args.rule) c.as_slice-2.ensures.value))

pub first_part-requires : goal.first_part-requires
first_part-requires c =
    subst (AreHalves c.in-Some.split.test)
    (sym (domain_read c.as_slice-2.result.now c.in-Some.split.var c.index-domain.result.now (taken_inside c.args.rule c.as_slice-2.result.now c.in-Some.split.var c.in-Some.ensures.taken)
    (c.index-domain.ensures ∙ ap (λ l. get_or l c.in-Some.split.var c.index-domain.result.now) (sym c.as_slice-2.ensures.value))))
    c.in-Some.ensures.halves

pub second_part-requires : goal.second_part-requires
second_part-requires c =
    subst (AreHalves c.in-Some.split.test)
    (sym (domain_read c.as_slice-2.result.now c.in-Some.split.var c.index-domain.result.now (taken_inside c.args.rule c.as_slice-2.result.now c.in-Some.split.var c.in-Some.ensures.taken)
    (c.index-domain.ensures ∙ ap (λ l. get_or l c.in-Some.split.var c.index-domain.result.now) (sym c.as_slice-2.ensures.value))))
    c.in-Some.ensures.halves

pub returns : goal.returns
returns c =
    told_parts c.args.store.now c.args.rule c.args.xs.now c.in_ok-waits.waits.items c.in_ok-domains.domains.items c.in-Some.split c.index-x.result.now c.index-domain.result.now
    c.in_ok-first_part.field-0 c.in_ok-second_part.field-0 c.in_ok-first.first c.in_ok-second.second c.requires.integers c.requires.domains c.in_ok-waits.ensures
    (c.in_ok-domains.ensures ∙ ap (map (domain_in c.args.store.now)) c.as_slice.ensures.value) (c.in-Some.ensures.split ∙ ap (split_of c.args.rule) c.as_slice-2.ensures.value)
    (subst (λ l. c.in-Some.split.var < length l) c.as_slice-2.ensures.value (taken_inside c.args.rule c.as_slice-2.result.now c.in-Some.split.var c.in-Some.ensures.taken))
    c.index-x.ensures c.index-domain.ensures c.in_ok-first_part.ensures c.in_ok-second_part.ensures c.in_ok-first.ensures c.in_ok-second.ensures

use Rattle.std.proofs.Common.{rules, List, ap, sym, ◌∙◌, FitsSigned}
use Rattle.std.specs.Int.{w128}
use Rattle.std.proofs.lemmas.Int.{to_z-of_z}
use Rattle.fd_domain.proofs.MemberLaws.{intervals_single}
use Rattle.oz_base.specs.declared.interval.Interval.{Interval}
use Rattle.oz_domains.specs.Domains.{intervals_eq, intervals_of}
use Rattle.term_store.specs.VariableDomains.{set_of}
use Rattle.term_store.specs.declared.variable_domain.VariableDomain.{VariableDomain}
use Rattle.space_core.proofs.domains.same_integers.Goals as goal

pub returns-in-Integer : goal.returns-in-Integer
returns-in-Integer c =
    let fits : FitsSigned w128 c.in-Integer.integer = search rules in
    let same = simp to_z-of_z at c.is_integer.ensures in
    same
    ∙ ap (λ (is : List Interval). intervals_eq is (intervals_of (set_of c.args.right.now))) (sym (ap (λ (d : VariableDomain). intervals_of (set_of d)) c.in-Integer.is ∙ intervals_single c.in-Integer.integer))

pub returns-in-Told : goal.returns-in-Told
returns-in-Told c =
    c.are_those.ensures
    ∙ ap (λ (is : List Interval). intervals_eq is (intervals_of (set_of c.args.right.now))) (c.intervals.ensures.exact ∙ sym (ap (λ (d : VariableDomain). intervals_of (set_of d)) c.in-Told.is))

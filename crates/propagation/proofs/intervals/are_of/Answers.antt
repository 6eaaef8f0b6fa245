use Rattle.std.proofs.Common.{rules, ◌∙◌, ap, sym, to_z-of_z, FitsSigned}
use Rattle.std.specs.Int.{w128}
use Rattle.fd_domain.proofs.MemberLaws.{intervals_single}
use Rattle.oz_domains.specs.Domains.{intervals_eq, intervals_of}
use Rattle.term_store.specs.VariableDomains.{set_of}
use Rattle.propagation.proofs.intervals.are_of.Goals as goal

pub returns-in-Integer : goal.returns-in-Integer
returns-in-Integer c =
    let fits : FitsSigned w128 c.in-Integer.integer = search rules in
    let same = simp to_z-of_z at c.are_of_one.ensures in
    same ∙ ap (intervals_eq c.args.intervals.now) (sym (intervals_single c.in-Integer.integer) ∙ ap (λ d. intervals_of (set_of d)) (sym c.in-Integer.is))

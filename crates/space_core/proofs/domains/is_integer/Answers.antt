use Rattle.std.proofs.Common.{rules, ◌∷◌, [], ap, sym, ◌∙◌, FitsSigned}
use Rattle.std.specs.Int.{w128}
use Rattle.std.proofs.lemmas.Int.{to_z-of_z}
use Rattle.fd_domain.proofs.MemberLaws.{intervals_single}
use Rattle.oz_domains.specs.Domains.{intervals_eq, intervals_of}
use Rattle.term_store.specs.VariableDomains.{set_of}
use Rattle.term_store.specs.declared.variable_domain.VariableDomain.{VariableDomain}
use Rattle.space_core.proofs.domains.is_integer.Goals as goal

pub returns-in-Integer : goal.returns-in-Integer
returns-in-Integer c =
    let fits : FitsSigned w128 c.args.integer = search rules in
    let other : FitsSigned w128 c.in-Integer.other = search rules in
    let same = simp to_z-of_z at c.same_integer.ensures in
    same ∙ ap (intervals_eq (record { low = c.args.integer; high = c.args.integer } ∷ [])) (sym (ap (λ (d : VariableDomain). intervals_of (set_of d)) c.in-Integer.is ∙ intervals_single c.in-Integer.other))

pub returns-in-Told : goal.returns-in-Told
returns-in-Told c =
    let fits : FitsSigned w128 c.args.integer = search rules in
    let same = simp to_z-of_z at c.is_all_of.ensures in
    same ∙ ap (intervals_eq (record { low = c.args.integer; high = c.args.integer } ∷ [])) (c.intervals.ensures.exact ∙ sym (ap (λ (d : VariableDomain). intervals_of (set_of d)) c.in-Told.is))

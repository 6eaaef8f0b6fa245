use Rattle.std.proofs.Common.{rules, ◌∷◌, [], ap, sym, ◌∙◌, FitsSigned}
use Rattle.std.specs.Int.{w128}
use Rattle.std.proofs.lemmas.Int.{to_z-of_z}
use Rattle.fd_domain.proofs.MemberLaws.{intervals_single}
use Rattle.oz_domains.specs.Domains.{intervals_eq, intervals_of}
use Rattle.term_store.specs.VariableDomains.{set_of}
use Rattle.term_store.specs.declared.variable_domain.VariableDomain.{VariableDomain}
use Rattle.space_core.proofs.IntervalLaws.{swapped}
use Rattle.space_core.proofs.domains.are_those.Goals as goal

pub returns-in-Integer : goal.returns-in-Integer
returns-in-Integer c =
    let fits : FitsSigned w128 c.in-Integer.integer = search rules in
    let same = simp to_z-of_z at c.is_all_of.ensures in
    same ∙ swapped (record { low = c.in-Integer.integer; high = c.in-Integer.integer } ∷ []) c.args.intervals.now
    ∙ ap (intervals_eq c.args.intervals.now) (sym (ap (λ (d : VariableDomain). intervals_of (set_of d)) c.in-Integer.is ∙ intervals_single c.in-Integer.integer))

pub returns-in-Told : goal.returns-in-Told
returns-in-Told c = c.are_equal.ensures ∙ ap (intervals_eq c.args.intervals.now) (c.intervals.ensures.exact ∙ sym (ap (λ (d : VariableDomain). intervals_of (set_of d)) c.in-Told.is))

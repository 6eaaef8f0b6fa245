use Rattle.std.proofs.Common.{◌∙◌, ap, sym}
use Rattle.oz_domains.specs.Domains.{intervals_eq}
use Rattle.propagation.proofs.DueLaws.{none_seen, none_intervals, some_intervals}
use Rattle.term_store.specs.VariableDomains.{set_of}
use Rattle.propagation.proofs.due.is_as_seen.Goals as goal

pub returns-in-None : goal.returns-in-None
returns-in-None c =
    c.is_empty.ensures ∙ none_seen c.args.seen.now
    ∙ ap (intervals_eq c.args.seen.now) (sym (none_intervals c.args.store.now c.args.variable.now c.in-None.ensures))

pub returns-in-Some : goal.returns-in-Some
returns-in-Some c =
    c.are_of.ensures
    ∙ ap (intervals_eq c.args.seen.now) (sym (some_intervals c.args.store.now c.args.variable.now (set_of c.in-Some.domain) c.in-Some.ensures))

use Rattle.std.proofs.Common.{◌≡◌, ◌++◌, map, drop, codes}
use Rattle.oz_language.specs.SimpleTexts.{gapped}
use Rattle.oz_semantics.specs.Texts.{interval_text}
use Rattle.term_text.proofs.domains.add_intervals.Given as goal

-- what is written and what is left to be written are the whole
abbrev pub invariant-loop-interval : goal.invariant-loop-interval
invariant-loop-interval l =
    l.out.items ++ gapped (codes " ") (map interval_text (drop l.interval-index l.others))
    ≡ l.initial.out.items ++ gapped (codes " ") (map interval_text l.others)

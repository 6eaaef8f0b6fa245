use Rattle.std.proofs.Common.{◌∙◌, Some, None, sym}
use Rattle.kernel_form.proofs.Leading.{entered, ended}
use Rattle.kernel_form.proofs.entries.next_statement.Goals as goal

pub entries-preserved : goal.entries-preserved
entries-preserved c all text leads =
    entered c.args.words.now all c.entries.pending c.pop.new.self c.enter.new.pending c.in-Some.entry None c.entries.out.items c.enter.new.out.items text c.in-Some.ensures c.in_ok-number.ensures.pending
    c.in_ok-number.ensures.bytes (sym c.in_default-2.is ∙ c.in_ok-number.ensures.found) (c.entries.invariant all text leads)

pub returns-in-Some-2 : goal.returns-in-Some-2
returns-in-Some-2 c all text leads =
    entered c.args.words.now all c.entries.pending c.pop.new.self c.enter.new.pending c.in-Some.entry (Some c.in-Some-2.number) c.entries.out.items c.enter.new.out.items text c.in-Some.ensures
    c.in_ok-number.ensures.pending c.in_ok-number.ensures.bytes (sym c.in-Some-2.is ∙ c.in_ok-number.ensures.found) (c.entries.invariant all text leads)

pub returns : goal.returns
returns c all text leads = ended c.args.words.now all c.entries.pending c.entries.out.items text c.in_default.ensures.0 (c.entries.invariant all text leads)

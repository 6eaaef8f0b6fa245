use Rattle.term_store.specs.Logs.{told_in}
use Rattle.term_store.proofs.AnswerLaws.{going_none}
use Rattle.term_store.proofs.store.Store.new.Goals as goal

pub invariant_of-result : goal.invariant_of-result
invariant_of-result c = going_none (told_in c.new.result) c.new-2.result c.new.ensures c.new-2.ensures

use Rattle.std.proofs.Common.{rules}
use Rattle.std.proofs.lemmas.Fn.{filter_same}
use Rattle.oz_threads.specs.Members.{is_member}
use Rattle.oz_threads.proofs.queue.retain.Goals as goal

pub returns : goal.returns
returns c = filter_same _ (is_member c.args.able.now) _ (λ x b f k. search rules) _ _ c.retain.ensures.filtered

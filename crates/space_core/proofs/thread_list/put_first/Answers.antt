use Rattle.space_core.proofs.ThreadListLaws.{turned}
use Rattle.space_core.proofs.thread_list.put_first.Goals as goal

pub returns-clause-rest : goal.returns-clause-rest
returns-clause-rest c = turned c.args.threads.now c.rotate_right.new.self c.args.place c.requires c.rotate_right.ensures.after

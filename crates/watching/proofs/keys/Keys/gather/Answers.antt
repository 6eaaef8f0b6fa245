use Rattle.watching.proofs.KeyLaws.{gathers}
use Rattle.watching.proofs.keys.Keys.gather.Goals as goal

pub returns : goal.returns
returns c =
    λ listed. gathers c.args.store.now c.args.root.now c.args.self.now c.add.new.self c.in_ok-draft.draft c.in_ok-draft.ensures c.in_ok-add.ensures listed

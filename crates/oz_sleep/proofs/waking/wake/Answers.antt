use Rattle.oz_sleep.proofs.WakingLaws.{foretells}
use Rattle.oz_sleep.proofs.waking.wake.Goals as goal

pub returns-clause-foretold : goal.returns-clause-foretold
returns-clause-foretold c = λ act touches.
    foretells c.args.levels.now c.args.id.now act c.args.sleeping.now c.wake.new.self c.args.place c.args.touched.now c.in_ok-woken.woken c.store_at.result.now
    c.requires.awaits c.requires.place c.store_at.ensures touches c.in_ok-woken.ensures

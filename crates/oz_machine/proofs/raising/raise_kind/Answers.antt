use Rattle.oz_machine.proofs.raising.raise_kind.Goals as goal

pub returns-clause-turn : goal.returns-clause-turn
returns-clause-turn c = λ statements. c.raise_new.ensures.turn statements c.args.kind c.in_ok-made.ensures

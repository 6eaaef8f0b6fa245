use Rattle.oz_machine.proofs.declarations.declaring.Goals as goal

pub returns : goal.returns
returns c = record { numbered = c.in_ok-number.ensures; names = c.in_ok-_names._names.now; body = c.in_ok-_names._body.now; answers = c.in_ok-_names.ensures c.args.frame.now c.in_ok-number.ensures }

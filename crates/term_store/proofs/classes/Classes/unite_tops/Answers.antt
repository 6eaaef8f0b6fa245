use Rattle.std.proofs.Common.{◌∙◌}
use Rattle.oz_base.specs.IdentLaws.{ident_eq-equivalence}
use Rattle.term_store.proofs.classes.Classes.unite_tops.Goals as goal

pub put-requires-in-false-default-clause-apart : goal.put-requires-in-false-default-clause-apart
put-requires-in-false-default-clause-apart c = ident_eq-equivalence.symm c.args.right.now.root c.args.left.now.root ∙ c.requires.apart

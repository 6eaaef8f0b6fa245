use Rattle.std.proofs.Common.{◌∙◌}
use Rattle.oz_base.specs.IdentLaws.{ident_eq-equivalence}
use Rattle.term_store.proofs.classes.Classes.put_lower_with.Goals as goal

pub put_with-requires-2-clause-apart : goal.put_with-requires-2-clause-apart
put_with-requires-2-clause-apart c = ident_eq-equivalence.symm c.args.right.now.root c.args.left.now.root ∙ c.requires.apart

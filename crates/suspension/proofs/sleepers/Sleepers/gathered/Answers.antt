use Rattle.std.proofs.Common.{◌≡◌, List, Some, take, slice_get, subst, sym}
use Rattle.oz_base.specs.declared.names.Ident.{Ident}
use Rattle.suspension.specs.Changes.{Gathered}
use Rattle.suspension.proofs.KeyLaws.{taken}
use Rattle.suspension.proofs.sleepers.Sleepers.gathered.Goals as goal

pub keys-preserved : goal.keys-preserved
keys-preserved c =
    let at : slice_get c.args.self.now.variables c.keys.place ≡ Some c.in-Some.key.now = sym c.in-Some.ensures in
    subst (λ (seen : List Ident). Gathered c.args.self.now seen c.gather_one.new.others) (sym (taken c.args.self.now.variables c.keys.place c.in-Some.key.now at))
    (c.in_ok-gather_one.ensures (take c.keys.place c.args.self.now.variables) c.keys.invariant)

use Rattle.std.proofs.Common.{sym}
use Rattle.shared_map.proofs.Reach.{lookup_beyond}
use Rattle.shared_map.proofs.trunk.Trunk.get.Goals as goal

pub returns : goal.returns
returns g c = sym (lookup_beyond c.args.self.now.height c.args.self.now.root c.args.key (c.reaches.ensures.no c.if-reaches.false))

use Rattle.std.proofs.Common.{◌*◌, ◌/◌, ◌^◌}
use Rattle.std.proofs.lemmas.Bool.{ltb-true}
use Rattle.shared_map.proofs.Spans.{high_enough}
use Rattle.shared_map.proofs.trunk.Trunk.reaches.Goals as goal

pub returns-clause-yes : goal.returns-clause-yes
returns-clause-yes g c = λ e. high_enough (4 * c.args.self.now.height) c.args.key (ltb-true (c.args.key / 2 ^ (4 * c.args.self.now.height)) 16 e)

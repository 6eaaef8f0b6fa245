-- What a program opens with is consistent, so all that can step is queued there.
use Rattle.std.proofs.Common.{[], None}
use Rattle.settle_laws.specs.Turns.{opening_layers}
use Rattle.settle_laws.proofs.SoundLaws.{sound_top}
use Rattle.settle_laws.proofs.OpeningLaws.{opening_sound}
use Rattle.machine_search.specs.Rests.{OpeningLaw}
use Rattle.machine_search.proofs.RestLaws.{settled_law}

pub opening_law : OpeningLaw
opening_law k = settled_law k.statements None 0 (record { layers = opening_layers k; queue = []; shown = [] }) (sound_top (opening_layers k) (opening_sound k))

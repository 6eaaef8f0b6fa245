-- Nodes at their paths.
use Rattle.std.specs.Prelude.{◌≡◌, List, Option}
use Rattle.oz_search.specs.Searches.{Search}
use Rattle.oz_search.specs.Nodes.{Maker, Node}
use Rattle.oz_semantics.specs.declared.configuration.Configuration.{Configuration}
use Rattle.oz_machine.specs.Courses.{Loaded}
use Rattle.recompute.specs.Origins.{Origin, met_by}
use Rattle.recompute.specs.Ways.{reached, Opens}
use Rattle.recompute.specs.declared.waypoint.Waypoint.{Waypoint}

-- x is the node at the path p of this search, with all the steps that there are for it
abbrev pub StandsAt : {B L : Type 0} → Search B L → Maker B L Configuration → Origin → List B → Waypoint B L → Type 0
StandsAt k m o p x = (x.machine.kernel ≡ o.kernel) × (met_by k m o o.budget p ≡ Node (reached x))

-- d is the machine of the node at the path p of this search, committed to the branch b, or nothing where the node does not offer that
pub record OpensAt {B L : Type 0} (k : Search B L) (m : Maker B L Configuration) (o : Origin) (p : List B) (b : B) (d : Option Loaded) : Type 0 where
  pub node : Waypoint B L
  pub stands : StandsAt k m o p node
  pub opens : Opens k m node b d

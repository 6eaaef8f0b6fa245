-- Where a search starts, and the tree that it goes through.
use Rattle.std.specs.Prelude.{ℕ, List, []}
use Rattle.oz_language.specs.declared.kernel.Kernel.{Kernel}
use Rattle.oz_search.specs.Searches.{Search}
use Rattle.oz_search.specs.Nodes.{Maker, Met, met, Fuelled}
use Rattle.oz_search.specs.Plain.{outcomes}
use Rattle.oz_search.specs.declared.leaf.Outcome.{Outcome}
use Rattle.oz_semantics.specs.Search.{maker, space_tree}
use Rattle.oz_semantics.specs.declared.configuration.Configuration.{Configuration}
use Rattle.oz_machine.specs.Courses.{Loaded}

-- the program, the configuration in which the search root was just made, the root's name, and the steps that are left for the
-- search
pub record Origin : Type 0 where
  pub kernel : Kernel
  pub config : Configuration
  pub space : List ℕ
  pub budget : ℕ

-- that of no program
abbrev pub nowhere : Origin
nowhere = record {
  kernel = record { words = []; statements = []; body = [] };
  config = record { layers = []; queue = []; shown = [] };
  space = [];
  budget = 0;
}

-- that of a machine
abbrev pub origin : Loaded → List ℕ → ℕ → Origin
origin machine space budget = record { kernel = machine.kernel; config = machine.config; space = space; budget = budget }

-- what is at a path from there for a kind of search, where the maker makes the nodes, each on the way with this fuel
abbrev pub met_by : {B L : Type 0} → Search B L → Maker B L Configuration → Origin → ℕ → List B → Met Configuration L
met_by k m o fuel p = met k m fuel o.config p

-- ---- plain search

-- how its nodes are made
abbrev pub maker_of : Origin → Maker ℕ Outcome Configuration
maker_of o = maker o.kernel o.space

-- the tree below the root, as far as each node takes no more steps than there is fuel
abbrev pub tree_of : Origin → Fuelled ℕ Outcome
tree_of o = space_tree o.kernel o.space o.config

-- what is at a path of it, each node on the way with this fuel
abbrev pub met_at : Origin → ℕ → List ℕ → Met Configuration Outcome
met_at o fuel p = met outcomes (maker o.kernel o.space) fuel o.config p

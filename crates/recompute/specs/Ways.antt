-- The way to a node: the nodes on it, from the root on.
use Rattle.std.specs.Prelude.{◌≡◌, ℕ, suc, ◌&&◌, Bool, true, false, if◌then◌else◌, List, [], ◌∷◌, Option, Some, None, length}
use Rattle.std.specs.Ordering.{is_eq}
use lib.Dec.{leb}
use Rattle.oz_language.specs.declared.kernel.Kernel.{Kernel}
use Rattle.oz_search.specs.Searches.{Search}
use Rattle.oz_search.specs.Paths.{is_among}
use Rattle.oz_search.specs.Nodes.{Reached, Maker, Met, Node, OutOfFuel, NotANode, met_by_kind, met_from}
use Rattle.oz_search.specs.declared.leaf.Outcome.{Outcome}
use Rattle.oz_search.specs.declared.tree.Report.{Report}
use Rattle.oz_search.specs.declared.tree.Kind.{Kind}
use Rattle.oz_search.specs.declared.tree.Kind.TheVariants.{Alternatives, End}
use Rattle.oz_semantics.specs.Search.{node_at}
use Rattle.oz_semantics.specs.declared.configuration.Configuration.{Configuration}
use Rattle.oz_machine.specs.Courses.{Loaded}
use Rattle.oz_machine.specs.declared.runs.Ran.{Ran}
use Rattle.oz_machine.specs.declared.runs.Ran.TheVariants as ran
use Rattle.recompute.specs.Origins.{Origin, met_by}
use Rattle.recompute.specs.declared.waypoint.Rest.{Rest}
use Rattle.recompute.specs.declared.waypoint.Waypoint.{Waypoint}
use Rattle.recompute.specs.declared.explorer.Solved.{Solved}
use Rattle.recompute.specs.declared.explorer.Solved.TheVariants as solved

-- ---- one node

-- the node as it was reached
abbrev pub reached : {B L : Type 0} → Waypoint B L → Reached Configuration L
reached x = record { config = x.machine.config; report = x.report }

-- in a run that ends so the space has not come to rest
abbrev pub Restless : Ran → Type 0
Restless ran.OutOfFuel = Unit {0}
Restless (ran.TopEnded exception steps) = Unit {0}
Restless (ran.Ended None steps) = Unit {0}
Restless (ran.Ended (Some s) steps) = ⊥

-- how a space came to rest by a run, if it did
abbrev pub RestsBy : Ran → Option Rest → Type 0
RestsBy r None = Restless r
RestsBy r (Some rest) = r ≡ ran.Ended (Some rest.state) rest.steps

-- a machine whose space was just made, or committed, was run with this fuel, and stands at the node that is reported
abbrev pub ComesToRest : List ℕ → ℕ → Loaded → Loaded → Option (Report Outcome) → Type 0
ComesToRest space fuel old new None = node_at old.kernel space fuel old.config ≡ None
ComesToRest space fuel old new (Some r) = (node_at old.kernel space fuel old.config ≡ Some (record { config = new.config; report = r })) × (new.kernel ≡ old.kernel)

module _ {B L : Type 0} where
  -- the same where the maker makes the nodes
  abbrev pub StandsAfter : Maker B L Configuration → ℕ → Loaded → Loaded → Option (Report L) → Type 0
  StandsAfter m fuel old new None = m.run fuel old.config ≡ None
  StandsAfter m fuel old new (Some r) = (m.run fuel old.config ≡ Some (record { config = new.config; report = r })) × (new.kernel ≡ old.kernel)

  -- the node of a machine whose space was just made, or committed to this branch, with this fuel
  abbrev pub MakesNode : Maker B L Configuration → B → ℕ → Loaded → Option (Waypoint B L) → Type 0
  MakesNode m b fuel d None = m.run fuel d.config ≡ None
  MakesNode m b fuel d (Some x) = (m.run fuel d.config ≡ Some (reached x)) × (x.machine.kernel ≡ d.kernel) × (x.branch ≡ b)

module _ {B L : Type 0} (k : Search B L) where
  -- whether the branch takes an alternative of a node of this kind
  abbrev pub offers : Kind L → B → Bool
  offers (Alternatives n) b = is_among k n b
  offers (End l) b = false

  -- the machine of a node, committed to a branch, if the node offers it
  abbrev pub Opens : Maker B L Configuration → Waypoint B L → B → Option Loaded → Type 0
  Opens m x b None = offers x.report.kind b ≡ false
  Opens m x b (Some d) = (offers x.report.kind b ≡ true) × (d.kernel ≡ x.machine.kernel) × (d.config ≡ m.commit b x.machine.config)

  -- ---- the way

  -- x is the node of the configuration c, in which the space was just made or committed
  abbrev pub IsMadeOf : Maker B L Configuration → Kernel → Configuration → Waypoint B L → Type 0
  IsMadeOf m q c x = (x.machine.kernel ≡ q) × (m.run x.report.steps c ≡ Some (reached x))

  -- each of these is the node of the one before, committed to a branch that it offers; the first of x
  abbrev pub AreBelow : Maker B L Configuration → Kernel → Waypoint B L → List (Waypoint B L) → Type 0
  AreBelow m q x [] = Unit {0}
  AreBelow m q x (y ∷ way) = (offers x.report.kind y.branch ≡ true) × IsMadeOf m q (m.commit y.branch x.machine.config) y × AreBelow m q y way

  -- a way from the root
  abbrev pub IsWay : Maker B L Configuration → Origin → List (Waypoint B L) → Type 0
  IsWay m o [] = Unit {0}
  IsWay m o (x ∷ way) = IsMadeOf m o.kernel o.config x × AreBelow m o.kernel x way

  -- ---- paths

  -- what is at a path that goes on from the node x, which is so many branches below the root
  abbrev pub met_behind : Maker B L Configuration → ℕ → ℕ → Waypoint B L → List B → Met Configuration L
  met_behind m fuel at x [] = Node (reached x)
  met_behind m fuel at x (b ∷ p) = met_by_kind k at b x.report.kind (met_from k m fuel (suc at) (m.commit b x.machine.config) p)

  -- what is left of a path behind these nodes, if it leads through them, and each has no more own steps than the fuel
  abbrev pub rest_behind : ℕ → List (Waypoint B L) → List B → Option (List B)
  rest_behind fuel [] p = Some p
  rest_behind fuel (x ∷ way) [] = None
  rest_behind fuel (x ∷ way) (b ∷ p) = if is_eq (k.cmp x.branch b) && leb x.report.steps fuel then rest_behind fuel way p else None

  -- the same of a way from the root
  abbrev pub rest_of : ℕ → List (Waypoint B L) → List B → Option (List B)
  rest_of fuel [] p = Some p
  rest_of fuel (x ∷ way) p = if leb x.report.steps fuel then rest_behind fuel way p else None

-- the last node of a way that begins with x
abbrev pub last_of : {B L : Type 0} → Waypoint B L → List (Waypoint B L) → Waypoint B L
last_of x [] = x
last_of x (y ∷ way) = last_of y way

-- what is at a path that goes on from the end of the way
abbrev pub met_on : {B L : Type 0} → Search B L → Maker B L Configuration → Origin → ℕ → List (Waypoint B L) → List B → Met Configuration L
met_on k m o fuel [] p = met_by k m o fuel p
met_on k m o fuel (x ∷ way) p = met_behind k m fuel (length way) (last_of x way) p

-- ---- what is answered

abbrev pub answer_of : {L : Type 0} → Met Configuration L → Solved L
answer_of (Node r) = solved.Node r.report
answer_of (OutOfFuel at) = solved.OutOfFuel at
answer_of (NotANode at) = solved.NotANode at

-- a step along a path: it was answered; or the way is longer, and what is at the path is what is at the rest of it
abbrev pub Goes : {B L : Type 0} → Search B L → Maker B L Configuration → Origin → ℕ → Met Configuration L → List (Waypoint B L) → List B → Option (Solved L) → Type 0
Goes k m o fuel x way p None = x ≡ met_on k m o fuel way p
Goes k m o fuel x way p (Some s) = s ≡ answer_of x

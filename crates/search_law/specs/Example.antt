-- A small tree, and a small history of best search.
use Rattle.std.specs.Prelude.{◌≡◌, ℕ, zero, suc, pos, ◌++◌, ◌∷◌, [], List, Option, Some, None, true, false, if◌then◌else◌}
use Rattle.oz_search.specs.declared.best.Costed.{Costed}
use Rattle.oz_search.specs.declared.history.Entry.TheVariants.{Claim, Split, Leaf}
use Rattle.oz_search.specs.declared.leaf.Outcome.{Outcome}
use Rattle.oz_search.specs.declared.leaf.Outcome.TheVariants.{Failed, Solved, Suspended}
use Rattle.oz_search.specs.declared.tree.Report.{Report}
use Rattle.oz_search.specs.declared.tree.Kind.TheVariants.{Alternatives, End}
use lib.Dec.{leb}
use Rattle.oz_search.specs.Nodes.{Fuelled, IsFuelled}
use Rattle.oz_search.specs.Trees.{Tree, report, depth_first}
use Rattle.oz_search.specs.Histories.{is_open, claim_of, total_of}
use Rattle.oz_search.specs.Leaves.{leaves_of}
use Rattle.oz_search.specs.Plain.{outcomes, itself}
use Rattle.oz_search.specs.Best.{BestEntry, best, best_of, bears_best}
use Rattle.search_law.specs.BestLaw.{bounded}
use Rattle.search_law.specs.Taken.{taken}

-- ---- plain search
-- the alternatives of the root
abbrev pub child : ℕ → Option (Report Outcome)
child zero = None
child (suc zero) = Some (report (End Suspended) 2)
child (suc (suc zero)) = Some (report (End Failed) 1)
child (suc (suc (suc zero))) = Some (report (End Suspended) 4)
child (suc (suc (suc (suc n)))) = None

-- a root with three leaves, of which the second failed
abbrev pub small_tree : Tree ℕ Outcome
small_tree [] = Some (report (Alternatives 3) 1)
small_tree (i ∷ []) = child i
small_tree (i ∷ j ∷ p) = None

-- a node, if it has at most so many steps
abbrev pub cut : ℕ → Option (Report Outcome) → Option (Report Outcome)
cut fuel None = None
cut fuel (Some r) = if leb r.steps fuel then Some r else None

-- as far as there is fuel: the leaves are there where the root is
abbrev pub small_within : Fuelled ℕ Outcome
small_within fuel [] = cut fuel (small_tree [])
small_within fuel (i ∷ []) = if leb 1 fuel then cut fuel (child i) else None
small_within fuel (i ∷ j ∷ p) = None

-- these are parts of one tree
abbrev pub SmallTree : Type 0
SmallTree = IsFuelled outcomes small_within

-- its nodes have 8 steps in all. With fuel for these or more its leaves are found, and with less nothing
abbrev pub FoundLaw : Type 0
FoundLaw =
    (depth_first outcomes itself small_tree 9 ≡ Some ((1 ∷ [], Suspended) ∷ (3 ∷ [], Suspended) ∷ [], 8)) × (depth_first outcomes itself small_tree 8 ≡ Some ((1 ∷ [], Suspended) ∷ (3 ∷ [], Suspended) ∷ [], 8))
    × (depth_first outcomes itself small_tree 7 ≡ None)

-- ---- best search
-- a solved leaf of this cost
abbrev pub solved : ℕ → Costed
solved cost = record { outcome = Solved []; cost = Some (pos cost) }

-- worker 0 has split the root in three
abbrev pub begun : List BestEntry
begun = Claim 0 [] ∷ Split 0 [] 3 4 ∷ []

-- worker 1 has claimed the first alternative, worker 0 the second, both under no bound; the second leaf costs 5
abbrev pub found : List BestEntry
found = begun ++ Claim 1 (bounded 1 None ∷ []) ∷ Claim 0 (bounded 2 None ∷ []) ∷ Leaf 0 (bounded 2 None ∷ []) (solved 5) 3 ∷ []

-- so the third is claimed under the bound 5, and its leaf costs 4
abbrev pub bettered : List BestEntry
bettered = found ++ Claim 0 (bounded 3 (Some (pos 5)) ∷ []) ∷ Leaf 0 (bounded 3 (Some (pos 5)) ∷ []) (solved 4) 3 ∷ Leaf 1 (bounded 1 None ∷ []) (solved 7) 3 ∷ []

-- the least cost after each, and the only bound under which the third alternative may be claimed
abbrev pub BoundsLaw : Type 0
BoundsLaw =
    (best_of begun ≡ None) × (best_of found ≡ Some (pos 5)) × (best_of bettered ≡ Some (pos 4)) × (bears_best found (bounded 3 (Some (pos 5)) ∷ []) ≡ true) × (bears_best found (bounded 3 None ∷ []) ≡ false)

-- an alternative is open until it is claimed, under whatever bound; and the branches that were taken have their bounds
abbrev pub OpenAlternatives : Type 0
OpenAlternatives =
    (is_open best found (bounded 2 (Some (pos 5)) ∷ []) ≡ false) × (is_open best found (bounded 3 None ∷ []) ≡ true) × (claim_of found 1 ≡ Some (bounded 1 None ∷ []))
    × (taken best bettered [] 3 ≡ bounded 3 (Some (pos 5))) × (total_of bettered ≡ 13)
    × (leaves_of best bettered ≡ (bounded 1 None ∷ [], solved 7) ∷ (bounded 2 None ∷ [], solved 5) ∷ (bounded 3 (Some (pos 5)) ∷ [], solved 4) ∷ [])

-- Best search by branch and bound (Schulte, LNCS 2302, on search): a node is solved under the least cost that was found before
-- it was claimed.
use Rattle.std.specs.Prelude.{ℕ, ℤ, nat_eq, Bool, true, ◌&&◌, List, [], ◌∷◌, Option, Some, None}
use Rattle.std.specs.Int.{int_min}
use Rattle.std.specs.List.{fold}
use Rattle.std.specs.Option.{option_eq, option_cmp}
use Rattle.std.specs.Ordering.{nat_cmp, int_cmp, int_eq, ordering_then}
use Rattle.std.specs.declared.cmp.Ordering.{Ordering}
use Rattle.oz_search.specs.declared.best.Bounded.{Bounded}
use Rattle.oz_search.specs.declared.best.Costed.{Costed}
use Rattle.oz_search.specs.declared.leaf.Outcome.{Outcome}
use Rattle.oz_search.specs.declared.leaf.Outcome.TheVariants.{Failed, Solved, Stuck, Raised, Suspended}
use Rattle.oz_search.specs.declared.history.Entry.{Entry}
use Rattle.oz_search.specs.declared.history.Entry.TheVariants.{Claim, Split, Leaf, Stop}
use Rattle.oz_search.specs.Searches.{Search}
use Rattle.oz_search.specs.Plain.{is_failed}

-- an entry in a history of best search
abbrev pub BestEntry : Type 0
BestEntry = Entry (List Bounded) Costed

-- the lesser of two costs, where there are any
abbrev pub lesser : Option ℤ → Option ℤ → Option ℤ
lesser None d = d
lesser (Some c) None = Some c
lesser (Some c) (Some d) = Some (int_min c d)

-- the cost of a leaf, where it is solved
abbrev pub cost_by : Outcome → Option ℤ → Option ℤ
cost_by Failed cost = None
cost_by (Solved t) cost = cost
cost_by (Stuck t) cost = None
cost_by (Raised t) cost = None
cost_by Suspended cost = None

abbrev pub cost_of : Costed → Option ℤ
cost_of l = cost_by l.outcome l.cost

-- the least cost after one entry more, where c was the least
abbrev pub best_after : Option ℤ → BestEntry → Option ℤ
best_after c (Claim w p) = c
best_after c (Split w p n s) = c
best_after c (Leaf w p l s) = lesser c (cost_of l)
best_after c (Stop e) = c

-- the least cost of the solved leaves of a history, if there are any
abbrev pub best_of : List BestEntry → Option ℤ
best_of h = fold best_after None h

-- the same alternative under the same bound
abbrev pub branch_eq : Bounded → Bounded → Bool
branch_eq x y = nat_eq x.alternative y.alternative && option_eq int_eq x.bound y.bound

-- by the alternative, then by the bound, where no bound comes first
abbrev pub branch_cmp : Bounded → Bounded → Ordering
branch_cmp x y = ordering_then (nat_cmp x.alternative y.alternative) (option_cmp int_cmp x.bound y.bound)

-- the bound of the last branch is the least cost so far. The root has no branch
abbrev pub bears_best : List BestEntry → List Bounded → Bool
bears_best h [] = true
bears_best h (b ∷ []) = option_eq int_eq b.bound (best_of h)
bears_best h (b ∷ c ∷ p) = bears_best h (c ∷ p)

-- an alternative under no bound
abbrev pub unbounded : ℕ → Bounded
unbounded i = record { alternative = i; bound = None }

-- best search: a claim is under the least cost so far
abbrev pub best : Search Bounded Costed
best = record {
  number = λ b. b.alternative;
  free = unbounded;
  same = branch_eq;
  cmp = branch_cmp;
  fails = λ l. is_failed l.outcome;
  admits = bears_best;
}

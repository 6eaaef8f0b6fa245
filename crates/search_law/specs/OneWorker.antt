-- The history of one worker alone in best search (branch and bound: Schulte, LNCS 2302, on search).
use Rattle.std.specs.Prelude.{◌≡◌, ◌⊎◌, ℕ, true, is_some, List, [], ◌∷◌, ◌++◌, None, Contains}
use Rattle.oz_search.specs.declared.best.Bounded.{Bounded}
use Rattle.oz_search.specs.declared.best.Costed.{Costed}
use Rattle.oz_search.specs.declared.history.Entry.TheVariants.{Claim, Split, Leaf, Stop}
use Rattle.oz_search.specs.declared.history.Halt.{Halt}
use Rattle.oz_search.specs.Nodes.{Fuelled, IsFuelled}
use Rattle.oz_search.specs.Histories.{worker_of, stop_of, IsLegal, IsNothingOpen, IsNothingOut}
use Rattle.oz_search.specs.Best.{BestEntry, best}
use Rattle.search_law.specs.Law.{IsSpent}

-- all entries are the worker's of number 0, which has not stopped for want of memory
pub record IsAlone (h : List BestEntry) : Type 0 where
  pub own : (e : BestEntry) → Contains h e → worker_of e ≡ 0
  pub spent : (x : Halt) → Contains h (Stop x) → IsSpent x.cause

-- the entries before a stop
abbrev pub before_stop : List BestEntry → List BestEntry
before_stop [] = []
before_stop (Claim w p ∷ h) = Claim w p ∷ before_stop h
before_stop (Split w p n s ∷ h) = Split w p n s ∷ before_stop h
before_stop (Leaf w p l s ∷ h) = Leaf w p l s ∷ before_stop h
before_stop (Stop x ∷ h) = []

-- h begins as g does, and does not go on where g has stopped
pub record GoesOn (g h : List BestEntry) : Type 0 where
  pub rest : List BestEntry
  pub begins : before_stop h ≡ before_stop g ++ rest
  pub ended : is_some (stop_of g) ≡ true → rest ≡ []

-- a worker alone goes on in one way: of two legal histories, one goes on where the other ends. Only the cause of a stop may differ: a
-- node with more own steps than the budget may be told by its steps or not
abbrev pub OneWorkerLaw : Type 0
OneWorkerLaw = (within : Fuelled Bounded Costed) (budget : ℕ) (g h : List BestEntry) → IsFuelled best within → IsLegal within best budget g → IsLegal within best budget h → IsAlone g → IsAlone h → GoesOn g h ⊎ GoesOn h g

-- where a worker alone has finished, no history of its own ends with a stop for want of steps
abbrev pub FinishesLaw : Type 0
FinishesLaw = (within : Fuelled Bounded Costed) (budget : ℕ) (h g : List BestEntry) → IsFuelled best within → IsLegal within best budget h → IsAlone h → stop_of h ≡ None → IsNothingOpen best h → IsNothingOut best h
    → IsLegal within best budget g → IsAlone g → is_some (stop_of g) ≡ true → ⊥

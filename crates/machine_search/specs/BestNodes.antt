-- The nodes of a best search of the machine, and its tree (branch and bound: Schulte, LNCS 2302, on search; CTM 12.4).
use Rattle.std.specs.Prelude.{◌≡◌, ℕ, false, List}
use Rattle.oz_language.specs.declared.kernel.Constant.{Constant}
use Rattle.oz_language.specs.declared.kernel.Kernel.{Kernel}
use Rattle.oz_language.specs.declared.kernel.Statement.{Statement}
use Rattle.oz_search.specs.Nodes.{Reached, Node, met, IsMaker, IsFuelled}
use Rattle.oz_search.specs.Best.{best, unbounded}
use Rattle.oz_search.specs.declared.best.Bounded.{Bounded}
use Rattle.oz_search.specs.declared.best.Costed.{Costed}
use Rattle.oz_semantics.specs.Names.{is_top}
use Rattle.oz_semantics.specs.Spaces.{goes_on}
use Rattle.oz_semantics.specs.Search.{search_space, chosen_in}
use Rattle.oz_semantics.specs.BestSearch.{chosen_below, best_maker, best_tree}
use Rattle.oz_semantics.specs.declared.configuration.Configuration.{Configuration}
use Rattle.machine_search.specs.Rests.{IsSettled}

-- a node has a step at least, no more than the fuel, and is the same with any fuel that suffices
abbrev pub BestMakerLaw : Type 0
BestMakerLaw = (k : Kernel) (space : List ℕ) (feature : Constant) → IsMaker (best_maker k space feature)

-- the trees with each fuel are parts of one
abbrev pub BestTreeLaw : Type 0
BestTreeLaw = (k : Kernel) (space : List ℕ) (feature : Constant) (c : Configuration) → IsFuelled best (best_tree k space feature c)

-- under no bound a space is committed as in plain search
abbrev pub UnboundedLaw : Type 0
UnboundedLaw = (statements : List Statement) (space : List ℕ) (feature : Constant) (i : ℕ) (c : Configuration) → chosen_below statements space feature (unbounded i) c ≡ chosen_in statements space i c

-- a space but the top that is committed under a bound leaves each thread that can step in the queue, and the top consistent. The top
-- would be told the bound itself, which may clash with what it sees
abbrev pub ChosenBelowLaw : Type 0
ChosenBelowLaw =
    (statements : List Statement) (space : List ℕ) (feature : Constant) (b : Bounded) (c : Configuration) → is_top space ≡ false → IsSettled statements c → IsSettled statements (chosen_below statements space feature b c)

-- so nothing of the space can step in any node below a configuration in which it was just made
abbrev pub BestNodesLaw : Type 0
BestNodesLaw =
    (k : Kernel) (space : List ℕ) (feature : Constant) (c : Configuration) (fuel : ℕ) (p : List Bounded) (node : Reached Configuration Costed) → is_top space ≡ false → IsSettled k.statements c
    → met best (best_maker k space feature) fuel c p ≡ Node node → (goes_on k.statements node.config.layers space ≡ false) × IsSettled k.statements node.config

-- the space in which the search begins is not the top
abbrev pub SearchSpaceLaw : Type 0
SearchSpaceLaw = (c : Configuration) → is_top (search_space c) ≡ false

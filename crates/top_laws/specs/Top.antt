-- The top while a search runs: it rests, and what runs below it leaves it as it is.
use Rattle.std.specs.Prelude.{ℕ, ◌≡◌, true, false, List, [], Contains, Some}
use Rattle.oz_base.specs.declared.names.Ident.{Ident}
use Rattle.oz_language.specs.declared.kernel.Statement.{Statement}
use Rattle.oz_language.specs.declared.kernel.Kernel.{Kernel}
use Rattle.oz_semantics.specs.Names.{is_top}
use Rattle.oz_semantics.specs.Configurations.{layer_at, layer_of, is_open, view, counting_child}
use Rattle.oz_semantics.specs.Sights.{can_step}
use Rattle.oz_semantics.specs.Spaces.{thread_ready, has_due}
use Rattle.oz_semantics.specs.Settling.{Turned}
use Rattle.oz_semantics.specs.Schedule.{turn}
use Rattle.oz_semantics.specs.Runs.{Ended, TopRaised, run}
use Rattle.oz_semantics.specs.Search.{with_root, chosen_in}
use Rattle.oz_semantics.specs.declared.configuration.Thread.{Thread}
use Rattle.oz_semantics.specs.declared.configuration.Layer.{Layer}
use Rattle.oz_semantics.specs.declared.configuration.Configuration.{Configuration}
use Rattle.oz_semantics.specs.declared.outcome.Stepped.TheVariants.{TopEnded}
use Rattle.view_laws.specs.Spaceless.{knows_space}
use Rattle.settle_laws.specs.Turns.{Left}
use Rattle.turn_laws.specs.Kept.{IsKept}

-- no thread of the top can step, and no propagator of it is due. Where it is not open none can, whatever their statements. The top was told
-- of no space, so that none of its threads waits for the state of one
abbrev pub TopRests : List Statement → List Layer → Type 0
TopRests statements layers =
    (knows_space (layer_of layers []) ≡ false)
    × (is_open (layer_of layers []).status ≡ true → (t : Thread) → Contains (layer_of layers []).threads t → can_step (thread_ready statements layers [] t) ≡ false)
    × (has_due (view layers []) (layer_of layers []) ≡ false)

-- the top is as it was
abbrev pub IsSameTop : List Layer → List Layer → Type 0
IsSameTop before after = layer_at after [] ≡ layer_at before []

-- Where a run of the top ended, and the top was told of no space, the top rests
abbrev pub RestsLaw : Type 0
RestsLaw =
    (k : Kernel) (c : Configuration) (fuel : ℕ) (d : Configuration) (left : ℕ) → IsKept k.statements c → run k [] c fuel ≡ Ended d left → knows_space (layer_of d.layers []) ≡ false
    → TopRests k.statements d.layers

-- It still does where the search begins, and but for the child that it counts it is as it was
abbrev pub RootRests : Type 0
RootRests =
    (statements : List Statement) (procedure : Ident) (c : Configuration) → IsKept statements c → TopRests statements c.layers
    → IsKept statements (with_root statements procedure c) × TopRests statements (with_root statements procedure c).layers
    × (layer_at (with_root statements procedure c).layers [] ≡ Some (counting_child (layer_of c.layers [])))

-- and is as it was where the search commits a space that is not the top
abbrev pub ChosenRests : Type 0
ChosenRests =
    (statements : List Statement) (space : List ℕ) (i : ℕ) (c : Configuration) → is_top space ≡ false → IsKept statements c → TopRests statements c.layers
    → IsKept statements (chosen_in statements space i c) × TopRests statements (chosen_in statements space i c).layers
    × IsSameTop c.layers (chosen_in statements space i c).layers

-- and after each turn
abbrev pub TurnRests : Type 0
TurnRests =
    (k : Kernel) (c : Configuration) (n : ℕ) (d : Configuration) → IsKept k.statements c → TopRests k.statements c.layers → Left (turn k c) n d
    → TopRests k.statements d.layers × IsSameTop c.layers d.layers

-- which does not end the top
abbrev pub TurnRaisesNothing : Type 0
TurnRaisesNothing =
    (k : Kernel) (c : Configuration) (x : Ident) (cost : ℕ) (d : Configuration) → IsKept k.statements c → TopRests k.statements c.layers
    → ◌≡◌ {A = Turned} (turn k c) (TopEnded x cost, d) → ⊥

-- and so after each run of a space
abbrev pub RunRests : Type 0
RunRests =
    (k : Kernel) (space : List ℕ) (c : Configuration) (fuel : ℕ) (d : Configuration) (left : ℕ) → IsKept k.statements c → TopRests k.statements c.layers
    → run k space c fuel ≡ Ended d left → IsKept k.statements d × TopRests k.statements d.layers × IsSameTop c.layers d.layers

-- which ends with no exception of the top
abbrev pub RunRaisesNothing : Type 0
RunRaisesNothing =
    (k : Kernel) (space : List ℕ) (c : Configuration) (fuel : ℕ) (d : Configuration) (left : ℕ) (x : Ident) → IsKept k.statements c → TopRests k.statements c.layers
    → run k space c fuel ≡ TopRaised d left x → ⊥

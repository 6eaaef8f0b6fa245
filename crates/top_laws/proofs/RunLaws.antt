-- Turns and runs from a top that rests, and the end of a run of the top.
use Rattle.std.proofs.Common.{◌≡◌, ℕ, zero, suc, ◌-◌, ◌≤◌, nat_le, Bool, true, false, if◌then◌else◌, List, [], ◌∷◌, refl, sym, ap, subst, ◌∙◌, arith, Option, Some, None}
use Rattle.std.proofs.lemmas.Bool.{false≢true}
use Rattle.oz_base.specs.declared.names.Ident.{Ident}
use Rattle.oz_language.specs.declared.kernel.Statement.{Statement}
use Rattle.oz_language.specs.declared.kernel.Kernel.{Kernel}
use Rattle.oz_semantics.specs.Configurations.{layer_of, view, in_layer}
use Rattle.oz_semantics.specs.Spaces.{goes_on}
use Rattle.oz_semantics.specs.Settling.{Turned, settled, top_is_inconsistent, top_failed, requeued, failing, without_inconsistent}
use Rattle.oz_semantics.specs.Triggers.{triggered}
use Rattle.oz_semantics.specs.Names.{is_top}
use Rattle.oz_semantics.specs.Propagation.{Run, Fails, Narrows, run_of, after_run}
use Rattle.oz_semantics.specs.Schedule.{least_due, after_run_of, turn_of_queue, turn_of, turn}
use Rattle.oz_semantics.specs.Runs.{Ran, Ended, TopRaised, Over, after_turn, run_for, run}
use Rattle.oz_semantics.specs.declared.configuration.Propagator.{Propagator}
use Rattle.oz_semantics.specs.declared.configuration.Layer.{Layer}
use Rattle.oz_semantics.specs.declared.configuration.Configuration.{Configuration}
use Rattle.oz_semantics.specs.declared.outcome.Stepped.TheVariants.{Moved, TopEnded, Quiescent}
use Rattle.view_laws.proofs.Members.{not_both}
use Rattle.view_laws.specs.Spaceless.{knows_space}
use Rattle.settle_laws.specs.Turns.{cost_of}
use Rattle.settle_laws.proofs.TurnLaws.{cost_law}
use Rattle.turn_laws.specs.Kept.{IsKept}
use Rattle.turn_laws.proofs.HeadLaws.{kept_layers, kept_head, kept_goes_on}
use Rattle.turn_laws.proofs.KeptLaws.{kept_turn}
use Rattle.turn_laws.proofs.DueLaws.{none_due_below}
use Rattle.top_laws.specs.Top.{TopRests, IsSameTop, RestsLaw, TurnRests, TurnRaisesNothing, RunRests, RunRaisesNothing}
use Rattle.top_laws.proofs.OutsideLaws.{top_unneeded}
use Rattle.top_laws.proofs.StepLaws.{MovedBelow, step_below, propagation_below}
use Rattle.top_laws.proofs.RestLaws.{same_rests, left_itself, still_rests, head_inner, due_inner}

-- A turn

queue_below : (k : Kernel) (c : Configuration) (queue : List Ident) → IsKept k.statements (record c { queue = queue }) → TopRests k.statements c.layers → MovedBelow c.layers (turn_of_queue k c queue)
queue_below k c [] kept rests = tt
queue_below k c (id ∷ queue) kept rests =
    step_below k c.layers kept.sound (top_unneeded k.statements c.layers kept.top kept.content rests.0) id (head_inner k.statements c.layers id (kept_head k.statements id queue c kept) rests) (record c { queue = queue })
    (left_itself c.layers (kept_layers k.statements (record c { queue = id ∷ queue }) kept))

turn_of_below : (k : Kernel) (c : Configuration) (due : Option (Layer × Propagator)) → least_due c.layers ≡ due → IsKept k.statements c → TopRests k.statements c.layers → MovedBelow c.layers (turn_of k c due)
turn_of_below k c None e kept rests = queue_below k c c.queue kept rests
turn_of_below k c (Some due) e kept rests =
    let good = kept_layers k.statements c kept in
    propagation_below k c.layers kept.sound (top_unneeded k.statements c.layers kept.top kept.content rests.0) due.0 due.1 (due_inner k.statements c.layers due good rests e) c (run_of (view c.layers due.0.space) due.1)
    (left_itself c.layers good)

turn_below : (k : Kernel) (c : Configuration) (t : Turned) → IsKept k.statements c → TopRests k.statements c.layers → ◌≡◌ {A = Turned} (turn k c) t → MovedBelow c.layers t
turn_below k c t kept rests e = subst (MovedBelow c.layers) e (turn_of_below k c (least_due c.layers) refl kept rests)

pub turn_rests : TurnRests
turn_rests k c n d kept rests e = let leaves = turn_below k c (Moved n, d) kept rests e in (same_rests k.statements c.layers d.layers leaves rests, leaves.same)

pub turn_raises_nothing : TurnRaisesNothing
turn_raises_nothing k c x cost d kept rests e = turn_below k c (TopEnded x cost, d) kept rests e

-- A run

-- it ended where the top is as it was and rests, or is over
abbrev RanBelow : List Statement → List Layer → Ran → Type 0
RanBelow statements before (Ended d left) = IsKept statements d × TopRests statements d.layers × IsSameTop before d.layers
RanBelow statements before (TopRaised d left x) = ⊥
RanBelow statements before (Over d) = Unit {0}

ran_since : (statements : List Statement) (before after : List Layer) (r : Ran) → IsSameTop before after → RanBelow statements after r → RanBelow statements before r
ran_since statements before after (Ended d left) same h = (h.0, h.1, h.2 ∙ same)
ran_since statements before after (TopRaised d left x) same h = h
ran_since statements before after (Over d) same h = tt

run_below : (k : Kernel) (space : List ℕ) (n : ℕ) (c : Configuration) (fuel : ℕ) → IsKept k.statements c → TopRests k.statements c.layers → RanBelow k.statements c.layers (run_for k space n c fuel)
unfolding run_for
run_below k space zero c fuel kept rests = tt
run_below k space (suc n) c fuel kept rests = by (goes_on k.statements c.layers space) (run_below k space n)
  where
    paid : (b : Bool) (cost : ℕ) (d : Configuration) → RanBelow k.statements c.layers (run_for k space n d (fuel - cost)) → RanBelow k.statements c.layers (if b then run_for k space n d (fuel - cost) else Over c)
    paid true cost d h = h
    paid false cost d h = tt

    after : (t : Turned) → ◌≡◌ {A = Turned} (turn k c) t → ((d : Configuration) (left : ℕ) → IsKept k.statements d → TopRests k.statements d.layers → RanBelow k.statements d.layers (run_for k space n d left))
        → RanBelow k.statements c.layers (after_turn (run_for k space n) fuel c t)
    after (Moved cost, d) e rest =
        let stays = turn_rests k c cost d kept rests e in
        paid (nat_le cost fuel) cost d (ran_since k.statements c.layers d.layers (run_for k space n d (fuel - cost)) stays.1 (rest d (fuel - cost) (kept_turn k c cost d kept e) stays.0))
    after (TopEnded x cost, d) e rest = absurd (turn_raises_nothing k c x cost d kept rests e)
    after (Quiescent, d) e rest = (kept, rests, refl)

    by : (b : Bool) → ((d : Configuration) (left : ℕ) → IsKept k.statements d → TopRests k.statements d.layers → RanBelow k.statements d.layers (run_for k space n d left))
        → RanBelow k.statements c.layers (if b then after_turn (run_for k space n) fuel c (turn k c) else Ended c fuel)
    by true rest = after (turn k c) refl rest
    by false rest = (kept, rests, refl)

ran_below : (k : Kernel) (space : List ℕ) (c : Configuration) (fuel : ℕ) (r : Ran) → IsKept k.statements c → TopRests k.statements c.layers → run k space c fuel ≡ r → RanBelow k.statements c.layers r
ran_below k space c fuel r kept rests e = subst (RanBelow k.statements c.layers) e (run_below k space (suc fuel) c fuel kept rests)

pub run_rests : RunRests
run_rests k space c fuel d left kept rests e = ran_below k space c fuel (Ended d left) kept rests e

pub run_raises_nothing : RunRaisesNothing
run_raises_nothing k space c fuel d left x kept rests e = ran_below k space c fuel (TopRaised d left x) kept rests e

-- The end of a run of the top

-- a step is made where something can step
none_costs : 1 ≤ 0 → ⊥
none_costs h = omega (arith, h)

nothing_there : (k : Kernel) (c d : Configuration) (queue : List Ident) → IsKept k.statements (record c { queue = queue }) → least_due c.layers ≡ None → goes_on k.statements c.layers [] ≡ true
    → ◌≡◌ {A = Turned} (turn_of_queue k c queue) (Quiescent, d) → ⊥
nothing_there k c d [] kept none goes e =
    not_both (goes_on k.statements c.layers []) goes (kept_goes_on k.statements (record c { queue = [] }) [] kept ∙ none_due_below c.layers [] none)
nothing_there k c d (id ∷ queue) kept none goes e = none_costs (subst (λ (t : Turned). 1 ≤ cost_of t.0) e (cost_law k id (record c { queue = queue })))

-- a run moves, or ends the top
moves : Turned → Bool
moves (Moved cost, d) = true
moves (TopEnded x cost, d) = true
moves (Quiescent, d) = false

settled_moves : (statements : List Statement) (cost : ℕ) (c : Configuration) → moves (settled statements None cost c) ≡ true
unfolding moves
settled_moves statements cost c = by (top_is_inconsistent c.layers)
  where
    by : (b : Bool) → moves (if b then top_failed cost c else (Moved cost, requeued statements None c (triggered statements (without_inconsistent c.layers)))) ≡ true
    by true = refl
    by false = refl

run_moves : (statements : List Statement) (l : Layer) (p : Propagator) (c : Configuration) (run : Run) → moves (after_run_of statements l p c run) ≡ true
unfolding moves
run_moves statements l p c (Narrows ts) = settled_moves statements 1 (record c { layers = in_layer l.space (after_run (view c.layers l.space) p ts) c.layers })
run_moves statements l p c Fails = by (is_top l.space) (settled_moves statements 1 (record c { layers = failing c.layers l.space }))
  where
    by : (b : Bool) → moves (settled statements None 1 (record c { layers = failing c.layers l.space })) ≡ true
        → moves (if b then top_failed 1 c else settled statements None 1 (record c { layers = failing c.layers l.space })) ≡ true
    by true h = refl
    by false h = h

stepped_on : (k : Kernel) (c d : Configuration) (due : Option (Layer × Propagator)) → least_due c.layers ≡ due → IsKept k.statements c → goes_on k.statements c.layers [] ≡ true
    → ◌≡◌ {A = Turned} (turn_of k c due) (Quiescent, d) → ⊥
unfolding moves
stepped_on k c d None none kept goes e = nothing_there k c d c.queue kept none goes e
stepped_on k c d (Some due) q kept goes e = false≢true (sym (ap moves e) ∙ run_moves k.statements due.0 due.1 c (run_of (view c.layers due.0.space) due.1))

abbrev RanResting : List Statement → Ran → Type 0
RanResting statements (Ended d left) = knows_space (layer_of d.layers []) ≡ false → TopRests statements d.layers
RanResting statements (TopRaised d left x) = Unit {0}
RanResting statements (Over d) = Unit {0}

run_resting : (k : Kernel) (n : ℕ) (c : Configuration) (fuel : ℕ) → IsKept k.statements c → RanResting k.statements (run_for k [] n c fuel)
unfolding run_for
run_resting k zero c fuel kept = tt
run_resting k (suc n) c fuel kept = by (goes_on k.statements c.layers []) refl (run_resting k n)
  where
    paid : (b : Bool) (r : Ran) → RanResting k.statements r → RanResting k.statements (if b then r else Over c)
    paid true r h = h
    paid false r h = tt

    after : (t : Turned) → ◌≡◌ {A = Turned} (turn k c) t → goes_on k.statements c.layers [] ≡ true
        → ((d : Configuration) (left : ℕ) → IsKept k.statements d → RanResting k.statements (run_for k [] n d left)) → RanResting k.statements (after_turn (run_for k [] n) fuel c t)
    after (Moved cost, d) e goes rest = paid (nat_le cost fuel) (run_for k [] n d (fuel - cost)) (rest d (fuel - cost) (kept_turn k c cost d kept e))
    after (TopEnded x cost, d) e goes rest = paid (nat_le cost fuel) (TopRaised d (fuel - cost) x) tt
    after (Quiescent, d) e goes rest = absurd (stepped_on k c d (least_due c.layers) refl kept goes e)

    by : (b : Bool) → goes_on k.statements c.layers [] ≡ b → ((d : Configuration) (left : ℕ) → IsKept k.statements d → RanResting k.statements (run_for k [] n d left))
        → RanResting k.statements (if b then after_turn (run_for k [] n) fuel c (turn k c) else Ended c fuel)
    by true goes rest = after (turn k c) refl goes rest
    by false still rest = still_rests k.statements c.layers (kept_layers k.statements c kept) still

pub rests_law : RestsLaw
rests_law k c fuel d left kept e plain = subst (RanResting k.statements) e (run_resting k (suc fuel) c fuel kept) plain

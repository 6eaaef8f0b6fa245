-- Many turns of a space alone.
use Rattle.std.proofs.Common.{◌≡◌, inl, inr, ℕ, zero, suc, ◌-◌, nat_le, Bool, true, false, not, ◌&&◌, ◌||◌, if◌then◌else◌, List, [], ◌∷◌, refl, sym, ap, subst, ◌∙◌, Option, Some, None}
use Rattle.std.proofs.lemmas.Bool.{false≢true}
use Rattle.oz_base.specs.declared.names.Ident.{Ident}
use Rattle.oz_language.specs.declared.kernel.Kernel.{Kernel}
use Rattle.oz_semantics.specs.Names.{is_below, is_properly_below, is_top}
use Rattle.oz_semantics.specs.Spaces.{goes_on}
use Rattle.oz_semantics.specs.Settling.{Turned}
use Rattle.oz_semantics.specs.Schedule.{least_due, turn_of_queue, turn_of, turn}
use Rattle.oz_semantics.specs.declared.configuration.Propagator.{Propagator}
use Rattle.oz_semantics.specs.declared.configuration.Layer.{Layer}
use Rattle.oz_semantics.specs.Runs.{Ran, Ended, TopRaised, Over, after_turn, run_for}
use Rattle.oz_semantics.specs.declared.configuration.Configuration.{Configuration}
use Rattle.oz_semantics.specs.declared.outcome.Stepped.TheVariants.{Moved, Quiescent, TopEnded}
use Rattle.oz_laws.proofs.SameLaws.{and-left, and-right}
use Rattle.view_laws.proofs.Members.{decide, not_both}
use Rattle.view_laws.proofs.NameLaws.{below_itself, properly_by}
use Rattle.view_laws.proofs.QueueLaws.{not_false}
use Rattle.edit_laws.proofs.NameLaws.{top_is}
use Rattle.turn_laws.specs.Kept.{IsKept}
use Rattle.turn_laws.proofs.KeptLaws.{kept_turn}
use Rattle.alone_laws.specs.Alone.{alone, TurnsAlone}
use Rattle.alone_laws.specs.AloneRuns.{turned, turner_of, turner, is_inner, spares, is_undisturbed, inner_turns, RunsAlone, alone_ran, once_moved, is_within, RunsSame}
use Rattle.alone_laws.proofs.RestLaws.{top_not_below}
use Rattle.alone_laws.proofs.StepLaws.{Rested}
use Rattle.alone_laws.proofs.AloneStates.{goes_on_same}
use Rattle.alone_laws.proofs.AloneTurns.{top_alone, turn_rests, steps_alone, run_turn_rests, propagates_alone}
use Rattle.alone_laws.proofs.AloneRests.{rests_alone, rests_at_runs, not_top}

-- where nothing can step, nothing changes
still : (k : Kernel) (c : Configuration) → least_due c.layers ≡ None → c.queue ≡ [] → (turn k c).1 ≡ c
still k c none q = ap (λ (w : Turned). w.1) (ap (turn_of k c) none ∙ ap (turn_of_queue k c) q)

-- The top alone is the whole

top_turns : (k : Kernel) (n : ℕ) (c : Configuration) → turned k n c ≡ turned k (inner_turns k [] n c) c
unfolding turned inner_turns
top_turns k zero c = refl
top_turns k (suc n) c = top_turns k n (turn k c).1 ∙ by (least_due c.layers) c.queue refl refl
  where
    next : Configuration
    next = (turn k c).1

    by : (o : Option (Layer × Propagator)) (ids : List Ident) → least_due c.layers ≡ o → c.queue ≡ ids
        → turned k (inner_turns k [] n next) next ≡ turned k (if is_inner [] (turner_of o ids) then suc (inner_turns k [] n next) else inner_turns k [] n next) c
    by None [] none q = ap (turned k (inner_turns k [] n next)) (still k c none q)
    by None (id ∷ ids) none q = refl
    by (Some due) ids e q = refl

-- A turn of a space that is not the top leaves what is so from turn to turn

rested_kept : (k : Kernel) (space : List ℕ) (mover : Option Ident) (c g : Configuration) → IsKept k.statements c → Rested k.statements space mover c.layers g (turn k c) → IsKept k.statements (turn k c).1
rested_kept k space mover c g kept = by (turn k c) refl
  where
    by : (t : Turned) → ◌≡◌ {A = Turned} (turn k c) t → Rested k.statements space mover c.layers g t → IsKept k.statements t.1
    by (Moved cost, d) e h = kept_turn k c cost d kept e
    by (TopEnded x cost, d) e h = elim h [ ]
    by (Quiescent, d) e h = elim h [ ]

next_kept : (k : Kernel) (c : Configuration) (id : Ident) (rest : List Ident) → IsKept k.statements c → least_due c.layers ≡ None → c.queue ≡ id ∷ rest → is_top id.space ≡ false
    → IsKept k.statements (turn k c).1
next_kept k c id rest kept none q child = rested_kept k id.space (Some id) c (record c { queue = rest }) kept (turn_rests k c id rest kept none q child)

run_kept : (k : Kernel) (c : Configuration) (due : Layer × Propagator) → IsKept k.statements c → least_due c.layers ≡ Some due → is_top due.0.space ≡ false → IsKept k.statements (turn k c).1
run_kept k c due kept e child = rested_kept k due.0.space None c c kept (run_turn_rests k c due kept e child)

-- Turns

abbrev Alike : Kernel → List ℕ → ℕ → Configuration → Type 0
Alike k space n c = alone space (turned k n c) ≡ turned k (inner_turns k space n c) (alone space c)

module _ (k : Kernel) (space : List ℕ) (child : is_top space ≡ false) where
  -- one that is neither of the space or below it nor of a proper ancestor
  spared : (t : List ℕ) → not (is_properly_below t space) ≡ true → is_below space t ≡ false → is_below t space ≡ false
  spared t e f = elim (decide (is_below t space)) [
    | inl k ↦ absurd (not_both _ (properly_by t space k (λ (q : t ≡ space). not_both _ (subst (λ s. is_below space s ≡ true) (sym q) (below_itself space)) f)) (not_false _ e))
    | inr k ↦ k
  ]

  module _ (n : ℕ) (c : Configuration) (kept : IsKept k.statements c) (rest : IsKept k.statements (turn k c).1 → Alike k space n (turn k c).1) where
    abbrev next : Configuration
    next = (turn k c).1

    abbrev turns : Bool → ℕ
    turns b = if b then suc (inner_turns k space n next) else inner_turns k space n next

    by_turner : (o : Option (Layer × Propagator)) (ids : List Ident) → least_due c.layers ≡ o → c.queue ≡ ids → spares space (turner_of o ids) ≡ true
        → alone space (turned k n next) ≡ turned k (turns (is_inner space (turner_of o ids))) (alone space c)
    unfolding turned
    by_turner None [] none q e =
        let same : next ≡ c = still k c none q in
        rest (subst (IsKept k.statements) (sym same) kept) ∙ ap (λ d. turned k (inner_turns k space n next) (alone space d)) same
    by_turner None (id ∷ ids) none q e = by (is_below space id.space) refl
      where
        by : (b : Bool) → is_below space id.space ≡ b → alone space (turned k n next) ≡ turned k (turns b) (alone space c)
        by true own =
            rest (next_kept k c id ids kept none q (top_not_below space id.space child own))
            ∙ ap (turned k (inner_turns k space n next)) (sym (ap (λ (w : Turned). w.1) (steps_alone k c space id ids kept none q own).turns))
        by false apart =
            let aside : is_below id.space space ≡ false = spared id.space e apart in
            rest (next_kept k c id ids kept none q (not_top space id.space aside)) ∙ ap (turned k (inner_turns k space n next)) (rests_alone k c space id ids kept none q apart aside)
    by_turner (Some due) ids some q e = by (is_below space due.0.space) refl
      where
        by : (b : Bool) → is_below space due.0.space ≡ b → alone space (turned k n next) ≡ turned k (turns b) (alone space c)
        by true own =
            rest (run_kept k c due kept some (top_not_below space due.0.space child own))
            ∙ ap (turned k (inner_turns k space n next)) (sym (ap (λ (w : Turned). w.1) (propagates_alone k c space due kept some own).turns))
        by false apart =
            let aside : is_below due.0.space space ≡ false = spared due.0.space e apart in
            rest (run_kept k c due kept some (not_top space due.0.space aside)) ∙ ap (turned k (inner_turns k space n next)) (rests_at_runs k c space due kept some apart aside)

  many_alone : (n : ℕ) (c : Configuration) → IsKept k.statements c → is_undisturbed k space n c ≡ true → Alike k space n c
  unfolding turned inner_turns is_undisturbed
  many_alone zero c kept e = refl
  many_alone (suc n) c kept e = by_turner n c kept (λ h. many_alone n (turn k c).1 h (and-right (spares space (turner c)) _ e)) (least_due c.layers) c.queue refl refl (and-left _ _ e)

pub runs_alone : RunsAlone
runs_alone k space n c kept e = elim (decide (is_top space)) [
  | inl top ↦ subst (λ s. Alike k s n c) (sym (top_is space top)) (top_alone (turned k n c) ∙ top_turns k n c ∙ ap (turned k (inner_turns k [] n c)) (sym (top_alone c)))
  | inr child ↦ many_alone k space child n c kept e
]

-- Runs, with their costs

abbrev RunSame : Kernel → List ℕ → ℕ → Type 0
RunSame k space n =
    (c : Configuration) (fuel : ℕ) → IsKept k.statements c → is_within k space n c ≡ true → run_for k space n (alone space c) fuel ≡ alone_ran space (run_for k space n c fuel)

-- after a turn
after_alone : (k : Kernel) (space : List ℕ) (n : ℕ) → RunSame k space n → (c : Configuration) (fuel : ℕ) → IsKept k.statements c → (t : Turned) → ◌≡◌ {A = Turned} (turn k c) t → once_moved (is_within k space n) t ≡ true
    → after_turn (run_for k space n) fuel (alone space c) (t.0, alone space t.1) ≡ alone_ran space (after_turn (run_for k space n) fuel c t)
after_alone k space n rest c fuel kept (Moved cost, d) e within = by (nat_le cost fuel)
  where
    by : (b : Bool) → (if b then run_for k space n (alone space d) (fuel - cost) else Over (alone space c)) ≡ alone_ran space (if b then run_for k space n d (fuel - cost) else Over c)
    by true = rest d (fuel - cost) (kept_turn k c cost d kept e) within
    by false = refl
after_alone k space n rest c fuel kept (TopEnded exception cost, d) e within = by (nat_le cost fuel)
  where
    by : (b : Bool) → (if b then TopRaised (alone space d) (fuel - cost) exception else Over (alone space c)) ≡ alone_ran space (if b then TopRaised d (fuel - cost) exception else Over c)
    by true = refl
    by false = refl
after_alone k space n rest c fuel kept (Quiescent, d) e within = refl

-- a turn that is of the space or below it
inner_same : (k : Kernel) (space : List ℕ) (c : Configuration) → IsKept k.statements c → (o : Option (Layer × Propagator)) (ids : List Ident) → least_due c.layers ≡ o → c.queue ≡ ids
    → is_inner space (turner_of o ids) ≡ true → TurnsAlone k c space
inner_same k space c kept None [] none q e = absurd (false≢true e)
inner_same k space c kept None (id ∷ ids) none q e = (steps_alone k c space id ids kept none q e).turns
inner_same k space c kept (Some due) ids some q e = (propagates_alone k c space due kept some e).turns

one_more : (k : Kernel) (space : List ℕ) (n : ℕ) → RunSame k space n → RunSame k space (suc n)
unfolding run_for is_within
one_more k space n rest c fuel kept within = ap run_if (goes_on_same k.statements space c.layers) ∙ by (goes_on k.statements c.layers space) within
  where
    run_if : Bool → Ran
    run_if b = if b then after_turn (run_for k space n) fuel (alone space c) (turn k (alone space c)) else Ended (alone space c) fuel

    by : (b : Bool) → (not b || (is_inner space (turner c) && once_moved (is_within k space n) (turn k c))) ≡ true
        → run_if b ≡ alone_ran space (if b then after_turn (run_for k space n) fuel c (turn k c) else Ended c fuel)
    by true w =
        ap (after_turn (run_for k space n) fuel (alone space c)) (inner_same k space c kept (least_due c.layers) c.queue refl refl (and-left _ _ w))
        ∙ after_alone k space n rest c fuel kept (turn k c) refl (and-right (is_inner space (turner c)) _ w)
    by false w = refl

no_turn : (k : Kernel) (space : List ℕ) → RunSame k space zero
unfolding run_for
no_turn k space c fuel kept within = refl

pub runs_same : RunsSame
runs_same k space zero c fuel kept within = no_turn k space c fuel kept within
runs_same k space (suc n) c fuel kept within = one_more k space n (λ d left h w. runs_same k space n d left h w) c fuel kept within

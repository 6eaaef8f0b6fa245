-- Runs: each turn that makes a step costs 1 at least, and by it a run goes on, ends or is over.
use Rattle.std.proofs.Common.{◌≡◌, ◌∙◌, inl, inr, ℕ, zero, suc, ◌-◌, ◌<◌, ◌≤◌, nat_le, Bool, true, false, if◌then◌else◌, List, Option, Some, None, refl, sym, subst, ap, arith}
use Rattle.std.specs.Prelude.{Result, Ok, Err, IfOk, OnErr, IfSome}
use Rattle.std.specs.declared.alloc.AllocError.{AllocError}
use Rattle.std.proofs.lemmas.Bool.{leb-true, le-leb, lt-leb}
use Rattle.oz_base.specs.declared.names.Ident.{Ident}
use Rattle.oz_language.specs.declared.kernel.Kernel.{Kernel}
use Rattle.oz_semantics.specs.Spaces.{goes_on}
use Rattle.oz_semantics.specs.Settling.{Turned}
use Rattle.oz_semantics.specs.Schedule.{turn}
use Rattle.oz_semantics.specs.Runs as runs
use Rattle.oz_semantics.specs.Runs.{Ended, TopRaised, Over, left_by, paying, after_turn, run_for, run}
use Rattle.oz_semantics.specs.declared.configuration.Configuration.{Configuration}
use Rattle.oz_semantics.specs.declared.outcome.Stepped.{Stepped}
use Rattle.oz_semantics.specs.declared.outcome.Stepped.TheVariants.{Moved, Quiescent, TopEnded}
use Rattle.settle_laws.proofs.TurnLaws.{turn_cost}
use Rattle.oz_machine.proofs.TurnLaws.{quiet_turn}
use Rattle.oz_machine.specs.Turns.{cost_of, CostsWithin, IsTurn}
use Rattle.oz_machine.specs.Answers.{IsRun, IsAfterTurns, IsLeftOff, after_turns}
use Rattle.oz_machine.specs.declared.runs.Ran.{Ran}

-- What a turn within a fuel was

pub was_made : (t : Turned) (fuel : ℕ) (c d : Configuration) (o : Option Stepped) (s : Stepped) → IsTurn t fuel c d o → o ≡ Some s → t ≡ (s, d)
was_made t fuel c d o s h e = subst (IsTurn t fuel c d) e h

pub not_made : (t : Turned) (fuel : ℕ) (c d : Configuration) (o : Option Stepped) → IsTurn t fuel c d o → ((s : Stepped) → o ≡ Some s → ⊥) → (fuel < cost_of t.0) × (d ≡ c)
not_made t fuel c d None h none = h
not_made t fuel c d (Some s) h none = absurd (none s refl)

pub made_within : (fuel : ℕ) (o : Option Stepped) (s : Stepped) → IfSome o (CostsWithin fuel) → o ≡ Some s → CostsWithin fuel s
made_within fuel o s h e = subst (λ (p : Option Stepped). IfSome p (CostsWithin fuel)) e h

pub moved_within : (fuel cost : ℕ) (s : Stepped) → CostsWithin fuel s → s ≡ Moved cost → (1 ≤ cost) × (cost ≤ fuel)
moved_within fuel cost s h e = subst (CostsWithin fuel) e h

pub ended_within : (fuel cost : ℕ) (x : Ident) (s : Stepped) → CostsWithin fuel s → s ≡ TopEnded x cost → (1 ≤ cost) × (cost ≤ fuel)
ended_within fuel cost x s h e = subst (CostsWithin fuel) e h

-- by an answer of a run that is the same
pub ok_run : (r : Result Ran AllocError) (k : Kernel) (c : Configuration) (space : List ℕ) (fuel : ℕ) (a b : runs.Ran) → a ≡ b
    → IfOk r (IsRun (record { kernel = k; config = c }) space fuel b) → IfOk r (IsRun (record { kernel = k; config = c }) space fuel a)
ok_run r k c space fuel a b e h = subst (λ (x : runs.Ran). IfOk r (IsRun (record { kernel = k; config = c }) space fuel x)) (sym e) h

-- More turns than there is fuel do not matter

-- a turn that makes a step costs 1 at least
abbrev pub IsDear : Turned → Type 0
IsDear (Moved cost, c) = 1 ≤ cost
IsDear (TopEnded x cost, c) = 1 ≤ cost
IsDear (Quiescent, c) = Unit {0}

dear_of : (t : Turned) → 1 ≤ cost_of t.0 → IsDear t
dear_of (Moved cost, c) h = h
dear_of (TopEnded x cost, c) h = h
dear_of (Quiescent, c) h = tt

quiet_dear : (t : Turned) → t.0 ≡ Quiescent → IsDear t
quiet_dear (Moved cost, c) e = cc
quiet_dear (TopEnded x cost, c) e = cc
quiet_dear (Quiescent, c) e = tt

turn_dear : (k : Kernel) (c : Configuration) → IsDear (turn k c)
turn_dear k c = elim (turn_cost k c) [ inl e ↦ quiet_dear (turn k c) e | inr h ↦ dear_of (turn k c) h ]

paying_same : (cost fuel : ℕ) (more less : ℕ → runs.Ran) (c : Configuration) → 1 ≤ cost → ((left : ℕ) → left < fuel → more left ≡ less left) → paying cost fuel more c ≡ paying cost fuel less c
paying_same cost fuel more less c dear same = by (nat_le cost fuel) refl
  where
    by : (b : Bool) → nat_le cost fuel ≡ b → (if b then more (fuel - cost) else Over c) ≡ (if b then less (fuel - cost) else Over c)
    by true e = let h : cost ≤ fuel = leb-true cost fuel e in same (fuel - cost) (omega (arith, h, dear))
    by false e = refl

turn_same : (more less : Configuration → ℕ → runs.Ran) (fuel : ℕ) (c : Configuration) (t : Turned) → IsDear t
    → ((d : Configuration) (left : ℕ) → left < fuel → more d left ≡ less d left) → after_turn more fuel c t ≡ after_turn less fuel c t
turn_same more less fuel c (Moved cost, d) dear same = paying_same cost fuel (more d) (less d) c dear (same d)
turn_same more less fuel c (TopEnded x cost, d) dear same = refl
turn_same more less fuel c (Quiescent, d) dear same = refl

-- How a run goes on

pays : (cost fuel : ℕ) (next : ℕ → runs.Ran) (c : Configuration) → cost ≤ fuel → paying cost fuel next c ≡ next (fuel - cost)
pays cost fuel next c h = rw (le-leb cost fuel h) refl

pays_not : (cost fuel : ℕ) (next : ℕ → runs.Ran) (c : Configuration) → fuel < cost → paying cost fuel next c ≡ Over c
pays_not cost fuel next c h = rw (lt-leb cost fuel h) refl

over_by : (more : Configuration → ℕ → runs.Ran) (fuel : ℕ) (c : Configuration) (t : Turned) → fuel < cost_of t.0 → after_turn more fuel c t ≡ Over c
over_by more fuel c (Moved cost, d) h = pays_not cost fuel (more d) c h
over_by more fuel c (TopEnded x cost, d) h = pays_not cost fuel (λ left. TopRaised d left x) c h
over_by more fuel c (Quiescent, d) h = absurd (omega (arith, h))

pub same_quiet : (k : Kernel) (c d : Configuration) → ◌≡◌ {A = Turned} (turn k c) (Quiescent, d) → c ≡ d
same_quiet k c d e = sym (quiet_turn k c d e)

module _ (k : Kernel) (space : List ℕ) where
  going : (n fuel : ℕ) (c : Configuration) → goes_on k.statements c.layers space ≡ true → run_for k space (suc n) c fuel ≡ after_turn (run_for k space n) fuel c (turn k c)
  unfolding run_for
  going n fuel c e = rw e refl

  enough : (n m : ℕ) (c : Configuration) (fuel : ℕ) → fuel < n → fuel < m → run_for k space n c fuel ≡ run_for k space m c fuel
  unfolding run_for
  enough zero m c fuel h i = absurd (omega (arith, h))
  enough (suc n) zero c fuel h i = absurd (omega (arith, i))
  enough (suc n) (suc m) c fuel h i =
      ap (λ (r : runs.Ran). if goes_on k.statements c.layers space then r else Ended c fuel)
      (turn_same (run_for k space n) (run_for k space m) fuel c (turn k c) (turn_dear k c)
      (λ d left less. enough n m d left (omega (arith, less, h)) (omega (arith, less, i))))

  -- nothing can step
  pub run_still : (left : ℕ) (c : Configuration) → goes_on k.statements c.layers space ≡ false → run k space c left ≡ Ended c left
  unfolding run_for
  run_still left c e = rw e refl

  -- the next turn costs more than what is left
  pub run_out : (left : ℕ) (c d : Configuration) → goes_on k.statements c.layers space ≡ true → left < cost_of (turn k c).0 → d ≡ c → run k space c left ≡ Over d
  run_out left c d e h same = going left left c e ∙ over_by (run_for k space left) left c (turn k c) h ∙ ap Over (sym same)

  -- no thread was queued
  pub run_quiet : (left : ℕ) (c d : Configuration) → goes_on k.statements c.layers space ≡ true → turn k c ≡ (Quiescent, d) → run k space c left ≡ Ended d left
  run_quiet left c d e t =
      going left left c e ∙ ap (after_turn (run_for k space left) left c) t ∙ ap (λ (b : Configuration). Ended b left) (same_quiet k c d t)

  -- the turn ended the top
  pub run_stopped : (left : ℕ) (c d : Configuration) (x : Ident) (cost : ℕ) → goes_on k.statements c.layers space ≡ true → turn k c ≡ (TopEnded x cost, d) → cost ≤ left
      → run k space c left ≡ TopRaised d (left - cost) x
  run_stopped left c d x cost e t h = going left left c e ∙ ap (after_turn (run_for k space left) left c) t ∙ pays cost left (λ rest. TopRaised d rest x) c h

  -- the turn moved
  pub run_went : (left : ℕ) (c d : Configuration) (cost : ℕ) → goes_on k.statements c.layers space ≡ true → turn k c ≡ (Moved cost, d) → 1 ≤ cost → cost ≤ left
      → run k space d (left - cost) ≡ run k space c left
  run_went left c d cost e t some within =
      sym (going left left c e ∙ ap (after_turn (run_for k space left) left c) t ∙ pays cost left (run_for k space left d) c within
      ∙ enough left (suc (left - cost)) d (left - cost) (omega (arith, within, some)) (omega arith))

-- Where a run is refused

pub on_err : {T E P : Type 0} (r : Result T E) → P → OnErr r P
on_err (Ok a) h = tt
on_err (Err e) h = h

pub none_after : (k : Kernel) (c d : Configuration) → d ≡ c → IsAfterTurns k c d
unfolding after_turns
none_after k c d e = (0, e)

pub same_after : (k : Kernel) (c d e : Configuration) → e ≡ d → IsAfterTurns k c d → IsAfterTurns k c e
same_after k c d e f h = (h.0, f ∙ h.1)

-- one turn more
turns_more : (k : Kernel) (n : ℕ) (c : Configuration) → after_turns k (suc n) c ≡ left_by (turn k (after_turns k n c))
unfolding after_turns
turns_more k zero c = refl
turns_more k (suc n) c = turns_more k n (left_by (turn k c))

pub turn_after : (k : Kernel) (c d e : Configuration) (s : Stepped) → turn k d ≡ (s, e) → IsAfterTurns k c d → IsAfterTurns k c e
turn_after k c d e s t h =
    (suc h.0, sym (ap (λ (u : Turned). u.1) t) ∙ ap (λ (b : Configuration). left_by (turn k b)) h.1 ∙ sym (turns_more k h.0 c))

-- so many turns were made, and what is left of the fuel leads where the whole of it did
pub left_off : (k : Kernel) (space : List ℕ) (fuel left : ℕ) (old new : Configuration) → IsAfterTurns k old new → left ≤ fuel → run k space new left ≡ run k space old fuel → IsLeftOff k space fuel old new
left_off k space fuel left old new after within same = (after, (left, within, same))

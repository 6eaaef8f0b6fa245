-- A run that ends takes the same steps with any fuel that suffices for them, and does not end with less.
use Rattle.std.proofs.Common.{◌≡◌, ℕ, zero, suc, ◌+◌, ◌-◌, ◌<◌, ◌≤◌, nat_le, Bool, true, false, if◌then◌else◌, List, refl, ap, arith, ◌∙◌}
use Rattle.std.proofs.lemmas.Bool.Decides.{nat_tests}
use Rattle.oz_semantics.specs.Spaces.{goes_on}
use Rattle.oz_semantics.specs.Settling.{Turned}
use Rattle.oz_semantics.specs.Schedule.{turn}
use Rattle.oz_semantics.specs.Runs.{Ran, Ended, TopRaised, Over, paying, after_turn, run_for}
use Rattle.oz_language.specs.declared.kernel.Kernel.{Kernel}
use Rattle.oz_semantics.specs.declared.configuration.Configuration.{Configuration}
use Rattle.oz_semantics.specs.declared.outcome.Stepped.TheVariants.{Moved, Quiescent, TopEnded}
use Rattle.machine_search.specs.Laws.{BoundLaw}
use Rattle.machine_search.proofs.TurnLaws.{IsPaid, turn_paid}

abbrev pub IsOver : Ran → Type 0
IsOver r = (c : Configuration) × (r ≡ Over c)

over_too : (r s : Ran) → r ≡ s → IsOver s → IsOver r
over_too r s e over = (over.0, e ∙ over.1)

config_of : Ran → Configuration → Configuration
config_of (Ended c left) other = c
config_of (TopRaised c left exception) other = c
config_of (Over c) other = c

left_in : Ran → ℕ
left_in (Ended c left) = left
left_in (TopRaised c left exception) = left
left_in (Over c) = 0

pub same_config : (c d : Configuration) (f g : ℕ) → ◌≡◌ {A = Ran} (Ended c f) (Ended d g) → c ≡ d
unfolding config_of
same_config c d f g e = ap (λ r. config_of r c) e

same_left : (c d : Configuration) (f g : ℕ) → ◌≡◌ {A = Ran} (Ended c f) (Ended d g) → f ≡ g
unfolding left_in
same_left c d f g e = ap left_in e

module _ (k : Kernel) (space : List ℕ) where
  -- the run of c with the fuel f ends at d with this fuel left; so it does with any fuel by the steps that it takes, and with
  -- less it is over
  pub record IsExact (c : Configuration) (f : ℕ) (d : Configuration) (left : ℕ) : Type 0 where
    pub fits : left ≤ f
    pub enough : (g m : ℕ) → g < m → f ≤ g + left → run_for k space m c g ≡ Ended d (g + left - f)
    pub short : (g m : ℕ) → g < m → g + left < f → IsOver (run_for k space m c g)

  stopped : (c d : Configuration) (f left : ℕ) → ((g m : ℕ) → run_for k space (suc m) c g ≡ Ended c g) → ◌≡◌ {A = Ran} (Ended c f) (Ended d left) → IsExact c f d left
  stopped c d f left always e =
      let same = same_config c d f left e in
      let all = same_left c d f left e in
      let enough : (g m : ℕ) → g < m → f ≤ g + left → run_for k space m c g ≡ Ended d (g + left - f) = λ g. elim [
        | zero ↦ λ l. absurd (omega (arith, l))
        | suc m ↦ λ l h.
            let rest : g ≡ g + left - f = omega (arith, all) in
            always g m ∙ (ap (λ x. Ended x g) same ∙ ap (Ended d) rest)
      ] in
      record { fits = omega (arith, all); enough = enough; short = λ g m l h. absurd (omega (arith, all, h)) }

  -- a run whose first turn moves
  module _ (n : ℕ) (c x d : Configuration) (cost f left : ℕ) (paid : 0 < cost) (always : (g m : ℕ) → run_for k space (suc m) c g ≡ paying cost g (run_for k space m x) c) where
    moved : cost ≤ f → IsExact x (f - cost) d left → IsExact c f d left
    moved fits h =
        let low = h.fits in
        let enough : (g m : ℕ) → g < m → f ≤ g + left → run_for k space m c g ≡ Ended d (g + left - f) = λ g. elim [
          | zero ↦ λ l. absurd (omega (arith, l))
          | suc m ↦ λ l e.
              let yes : nat_le cost g ≡ true = grind (arith, nat_tests, low, fits, e) in
              let within : cost ≤ g = omega (arith, low, fits, e) in
              let next = h.enough (g - cost) m (omega (arith, l, paid, within)) (omega (arith, e, fits, within)) in
              let rest : g - cost + left - (f - cost) ≡ g + left - f = omega (arith, within, fits, e) in
              always g m ∙ (ap (λ b. if b then run_for k space m x (g - cost) else Over c) yes ∙ (next ∙ ap (Ended d) rest))
        ] in
        let short : (g m : ℕ) → g < m → g + left < f → IsOver (run_for k space m c g) = λ g. elim [
          | zero ↦ λ l. absurd (omega (arith, l))
          | suc m ↦ λ l e.
              let step : (b : Bool) → nat_le cost g ≡ b → IsOver (run_for k space (suc m) c g)
              = elim [
                | true ↦ λ i.
                    let within : cost ≤ g = grind (arith, nat_tests, i) in
                    let next = h.short (g - cost) m (omega (arith, l, paid, within)) (omega (arith, e, fits, within)) in
                    over_too _ _ (always g m ∙ ap (λ b. if b then run_for k space m x (g - cost) else Over c) i) next
                | false ↦ λ i. (c, always g m ∙ ap (λ b. if b then run_for k space m x (g - cost) else Over c) i)
              ] in
              step (nat_le cost g) refl
        ] in
        record { fits = omega (arith, low); enough = enough; short = short }

  pub no_raise : (cost f : ℕ) (next : ℕ → Ran) (c d : Configuration) (left : ℕ) → ((g : ℕ) → next g ≡ Ended d left → ⊥) → paying cost f next c ≡ Ended d left → ⊥
  no_raise cost f next c d left none e = by (nat_le cost f) e
    where
      by : (b : Bool) → (if b then next (f - cost) else Over c) ≡ Ended d left → ⊥
      by true g = none (f - cost) g
      by false g = cc

  by_turn : (n : ℕ) (c d : Configuration) (f left : ℕ) → f < suc n → ((x : Configuration) (g : ℕ) → g < n → run_for k space n x g ≡ Ended d left → IsExact x g d left) → (t : Turned) → IsPaid t
      → ((g m : ℕ) → run_for k space (suc m) c g ≡ after_turn (run_for k space m) g c t) → after_turn (run_for k space n) f c t ≡ Ended d left → IsExact c f d left
  by_turn n c d f left low h (Moved cost, x) paid always e =
      let step : (b : Bool) → nat_le cost f ≡ b → (if b then run_for k space n x (f - cost) else Over c) ≡ Ended d left → IsExact c f d left
      = elim [
        | true ↦ λ i g.
            let fits : cost ≤ f = grind (arith, nat_tests, i) in
            moved n c x d cost f left paid always fits (h x (f - cost) (omega (arith, low, paid, fits)) g)
        | false ↦ λ i g. absurd (cc (g))
      ] in
      step (nat_le cost f) refl e
  by_turn n c d f left low h (TopEnded exception cost, x) paid always e = absurd (no_raise cost f (λ g. TopRaised x g exception) c d left (λ g i. cc) e)
  by_turn n c d f left low h (Quiescent, x) paid always e = stopped c d f left always e

  pub exact : (n : ℕ) (c : Configuration) (f : ℕ) (d : Configuration) (left : ℕ) → f < n → run_for k space n c f ≡ Ended d left → IsExact c f d left
  unfolding run_for
  exact zero c f d left low e = absurd (omega (arith, low))
  exact (suc n) c f d left low e =
      let step : (b : Bool) → goes_on k.statements c.layers space ≡ b → (if b then after_turn (run_for k space n) f c (turn k c) else Ended c f) ≡ Ended d left → IsExact c f d left
      = elim [
        | true ↦ λ i g.
            by_turn n c d f left low (λ x h l r. exact n x h d left l r) (turn k c) (turn_paid k c)
            (λ h m. ap (λ b. if b then after_turn (run_for k space m) h c (turn k c) else Ended c h) i) g
        | false ↦ λ i g. stopped c d f left (λ h m. ap (λ b. if b then after_turn (run_for k space m) h c (turn k c) else Ended c h) i) g
      ] in
      step (goes_on k.statements c.layers space) refl e

-- ---- the bound of a run
paying_same : (cost fuel : ℕ) (v w : ℕ → Ran) (c : Configuration) → 0 < cost → ((f : ℕ) → f < fuel → v f ≡ w f) → paying cost fuel v c ≡ paying cost fuel w c
paying_same cost fuel v w c paid h = by (nat_le cost fuel) refl
  where
    by : (b : Bool) → nat_le cost fuel ≡ b → (if b then v (fuel - cost) else Over c) ≡ (if b then w (fuel - cost) else Over c)
    by true e = h (fuel - cost) (grind (arith, nat_tests, paid, e))
    by false e = refl

turn_same : (v w : Configuration → ℕ → Ran) (fuel : ℕ) (c : Configuration) → ((d : Configuration) (f : ℕ) → f < fuel → v d f ≡ w d f) → (t : Turned) → IsPaid t → after_turn v fuel c t ≡ after_turn w fuel c t
turn_same v w fuel c h (Moved cost, d) paid = paying_same cost fuel (v d) (w d) c paid (h d)
turn_same v w fuel c h (TopEnded exception cost, d) paid = refl
turn_same v w fuel c h (Quiescent, d) paid = refl

pub bound_law : BoundLaw
unfolding run_for
bound_law k space zero m c fuel p q = absurd (omega (arith, p))
bound_law k space (suc n) zero c fuel p q = absurd (omega (arith, q))
bound_law k space (suc n) (suc m) c fuel p q =
    ap (λ r. if goes_on k.statements c.layers space then r else Ended c fuel)
    (turn_same (run_for k space n) (run_for k space m) fuel c
    (λ d f l. bound_law k space n m d f (omega (arith, p, l)) (omega (arith, q, l)))
    (turn k c) (turn_paid k c))

-- Runs in any order keep the solutions, and leave fewer values each time that they change something.
use Rattle.std.proofs.Common.{◌≡◌, ◌≢◌, ℕ, zero, suc, ◌<◌, ◌≤◌, ℤ, List, [], ◌∷◌, Contains, Some, IsSomeAnd, refl, sym, ◌∙◌, subst, arith}
use Rattle.std.specs.FinSet as set
use Rattle.oz_domains.specs.Positions.{IsIn, AreParts, AreDomains}
use Rattle.propagators.proofs.StepLaws.{parts_refl, parts_trans}
use Rattle.fd_stores.specs.Stores.{Store, Constraint, IsOver, Solves, run, Runs, none, more, Fails, nothing, another, total}
use Rattle.fd_stores.specs.Laws.{AreOver, RunsLaw, FailsLaw, ChangesLaw}
use Rattle.fd_stores.proofs.Sets.{part_len}
use Rattle.fd_stores.proofs.Lists.{at_some}
use Rattle.fd_stores.proofs.StoreLaws.{run_keeps, run_shrinks}

-- ---- solutions

pub in_parts : (s m : Store) (t : List ℤ) → AreParts m s → IsIn m t → IsIn s t
in_parts s m t p h = record {
  long = h.long ∙ p.long;
  each = λ i l. p.each i _ (h.each i (let e = p.long in omega (arith, l)));
}

module _ (cs : List Constraint) where
  pub solves_parts : (s m : Store) (t : List ℤ) → AreParts m s → Solves cs m t → Solves cs s t
  solves_parts s m t p h = record { inside = in_parts s m t p h.inside; met = h.met }

  pub over_parts : (s m : Store) → AreOver cs s → AreParts m s → AreDomains m → AreOver cs m
  over_parts s m o p d = record { domains = d; over = λ c k. subst (λ n. IsOver n c) (sym p.long) (o.over c k) }

  module _ (s m : Store) (o : AreOver cs s) (c : Constraint) (k : Contains cs c) (e : run c s ≡ Some m) where
    pub step_parts : AreParts m s × AreDomains m
    step_parts = at_some (run c s) m (λ z. AreParts z s × AreDomains z) (run_shrinks c s (o.over c k) o.domains) e

    pub step_over : AreOver cs m
    step_over = over_parts s m o step_parts.0 step_parts.1

    pub step_keeps : (t : List ℤ) → Solves cs s t → Solves cs m t
    step_keeps t h = record { inside = subst (λ z. IsSomeAnd z (λ z. IsIn z t)) e (run_keeps c s t (o.over c k) o.domains h.inside (h.met c k)); met = h.met }

  pub runs_keep : (s m : Store) → AreOver cs s → Runs cs s m → AreOver cs m × AreParts m s × ((t : List ℤ) → Solves cs s t → Solves cs m t)
  runs_keep s m o none = (o, parts_refl s, λ t h. h)
  runs_keep s m o (more {m = n} c k e rest) =
      let again = runs_keep n m (step_over s n o c k e) rest in
      (again.0, parts_trans s n m (step_parts s n o c k e).0 again.1, λ t h. again.2 t (step_keeps s n o c k e t h))

  pub fails_none : (s : Store) → AreOver cs s → Fails cs s → (t : List ℤ) → Solves cs s t → ⊥
  fails_none s o f t h =
      let kept = runs_keep s f.before o f.runs in
      let g = kept.2 t h in
      subst (λ z. IsSomeAnd z (λ z. IsIn z t)) f.fails (run_keeps f.constraint f.before t (kept.0.over f.constraint f.among) kept.0.domains g.inside (g.met f.constraint f.among))

pub runs_law : RunsLaw
runs_law cs s m o r = (let k = runs_keep cs s m o r in (k.0, k.1, λ t. (k.2 t, solves_parts cs s m t k.1)))

pub fails_law : FailsLaw
fails_law cs s o f = fails_none cs s o f

-- ---- values

pub parts_total : (s m : Store) → AreParts m s → (total m ≤ total s) × (total s ≤ total m → m ≡ s)
parts_total [] [] p = (omega arith, λ l. refl)
parts_total [] (c ∷ m) p = absurd (let l = p.long in omega arith)
parts_total (d ∷ s) [] p = absurd (let l = p.long in omega arith)
parts_total (d ∷ s) (c ∷ m) p =
    let first = part_len (set.len c) c d refl (p.each 0) in
    let others = parts_total s m (record { long = (let l = p.long in omega arith); each = λ i. p.each (suc i) }) in
    let a = first.0 in
    let b = others.0 in
    (omega arith, λ l. (let e = first.1 (omega (arith, l)) in let f = others.1 (omega (arith, l)) in λ i. e i ∷ f i))

pub fewer : (s m : Store) → AreParts m s → m ≢ s → total m < total s
fewer s m p n = by (parts_total s m p) where
  cases : (a b : ℕ) → a ≤ b → (b ≤ a → ⊥) → a < b
  cases a b l f = grind (arith, f)

  by : (total m ≤ total s) × (total s ≤ total m → m ≡ s) → total m < total s
  by h = cases (total m) (total s) h.0 (λ l. n (h.1 l))

pub changes_law : ChangesLaw
changes_law cs zero s m o nothing = omega arith
changes_law cs (suc n) s m o (another {m = k} c among e differs rest) =
    let p = step_parts cs s k o c among e in
    let l = fewer s k p.0 differs in
    let again = changes_law cs n k m (step_over cs s k o c among e) rest in
    omega (arith, l, again)

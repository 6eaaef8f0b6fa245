-- Runs end.
use Rattle.std.proofs.Common.{◌≡◌, ℕ, zero, suc, ◌<◌, ◌≤◌, inl, inr, Bool, true, false, cond, List, [], ◌∷◌, Contains, Option, None, Some, MatchOption, nat_lt, refl, ◌∙◌, ap, subst, arith}
use Rattle.std.proofs.lemmas.Bool.Decides.{nat_tests}
use Rattle.fd_stores.specs.Stores.{Store, Constraint, run, none, more, Fails, AtRest, Rests, total, Next, Failing, Changed, Resting, next, next_by, after, settle}
use Rattle.fd_stores.specs.Laws.{AreOver, SettledLaw}
use Rattle.fd_stores.proofs.Lists.{contains_none, contains_head, contains_tail, contains_cases}
use Rattle.fd_stores.proofs.RunLaws.{step_parts, step_over, parts_total}

module _ (cs : List Constraint) (s : Store) (o : AreOver cs s) where
  -- the next run of some of the constraints
  abbrev Says : List Constraint → Next → Type 0
  Says ds Failing = (c : Constraint) × Contains cs c × (run c s ≡ None)
  Says ds (Changed m) = (c : Constraint) × Contains cs c × (run c s ≡ Some m) × (total m < total s)
  Says ds Resting = AtRest ds s

  later : (c : Constraint) (ds : List Constraint) → run c s ≡ Some s → (n : Next) → Says ds n → Says (c ∷ ds) n
  later c ds e Failing h = h
  later c ds e (Changed m) h = h
  later c ds e Resting h = λ x k. elim (contains_cases c x ds k) [ inl f ↦ subst (λ z. run z s ≡ Some s) f e | inr g ↦ h x g ]

  lt_true : (a b : ℕ) → nat_lt a b ≡ true → a < b
  lt_true a b e = grind (arith, nat_tests)

  lt_false : (a b : ℕ) → nat_lt a b ≡ false → b ≤ a
  lt_false a b e = grind (arith, nat_tests)

  next_is : (c : Constraint) (ds : List Constraint) → Contains cs c → (r : Option Store) → run c s ≡ r → (n : Next) → Says ds n → Says (c ∷ ds) (next_by r s n)
  next_is c ds k None e n h = (c, k, e)
  next_is c ds k (Some m) e n h = by (nat_lt (total m) (total s)) refl where
    by : (b : Bool) → nat_lt (total m) (total s) ≡ b → Says (c ∷ ds) (cond b (Changed m) n)
    by true f = (c, k, e, lt_true (total m) (total s) f)
    by false f = (let p = step_parts cs s m o c k e in later c ds (e ∙ ap Some ((parts_total s m p.0).1 (lt_false (total m) (total s) f))) n h)

  says : (ds : List Constraint) → ((c : Constraint) → Contains ds c → Contains cs c) → Says ds (next ds s)
  says [] w = λ c k. absurd (contains_none c k)
  says (c ∷ ds) w = next_is c ds (w c (contains_head c ds)) (run c s) refl (next ds s) (says ds (λ x k. w x (contains_tail c x ds k)))

abbrev Settled : List Constraint → Store → Option Store → Type 0
Settled cs s o = MatchOption o (Fails cs s) (Rests cs s)

settled_after : (cs : List Constraint) (s m : Store) (c : Constraint) → Contains cs c → run c s ≡ Some m → (o : Option Store) → Settled cs m o → Settled cs s o
settled_after cs s m c k e None h = record { before = h.before; runs = more c k e h.runs; constraint = h.constraint; among = h.among; fails = h.fails }
settled_after cs s m c k e (Some r) h = record { runs = more c k e h.runs; rest = h.rest }

after_next : (cs : List Constraint) (s : Store) (o : AreOver cs s) (again : Store → Option Store) → ((m : Store) → AreOver cs m → total m < total s → Settled cs m (again m)) → (n : Next) → Says cs s o cs n → Settled cs s (after again s n)
after_next cs s o again h Failing k = record { before = s; runs = none; constraint = k.0; among = k.1; fails = k.2 }
after_next cs s o again h (Changed m) k = settled_after cs s m k.0 k.1 k.2 (again m) (h m (step_over cs s m o k.0 k.1 k.2) k.3)
after_next cs s o again h Resting k = record { runs = none; rest = k }

pub settle_is : (n : ℕ) (cs : List Constraint) (s : Store) → AreOver cs s → total s < n → Settled cs s (settle n cs s)
unfolding settle
settle_is zero cs s o l = absurd (omega (arith, l))
settle_is (suc n) cs s o l = after_next cs s o (settle n cs) (λ m p g. settle_is n cs m p (omega (arith, l, g))) (next cs s) (says cs s o cs (λ c k. k))

pub settled_law : SettledLaw
settled_law cs s o = settle_is (suc (total s)) cs s o (omega arith)

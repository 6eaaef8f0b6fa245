-- Sets that are told to variables one after another are runs.
use Rattle.std.proofs.Common.{◌≡◌, ℕ, List, [], ◌∷◌, Contains, Option, Some, None, MatchOption, option_and_then, refl}
use Rattle.std.specs.FinSet as set
use Rattle.oz_base.specs.declared.interval.Interval.{Interval}
use Rattle.oz_domains.specs.Domains.{between}
use Rattle.oz_domains.specs.Passes.{keep}
use Rattle.fd_stores.specs.Stores.{Store, Constraint, Told, told, run, Runs, none, more, Fails}
use Rattle.fd_stores.proofs.Lists.{contains_head, contains_tail}
use Rattle.fd_runs.specs.Runs.{each_between}

later : (cs : List Constraint) (s m : Store) (c : Constraint) → Contains cs c → run c s ≡ Some m → (o : Option Store) → MatchOption o (Fails cs m) (Runs cs m) → MatchOption o (Fails cs s) (Runs cs s)
later cs s m c k e None f = record { before = f.before; runs = more c k e f.runs; constraint = f.constraint; among = f.among; fails = f.fails }
later cs s m c k e (Some n) f = more c k e f

pub told_runs : (cs : List Constraint) (s : Store) (is : List ℕ) (i : Interval) → ((x : ℕ) → Contains is x → Contains cs (Told x (between i.low i.high))) → MatchOption (told is (each_between i is) s) (Fails cs s) (Runs cs s)
unfolding told
told_runs cs s [] i h = none
told_runs cs s (x ∷ is) i h = by (keep x (set.contains (between i.low i.high)) s) refl (λ m. told_runs cs m is i (λ y c. h y (contains_tail x y is c))) where
  by : (o : Option Store) → keep x (set.contains (between i.low i.high)) s ≡ o → ((m : Store) → MatchOption (told is (each_between i is) m) (Fails cs m) (Runs cs m)) → MatchOption (option_and_then (told is (each_between i is)) o) (Fails cs s) (Runs cs s)
  by None e again = record { before = s; runs = none; constraint = Told x (between i.low i.high); among = h x (contains_head x is); fails = e }
  by (Some m) e again = later cs s m (Told x (between i.low i.high)) (h x (contains_head x is)) e (told is (each_between i is) m) (again m)

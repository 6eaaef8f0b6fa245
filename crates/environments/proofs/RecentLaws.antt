-- What a look-up in a map with one binding more finds, and what such a map is under new names.
use Rattle.std.proofs.Common.{◌≡◌, ℕ, Bool, true, false, cond, Option, Some, refl, sym, ap, ◌∙◌, arith}
use Rattle.std.specs.Prelude.{eqb, option_map}
use Rattle.std.specs.Ordering.{nat_cmp, eq_by_cmp}
use Rattle.std.specs.Cmp.{unsigned_tied}
use Rattle.std.specs.FinMap as maps
use Rattle.std.proofs.lemmas.Cmp.{nat_cmp_total}
use Rattle.std.proofs.lemmas.Bool.{eq-eqb, eqb-true}
use Rattle.shared_map.proofs.Changes.{get_changed}
use Rattle.oz_base.specs.declared.names.Ident.{Ident}
use Rattle.environments.specs.Environments.{Environment, renamed}

other_key : (q k : ℕ) → (k ≡ q → ⊥) → eqb q k ≡ false
other_key q k apart = grind (arith, eqb-true)

-- the newest binding of a number counts
pub get_here : (m : Environment) (k q : ℕ) (x : Ident) → k ≡ q → maps.get (maps.insert m k x) q ≡ Some x
get_here m k q x e = maps.get-insert nat_cmp_total m k x q ∙ ap (λ b. cond b (Some x) (maps.get m q)) (unsigned_tied q k ∙ eq-eqb q k (sym e))

-- and a binding of another does not
pub get_there : (m : Environment) (k q : ℕ) (x : Ident) → (k ≡ q → ⊥) → maps.get (maps.insert m k x) q ≡ maps.get m q
get_there m k q x apart = maps.get-insert nat_cmp_total m k x q ∙ ap (λ b. cond b (Some x) (maps.get m q)) (unsigned_tied q k ∙ other_key q k apart)

cond_changed : (f : Ident → Ident) (b : Bool) (x : Ident) (o : Option Ident) → cond b (Some (f x)) (option_map f o) ≡ option_map f (cond b (Some x) o)
cond_changed f true x o = refl
cond_changed f false x o = refl

get_renamed_insert : (f : Ident → Ident) (m : Environment) (k : ℕ) (x : Ident) (q : ℕ) → maps.get (maps.insert (renamed f m) k (f x)) q ≡ option_map f (maps.get (maps.insert m k x) q)
get_renamed_insert f m k x q =
    maps.get-insert nat_cmp_total (renamed f m) k (f x) q
    ∙ ap (cond (eq_by_cmp nat_cmp q k) (Some (f x))) (get_changed f m q)
    ∙ cond_changed f (eq_by_cmp nat_cmp q k) x (maps.get m q)
    ∙ ap (option_map f) (sym (maps.get-insert nat_cmp_total m k x q))

-- a renamed binding over a renamed environment is a binding over the environment, renamed
pub renamed_insert : (f : Ident → Ident) (m : Environment) (k : ℕ) (x : Ident) → maps.insert (renamed f m) k (f x) ≡ renamed f (maps.insert m k x)
renamed_insert f m k x =
    maps.same_map nat_cmp_total maps.nat_cmp-IsAntisymmetric (maps.insert (renamed f m) k (f x)) (renamed f (maps.insert m k x))
    (λ q. get_renamed_insert f m k x q ∙ sym (get_changed f (maps.insert m k x) q))

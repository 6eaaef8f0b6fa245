-- The last branch of a path.
use Rattle.std.proofs.Common.{◌≡◌, suc, ◌-◌, List, [], ◌∷◌, ◌++◌, length, slice_get, Some, refl, ap, sym, ◌∙◌, arith}
use Rattle.oz_search.specs.Searches.{Search}
use Rattle.pool_state.specs.Branching.{by_last, last_number}

pub by_push : {B : Type 0} (f : B → B) (p : List B) (b : B) → by_last f (p ++ b ∷ []) ≡ p ++ f b ∷ []
by_push f [] b = refl
by_push f (x ∷ []) b = refl
by_push f (x ∷ y ∷ p) b = ap (λ q. x ∷ q) (by_push f (y ∷ p) b)

module _ {B L : Type 0} (k : Search B L) where
  pub last_get : (p : List B) (b : B) → slice_get p (length p - 1) ≡ Some b → last_number k p ≡ k.number b
  last_get [] b h = absurd (cc (h))
  last_get (x ∷ []) b h = ap k.number (cc (h))
  last_get (x ∷ y ∷ p) b h =
      let e : length (x ∷ y ∷ p) - 1 ≡ suc (length (y ∷ p) - 1) = omega arith in
      last_get (y ∷ p) b (sym (ap (slice_get (x ∷ y ∷ p)) e) ∙ h)

  pub last_push : (p : List B) (b : B) → last_number k (p ++ b ∷ []) ≡ k.number b
  last_push [] b = refl
  last_push (x ∷ []) b = refl
  last_push (x ∷ y ∷ p) b = last_push (y ∷ p) b

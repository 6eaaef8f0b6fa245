-- What is known of a pool, once it is closed.
use Rattle.std.proofs.Common.{◌≡◌, ℕ, sym, subst}

module _ {T H : Type 0} where
  -- what is said of its tag, its budget and what was seen of its history is said of what they are
  pub carried : (P : T → ℕ → H → Type 0) (x y : T) (a b : ℕ) (h seen : H) → x ≡ y → a ≡ b → h ≡ seen → P x a seen → P y b h
  carried P x y a b h seen tag budget same is =
      subst (λ (z : H). P y b z) (sym same)
      (subst (λ (n : ℕ). P y n seen) budget
      (subst (λ (z : T). P z a seen) tag is))

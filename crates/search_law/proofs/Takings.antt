-- A history that replays follows the branches that it has taken.
use Rattle.std.proofs.Common.{◌≡◌, ℕ, cond, Bool, true, false, not, List, [], ◌∷◌, ◌++◌, refl, ap, sym, ◌∙◌, subst, ⊎_elim}
use Rattle.std.proofs.lemmas.Bool.{or_parts, or_cases, and_parts, both_ways, false_from_ne_true}
use Rattle.oz_search.specs.declared.history.Entry.{Entry}
use Rattle.oz_search.specs.declared.history.Entry.TheVariants.{Claim, Split, Leaf, Stop}
use Rattle.oz_search.specs.Searches.{Search}
use Rattle.oz_search.specs.Paths.{same_path, same_alternative}
use Rattle.oz_search.specs.Histories.{History, Replays, is_claimed, is_alternative_claimed, is_offered}
use Rattle.search_law.specs.Law.{TakenLaw}
use Rattle.search_law.specs.Taken.{taken, last_or}
use Rattle.search_law.proofs.Settings.{Setting, of_search}
use Rattle.search_law.proofs.Booleans.{not_true}
use Rattle.search_law.proofs.Places.{same_is, is_place, place_is}

pub last_is : {B : Type 0} (b : B) (p : List B) (c : B) → last_or b (p ++ c ∷ []) ≡ c
last_is b [] c = refl
last_is b (x ∷ p) c = last_is x p c

module _ {B L : Type 0} (its : Setting B L) where
  abbrev k : Search B L
  k = its.k

  -- a branch that is taken takes the alternative
  number_by : (q p : List B) (i : ℕ) → (b : Bool) → same_alternative k (p ++ k.free i ∷ []) q ≡ b → (other : B) → k.number other ≡ i → k.number (cond b (last_or (k.free i) q) other) ≡ i
  number_by q p i true e other n =
      let r = place_is its p (k.free i) q e in
      let end : last_or (k.free i) q ≡ r.0 = ap (last_or (k.free i)) r.1 ∙ last_is (k.free i) p r.0 in
      ap k.number end ∙ (sym r.2 ∙ its.is.numbered i)
  number_by q p i false e other n = n

  pub taken_number : (h : History B L) (p : List B) (i : ℕ) → k.number (taken k h p i) ≡ i
  taken_number [] p i = its.is.numbered i
  taken_number (Claim w q ∷ h) p i = number_by q p i (same_alternative k (p ++ k.free i ∷ []) q) refl (taken k h p i) (taken_number h p i)
  taken_number (Split w q n s ∷ h) p i = taken_number h p i
  taken_number (Leaf w q l s ∷ h) p i = taken_number h p i
  taken_number (Stop e ∷ h) p i = taken_number h p i

  -- no alternative is claimed twice
  abbrev pub IsOnce : History B L → Type 0
  IsOnce h = (b : History B L) (w : ℕ) (q : List B) (a : History B L) → h ≡ b ++ Claim w q ∷ a → is_alternative_claimed k b q ≡ false

  once_rest : (e : Entry (List B) L) (h : History B L) → IsOnce (e ∷ h) → (b : History B L) (w : ℕ) (q : List B) (a : History B L) → h ≡ b ++ Claim w q ∷ a → is_alternative_claimed k (e ∷ b) q ≡ false
  once_rest e h once b w q a eq = once (e ∷ b) w q a (ap (λ z. e ∷ z) eq)

  once_claim : (v : ℕ) (x : List B) (h : History B L) → IsOnce (Claim v x ∷ h) → IsOnce h
  once_claim v x h once b w q a eq = (or_parts (same_alternative k q x) (is_alternative_claimed k b q) (once_rest (Claim v x) h once b w q a eq)).1

  -- where a path is claimed, there is a claim of it
  claim_at : (h : History B L) (p : List B) → is_claimed k h p ≡ true → (b : History B L) × (w : ℕ) × (a : History B L) × (h ≡ b ++ Claim w p ∷ a)
  claim_at [] p t = absurd (both_ways false refl t)
  claim_at (Claim w q ∷ h) p t =
      ⊎_elim
      (λ here. ([], w, h, ap (λ z. Claim w z ∷ h) (sym (same_is its p q here))))
      (λ later. let r = claim_at h p later in (Claim w q ∷ r.0, r.1, r.2, ap (λ z. Claim w q ∷ z) r.3))
      (or_cases (same_path k p q) (is_claimed k h p) t)
  claim_at (Split w q n s ∷ h) p t = let r = claim_at h p t in (Split w q n s ∷ r.0, r.1, r.2, ap (λ z. Split w q n s ∷ z) r.3)
  claim_at (Leaf w q l s ∷ h) p t = let r = claim_at h p t in (Leaf w q l s ∷ r.0, r.1, r.2, ap (λ z. Leaf w q l s ∷ z) r.3)
  claim_at (Stop e ∷ h) p t = let r = claim_at h p t in (Stop e ∷ r.0, r.1, r.2, ap (λ z. Stop e ∷ z) r.3)

  -- the alternative to which a path leads does not depend on what else its last branch fixes
  place_free : (p : List B) (b : B) (q : List B) → same_alternative k (p ++ k.free (k.number b) ∷ []) q ≡ true → same_alternative k (p ++ b ∷ []) q ≡ true
  place_free p b q e =
      let r = place_is its p (k.free (k.number b)) q e in
      let P : List B → Type 0 = λ z. same_alternative k (p ++ b ∷ []) z ≡ true in
      subst P (sym r.1) (is_place its p b r.0 (sym (its.is.numbered (k.number b)) ∙ r.2))

  pub follows_taken : (h : History B L) → IsOnce h → (p : List B) (b : B) → is_claimed k h (p ++ b ∷ []) ≡ true → taken k h p (k.number b) ≡ b
  follows_taken [] once p b t = absurd (both_ways false refl t)
  follows_taken (Claim w q ∷ h) once p b t =
      let i = k.number b in
      ⊎_elim
      (λ here.
      let same : q ≡ p ++ b ∷ [] = sym (same_is its (p ++ b ∷ []) q here) in
      let P : List B → Type 0 = λ z. same_alternative k (p ++ k.free i ∷ []) z ≡ true in
      let place : same_alternative k (p ++ k.free i ∷ []) q ≡ true = subst P (sym same) (is_place its p (k.free i) b (its.is.numbered i)) in
      ap (λ c. cond c (last_or (k.free i) q) (taken k h p i)) place ∙ (ap (last_or (k.free i)) same ∙ last_is (k.free i) p b))
      (λ later.
      let at = claim_at h (p ++ b ∷ []) later in
      let apart : same_alternative k (p ++ b ∷ []) q ≡ false = (or_parts (same_alternative k (p ++ b ∷ []) q) (is_alternative_claimed k at.0 (p ++ b ∷ [])) (once_rest (Claim w q) h once at.0 at.1 (p ++ b ∷ []) at.2 at.3)).0 in
      let other : same_alternative k (p ++ k.free i ∷ []) q ≡ false = false_from_ne_true (same_alternative k (p ++ k.free i ∷ []) q) (λ e. both_ways (same_alternative k (p ++ b ∷ []) q) apart (place_free p b q e)) in
      ap (λ c. cond c (last_or (k.free i) q) (taken k h p i)) other ∙ follows_taken h (once_claim w q h once) p b later)
      (or_cases (same_path k (p ++ b ∷ []) q) (is_claimed k h (p ++ b ∷ [])) t)
  follows_taken (Split w q n s ∷ h) once p b t = follows_taken h (once_rest (Split w q n s) h once) p b t
  follows_taken (Leaf w q l s ∷ h) once p b t = follows_taken h (once_rest (Leaf w q l s) h once) p b t
  follows_taken (Stop e ∷ h) once p b t = follows_taken h (once_rest (Stop e) h once) p b t

  pub once_replays : (budget : ℕ) (h : History B L) → Replays k budget h → IsOnce h
  once_replays budget h replays b w q a eq =
      let opens = (replays b (Claim w q) a eq).1.0.0 in
      not_true (is_alternative_claimed k b q) (and_parts (is_offered k b q) (not (is_alternative_claimed k b q)) opens).1

pub taken_law : (B L : Type 0) → TakenLaw B L
taken_law B L k is budget h replays =
    let its = of_search k is in (taken_number its h, follows_taken its h (once_replays its budget h replays))

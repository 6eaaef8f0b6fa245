-- A history whose claims take the branches that are given.
use Rattle.std.proofs.Common.{◌≡◌, ℕ, not, ◌&&◌, ◌||◌, true, false, List, [], ◌∷◌, ◌++◌, refl, ap, sym, ◌∙◌, subst, ⊎_elim}
use Rattle.std.specs.List.{list_any}
use Rattle.std.proofs.lemmas.Bool.{or_left, or_right, or_cases, and_parts, both_ways, false_from_ne_true}
use Rattle.std.proofs.lemmas.List.Folds.{list_any-append}
use Rattle.oz_search.specs.declared.history.Entry.{Entry}
use Rattle.oz_search.specs.declared.history.Entry.TheVariants.{Claim, Split, Leaf, Stop}
use Rattle.oz_search.specs.Searches.{Search}
use Rattle.oz_search.specs.Paths.{Taking, same_path, same_alternative, is_child}
use Rattle.oz_search.specs.Histories.{History, is_claimed, is_alternative_claimed, is_offered, is_settled, IsNothingOpen, IsNothingOut, claims, offers}
use Rattle.search_law.specs.Law.{Follows}
use Rattle.search_law.proofs.Settings.{Setting}
use Rattle.search_law.proofs.Booleans.{not_false}
use Rattle.search_law.proofs.Places.{same_is, same_itself, place_is, root_place, is_kid, kid_is, kid_child}
use Rattle.search_law.proofs.Entries.{is_put, puts}
use Rattle.search_law.proofs.FrontLaws.{IsTaken, is_due}

module _ {B L : Type 0} (its : Setting B L) where
  abbrev k : Search B L
  k = its.k

  abbrev branch : Taking B
  branch = its.branch

  -- a claim of the alternative
  pub taken_by : (h : History B L) (q : List B) → is_alternative_claimed k h q ≡ true → (x : List B) × (same_alternative k q x ≡ true) × (is_claimed k h x ≡ true)
  taken_by [] q t = absurd (both_ways false refl t)
  taken_by (Claim w x ∷ h) q t =
      ⊎_elim
      (λ here. (x, here, or_left (same_path k x x) (is_claimed k h x) (same_itself its x)))
      (λ later. let r = taken_by h q later in (r.0, r.1, or_right (same_path k r.0 x) (is_claimed k h r.0) r.2))
      (or_cases (same_alternative k q x) (is_alternative_claimed k h q) t)
  taken_by (Split w x n s ∷ h) q t = taken_by h q t
  taken_by (Leaf w x l s ∷ h) q t = taken_by h q t
  taken_by (Stop e ∷ h) q t = taken_by h q t

  put_by : (h : History B L) (q : List B) → list_any (puts its q) h ≡ true → (p : List B) × (n : ℕ) × (is_kid its p n q ≡ true)
  put_by [] q t = absurd (both_ways false refl t)
  put_by (Claim w x ∷ h) q t = put_by h q t
  put_by (Split w x n s ∷ h) q t = ⊎_elim (λ here. (x, n, here)) (put_by h q) (or_cases (is_kid its x n q) (list_any (puts its q) h) t)
  put_by (Leaf w x l s ∷ h) q t = put_by h q t
  put_by (Stop e ∷ h) q t = put_by h q t

  any_offered : (h : History B L) (q : List B) → list_any (puts its q) h ≡ true → list_any (offers k q) h ≡ true
  any_offered [] q t = t
  any_offered (Claim w x ∷ h) q t = any_offered h q t
  any_offered (Split w x n s ∷ h) q t =
      ⊎_elim
      (λ here. or_left (is_child k x n q) (list_any (offers k q) h) (kid_child its x n q here))
      (λ later. or_right (is_child k x n q) (list_any (offers k q) h) (any_offered h q later))
      (or_cases (is_kid its x n q) (list_any (puts its q) h) t)
  any_offered (Leaf w x l s ∷ h) q t = any_offered h q t
  any_offered (Stop e ∷ h) q t = any_offered h q t

  pub put_offered : (h : History B L) (q : List B) → is_put its h q ≡ true → is_offered k h q ≡ true
  put_offered h q t =
      ⊎_elim
      (λ root. or_left (same_path k q []) (list_any (offers k q) h) root)
      (λ child. or_right (same_path k q []) (list_any (offers k q) h) (any_offered h q child))
      (or_cases (same_path k q []) (list_any (puts its q) h) t)

  claimed_here : (b : History B L) (w : ℕ) (p : List B) (a : History B L) → is_claimed k (b ++ Claim w p ∷ a) p ≡ true
  claimed_here b w p a =
      list_any-append (claims k p) b (Claim w p ∷ a) ∙ or_right (list_any (claims k p) b) (same_path k p p || list_any (claims k p) a) (or_left (same_path k p p) (list_any (claims k p) a) (same_itself its p))

  module _ (h : History B L) (follows : Follows k branch h) where
    -- where the alternative to which an offered path leads is claimed, it is by this path
    by_place : (q x : List B) → is_put its h q ≡ true → same_alternative k q x ≡ true → is_claimed k h x ≡ true → is_claimed k h q ≡ true
    by_place q x put same claimed =
        ⊎_elim
        (λ root.
        let at : q ≡ [] = same_is its q [] root in
        let there : x ≡ [] = root_place its x (rw (← at) same) in
        rw (at) (rw (← there) claimed))
        (λ child.
        let kid = put_by h q child in
        let r = kid_is its kid.0 kid.1 q kid.2 in
        let P : List B → Type 0 = λ z. same_alternative k z x ≡ true in
        let c = place_is its kid.0 (branch kid.0 r.0) x (subst P r.3 same) in
        let Q : List B → Type 0 = λ z. is_claimed k h z ≡ true in
        let taken : branch kid.0 (k.number c.0) ≡ c.0 = follows kid.0 c.0 (subst Q c.1 claimed) in
        let number : k.number c.0 ≡ r.0 = sym c.2 ∙ its.taking kid.0 r.0 in
        let end : branch kid.0 r.0 ≡ c.0 = sym (ap (branch kid.0) number) ∙ taken in
        let path : q ≡ x = r.3 ∙ (ap (λ b. kid.0 ++ b ∷ []) end ∙ sym c.1) in
        subst Q (sym path) claimed)
        (or_cases (same_path k q []) (list_any (puts its q) h) put)

    pub not_due : IsNothingOpen k h → IsNothingOut k h → (q : List B) → is_due its h q ≡ false
    not_due closed inside q =
        false_from_ne_true (is_due its h q)
        (λ t.
        let parts = and_parts (is_put its h q) (not (is_settled k h q)) t in
        let offered = put_offered h q parts.0 in
        let taken : is_alternative_claimed k h q ≡ true = not_false (is_alternative_claimed k h q) (sym (ap (λ b. b && not (is_alternative_claimed k h q)) offered) ∙ closed q) in
        let by = taken_by h q taken in
        let claimed = by_place q by.0 parts.0 by.1 by.2 in
        both_ways (is_claimed k h q && not (is_settled k h q)) (inside q) (ap (λ b. b && not (is_settled k h q)) claimed ∙ parts.1))

    pub cut_taken : (b : History B L) (e : Entry (List B) L) (a : History B L) → h ≡ b ++ e ∷ a → IsTaken its e
    cut_taken b (Claim w p) a eq = λ x c same.
        let P : History B L → Type 0 = λ z. is_claimed k z (x ++ c ∷ []) ≡ true in
        let Q : List B → Type 0 = λ z. is_claimed k (b ++ Claim w p ∷ a) z ≡ true in
        follows x c (subst P (sym eq) (subst Q same (claimed_here b w p a)))
    cut_taken b (Split w p n s) a eq = tt
    cut_taken b (Leaf w p l s) a eq = tt
    cut_taken b (Stop e) a eq = tt

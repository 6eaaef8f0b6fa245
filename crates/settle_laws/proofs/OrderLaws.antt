-- Spaces fail in any order: which layers are left goes by the spaces alone that fail, and by the uppermost of these.
use Rattle.std.proofs.Common.{◌≡◌, inl, inr, ℕ, Bool, true, false, not, ◌&&◌, cond, List, [], ◌∷◌, refl, sym, ap, subst, ◌∙◌, filter, fold}
use Rattle.oz_base.specs.Lists.{edit_first, list_eq}
use Rattle.oz_semantics.specs.Names.{is_below, is_properly_below}
use Rattle.oz_semantics.specs.Configurations.{is_of, in_layer, failed}
use Rattle.oz_semantics.specs.Settling.{failing}
use Rattle.oz_semantics.specs.declared.configuration.Layer.{Layer}
use Rattle.oz_laws.proofs.SameLaws.{In}
use Rattle.view_laws.proofs.Members.{decide, not_both}
use Rattle.view_laws.proofs.ListLaws.{filter_in, filter_all, in_edit, found_in}
use Rattle.view_laws.proofs.NameLaws.{below_itself, equal_names, names_equal, properly, properly_by, properly_trans}
use Rattle.settle_laws.proofs.ListEdits.{edit_twice, edits_apart, filter_edit}
use Rattle.settle_laws.proofs.SettleLaws.{failing_end}

-- Lists

edit_none : {A : Type 0} (test : A → Bool) (f : A → A) (xs : List A) → ((x : A) → In x xs → test x ≡ false) → edit_first test f xs ≡ xs
edit_none test f [] h = refl
edit_none test f (x ∷ xs) h =
    ap (λ (b : Bool). cond b (f x ∷ xs) (x ∷ edit_first test f xs)) (h x (inl refl)) ∙ ap (λ ys. x ∷ ys) (edit_none test f xs (λ y k. h y (inr k)))

filters_commute : {A : Type 0} (p q : A → Bool) (xs : List A) → filter p (filter q xs) ≡ filter q (filter p xs)
filters_commute p q [] = refl
filters_commute {A = A} p q (x ∷ xs) = by (p x) (q x) refl refl (filters_commute p q xs)
  where
    by : (b c : Bool) → p x ≡ b → q x ≡ c → filter p (filter q xs) ≡ filter q (filter p xs)
        → filter p (cond c (x ∷ filter q xs) (filter q xs)) ≡ filter q (cond b (x ∷ filter p xs) (filter p xs))
    by true true e k rest =
        ap (λ (b : Bool). cond b (x ∷ filter p (filter q xs)) (filter p (filter q xs))) e
        ∙ ap (λ ys. x ∷ ys) rest
        ∙ sym (ap (λ (c : Bool). cond c (x ∷ filter q (filter p xs)) (filter q (filter p xs))) k)
    by true false e k rest = rest ∙ sym (ap (λ (c : Bool). cond c (x ∷ filter q (filter p xs)) (filter q (filter p xs))) k)
    by false true e k rest = ap (λ (b : Bool). cond b (x ∷ filter p (filter q xs)) (filter p (filter q xs))) e ∙ rest
    by false false e k rest = rest

-- Two spaces

abbrev pub left : List ℕ → Layer → Bool
left t l = not (is_properly_below t l.space)

-- where one has failed, nothing is below it
left_in : (u : List ℕ) (layers : List Layer) (m : Layer) → In m (failing layers u) → is_properly_below u m.space ≡ false
left_in u layers m h = elim (decide (is_properly_below u m.space)) [
  | inl e ↦ elim (in_edit (is_of u) failed (filter (left u) layers) m h) [
    | inl k ↦ absurd (not_both _ (filter_in (left u) layers m k).1 (ap not e))
    | inr r ↦ (let same : r.0.space ≡ u = equal_names r.0.space u (found_in (is_of u) failed (filter (left u) layers) r.0 r.1).1 in
        absurd ((properly u m.space e).1 (sym same ∙ sym (ap (λ (l : Layer). l.space) r.2))))
  ]
  | inr e ↦ e
]

-- so one of these that fails later changes nothing
fails_within : (u t : List ℕ) → is_properly_below u t ≡ true → (layers : List Layer) → failing (failing layers u) t ≡ failing layers u
fails_within u t lower layers =
    ap (in_layer t failed) (filter_all (left t) (failing layers u) (λ m h. ap not (apart m h))) ∙ edit_none (is_of t) failed (failing layers u) (λ m h. other m h)
  where
    apart : (m : Layer) → In m (failing layers u) → is_properly_below t m.space ≡ false
    apart m h = elim (decide (is_properly_below t m.space)) [
      | inl e ↦ absurd (not_both _ (properly_trans u t m.space lower (properly t m.space e).0) (left_in u layers m h))
      | inr e ↦ e
    ]

    other : (m : Layer) → In m (failing layers u) → is_of t m ≡ false
    other m h = elim (decide (is_of t m)) [
      | inl e ↦ absurd (not_both _ (ap (is_properly_below u) (equal_names m.space t e) ∙ lower) (left_in u layers m h))
      | inr e ↦ e
    ]

-- nor does the space itself
fails_again : (u : List ℕ) (layers : List Layer) → failing (failing layers u) u ≡ failing layers u
fails_again u layers =
    ap (in_layer u failed) (filter_all (left u) (failing layers u) (λ m h. ap not (left_in u layers m h))) ∙ edit_twice (is_of u) failed failed (λ l. refl) (filter (left u) layers)

pub fails_below : (u t : List ℕ) → is_below u t ≡ true → (layers : List Layer) → failing (failing layers u) t ≡ failing layers u
fails_below u t lower layers = elim (decide (list_eq u t)) [
  | inl e ↦ subst (λ s. failing (failing layers u) s ≡ failing layers u) (equal_names u t e) (fails_again u layers)
  | inr e ↦ fails_within u t (properly_by u t lower (λ q. not_both _ (ap (list_eq u) (sym q) ∙ names_equal u) e)) layers
]

-- of two, the lower one may fail before
fails_before : (u t : List ℕ) → is_below u t ≡ true → (layers : List Layer) → failing (failing layers t) u ≡ failing layers u
fails_before u t lower layers = elim (decide (list_eq u t)) [
  | inl e ↦ subst (λ s. failing (failing layers s) u ≡ failing layers u) (equal_names u t e) (fails_again u layers)
  | inr e ↦ failing_end u t (properly_by u t lower (λ q. not_both _ (ap (list_eq u) (sym q) ∙ names_equal u) e)) failed layers
]

-- neither is below the other
module _ (t u : List ℕ) (above : is_below t u ≡ false) (below : is_below u t ≡ false) where
  own_left : (s r : List ℕ) → is_below s r ≡ false → (l : Layer) → is_of r l ≡ true → left s l ≡ true
  own_left s r apart l e = ap (λ p. not (is_below s p && not (list_eq s p))) (equal_names l.space r e) ∙ ap (λ b. not (b && not (list_eq s r))) apart

  two : (l : Layer) → is_of t l ≡ true → is_of u l ≡ false
  two l e = elim (decide (is_of u l)) [
    | inl k ↦ absurd (not_both _ (ap (is_below t) (sym (equal_names l.space u k) ∙ equal_names l.space t e) ∙ below_itself t) above)
    | inr k ↦ k
  ]

  fails_apart : (layers : List Layer) → failing (failing layers u) t ≡ failing (failing layers t) u
  fails_apart layers =
      ap (in_layer t failed) (filter_edit (left t) (is_of u) failed (λ l. refl) (own_left t u above) (filter (left u) layers))
      ∙ edits_apart (is_of t) (is_of u) failed failed (λ l. refl) (λ l. refl) two (filter (left t) (filter (left u) layers))
      ∙ ap (λ ls. in_layer u failed (in_layer t failed ls)) (filters_commute (left t) (left u) layers)
      ∙ ap (in_layer u failed) (sym (filter_edit (left u) (is_of t) failed (λ l. refl) (own_left u t below) (filter (left t) layers)))

pub fails_commute : (t u : List ℕ) (layers : List Layer) → failing (failing layers u) t ≡ failing (failing layers t) u
fails_commute t u layers = elim (decide (is_below t u)) [
  | inl e ↦ (fails_before t u e layers ∙ sym (fails_below t u e layers))
  | inr e ↦ elim (decide (is_below u t)) [
    | inl k ↦ (fails_below u t k layers ∙ sym (fails_before u t k layers))
    | inr k ↦ fails_apart t u e k layers
  ]
]

-- Spaces in turn

one_commutes : (ts : List (List ℕ)) (t : List ℕ) (layers : List Layer) → failing (fold failing layers ts) t ≡ fold failing (failing layers t) ts
one_commutes [] t layers = refl
one_commutes (u ∷ ts) t layers = one_commutes ts t (failing layers u) ∙ ap (λ ls. fold failing ls ts) (fails_commute t u layers)

all_commute : (ss ts : List (List ℕ)) (layers : List Layer) → fold failing (fold failing layers ts) ss ≡ fold failing (fold failing layers ss) ts
all_commute [] ts layers = refl
all_commute (s ∷ ss) ts layers = ap (λ ls. fold failing ls ss) (one_commutes ts s layers) ∙ all_commute ss ts (failing layers s)

-- one that is below one of them
one_within : (ts : List (List ℕ)) (u t : List ℕ) → In u ts → is_below u t ≡ true → (layers : List Layer) → failing (fold failing layers ts) t ≡ fold failing layers ts
one_within [] u t h lower layers = elim h [ ]
one_within (v ∷ ts) u t (inl e) lower layers =
    one_commutes ts t (failing layers v) ∙ ap (λ ls. fold failing ls ts) (fails_below v t (ap (λ s. is_below s t) e ∙ lower) layers)
one_within (v ∷ ts) u t (inr h) lower layers = one_within ts u t h lower (failing layers v)

-- each of these is below one of those
abbrev pub AreWithin : List (List ℕ) → List (List ℕ) → Type 0
AreWithin ts ss = (s : List ℕ) → In s ss → (u : List ℕ) × In u ts × (is_below u s ≡ true)

all_within : (ss ts : List (List ℕ)) → AreWithin ts ss → (layers : List Layer) → fold failing (fold failing layers ts) ss ≡ fold failing layers ts
all_within [] ts h layers = refl
all_within (s ∷ ss) ts h layers =
    let u = h s (inl refl) in
    ap (λ ls. fold failing ls ss) (one_within ts u.0 s u.1 u.2 layers) ∙ all_within ss ts (λ r k. h r (inr k)) layers

-- where it is so both ways, the same is left
pub same_fail : (ss ts : List (List ℕ)) → AreWithin ts ss → AreWithin ss ts → (layers : List Layer) → fold failing layers ss ≡ fold failing layers ts
same_fail ss ts h k layers = sym (all_within ts ss k layers) ∙ (all_commute ts ss layers ∙ all_within ss ts h layers)

-- What is left of the layers where spaces fail one after another.
use Rattle.std.proofs.Common.{◌≡◌, inl, inr, ℕ, Bool, true, false, not, ◌||◌, cond, List, [], ◌∷◌, ◌++◌, refl, sym, ap, subst, ◌∙◌, arith, Contains, filter, flat_map, fold}
use Rattle.std.specs.List.{list_any}
use Rattle.std.proofs.lemmas.Bool.{false≢true}
use Rattle.std.proofs.lemmas.Grind.{flat_map-append}
use Rattle.oz_base.specs.Lists.{list_eq, edit_first}
use Rattle.oz_semantics.specs.Names.{is_below, is_properly_below, is_top, parent_of}
use Rattle.oz_semantics.specs.Configurations.{is_of, view, failed}
use Rattle.oz_semantics.specs.Settling.{failing, inconsistent_spaces, without_inconsistent}
use Rattle.oz_semantics.specs.declared.configuration.Layer.{Layer}
use Rattle.oz_laws.proofs.SameLaws.{In, In-from_contains, contains-from_In, In-flat, and-right}
use Rattle.view_laws.specs.Trees.{IsTree, is_ascending, names_of}
use Rattle.view_laws.proofs.Members.{decide, not_both, some_of, by_some}
use Rattle.view_laws.proofs.NameLaws.{below_itself, below_trans, equal_names, names_equal, above_parent, not_above_parent, properly, properly_by}
use Rattle.view_laws.proofs.SightLaws.{of_space, failure_unseen, parent_above}
use Rattle.view_laws.proofs.TreeLaws.{one_of_name, failure_tree}
use Rattle.space_core.specs.Fates.{falls}
use Rattle.space_core.specs.Shown.{seen_above}
use Rattle.space_core.proofs.SoundLaws.{KeepsHomes, above_same, homes_kept}

-- Failures in turn

-- what is left of a layer, by whether a space above it fails, and whether its own does
abbrev pub left_by : Bool → Bool → Layer → List Layer
left_by true own k = []
left_by false true k = failed k ∷ []
left_by false false k = k ∷ []

-- where one space fails, and where these do
abbrev pub one_left : List ℕ → Layer → List Layer
one_left t k = left_by (is_properly_below t k.space) (is_of t k) k

abbrev pub left_of : List (List ℕ) → Layer → List Layer
left_of ts k = left_by (list_any (λ t. is_properly_below t k.space) ts) (list_any (λ t. is_of t k) ts) k

module _ (t : List ℕ) where
  abbrev stays : Layer → Bool
  stays k = not (is_properly_below t k.space)

  -- where no layer is of the space
  left_others : (ls : List Layer) → ((k : Layer) → In k ls → is_of t k ≡ false) → filter stays ls ≡ flat_map (one_left t) ls
  left_others [] n = refl
  left_others (k ∷ ls) n = by (is_properly_below t k.space) (is_of t k) (n k (inl refl)) (left_others ls (λ j h. n j (inr h)))
    where
      by : (p q : Bool) → q ≡ false → filter stays ls ≡ flat_map (one_left t) ls → cond (not p) (k ∷ filter stays ls) (filter stays ls) ≡ left_by p q k ++ flat_map (one_left t) ls
      by true q e rest = rest
      by false true e rest = absurd (false≢true (sym e))
      by false false e rest = ap (λ (js : List Layer). k ∷ js) rest

  left_here : (ls : List Layer) → is_ascending (names_of ls) ≡ true → failing ls t ≡ flat_map (one_left t) ls
  left_here [] o = refl
  left_here (k ∷ ls) o = by (is_properly_below t k.space) (is_of t k) refl (left_here ls (and-right _ _ o))
    where
      none : is_of t k ≡ true → (j : Layer) → In j ls → is_of t j ≡ false
      none e j h = elim (decide (is_of t j)) [ inl f ↦ absurd (one_of_name k ls j o h (of_space t j f ∙ sym (of_space t k e))) | inr f ↦ f ]

      by : (p q : Bool) → is_of t k ≡ q → edit_first (is_of t) failed (filter stays ls) ≡ flat_map (one_left t) ls
          → edit_first (is_of t) failed (cond (not p) (k ∷ filter stays ls) (filter stays ls)) ≡ left_by p q k ++ flat_map (one_left t) ls
      by true q f rest = rest
      by false true f rest = rw f (ap (λ (js : List Layer). failed k ∷ js) (left_others ls (none f)))
      by false false f rest = rw f (ap (λ (js : List Layer). k ∷ js) rest)

-- one more
left_twice : (t : List ℕ) (ts : List (List ℕ)) (k : Layer) → flat_map (left_of ts) (one_left t k) ≡ left_of (t ∷ ts) k
left_twice t ts k = by (is_properly_below t k.space) (is_of t k)
  where
    r : Bool
    r = list_any (λ s. is_properly_below s k.space) ts

    q : Bool
    q = list_any (λ s. is_of s k) ts

    fell : (a b : Bool) → left_by a b (failed k) ++ [] ≡ left_by a true k
    fell true b = refl
    fell false true = refl
    fell false false = refl

    stood : (a b : Bool) → left_by a b k ++ [] ≡ left_by a b k
    stood true b = refl
    stood false true = refl
    stood false false = refl

    by : (a b : Bool) → flat_map (left_of ts) (left_by a b k) ≡ left_by (a || r) (b || q) k
    by true b = refl
    by false true = fell r q
    by false false = stood r q

flat_twice : (g f : Layer → List Layer) (ks : List Layer) → flat_map g (flat_map f ks) ≡ flat_map (λ k. flat_map g (f k)) ks
flat_twice g f [] = refl
flat_twice g f (k ∷ ks) = flat_map-append g (f k) (flat_map f ks) ∙ ap (λ (js : List Layer). flat_map g (f k) ++ js) (flat_twice g f ks)

flat_single : (ks : List Layer) → flat_map (left_of []) ks ≡ ks
flat_single [] = refl
flat_single (k ∷ ks) = ap (λ (js : List Layer). k ∷ js) (flat_single ks)

pub fold_left : (ts : List (List ℕ)) (ls : List Layer) → IsTree ls → fold failing ls ts ≡ flat_map (left_of ts) ls
fold_left [] ls tree = sym (flat_single ls)
fold_left (t ∷ ts) ls tree =
    fold_left ts (failing ls t) (failure_tree t ls tree)
    ∙ ap (flat_map (left_of ts)) (left_here t ls tree.ordered)
    ∙ flat_twice (left_of ts) (one_left t) ls
    ∙ ap (λ (f : Layer → List Layer). flat_map f ls) (λ i k. left_twice t ts k i)

or_false_left : (a b : Bool) → (a || b) ≡ false → a ≡ false
or_false_left true b e = absurd (false≢true (sym e))
or_false_left false b e = refl

or_false_right : (a b : Bool) → (a || b) ≡ false → b ≡ false
or_false_right true b e = absurd (false≢true (sym e))
or_false_right false b e = e

-- what is not below one that fails sees what it saw
fold_view : (ts : List (List ℕ)) (ls : List Layer) (other : List ℕ) → list_any (λ t. is_below t other) ts ≡ false → view (fold failing ls ts) other ≡ view ls other
fold_view [] ls other e = refl
fold_view (t ∷ ts) ls other e =
    fold_view ts (failing ls t) other (or_false_right (is_below t other) _ e) ∙ failure_unseen ls t other (or_false_left (is_below t other) _ e)

-- What stands

-- none passes a test that is harder to pass
none_less : {A : Type 0} (p q : A → Bool) → ((x : A) → p x ≡ true → q x ≡ true) → (xs : List A) → list_any q xs ≡ false → list_any p xs ≡ false
none_less p q h xs e = elim (decide (list_any p xs)) [
  | inl k ↦ (let r = some_of p xs k in absurd (not_both _ (by_some q xs r.0 r.1 (h r.0 r.2)) e))
  | inr k ↦ k
]

module _ (layers : List Layer) where
  abbrev bad : List (List ℕ)
  bad = inconsistent_spaces layers

  abbrev left : List Layer
  left = without_inconsistent layers

  pub falls_under : (t : List ℕ) → is_top t ≡ false → falls layers (parent_of t) ≡ true → falls layers t ≡ true
  falls_under t inner e = let r = some_of (λ s. is_below s (parent_of t)) bad e in by_some (λ s. is_below s t) bad r.0 r.1 (parent_above t inner r.0 r.2)

  pub stands_above : (t : List ℕ) → is_top t ≡ false → falls layers t ≡ false → falls layers (parent_of t) ≡ false
  stands_above t inner e = none_less (λ s. is_below s (parent_of t)) (λ s. is_below s t) (λ s h. parent_above t inner s h) bad e

  -- a space stands where its parent does, and it does not fail itself
  pub stands_itself : (t : List ℕ) → (Contains bad t → ⊥) → falls layers (parent_of t) ≡ false → falls layers t ≡ false
  stands_itself t n e = elim (decide (falls layers t)) [
    | inl k ↦ (let r = some_of (λ s. is_below s t) bad k in
        elim (decide (list_eq r.0 t)) [
          | inl q ↦ absurd (n (subst (Contains bad) (equal_names r.0 t q) r.1))
          | inr q ↦ absurd (not_both _ (by_some (λ s. is_below s (parent_of t)) bad r.0 r.1 (sym (above_parent r.0 t q) ∙ r.2)) e)
        ])
    | inr k ↦ k
  ]

  under_parent : (t s : List ℕ) → is_properly_below s t ≡ true → is_below s (parent_of t) ≡ true
  under_parent t s h =
      let p = properly s t h in
      elim (decide (list_eq s t)) [
        | inl q ↦ absurd (p.1 (equal_names s t q))
        | inr q ↦ sym (above_parent s t q) ∙ p.0
      ]

  over_itself : (t s : List ℕ) → is_top t ≡ false → is_below s (parent_of t) ≡ true → is_properly_below s t ≡ true
  over_itself t s inner h = properly_by s t (parent_above t inner s h) (λ q. not_both _ h (subst (λ (u : List ℕ). is_below u (parent_of t) ≡ false) (sym q) (not_above_parent t inner)))

  -- what is left of the layer of a space that stands, of one that fails, and of one below such
  pub left_standing : (k : Layer) → falls layers k.space ≡ false → left_of bad k ≡ k ∷ []
  left_standing k e =
      let above = none_less (λ t. is_properly_below t k.space) (λ t. is_below t k.space) (λ t h. (properly t k.space h).0) bad e in
      let own = none_less (λ t. is_of t k) (λ t. is_below t k.space) (λ t h. subst (λ (s : List ℕ). is_below s k.space ≡ true) (of_space t k h) (below_itself k.space)) bad e in
      ap (λ (b : Bool). left_by b (list_any (λ t. is_of t k) bad) k) above ∙ ap (λ (b : Bool). left_by false b k) own

  pub left_fallen : (k : Layer) → falls layers (parent_of k.space) ≡ false → Contains bad k.space → left_of bad k ≡ failed k ∷ []
  left_fallen k e c =
      let above = none_less (λ t. is_properly_below t k.space) (λ t. is_below t (parent_of k.space)) (λ t h. under_parent k.space t h) bad e in
      let own = by_some (λ t. is_of t k) bad k.space c (names_equal k.space) in
      ap (λ (b : Bool). left_by b (list_any (λ t. is_of t k) bad) k) above ∙ ap (λ (b : Bool). left_by false b k) own

  pub left_gone : (k : Layer) → is_top k.space ≡ false → falls layers (parent_of k.space) ≡ true → left_of bad k ≡ []
  left_gone k inner e =
      let r = some_of (λ t. is_below t (parent_of k.space)) bad e in
      ap (λ (b : Bool). left_by b (list_any (λ t. is_of t k) bad) k) (by_some (λ t. is_properly_below t k.space) bad r.0 r.1 (over_itself k.space r.0 inner r.2))

  -- What is seen then

  pub view_left : (t : List ℕ) → falls layers t ≡ false → view left t ≡ view layers t
  view_left t e = fold_view bad layers t e

  pub above_left : (t : List ℕ) → (is_top t ≡ false → falls layers (parent_of t) ≡ false) → seen_above left t ≡ seen_above layers t
  above_left t e = above_same layers left t (λ n. view_left (parent_of t) (e n))

  pub homes_left : IsTree layers → (t : List ℕ) → falls layers t ≡ false → KeepsHomes layers left t
  homes_left tree t e = homes_kept layers left t (λ k c b. (k, contains-from_In left k (stays k c b), refl, omega arith))
    where
      stays : (k : Layer) → Contains layers k → is_below k.space t ≡ true → In k left
      stays k c b =
          let stands = none_less (λ s. is_below s k.space) (λ s. is_below s t) (λ s h. below_trans s k.space t h b) bad e in
          subst (In k) (sym (fold_left bad layers tree)) (In-flat (left_of bad) k k layers (In-from_contains layers k c) (subst (In k) (sym (left_standing k stands)) (inl refl)))

-- In the order of names all that is below a space stands right behind it, and nothing else between.
use Rattle.std.proofs.Common.{◌≡◌, inl, inr, ℕ, zero, suc, ◌+◌, ◌-◌, ◌<◌, ◌≤◌, nat_eq, Bool, true, false, cond, List, [], ◌∷◌, Contains, drop, take, length, length-append, Some, None, refl, sym, ap, subst, ◌∙◌, arith}
use Rattle.std.specs.Prelude.{slice_get}
use Rattle.std.specs.List.{list_all, find}
use Rattle.std.proofs.lemmas.Bool.Decides.{nat_tests}
use Rattle.std.proofs.Math.Seq.{take-nil}
use Rattle.oz_base.specs.Lists.{list_eq}
use Rattle.oz_base.specs.ListLaws.{list_eq-equivalence}
use Rattle.oz_semantics.specs.Names.{is_below, is_top, parent_of, child_name, space_lt}
use Rattle.oz_semantics.specs.Configurations.{is_of}
use Rattle.oz_semantics.specs.Spaces.{layers_below}
use Rattle.oz_semantics.specs.declared.configuration.Layer.{Layer}
use Rattle.oz_laws.proofs.SameLaws.{In, In-from_contains, contains-from_In, and-right, eq-true}
use Rattle.view_laws.specs.Trees.{is_ascending, names_of, IsTree}
use Rattle.view_laws.proofs.Members.{decide, not_both}
use Rattle.view_laws.proofs.ListLaws.{filter_none}
use Rattle.view_laws.proofs.NameLaws.{below_itself, above_parent}
use Rattle.view_laws.proofs.TreeLaws.{above_not_less}
use Rattle.space_core.proofs.BehindLaws.{later_name, none_behind}
use Rattle.stability.specs.Parts.{part}

-- Lists

-- those below it end where the first is not
front_only : (s : List ℕ) (ls : List Layer) (n : ℕ) → is_ascending (names_of ls) ≡ true → ((m : Layer) → In m ls → space_lt s m.space ≡ true)
    → ((k : ℕ) (m : Layer) → k < n → slice_get ls k ≡ Some m → is_below s m.space ≡ true) → ((r : Layer) → slice_get ls n ≡ Some r → is_below s r.space ≡ false)
    → layers_below ls s ≡ take n ls
front_only s [] n e less all stop = sym (take-nil n)
front_only s (r ∷ ls) zero e less all stop = none_behind s r ls e (less r (inl refl)) (stop r refl)
front_only s (x ∷ ls) (suc n) e less all stop =
    ap (λ b. cond b (x ∷ layers_below ls s) (layers_below ls s)) (all zero x (omega arith) refl)
    ∙ ap (λ ys. x ∷ ys) (front_only s ls n (and-right _ _ e) (λ m h. less m (inr h)) (λ k m h q. all (suc k) m (omega (arith, h)) q) (λ r q. stop r q))

item_in : (xs : List Layer) (i : ℕ) (x : Layer) → slice_get xs i ≡ Some x → In x xs
item_in [] i x k = cc
item_in (y ∷ ys) zero x k = inl (cc)
item_in (y ∷ ys) (suc i) x k = inr (item_in ys i x k)

-- So they are the layers from the place of the space to there
pub stands_together : (layers : List Layer) (place end : ℕ) (l : Layer) → is_ascending (names_of layers) ≡ true → slice_get layers place ≡ Some l → place < end
    → ((k : ℕ) (m : Layer) → place < k → k < end → slice_get layers k ≡ Some m → is_below l.space m.space ≡ true) → ((r : Layer) → slice_get layers end ≡ Some r → is_below l.space r.space ≡ false)
    → layers_below layers l.space ≡ part layers place end
stands_together [] place end l e there less all stop = cc
stands_together (m ∷ ls) zero zero l e there less all stop = absurd (omega (arith, less))
stands_together (m ∷ ls) zero (suc n) l e there less all stop = subst (λ (x : Layer). layers_below (m ∷ ls) x.space ≡ take (suc n - 0) (m ∷ ls)) same own
  where
    same : m ≡ l
    same = cc

    count : suc n ≡ suc n - 0
    count = omega arith

    own : layers_below (m ∷ ls) m.space ≡ take (suc n - 0) (m ∷ ls)
    own =
        ap (λ b. cond b (m ∷ layers_below ls m.space) (layers_below ls m.space)) (below_itself m.space)
        ∙ ap (λ ys. m ∷ ys)
        (front_only m.space ls n (and-right (list_all (space_lt m.space) (names_of ls)) (is_ascending (names_of ls)) e) (λ x h. later_name m ls x e h)
        (λ k x h q. subst (λ (y : Layer). is_below y.space x.space ≡ true) (sym same) (all (suc k) x (omega arith) (omega (arith, h)) q))
        (λ r q. subst (λ (y : Layer). is_below y.space r.space ≡ false) (sym same) (stop r q)))
        ∙ ap (λ k. take k (m ∷ ls)) count
stands_together (m ∷ ls) (suc p) zero l e there less all stop = absurd (omega (arith, less))
stands_together (m ∷ ls) (suc p) (suc n) l e there less all stop =
    ap (λ b. cond b (m ∷ layers_below ls l.space) (layers_below ls l.space)) before
    ∙ stands_together ls p n l (and-right _ _ e) there (omega (arith, less)) (λ k x h g q. all (suc k) x (omega (arith, h)) (omega (arith, g)) q) (λ r q. stop r q)
    ∙ ap (λ k. take k (drop p ls)) count
  where
    count : n - p ≡ suc n - suc p
    count = omega arith

    before : is_below l.space m.space ≡ false
    before = elim (decide (is_below l.space m.space)) [
      | inl k ↦ absurd (not_both _ (later_name m ls l e (item_in ls p l there)) (above_not_less m.space l.space k))
      | inr k ↦ k
    ]

-- What a loop over them knows

pub is_above_so : (s t u v : List ℕ) → s ≡ t → u ≡ v → is_below s u ≡ is_below t v
is_above_so s t u v e f = ap (λ a. is_below a u) e ∙ ap (is_below t) f

abbrev AllBelow : List Layer → ℕ → ℕ → Layer → Type 0
AllBelow layers place end l = (k : ℕ) (m : Layer) → place < k → k < end → slice_get layers k ≡ Some m → is_below l.space m.space ≡ true

pub one_more_below : (layers : List Layer) (place end : ℕ) (l : Layer) → ((m : Layer) → slice_get layers end ≡ Some m → is_below l.space m.space ≡ true) → AllBelow layers place end l
    → AllBelow layers place (end + 1) l
one_more_below layers place end l here all k m h g q = elim (decide (nat_eq k end)) [
  | inl e ↦ here m (ap (slice_get layers) (sym (eq-true k end e)) ∙ q)
  | inr e ↦ all k m h (before k end g e) q
]
  where
    before : (k end : ℕ) → k < end + 1 → nat_eq k end ≡ false → k < end
    before k end g e = grind (arith, nat_tests, g, e)

-- A space of which something is there is there

find_none : (space : List ℕ) (ls : List Layer) → find (is_of space) ls ≡ None → (l : Layer) → In l ls → list_eq l.space space ≡ false
find_none space [] e l h = elim h [ ]
find_none space (m ∷ ls) e l h = by (list_eq m.space space) refl e (find_none space ls) h
  where
    by : (b : Bool) → list_eq m.space space ≡ b → cond b (Some m) (find (is_of space) ls) ≡ None → (find (is_of space) ls ≡ None → (n : Layer) → In n ls → list_eq n.space space ≡ false) → In l (m ∷ ls)
        → list_eq l.space space ≡ false
    by true k f rest h = cc
    by false k f rest (inl q) = ap (λ (n : Layer). list_eq n.space space) (sym q) ∙ k
    by false k f rest (inr q) = rest f l q

parent_child : (s : List ℕ) (n : ℕ) → parent_of (child_name s n) ≡ s
parent_child [] n = refl
parent_child (a ∷ []) n = refl
parent_child (a ∷ b ∷ s) n = ap (λ t. a ∷ t) (parent_child (b ∷ s) n)

longer_child : (s : List ℕ) (n : ℕ) → length (child_name s n) ≡ length s + 1
longer_child s n = simp (length-append) (omega arith)

top_below : (s t : List ℕ) → is_top t ≡ true → is_below s t ≡ true → list_eq t s ≡ true
top_below [] [] e b = refl
top_below (a ∷ s) [] e b = cc
top_below s (c ∷ t) e b = cc

no_number : (s : List ℕ) → length s ≤ 0 → is_top s ≡ true
no_number [] w = refl
no_number (a ∷ s) w = absurd (omega (arith, w))

turned : (s t : List ℕ) → list_eq s t ≡ false → list_eq t s ≡ false
turned s t e = list_eq-equivalence.symm t s ∙ e

module _ (space : List ℕ) (layers : List Layer) (tree : IsTree layers) (absent : find (is_of space) layers ≡ None) where
  -- none is below it whose name has at most so many numbers
  none_of : (n : ℕ) (m : Layer) → Contains layers m → length m.space ≤ n → is_below space m.space ≡ true → ⊥
  none_of zero m h w b = not_both _ (top_below space m.space (no_number m.space w) b) (find_none space layers absent m (In-from_contains layers m h))
  none_of (suc n) m h w b = by (is_top m.space) refl (none_of n)
    where
      other : list_eq m.space space ≡ false
      other = find_none space layers absent m (In-from_contains layers m h)

      by : (t : Bool) → is_top m.space ≡ t → ((p : Layer) → Contains layers p → length p.space ≤ n → is_below space p.space ≡ true → ⊥) → ⊥
      by true e rest = not_both _ (top_below space m.space e b) other
      by false e rest =
          let g = tree.given m h e in
          let up : parent_of m.space ≡ g.parent.space = ap parent_of g.name ∙ parent_child g.parent.space g.number in
          let long : length m.space ≡ length g.parent.space + 1 = ap (λ (s : List ℕ). length s) g.name ∙ longer_child g.parent.space g.number in
          rest g.parent g.among (omega (arith, long, w)) (ap (is_below space) (sym up) ∙ sym (above_parent space m.space (turned m.space space other)) ∙ b)

  pub nothing_below : layers_below layers space ≡ []
  nothing_below = filter_none (λ (m : Layer). is_below space m.space) layers each_not
    where
      each_not : (m : Layer) → In m layers → is_below space m.space ≡ false
      each_not m h = elim (decide (is_below space m.space)) [
        | inl b ↦ absurd (none_of (length m.space) m (contains-from_In layers m h) (omega arith) b)
        | inr b ↦ b
      ]

-- A space is created where spaces below its parent fail: before or after, it comes to the same.
use Rattle.std.proofs.Common.{◌≡◌, inl, inr, ℕ, Bool, true, false, not, ◌&&◌, cond, List, [], ◌∷◌, refl, sym, ap, subst, ◌∙◌, Contains, Option, Some, filter, map, fold, unwrap_or}
use Rattle.oz_base.specs.Lists.{list_eq, put_before}
use Rattle.oz_base.specs.declared.names.Ident.{Ident}
use Rattle.oz_semantics.specs.Names.{is_below, is_properly_below, parent_of, space_lt}
use Rattle.oz_semantics.specs.Store.{View, is_consistent}
use Rattle.oz_semantics.specs.Configurations.{is_of, layer_at, view, in_layer, placed, new_layer, next_child, counting_child, failed}
use Rattle.oz_semantics.specs.Edits.{starting, created}
use Rattle.oz_semantics.specs.Settling.{may_fail, is_inconsistent, inconsistent_spaces, failing}
use Rattle.oz_semantics.specs.declared.configuration.Layer.{Layer}
use Rattle.oz_laws.proofs.SameLaws.{In, contains-from_In, and-left, and-right}
use Rattle.settle_laws.specs.Settles.{Settles}
use Rattle.settle_laws.proofs.EditLaws.{are_quiet}
use Rattle.settle_laws.proofs.ListEdits.{names_edit}
use Rattle.settle_laws.proofs.SettleLaws.{failing_quiet, not_above, keeps_own}
use Rattle.view_laws.specs.Trees.{IsTree, is_ascending, names_of}
use Rattle.view_laws.proofs.Members.{decide, each}
use Rattle.view_laws.proofs.ListLaws.{filter_in, in_map, map_in}
use Rattle.view_laws.proofs.NameLaws.{above_parent, equal_names}
use Rattle.view_laws.proofs.SightLaws.{creation_unseen, space_of}
use Rattle.view_laws.proofs.TreeLaws.{lt_trans, names_edited, fresh_before, failure_tree}
use Rattle.space_core.proofs.CreateLaws.{edit_put, parent_child, view_parent}

-- A new item that is put among others

-- before all of them
put_first : {A : Type 0} (test : A → Bool) (new : A) (xs : List A) → ((x : A) → In x xs → test x ≡ true) → put_before test new xs ≡ new ∷ xs
put_first test new [] h = refl
put_first test new (x ∷ xs) h = ap (λ (b : Bool). cond b (new ∷ x ∷ xs) (x ∷ put_before test new xs)) (h x (inl refl))

-- one that does not pass
pub filter_put_out : {A : Type 0} (p test : A → Bool) (new : A) → p new ≡ false → (xs : List A) → filter p (put_before test new xs) ≡ filter p xs
filter_put_out p test new e [] = ap (λ (b : Bool). cond b (new ∷ []) []) e
filter_put_out p test new e (x ∷ xs) = by (test x) (filter_put_out p test new e xs)
  where
    by : (b : Bool) → filter p (put_before test new xs) ≡ filter p xs → filter p (cond b (new ∷ x ∷ xs) (x ∷ put_before test new xs)) ≡ filter p (x ∷ xs)
    by true rest = ap (λ (b : Bool). cond b (new ∷ filter p (x ∷ xs)) (filter p (x ∷ xs))) e
    by false rest = ap (λ ys. cond (p x) (x ∷ ys) ys) rest

-- one that passes, where the layers are in the order of names
module _ (keep : Layer → Bool) (new : Layer) (passes : keep new ≡ true) where
  abbrev less : Layer → Bool
  less k = space_lt new.space k.space

  pub filter_put : (ls : List Layer) → is_ascending (names_of ls) ≡ true → filter keep (placed new ls) ≡ placed new (filter keep ls)
  filter_put [] o = ap (λ (b : Bool). cond b (new ∷ []) []) passes
  filter_put (k ∷ ls) o = by (less k) (keep k) refl refl (filter_put ls (and-right _ _ o))
    where
      all_less : less k ≡ true → (j : Layer) → In j (filter keep ls) → less j ≡ true
      all_less e j i =
          lt_trans new.space k.space j.space e
          (each (space_lt k.space) (names_of ls) (and-left _ _ o) j.space (contains-from_In (names_of ls) j.space (map_in (λ (m : Layer). m.space) ls j (filter_in keep ls j i).0)))

      by : (a b : Bool) → less k ≡ a → keep k ≡ b → filter keep (placed new ls) ≡ placed new (filter keep ls)
          → filter keep (cond a (new ∷ k ∷ ls) (k ∷ placed new ls)) ≡ placed new (cond b (k ∷ filter keep ls) (filter keep ls))
      by true true e f rest = rw (passes, f, e) refl
      by true false e f rest = rw (passes, f) (sym (put_first less new (filter keep ls) (all_less e)))
      by false true e f rest = rw (f, e) (ap (λ (js : List Layer). k ∷ js) rest)
      by false false e f rest = rw f rest

-- Spaces that fail

module _ (parent : List ℕ) (new : Layer) where
  abbrev made : List Layer → List Layer
  made ls = placed new (in_layer parent counting_child ls)

  counted_ascending : (ls : List Layer) → is_ascending (names_of ls) ≡ true → is_ascending (names_of (in_layer parent counting_child ls)) ≡ true
  counted_ascending ls o = ap is_ascending (names_edited (is_of parent) counting_child ls (λ l e. refl)) ∙ o

  made_failing : (t : List ℕ) → is_properly_below parent t ≡ true → is_below t new.space ≡ false → is_of t new ≡ false → (ls : List Layer) → is_ascending (names_of ls) ≡ true
      → failing (made ls) t ≡ made (failing ls t)
  made_failing t lower apart other ls o =
      ap (in_layer t failed) (filter_put (λ (k : Layer). not (is_properly_below t k.space)) new (ap (λ (b : Bool). not (b && not (list_eq t new.space))) apart) (in_layer parent counting_child ls) (counted_ascending ls o))
      ∙ edit_put (is_of t) (λ (k : Layer). space_lt new.space k.space) failed new other (λ k. refl) (filter (λ (k : Layer). not (is_properly_below t k.space)) (in_layer parent counting_child ls))
      ∙ ap (placed new) (failing_quiet parent t lower counting_child are_quiet.child ls)

  made_left : (ts : List (List ℕ)) → ((t : List ℕ) → In t ts → is_properly_below parent t ≡ true) → ((t : List ℕ) → In t ts → is_below t new.space ≡ false) → ((t : List ℕ) → In t ts → is_of t new ≡ false)
      → (ls : List Layer) → IsTree ls → fold failing (made ls) ts ≡ made (fold failing ls ts)
  made_left [] lower apart other ls tree = refl
  made_left (t ∷ ts) lower apart other ls tree =
      ap (λ (ks : List Layer). fold failing ks ts) (made_failing t (lower t (inl refl)) (apart t (inl refl)) (other t (inl refl)) ls tree.ordered)
      ∙ made_left ts (λ s i. lower s (inr i)) (λ s i. apart s (inr i)) (λ s i. other s (inr i)) (failing ls t) (failure_tree t ls tree)

-- Creation

module _ (parent : List ℕ) (procedure : Ident) (before : List Layer) (l : Layer) (tree : IsTree before) (at : layer_at before parent ≡ Some l) (sees : is_consistent (view before parent) ≡ true) where
  abbrev name : List ℕ
  name = next_child l

  abbrev new : Layer
  new = starting procedure (new_layer name)

  abbrev bad : List (List ℕ)
  bad = inconsistent_spaces before

  made_by : (ls : List Layer) → layer_at ls parent ≡ Some l → created parent procedure ls ≡ placed new (in_layer parent counting_child ls)
  made_by ls e = ap (λ (o : Option Layer). placed (starting procedure (new_layer (next_child (unwrap_or o (new_layer parent))))) (in_layer parent counting_child ls)) e

  parent_name : parent_of name ≡ parent
  parent_name = parent_child l.space l.next.child ∙ space_of before parent l at

  fresh : (k : Layer) → In k before → list_eq k.space name ≡ false
  fresh k i = elim (decide (list_eq k.space name)) [
    | inl q ↦ absurd (fresh_before before tree parent procedure l at k i (equal_names k.space name q))
    | inr q ↦ q
  ]

  new_sees : is_consistent (view before name) ≡ true
  new_sees = ap is_consistent (view_parent before name fresh ∙ ap (view before) parent_name) ∙ sees

  same_test : (k : Layer) → is_inconsistent (created parent procedure before) k ≡ is_inconsistent before k
  same_test k = ap (λ (v : View). may_fail k.status && not (is_consistent v)) (creation_unseen before parent k.space procedure)

  created_inconsistent : inconsistent_spaces (created parent procedure before) ≡ bad
  created_inconsistent =
      ap (λ (p : Layer → Bool). map (λ (k : Layer). k.space) (filter p (created parent procedure before))) (λ i k. same_test k i)
      ∙ ap (λ (ls : List Layer). map (λ (k : Layer). k.space) (filter (is_inconsistent before) ls)) (made_by before at)
      ∙ ap (map (λ (k : Layer). k.space)) (filter_put_out (is_inconsistent before) (λ (k : Layer). space_lt name k.space) new (ap not new_sees) (in_layer parent counting_child before))
      ∙ names_edit (λ (k : Layer). k.space) (is_inconsistent before) (is_of parent) counting_child (λ k. refl) (λ k. refl) before

  -- those that fail are other spaces than the new one, and not above it
  other_name : (t : List ℕ) → In t bad → list_eq name t ≡ false
  other_name t i = elim (decide (list_eq name t)) [
    | inl q ↦ (let m = in_map (λ (k : Layer). k.space) (filter (is_inconsistent before) before) t i in
        absurd (fresh_before before tree parent procedure l at m.0 (filter_in (is_inconsistent before) before m.0 m.1).0 (m.2 ∙ sym (equal_names name t q))))
    | inr q ↦ q
  ]

  not_over : (t : List ℕ) → In t bad → is_properly_below parent t ≡ true → is_below t name ≡ false
  not_over t i lower = above_parent t name (elim (decide (list_eq t name)) [
    | inl q ↦ (let m = in_map (λ (k : Layer). k.space) (filter (is_inconsistent before) before) t i in
        absurd (fresh_before before tree parent procedure l at m.0 (filter_in (is_inconsistent before) before m.0 m.1).0 (m.2 ∙ equal_names t name q)))
    | inr q ↦ q
  ]) ∙ ap (is_below t) parent_name ∙ not_above parent t lower

  pub create_settles : (after : List Layer) → Settles parent before after → Settles parent (created parent procedure before) (created parent procedure after)
  create_settles after s =
      let lower : (t : List ℕ) → In t bad → is_properly_below parent t ≡ true = λ t i. s.below t (contains-from_In bad t i) in
      record {
        below = λ t c. s.below t (subst (λ ts. Contains ts t) created_inconsistent c);
        left =
            made_by after ((keeps_own parent before after s).at ∙ at)
            ∙ ap (λ (ls : List Layer). placed new (in_layer parent counting_child ls)) s.left
            ∙ sym (made_left parent new bad lower (λ t i. not_over t i (lower t i)) other_name before tree)
            ∙ sym (ap (λ (ls : List Layer). fold failing ls bad) (made_by before at))
            ∙ sym (ap (fold failing (created parent procedure before)) created_inconsistent);
      }

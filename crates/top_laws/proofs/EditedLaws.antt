-- Edits of the tree by a thread that is none of the top's leave the top as it was.
use Rattle.std.proofs.Common.{◌≡◌, ℕ, Bool, true, false, not, if◌then◌else◌, cond, List, [], ◌∷◌, ◌++◌, inl, inr, refl, sym, ap, ◌∙◌, Option, Some, None, filter, map, unwrap_or, length, drop}
use Rattle.std.specs.Prelude.{◌-◌}
use Rattle.std.specs.List.{find}
use Rattle.std.proofs.lemmas.Bool.{false≢true}
use Rattle.oz_base.specs.Lists.{list_eq, put_before}
use Rattle.oz_language.specs.declared.kernel.Statement.{Statement}
use Rattle.oz_semantics.specs.Names.{is_top, is_below, is_properly_below, is_child_of, parent_of, space_lt}
use Rattle.oz_semantics.specs.Configurations.{is_of, layer_at, layer_of, in_layer, counting_child, new_layer, next_child, placed}
use Rattle.oz_semantics.specs.Answers.{Edit, Creates, Commits, Copies, Injects, TakesIn}
use Rattle.oz_semantics.specs.Renamings.{renamed_layer}
use Rattle.oz_semantics.specs.Edits.{starting, committing, moved, moving, all_placed, copied, taken_in, is_in, is_under, raised_child, space_into, merging, joined, merged_away}
use Rattle.oz_semantics.specs.Spaces.{sight}
use Rattle.oz_semantics.specs.Steps.{edited}
use Rattle.oz_semantics.specs.declared.configuration.Layer.{Layer}
use Rattle.oz_laws.proofs.SameLaws.{In, and-left}
use Rattle.view_laws.proofs.ListLaws.{in_map, filter_in}
use Rattle.view_laws.proofs.NameLaws.{equal_names}
use Rattle.view_laws.proofs.TreeLaws.{not_top_child}
use Rattle.view_laws.proofs.SightLaws.{space_of}
use Rattle.edit_laws.specs.Edits.{HasChild}
use Rattle.settle_laws.proofs.ListEdits.{find_edit, find_filter}
use Rattle.settle_laws.proofs.FitLaws.{FitsIn}
use Rattle.turn_laws.proofs.OrderlyLaws.{is_there, edited_orderly}
use Rattle.top_laws.proofs.SeenLaws.{top_sees}
use Rattle.top_laws.proofs.OutsideLaws.{LeavesTop, not_named, apart, never_properly}

-- What is found beside new items that do not pass

pub found_put : {A : Type 0} (test other : A → Bool) (new : A) → test new ≡ false → (xs : List A) → find test (put_before other new xs) ≡ find test xs
found_put test other new e [] = ap (λ (b : Bool). cond b (Some new) None) e
found_put {A = A} test other new e (x ∷ xs) = by (other x) (found_put test other new e xs)
  where
    by : (b : Bool) → find test (put_before other new xs) ≡ find test xs → find test (cond b (new ∷ x ∷ xs) (x ∷ put_before other new xs)) ≡ find test (x ∷ xs)
    by true rest = ap (λ (b : Bool). cond b (Some new) (find test (x ∷ xs))) e
    by false rest = ap (λ (o : Option A). cond (test x) (Some x) o) rest

found_all : (news ls : List Layer) → ((n : Layer) → In n news → is_of [] n ≡ false) → layer_at (all_placed news ls) [] ≡ layer_at ls []
found_all [] ls h = refl
found_all (n ∷ news) ls h =
    found_all news (placed n ls) (λ m i. h m (inr i)) ∙ found_put (is_of []) (λ (other : Layer). space_lt n.space other.space) n (h n (inl refl)) ls

-- Names that go on from one that is not the top's

goes_on_inner : (s t : List ℕ) → is_top s ≡ false → is_top (s ++ t) ≡ false
goes_on_inner [] t e = absurd (false≢true (sym e))
goes_on_inner (n ∷ s) t e = refl

moved_inner : (from to u : List ℕ) → is_top to ≡ false → is_below from u ≡ true → is_top (moved from to u) ≡ false
moved_inner from to u e below =
    ap (λ (b : Bool). is_top (if b then to ++ drop (length from) u else u)) below ∙ goes_on_inner to (drop (length from) u) e

raised_inner : (parent : List ℕ) (by : ℕ) (u : List ℕ) → is_top parent ≡ false → is_top (raised_child parent by u) ≡ false
raised_inner parent by [] e = e
raised_inner parent by (n ∷ u) e = goes_on_inner parent _ e

into_inner : (s p : Layer) (u : List ℕ) → is_top p.space ≡ false → is_properly_below s.space u ≡ true → is_top (space_into s p u) ≡ false
into_inner s p u e below =
    ap (λ (b : Bool). is_top (if b then raised_child p.space (p.next.child - 1) (drop (length s.space) u) else u)) below
    ∙ raised_inner p.space (p.next.child - 1) (drop (length s.space) u) e

child_inner : (parent child : List ℕ) → is_child_of parent child ≡ true → is_top child ≡ false
child_inner parent child e = by (is_top child) (and-left (not (is_top child)) (list_eq (parent_of child) parent) e)
  where
    by : (b : Bool) → not b ≡ true → b ≡ false
    by true k = absurd (false≢true k)
    by false k = refl

-- An edit of one layer

beside : (space : List ℕ) (f : Layer → Layer) (layers : List Layer) → is_top space ≡ false → ((l : Layer) → (f l).space ≡ l.space) → layer_at (in_layer space f layers) [] ≡ layer_at layers []
beside space f layers inner named = find_edit (is_of []) (is_of space) f (λ l. ap (λ s. list_eq s []) (named l)) (apart space inner) layers

-- Copies, and what becomes a part of its parent

module _ (layers : List Layer) (parent child : List ℕ) (inner : is_top parent ≡ false) (has : HasChild layers parent child) where
  abbrev to : List ℕ
  to = next_child (layer_of layers parent)

  copies_inner : (n : Layer) → In n (map (renamed_layer (moving child to)) (filter (is_in child) layers)) → is_of [] n ≡ false
  copies_inner n i =
      let r = in_map (renamed_layer (moving child to)) (filter (is_in child) layers) n i in
      let f = filter_in (is_in child) layers r.0 r.1 in
      ap (is_of []) (sym r.2)
      ∙ not_named (moved child to r.0.space) (moved_inner child to r.0.space (not_top_child (layer_of layers parent).space (layer_of layers parent).next.child) f.1)

  abbrev s : Layer
  s = layer_of layers child

  abbrev p : Layer
  p = layer_of layers parent

  p_named : p.space ≡ parent
  p_named = space_of layers parent p (is_there layers parent has.parent_there)

  s_named : s.space ≡ child
  s_named = space_of layers child s (is_there layers child has.child_there)

  p_inner : is_top p.space ≡ false
  p_inner = ap is_top p_named ∙ inner

  s_inner : is_top s.space ≡ false
  s_inner = ap is_top s_named ∙ child_inner parent child has.below

  moved_in : (n : Layer) → In n (map (renamed_layer (merging s p)) (filter (is_under s.space) layers)) → is_of [] n ≡ false
  moved_in n i =
      let r = in_map (renamed_layer (merging s p)) (filter (is_under s.space) layers) n i in
      let f = filter_in (is_under s.space) layers r.0 r.1 in
      ap (is_of []) (sym r.2) ∙ not_named (space_into s p r.0.space) (into_inner s p r.0.space p_inner f.1)

  top_stays : (l : Layer) → is_of [] l ≡ true → not (is_under s.space l) ≡ true
  top_stays l e = ap (λ (u : List ℕ). not (is_properly_below s.space u)) (equal_names l.space [] e) ∙ ap not (never_properly s.space)

  pub copied_top : layer_at (copied parent child layers) [] ≡ layer_at layers []
  copied_top =
      found_all (map (renamed_layer (moving child to)) (filter (is_in child) layers)) (in_layer parent counting_child layers) copies_inner
      ∙ beside parent counting_child layers inner (λ l. refl)

  pub taken_top : layer_at (taken_in parent child layers) [] ≡ layer_at layers []
  taken_top =
      let rest : List Layer = filter (λ (l : Layer). not (is_under s.space l)) layers in
      found_all (map (renamed_layer (merging s p)) (filter (is_under s.space) layers))
      (in_layer p.space (joined (renamed_layer (merging s p) s)) (in_layer s.space merged_away rest)) moved_in
      ∙ beside p.space (joined (renamed_layer (merging s p) s)) (in_layer s.space merged_away rest) p_inner (λ l. refl)
      ∙ beside s.space merged_away rest s_inner (λ l. refl)
      ∙ find_filter (is_of []) (λ (l : Layer). not (is_under s.space l)) top_stays layers

-- Each edit of a step

edited_top : (statements : List Statement) (parent : List ℕ) (edit : Edit) (layers : List Layer) → is_top parent ≡ false → FitsIn layers parent edit
    → layer_at (edited statements parent edit layers) [] ≡ layer_at layers []
edited_top statements parent (Creates procedure x) layers inner fits =
    let new : Layer = starting procedure (new_layer (next_child (layer_of layers parent))) in
    found_put (is_of []) (λ (other : Layer). space_lt new.space other.space) new
    (not_named new.space (not_top_child (layer_of layers parent).space (layer_of layers parent).next.child)) (in_layer parent counting_child layers)
    ∙ beside parent counting_child layers inner (λ l. refl)
edited_top statements parent (Commits child i) layers inner fits = beside child (committing (sight statements layers child) i) layers (child_inner parent child fits.below) (λ l. refl)
edited_top statements parent (Copies child x) layers inner fits = copied_top layers parent child inner fits
edited_top statements parent (Injects child procedure) layers inner fits = beside child (starting procedure) layers (child_inner parent child fits.below) (λ l. refl)
edited_top statements parent (TakesIn child x) layers inner fits = taken_top layers parent child inner fits

pub edited_leaves : (statements : List Statement) (parent : List ℕ) (edit : Edit) (before layers : List Layer) → is_top parent ≡ false → FitsIn layers parent edit → LeavesTop before layers
    → LeavesTop before (edited statements parent edit layers)
edited_leaves statements parent edit before layers inner fits leaves =
    let good = edited_orderly statements parent edit layers fits leaves.good in
    let same = edited_top statements parent edit layers inner fits in
    record {
      good = good;
      same = same ∙ leaves.same;
      seen =
          top_sees (edited statements parent edit layers) good
          ∙ ap (λ (o : Option Layer). (unwrap_or o (new_layer [])).tells) same
          ∙ sym (top_sees layers leaves.good)
          ∙ leaves.seen;
    }

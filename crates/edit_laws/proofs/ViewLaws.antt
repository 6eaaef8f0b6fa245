-- What is seen of lists of layers: from the names' ends.
use Rattle.std.proofs.Common.{◌≡◌, inl, inr, ℕ, Bool, true, false, not, cond, if◌then◌else◌, List, [], ◌∷◌, ◌++◌, drop, length, filter, map, refl, sym, ap, ap₂, subst, ◌∙◌, append_assoc, Option, Some, None, is_some, option_map, unwrap_or}
use Rattle.std.specs.List.{find, list_all}
use Rattle.std.proofs.lemmas.Bool.{false≢true}
use Rattle.std.proofs.lemmas.List.{append-nil, map-append}
use Rattle.oz_base.specs.Lists.{edit_first, put_before}
use Rattle.oz_semantics.specs.Names.{is_below, is_properly_below, is_top, parent_of, child_name, is_child_of}
use Rattle.oz_semantics.specs.Configurations.{is_of, layer_at, layer_of, view, in_layer, new_layer, placed, telling, counting_child}
use Rattle.oz_semantics.specs.Edits.{starting, all_placed, is_in, is_under}
use Rattle.oz_semantics.specs.declared.value.Tell.{Tell}
use Rattle.oz_semantics.specs.declared.configuration.Layer.{Layer}
use Rattle.oz_laws.proofs.SameLaws.{In, and-left, and-right}
use Rattle.view_laws.specs.Sights.{is_led}
use Rattle.view_laws.specs.Trees.{is_ascending, names_of, IsTree}
use Rattle.view_laws.proofs.Members.{decide, not_both}
use Rattle.view_laws.proofs.NameLaws.{below_itself, below_trans, below_anti, above_parent, properly}
use Rattle.view_laws.proofs.ListLaws.{filter_in, found_in}
use Rattle.view_laws.proofs.SightLaws.{tells_to, tells_none, tells_all, of_space, space_of, later_silent, view_splits, quiet_unseen}
use Rattle.view_laws.proofs.TreeLaws.{ascending_leads, ascending_filter}
use Rattle.edit_laws.specs.Sights.{view_from, view_under, ViewParts, FromParts, TellLast, InjectionUnseen}
use Rattle.edit_laws.proofs.NameLaws.{below_front, longer, properly_front, not_top_longer, parent_child, child_of, goes_on_from, child_front, Built, empty, more, built}
use Rattle.edit_laws.proofs.GraftLaws.{has_of_in, found_itself, is_before}

-- Layers that tell nothing

pub silent : (other : List ℕ) (ls : List Layer) → ((l : Layer) → In l ls → is_below l.space other ≡ false) → view ls other ≡ []
silent other [] h = refl
silent other (l ∷ ls) h = ap₂ (λ (ts us : List Tell). ts ++ us) (tells_none other l (h l (inl refl))) (silent other ls (λ m i. h m (inr i)))

put_silent : (test : Layer → Bool) (new : Layer) (other : List ℕ) → is_below new.space other ≡ false → (ls : List Layer) → view (put_before test new ls) other ≡ view ls other
put_silent test new other e [] = ap (λ (ts : List Tell). ts ++ []) (tells_none other new e)
put_silent test new other e (l ∷ ls) = by (test l) (put_silent test new other e ls)
  where
    by : (b : Bool) → view (put_before test new ls) other ≡ view ls other → view (cond b (new ∷ l ∷ ls) (l ∷ put_before test new ls)) other ≡ view (l ∷ ls) other
    by true rest = ap (λ (ts : List Tell). ts ++ view (l ∷ ls) other) (tells_none other new e)
    by false rest = ap (λ (ts : List Tell). tells_to other l ++ ts) rest

pub all_put_silent : (ns ls : List Layer) (other : List ℕ) → ((n : Layer) → In n ns → is_below n.space other ≡ false) → view (all_placed ns ls) other ≡ view ls other
all_put_silent [] ls other h = refl
all_put_silent (n ∷ ns) ls other h = all_put_silent ns (placed n ls) other (λ m i. h m (inr i)) ∙ put_silent (is_before n) n other (h n (inl refl)) ls

pub filter_silent : (keep : Layer → Bool) (other : List ℕ) → ((l : Layer) → keep l ≡ false → is_below l.space other ≡ false) → (ls : List Layer) → view (filter keep ls) other ≡ view ls other
filter_silent keep other h [] = refl
filter_silent keep other h (l ∷ ls) = by (keep l) refl (filter_silent keep other h ls)
  where
    by : (b : Bool) → keep l ≡ b → view (filter keep ls) other ≡ view ls other → view (cond b (l ∷ filter keep ls) (filter keep ls)) other ≡ view (l ∷ ls) other
    by true e rest = ap (λ (ts : List Tell). tells_to other l ++ ts) rest
    by false e rest = rest ∙ ap (λ (ts : List Tell). ts ++ view ls other) (sym (tells_none other l (h l e)))

-- A space and its parent

found_kept : {A : Type 0} (keep test : A → Bool) → ((x : A) → test x ≡ true → keep x ≡ true) → (xs : List A) → find test (filter keep xs) ≡ find test xs
found_kept keep test h [] = refl
found_kept {A = A} keep test h (x ∷ xs) = by (keep x) (test x) refl refl (found_kept keep test h xs)
  where
    by : (b c : Bool) → keep x ≡ b → test x ≡ c → find test (filter keep xs) ≡ find test xs → find test (cond b (x ∷ filter keep xs) (filter keep xs)) ≡ cond c (Some x) (find test xs)
    by true true e f rest = ap (λ (d : Bool). cond d (Some x) (find test (filter keep xs))) f
    by true false e f rest = ap (λ (d : Bool). cond d (Some x) (find test (filter keep xs))) f ∙ rest
    by false true e f rest = absurd (not_both _ (h x f) e)
    by false false e f rest = rest

module _ (space : List ℕ) (inner : is_top space ≡ false) where
  absent_step : (layers : List Layer) → layer_at layers space ≡ None → view layers space ≡ view layers (parent_of space)
  absent_step [] e = refl
  absent_step (l ∷ ls) e = by (is_of space l) refl e (absent_step ls)
    where
      by : (b : Bool) → is_of space l ≡ b → cond b (Some l) (find (is_of space) ls) ≡ None → (find (is_of space) ls ≡ None → view ls space ≡ view ls (parent_of space)) → view (l ∷ ls) space ≡ view (l ∷ ls) (parent_of space)
      by true k f rest = cc
      by false k f rest = ap₂ (λ (b : Bool) (us : List Tell). (if b then l.tells else []) ++ us) (above_parent l.space space k) (rest f)

  -- a space sees what its parent sees, and then what it was told itself, if it is there
  pub view_step : (layers : List Layer) → is_ascending (names_of layers) ≡ true → view layers space ≡ view layers (parent_of space) ++ (layer_of layers space).tells
  view_step layers e = by (layer_at layers space) refl
    where
      by : (o : Option Layer) → layer_at layers space ≡ o → view layers space ≡ view layers (parent_of space) ++ (unwrap_or o (new_layer space)).tells
      by None k = absent_step layers k ∙ sym (append-nil (view layers (parent_of space)))
      by (Some l) k = view_splits layers space l (ascending_leads layers e) inner k

  -- so of some of the layers
  pub kept_step : (keep : Layer → Bool) → ((l : Layer) → is_of space l ≡ true → keep l ≡ true) → (layers : List Layer) → is_ascending (names_of layers) ≡ true
      → view (filter keep layers) space ≡ view (filter keep layers) (parent_of space) ++ (layer_of layers space).tells
  kept_step keep h layers e =
      view_step (filter keep layers) (ascending_filter keep layers e)
      ∙ ap (λ (o : Option Layer). view (filter keep layers) (parent_of space) ++ (unwrap_or o (new_layer space)).tells) (found_kept keep (is_of space) h layers)

-- two lists of tells that grow alike at the ends of names
module _ (f : Tell → Tell) (more_told : List ℕ → List Tell) (one other : List ℕ → List Tell) (front_told : List Tell) where
  pub grow_alike : one [] ≡ front_told ++ map f (other []) → ((front : List ℕ) (last : ℕ) → one (front ++ last ∷ []) ≡ one front ++ map f (more_told (front ++ last ∷ [])))
      → ((front : List ℕ) (last : ℕ) → other (front ++ last ∷ []) ≡ other front ++ more_told (front ++ last ∷ [])) → (u : List ℕ) → Built u → one u ≡ front_told ++ map f (other u)
  grow_alike first step next u (empty e) = ap one e ∙ first ∙ ap (λ v. front_told ++ map f (other v)) (sym e)
  grow_alike first step next u (more {front = front} last e b) =
      ap one e ∙ step front last ∙ ap (λ (ts : List Tell). ts ++ map f (more_told (front ++ last ∷ []))) (grow_alike first step next front b)
      ∙ append_assoc front_told (map f (other front)) (map f (more_told (front ++ last ∷ [])))
      ∙ ap (λ (ts : List Tell). front_told ++ ts) (sym (map-append f (other front) (more_told (front ++ last ∷ []))))
      ∙ ap (λ (ts : List Tell). front_told ++ map f ts) (sym (next front last)) ∙ ap (λ v. front_told ++ map f (other v)) (sym e)

pub map_same : (ts : List Tell) → map (λ (t : Tell). t) ts ≡ ts
map_same [] = refl
map_same (t ∷ ts) = ap (λ us. t ∷ us) (map_same ts)

-- a step at the end of a name that goes on
pub step_at : (keep : Layer → Bool) (from : List ℕ) (layers : List Layer) → is_ascending (names_of layers) ≡ true
    → (front : List ℕ) (last : ℕ) → ((l : Layer) → is_of (from ++ (front ++ last ∷ [])) l ≡ true → keep l ≡ true)
    → view (filter keep layers) (from ++ (front ++ last ∷ [])) ≡ view (filter keep layers) (from ++ front) ++ (layer_of layers (from ++ (front ++ last ∷ []))).tells
step_at keep from layers e front last h =
    let name : from ++ (front ++ last ∷ []) ≡ child_name (from ++ front) last = sym (child_front from front last) in
    kept_step (from ++ (front ++ last ∷ [])) (ap is_top name ∙ not_top_longer (from ++ front) last []) keep h layers e
    ∙ ap (λ v. view (filter keep layers) v ++ (layer_of layers (from ++ (front ++ last ∷ []))).tells) (ap parent_of name ∙ parent_child (from ++ front) last)

pub whole_at : (from : List ℕ) (layers : List Layer) → is_ascending (names_of layers) ≡ true
    → (front : List ℕ) (last : ℕ) → view layers (from ++ (front ++ last ∷ [])) ≡ view layers (from ++ front) ++ (layer_of layers (from ++ (front ++ last ∷ []))).tells
whole_at from layers e front last =
    let name : from ++ (front ++ last ∷ []) ≡ child_name (from ++ front) last = sym (child_front from front last) in
    view_step (from ++ (front ++ last ∷ [])) (ap is_top name ∙ not_top_longer (from ++ front) last []) layers e
    ∙ ap (λ v. view layers v ++ (layer_of layers (from ++ (front ++ last ∷ []))).tells) (ap parent_of name ∙ parent_child (from ++ front) last)

pub in_of : (child u : List ℕ) (l : Layer) → is_of (child ++ u) l ≡ true → is_in child l ≡ true
in_of child u l e = subst (λ v. is_below child v ≡ true) (sym (of_space (child ++ u) l e)) (below_front child u)

pub under_of : (above : List ℕ) (n : ℕ) (u : List ℕ) (l : Layer) → is_of (above ++ n ∷ u) l ≡ true → is_under above l ≡ true
under_of above n u l e = ap (is_properly_below above) (of_space (above ++ n ∷ u) l e) ∙ properly_front above n u

-- one that is properly below a space is not above it
pub not_above : (s t : List ℕ) → is_properly_below s t ≡ true → is_below t s ≡ false
not_above s t e = elim (decide (is_below t s)) [
  | inl k ↦ (let q = properly s t e in absurd (q.1 (below_anti s t q.0 k)))
  | inr k ↦ k
]

-- nor one of another's child
pub child_above : (parent child : List ℕ) → is_child_of parent child ≡ true → is_below child parent ≡ false
child_above parent child e =
    let c = child_of parent child e in
    elim (decide (is_below child parent)) [
      | inl k ↦ absurd (longer parent c.0 (drop (length child) parent) (goes_on_from child parent k ∙ ap (λ u. u ++ drop (length child) parent) c.1 ∙ append_assoc parent (c.0 ∷ []) (drop (length child) parent)))
      | inr k ↦ k
    ]

pub child_inner : (parent child : List ℕ) → is_child_of parent child ≡ true → is_top child ≡ false
child_inner parent child e = let c = child_of parent child e in ap is_top c.1 ∙ not_top_longer parent c.0 []

pub child_parent : (parent child : List ℕ) → is_child_of parent child ≡ true → parent_of child ≡ parent
child_parent parent child e = let c = child_of parent child e in ap parent_of c.1 ∙ parent_child parent c.0

-- nothing below a space is above it
pub under_itself : (above : List ℕ) (layers : List Layer) → view_under layers above above ≡ []
under_itself above layers = silent above (filter (is_under above) layers) (λ l i. not_above above l.space (filter_in (is_under above) layers l i).1)

module _ (layers : List Layer) (parent child : List ℕ) (t : IsTree layers) (below : is_child_of parent child ≡ true) where
  -- of what was told from the child on, its parent sees nothing
  from_parent : view_from layers child parent ≡ []
  from_parent = silent parent (filter (is_in child) layers) (λ l i. by l (filter_in (is_in child) layers l i).1)
    where
      by : (l : Layer) → is_in child l ≡ true → is_below l.space parent ≡ false
      by l e = elim (decide (is_below l.space parent)) [
        | inl k ↦ absurd (not_both _ (below_trans child l.space parent e k) (child_above parent child below))
        | inr k ↦ k
      ]

  pub from_itself : view_from layers child child ≡ (layer_of layers child).tells
  from_itself =
      kept_step child (child_inner parent child below) (is_in child) (λ l e. subst (λ v. is_below child v ≡ true) (sym (of_space child l e)) (below_itself child)) layers t.ordered
      ∙ ap (λ v. view_from layers child v ++ (layer_of layers child).tells) (child_parent parent child below)
      ∙ ap (λ (ts : List Tell). ts ++ (layer_of layers child).tells) from_parent

  abbrev own : List ℕ → List Tell
  own u = (layer_of layers (child ++ u)).tells

  abbrev from : List ℕ → List Tell
  from u = view_from layers child (child ++ u)

  pub from_step : (front : List ℕ) (last : ℕ) → from (front ++ last ∷ []) ≡ from front ++ own (front ++ last ∷ [])
  from_step front last = step_at (is_in child) child layers t.ordered front last (in_of child (front ++ last ∷ []))

  pub from_first : from [] ≡ (layer_of layers child).tells
  from_first = ap (view_from layers child) (append-nil child) ∙ from_itself

  whole_first : view layers (child ++ []) ≡ view layers parent ++ map (λ (t : Tell). t) (from [])
  whole_first =
      ap (view layers) (append-nil child) ∙ view_step child (child_inner parent child below) layers t.ordered
      ∙ ap₂ (λ v (ts : List Tell). view layers v ++ ts) (child_parent parent child below) (sym from_first ∙ sym (map_same (from [])))

  whole_parts : (u : List ℕ) → view layers (child ++ u) ≡ view layers parent ++ from u
  whole_parts u =
      grow_alike (λ t. t) own (λ v. view layers (child ++ v)) from (view layers parent) whole_first
      (λ front last. whole_at child layers t.ordered front last ∙ ap (λ (ts : List Tell). view layers (child ++ front) ++ ts) (sym (map_same (own (front ++ last ∷ [])))))
      from_step u (built u)
      ∙ ap (λ (ts : List Tell). view layers parent ++ ts) (map_same (from u))

  abbrev under : List ℕ → List Tell
  under u = view_under layers child (child ++ u)

  under_step : (front : List ℕ) (last : ℕ) → under (front ++ last ∷ []) ≡ under front ++ own (front ++ last ∷ [])
  under_step [] last = step_at (is_under child) child layers t.ordered [] last (under_of child last [])
  under_step (n ∷ front) last = step_at (is_under child) child layers t.ordered (n ∷ front) last (under_of child n (front ++ last ∷ []))

  under_first : from [] ≡ (layer_of layers child).tells ++ map (λ (t : Tell). t) (under [])
  under_first =
      from_first ∙ sym (append-nil (layer_of layers child).tells)
      ∙ ap (λ (ts : List Tell). (layer_of layers child).tells ++ ts) (sym (map_same (under []) ∙ ap (view_under layers child) (append-nil child) ∙ under_itself child layers))

  under_parts : (u : List ℕ) → from u ≡ (layer_of layers child).tells ++ under u
  under_parts u =
      grow_alike (λ t. t) own from under (layer_of layers child).tells under_first
      (λ front last. from_step front last ∙ ap (λ (ts : List Tell). from front ++ ts) (sym (map_same (own (front ++ last ∷ [])))))
      under_step u (built u)
      ∙ ap (λ (ts : List Tell). (layer_of layers child).tells ++ ts) (map_same (under u))

pub view_parts : ViewParts
view_parts layers parent child space t below inside =
    subst (λ s. view layers s ≡ view layers parent ++ view_from layers child s) (sym (goes_on_from child space inside)) (whole_parts layers parent child t below (drop (length child) space))

pub from_parts : FromParts
from_parts layers parent child space t below inside =
    subst (λ s. view_from layers child s ≡ (layer_of layers child).tells ++ view_under layers child s) (sym (goes_on_from child space inside)) (under_parts layers parent child t below (drop (length child) space))

-- What is told last

module _ (space : List ℕ) (ts : List Tell) where
  told_here : (l : Layer) (ls : List Layer) → l.space ≡ space → list_all (λ (m : Layer). not (is_below m.space l.space)) ls ≡ true → view (telling ts l ∷ ls) space ≡ view (l ∷ ls) space ++ ts
  told_here l ls e led =
      let inside : is_below l.space space ≡ true = subst (λ s. is_below l.space s ≡ true) e (below_itself l.space) in
      let rest : view ls space ≡ [] = later_silent space space ls (λ s k. k) (subst (λ s. list_all (λ (m : Layer). not (is_below m.space s)) ls ≡ true) e led) in
      ap₂ (λ (us vs : List Tell). us ++ vs) (tells_all space (telling ts l) inside) rest ∙ append-nil (l.tells ++ ts)
      ∙ sym (ap (λ (us : List Tell). us ++ ts) (ap₂ (λ (us vs : List Tell). us ++ vs) (tells_all space l inside) rest ∙ append-nil l.tells))

  told_last : (layers : List Layer) → is_led layers ≡ true → is_some (layer_at layers space) ≡ true → view (in_layer space (telling ts) layers) space ≡ view layers space ++ ts
  told_last [] led e = absurd (false≢true e)
  told_last (l ∷ ls) led e = by (is_of space l) refl e (told_last ls (and-right _ _ led))
    where
      by : (b : Bool) → is_of space l ≡ b → is_some (cond b (Some l) (find (is_of space) ls)) ≡ true
          → (is_some (find (is_of space) ls) ≡ true → view (edit_first (is_of space) (telling ts) ls) space ≡ view ls space ++ ts)
          → view (cond b (telling ts l ∷ ls) (l ∷ edit_first (is_of space) (telling ts) ls)) space ≡ view (l ∷ ls) space ++ ts
      by true k f rest = told_here l ls (of_space space l k) (and-left _ _ led)
      by false k f rest = ap (λ (us : List Tell). tells_to space l ++ us) (rest f) ∙ sym (append_assoc (tells_to space l) (view ls space) ts)

pub tell_last : TellLast
tell_last layers space ts t there = told_last space ts layers (ascending_leads layers t.ordered) there

pub injection_unseen : InjectionUnseen
injection_unseen space other procedure layers = quiet_unseen (starting procedure) layers space other (λ l e. refl) (λ l e. refl)

-- Layers that others are images of

pub image_found : (layers after : List Layer) (g : Layer → Layer) (name new : List ℕ) → is_ascending (names_of after) ≡ true
    → ((l : Layer) → In l layers → l.space ≡ name → In (g l) after × ((g l).space ≡ new)) → ((m : Layer) → In m after → m.space ≡ new → (l : Layer) × In l layers × (l.space ≡ name))
    → layer_at after new ≡ option_map g (layer_at layers name)
image_found layers after g name new e goes comes = by (layer_at layers name) refl
  where
    none : (o : Option Layer) → layer_at after new ≡ o → layer_at layers name ≡ None → o ≡ None
    none None k f = refl
    none (Some m) k f =
        let i = found_in (is_of new) counting_child after m k in
        let l = comes m i.0 (space_of after new m k) in
        absurd (not_both _ (has_of_in layers l.0 name l.1 l.2) (ap (λ (o : Option Layer). is_some o) f))

    by : (o : Option Layer) → layer_at layers name ≡ o → layer_at after new ≡ option_map g o
    by None f = none (layer_at after new) refl f
    by (Some l) f =
        let r = goes l (found_in (is_of name) counting_child layers l f).0 (space_of layers name l f) in
        subst (λ s. layer_at after s ≡ Some (g l)) r.1 (found_itself after (g l) e r.0)

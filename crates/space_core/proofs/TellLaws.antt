-- What is kept of the spaces fits their layers after an edit of a space.
use Rattle.std.proofs.Common.{◌≡◌, ◌≢◌, ◌⊎◌, inl, inr, ℕ, ◌<◌, ◌≤◌, suc, zero, Bool, true, false, not, if◌then◌else◌, cond, List, [], ◌∷◌, ◌++◌, length, drop, get_or, slice_set, slice_index_or, refl, sym, ap, ap₂, subst, ◌∙◌, arith, Contains, Some, append_assoc, length-append}
use Rattle.std.specs.List.{list_any, list_all, flat_map, find}
use Rattle.std.proofs.lemmas.Bool.{false≢true}
use Rattle.std.proofs.lemmas.List.{append-nil, length-map, get_or-map, drop-append-le}
use Rattle.std.proofs.lemmas.List.Folds.{list_all-append, list_any-append}
use Rattle.std.proofs.lemmas.Grind.{flat_map-append}
use Rattle.oz_base.specs.Lists.{list_eq}
use Rattle.oz_base.specs.declared.names.Ident.{Ident}
use Rattle.oz_semantics.specs.Names.{is_below, is_properly_below, is_top, parent_of}
use Rattle.oz_semantics.specs.Store.{named_by, is_consistent}
use Rattle.oz_semantics.specs.Configurations.{is_of, layer_at, view, in_layer, telling}
use Rattle.oz_semantics.specs.declared.value.Tell.{Tell}
use Rattle.oz_semantics.specs.declared.configuration.Layer.{Layer}
use Rattle.oz_laws.proofs.SameLaws.{In, In-from_contains, and-left, and-right}
use Rattle.view_laws.specs.Sights.{KeepsSpace, is_led}
use Rattle.view_laws.specs.Trees.{IsTree, is_ascending, names_of}
use Rattle.view_laws.specs.Spaceless.{gives_space}
use Rattle.view_laws.proofs.Members.{decide, not_both, and_both, by_some}
use Rattle.view_laws.proofs.NameLaws.{equal_names, names_equal, not_above_parent, properly_by}
use Rattle.view_laws.proofs.SightLaws.{of_space, space_of, change_unseen, later_silent, view_splits, parent_above}
use Rattle.view_laws.proofs.TreeLaws.{one_of_name, trees_lead, change_tree}
use Rattle.view_laws.proofs.SpacelessLaws.{or_false, left_false, right_false}
use Rattle.space_core.specs.Places.{IsFirst}
use Rattle.space_core.specs.Shown.{next_with, shown, shown_all, seen_above, is_home, Traces, IsBare, Fits, IsSound}
use Rattle.space_core.specs.Telling.{IsToldMore, has_below}
use Rattle.space_core.specs.declared.level.Level.{Level}
use Rattle.space_core.specs.declared.level.Numbers.{Numbers}
use Rattle.space_core.proofs.Firsts.{found_edited}
use Rattle.space_core.proofs.MemberLaws.{IsElsewhere, elsewhere_in, set_member, all_flat}
use Rattle.space_core.proofs.TraceLaws.{traces_twice}
use Rattle.space_core.proofs.SoundLaws.{Edited, KeepsHomes, shown_member, place_within, place_member, read_shown, all_home, set_shown, fits_after, above_same, homes_kept, changed_grown}

pub none_of : {A : Type 0} (p : A → Bool) (xs : List A) → list_any p xs ≡ false → (x : A) → Contains xs x → p x ≡ false
none_of p xs e x h = elim (decide (p x)) [ inl k ↦ absurd (not_both _ (by_some p xs x h k) e) | inr k ↦ k ]

-- Two layers of one name stand at one place

pub other_name : (ls : List Layer) (k p : ℕ) (a b : Layer) → is_ascending (names_of ls) ≡ true → k < length ls → p < length ls → get_or ls k a ≡ a → get_or ls p b ≡ b → k ≢ p → a.space ≡ b.space → ⊥
other_name [] k p a b o l m e f n q = absurd (omega arith)
other_name (c ∷ ls) zero zero a b o l m e f n q = n refl
other_name (c ∷ ls) zero (suc p) a b o l m e f n q =
    one_of_name c ls b o (In-from_contains ls b (p, omega arith, f)) (sym q ∙ ap (λ (x : Layer). x.space) (sym e))
other_name (c ∷ ls) (suc k) zero a b o l m e f n q =
    one_of_name c ls a o (In-from_contains ls a (k, omega arith, e)) (q ∙ ap (λ (x : Layer). x.space) (sym f))
other_name (c ∷ ls) (suc k) (suc p) a b o l m e f n q = other_name ls k p a b (and-right _ _ o) (omega arith) (omega arith) e f (λ s. n (ap (λ i. suc i) s)) q

-- What a space sees, by its own layer

not_top_below : (s : List ℕ) → is_top s ≡ false → is_below s [] ≡ false
not_top_below [] e = absurd (false≢true (sym e))
not_top_below (n ∷ s) e = refl

top_view : (layers : List Layer) (l : Layer) → is_led layers ≡ true → layer_at layers [] ≡ Some l → view layers [] ≡ l.tells
top_view [] l led e = cc
top_view (k ∷ ls) l led e = by (is_of [] k) refl e (top_view ls l (and-right _ _ led))
  where
    other : (s : List ℕ) → list_eq s [] ≡ false → is_below s [] ≡ false
    other [] f = absurd (false≢true (sym f))
    other (n ∷ s) f = refl

    by : (b : Bool) → is_of [] k ≡ b → cond b (Some k) (find (is_of []) ls) ≡ Some l → (find (is_of []) ls ≡ Some l → view ls [] ≡ l.tells) → view (k ∷ ls) [] ≡ l.tells
    by true o f rest =
        let same : k ≡ l = cc in
        let name : k.space ≡ [] = of_space [] k o in
        ap₂ (λ (s : List ℕ) (ts : List Tell). (if is_below s [] then k.tells else []) ++ ts) name
        (later_silent [] [] ls (λ s b. b) (subst (λ (s : List ℕ). list_all (λ (m : Layer). not (is_below m.space s)) ls ≡ true) name (and-left _ _ led)))
        ∙ append-nil k.tells ∙ ap (λ (m : Layer). m.tells) same
    by false o f rest = ap (λ (b : Bool). (if b then k.tells else []) ++ view ls []) (other k.space o) ∙ rest f

pub view_is : (layers : List Layer) (space : List ℕ) (l : Layer) → IsTree layers → layer_at layers space ≡ Some l → view layers space ≡ seen_above layers space ++ l.tells
view_is layers [] l t e = top_view layers l (trees_lead layers t) e
view_is layers (n ∷ s) l t e = view_splits layers (n ∷ s) l (trees_lead layers t) refl e

-- a layer is found by its name
pub found_by : (ls : List Layer) (k : Layer) → is_ascending (names_of ls) ≡ true → In k ls → layer_at ls k.space ≡ Some k
found_by [] k o i = elim i [ ]
found_by (j ∷ ls) k o (inl e) = rw (ap (λ (n : Layer). list_eq n.space k.space) e ∙ names_equal k.space) (ap (λ (n : Layer). Some n) e)
found_by (j ∷ ls) k o (inr i) = elim (decide (list_eq j.space k.space)) [
  | inl q ↦ absurd (one_of_name j ls k o i (sym (equal_names j.space k.space q)))
  | inr q ↦ rw q (found_by ls k (and-right _ _ o) i)
]

-- and so is that of what is kept
pub layer_found : (levels : List Level) → IsSound levels → (l : Level) → Contains levels l → layer_at (shown_all levels) l.space ≡ Some (shown l)
layer_found levels s l c = found_by (shown_all levels) (shown l) s.tree.ordered (In-from_contains (shown_all levels) (shown l) (shown_member levels l c))

-- The edit of a space

module _ (levels : List Level) (space : List ℕ) (place : ℕ) (x : Layer) (h : IsFirst (is_of space) (shown_all levels) place x) (l m : Level) (e : l ≡ slice_index_or levels place l)
    (change : Layer → Layer) (becomes : shown m ≡ change (shown l)) (names : m.space ≡ l.space) (numbers : m.numbers ≡ l.numbers) (s : IsSound levels) where
  abbrev layers : List Layer
  layers = shown_all levels

  abbrev after : List Layer
  after = in_layer space change layers

  pub found_is : (k : Layer) → layer_at layers space ≡ Some k → k ≡ shown l
  found_is k at = let found = h.found in let same : x ≡ k = cc in sym same ∙ sym (read_shown levels space place x h l e)

  changed_is : (k : Layer) → layer_at layers space ≡ Some k → change k ≡ shown m
  changed_is k at = ap change (found_is k at) ∙ sym becomes

  keeps_space : KeepsSpace layers space change
  keeps_space k at = ap (λ (n : Layer). n.space) (changed_is k at) ∙ names ∙ sym (ap (λ (n : Layer). n.space) (found_is k at))

  keeps_variables : (k : Layer) → layer_at layers space ≡ Some k → k.next.variable ≤ (change k).next.variable
  keeps_variables k at =
      let a : k.next.variable ≡ l.numbers.variable = ap (λ (n : Layer). n.next.variable) (found_is k at) in
      let b : (change k).next.variable ≡ m.numbers.variable = ap (λ (n : Layer). n.next.variable) (changed_is k at) in
      let d : m.numbers.variable ≡ l.numbers.variable = ap (λ (n : Numbers). n.variable) numbers in
      omega (arith, a, b, d)

  keeps_children : (k : Layer) → layer_at layers space ≡ Some k → k.next.child ≤ (change k).next.child
  keeps_children k at =
      let a : k.next.child ≡ l.numbers.child = ap (λ (n : Layer). n.next.child) (found_is k at) in
      let b : (change k).next.child ≡ m.numbers.child = ap (λ (n : Layer). n.next.child) (changed_is k at) in
      let d : m.numbers.child ≡ l.numbers.child = ap (λ (n : Numbers). n.child) numbers in
      omega (arith, a, b, d)

  pub own_space : l.space ≡ space
  own_space = ap (λ (n : Layer). n.space) (read_shown levels space place x h l e) ∙ space_of layers space x h.found

  pub after_tree : IsTree after
  after_tree = change_tree space change layers (λ k at. (keeps_space k at, keeps_children k at)) s.tree

  pub after_homes : (other : List ℕ) → KeepsHomes layers after other
  after_homes other = homes_kept layers after other (λ k c b. changed_grown layers space change (λ j at. (keeps_space j at, keeps_variables j at)) k c)

  unseen : (other : List ℕ) → is_below space other ≡ false → view after other ≡ view layers other
  unseen other apart = change_unseen change layers space other keeps_space apart

  -- the parent of a space is not below it
  parent_apart : (other : List ℕ) → is_top other ≡ false → (is_below space other ≡ false) ⊎ (other ≡ space) → is_below space (parent_of other) ≡ false
  parent_apart other t (inl a) = elim (decide (is_below space (parent_of other))) [ inl b ↦ absurd (not_both _ (parent_above other t space b) a) | inr b ↦ b ]
  parent_apart other t (inr q) = subst (λ (o : List ℕ). is_below o (parent_of other) ≡ false) q (not_above_parent other t)

  above_kept : (other : List ℕ) → (is_below space other ≡ false) ⊎ (other ≡ space) → seen_above after other ≡ seen_above layers other
  above_kept other q = above_same layers after other (λ t. unseen (parent_of other) (parent_apart other t q))

  pub own_above : seen_above after space ≡ seen_above layers space
  own_above = above_kept space (inr refl)

  -- what the space sees itself
  pub own_view : view after space ≡ seen_above layers space ++ (shown m).tells
  own_view =
      view_is after space (shown m) after_tree
      (found_edited (is_of space) change layers x h.found (subst (λ (n : List ℕ). list_eq n space ≡ true) (sym (keeps_space x h.found ∙ space_of layers space x h.found)) (names_equal space))
      ∙ ap (λ (n : Layer). Some n) (changed_is x h.found))
      ∙ ap (λ (ts : List Tell). ts ++ (shown m).tells) own_above

  pub apart_by : (n : Level) → IsElsewhere levels place n → is_properly_below space n.space ≡ false → is_below space n.space ≡ false
  apart_by n k under = elim (decide (is_below space n.space)) [
    | inl b ↦ absurd (not_both _
        (properly_by space n.space b (λ q. other_name layers k.at place (shown n) x s.tree.ordered (omega (arith, k.within, length-map levels shown)) h.within
        (get_or-map shown levels k.at n (shown n) k.within ∙ ap shown k.item) h.item k.other (sym q ∙ sym (space_of layers space x h.found))))
        under)
    | inr b ↦ b
  ]

  -- what is kept of a space that is not below it
  pub fits_apart : (n : Level) → IsElsewhere levels place n → is_properly_below space n.space ≡ false → Fits after n
  fits_apart n k under =
      let apart = apart_by n k under in
      fits_after layers after n (unseen n.space apart) (above_kept n.space (inl apart)) (after_homes n.space) (s.fits n (elsewhere_in levels place n k))

  pub own_shows : shown_all (slice_set levels place m) ≡ after
  own_shows = set_shown levels space place x h l m e change becomes

  -- where none is below it
  pub own_edit : has_below (shown_all levels) space ≡ false → Fits after m → Edited levels (slice_set levels place m) space change
  own_edit none f = record {
    shows = own_shows;
    sound = record {
      tree = subst IsTree (sym own_shows) after_tree;
      fits = λ n c. subst (λ (ls : List Layer). Fits ls n) (sym own_shows) (elim (set_member levels place m n (place_within levels space place x h) c) [
        | inl k ↦ subst (Fits after) (sym k) f
        | inr k ↦ fits_apart n k (none_of (λ (j : Layer). is_properly_below space j.space) layers none (shown n) (shown_member levels n (elsewhere_in levels place n k)))
      ]);
    };
  }

-- What is kept of one space, by the name of the space
pub record FitsAt (layers : List Layer) (space : List ℕ) (l : Level) : Type 0 where
  pub seen : l.bare ≡ false → l.constraints.store ≡ view layers space
  pub from : l.bare ≡ false → l.told_from ≡ length (seen_above layers space)
  pub bare : l.bare ≡ true → IsBare l
  pub consistent : is_consistent (view layers space) ≡ true
  pub home : l.traced ≡ true → list_all (is_home layers space) (flat_map named_by (shown l).tells) ≡ true
  pub touches : l.traced ≡ true → is_top space ≡ false → Traces space (seen_above layers space) (shown l).tells l.touched
  pub known : l.knows_space ≡ false → list_any gives_space (shown l).tells ≡ false

pub fits_at : (layers : List Layer) (space : List ℕ) (l : Level) → space ≡ l.space → FitsAt layers space l → Fits layers l
fits_at layers space l e f = record {
  seen = subst (λ (s : List ℕ). l.bare ≡ false → l.constraints.store ≡ view layers s) e f.seen;
  from = subst (λ (s : List ℕ). l.bare ≡ false → l.told_from ≡ length (seen_above layers s)) e f.from;
  bare = f.bare;
  consistent = subst (λ (s : List ℕ). is_consistent (view layers s) ≡ true) e f.consistent;
  home = subst (λ (s : List ℕ). l.traced ≡ true → list_all (is_home layers s) (flat_map named_by (shown l).tells) ≡ true) e f.home;
  touches = subst (λ (s : List ℕ). l.traced ≡ true → is_top s ≡ false → Traces s (seen_above layers s) (shown l).tells l.touched) e f.touches;
  known = f.known;
}

pub at_fits : (layers : List Layer) (space : List ℕ) (l : Level) → l.space ≡ space → Fits layers l → FitsAt layers space l
at_fits layers space l e f = record {
  seen = subst (λ (s : List ℕ). l.bare ≡ false → l.constraints.store ≡ view layers s) e f.seen;
  from = subst (λ (s : List ℕ). l.bare ≡ false → l.told_from ≡ length (seen_above layers s)) e f.from;
  bare = f.bare;
  consistent = subst (λ (s : List ℕ). is_consistent (view layers s) ≡ true) e f.consistent;
  home = subst (λ (s : List ℕ). l.traced ≡ true → list_all (is_home layers s) (flat_map named_by (shown l).tells) ≡ true) e f.home;
  touches = subst (λ (s : List ℕ). l.traced ≡ true → is_top s ≡ false → Traces s (seen_above layers s) (shown l).tells l.touched) e f.touches;
  known = f.known;
}

-- What fits what its parent sees, where its layer is one of the tree's
pub record FitsAbove (layers : List Layer) (space : List ℕ) (m : Level) : Type 0 where
  pub store : m.bare ≡ false → m.constraints.store ≡ seen_above layers space ++ (shown m).tells
  pub from : m.bare ≡ false → m.told_from ≡ length (seen_above layers space)
  pub bare : m.bare ≡ true → IsBare m
  pub consistent : is_consistent (seen_above layers space ++ (shown m).tells) ≡ true
  pub home : m.traced ≡ true → list_all (is_home layers space) (flat_map named_by (shown m).tells) ≡ true
  pub touches : m.traced ≡ true → is_top space ≡ false → Traces space (seen_above layers space) (shown m).tells m.touched
  pub known : m.knows_space ≡ false → list_any gives_space (shown m).tells ≡ false

module _ (levels : List Level) (space : List ℕ) (place : ℕ) (x : Layer) (h : IsFirst (is_of space) (shown_all levels) place x) (l m : Level) (e : l ≡ slice_index_or levels place l)
    (change : Layer → Layer) (becomes : shown m ≡ change (shown l)) (names : m.space ≡ l.space) (numbers : m.numbers ≡ l.numbers) (s : IsSound levels) where
  pub fits_above : FitsAbove (shown_all levels) space m → Fits (in_layer space change (shown_all levels)) m
  fits_above f =
      fits_at (in_layer space change (shown_all levels)) space m (sym (names ∙ own_space levels space place x h l m e change becomes names numbers s)) (record {
        seen = λ b. f.store b ∙ sym (own_view levels space place x h l m e change becomes names numbers s);
        from = λ b. f.from b ∙ ap length (sym (own_above levels space place x h l m e change becomes names numbers s));
        bare = f.bare;
        consistent = ap is_consistent (own_view levels space place x h l m e change becomes names numbers s) ∙ f.consistent;
        home = λ t. all_home (shown_all levels) (in_layer space change (shown_all levels)) space (flat_map named_by (shown m).tells)
            (after_homes levels space place x h l m e change becomes names numbers s space) (f.home t);
        touches = λ t n. subst (λ (ts : List Tell). Traces space ts (shown m).tells m.touched) (sym (own_above levels space place x h l m e change becomes names numbers s)) (f.touches t n);
        known = f.known;
      })

  pub edit_above : has_below (shown_all levels) space ≡ false → FitsAbove (shown_all levels) space m → Edited levels (slice_set levels place m) space change
  edit_above none f = own_edit levels space place x h l m e change becomes names numbers s none (fits_above f)

-- Telling

module _ (levels : List Level) (space : List ℕ) (place : ℕ) (x : Layer) (h : IsFirst (is_of space) (shown_all levels) place x) (l m : Level) (e : l ≡ slice_index_or levels place l)
    (ts : List Tell) (home : Bool) (told : IsToldMore home ts l m) (homes : home ≡ true → list_all (λ t. list_all (is_home (shown_all levels) space) (named_by t)) ts ≡ true)
    (s : IsSound levels) where
  pub own_name : l.space ≡ space
  own_name = ap (λ (n : Layer). n.space) (read_shown levels space place x h l e) ∙ space_of (shown_all levels) space x h.found

  fitted : FitsAt (shown_all levels) space l
  fitted = at_fits (shown_all levels) space l own_name (s.fits l (place_member levels space place x h l e))

  parts : l.constraints.store ≡ seen_above (shown_all levels) space ++ (shown l).tells
  parts = fitted.seen told.kept ∙ view_is (shown_all levels) space (shown l) s.tree (h.found ∙ ap (λ (n : Layer). Some n) (sym (read_shown levels space place x h l e)))

  told_within : l.told_from ≤ length l.constraints.store
  told_within = omega (arith, fitted.from told.kept, ap length parts ∙ length-append (seen_above (shown_all levels) space) (shown l).tells)

  more_tells : (shown m).tells ≡ (shown l).tells ++ ts
  more_tells = ap₂ (λ (n : ℕ) (us : List Tell). drop n us) told.told_from told.store ∙ drop-append-le l.told_from l.constraints.store ts told_within

  pub shows_more : shown m ≡ telling ts (shown l)
  shows_more = λ i. record { space = told.space i; status = told.status i; tells = more_tells i; threads = (told.threads i).list; triggers = told.triggers i; propagators = told.propagators i; cells = (told.objects i).cells; ports = (told.objects i).ports; next = next_with (told.threads i).next (told.numbers i) }

  all_named_home : l.traced ≡ true → home ≡ true → list_all (is_home (shown_all levels) space) (flat_map named_by (shown m).tells) ≡ true
  all_named_home t k =
      ap (λ (us : List Tell). list_all (is_home (shown_all levels) space) (flat_map named_by us)) more_tells
      ∙ ap (list_all (is_home (shown_all levels) space)) (flat_map-append named_by (shown l).tells ts)
      ∙ list_all-append (is_home (shown_all levels) space) (flat_map named_by (shown l).tells) (flat_map named_by ts)
      ∙ and_both _ _ (fitted.home t) (all_flat (is_home (shown_all levels) space) named_by ts ∙ homes k)

  none_told : l.knows_space ≡ false → list_any gives_space ts ≡ false → list_any gives_space (shown m).tells ≡ false
  none_told k n = ap (list_any gives_space) more_tells ∙ list_any-append gives_space (shown l).tells ts ∙ or_false _ _ (fitted.known k) n

  sees_more : l.constraints.store ++ ts ≡ seen_above (shown_all levels) space ++ (shown m).tells
  sees_more = ap (λ (us : List Tell). us ++ ts) parts ∙ append_assoc (seen_above (shown_all levels) space) (shown l).tells ts ∙ ap (λ (us : List Tell). seen_above (shown_all levels) space ++ us) (sym more_tells)

  tell_above : FitsAbove (shown_all levels) space m
  tell_above = record {
    store = λ b. told.store ∙ sees_more;
    from = λ b. told.told_from ∙ fitted.from told.kept;
    bare = λ b. absurd (not_both _ b (told.bare ∙ told.kept));
    consistent = ap is_consistent (sym sees_more) ∙ told.consistent;
    home = λ t. let k = told.traced t in all_named_home k.0 k.1;
    touches = λ t n.
        let k = told.notes t (subst (λ (q : List ℕ). is_top q ≡ false) (sym own_name) n) in
        subst (λ (us : List Tell). Traces space (seen_above (shown_all levels) space) us m.touched) (sym more_tells)
        (subst (λ (xs : List Ident). Traces space (seen_above (shown_all levels) space) ((shown l).tells ++ ts) xs) (sym k.noted)
        (traces_twice space (seen_above (shown_all levels) space) (shown l).tells ts l.touched k.more (fitted.touches (told.traced t).0 n)
        (subst (λ (s : List ℕ). Traces s (seen_above (shown_all levels) space ++ (shown l).tells) ts k.more) own_name (subst (λ (us : List Tell). Traces l.space us ts k.more) parts k.traces))));
    known = λ k. let parted = sym told.knows ∙ k in none_told (left_false _ _ parted) (right_false _ _ parted);
  }

  pub tell_fits : Fits (in_layer space (telling ts) (shown_all levels)) m
  tell_fits = fits_above levels space place x h l m e (telling ts) shows_more told.space told.numbers s tell_above

  pub tell_edit : has_below (shown_all levels) space ≡ false → Edited levels (slice_set levels place m) space (telling ts)
  tell_edit none = edit_above levels space place x h l m e (telling ts) shows_more told.space told.numbers s none tell_above

-- What is kept of the spaces fits their layers where a space is created.
use Rattle.std.proofs.Common.{◌≡◌, inl, inr, ℕ, ◌+◌, nat_eq, Bool, true, false, ◌&&◌, if◌then◌else◌, cond, List, [], ◌∷◌, ◌++◌, flat_map, length, slice_set, slice_index_or, refl, sym, ap, ap₂, subst, ◌∙◌, arith, Contains, Option, Some, unwrap_or}
use Rattle.std.specs.List.{list_any, list_all, find}
use Rattle.std.proofs.lemmas.Bool.{false≢true}
use Rattle.oz_base.specs.Lists.{list_eq, edit_first, put_before}
use Rattle.oz_base.specs.declared.names.Ident.{Ident}
use Rattle.oz_semantics.specs.Names.{parent_of, space_lt, child_name}
use Rattle.oz_semantics.specs.Store.{named_by, is_consistent}
use Rattle.oz_semantics.specs.Configurations.{is_of, layer_at, view, in_layer, placed, next_child, new_layer, counting_child}
use Rattle.oz_semantics.specs.Edits.{starting, created}
use Rattle.oz_semantics.specs.declared.value.Tell.{Tell}
use Rattle.oz_semantics.specs.declared.configuration.Layer.{Layer}
use Rattle.oz_laws.proofs.SameLaws.{In, In-from_contains, contains-from_In}
use Rattle.view_laws.specs.Trees.{IsTree}
use Rattle.view_laws.specs.Spaceless.{gives_space}
use Rattle.view_laws.proofs.Members.{decide}
use Rattle.view_laws.proofs.NameLaws.{equal_names, above_parent}
use Rattle.view_laws.proofs.SightLaws.{creation_unseen, space_of}
use Rattle.view_laws.proofs.TreeLaws.{put_in, not_top_child, fresh_before, tree_created}
use Rattle.space_core.specs.Ending.{IsChild, IsAdded}
use Rattle.space_core.specs.Places.{IsFirst}
use Rattle.space_core.specs.Shown.{next_of, shown, shown_all, seen_above, is_home, Traces, Fits, IsSound}
use Rattle.space_core.specs.declared.level.Level.{Level}
use Rattle.space_core.proofs.MemberLaws.{elsewhere_in, set_member}
use Rattle.space_core.proofs.TraceLaws.{traces_nothing}
use Rattle.space_core.proofs.SoundLaws.{Grown, fits_alike, fits_after, above_same, above_is, homes_kept, changed_grown, set_shown, read_shown, place_within, place_member}
use Rattle.space_core.proofs.TellLaws.{fits_at}

-- An edit of one layer, and a new one among the layers

module _ {A : Type 0} (test less : A → Bool) (change : A → A) (new : A) (other : test new ≡ false) (keeps : (x : A) → less (change x) ≡ less x) where
  pub edit_put : (xs : List A) → edit_first test change (put_before less new xs) ≡ put_before less new (edit_first test change xs)
  edit_put [] = ap (λ (b : Bool). cond b (change new ∷ []) (new ∷ [])) other
  edit_put (x ∷ xs) = by (less x) refl (test x) refl (edit_put xs)
    where
      by : (b : Bool) → less x ≡ b → (c : Bool) → test x ≡ c → edit_first test change (put_before less new xs) ≡ put_before less new (edit_first test change xs)
          → edit_first test change (cond b (new ∷ x ∷ xs) (x ∷ put_before less new xs)) ≡ put_before less new (cond c (change x ∷ xs) (x ∷ edit_first test change xs))
      by true e true f rest = rw (other, f) (rw (keeps x, e) refl)
      by true e false f rest = rw (other, f) (rw e refl)
      by false e true f rest = rw f (rw (keeps x, e) refl)
      by false e false f rest = rw f (rw e (ap (λ ys. x ∷ ys) rest))

  pub find_put : (xs : List A) → find test (put_before less new xs) ≡ find test xs
  find_put [] = ap (λ (b : Bool). cond b (Some new) (find test [])) other
  find_put (x ∷ xs) = by (less x) (find_put xs)
    where
      by : (b : Bool) → find test (put_before less new xs) ≡ find test xs → find test (cond b (new ∷ x ∷ xs) (x ∷ put_before less new xs)) ≡ find test (x ∷ xs)
      by true rest = ap (λ (b : Bool). cond b (Some new) (find test (x ∷ xs))) other
      by false rest = ap (λ (o : Option A). cond (test x) (Some x) o) rest

-- Names of children

pub parent_child : (s : List ℕ) (n : ℕ) → parent_of (child_name s n) ≡ s
parent_child [] n = refl
parent_child (a ∷ []) n = refl
parent_child (a ∷ b ∷ s) n = ap (λ (t : List ℕ). a ∷ t) (parent_child (b ∷ s) n)

pub not_own_child : (s : List ℕ) (n : ℕ) → list_eq (child_name s n) s ≡ false
not_own_child [] n = refl
not_own_child (a ∷ s) n = ap (λ (b : Bool). nat_eq a a && b) (not_own_child s n) ∙ both (nat_eq a a)
  where
    both : (b : Bool) → (b && false) ≡ false
    both true = refl
    both false = refl

-- a space that is not there sees what its parent sees
pub view_parent : (layers : List Layer) (space : List ℕ) → ((k : Layer) → In k layers → list_eq k.space space ≡ false) → view layers space ≡ view layers (parent_of space)
view_parent [] space h = refl
view_parent (k ∷ ls) space h =
    ap₂ (λ (b : Bool) (us : List Tell). (if b then k.tells else []) ++ us) (above_parent k.space space (h k (inl refl))) (view_parent ls space (λ j i. h j (inr i)))

-- Creation

module _ (levels : List Level) (s : IsSound levels) (parent : List ℕ) (place : ℕ) (x : Layer) (h : IsFirst (is_of parent) (shown_all levels) place x) (l : Level) (e : l ≡ slice_index_or levels place l)
    (procedure : Ident) (m : Level) (child : IsChild (next_child (shown l)) procedure l.constraints.store m) (kept : l.bare ≡ false) (news : List Level) (added : IsAdded levels news m)
    (place2 : ℕ) (x2 : Layer) (h2 : IsFirst (is_of parent) (shown_all news) place2 x2) (l2 : Level) (e2 : l2 ≡ slice_index_or news place2 l2) where
  abbrev layers : List Layer
  layers = shown_all levels

  abbrev after : List Layer
  after = created parent procedure layers

  abbrev name : List ℕ
  name = next_child (shown l)

  abbrev new : Layer
  new = starting procedure (new_layer name)

  found_layer : layer_at layers parent ≡ Some (shown l)
  found_layer = h.found ∙ ap (λ (k : Layer). Some k) (sym (read_shown levels parent place x h l e))

  own_name : l.space ≡ parent
  own_name = ap (λ (k : Layer). k.space) (read_shown levels parent place x h l e) ∙ space_of layers parent x h.found

  child_parent : parent_of name ≡ parent
  child_parent = parent_child l.space l.numbers.child ∙ own_name

  not_parent : is_of parent new ≡ false
  not_parent = subst (λ (p : List ℕ). list_eq (child_name l.space l.numbers.child) p ≡ false) own_name (not_own_child l.space l.numbers.child)

  abbrev before_new : Layer → Bool
  before_new other = space_lt new.space other.space

  created_is : in_layer parent counting_child (placed new layers) ≡ after
  created_is =
      edit_put (is_of parent) before_new counting_child new not_parent (λ k. refl) layers
      ∙ sym (ap (λ (o : Option Layer). placed (starting procedure (new_layer (next_child (unwrap_or o (new_layer parent))))) (in_layer parent counting_child layers)) found_layer)

  news_shown : shown_all news ≡ placed new layers
  news_shown = added.shows ∙ ap (λ (k : Layer). placed k layers) child.shows

  -- the parent is found where it was
  found_again : shown l2 ≡ shown l
  found_again =
      let a : find (is_of parent) (shown_all news) ≡ Some (shown l2) = h2.found ∙ ap (λ (k : Layer). Some k) (sym (read_shown news parent place2 x2 h2 l2 e2)) in
      let b : find (is_of parent) (shown_all news) ≡ Some (shown l) = ap (find (is_of parent)) news_shown ∙ find_put (is_of parent) before_new counting_child new not_parent (λ k. refl) layers ∙ found_layer in
      let c : Some (shown l2) ≡ Some (shown l) = sym a ∙ b in cc

  after_view : (other : List ℕ) → view after other ≡ view layers other
  after_view other = creation_unseen layers parent other procedure

  after_grown : (k : Layer) → Contains layers k → Grown after k
  after_grown k c =
      let g = changed_grown layers parent counting_child (λ j at. (refl, omega arith)) k c in (
        g.0,
        subst (λ (ls : List Layer). Contains ls g.0)
            (sym (ap (λ (o : Option Layer). placed (starting procedure (new_layer (next_child (unwrap_or o (new_layer parent))))) (in_layer parent counting_child layers)) found_layer))
            (contains-from_In (placed new (in_layer parent counting_child layers)) g.0 (put_in before_new new (in_layer parent counting_child layers) g.0 (In-from_contains (in_layer parent counting_child layers) g.0 g.1))),
        g.2,
        g.3,
      )

  fits_old : (n : Level) → Contains levels n → Fits after n
  fits_old n c =
      fits_after layers after n (after_view n.space) (above_same layers after n.space (λ t. after_view (parent_of n.space))) (homes_kept layers after n.space (λ k d b. after_grown k d)) (s.fits n c)

  own_fits : Fits layers l
  own_fits = s.fits l (place_member levels parent place x h l e)

  fresh : (k : Layer) → In k layers → list_eq k.space name ≡ false
  fresh k i = elim (decide (list_eq k.space name)) [
    | inl q ↦ absurd (fresh_before layers s.tree parent procedure (shown l) found_layer k i (equal_names k.space name q))
    | inr q ↦ q
  ]

  sees_parent : view layers parent ≡ l.constraints.store
  sees_parent = sym (own_fits.seen kept ∙ ap (view layers) own_name)

  above_child : seen_above after name ≡ l.constraints.store
  above_child = above_is after name (not_top_child l.space l.numbers.child) ∙ after_view (parent_of name) ∙ ap (view layers) child_parent ∙ sees_parent

  child_view : view after name ≡ view layers parent
  child_view = after_view name ∙ view_parent layers name fresh ∙ ap (view layers) child_parent

  no_tells : (shown m).tells ≡ []
  no_tells = ap (λ (k : Layer). k.tells) child.shows

  fits_child : Fits after m
  fits_child = fits_at after name m (sym (ap (λ (k : Layer). k.space) child.shows)) (record {
    seen = λ b. child.untold.store ∙ sym (child_view ∙ sees_parent);
    from = λ b. child.untold.told_from ∙ ap length (sym above_child);
    bare = λ b. absurd (false≢true (sym child.untold.kept ∙ b));
    consistent = ap is_consistent child_view ∙ ap (λ (p : List ℕ). is_consistent (view layers p)) (sym own_name) ∙ own_fits.consistent;
    home = λ t. ap (λ (ts : List Tell). list_all (is_home after name) (flat_map named_by ts)) no_tells;
    touches = λ t n.
        subst (λ (ts : List Tell). Traces name (seen_above after name) ts m.touched) (sym no_tells)
        (subst (Traces name (seen_above after name) []) (sym child.untold.touched) (traces_nothing name (seen_above after name)));
    known = λ k. ap (list_any gives_space) no_tells;
  })

  fits_new : (n : Level) → Contains news n → Fits after n
  fits_new n c = elim (added.member n c) [ inl q ↦ subst (Fits after) (sym q) fits_child | inr d ↦ fits_old n d ]

  -- the parent counts it
  module _ (counted : Level) (count : ℕ) (counts : count ≡ l.numbers.child + 1) (is : counted ≡ record l2 { numbers = record l2.numbers { child = count } }) where
    counted_shown : shown counted ≡ counting_child (shown l2)
    counted_shown =
        ap shown is ∙ ap (λ (n : ℕ). record (shown l2) { next = record (next_of l2) { child = n } }) (counts ∙ ap (λ (k : Layer). k.next.child + 1) (sym found_again))

    created_shown : shown_all (slice_set news place2 counted) ≡ after
    created_shown = set_shown news parent place2 x2 h2 l2 counted e2 counting_child counted_shown ∙ ap (in_layer parent counting_child) news_shown ∙ created_is

    fits_counted : Fits after counted
    fits_counted =
        subst (Fits after) (sym is)
        (fits_alike after l2 (record l2 { numbers = record l2.numbers { child = count } }) (record { space = refl; store = refl; told_from = refl; touched = refl; traced = refl; knows = refl; bare = refl })
        (fits_new l2 (place_member news parent place2 x2 h2 l2 e2)))

    pub create_shows : shown_all (slice_set news place2 counted) ≡ created parent procedure (shown_all levels)
    create_shows = created_shown

    pub create_sound : IsSound (slice_set news place2 counted)
    create_sound = record {
      tree = subst IsTree (sym created_shown) (tree_created parent procedure layers (shown l) s.tree found_layer);
      fits = λ n c. subst (λ (ls : List Layer). Fits ls n) (sym created_shown) (elim (set_member news place2 counted n (place_within news parent place2 x2 h2) c) [
        | inl k ↦ subst (Fits after) (sym k) fits_counted
        | inr k ↦ fits_new n (elsewhere_in news place2 n k)
      ]);
    }

-- What becomes of the spaces below one that was told more is what is left where those fail that see what is inconsistent.
use Rattle.std.proofs.Common.{◌≡◌, ◌⊎◌, inl, inr, ℕ, zero, suc, true, false, not, List, [], ◌∷◌, ◌++◌, length, drop, slice_get, refl, sym, ap, ap₂, subst, ◌∙◌, arith, Contains, Some, filter, flat_map}
use Rattle.std.specs.List.{list_any, list_all}
use Rattle.std.proofs.lemmas.Bool.{false≢true}
use Rattle.std.proofs.lemmas.List.{append-nil}
use Rattle.std.proofs.Math.Seq.{drop-append_seam}
use Rattle.oz_semantics.specs.Names.{is_below, is_properly_below, is_top, parent_of}
use Rattle.oz_semantics.specs.Store.{named_by, is_consistent}
use Rattle.oz_semantics.specs.Configurations.{view, failed}
use Rattle.oz_semantics.specs.Settling.{may_fail, is_inconsistent, inconsistent_spaces, without_inconsistent}
use Rattle.oz_semantics.specs.declared.value.Tell.{Tell}
use Rattle.oz_semantics.specs.declared.configuration.Layer.{Layer}
use Rattle.oz_laws.proofs.SameLaws.{In, In-from_contains, contains-from_In, and-right}
use Rattle.settle_laws.proofs.SoundLaws.{left_tree}
use Rattle.view_laws.specs.Trees.{IsTree}
use Rattle.view_laws.specs.Spaceless.{gives_space}
use Rattle.view_laws.proofs.Members.{decide, not_both, and_both, some_of, by_some, In-cases}
use Rattle.view_laws.proofs.ListLaws.{map_in, in_map, in_filter, filter_in}
use Rattle.view_laws.proofs.NameLaws.{below_itself, properly, properly_trans}
use Rattle.view_laws.proofs.SightLaws.{view_splits}
use Rattle.view_laws.proofs.TreeLaws.{trees_lead}
use Rattle.space_core.specs.Ending.{fallen}
use Rattle.space_core.specs.Fates.{IsSeen, IsFailing, IsUnder, IsAfter, IsDecided, IsChosen, falls, seeing, IsFallen, IsFate, IsStale, EachFate, left_as, with_fates}
use Rattle.space_core.specs.Shown.{next_with, shown, shown_all, seen_above, is_home, Traces, Fits, IsSound}
use Rattle.space_core.specs.declared.fates.Fate.{Fate}
use Rattle.space_core.specs.declared.fates.Fate.TheVariants.{Stays, Gone, Fails, Sees, Bare}
use Rattle.space_core.specs.declared.fates.Seen.{Seen}
use Rattle.space_core.specs.declared.level.Level.{Level}
use Rattle.space_core.proofs.MemberLaws.{all_flat}
use Rattle.space_core.proofs.FallLaws.{left_of, fold_left, falls_under, stands_above, stands_itself, left_standing, left_fallen, left_gone, view_left, above_left, homes_left}
use Rattle.space_core.proofs.SoundLaws.{shown_member, drop_nothing, fits_bare, fits_after, above_is}
use Rattle.space_core.proofs.TellLaws.{view_is, found_by}

-- Names

pub under_inner : (s t : List ℕ) → is_properly_below s t ≡ true → is_top t ≡ false
under_inner [] [] e = absurd (false≢true e)
under_inner (n ∷ s) [] e = absurd (false≢true e)
under_inner s (n ∷ t) e = refl

pub not_under_itself : (s : List ℕ) → is_properly_below s s ≡ false
not_under_itself s = elim (decide (is_properly_below s s)) [ inl e ↦ absurd ((properly s s e).1 refl) | inr e ↦ e ]

pub got_in : {A : Type 0} (xs : List A) (n : ℕ) (x : A) → slice_get xs n ≡ Some x → In x xs
got_in [] n x e = cc
got_in (y ∷ ys) zero x e = let same : y ≡ x = cc in inl same
got_in (y ∷ ys) (suc n) x e = inr (got_in ys n x e)

-- Where only spaces below one see what is inconsistent, all others stand
pub apart_stands : (space : List ℕ) (layers : List Layer) → ((t : List ℕ) → Contains (inconsistent_spaces layers) t → is_properly_below space t ≡ true) → (t : List ℕ) → is_properly_below space t ≡ false
    → falls layers t ≡ false
apart_stands space layers below t a = elim (decide (falls layers t)) [
  | inl e ↦ (let r = some_of (λ s. is_below s t) (inconsistent_spaces layers) e in absurd (not_both _ (properly_trans space r.0 t (below r.0 r.1) r.2) a))
  | inr e ↦ e
]

-- What an inconsistent space sees
bad_sees : (layers : List Layer) (t : List ℕ) → Contains (inconsistent_spaces layers) t → is_consistent (view layers t) ≡ true → ⊥
bad_sees layers t c e =
    let m = in_map (λ (n : Layer). n.space) (filter (is_inconsistent layers) layers) t (In-from_contains (inconsistent_spaces layers) t c) in
    let f = filter_in (is_inconsistent layers) layers m.0 m.1 in
    false≢true (sym (ap not (ap (λ (s : List ℕ). is_consistent (view layers s)) m.2 ∙ e)) ∙ and-right (may_fail m.0.status) _ f.1)

-- What is found out is right

module _ (space : List ℕ) (levels : List Level) (stale : IsStale space levels) (l : Level) (c : Contains levels l) (under : is_properly_below space l.space ≡ true) where
  abbrev layers : List Layer
  layers = shown_all levels

  inner : is_top l.space ≡ false
  inner = under_inner space l.space under

  own_view : view layers l.space ≡ view layers (parent_of l.space) ++ (shown l).tells
  own_view =
      view_splits layers l.space (shown l) (trees_lead layers stale.tree) inner
      (found_by layers (shown l) stale.tree.ordered (In-from_contains layers (shown l) (shown_member levels l c)))

  -- under a parent that stands
  module _ (above : List Tell) (sees : above ≡ view layers (parent_of l.space)) (consistent : is_consistent above ≡ true) (stands : falls layers (parent_of l.space) ≡ false) where
    with_own : above ++ (shown l).tells ≡ view layers l.space
    with_own = ap (λ (ts : List Tell). ts ++ (shown l).tells) sees ∙ sym own_view

    fails_itself : IsFailing above l → Contains (inconsistent_spaces layers) l.space
    fails_itself h =
        contains-from_In (inconsistent_spaces layers) l.space (map_in (λ (n : Layer). n.space) (filter (is_inconsistent layers) layers) (shown l)
        (in_filter (is_inconsistent layers) layers (shown l) (In-from_contains layers (shown l) (shown_member levels l c)) (and_both _ _ h.may (ap not (ap is_consistent (sym with_own) ∙ h.clash)))))

    tells_same : (seen : Seen) → IsSeen layers above l seen → (shown (seeing seen l)).tells ≡ (shown l).tells
    tells_same seen h = ap₂ (λ (n : ℕ) (ts : List Tell). drop n ts) h.from h.store ∙ drop-append_seam above (shown l).tells

    own_home : (l.traced ≡ true) ⊎ (list_all (λ t. list_all (is_home layers l.space) (named_by t)) (shown l).tells ≡ true) → list_all (is_home layers l.space) (flat_map named_by (shown l).tells) ≡ true
    own_home (inl t) = stale.home l c t under
    own_home (inr all) = all_flat (is_home layers l.space) named_by (shown l).tells ∙ all

    fits_seen : (seen : Seen) → l.bare ≡ false → IsSeen layers above l seen → Fits layers (seeing seen l)
    fits_seen seen k h = record {
      seen = λ b. h.store ∙ with_own;
      from = λ b. h.from ∙ ap length (sees ∙ sym (above_is layers l.space inner));
      bare = λ b. absurd (not_both _ b k);
      consistent = ap is_consistent (sym with_own ∙ sym h.store) ∙ h.consistent;
      home = λ t. ap (λ (ts : List Tell). list_all (is_home layers l.space) (flat_map named_by ts)) (tells_same seen h) ∙ own_home (h.traced t);
      touches = λ t n.
          subst (λ (us : List Tell). Traces l.space us (shown (seeing seen l)).tells seen.touched) (sees ∙ sym (above_is layers l.space inner))
          (subst (λ (us : List Tell). Traces l.space above us seen.touched) (sym (tells_same seen h)) h.touches);
      known = λ k. ap (list_any gives_space) (tells_same seen h) ∙ stale.known l c k under;
    }

    bare_consistent : l.bare ≡ true → is_consistent (view layers l.space) ≡ true
    bare_consistent b =
        ap is_consistent (sym with_own
        ∙ ap (λ (ts : List Tell). above ++ ts) (ap (drop l.told_from) (stale.bare l c b under).store ∙ drop_nothing l.told_from)
        ∙ append-nil above)
        ∙ consistent

    under_right : (fate : Fate) → IsUnder layers above l fate → IsFate space layers l fate
    under_right Stays h = elim h [ ]
    under_right Gone h = elim h [ ]
    under_right Fails h = (under, record { parent = stands; itself = fails_itself h; consistent = ap is_consistent (sym sees) ∙ consistent })
    under_right (Sees seen) h = (
      under,
      record {
        itself = stands_itself layers l.space (λ b. bad_sees layers l.space b (ap is_consistent (sym with_own ∙ sym h.1.store) ∙ h.1.consistent)) stands;
        kept = h.0;
        tells = tells_same seen h.1;
        fits = fits_seen seen h.0 h.1;
      },
    )
    under_right Bare h = (
      under,
      record {
        itself = stands_itself layers l.space (λ b. bad_sees layers l.space b (bare_consistent h)) stands;
        fits = fits_bare layers l h (stale.bare l c h under) (bare_consistent h);
      },
    )

  decided_right : (fates : List Fate) → EachFate space levels fates layers → (fate : Fate) → IsDecided levels fates l fate → IsFate space layers l fate
  decided_right fates each fate d = by d.above (each d.place d.parent d.above d.stands d.has) d.after
    where
      among : Contains levels d.parent
      among = contains-from_In levels d.parent (got_in levels d.place d.parent d.stands)

      parent_stands : falls layers d.parent.space ≡ false → falls layers (parent_of l.space) ≡ false
      parent_stands e = subst (λ (t : List ℕ). falls layers t ≡ false) d.name e

      gone : falls layers d.parent.space ≡ true → fate ≡ Gone → IsFate space layers l fate
      gone e q = subst (IsFate space layers l) (sym q) (under, record { parent = subst (λ (t : List ℕ). falls layers t ≡ true) d.name e })

      by : (above : Fate) → IsFate space layers d.parent above → IsAfter layers d.parent above l fate → IsFate space layers l fate
      by Stays f a =
          let own = stale.seen d.parent among f a.0 in
          under_right d.parent.constraints.store (own ∙ ap (view layers) d.name) (ap is_consistent own ∙ stale.consistent d.parent among f)
          (parent_stands (apart_stands space layers stale.below d.parent.space f)) fate a.1
      by (Sees seen) f a =
          let own = f.1.fits.seen f.1.kept in
          under_right seen.store (own ∙ ap (view layers) d.name) (ap is_consistent own ∙ f.1.fits.consistent) (parent_stands f.1.itself) fate a
      by Bare f a = elim a [ ]
      by Fails f a = gone (by_some (λ t. is_below t d.parent.space) (inconsistent_spaces layers) d.parent.space f.1.itself (below_itself d.parent.space)) a
      by Gone f a = gone (falls_under layers d.parent.space (under_inner space d.parent.space f.0) f.1.parent) a

pub chosen_right : (space : List ℕ) (levels : List Level) → IsStale space levels → (l : Level) → Contains levels l → (fates : List Fate) → EachFate space levels fates (shown_all levels) → (fate : Fate)
    → IsChosen space levels fates l fate → IsFate space (shown_all levels) l fate
chosen_right space levels stale l c fates each fate (inl h) = subst (IsFate space (shown_all levels) l) (sym h.1) h.0
chosen_right space levels stale l c fates each fate (inr h) = decided_right space levels stale l c h.0 fates each fate h.1

-- What is left by it

shown_fallen : (l : Level) → shown (fallen l) ≡ failed (shown l)
shown_fallen l = refl

shown_seeing : (seen : Seen) (l : Level) → (shown (seeing seen l)).tells ≡ (shown l).tells → shown (seeing seen l) ≡ shown l
shown_seeing seen l e = λ i. record {
  space = l.space;
  status = l.status;
  tells = e i;
  threads = l.threads.list;
  triggers = l.triggers;
  propagators = l.constraints.propagators;
  cells = l.objects.cells;
  ports = l.objects.ports;
  next = next_with l.threads.next l.numbers;
}

shown_parts : (ks ls : List Level) → shown_all (ks ++ ls) ≡ shown_all ks ++ shown_all ls
shown_parts [] ls = refl
shown_parts (k ∷ ks) ls = ap (λ (js : List Layer). shown k ∷ js) (shown_parts ks ls)

-- a space and its fate, of which this is left
record IsFrom (space : List ℕ) (layers : List Layer) (levels : List Level) (n : Level) : Type 0 where
  before : Level
  fate : Fate
  among : In before levels
  right : IsFate space layers before fate
  left : In n (left_as fate before)

module _ (space : List ℕ) (layers : List Layer) (tree : IsTree layers) (below : (t : List ℕ) → Contains (inconsistent_spaces layers) t → is_properly_below space t ≡ true) where
  abbrev bad : List (List ℕ)
  bad = inconsistent_spaces layers

  abbrev left : List Layer
  left = without_inconsistent layers

  one_shows : (l : Level) (fate : Fate) → IsFate space layers l fate → shown_all (left_as fate l) ≡ left_of bad (shown l)
  one_shows l Stays h = sym (left_standing layers (shown l) (apart_stands space layers below l.space h))
  one_shows l Gone h = sym (left_gone layers (shown l) (under_inner space l.space h.0) h.1.parent)
  one_shows l Fails h = ap (λ (k : Layer). k ∷ []) (shown_fallen l) ∙ sym (left_fallen layers (shown l) h.1.parent h.1.itself)
  one_shows l Bare h = sym (left_standing layers (shown l) h.1.itself)
  one_shows l (Sees seen) h = ap (λ (k : Layer). k ∷ []) (shown_seeing seen l h.1.tells) ∙ sym (left_standing layers (shown l) h.1.itself)

  all_show : (fates : List Fate) (ls : List Level) → length fates ≡ length ls → EachFate space ls fates layers → shown_all (with_fates fates ls) ≡ flat_map (left_of bad) (shown_all ls)
  all_show [] [] e each = refl
  all_show [] (l ∷ ls) e each = absurd (omega (arith, e))
  all_show (fate ∷ fates) [] e each = absurd (omega (arith, e))
  all_show (fate ∷ fates) (l ∷ ls) e each =
      shown_parts (left_as fate l) (with_fates fates ls)
      ∙ ap₂ (λ (js ks : List Layer). js ++ ks) (one_shows l fate (each 0 l fate refl refl)) (all_show fates ls (omega (arith, e)) (λ n k g a b. each (suc n) k g a b))

  all_from : (fates : List Fate) (ls : List Level) → length fates ≡ length ls → EachFate space ls fates layers → (n : Level) → In n (with_fates fates ls) → IsFrom space layers ls n
  all_from [] [] e each n h = elim h [ ]
  all_from [] (l ∷ ls) e each n h = absurd (omega (arith, e))
  all_from (fate ∷ fates) [] e each n h = absurd (omega (arith, e))
  all_from (fate ∷ fates) (l ∷ ls) e each n h = elim (In-cases n (left_as fate l) (with_fates fates ls) h) [
    | inl k ↦ record { before = l; fate = fate; among = inl refl; right = each 0 l fate refl refl; left = k }
    | inr k ↦ (let r = all_from fates ls (omega (arith, e)) (λ m j g a b. each (suc m) j g a b) n k in record { before = r.before; fate = r.fate; among = inr r.among; right = r.right; left = r.left })
  ]

  -- a space that stands
  fits_standing : (n : Level) → Fits layers n → falls layers n.space ≡ false → Fits left n
  fits_standing n f e =
      fits_after layers left n (view_left layers n.space e) (above_left layers n.space (λ t. stands_above layers n.space t e)) (homes_left layers tree n.space e) f

  -- a space that failed
  fits_fallen : (l : Level) → is_top l.space ≡ false → IsFallen layers l → In (shown (fallen l)) left → Fits left (fallen l)
  fits_fallen l inner h there =
      let tree_after = left_tree layers tree in
      let sees : view left l.space ≡ view layers (parent_of l.space) =
      view_is left l.space (shown (fallen l)) tree_after (found_by left (shown (fallen l)) tree_after.ordered there)
      ∙ append-nil (seen_above left l.space)
      ∙ above_left layers l.space (λ t. h.parent)
      ∙ above_is layers l.space inner in
      fits_bare left (fallen l) (ap not inner) (record { inner = inner; store = refl; touched = refl }) (ap is_consistent sees ∙ h.consistent)

  -- All of them
  module _ (levels : List Level) (shows : shown_all levels ≡ layers) (fates : List Fate) (many : length fates ≡ length levels) (each : EachFate space levels fates layers)
      (fits : (l : Level) → Contains levels l → is_properly_below space l.space ≡ false → Fits layers l) where
    pub fates_show : shown_all (with_fates fates levels) ≡ left
    fates_show = all_show fates levels many each ∙ ap (flat_map (left_of bad)) shows ∙ sym (fold_left bad layers tree)

    one_fits : (n : Level) → In (shown n) left → IsFrom space layers levels n → Fits left n
    one_fits n there r = by r.fate r.right r.left
      where
        by : (fate : Fate) → IsFate space layers r.before fate → In n (left_as fate r.before) → Fits left n
        by Stays h (inl q) = subst (Fits left) q (fits_standing r.before (fits r.before (contains-from_In levels r.before r.among) h) (apart_stands space layers below r.before.space h))
        by Stays h (inr q) = elim q [ ]
        by Gone h q = elim q [ ]
        by Fails h (inl q) = subst (Fits left) q (fits_fallen r.before (under_inner space r.before.space h.0) h.1 (subst (λ (k : Level). In (shown k) left) (sym q) there))
        by Fails h (inr q) = elim q [ ]
        by Bare h (inl q) = subst (Fits left) q (fits_standing r.before h.1.fits h.1.itself)
        by Bare h (inr q) = elim q [ ]
        by (Sees seen) h (inl q) = subst (Fits left) q (fits_standing (seeing seen r.before) h.1.fits h.1.itself)
        by (Sees seen) h (inr q) = elim q [ ]

    pub fates_sound : IsSound (with_fates fates levels)
    fates_sound = record {
      tree = subst IsTree (sym fates_show) (left_tree layers tree);
      fits = λ n c.
          subst (λ (ls : List Layer). Fits ls n) (sym fates_show)
          (one_fits n (subst (In (shown n)) fates_show (map_in shown (with_fates fates levels) n (In-from_contains (with_fates fates levels) n c)))
          (all_from fates levels many each n (In-from_contains (with_fates fates levels) n c)));
    }

-- A space is told more, and what is kept of those below it is made anew.
use Rattle.std.proofs.Common.{◌≡◌, ◌⊎◌, inl, inr, ℕ, zero, suc, ◌<◌, ◌≤◌, Bool, true, false, List, [], ◌∷◌, ◌++◌, length, drop, flat_map, nat_lt, slice_get, slice_set, slice_index_or, get_or, refl, sym, ap, subst, ◌∙◌, arith, Contains, Some}
use Rattle.std.specs.Prelude.{position}
use Rattle.std.specs.Option.{option_map}
use Rattle.std.specs.List.{list_all}
use Rattle.std.proofs.lemmas.Bool.Decides.{nat_tests}
use Rattle.std.proofs.lemmas.List.{length-set}
use Rattle.std.proofs.lemmas.Option.{get_or_from_slice_get, slice_get-get_or}
use Rattle.oz_base.specs.Lists.{list_eq}
use Rattle.oz_semantics.specs.Names.{is_properly_below, space_lt}
use Rattle.oz_semantics.specs.Store.{is_consistent, named_by}
use Rattle.oz_semantics.specs.Configurations.{is_of, view, in_layer, telling}
use Rattle.oz_semantics.specs.Settling.{inconsistent_spaces}
use Rattle.oz_semantics.specs.declared.value.Tell.{Tell}
use Rattle.oz_semantics.specs.declared.configuration.Layer.{Layer}
use Rattle.oz_laws.proofs.SameLaws.{contains-from_In, and-left, and-right}
use Rattle.settle_laws.specs.Settles.{Settles}
use Rattle.settle_laws.proofs.SettleLaws.{nothing_fails}
use Rattle.settle_laws.proofs.SoundLaws.{nothing_sound}
use Rattle.settle_laws.proofs.TellLaws.{tell_below}
use Rattle.view_laws.specs.Trees.{IsTree, is_ascending, names_of}
use Rattle.view_laws.proofs.Members.{decide, not_both, each}
use Rattle.view_laws.proofs.ListLaws.{map_in}
use Rattle.view_laws.proofs.NameLaws.{properly, names_equal, equal_names}
use Rattle.view_laws.proofs.TreeLaws.{above_not_less, one_of_name}
use Rattle.space_core.specs.Fates.{IsFate, IsStale, EachFate, AreFates, left_as, with_fates}
use Rattle.space_core.specs.Places.{IsFirst}
use Rattle.space_core.specs.Shown.{shown, shown_all, is_home, Fits, IsSound}
use Rattle.space_core.specs.Telling.{has_below, IsToldMore, IsAlone, IsRemade, IsLeft}
use Rattle.space_core.specs.declared.fates.Fate.{Fate}
use Rattle.space_core.specs.declared.fates.Fate.TheVariants.{Stays, Gone, Fails, Sees, Bare}
use Rattle.space_core.specs.declared.level.Level.{Level}
use Rattle.space_core.proofs.AnswerLaws.{PlaceIn}
use Rattle.space_core.proofs.FateLaws.{got_in, not_under_itself, fates_show, fates_sound}
use Rattle.space_core.proofs.Firsts.{Found, position_here, position_later, found_by_position}
use Rattle.space_core.proofs.MemberLaws.{IsElsewhere, elsewhere_in, set_member}
use Rattle.space_core.proofs.SoundLaws.{all_home, none_inconsistent, place_within, place_member}
use Rattle.space_core.proofs.TellLaws.{after_tree, after_homes, fits_apart, own_shows, own_name, shows_more, tell_fits, tell_edit}

-- Places

-- what stands at one place is changed, in this way or in that
set_apart : {A : Type 0} (xs : List A) (place : ℕ) (x y : A) (n : ℕ) (z : A) → slice_get (slice_set xs place y) n ≡ Some z
    → ((z ≡ y) × (slice_get (slice_set xs place x) n ≡ Some x)) ⊎ (slice_get (slice_set xs place x) n ≡ Some z)
set_apart [] place x y n z e = inr e
set_apart (w ∷ ws) zero x y zero z e = let same : y ≡ z = cc in inl (sym same, refl)
set_apart (w ∷ ws) zero x y (suc n) z e = inr e
set_apart (w ∷ ws) (suc place) x y zero z e = inr e
set_apart (w ∷ ws) (suc place) x y (suc n) z e = set_apart ws place x y n z e

set_there : {A : Type 0} (xs : List A) (place : ℕ) (x : A) → place < length xs → slice_get (slice_set xs place x) place ≡ Some x
set_there [] place x l = absurd (omega (arith, l))
set_there (w ∷ ws) zero x l = refl
set_there (w ∷ ws) (suc place) x l = set_there ws place x (omega (arith, l))

get_shown : (ls : List Level) (n : ℕ) (l : Level) → slice_get ls n ≡ Some l → slice_get (shown_all ls) n ≡ Some (shown l)
get_shown [] n l e = cc
get_shown (k ∷ ls) zero l e = let same : k ≡ l = cc in ap (λ (j : Level). Some (shown j)) same
get_shown (k ∷ ls) (suc n) l e = get_shown ls n l e

get_within : {A : Type 0} (xs : List A) (n : ℕ) (x : A) → slice_get xs n ≡ Some x → n < length xs
get_within [] n x e = cc
get_within (y ∷ ys) zero x e = omega arith
get_within (y ∷ ys) (suc n) x e = let w = get_within ys n x e in omega (arith, w)

-- the space of a name stands at its place
position_at : (ls : List Layer) (n : ℕ) (k : Layer) → is_ascending (names_of ls) ≡ true → slice_get ls n ≡ Some k → position (is_of k.space) ls ≡ Some n
position_at [] n k o e = cc
position_at (j ∷ ls) zero k o e =
    let same : j ≡ k = cc in
    position_here (is_of k.space) j ls (ap (λ (i : Layer). list_eq i.space k.space) same ∙ names_equal k.space)
position_at (j ∷ ls) (suc n) k o e =
    position_later (is_of k.space) j ls (apart (list_eq j.space k.space) refl) ∙ ap (option_map (λ m. suc m)) (position_at ls n k (and-right _ _ o) e)
  where
    apart : (b : Bool) → list_eq j.space k.space ≡ b → list_eq j.space k.space ≡ false
    apart true q = absurd (one_of_name j ls k o (got_in ls n k e) (sym (equal_names j.space k.space q)))
    apart false q = q

-- names ascend
less_before : (ls : List Layer) (n m : ℕ) (j k : Layer) → is_ascending (names_of ls) ≡ true → n < m → slice_get ls n ≡ Some j → slice_get ls m ≡ Some k → space_lt j.space k.space ≡ true
less_before [] n m j k o l e f = cc
less_before (i ∷ ls) n zero j k o l e f = absurd (omega (arith, l))
less_before (i ∷ ls) zero (suc m) j k o l e f =
    let same : i ≡ j = cc in
    subst (λ (h : Layer). space_lt h.space k.space ≡ true) same
    (each (space_lt i.space) (names_of ls) (and-left _ _ o) k.space (contains-from_In (names_of ls) k.space (map_in (λ (h : Layer). h.space) ls k (got_in ls m k f))))
less_before (i ∷ ls) (suc n) (suc m) j k o l e f = less_before ls n m j k (and-right _ _ o) (omega (arith, l)) e f

-- where all up to a place stay as they are, so does what stands there
fates_at : (fates : List Fate) (ls : List Level) (n : ℕ) (l : Level) → ((m : ℕ) → m ≤ n → (fate : Fate) → slice_get fates m ≡ Some fate → fate ≡ Stays) → slice_get ls n ≡ Some l
    → slice_get (with_fates fates ls) n ≡ Some l
fates_at [] ls n l stay e = e
fates_at (fate ∷ fates) [] n l stay e = cc
fates_at (fate ∷ fates) (k ∷ ls) zero l stay e = ap (λ (f : Fate). slice_get (left_as f k ++ with_fates fates ls) 0) (stay 0 (omega arith) fate refl) ∙ e
fates_at (fate ∷ fates) (k ∷ ls) (suc n) l stay e =
    ap (λ (f : Fate). slice_get (left_as f k ++ with_fates fates ls) (suc n)) (stay 0 (omega arith) fate refl)
    ∙ fates_at fates ls n l (λ m w f h. stay (suc m) (omega (arith, w)) f h) e

-- What is not below the space stays
stays_apart : (space : List ℕ) (layers : List Layer) (l : Level) (fate : Fate) → is_properly_below space l.space ≡ false → IsFate space layers l fate → fate ≡ Stays
stays_apart space layers l Stays a h = refl
stays_apart space layers l Gone a h = absurd (not_both _ h.0 a)
stays_apart space layers l Fails a h = absurd (not_both _ h.0 a)
stays_apart space layers l Bare a h = absurd (not_both _ h.0 a)
stays_apart space layers l (Sees seen) a h = absurd (not_both _ h.0 a)

-- The space at the place was told these, and then those below it see them
pub record Told (levels news : List Level) (space : List ℕ) (place : ℕ) (ts : List Tell) (told : Level) : Type 0 where
  pub settles : Settles space (in_layer space (telling ts) (shown_all levels)) (shown_all news)
  pub sound : IsSound news
  pub here : PlaceIn news space place
  pub item : slice_get news place ≡ Some told

-- what is read there
pub told_there : (levels news : List Level) (space : List ℕ) (place : ℕ) (ts : List Tell) (told : Level) → Told levels news space place ts told → (l : Level) → l ≡ slice_index_or news place l → l ≡ told
told_there levels news space place ts told t l e = e ∙ get_or_from_slice_get news place told l t.item

pub told_within : (levels news : List Level) (space : List ℕ) (place : ℕ) (ts : List Tell) (told : Level) → Told levels news space place ts told → place < length news
told_within levels news space place ts told t = get_within news place told t.item

-- a space of what is sound is found at its place
here_at : (news : List Level) → IsSound news → (place : ℕ) (l : Level) → slice_get news place ≡ Some l → PlaceIn news l.space place
here_at news s place l e =
    subst (Found (is_of l.space) (shown_all news)) (position_at (shown_all news) place (shown l) s.tree.ordered (get_shown news place l e)) (found_by_position (is_of l.space) (shown_all news))

module _ (levels : List Level) (space : List ℕ) (place : ℕ) (x : Layer) (h : IsFirst (is_of space) (shown_all levels) place x) (l m : Level) (e : l ≡ slice_index_or levels place l)
    (ts : List Tell) (home : Bool) (told : IsToldMore home ts l m) (homes : home ≡ true → list_all (λ t. list_all (is_home (shown_all levels) space) (named_by t)) ts ≡ true)
    (s : IsSound levels) where
  abbrev layers : List Layer
  layers = shown_all levels

  abbrev after : List Layer
  after = in_layer space (telling ts) layers

  abbrev told_levels : List Level
  told_levels = slice_set levels place m

  abbrev within : place < length levels
  within = place_within levels space place x h

  name : l.space ≡ space
  name = own_name levels space place x h l m e ts home told homes s

  told_name : m.space ≡ space
  told_name = told.space ∙ name

  shows : shown m ≡ telling ts (shown l)
  shows = shows_more levels space place x h l m e ts home told homes s

  told_shows : shown_all told_levels ≡ after
  told_shows = own_shows levels space place x h l m e (telling ts) shows told.space told.numbers s

  fits : Fits after m
  fits = tell_fits levels space place x h l m e ts home told homes s

  tree : IsTree after
  tree = after_tree levels space place x h l m e (telling ts) shows told.space told.numbers s

  own_view : view layers space ≡ l.constraints.store
  own_view = sym ((s.fits l (place_member levels space place x h l e)).seen told.kept ∙ ap (view layers) name)

  below : (t : List ℕ) → Contains (inconsistent_spaces after) t → is_properly_below space t ≡ true
  below = tell_below space ts layers x (nothing_sound layers (none_inconsistent levels s)) h.found (ap (λ (us : List Tell). is_consistent (us ++ ts)) own_view ∙ told.consistent)

  apart_fits : (n : Level) → IsElsewhere levels place n → is_properly_below space n.space ≡ false → Fits after n
  apart_fits n k a = fits_apart levels space place x h l m e (telling ts) shows told.space told.numbers s n k a

  -- None is below it
  alone : (news : List Level) → IsAlone place l m levels news → Told levels news space place ts m
  alone news k =
      let none : has_below layers space ≡ false = subst (λ (p : List ℕ). has_below layers p ≡ false) name k.none in
      let edited = tell_edit levels space place x h l m e ts home told homes s none in
      let item : slice_get told_levels place ≡ Some m = set_there levels place m within in
      subst (λ (ls : List Level). Told levels ls space place ts m) (sym k.left) (record {
        settles = subst (λ (ls : List Layer). Settles space ls (shown_all told_levels)) edited.shows (nothing_fails space (shown_all told_levels) (none_inconsistent told_levels edited.sound));
        sound = edited.sound;
        here = subst (λ (p : List ℕ). PlaceIn told_levels p place) told_name (here_at told_levels edited.sound place m item);
        item = item;
      })

  -- Those below it have their fates
  abbrev seeing_level : Level
  seeing_level = record l { constraints = record l.constraints { store = m.constraints.store } }

  abbrev seen_levels : List Level
  seen_levels = slice_set levels place seeing_level

  seen_shows : shown_all seen_levels ≡ after
  seen_shows =
      own_shows levels space place x h l seeing_level e (telling ts) (ap (λ (us : List Tell). record (shown l) { tells = us }) tells_more) refl refl s
    where
      tells_more : (shown seeing_level).tells ≡ (telling ts (shown l)).tells
      tells_more = ap (λ (n : ℕ). drop n m.constraints.store) (sym told.told_from) ∙ ap (λ (k : Layer). k.tells) shows

  stale : IsStale space seen_levels
  stale = record {
    tree = subst IsTree (sym seen_shows) tree;
    below = subst (λ (ls : List Layer). (t : List ℕ) → Contains (inconsistent_spaces ls) t → is_properly_below space t ≡ true) (sym seen_shows) below;
    seen = λ n c a b. subst (λ (ls : List Layer). n.constraints.store ≡ view ls n.space) (sym seen_shows) (elim (set_member levels place seeing_level n within c) [
      | inl k ↦ subst (λ (j : Level). j.constraints.store ≡ view after j.space) (sym k) (fits.seen (told.bare ∙ told.kept) ∙ ap (view after) told.space)
      | inr k ↦ (apart_fits n k a).seen b
    ]);
    consistent = λ n c a. subst (λ (ls : List Layer). is_consistent (view ls n.space) ≡ true) (sym seen_shows) (elim (set_member levels place seeing_level n within c) [
      | inl k ↦ subst (λ (j : Level). is_consistent (view after j.space) ≡ true) (sym k) (ap (λ (p : List ℕ). is_consistent (view after p)) (sym told.space) ∙ fits.consistent)
      | inr k ↦ (apart_fits n k a).consistent
    ]);
    home = λ n c t u. subst (λ (ls : List Layer). list_all (is_home ls n.space) (flat_map named_by (shown n).tells) ≡ true) (sym seen_shows) (elim (set_member levels place seeing_level n within c) [
      | inl k ↦ absurd (not_both _ u (subst (λ (j : Level). is_properly_below space j.space ≡ false) (sym k) (subst (λ (p : List ℕ). is_properly_below space p ≡ false) (sym name) (not_under_itself space))))
      | inr k ↦ all_home layers after n.space (flat_map named_by (shown n).tells) (after_homes levels space place x h l m e (telling ts) shows told.space told.numbers s n.space)
          ((s.fits n (elsewhere_in levels place n k)).home t)
    ]);
    known = λ n c t u. elim (set_member levels place seeing_level n within c) [
      | inl k ↦ absurd (not_both _ u (subst (λ (j : Level). is_properly_below space j.space ≡ false) (sym k) (subst (λ (p : List ℕ). is_properly_below space p ≡ false) (sym name) (not_under_itself space))))
      | inr k ↦ (s.fits n (elsewhere_in levels place n k)).known t
    ];
    bare = λ n c b u. elim (set_member levels place seeing_level n within c) [
      | inl k ↦ absurd (not_both _ u (subst (λ (j : Level). is_properly_below space j.space ≡ false) (sym k) (subst (λ (p : List ℕ). is_properly_below space p ≡ false) (sym name) (not_under_itself space))))
      | inr k ↦ (s.fits n (elsewhere_in levels place n k)).bare b
    ];
  }

  module _ (fates : List Fate) (are : AreFates space seen_levels fates) where
    seen_right : EachFate space seen_levels fates after
    seen_right = subst (EachFate space seen_levels fates) seen_shows (are.right stale)

    -- the space itself stays
    own_stays : (fate : Fate) → IsFate space after seeing_level fate → IsFate space after m fate
    own_stays fate f =
        subst (IsFate space after m) (sym (stays_apart space after seeing_level fate (subst (λ (p : List ℕ). is_properly_below space p ≡ false) (sym name) (not_under_itself space)) f))
        (subst (λ (p : List ℕ). is_properly_below space p ≡ false) (sym told_name) (not_under_itself space))

    told_right : EachFate space told_levels fates after
    told_right n k fate a b = elim (set_apart levels place seeing_level m n k a) [
      | inl r ↦ subst (λ (j : Level). IsFate space after j fate) (sym r.0) (own_stays fate (seen_right n seeing_level fate r.1 b))
      | inr r ↦ seen_right n k fate r b
    ]

    told_fits : (n : Level) → Contains told_levels n → is_properly_below space n.space ≡ false → Fits after n
    told_fits n c a = elim (set_member levels place m n within c) [
      | inl k ↦ subst (Fits after) (sym k) fits
      | inr k ↦ apart_fits n k a
    ]

    many : length fates ≡ length told_levels
    many = are.as_many ∙ length-set levels place seeing_level ∙ sym (length-set levels place m)

    -- what stands before it is not below it
    before_stays : (n : ℕ) → n ≤ place → (fate : Fate) → slice_get fates n ≡ Some fate → fate ≡ Stays
    before_stays n w fate b =
        let inside : n < length told_levels = omega (arith, w, within, length-set levels place m) in
        let k : Level = get_or told_levels n m in
        let at : slice_get told_levels n ≡ Some k = slice_get-get_or told_levels n m inside in
        stays_apart space after k fate (elim (decide (is_properly_below space k.space)) [
          | inl u ↦ absurd (not_before n k w at u)
          | inr u ↦ u
        ]) (told_right n k fate at b)
      where
        ordered : is_ascending (names_of (shown_all told_levels)) ≡ true
        ordered = subst (λ (ls : List Layer). is_ascending (names_of ls) ≡ true) (sym told_shows) tree.ordered

        there : slice_get told_levels place ≡ Some m
        there = set_there levels place m within

        not_before : (n : ℕ) (k : Level) → n ≤ place → slice_get told_levels n ≡ Some k → is_properly_below space k.space ≡ true → ⊥
        not_before n k w at u = elim (place_cases n w) [
          | inl q ↦ (let both : Some k ≡ Some m = sym at ∙ ap (slice_get told_levels) q ∙ there in
              let same : k ≡ m = cc in
              not_both _ u (subst (λ (j : Level). is_properly_below space j.space ≡ false) (sym same) (subst (λ (p : List ℕ). is_properly_below space p ≡ false) (sym told_name) (not_under_itself space))))
          | inr q ↦ (let less = less_before (shown_all told_levels) n place (shown k) (shown m) ordered q (get_shown told_levels n k at) (get_shown told_levels place m there) in
              not_both _ (subst (λ (p : List ℕ). space_lt k.space p ≡ true) told_name less) (above_not_less k.space space (properly space k.space u).0))
        ]
          where
            place_cases : (n : ℕ) → n ≤ place → (n ≡ place) ⊎ (n < place)
            place_cases n w = by (nat_lt n place) refl
              where
                by : (b : Bool) → nat_lt n place ≡ b → (n ≡ place) ⊎ (n < place)
                by true f = inr (grind (arith, nat_tests, f))
                by false f = inl (grind (arith, nat_tests, f, w))

    item_stays : slice_get (with_fates fates told_levels) place ≡ Some m
    item_stays = fates_at fates told_levels place m before_stays (set_there levels place m within)

    sound_after : IsSound (with_fates fates told_levels)
    sound_after = fates_sound space after tree below told_levels told_shows fates many told_right told_fits

    remade_by : Told levels (with_fates fates told_levels) space place ts m
    remade_by = record {
      settles = record { below = below; left = fates_show space after tree below told_levels told_shows fates many told_right told_fits };
      sound = sound_after;
      here = subst (λ (p : List ℕ). PlaceIn (with_fates fates told_levels) p place) told_name (here_at (with_fates fates told_levels) sound_after place m item_stays);
      item = item_stays;
    }

  remade : (news : List Level) → IsRemade place l m levels news → Told levels news space place ts m
  remade news r =
      subst (λ (ls : List Level). Told levels ls space place ts m) (sym r.left)
      (remade_by r.fates (subst (λ (p : List ℕ). AreFates p seen_levels r.fates) name r.are))

  pub told_all : (news : List Level) → IsLeft place l m levels news → Told levels news space place ts m
  told_all news (inl k) = alone news k
  told_all news (inr r) = remade news r

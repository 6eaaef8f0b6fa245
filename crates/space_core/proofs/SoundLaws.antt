-- What is kept of the spaces fits their layers after an edit.
use Rattle.std.proofs.Common.{◌≡◌, inl, inr, ℕ, zero, suc, ◌<◌, ◌≤◌, nat_lt, Bool, true, false, not, ◌&&◌, List, [], ◌∷◌, map, length, drop, slice_set, slice_index_or, refl, sym, ap, ap₂, subst, ◌∙◌, arith, Contains, Some}
use Rattle.std.specs.List.{list_any, list_all, flat_map}
use Rattle.std.proofs.lemmas.Bool.{false≢true}
use Rattle.std.proofs.lemmas.Bool.Decides.{nat_tests}
use Rattle.std.proofs.lemmas.List.{get_or-map, map-set, length-map}
use Rattle.oz_base.specs.Lists.{list_eq}
use Rattle.oz_base.specs.declared.names.Ident.{Ident}
use Rattle.oz_semantics.specs.Names.{is_below, is_top, parent_of}
use Rattle.oz_semantics.specs.Store.{named_by, is_consistent}
use Rattle.oz_semantics.specs.Configurations.{is_of, layer_at, view, in_layer}
use Rattle.oz_semantics.specs.Settling.{may_fail, is_inconsistent, inconsistent_spaces, top_is_inconsistent}
use Rattle.oz_semantics.specs.declared.value.Tell.{Tell}
use Rattle.oz_semantics.specs.declared.configuration.Layer.{Layer}
use Rattle.oz_laws.proofs.SameLaws.{In-from_contains, contains-from_In, and-left, and-right}
use Rattle.view_laws.specs.Sights.{KeepsSpace, KeepsTells}
use Rattle.view_laws.specs.Trees.{IsTree}
use Rattle.view_laws.specs.Spaceless.{gives_space}
use Rattle.view_laws.proofs.Members.{decide, not_both, and_both, each, by_each, some_of, by_some}
use Rattle.view_laws.proofs.ListLaws.{map_in, in_map, filter_none, edit_in, edited_in}
use Rattle.view_laws.proofs.SightLaws.{quiet_unseen}
use Rattle.view_laws.proofs.TreeLaws.{change_tree}
use Rattle.space_core.specs.Places.{IsFirst}
use Rattle.space_core.specs.Shown.{shown, shown_all, seen_above, gave_out, is_home, Traces, IsBare, Fits, IsSound, IsQuiet}
use Rattle.space_core.specs.declared.level.Level.{Level}
use Rattle.space_core.proofs.MemberLaws.{elsewhere_in, set_member}
use Rattle.space_core.proofs.TraceLaws.{traces_nothing}

-- Levels and layers

pub shown_member : (levels : List Level) (l : Level) → Contains levels l → Contains (shown_all levels) (shown l)
shown_member levels l c = contains-from_In (shown_all levels) (shown l) (map_in shown levels l (In-from_contains levels l c))

-- what is read at the place of a layer shows it
pub read_shown : (levels : List Level) (space : List ℕ) (place : ℕ) (x : Layer) → IsFirst (is_of space) (shown_all levels) place x → (l : Level) → l ≡ slice_index_or levels place l
    → shown l ≡ x
read_shown levels space place x h l e =
    let within : place < length levels = omega (arith, h.within, length-map levels shown) in
    ap shown e ∙ sym (get_or-map shown levels place l x within) ∙ h.item

pub place_within : (levels : List Level) (space : List ℕ) (place : ℕ) (x : Layer) → IsFirst (is_of space) (shown_all levels) place x → place < length levels
place_within levels space place x h = omega (arith, h.within, length-map levels shown)

pub place_member : (levels : List Level) (space : List ℕ) (place : ℕ) (x : Layer) → IsFirst (is_of space) (shown_all levels) place x → (l : Level) → l ≡ slice_index_or levels place l
    → Contains levels l
place_member levels space place x h l e = (place, place_within levels space place x h, sym e)

-- a change of what is kept at the place
pub set_shown : (levels : List Level) (space : List ℕ) (place : ℕ) (x : Layer) → IsFirst (is_of space) (shown_all levels) place x → (l m : Level) → l ≡ slice_index_or levels place l
    → (change : Layer → Layer) → shown m ≡ change (shown l) → shown_all (slice_set levels place m) ≡ in_layer space change (shown_all levels)
set_shown levels space place x h l m e change b =
    map-set shown levels place m ∙ ap (slice_set (shown_all levels) place) (b ∙ ap change (read_shown levels space place x h l e)) ∙ sym (h.edited change)

-- What fits, fits after

-- the same store, and what belongs to it
pub record IsAlike (old new : Level) : Type 0 where
  pub space : new.space ≡ old.space
  pub store : new.constraints.store ≡ old.constraints.store
  pub told_from : new.told_from ≡ old.told_from
  pub touched : new.touched ≡ old.touched
  pub traced : new.traced ≡ old.traced
  pub knows : new.knows_space ≡ old.knows_space
  pub bare : new.bare ≡ old.bare

pub fits_alike : (layers : List Layer) (l m : Level) → IsAlike l m → Fits layers l → Fits layers m
fits_alike layers l m e f =
    let l' : Level = record l { status = m.status; constraints = record l.constraints { propagators = m.constraints.propagators }; threads = m.threads; triggers = m.triggers; objects = m.objects; numbers = m.numbers } in
    let bare : l'.bare ≡ true → IsBare l' = λ b. (let k = f.bare b in record { inner = k.inner; store = k.store; touched = k.touched }) in
    let f' : Fits layers l' = record { seen = f.seen; from = f.from; bare = bare; consistent = f.consistent; home = f.home; touches = f.touches; known = f.known } in
    let same : l' ≡ m = λ i. record {
      space = sym e.space i;
      status = m.status;
      constraints = record { store = sym e.store i; propagators = m.constraints.propagators };
      told_from = sym e.told_from i;
      touched = sym e.touched i;
      threads = m.threads;
      triggers = m.triggers;
      objects = m.objects;
      numbers = m.numbers;
      traced = sym e.traced i;
      knows_space = sym e.knows i;
      bare = sym e.bare i;
    } in
    subst (Fits layers) same f'

-- all that is home stays home
abbrev pub KeepsHomes : List Layer → List Layer → List ℕ → Type 0
KeepsHomes before after space = (x : Ident) → is_home before space x ≡ true → is_home after space x ≡ true

pub all_home : (before after : List Layer) (space : List ℕ) (xs : List Ident) → KeepsHomes before after space → list_all (is_home before space) xs ≡ true → list_all (is_home after space) xs ≡ true
all_home before after space xs h e = by_each (is_home after space) xs (λ x c. h x (each (is_home before space) xs e x c))

pub fits_after : (before after : List Layer) (l : Level) → view after l.space ≡ view before l.space → seen_above after l.space ≡ seen_above before l.space → KeepsHomes before after l.space → Fits before l → Fits after l
fits_after before after l v a h f = record {
  seen = λ b. f.seen b ∙ sym v;
  from = λ b. f.from b ∙ ap length (sym a);
  bare = f.bare;
  consistent = ap is_consistent v ∙ f.consistent;
  home = λ t. all_home before after l.space (flat_map named_by (shown l).tells) h (f.home t);
  touches = λ t n. subst (λ (ts : List Tell). Traces l.space ts (shown l).tells l.touched) (sym a) (f.touches t n);
  known = f.known;
}

pub drop_nothing : {A : Type 0} (n : ℕ) → ◌≡◌ {A = List A} (drop n []) []
drop_nothing zero = refl
drop_nothing (suc n) = refl

-- a bare space fits where it sees what is consistent
pub fits_bare : (layers : List Layer) (l : Level) → l.bare ≡ true → IsBare l → is_consistent (view layers l.space) ≡ true → Fits layers l
fits_bare layers l b h consistent =
    let none : (shown l).tells ≡ [] = ap (drop l.told_from) h.store ∙ drop_nothing l.told_from in
    record {
      seen = λ k. absurd (not_both _ b k);
      from = λ k. absurd (not_both _ b k);
      bare = λ k. h;
      consistent = consistent;
      home = λ t. ap (λ (ts : List Tell). list_all (is_home layers l.space) (flat_map named_by ts)) none;
      touches = λ t n.
          subst (λ (ts : List Tell). Traces l.space (seen_above layers l.space) ts l.touched) (sym none)
          (subst (Traces l.space (seen_above layers l.space) []) (sym h.touched) (traces_nothing l.space (seen_above layers l.space)));
      known = λ k. ap (list_any gives_space) none;
    }

pub above_same : (before after : List Layer) (space : List ℕ) → (is_top space ≡ false → view after (parent_of space) ≡ view before (parent_of space)) → seen_above after space ≡ seen_above before space
above_same before after [] h = refl
above_same before after (n ∷ s) h = h refl

pub above_is : (layers : List Layer) (space : List ℕ) → is_top space ≡ false → seen_above layers space ≡ view layers (parent_of space)
above_is layers [] e = absurd (false≢true (sym e))
above_is layers (n ∷ s) e = refl

-- a layer of the same name which gave out as many variables
abbrev pub Grown : List Layer → Layer → Type 0
Grown after k = (n : Layer) × Contains after n × (n.space ≡ k.space) × (k.next.variable ≤ n.next.variable)

more_variables : (x a b : ℕ) → a ≤ b → nat_lt x a ≡ true → nat_lt x b ≡ true
more_variables x a b le e = grind (arith, nat_tests, le, e)

pub homes_kept : (before after : List Layer) (space : List ℕ) → ((k : Layer) → Contains before k → is_below k.space space ≡ true → Grown after k) → KeepsHomes before after space
homes_kept before after space grown x e =
    let r = some_of (λ (l : Layer). gave_out x l && is_below l.space space) before e in
    let gave : gave_out x r.0 ≡ true = and-left _ _ r.2 in
    let below : is_below r.0.space space ≡ true = and-right (gave_out x r.0) _ r.2 in
    let g = grown r.0 r.1 below in
    by_some (λ (l : Layer). gave_out x l && is_below l.space space) after g.0 g.1
    (and_both _ _ (and_both _ _ (more_variables x.number r.0.next.variable g.0.next.variable g.3 (and-left _ _ gave)) (subst (λ s. list_eq s x.space ≡ true) (sym g.2) (and-right (nat_lt x.number r.0.next.variable) _ gave)))
    (subst (λ s. is_below s space ≡ true) (sym g.2) below))

-- after a change of one layer
pub changed_grown : (layers : List Layer) (space : List ℕ) (change : Layer → Layer) → ((k : Layer) → layer_at layers space ≡ Some k → ((change k).space ≡ k.space) × (k.next.variable ≤ (change k).next.variable))
    → (k : Layer) → Contains layers k → Grown (in_layer space change layers) k
changed_grown layers space change keeps k c = elim (edit_in (is_of space) change layers k (In-from_contains layers k c)) [
  | inl i ↦ (k, contains-from_In (in_layer space change layers) k i, refl, omega arith)
  | inr e ↦ (change k, contains-from_In (in_layer space change layers) (change k) (edited_in (is_of space) change layers k e), (keeps k e).0, (keeps k e).1)
]

-- Edits that tell nothing

-- the layers are these, and what is kept of each space fits them
pub record Edited (levels news : List Level) (space : List ℕ) (change : Layer → Layer) : Type 0 where
  pub shows : shown_all news ≡ in_layer space change (shown_all levels)
  pub sound : IsSound news

module _ (levels : List Level) (space : List ℕ) (place : ℕ) (x : Layer) (h : IsFirst (is_of space) (shown_all levels) place x) (l m : Level) (e : l ≡ slice_index_or levels place l)
    (change : Layer → Layer) (q : IsQuiet change l m) where
  abbrev layers : List Layer
  layers = shown_all levels

  abbrev after : List Layer
  after = in_layer space change layers

  found_is : (k : Layer) → layer_at layers space ≡ Some k → k ≡ shown l
  found_is k at = let found = h.found in let same : x ≡ k = cc in sym same ∙ sym (read_shown levels space place x h l e)

  changed_is : (k : Layer) → layer_at layers space ≡ Some k → change k ≡ shown m
  changed_is k at = ap change (found_is k at) ∙ sym q.becomes

  keeps_space : KeepsSpace layers space change
  keeps_space k at = ap (λ (n : Layer). n.space) (changed_is k at) ∙ q.space ∙ sym (ap (λ (n : Layer). n.space) (found_is k at))

  keeps_tells : KeepsTells layers space change
  keeps_tells k at = ap (λ (n : Layer). n.tells) (changed_is k at) ∙ ap₂ (λ (n : ℕ) (ts : List Tell). drop n ts) q.told_from q.store ∙ sym (ap (λ (n : Layer). n.tells) (found_is k at))

  keeps_variables : (k : Layer) → layer_at layers space ≡ Some k → k.next.variable ≤ (change k).next.variable
  keeps_variables k at =
      let a : k.next.variable ≡ l.numbers.variable = ap (λ (n : Layer). n.next.variable) (found_is k at) in
      let b : (change k).next.variable ≡ m.numbers.variable = ap (λ (n : Layer). n.next.variable) (changed_is k at) in
      omega (arith, a, b, q.variables)

  keeps_children : (k : Layer) → layer_at layers space ≡ Some k → k.next.child ≤ (change k).next.child
  keeps_children k at =
      let a : k.next.child ≡ l.numbers.child = ap (λ (n : Layer). n.next.child) (found_is k at) in
      let b : (change k).next.child ≡ m.numbers.child = ap (λ (n : Layer). n.next.child) (changed_is k at) in
      omega (arith, a, b, q.children)

  same_views : (other : List ℕ) → view after other ≡ view layers other
  same_views other = quiet_unseen change layers space other keeps_space keeps_tells

  fits_quietly : (n : Level) → Fits layers n → Fits after n
  fits_quietly n f =
      fits_after layers after n (same_views n.space) (above_same layers after n.space (λ t. same_views (parent_of n.space)))
      (homes_kept layers after n.space (λ k c b. changed_grown layers space change (λ j at. (keeps_space j at, keeps_variables j at)) k c)) f

  pub quiet_edit : IsSound levels → Edited levels (slice_set levels place m) space change
  quiet_edit s =
      let shows : shown_all (slice_set levels place m) ≡ after = set_shown levels space place x h l m e change q.becomes in
      record {
        shows = shows;
        sound = record {
          tree = subst IsTree (sym shows) (change_tree space change layers (λ k at. (keeps_space k at, keeps_children k at)) s.tree);
          fits = λ n c. subst (λ (ls : List Layer). Fits ls n) (sym shows) (elim (set_member levels place m n (place_within levels space place x h) c) [
            | inl k ↦ subst (Fits after) (sym k)
                (fits_alike after l m (record { space = q.space; store = q.store; told_from = q.told_from; touched = q.touched; traced = q.traced; knows = q.knows; bare = q.bare }) (fits_quietly l (s.fits l (place_member levels space place x h l e))))
            | inr k ↦ fits_quietly n (s.fits n (elsewhere_in levels place n k))
          ]);
        };
      }

-- Consistency

pub sound_consistent : (levels : List Level) → IsSound levels → (k : Layer) → Contains (shown_all levels) k → is_inconsistent (shown_all levels) k ≡ false
sound_consistent levels s k c =
    let r = in_map shown levels k (In-from_contains (shown_all levels) k c) in
    let f = s.fits r.0 (contains-from_In levels r.0 r.1) in
    let sees : is_consistent (view (shown_all levels) k.space) ≡ true = subst (λ (n : Layer). is_consistent (view (shown_all levels) n.space) ≡ true) r.2 f.consistent in
    by (may_fail k.status) (is_consistent (view (shown_all levels) k.space)) sees
  where
    by : (a b : Bool) → b ≡ true → (a && not b) ≡ false
    by true b e = ap not e
    by false b e = refl

pub none_inconsistent : (levels : List Level) → IsSound levels → inconsistent_spaces (shown_all levels) ≡ []
none_inconsistent levels s =
    ap (map (λ (k : Layer). k.space)) (filter_none (is_inconsistent (shown_all levels)) (shown_all levels) (λ k i. sound_consistent levels s k (contains-from_In (shown_all levels) k i)))

pub top_consistent : (levels : List Level) → IsSound levels → top_is_inconsistent (shown_all levels) ≡ false
top_consistent levels s = elim (decide (top_is_inconsistent (shown_all levels))) [
  | inl e ↦ (let r = some_of (λ (k : Layer). is_top k.space && is_inconsistent (shown_all levels) k) (shown_all levels) e in
      absurd (not_both _ (and-right (is_top r.0.space) _ r.2) (sound_consistent levels s r.0 r.1)))
  | inr e ↦ e
]

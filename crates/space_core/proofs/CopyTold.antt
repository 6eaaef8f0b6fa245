-- A copy of a child, where the parent is told of it.
use Rattle.std.proofs.Common.{◌≡◌, ◌⊎◌, inl, inr, ℕ, Bool, true, false, if◌then◌else◌, List, [], ◌∷◌, ◌++◌, cond, map, filter, drop, length, refl, sym, ap, ap₂, subst, ◌∙◌, arith, Contains, Option, Some, is_some, unwrap_or, slice_index_or}
use Rattle.std.specs.List.{find}
use Rattle.std.proofs.lemmas.Bool.{false≢true}
use Rattle.oz_base.specs.Lists.{list_eq, edit_first}
use Rattle.oz_base.specs.declared.names.Ident.{Ident}
use Rattle.oz_semantics.specs.Names.{is_below, is_properly_below, is_top, parent_of, child_name}
use Rattle.oz_semantics.specs.Store.{is_consistent}
use Rattle.oz_semantics.specs.Configurations.{is_of, layer_at, layer_of, view, in_layer, with_frames, telling, new_layer, next_child, counting_child}
use Rattle.oz_semantics.specs.Answers.{Copies}
use Rattle.oz_semantics.specs.Renamings.{renamed_layer}
use Rattle.oz_semantics.specs.Edits.{is_in, moving, all_placed, copied}
use Rattle.oz_semantics.specs.Steps.{without_top}
use Rattle.oz_semantics.specs.declared.value.Tell.{Tell}
use Rattle.oz_semantics.specs.declared.value.Tell.TheVariants.{Is}
use Rattle.oz_semantics.specs.declared.value.Value.TheVariants as value
use Rattle.oz_semantics.specs.declared.configuration.Layer.{Layer}
use Rattle.oz_laws.proofs.SameLaws.{In, In-from_contains, contains-from_In}
use Rattle.renamings.specs.declared.renaming.Renaming.TheVariants.{Move}
use Rattle.renamed_terms.specs.Meanings.{renaming_of}
use Rattle.settle_laws.specs.Settles.{Settles}
use Rattle.settle_laws.proofs.EditLaws.{are_quiet, quiet_view, pop_view, edits_join}
use Rattle.settle_laws.proofs.ListEdits.{filter_dropped}
use Rattle.edit_laws.specs.Edits.{HasChild}
use Rattle.edit_laws.proofs.CopyLaws.{copied_tree}
use Rattle.edit_laws.proofs.CopySights.{copy_unseen}
use Rattle.edit_laws.proofs.GraftLaws.{old_all_put, there_of}
use Rattle.edit_laws.proofs.NameLaws.{below_front, properly_front}
use Rattle.edit_laws.proofs.ViewLaws.{child_above}
use Rattle.view_laws.specs.Trees.{IsTree}
use Rattle.view_laws.proofs.Members.{decide, not_both}
use Rattle.view_laws.proofs.NameLaws.{properly_trans, equal_names}
use Rattle.view_laws.proofs.SightLaws.{space_of, parent_above}
use Rattle.space_core.specs.Anew.{IsLoose, IsAnew, ToldAlone, ClashesAlone, IsToldAlone, counting_by}
use Rattle.space_core.specs.Renamed.{IsOneOf, ArePlacedBy}
use Rattle.space_core.specs.Shown.{shown, shown_all, IsSound}
use Rattle.space_core.specs.SpaceEdits.{IsEdited}
use Rattle.space_core.specs.declared.level.Level.{Level}
use Rattle.space_core.proofs.AnewLaws.{anew_settles, anew_sound}
use Rattle.space_core.proofs.AnswerLaws.{PlaceIn}
use Rattle.space_core.proofs.GraftLoose.{alone_consistent, alone_loose, alone_shows, clash_alone, Stays, IsNewBelow, graft_loose, renamed_bare, renamed_known}
use Rattle.space_core.proofs.SoundLaws.{homes_kept, above_same, read_shown}
use Rattle.space_core.proofs.SpaceEditLaws.{popped_next, told_at, told_tree}

-- An edit leaves it whether an item is there
pub some_edit : {A : Type 0} (p q : A → Bool) (f : A → A) → ((x : A) → p (f x) ≡ p x) → (xs : List A) → is_some (find p (edit_first q f xs)) ≡ is_some (find p xs)
some_edit p q f keeps [] = refl
some_edit p q f keeps (x ∷ xs) = by (q x) (some_edit p q f keeps xs)
  where
    same : (b : Bool) → is_some (cond b (Some (f x)) (find p xs)) ≡ is_some (cond b (Some x) (find p xs))
    same true = refl
    same false = refl

    later : (b : Bool) → is_some (find p (edit_first q f xs)) ≡ is_some (find p xs) → is_some (cond b (Some x) (find p (edit_first q f xs))) ≡ is_some (cond b (Some x) (find p xs))
    later true e = refl
    later false e = e

    by : (b : Bool) → is_some (find p (edit_first q f xs)) ≡ is_some (find p xs) → is_some (find p (cond b (f x ∷ xs) (x ∷ edit_first q f xs))) ≡ is_some (find p (x ∷ xs))
    by true e = ap (λ (b : Bool). is_some (cond b (Some (f x)) (find p xs))) (keeps x) ∙ same (p x)
    by false e = later (p x) e

pub kept_there : (space other : List ℕ) (change : Layer → Layer) (layers : List Layer) → ((l : Layer) → (change l).space ≡ l.space) → is_some (layer_at layers other) ≡ true → is_some (layer_at (in_layer space change layers) other) ≡ true
kept_there space other change layers keeps e = some_edit (is_of other) (is_of space) change (λ l. ap (λ (p : List ℕ). list_eq p other) (keeps l)) layers ∙ e

module _ (levels : List Level) (layers : List Layer) (viewed : shown_all levels ≡ layers) (s : IsSound levels) (id : Ident) (place : ℕ) (h : PlaceIn levels id.space place) (child : List ℕ) (has : HasChild layers id.space child)
    (variable : Ident) (copy : List ℕ) (is_copy : copy ≡ next_child (layer_of layers id.space)) (ts : List Tell) (is_tells : ts ≡ Is variable (value.Space copy) ∷ []) where
  abbrev popped : List Layer
  popped = without_top id layers

  abbrev before : List Layer
  before = in_layer id.space (telling ts) popped

  tells_are : ts ≡ Is variable (value.Space (next_child (layer_of popped id.space))) ∷ []
  tells_are = is_tells ∙ ap (λ (p : List ℕ). Is variable (value.Space p) ∷ []) (is_copy ∙ sym (popped_next id layers has.parent_there))

  sees_are : is_consistent (view popped id.space ++ Is variable (value.Space (next_child (layer_of popped id.space))) ∷ []) ≡ is_consistent (view (shown_all levels) id.space ++ ts)
  sees_are = ap₂ (λ (us vs : List Tell). is_consistent (us ++ vs)) (pop_view id layers id.space ∙ ap (λ (ls : List Layer). view ls id.space) (sym viewed)) (sym tells_are)

  own_name : (layer_of layers id.space).space ≡ id.space
  own_name = space_of layers id.space (layer_of layers id.space) (there_of (layer_at layers id.space) id.space has.parent_there)

  under_copy : is_properly_below id.space copy ≡ true
  under_copy =
      subst (λ (p : List ℕ). is_properly_below id.space p ≡ true)
      (ap (λ (p : List ℕ). child_name p (layer_of layers id.space).next.child) (sym own_name) ∙ sym is_copy)
      (properly_front id.space (layer_of layers id.space).next.child [])

  apart : (p : List ℕ) → is_properly_below id.space p ≡ false → is_below copy p ≡ false
  apart p a = elim (decide (is_below copy p)) [ inl e ↦ absurd (not_both _ (properly_trans id.space copy p under_copy e) a) | inr e ↦ e ]

  apart_parent : (p : List ℕ) → is_top p ≡ false → is_properly_below id.space p ≡ false → is_below copy (parent_of p) ≡ false
  apart_parent p inner a = elim (decide (is_below copy (parent_of p))) [ inl e ↦ absurd (not_both _ (parent_above p inner copy e) (apart p a)) | inr e ↦ e ]

  copy_is : next_child (layer_of before id.space) ≡ copy
  copy_is = ap (λ (o : Option Layer). next_child (unwrap_or o (new_layer id.space))) (told_at id layers has.parent_there ts) ∙ sym is_copy

  has_before : HasChild before id.space child
  has_before = record {
    below = has.below;
    parent_there = ap is_some (told_at id layers has.parent_there ts);
    child_there = kept_there id.space child (telling ts) popped (λ l. refl) (kept_there id.space child (with_frames id.number (λ frames. drop 1 frames)) layers (λ l. refl) has.child_there);
  }

  abbrev after : List Layer
  after = copied id.space child before

  after_tree : IsTree after
  after_tree = copied_tree id.space child before has_before (told_tree id layers has.parent_there ts (subst IsTree viewed s.tree))

  parent_out : (l : Layer) → is_of id.space l ≡ true → is_in child l ≡ false
  parent_out l e = ap (is_below child) (equal_names l.space id.space e) ∙ child_above id.space child has.below

  same_copied : filter (is_in child) before ≡ filter (is_in child) (shown_all levels)
  same_copied =
      filter_dropped (is_in child) (is_of id.space) (telling ts) (λ l. refl) parent_out popped
      ∙ filter_dropped (is_in child) (is_of id.space) (with_frames id.number (λ frames. drop 1 frames)) (λ l. refl) parent_out layers
      ∙ ap (filter (is_in child)) (sym viewed)

  pub copy_clash : ClashesAlone (counting_by id.number) place ts levels → (new : List Layer) → new ≡ layers → IsEdited id (Copies child variable) layers new false
  copy_clash c new e = λ statements. (sees_are ∙ clash_alone levels id.space place s h (counting_by id.number) ts c, e)

  module _ (told : List Level) (t : ToldAlone (counting_by id.number) place ts levels told) (news : List Level) (put : ArePlacedBy (Move child copy) levels told news) where
    told_is : shown_all told ≡ in_layer id.space counting_child before
    told_is =
        alone_shows levels id.space place s h (counting_by id.number) (λ k. refl) ts told t
        ∙ ap (λ (ls : List Layer). in_layer id.space (telling ts) (in_layer id.space (counting_by id.number) ls)) viewed
        ∙ edits_join id.space (telling ts) (counting_by id.number) layers (λ l. refl)
        ∙ sym (edits_join id.space counting_child (λ l. telling ts (with_frames id.number (λ frames. drop 1 frames) l)) layers (λ l. refl))
        ∙ sym (ap (in_layer id.space counting_child) (edits_join id.space (telling ts) (with_frames id.number (λ frames. drop 1 frames)) layers (λ l. refl)))

    shows : shown_all news ≡ after
    shows =
        put.shows
        ∙ ap₂ (λ (ks ls : List Layer). all_placed (map (renamed_layer (moving child copy)) ks) ls) (sym same_copied) told_is
        ∙ sym (ap (λ (c : List ℕ). all_placed (map (renamed_layer (moving child c)) (filter (is_in child) before)) (in_layer id.space counting_child before)) copy_is)

    unseen : (p : List ℕ) → is_below copy p ≡ false → view after p ≡ view (shown_all told) p
    unseen p a =
        copy_unseen id.space child p before (subst (λ (c : List ℕ). is_below c p ≡ false) (sym copy_is) a)
        ∙ sym (quiet_view counting_child before id.space p are_quiet.child)
        ∙ sym (ap (λ (ls : List Layer). view ls p) told_is)

    still_there : (k : Layer) → Contains (shown_all told) k → Contains after k
    still_there k c =
        contains-from_In after k
        (old_all_put (map (renamed_layer (moving child (next_child (layer_of before id.space)))) (filter (is_in child) before)) (in_layer id.space counting_child before) k
        (subst (In k) told_is (In-from_contains (shown_all told) k c)))

    new_name : (n : Level) (o : IsOneOf (Move child copy) levels n) → n.space ≡ copy ++ drop (length child) o.before.space
    new_name n o =
        ap (λ (k : Layer). k.space) o.renamed.shows
        ∙ ap (λ (b : Bool). if b then copy ++ drop (length child) o.before.space else o.before.space) o.named

    new_under : (n : Level) → IsOneOf (Move child copy) levels n → is_properly_below id.space n.space ≡ true
    new_under n o = properly_trans id.space copy n.space under_copy (subst (λ (p : List ℕ). is_below copy p ≡ true) (sym (new_name n o)) (below_front copy (drop (length child) o.before.space)))

    each : (n : Level) → Contains news n → Stays id.space told after n ⊎ IsNewBelow id.space n
    each n c = elim (put.member n c) [
      | inl d ↦ inl (record {
        among = d;
        homes = homes_kept (shown_all told) after n.space (λ k e b. (k, still_there k e, refl, omega arith));
        seen = λ a. unseen n.space (apart n.space a);
        above = λ a. above_same (shown_all told) after n.space (λ inner. unseen (parent_of n.space) (apart_parent n.space inner a));
      })
      | inr o ↦ inr (record {
        under = new_under n o;
        home = λ t. absurd (false≢true (sym o.renamed.traced ∙ t));
        known = renamed_known (renaming_of (Move child copy)) o.before n o.renamed (s.fits o.before o.among).known;
        bare = renamed_bare (renaming_of (Move child copy)) id.space o.before n o.renamed (s.fits o.before o.among).bare (new_under n o);
      })
    ]

    loose_news : IsLoose id.space news
    loose_news = graft_loose id.space told news after (alone_loose levels id.space place s h (counting_by id.number) (λ k. refl) ts told t) shows after_tree each

    module _ (final : List Level) (anew : IsAnew id.space news final) where
      pub copy_sound : IsSound final
      copy_sound = anew_sound id.space news loose_news final anew

      pub copy_edited : IsEdited id (Copies child variable) layers (shown_all final) true
      copy_edited = λ statements. (
        sees_are ∙ alone_consistent levels id.space place s h (counting_by id.number) (λ k. refl) ts told t,
        subst (λ (us : List Tell). Settles id.space (copied id.space child (in_layer id.space (telling us) popped)) (shown_all final)) tells_are
            (subst (λ (ls : List Layer). Settles id.space ls (shown_all final)) shows (anew_settles id.space news loose_news final anew)),
      )

-- What the calls came to, by what they were called with
pub copy_named : (levels : List Level) (layers : List Layer) → shown_all levels ≡ layers → (space : List ℕ) (place : ℕ) → PlaceIn levels space place → (l : Level) → l ≡ slice_index_or levels place l → (copy : List ℕ) → copy ≡ next_child (shown l)
    → copy ≡ next_child (layer_of layers space)
copy_named levels layers viewed space place h l e copy named =
    named
    ∙ ap next_child (read_shown levels space place h.0 h.1 l e)
    ∙ sym (ap (λ (o : Option Layer). next_child (unwrap_or o (new_layer space))) h.1.found)
    ∙ ap (λ (ls : List Layer). next_child (layer_of ls space)) viewed

pub alone_by : (change : Layer → Layer) (place : ℕ) {old levels : List Level} {given ts : List Tell} (new : List Level) {b d : Bool} → old ≡ levels → given ≡ ts → b ≡ d → IsToldAlone change place given old new b → IsToldAlone change place ts levels new d
alone_by change place {old} {levels} {given} {ts} new {b} {d} e f g a =
    subst (IsToldAlone change place ts levels new) g
    (subst (λ (ls : List Level). IsToldAlone change place ts ls new b) e (subst (λ (us : List Tell). IsToldAlone change place us old new b) f a))

pub put_by : {from child : List ℕ} (copy : List ℕ) {source levels : List Level} (told news : List Level) → from ≡ child → source ≡ levels → ArePlacedBy (Move from copy) source told news → ArePlacedBy (Move child copy) levels told news
put_by {from} {child} copy {source} {levels} told news e f a =
    subst (λ (ls : List Level). ArePlacedBy (Move child copy) ls told news) f (subst (λ (p : List ℕ). ArePlacedBy (Move p copy) source told news) e a)

-- A child becomes a part of its parent, where the parent is told of it.
use Rattle.std.proofs.Common.{◌≡◌, ◌⊎◌, inl, inr, ℕ, ◌+◌, ◌-◌, Bool, true, false, not, ◌&&◌, List, [], ◌∷◌, ◌++◌, map, filter, drop, slice_set, slice_index_or, refl, sym, ap, ap₂, subst, ◌∙◌, arith, Contains, Option, is_some, unwrap_or}
use Rattle.std.specs.List.{list_any}
use Rattle.std.proofs.lemmas.Bool.{false≢true}
use Rattle.std.proofs.lemmas.List.{get_or-map, length-map}
use Rattle.oz_base.specs.Lists.{list_eq}
use Rattle.oz_base.specs.declared.names.Ident.{Ident}
use Rattle.oz_semantics.specs.Names.{is_below, is_properly_below, is_top, parent_of, root_of}
use Rattle.oz_semantics.specs.Store.{is_consistent}
use Rattle.oz_semantics.specs.Configurations.{is_of, layer_at, layer_of, view, in_layer, with_frames, telling, new_layer}
use Rattle.oz_semantics.specs.Answers.{TakesIn}
use Rattle.oz_semantics.specs.Renamings.{Renaming, renamed_tell, renamed_layer}
use Rattle.oz_semantics.specs.declared.value.Tell.TheVariants.{Equal}
use Rattle.oz_semantics.specs.Edits.{is_under, space_into, merging, merge_tells, all_placed, joined, merged_away, taken_into, taken_in}
use Rattle.oz_semantics.specs.Steps.{without_top}
use Rattle.oz_semantics.specs.declared.value.Tell.{Tell}
use Rattle.oz_semantics.specs.declared.configuration.Layer.{Layer}
use Rattle.oz_laws.proofs.SameLaws.{In, In-from_contains, contains-from_In}
use Rattle.renamings.specs.declared.renaming.Renaming.{Renaming as Names}
use Rattle.renamings.specs.declared.renaming.Renaming.TheVariants.{Merge}
use Rattle.renamed_terms.specs.Meanings.{renaming_of, given_out_by}
use Rattle.settle_laws.specs.Settles.{Settles, IsQuiet as IsQuietChange}
use Rattle.settle_laws.proofs.EditLaws.{pop_view, quiet_view, edits_join}
use Rattle.settle_laws.proofs.ListEdits.{filter_dropped, filter_edit, edits_apart, find_edit}
use Rattle.edit_laws.specs.Edits.{HasChild}
use Rattle.edit_laws.proofs.GraftLaws.{there_of, has_of_in, old_all_put}
use Rattle.edit_laws.proofs.MergeLaws.{into_front, cut_at, taken_tree}
use Rattle.edit_laws.proofs.MergeSights.{taken_unseen}
use Rattle.edit_laws.proofs.NameLaws.{child_of, parent_child, properly_front}
use Rattle.edit_laws.proofs.ViewLaws.{child_above}
use Rattle.view_laws.specs.Trees.{IsTree, is_ascending, names_of}
use Rattle.view_laws.specs.Spaceless.{gives_space}
use Rattle.view_laws.proofs.Members.{decide, not_both}
use Rattle.view_laws.proofs.NameLaws.{below_itself, below_trans, properly_by, equal_names}
use Rattle.view_laws.proofs.SightLaws.{space_of, parent_above}
use Rattle.view_laws.proofs.TreeLaws.{ascending_filter}
use Rattle.view_laws.proofs.ListLaws.{in_filter, edit_in}
use Rattle.space_core.specs.Anew.{IsLoose, IsAnew, ToldAlone, ClashesAlone, IsToldAlone}
use Rattle.space_core.specs.Merging.{joining_by, IsMergedAway}
use Rattle.space_core.specs.Renamed.{gives_name, renamed_of, IsOneOf, ArePlacedBy}
use Rattle.space_core.specs.Shown.{shown, shown_all, IsSound}
use Rattle.space_core.specs.SpaceEdits.{IsEdited}
use Rattle.space_core.specs.declared.level.Level.{Level}
use Rattle.space_core.proofs.AnewLaws.{anew_settles, anew_sound}
use Rattle.space_core.proofs.AnswerLaws.{PlaceIn}
use Rattle.space_core.proofs.FateLaws.{under_inner}
use Rattle.space_core.proofs.CopyTold.{some_edit, kept_there, alone_by}
use Rattle.space_core.proofs.GraftLoose.{alone_consistent, alone_loose, alone_shows, clash_alone, Stays, IsNewBelow, graft_loose, renamed_bare, renamed_known}
use Rattle.space_core.proofs.MemberLaws.{IsElsewhere, elsewhere_in, set_member, filter_member, map_filter}
use Rattle.space_core.proofs.SoundLaws.{Grown, homes_kept, above_same, read_shown, set_shown, shown_member, place_within}
use Rattle.space_core.proofs.TellLaws.{other_name}
use Rattle.space_core.proofs.SpaceEditLaws.{popped_at, told_at, told_tree}

module _ (levels : List Level) (layers : List Layer) (viewed : shown_all levels ≡ layers) (s : IsSound levels) (id : Ident) (place : ℕ) (h : PlaceIn levels id.space place) (child : List ℕ) (has : HasChild layers id.space child)
    (variable : Ident) where
  abbrev popped : List Layer
  popped = without_top id layers

  abbrev pop : Layer → Layer
  pop = with_frames id.number (λ frames. drop 1 frames)

  -- the child and the parent before
  abbrev pub inner : Layer
  inner = layer_of layers child

  abbrev pub outer : Layer
  outer = layer_of layers id.space

  abbrev pub names : Renaming
  names = merging inner outer

  abbrev pub tells : List Tell
  tells = merge_tells inner outer variable

  other_space : (l : Layer) → is_of child l ≡ true → is_of id.space l ≡ false
  other_space l e = elim (decide (is_of id.space l)) [
    | inl k ↦ absurd (not_both _ (below_itself child) (subst (λ (p : List ℕ). is_below child p ≡ false) (sym (equal_names l.space id.space k) ∙ equal_names l.space child e) (child_above id.space child has.below)))
    | inr k ↦ k
  ]

  not_child : (l : Layer) → is_of id.space l ≡ true → is_of child l ≡ false
  not_child l e = elim (decide (is_of child l)) [ inl k ↦ absurd (not_both _ e (other_space l k)) | inr k ↦ k ]

  popped_child : layer_of popped child ≡ inner
  popped_child = ap (λ (o : Option Layer). unwrap_or o (new_layer child)) (find_edit (is_of child) (is_of id.space) pop (λ l. refl) not_child layers)

  popped_parent : layer_of popped id.space ≡ pop outer
  popped_parent = ap (λ (o : Option Layer). unwrap_or o (new_layer id.space)) (popped_at id layers has.parent_there)

  -- what the definitions tell the parent
  tells_are : tells ≡ merge_tells (layer_of popped child) (layer_of popped id.space) variable
  tells_are = sym (ap₂ (λ (c p : Layer). merge_tells c p variable) popped_child popped_parent)

  abbrev before : List Layer
  before = in_layer id.space (telling tells) popped

  inner_name : inner.space ≡ child
  inner_name = space_of layers child inner (there_of (layer_at layers child) child has.child_there)

  outer_name : outer.space ≡ id.space
  outer_name = space_of layers id.space outer (there_of (layer_at layers id.space) id.space has.parent_there)

  has_before : HasChild before id.space child
  has_before = record {
    below = has.below;
    parent_there = ap is_some (told_at id layers has.parent_there tells);
    child_there = kept_there id.space child (telling tells) popped (λ l. refl) (kept_there id.space child pop layers (λ l. refl) has.child_there);
  }

  tree_before : IsTree before
  tree_before = told_tree id layers has.parent_there tells (subst IsTree viewed s.tree)

  abbrev pub after : List Layer
  after = taken_in id.space child before

  after_tree : IsTree after
  after_tree = taken_tree id.space child before has_before tree_before

  before_parent : layer_of before id.space ≡ telling tells (pop outer)
  before_parent = ap (λ (o : Option Layer). unwrap_or o (new_layer id.space)) (told_at id layers has.parent_there tells)

  before_child : layer_of before child ≡ inner
  before_child = ap (λ (o : Option Layer). unwrap_or o (new_layer child)) (find_edit (is_of child) (is_of id.space) (telling tells) (λ l. refl) not_child popped) ∙ popped_child

  abbrev keep : Layer → Bool
  keep l = not (is_properly_below child l.space)

  abbrev into : Layer → Layer
  into l = joined (renamed_layer names inner) l

  -- what stands beside the layers that come from below the child
  abbrev beside : List Layer
  beside = in_layer id.space into (in_layer child merged_away (filter keep before))

  taken_is : after ≡ all_placed (map (renamed_layer names) (filter (is_under child) before)) beside
  taken_is =
      ap₂ (λ (c p : Layer). taken_into c p before) before_child before_parent
      ∙ ap₂ (λ (c p : List ℕ). all_placed (map (renamed_layer names) (filter (is_under c) before)) (in_layer p into (in_layer c merged_away (filter (λ (l : Layer). not (is_under c l)) before)))) inner_name outer_name

  parent_kept : (l : Layer) → is_of id.space l ≡ true → keep l ≡ true
  parent_kept l e =
      ap (λ (p : List ℕ). not (is_properly_below child p)) (equal_names l.space id.space e)
      ∙ ap (λ (b : Bool). not (b && not (list_eq child id.space))) (child_above id.space child has.below)

  -- an edit of the parent may come last
  pushed : (f : Layer → Layer) → ((l : Layer) → (f l).space ≡ l.space) → in_layer child merged_away (filter keep (in_layer id.space f layers)) ≡ in_layer id.space f (in_layer child merged_away (filter keep layers))
  pushed f keeps =
      ap (in_layer child merged_away) (filter_edit keep (is_of id.space) f (λ l. ap (λ (p : List ℕ). not (is_properly_below child p)) (keeps l)) parent_kept layers)
      ∙ edits_apart (is_of child) (is_of id.space) merged_away f (λ l. ap (λ (p : List ℕ). list_eq p child) (keeps l)) (λ l. refl) other_space (filter keep layers)

  beside_is : beside ≡ in_layer id.space (λ l. into (telling tells (pop l))) (in_layer child merged_away (filter keep layers))
  beside_is =
      ap (λ (ls : List Layer). in_layer id.space into (in_layer child merged_away (filter keep ls))) (edits_join id.space (telling tells) pop layers (λ l. refl))
      ∙ ap (in_layer id.space into) (pushed (λ l. telling tells (pop l)) (λ l. refl))
      ∙ edits_join id.space into (λ l. telling tells (pop l)) (in_layer child merged_away (filter keep layers)) (λ l. refl)

  out_of_child : (l : Layer) → is_of id.space l ≡ true → is_under child l ≡ false
  out_of_child l e = elim (decide (is_under child l)) [ inl k ↦ absurd (not_both _ (parent_kept l e) (ap not k)) | inr k ↦ k ]

  same_under : filter (is_under child) before ≡ filter (is_under child) (shown_all levels)
  same_under =
      filter_dropped (is_under child) (is_of id.space) (telling tells) (λ l. refl) out_of_child popped
      ∙ filter_dropped (is_under child) (is_of id.space) pop (λ l. refl) out_of_child layers
      ∙ ap (filter (is_under child)) (sym viewed)

  sees_are : is_consistent (view popped id.space ++ merge_tells (layer_of popped child) (layer_of popped id.space) variable) ≡ is_consistent (view (shown_all levels) id.space ++ tells)
  sees_are = ap₂ (λ (us vs : List Tell). is_consistent (us ++ vs)) (pop_view id layers id.space ∙ ap (λ (ls : List Layer). view ls id.space) (sym viewed)) (sym tells_are)

  under_parent : is_properly_below id.space child ≡ true
  under_parent = let c = child_of id.space child has.below in subst (λ (p : List ℕ). is_properly_below id.space p ≡ true) (sym c.1) (properly_front id.space c.0 [])

  pub merge_clash : (r : Renaming) → ClashesAlone (joining_by r inner id.number) place tells levels → (new : List Layer) → new ≡ layers → IsEdited id (TakesIn child variable) layers new false
  merge_clash r c new e = λ statements. (sees_are ∙ clash_alone levels id.space place s h (joining_by r inner id.number) tells c, e)

  module _ (by : Names) (is_by : by ≡ Merge inner.space outer.space (given_out_by outer)) (told : List Level) (t : ToldAlone (joining_by (renaming_of by) inner id.number) place tells levels told)
      (cut : List Level) (cutting : cut ≡ filter (λ (l : Level). not (is_properly_below child l.space)) told) (left : ℕ) (hl : PlaceIn cut child left) (lc m : Level) (el : lc ≡ slice_index_or cut left lc) (away : IsMergedAway lc m)
      (news : List Level) (put : ArePlacedBy by levels (slice_set cut left m) news) where
    names_are : renaming_of by ≡ names
    names_are = ap renaming_of is_by

    abbrev join : Layer → Layer
    join l = joining_by (renaming_of by) inner id.number l

    told_is : shown_all told ≡ in_layer id.space (λ l. telling tells (join l)) layers
    told_is =
        alone_shows levels id.space place s h join (λ k. refl) tells told t
        ∙ ap (λ (ls : List Layer). in_layer id.space (telling tells) (in_layer id.space join ls)) viewed
        ∙ edits_join id.space (telling tells) join layers (λ l. refl)

    cut_is : shown_all cut ≡ filter keep (shown_all told)
    cut_is = ap shown_all cutting ∙ map_filter shown keep told

    mid_is : shown_all (slice_set cut left m) ≡ beside
    mid_is =
        set_shown cut child left hl.0 hl.1 lc m el merged_away away.shows
        ∙ ap (in_layer child merged_away) (cut_is ∙ ap (filter keep) told_is)
        ∙ pushed (λ l. telling tells (join l)) (λ l. refl)
        ∙ ap (λ (r : Renaming). in_layer id.space (λ l. telling tells (joining_by r inner id.number l)) (in_layer child merged_away (filter keep layers))) names_are
        ∙ sym beside_is

    gives : (p : List ℕ) → gives_name by p ≡ is_properly_below child p
    gives p = ap (λ (n : Names). gives_name n p) is_by ∙ ap (λ (c : List ℕ). is_properly_below c p) inner_name

    shows : shown_all news ≡ after
    shows =
        put.shows
        ∙ ap₂ (λ (ks ls : List Layer). all_placed ks ls)
        (ap (λ (n : Names). renamed_of n levels) is_by
        ∙ ap (λ (c : List ℕ). map (renamed_layer names) (filter (is_under c) (shown_all levels))) inner_name
        ∙ ap (map (renamed_layer names)) (sym same_under)) mid_is
        ∙ sym taken_is

    -- What stays is seen as it was

    abbrev into_by : Layer → Layer
    into_by l = joined (renamed_layer (renaming_of by) inner) l

    told_before : shown_all told ≡ in_layer id.space into_by before
    told_before =
        told_is
        ∙ sym (edits_join id.space into_by (λ l. telling tells (pop l)) layers (λ l. refl))
        ∙ sym (ap (in_layer id.space into_by) (edits_join id.space (telling tells) pop layers (λ l. refl)))

    into_quiet : IsQuietChange into_by
    into_quiet = record { space = λ l. refl; status = λ l. refl; tells = λ l. refl }

    view_told : (p : List ℕ) → view (shown_all told) p ≡ view before p
    view_told p = ap (λ (ls : List Layer). view ls p) told_before ∙ quiet_view into_by before id.space p into_quiet

    there_before : (p : List ℕ) → is_some (layer_at (shown_all told) p) ≡ true → is_some (layer_at before p) ≡ true
    there_before p e = sym (some_edit (is_of p) (is_of id.space) into_by (λ l. refl) before) ∙ ap (λ (ls : List Layer). is_some (layer_at ls p)) (sym told_before) ∙ e

    loose_told : IsLoose id.space told
    loose_told = alone_loose levels id.space place s h join (λ k. refl) tells told t

    own_there : (n : Level) → Contains told n → is_some (layer_at before n.space) ≡ true
    own_there n c = there_before n.space (has_of_in (shown_all told) (shown n) n.space (In-from_contains (shown_all told) (shown n) (shown_member told n c)) refl)

    over_there : (n : Level) → Contains told n → is_top n.space ≡ false → is_some (layer_at before (parent_of n.space)) ≡ true
    over_there n c top =
        let g = loose_told.tree.given (shown n) (shown_member told n c) top in
        there_before (parent_of n.space)
        (has_of_in (shown_all told) g.parent (parent_of n.space) (In-from_contains (shown_all told) g.parent g.among) (sym (ap parent_of g.name ∙ parent_child g.parent.space g.number)))

    unseen : (p : List ℕ) → is_some (layer_at before p) ≡ true → is_below child p ≡ false → view after p ≡ view (shown_all told) p
    unseen p there apart = taken_unseen id.space child p before has_before tree_before there apart ∙ sym (view_told p)

    over_apart : (p : List ℕ) → is_top p ≡ false → is_below child p ≡ false → is_below child (parent_of p) ≡ false
    over_apart p top apart = elim (decide (is_below child (parent_of p))) [ inl e ↦ absurd (not_both _ (parent_above p top child e) apart) | inr e ↦ e ]

    still_there : (k : Layer) → Contains (shown_all told) k → is_below child k.space ≡ false → Contains after k
    still_there k c apart =
        let kept : In k (shown_all cut) = subst (In k) (sym cut_is) (in_filter keep (shown_all told) k (In-from_contains (shown_all told) k c) (ap (λ (b : Bool). not (b && not (list_eq child k.space))) apart)) in
        let stays : In k (in_layer child merged_away (shown_all cut)) = elim (edit_in (is_of child) merged_away (shown_all cut) k kept) [
          | inl i ↦ i
          | inr e ↦ absurd (not_both _ (ap (is_below child) (space_of (shown_all cut) child k e) ∙ below_itself child) apart)
        ] in
        let mid : In k beside = subst (In k) (sym (set_shown cut child left hl.0 hl.1 lc m el merged_away away.shows) ∙ mid_is) stays in
        contains-from_In after k (subst (In k) (sym taken_is) (old_all_put (map (renamed_layer names) (filter (is_under child) before)) beside k mid))

    grown : (n : Level) → is_below child n.space ≡ false → (k : Layer) → Contains (shown_all told) k → is_below k.space n.space ≡ true → Grown after k
    grown n apart k c b = (
      k,
      still_there k c (elim (decide (is_below child k.space)) [
        | inl e ↦ absurd (not_both _ (below_trans child k.space n.space e b) apart)
        | inr e ↦ e
      ]),
      refl,
      omega arith,
    )

    stays : (n : Level) → Contains told n → is_below child n.space ≡ false → Stays id.space told after n
    stays n c apart = record {
      among = c;
      homes = homes_kept (shown_all told) after n.space (grown n apart);
      seen = λ a. unseen n.space (own_there n c) apart;
      above = λ a. above_same (shown_all told) after n.space (λ top. unseen (parent_of n.space) (over_there n c top) (over_apart n.space top apart));
    }

    cut_ordered : is_ascending (names_of (shown_all cut)) ≡ true
    cut_ordered = subst (λ (ls : List Layer). is_ascending (names_of ls) ≡ true) (sym cut_is) (ascending_filter keep (shown_all told) loose_told.tree.ordered)

    not_named : (n : Level) → IsElsewhere cut left n → child ≡ n.space → ⊥
    not_named n k q =
        other_name (shown_all cut) k.at left (shown n) hl.0 cut_ordered (omega (arith, k.within, length-map cut shown)) hl.1.within
        (get_or-map shown cut k.at n (shown n) k.within ∙ ap shown k.item) hl.1.item k.other (sym q ∙ sym (space_of (shown_all cut) child hl.0 hl.1.found))

    away_under : is_properly_below id.space m.space ≡ true
    away_under = subst (λ (p : List ℕ). is_properly_below id.space p ≡ true)
        (sym (ap (λ (k : Layer). k.space) away.shows ∙ ap (λ (k : Layer). k.space) (read_shown cut child left hl.0 hl.1 lc el) ∙ space_of (shown_all cut) child hl.0 hl.1.found)) under_parent

    old : (n : Level) → (n ≡ m) ⊎ IsElsewhere cut left n → Stays id.space told after n ⊎ IsNewBelow id.space n
    old n (inl q) = inr (subst (IsNewBelow id.space) (sym q) (record {
      under = away_under;
      home = λ t. ap (λ (j : Layer). j.tells) away.shows;
      known = λ k. ap (λ (j : Layer). list_any gives_space j.tells) away.shows;
      bare = λ b. record { inner = under_inner id.space m.space away_under; store = away.store; touched = away.touched };
    }))
    old n (inr k) =
        let f = filter_member (λ (l : Level). not (is_properly_below child l.space)) told n (subst (λ (ls : List Level). Contains ls n) cutting (elsewhere_in cut left n k)) in
        inl (stays n f.0 (elim (decide (is_below child n.space)) [
          | inl e ↦ absurd (not_both _ f.1 (ap not (properly_by child n.space e (not_named n k))))
          | inr e ↦ e
        ]))

    new : (n : Level) → IsOneOf by levels n → IsNewBelow id.space n
    new n o =
        let inside : is_properly_below inner.space o.before.space ≡ true = sym (ap (λ (b : Names). gives_name b o.before.space) is_by) ∙ o.named in
        let c = cut_at inner.space o.before.space inside in
        let name : n.space ≡ outer.space ++ (c.number + (outer.next.child - 1)) ∷ c.rest =
        ap (λ (k : Layer). k.space) o.renamed.shows ∙ ap (λ (r : Renaming). r.space o.before.space) names_are ∙ ap (space_into inner outer) c.whole ∙ into_front inner outer c.number c.rest in
        let under : is_properly_below id.space n.space ≡ true =
        subst (λ (p : List ℕ). is_properly_below id.space p ≡ true) (sym name)
        (subst (λ (p : List ℕ). is_properly_below p (outer.space ++ (c.number + (outer.next.child - 1)) ∷ c.rest) ≡ true) outer_name (properly_front outer.space (c.number + (outer.next.child - 1)) c.rest)) in
        record {
          under = under;
          home = λ t. absurd (false≢true (sym o.renamed.traced ∙ t));
          known = renamed_known (renaming_of by) o.before n o.renamed (s.fits o.before o.among).known;
          bare = renamed_bare (renaming_of by) id.space o.before n o.renamed (s.fits o.before o.among).bare under;
        }

    each : (n : Level) → Contains news n → Stays id.space told after n ⊎ IsNewBelow id.space n
    each n c = elim (put.member n c) [
      | inl d ↦ old n (set_member cut left m n (place_within cut child left hl.0 hl.1) d)
      | inr o ↦ inr (new n o)
    ]

    loose_news : IsLoose id.space news
    loose_news = graft_loose id.space told news after loose_told shows after_tree each

    module _ (final : List Level) (anew : IsAnew id.space news final) where
      pub merge_sound : IsSound final
      merge_sound = anew_sound id.space news loose_news final anew

      pub merge_edited : IsEdited id (TakesIn child variable) layers (shown_all final) true
      merge_edited = λ statements. (
        sees_are ∙ alone_consistent levels id.space place s h join (λ k. refl) tells told t,
        subst (λ (us : List Tell). Settles id.space (taken_in id.space child (in_layer id.space (telling us) popped)) (shown_all final)) tells_are
            (subst (λ (ls : List Layer). Settles id.space ls (shown_all final)) shows (anew_settles id.space news loose_news final anew)),
      )

-- What the calls came to, by what they were called with
pub layer_named : (levels : List Level) (layers : List Layer) → shown_all levels ≡ layers → (space : List ℕ) (place : ℕ) → PlaceIn levels space place → (l : Level) → l ≡ slice_index_or levels place l → shown l ≡ layer_of layers space
layer_named levels layers viewed space place h l e =
    read_shown levels space place h.0 h.1 l e
    ∙ sym (ap (λ (o : Option Layer). unwrap_or o (new_layer space)) h.1.found)
    ∙ ap (λ (ls : List Layer). layer_of ls space) viewed

pub by_is : (by : Names) (c p : Level) (kid over : Layer) → shown c ≡ kid → shown p ≡ over → by ≡ Merge c.space p.space (given_out_by (shown p)) → by ≡ Merge kid.space over.space (given_out_by over)
by_is by c p kid over e f is = is ∙ ap₂ (λ (k j : Layer). Merge k.space j.space (given_out_by j)) e f

pub tells_is : (by : Names) (c : Level) (kid over : Layer) (variable : Ident) → shown c ≡ kid → by ≡ Merge kid.space over.space (given_out_by over) → (ts : List Tell)
    → ts ≡ map (renamed_tell (renaming_of by)) (shown c).tells ++ Equal variable ((renaming_of by).variable (root_of c.space)) ∷ [] → ts ≡ merge_tells kid over variable
tells_is by c kid over variable e is ts f =
    f ∙ ap₂ (λ (n : Names) (k : Layer). map (renamed_tell (renaming_of n)) k.tells ++ Equal variable ((renaming_of n).variable (root_of k.space)) ∷ []) is e

pub alone_joined : (by : Names) (number place : ℕ) {c kid : Layer} {old levels : List Level} {given ts : List Tell} (new : List Level) {b d : Bool} → c ≡ kid → old ≡ levels → given ≡ ts → b ≡ d
    → IsToldAlone (joining_by (renaming_of by) c number) place given old new b → IsToldAlone (joining_by (renaming_of by) kid number) place ts levels new d
alone_joined by number place {c} {kid} {old} {levels} {given} {ts} new {b} {d} e f g i a =
    alone_by (joining_by (renaming_of by) kid number) place new f g i (subst (λ (k : Layer). IsToldAlone (joining_by (renaming_of by) k number) place given old new b) e a)

pub put_same : (by : Names) {source levels : List Level} (mid news : List Level) → source ≡ levels → ArePlacedBy by source mid news → ArePlacedBy by levels mid news
put_same by {source} {levels} mid news f a = subst (λ (ls : List Level). ArePlacedBy by ls mid news) f a

-- A top that rests does so still where it is as it was, and where the search begins or commits a space.
use Rattle.std.proofs.Common.{◌≡◌, inl, inr, ℕ, Bool, true, false, if◌then◌else◌, cond, List, [], ◌∷◌, refl, sym, ap, subst, ◌∙◌, arith, Contains, Option, Some, None, map, unwrap_or}
use Rattle.std.specs.List.{find, list_any}
use Rattle.std.proofs.lemmas.Bool.{false≢true}
use Rattle.oz_base.specs.Lists.{list_eq, edit_first, holds_of}
use Rattle.oz_base.specs.declared.names.Ident.{Ident}
use Rattle.oz_language.specs.declared.kernel.Statement.{Statement}
use Rattle.oz_semantics.specs.Names.{is_top, is_below, child_name, space_lt}
use Rattle.oz_semantics.specs.Store.{View}
use Rattle.oz_semantics.specs.Configurations.{is_of, layer_at, layer_of, thread_at, is_numbered, is_open, view, in_layer, counting_child, new_layer, next_child}
use Rattle.oz_semantics.specs.Sights.{Sight, can_step}
use Rattle.oz_semantics.specs.Spaces.{sight, states_of, readinesses, thread_ready, has_due, waited_in, layer_goes_on, layers_below, goes_on}
use Rattle.oz_semantics.specs.Edits.{starting, created, committing, committed}
use Rattle.oz_semantics.specs.Triggers.{has_needed, triggered}
use Rattle.oz_semantics.specs.Settling.{top_is_inconsistent, top_failed, without_inconsistent, requeued}
use Rattle.oz_semantics.specs.Runs.{left_by}
use Rattle.oz_semantics.specs.Search.{followed, with_root, chosen_in}
use Rattle.oz_semantics.specs.declared.configuration.Thread.{Thread}
use Rattle.oz_semantics.specs.declared.configuration.Propagator.{Propagator}
use Rattle.oz_semantics.specs.declared.configuration.Layer.{Layer}
use Rattle.oz_semantics.specs.Schedule.{least_due}
use Rattle.turn_laws.proofs.DueLaws.{least_found, due_has}
use Rattle.view_laws.proofs.TreeLaws.{same_named_layer}
use Rattle.oz_semantics.specs.declared.configuration.Configuration.{Configuration}
use Rattle.oz_semantics.specs.declared.outcome.Stepped.TheVariants.{Moved}
use Rattle.oz_laws.proofs.SameLaws.{In, In-from_contains, contains-from_In}
use Rattle.view_laws.proofs.Members.{decide, not_both, or_left, or_right, by_some}
use Rattle.view_laws.proofs.ListLaws.{found_in, in_filter, map_in}
use Rattle.view_laws.proofs.NameLaws.{equal_names}
use Rattle.view_laws.proofs.SightLaws.{space_of, creation_unseen}
use Rattle.view_laws.specs.Spaceless.{gives_space, knows_space, plain_ready}
use Rattle.view_laws.specs.Readies.{seeing}
use Rattle.need_laws.proofs.RoundLaws.{needed_same}
use Rattle.turn_laws.specs.Orderly.{AreOrderly}
use Rattle.turn_laws.specs.Kept.{IsKept, IsThere}
use Rattle.turn_laws.proofs.NumberedLaws.{edits_numbered}
use Rattle.turn_laws.proofs.OrderlyLaws.{IsEdit, is_there, created_orderly}
use Rattle.turn_laws.proofs.HeadLaws.{kept_layers}
use Rattle.settle_laws.proofs.SoundLaws.{sound_top}
use Rattle.turn_laws.proofs.KeptLaws.{kept_root, kept_chosen, created_top, committed_top}
use Rattle.top_laws.specs.Top.{TopRests, RootRests, ChosenRests}
use Rattle.top_laws.proofs.SeenLaws.{spaceless_top, plain_top, waited_same}
use Rattle.top_laws.proofs.OutsideLaws.{LeavesTop, is_empty_name, edit_leaves, left_leaves, TopUnneeded, top_unneeded, left_spaceless, begun_leaves}
use Rattle.top_laws.proofs.EditedLaws.{found_put}

-- by two lists of layers in which the top sees the same, no space among it
rests_seen : (statements : List Statement) (before after : List Layer) (l : Layer) → view after [] ≡ view before [] → list_any gives_space (view before []) ≡ false
    → (is_open l.status ≡ true → (t : Thread) → Contains l.threads t → can_step (thread_ready statements before [] t) ≡ false)
    → is_open l.status ≡ true → (t : Thread) → Contains l.threads t → can_step (thread_ready statements after [] t) ≡ false
rests_seen statements before after l seen none rests opened t c =
    ap can_step
    (plain_top statements after (states_of statements after) t (ap (list_any gives_space) seen ∙ none)
    ∙ ap (λ (v : View). plain_ready (seeing statements [] v) t) seen
    ∙ sym (plain_top statements before (states_of statements before) t none))
    ∙ rests opened t c

-- where the top's layer has the status, the threads and the tells of another
moved_rests : (statements : List Statement) (before after : List Layer) (l : Layer) → layer_at after [] ≡ Some l → view after [] ≡ view before [] → list_any gives_space (view before []) ≡ false
    → knows_space l ≡ false → (is_open l.status ≡ true → (t : Thread) → Contains l.threads t → can_step (thread_ready statements before [] t) ≡ false) → has_due (view before []) l ≡ false
    → TopRests statements after
moved_rests statements before after l at seen none plain rests due =
    subst
    (λ (m : Layer).
    (knows_space m ≡ false) × (is_open m.status ≡ true → (t : Thread) → Contains m.threads t → can_step (thread_ready statements after [] t) ≡ false) × (has_due (view after []) m ≡ false))
    (sym (ap (λ (o : Option Layer). unwrap_or o (new_layer [])) at)) (plain, rests_seen statements before after l seen none rests, ap (λ (v : View). has_due v l) seen ∙ due)

pub same_rests : (statements : List Statement) (before after : List Layer) → LeavesTop before after → TopRests statements before → TopRests statements after
same_rests statements before after leaves rests =
    let own : layer_of after [] ≡ layer_of before [] = ap (λ (o : Option Layer). unwrap_or o (new_layer [])) leaves.same in
    moved_rests statements before after (layer_of before []) (is_there after [] leaves.good.top ∙ ap (λ (l : Layer). Some l) own) leaves.seen (left_spaceless before after leaves rests.0) rests.0 rests.1 rests.2

-- the layers themselves
pub left_itself : (layers : List Layer) → AreOrderly layers → LeavesTop layers layers
left_itself layers good = record { good = good; same = refl; seen = refl }

-- Where nothing goes on

module _ {A : Type 0} where
  pub held_found : (p test : A → Bool) (xs : List A) → holds_of p (find test xs) ≡ true → (x : A) × In x xs × (p x ≡ true)
  held_found p test xs e = by (find test xs) refl e
    where
      by : (o : Option A) → find test xs ≡ o → holds_of p o ≡ true → (x : A) × In x xs × (p x ≡ true)
      by None k f = absurd (false≢true f)
      by (Some x) k f = (x, (found_in test (λ (y : A). y) xs x k).0, f)

module _ (statements : List Statement) (layers : List Layer) (good : AreOrderly layers) where
  abbrev top : Layer
  top = layer_of layers []

  top_found : In top layers × (is_of [] top ≡ true)
  top_found = found_in (is_of []) (λ (l : Layer). l) layers top (is_there layers [] good.top)

  abbrev goes_in : Layer → Bool
  goes_in = layer_goes_on statements layers (states_of statements layers)

  top_name : top.space ≡ []
  top_name = equal_names top.space [] top_found.1

  -- the top goes on where it is open and one of its threads can step
  top_goes : is_open top.status ≡ true → (t : Thread) → In t top.threads → can_step (thread_ready statements layers [] t) ≡ true → goes_in top ≡ true
  top_goes opened t i e =
      or_left _ _
      (subst (λ (b : Bool). list_any can_step (if b then map (thread_ready statements layers top.space) top.threads else []) ≡ true) (sym opened)
      (by_some can_step (map (thread_ready statements layers top.space) top.threads) (thread_ready statements layers top.space t)
      (contains-from_In (map (thread_ready statements layers top.space) top.threads) (thread_ready statements layers top.space t) (map_in (thread_ready statements layers top.space) top.threads t i))
      (ap (λ s. can_step (thread_ready statements layers s t)) top_name ∙ e)))

  none_steps : goes_on statements layers [] ≡ false → is_open top.status ≡ true → (t : Thread) → Contains top.threads t → can_step (thread_ready statements layers [] t) ≡ false
  none_steps still opened t c = elim (decide (can_step (thread_ready statements layers [] t))) [
    | inl e ↦ absurd (not_both _
        (by_some goes_in (layers_below layers []) top
        (contains-from_In (layers_below layers []) top (in_filter (λ (l : Layer). is_below [] l.space) layers top top_found.0 refl))
        (top_goes opened t (In-from_contains top.threads t c) e))
        still)
    | inr e ↦ e
  ]

  -- nor is one of its propagators due
  none_runs : goes_on statements layers [] ≡ false → has_due (view layers []) top ≡ false
  none_runs still = elim (decide (has_due (view layers []) top)) [
    | inl e ↦ absurd (not_both _
        (by_some goes_in (layers_below layers []) top
        (contains-from_In (layers_below layers []) top (in_filter (λ (l : Layer). is_below [] l.space) layers top top_found.0 refl))
        (or_right (list_any can_step (readinesses statements layers (states_of statements layers) top)) _ (ap (λ s. has_due (view layers s) top) top_name ∙ e)))
        still)
    | inr e ↦ e
  ]

  pub still_rests : goes_on statements layers [] ≡ false → knows_space top ≡ false → TopRests statements layers
  still_rests still plain = (plain, none_steps still, none_runs still)

-- The thread at the head is none of a top that rests

pub head_inner : (statements : List Statement) (layers : List Layer) (id : Ident) → IsThere statements layers id → TopRests statements layers → is_top id.space ≡ false
head_inner statements layers id there rests = elim (decide (is_top id.space)) [
  | inl top ↦ (let name : id.space ≡ [] = is_empty_name id.space top in
      absurd (never (subst (λ s. is_open (layer_of layers s).status ≡ true) name there.opened)
      (subst (λ s. holds_of (λ (t : Thread). can_step (thread_ready statements layers s t)) (thread_at (layer_of layers s).threads id.number) ≡ true) name there.ready)))
  | inr e ↦ e
]
  where
    able : Thread → Bool
    able t = can_step (thread_ready statements layers [] t)

    never : is_open (layer_of layers []).status ≡ true → holds_of able (thread_at (layer_of layers []).threads id.number) ≡ true → ⊥
    never opened ready =
        let t = held_found able (is_numbered id.number) (layer_of layers []).threads ready in
        not_both (able t.0) t.2 (rests.1 opened t.0 (contains-from_In (layer_of layers []).threads t.0 t.1))

-- nor is the least propagator that is due

pub due_inner : (statements : List Statement) (layers : List Layer) (due : Layer × Propagator) → AreOrderly layers → TopRests statements layers → least_due layers ≡ Some due → is_top due.0.space ≡ false
due_inner statements layers due good rests e = elim (decide (is_top due.0.space)) [
  | inl top ↦ (let d = least_found layers due e in
      let name : due.0.space ≡ [] = is_empty_name due.0.space top in
      let own = top_found statements layers good in
      let same : due.0 ≡ layer_of layers [] = same_named_layer layers due.0 (layer_of layers []) good.tree.ordered d.0 own.0 (name ∙ sym (equal_names (layer_of layers []).space [] own.1)) in
      absurd (not_both _ (due_has layers due d.1) (ap (λ s. has_due (view layers s) due.0) name ∙ ap (has_due (view layers [])) same ∙ rests.2)))
  | inr e ↦ e
]

-- What follows an edit by the search

followed_leaves : (statements : List Statement) (c : Configuration) (before layers : List Layer) → TopUnneeded statements before → top_is_inconsistent layers ≡ false → LeavesTop before layers
    → LeavesTop before (followed statements c layers).layers
followed_leaves statements c before layers unneeded fits leaves =
    subst
    (λ (b : Bool).
    LeavesTop before (left_by (if b then top_failed 1 (record c { layers = layers }) else (Moved 1, requeued statements None (record c { layers = layers }) (triggered statements (without_inconsistent layers))))).layers)
    (sym fits) (begun_leaves statements before (without_inconsistent layers) unneeded (left_leaves before layers fits leaves))

choice_edit : (s : Sight) (i : ℕ) → IsEdit (committing s i)
choice_edit s i = record { space = λ l. refl; children = λ l. omega arith; numbered = edits_numbered.choice s i }

pub chosen_rests : ChosenRests
chosen_rests statements space i c inner kept rests = (
  kept_chosen statements space i c kept,
  same_rests statements c.layers (chosen_in statements space i c).layers leaves rests,
  leaves.same,
)
  where
    leaves : LeavesTop c.layers (chosen_in statements space i c).layers
    leaves =
        followed_leaves statements c c.layers (committed statements space i c.layers) (top_unneeded statements c.layers kept.top kept.content rests.0) (committed_top statements space i c.layers (sound_top c.layers kept.sound))
        (edit_leaves space inner (committing (sight statements c.layers space) i) c.layers c.layers (choice_edit (sight statements c.layers space) i) (left_itself c.layers (kept_layers statements c kept)))

-- Where the search begins

module _ {A : Type 0} where
  -- what is found where it was edited
  found_edit : (test : A → Bool) (f : A → A) → ((x : A) → test (f x) ≡ test x) → (xs : List A) (x : A) → find test xs ≡ Some x → find test (edit_first test f xs) ≡ Some (f x)
  found_edit test f same [] x e = cc
  found_edit test f same (y ∷ ys) x e = by (test y) refl e (found_edit test f same ys x)
    where
      by : (b : Bool) → test y ≡ b → cond b (Some y) (find test ys) ≡ Some x → (find test ys ≡ Some x → find test (edit_first test f ys) ≡ Some (f x))
          → find test (cond b (f y ∷ ys) (y ∷ edit_first test f ys)) ≡ Some (f x)
      by true k q rest =
          let own : y ≡ x = cc in
          ap (λ (b : Bool). cond b (Some (f y)) (find test ys)) (same y ∙ k) ∙ ap (λ z. Some (f z)) own
      by false k q rest = ap (λ (b : Bool). cond b (Some y) (find test (edit_first test f ys))) k ∙ rest q

module _ (statements : List Statement) (procedure : Ident) (c : Configuration) (kept : IsKept statements c) where
  abbrev made : List Layer
  made = created [] procedure c.layers

  abbrev new : Layer
  new = starting procedure (new_layer (next_child (layer_of c.layers [])))

  new_apart : is_of [] new ≡ false
  new_apart = never_empty (layer_of c.layers []).space (layer_of c.layers []).next.child
    where
      never_empty : (s : List ℕ) (n : ℕ) → list_eq (child_name s n) [] ≡ false
      never_empty [] n = refl
      never_empty (a ∷ s) n = refl

  counted : layer_at made [] ≡ Some (counting_child (layer_of c.layers []))
  counted =
      found_put (is_of []) (λ (other : Layer). space_lt new.space other.space) new new_apart (in_layer [] counting_child c.layers)
      ∙ found_edit (is_of []) counting_child (λ l. refl) c.layers (layer_of c.layers []) (is_there c.layers [] kept.top)

  made_good : AreOrderly made
  made_good = created_orderly [] procedure c.layers kept.top (kept_layers statements c kept)

  unseen : (other : List ℕ) → view made other ≡ view c.layers other
  unseen other = creation_unseen c.layers [] other procedure

  module _ (rests : TopRests statements c.layers) where
    none : list_any gives_space (view c.layers []) ≡ false
    none = spaceless_top c.layers (kept_layers statements c kept) rests.0

    made_rests : TopRests statements made
    made_rests = moved_rests statements c.layers made (counting_child (layer_of c.layers [])) counted (unseen []) none rests.0 rests.1 rests.2

    waits_same : waited_in statements made (states_of statements made) (counting_child (layer_of c.layers [])) ≡ waited_in statements c.layers (states_of statements c.layers) (counting_child (layer_of c.layers []))
    waits_same = waited_same statements c.layers made (counting_child (layer_of c.layers [])) (space_of c.layers [] (layer_of c.layers []) (is_there c.layers [] kept.top)) (unseen []) none

    made_unneeded : TopUnneeded statements made
    made_unneeded = record {
      plain = ap (λ (o : Option Layer). knows_space (unwrap_or o (new_layer []))) counted ∙ rests.0;
      unneeded =
          ap (λ (o : Option Layer). has_needed statements made (unwrap_or o (new_layer []))) counted
          ∙ needed_same statements c.layers made (counting_child (layer_of c.layers [])) (unseen (layer_of c.layers []).space) waits_same
          ∙ (top_unneeded statements c.layers kept.top kept.content rests.0).unneeded;
    }

    root_leaves : LeavesTop made (with_root statements procedure c).layers
    root_leaves = followed_leaves statements c made made made_unneeded (created_top [] procedure c.layers kept.sound) (left_itself made made_good)

    pub begun : TopRests statements (with_root statements procedure c).layers × (layer_at (with_root statements procedure c).layers [] ≡ Some (counting_child (layer_of c.layers [])))
    begun = (same_rests statements made (with_root statements procedure c).layers root_leaves made_rests, root_leaves.same ∙ counted)

pub root_rests : RootRests
root_rests statements procedure c kept rests = let b = begun statements procedure c kept rests in (kept_root statements procedure c kept, b.0, b.1)

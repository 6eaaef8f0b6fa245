-- Edits of the tree of spaces, by calls that stand.
use Rattle.std.proofs.Common.{◌≡◌, inl, inr, ℕ, Bool, true, false, not, List, [], ◌∷◌, ◌++◌, drop, refl, sym, ap, ap₂, subst, ◌∙◌, arith, Option, Some, None, is_some, unwrap_or, slice_get}
use Rattle.std.specs.Prelude.{◌&&◌, ◌==◌, position}
use Rattle.std.proofs.lemmas.Bool.{false≢true}
use Rattle.std.proofs.lemmas.List.{append-nil}
use Rattle.std.proofs.lemmas.Option.{slice_get-get_or}
use Rattle.oz_base.specs.Lists.{list_eq}
use Rattle.oz_base.specs.declared.names.Ident.{Ident}
use Rattle.oz_semantics.specs.Names.{is_below, is_top, is_child_of, parent_of, root_of, child_name}
use Rattle.oz_semantics.specs.Store.{is_consistent}
use Rattle.oz_semantics.specs.Configurations.{is_of, layer_at, layer_of, new_layer, next_child, view, in_layer, with_frames, telling, spawning, applying}
use Rattle.oz_semantics.specs.Answers.{Creates, Injects}
use Rattle.oz_semantics.specs.Edits.{starting, created, injected}
use Rattle.oz_semantics.specs.Settling.{inconsistent_spaces}
use Rattle.oz_semantics.specs.Steps.{without_top}
use Rattle.oz_semantics.specs.declared.configuration.Frame.{Frame}
use Rattle.oz_semantics.specs.declared.configuration.Layer.{Layer}
use Rattle.oz_semantics.specs.declared.configuration.Next.{Next}
use Rattle.oz_semantics.specs.declared.value.Tell.{Tell}
use Rattle.oz_semantics.specs.declared.value.Tell.TheVariants.{Is}
use Rattle.oz_semantics.specs.declared.value.Value.TheVariants as value
use Rattle.settle_laws.specs.Settles.{Settles}
use Rattle.settle_laws.proofs.EditLaws.{pop_view, edits_agree}
use Rattle.settle_laws.proofs.ListEdits.{edits_apart}
use Rattle.settle_laws.proofs.SettleLaws.{keeps_own, nothing_fails}
use Rattle.edit_laws.specs.Edits.{HasChild}
use Rattle.edit_laws.proofs.GraftLaws.{there_of}
use Rattle.edit_laws.proofs.ViewLaws.{tell_last, child_above}
use Rattle.view_laws.specs.Trees.{IsTree}
use Rattle.view_laws.proofs.Members.{decide, not_both}
use Rattle.view_laws.proofs.NameLaws.{below_itself, equal_names, names_equal}
use Rattle.view_laws.proofs.SightLaws.{space_of}
use Rattle.view_laws.proofs.TreeLaws.{change_tree}
use Rattle.space_core.specs.Advances.{IsAdvanced}
use Rattle.space_core.specs.Levels.{OfLayer}
use Rattle.space_core.specs.Places.{IsFirst}
use Rattle.space_core.specs.SpaceEdits.{IsEdited}
use Rattle.space_core.proofs.CreateSettles.{create_settles}
use Rattle.space_core.proofs.Firsts.{Found, found_at, found_by_position, found_edited, edit_same}

-- What stands where a space was looked up
pub record StandsAt (layers : List Layer) (space : List ℕ) (place : ℕ) : Type 0 where
  pub layer : Layer
  pub at : slice_get layers place ≡ Some layer
  pub found : layer_at layers space ≡ Some layer

pub stands_at : (layers : List Layer) (space : List ℕ) (place : ℕ) → Some place ≡ position (is_of space) layers → StandsAt layers space place
stands_at layers space place e =
    let f : (x : Layer) × IsFirst (is_of space) layers place x = found_at (is_of space) layers (Some place) e in
    record { layer = f.0; at = slice_get-get_or layers place f.0 f.1.within ∙ ap (λ (x : Layer). Some x) f.1.item; found = f.1.found }

pub next_child_is : (layers : List Layer) (space : List ℕ) (place : ℕ) → Some place ≡ position (is_of space) layers → (name : List ℕ) (next : Next) → OfLayer layers place (λ l. name ≡ l.space)
    → OfLayer layers place (λ l. next ≡ l.next) → child_name name next.child ≡ next_child (layer_of layers space)
next_child_is layers space place e name next n x =
    let s = stands_at layers space place e in
    ap₂ (λ (p : List ℕ) (m : Next). child_name p m.child) (n s.layer s.at) (x s.layer s.at) ∙ sym (ap (λ (o : Option Layer). next_child (unwrap_or o (new_layer space))) s.found)

-- The statement is taken off the thread's stack
module _ (id : Ident) (old : List Layer) (there : is_some (layer_at old id.space) ≡ true) where
  abbrev pub own : Layer
  own = layer_of old id.space

  abbrev pop : Layer → Layer
  pop = with_frames id.number (λ frames. drop 1 frames)

  own_at : layer_at old id.space ≡ Some own
  own_at = there_of (layer_at old id.space) id.space there

  own_name : own.space ≡ id.space
  own_name = space_of old id.space own own_at

  is_own : list_eq own.space id.space ≡ true
  is_own = subst (λ (s : List ℕ). list_eq s id.space ≡ true) (sym own_name) (names_equal id.space)

  pub popped_at : layer_at (without_top id old) id.space ≡ Some (pop own)
  popped_at = found_edited (is_of id.space) pop old own own_at is_own

  pub popped_next : next_child (layer_of (without_top id old) id.space) ≡ next_child (layer_of old id.space)
  popped_next = ap (λ (o : Option Layer). next_child (unwrap_or o (new_layer id.space))) popped_at

  -- and it is told this
  module _ (ts : List Tell) where
    abbrev told : List Layer
    told = in_layer id.space (telling ts) (without_top id old)

    pub told_at : layer_at told id.space ≡ Some (telling ts (pop own))
    told_at = found_edited (is_of id.space) (telling ts) (without_top id old) (pop own) popped_at is_own

    module _ (tree : IsTree old) where
      popped_tree : IsTree (without_top id old)
      popped_tree = change_tree id.space pop old (λ l e. (refl, omega arith)) tree

      pub told_tree : IsTree told
      told_tree = change_tree id.space (telling ts) (without_top id old) (λ l e. (refl, omega arith)) popped_tree

      pub told_view : view told id.space ≡ view old id.space ++ ts
      told_view = tell_last (without_top id old) id.space ts popped_tree (ap is_some popped_at) ∙ ap (λ (us : List Tell). us ++ ts) (pop_view id old id.space)

  -- A space is created
  module _ (procedure variable : Ident) (child : List ℕ) (ts : List Tell) (is_child : child ≡ next_child (layer_of old id.space)) (is_tells : ts ≡ Is variable (value.Space child) ∷ []) where
    tells_are : ts ≡ Is variable (value.Space (next_child (layer_of (without_top id old) id.space))) ∷ []
    tells_are = is_tells ∙ ap (λ (s : List ℕ). Is variable (value.Space s) ∷ []) (is_child ∙ sym popped_next)

    sees_are : is_consistent (view (without_top id old) id.space ++ Is variable (value.Space (next_child (layer_of (without_top id old) id.space))) ∷ []) ≡ is_consistent (view old id.space ++ ts)
    sees_are = ap₂ (λ (us vs : List Tell). is_consistent (us ++ vs)) (pop_view id old id.space) (sym tells_are)

    pub create_clash : (mid : List Layer) → IsAdvanced id ts [] old mid false → IsEdited id (Creates procedure variable) old old false
    create_clash mid a = λ statements. (sees_are ∙ a.0, refl)

    pub create_there : (mid : List Layer) → IsAdvanced id ts [] old mid true → is_some (layer_at mid id.space) ≡ true
    create_there mid a = ap is_some ((keeps_own id.space (told ts) mid a.1).at ∙ told_at ts)

    pub create_done : IsTree old → (mid new : List Layer) → IsAdvanced id ts [] old mid true → new ≡ created id.space procedure mid → IsEdited id (Creates procedure variable) old new true
    create_done tree mid new a e = λ statements. (
      sees_are ∙ a.0,
      subst (λ (us : List Tell). Settles id.space (created id.space procedure (told us)) new) tells_are
          (subst (Settles id.space (created id.space procedure (told ts))) (sym e)
          (create_settles id.space procedure (told ts) (telling ts (pop own)) (told_tree ts tree) (told_at ts) (ap is_consistent (told_view ts tree) ∙ a.0) mid a.1)),
    )

  -- Where its space is told nothing
  pub untold : in_layer id.space (telling []) (without_top id old) ≡ without_top id old
  untold =
      ap (λ (f : Layer → Layer). in_layer id.space f (without_top id old)) (λ i l. record l { tells = append-nil l.tells i })
      ∙ edit_same (is_of id.space) (without_top id old)

  pub untold_consistent : (place : ℕ) → Some place ≡ position (is_of id.space) old → (store : List Tell) → OfLayer old place (λ l. store ≡ view old l.space) → is_consistent store ≡ true
      → is_consistent (view (without_top id old) id.space ++ []) ≡ true
  untold_consistent place p store sees consistent =
      let s = stands_at old id.space place p in
      ap is_consistent (append-nil (view (without_top id old) id.space) ∙ pop_view id old id.space ∙ sym (ap (view old) (space_of old id.space s.layer s.found)) ∙ sym (sees s.layer s.at)) ∙ consistent

  pub child_apart : (child : List ℕ) → HasChild old id.space child → (l : Layer) → is_of child l ≡ true → is_of id.space l ≡ false
  child_apart child has l e = elim (decide (is_of id.space l)) [
    | inl k ↦ absurd (not_both _ (below_itself child) (subst (λ (s : List ℕ). is_below child s ≡ false) (sym (equal_names l.space id.space k) ∙ equal_names l.space child e) (child_above id.space child has.below)))
    | inr k ↦ k
  ]

  -- A procedure is applied in a child
  module _ (child : List ℕ) (procedure : Ident) (has : HasChild old id.space child) (frames : List Frame) (is_frames : frames ≡ applying procedure (root_of child) ∷ []) where
    started : injected child procedure (without_top id old) ≡ in_layer id.space pop (in_layer child (spawning frames) old)
    started =
        edits_agree child (starting procedure) (spawning frames) (without_top id old)
        (λ l e. ap (λ (fs : List Frame). spawning fs l) (ap (λ (s : List ℕ). applying procedure (root_of s) ∷ []) (space_of (without_top id old) child l e) ∙ sym is_frames))
        ∙ edits_apart (is_of child) (is_of id.space) (spawning frames) pop (λ l. refl) (λ l. refl) (child_apart child has) old

    pub inject_done : (place : ℕ) → Some place ≡ position (is_of id.space) old → (store : List Tell) → OfLayer old place (λ l. store ≡ view old l.space) → is_consistent store ≡ true → (spawned new : List Layer)
        → spawned ≡ in_layer child (spawning frames) old → new ≡ in_layer id.space pop spawned → inconsistent_spaces new ≡ [] → IsEdited id (Injects child procedure) old new true
    inject_done place p store sees consistent spawned new e f none =
        let is_new : injected child procedure (in_layer id.space (telling []) (without_top id old)) ≡ new = ap (injected child procedure) untold ∙ started ∙ sym (f ∙ ap (in_layer id.space pop) e) in
        λ statements. (
          untold_consistent place p store sees consistent,
          subst (λ (ls : List Layer). Settles id.space ls new) (sym is_new) (nothing_fails id.space new none),
        )

-- What a tell came to, by what it was a tell of
pub advanced_by : (id : Ident) {before old : List Layer} {given ts : List Tell} (mid : List Layer) {b d : Bool} → before ≡ old → given ≡ ts → b ≡ d → IsAdvanced id given [] before mid b → IsAdvanced id ts [] old mid d
advanced_by id {before} {old} {given} {ts} mid {b} {d} e f g a =
    subst (IsAdvanced id ts [] old mid) g (subst (λ (ls : List Layer). IsAdvanced id ts [] ls mid b) e (subst (λ (us : List Tell). IsAdvanced id us [] before mid b) f a))

-- Whether a space is a child of one that is there

same_either : (s t : List ℕ) → list_eq s t ≡ list_eq t s
same_either [] [] = refl
same_either [] (n ∷ t) = refl
same_either (n ∷ s) [] = refl
same_either (n ∷ s) (m ∷ t) = ap₂ (λ (b c : Bool). b && c) (same_number n m) (same_either s t)
  where
    same_number : (n m : ℕ) → (n == m) ≡ (m == n)
    same_number n m = grind arith

pub child_is : (parent child : List ℕ) → is_top child ≡ false → list_eq parent (parent_of child) ≡ is_child_of parent child
child_is parent child inner = same_either parent (parent_of child) ∙ sym (ap (λ (b : Bool). b && list_eq (parent_of child) parent) (ap not inner))

pub child_not : (parent child : List ℕ) → is_top child ≡ true → false ≡ is_child_of parent child
child_not parent child top = sym (ap (λ (b : Bool). b && list_eq (parent_of child) parent) (ap not top))

pub position_there : (layers : List Layer) (space : List ℕ) → is_some (position (is_of space) layers) ≡ true → is_some (layer_at layers space) ≡ true
position_there layers space e = by (position (is_of space) layers) refl e
  where
    by : (o : Option ℕ) → o ≡ position (is_of space) layers → is_some o ≡ true → is_some (layer_at layers space) ≡ true
    by None p k = absurd (false≢true k)
    by (Some place) p k = ap is_some (stands_at layers space place p).found

pub there_position : (layers : List Layer) (space : List ℕ) → is_some (layer_at layers space) ≡ true → is_some (position (is_of space) layers) ≡ true
there_position layers space e = by (position (is_of space) layers) (found_by_position (is_of space) layers)
  where
    by : (o : Option ℕ) → Found (is_of space) layers o → is_some o ≡ true
    by None h = absurd (false≢true (sym (ap is_some h.none) ∙ e))
    by (Some place) h = refl

pub has_child_by : (layers : List Layer) (parent child : List ℕ) → is_child_of parent child ≡ true → is_some (position (is_of parent) layers) ≡ true → is_some (position (is_of child) layers) ≡ true → HasChild layers parent child
has_child_by layers parent child c p q = record { below = c; parent_there = position_there layers parent p; child_there = position_there layers child q }

-- Edits that leave the layers orderly.
use Rattle.std.proofs.Common.{◌≡◌, inl, inr, ℕ, ◌≤◌, Bool, true, false, not, List, [], ◌∷◌, ◌++◌, refl, sym, ap, subst, ◌∙◌, arith, Option, Some, None, is_some, drop, filter, unwrap_or, cond}
use Rattle.std.specs.List.{find, fold}
use Rattle.std.proofs.lemmas.Bool.{false≢true}
use Rattle.oz_base.specs.Lists.{list_eq, put_before}
use Rattle.oz_base.specs.declared.names.Ident.{Ident}
use Rattle.oz_semantics.specs.Names.{is_properly_below, space_lt}
use Rattle.oz_semantics.specs.Configurations.{is_of, layer_at, layer_of, in_layer, with_frames, without_terminated, telling, counting_child, failed, ending, next_child, new_layer}
use Rattle.oz_semantics.specs.Sights.{Sight}
use Rattle.oz_semantics.specs.Spaces.{sight}
use Rattle.oz_semantics.specs.Answers.{Edit, Creates, Commits, Copies, Injects, TakesIn}
use Rattle.oz_semantics.specs.Edits.{starting, committing}
use Rattle.oz_semantics.specs.Changes.{Change, Pushes, Spawns, changed, changed_all, done}
use Rattle.oz_semantics.specs.Terms.{Term}
use Rattle.oz_semantics.specs.Exceptions.{with_term}
use Rattle.oz_semantics.specs.Settling.{failing, inconsistent_spaces, without_inconsistent}
use Rattle.oz_language.specs.declared.kernel.Statement.{Statement}
use Rattle.oz_semantics.specs.Steps.{without_top, edited}
use Rattle.oz_semantics.specs.declared.value.Tell.{Tell}
use Rattle.oz_semantics.specs.declared.configuration.Frame.{Frame}
use Rattle.oz_semantics.specs.declared.configuration.Layer.{Layer}
use Rattle.oz_laws.proofs.SameLaws.{In, In-from_contains, contains-from_In}
use Rattle.view_laws.specs.Sights.{IsEnd}
use Rattle.view_laws.specs.Steps.{IsNumbered}
use Rattle.view_laws.proofs.ListLaws.{filter_in, in_edit, found_in}
use Rattle.view_laws.proofs.NameLaws.{equal_names}
use Rattle.view_laws.proofs.TreeLaws.{in_put, change_tree, end_tree, tree_created}
use Rattle.view_laws.proofs.ChangeLaws.{edit_of, changed_by, edit_keeps}
use Rattle.need_laws.proofs.AfterLaws.{fired_tree, fired_there, fired_numbered}
use Rattle.settle_laws.proofs.ListEdits.{find_filter, is_found_edit}
use Rattle.edit_laws.proofs.CopyLaws.{injected_tree, copied_tree}
use Rattle.edit_laws.proofs.MergeLaws.{taken_tree}
use Rattle.edit_laws.proofs.NumberedLaws.{injected_numbered, copied_numbered, taken_numbered}
use Rattle.edit_laws.proofs.TopLaws.{injected_top, copied_top, taken_top}
use Rattle.settle_laws.proofs.FitLaws.{FitsIn}
use Rattle.turn_laws.specs.Orderly.{KeepsNumbered, AreOrderly, ChangesOrderly, DoneOrderly, StackOrderly, CreatedOrderly, CommittedOrderly, FiredOrderly}
use Rattle.turn_laws.proofs.NumberedLaws.{edits_numbered, none_numbered, spawned_numbered}

-- an edit of a layer that keeps its name, takes back no child's name, and leaves its threads in order
pub record IsEdit (f : Layer → Layer) : Type 0 where
  pub space : (l : Layer) → (f l).space ≡ l.space
  pub children : (l : Layer) → l.next.child ≤ (f l).next.child
  pub numbered : KeepsNumbered f

-- layers in order
abbrev EachNumbered : List Layer → Type 0
EachNumbered layers = (l : Layer) → In l layers → IsNumbered l

pub each_numbered : (layers : List Layer) → AreOrderly layers → EachNumbered layers
each_numbered layers good l i = good.numbered l (contains-from_In layers l i)

numbered_edit : (space : List ℕ) (f : Layer → Layer) (layers : List Layer) → KeepsNumbered f → EachNumbered layers → EachNumbered (in_layer space f layers)
numbered_edit space f layers keeps h l i = elim (in_edit (is_of space) f layers l i) [
  | inl k ↦ h l k
  | inr r ↦ subst IsNumbered (sym r.2) (keeps r.0 (h r.0 (found_in (is_of space) f layers r.0 r.1).0))
]

pub edit_orderly : (space : List ℕ) (f : Layer → Layer) (layers : List Layer) → IsEdit f → AreOrderly layers → AreOrderly (in_layer space f layers)
edit_orderly space f layers edit good = record {
  tree = change_tree space f layers (λ l e. (edit.space l, edit.children l)) good.tree;
  top = is_found_edit (is_of []) (is_of space) f (λ l. ap (λ s. list_eq s []) (edit.space l)) layers ∙ good.top;
  numbered = λ l c. numbered_edit space f layers edit.numbered (each_numbered layers good) l (In-from_contains (in_layer space f layers) l c);
}

-- The end of a space

top_not_below : (s : List ℕ) → is_properly_below s [] ≡ false
top_not_below [] = refl
top_not_below (n ∷ s) = refl

module _ (space : List ℕ) (how : Layer → Layer) (layers : List Layer) (end : IsEnd how) (keeps : KeepsNumbered how) (good : AreOrderly layers) where
  abbrev left : Layer → Bool
  left l = not (is_properly_below space l.space)

  top_left : (l : Layer) → is_of [] l ≡ true → left l ≡ true
  top_left l e = ap (λ s. not (is_properly_below space s)) (equal_names l.space [] e) ∙ ap not (top_not_below space)

  pub end_orderly : AreOrderly (ending space how layers)
  end_orderly = record {
    tree = end_tree space how layers end good.tree;
    top =
        is_found_edit (is_of []) (is_of space) how (λ l. ap (λ s. list_eq s []) (end l).0) (filter left layers)
        ∙ ap is_some (find_filter (is_of []) left top_left layers) ∙ good.top;
    numbered = λ l c.
        numbered_edit space how (filter left layers) keeps (λ m i. each_numbered layers good m (filter_in left layers m i).0) l
        (In-from_contains (ending space how layers) l c);
  }

-- where the inconsistent spaces have failed
fold_orderly : (ts : List (List ℕ)) (layers : List Layer) → AreOrderly layers → AreOrderly (fold failing layers ts)
fold_orderly [] layers good = good
fold_orderly (t ∷ ts) layers good = fold_orderly ts (failing layers t) (end_orderly t failed layers (λ l. (refl, refl)) edits_numbered.failure good)

pub left_orderly : (layers : List Layer) → AreOrderly layers → AreOrderly (without_inconsistent layers)
left_orderly layers good = fold_orderly (inconsistent_spaces layers) layers good

pub fired_orderly : FiredOrderly
fired_orderly layers after fires good = record {
  tree = fired_tree layers after fires good.tree;
  top = fired_there layers after [] fires ∙ good.top;
  numbered = fired_numbered layers after fires good.numbered;
}

-- The edits of steps

pub frames_edit : (number : ℕ) (change : List Frame → List Frame) → IsEdit (with_frames number change)
frames_edit number change = record { space = λ l. refl; children = λ l. omega arith; numbered = edits_numbered.frames number change }

pub terminated_edit : IsEdit without_terminated
terminated_edit = record { space = λ l. refl; children = λ l. omega arith; numbered = edits_numbered.terminated }

pub tells_edit : (ts : List Tell) → IsEdit (telling ts)
tells_edit ts = record { space = λ l. refl; children = λ l. omega arith; numbered = edits_numbered.tells ts }

child_edit : IsEdit counting_child
child_edit = record { space = λ l. refl; children = λ l. omega arith; numbered = edits_numbered.child }

choice_edit : (s : Sight) (i : ℕ) → IsEdit (committing s i)
choice_edit s i = record { space = λ l. refl; children = λ l. omega arith; numbered = edits_numbered.choice s i }

pub term_edit : (t : Term) → IsEdit (with_term t)
term_edit t = record { space = λ l. refl; children = λ l. omega arith; numbered = λ l h. record { begins = h.begins; counted = h.counted; rising = h.rising; given = h.given } }

-- a change of a step
change_numbered : (number : ℕ) (change : Change) → KeepsNumbered (edit_of number change)
change_numbered number (Pushes frames) = edits_numbered.frames number (λ rest. frames ++ rest)
change_numbered number (Spawns frames) = edits_numbered.threads frames
change_numbered number change = λ l h. record { begins = h.begins; counted = h.counted; rising = h.rising; given = h.given }

pub change_edit : (number : ℕ) (change : Change) → IsEdit (edit_of number change)
change_edit number change =
    let kept = edit_keeps number change in
    record { space = kept.space; children = λ l. omega (arith, kept.children l); numbered = change_numbered number change }

pub changed_orderly : (id : Ident) (changes : List Change) (layers : List Layer) → AreOrderly layers → AreOrderly (changed_all id changes layers)
changed_orderly id [] layers good = good
changed_orderly id (change ∷ changes) layers good =
    changed_orderly id changes (changed id layers change)
    (subst AreOrderly (sym (changed_by id layers change)) (edit_orderly id.space (edit_of id.number change) layers (change_edit id.number change) good))

pub popped_orderly : (id : Ident) (layers : List Layer) → AreOrderly layers → AreOrderly (without_top id layers)
popped_orderly id layers good = edit_orderly id.space (with_frames id.number (λ frames. drop 1 frames)) layers (frames_edit id.number (λ frames. drop 1 frames)) good

pub done_all_orderly : (id : Ident) (ts : List Tell) (changes : List Change) (layers : List Layer) → AreOrderly layers → AreOrderly (done id ts changes layers)
done_all_orderly id ts changes layers good = changed_orderly id changes (in_layer id.space (telling ts) layers) (edit_orderly id.space (telling ts) layers (tells_edit ts) good)

pub ended_orderly : (space : List ℕ) (layers : List Layer) → AreOrderly layers → AreOrderly (in_layer space without_terminated layers)
ended_orderly space layers good = edit_orderly space without_terminated layers terminated_edit good

pub changes_orderly : ChangesOrderly
changes_orderly id changes layers good =
    ended_orderly id.space (changed_all id changes (without_top id layers)) (changed_orderly id changes (without_top id layers) (popped_orderly id layers good))

pub done_orderly : DoneOrderly
done_orderly id ts changes layers good =
    ended_orderly id.space (done id ts changes (without_top id layers)) (done_all_orderly id ts changes (without_top id layers) (popped_orderly id layers good))

pub stack_orderly : StackOrderly
stack_orderly id frames layers good =
    ended_orderly id.space (in_layer id.space (with_frames id.number (λ rest. frames)) (without_top id layers))
    (edit_orderly id.space (with_frames id.number (λ rest. frames)) (without_top id layers) (frames_edit id.number (λ rest. frames)) (popped_orderly id layers good))

-- The edits of the tree

pub is_there : (layers : List Layer) (space : List ℕ) → is_some (layer_at layers space) ≡ true → layer_at layers space ≡ Some (layer_of layers space)
is_there layers space e = by (layer_at layers space) e
  where
    by : (o : Option Layer) → is_some o ≡ true → o ≡ Some (unwrap_or o (new_layer space))
    by None k = absurd (false≢true k)
    by (Some l) k = refl

pub put_there : (test other : Layer → Bool) (new : Layer) (ls : List Layer) → is_some (find test ls) ≡ true → is_some (find test (put_before other new ls)) ≡ true
put_there test other new [] e = absurd (false≢true e)
put_there test other new (l ∷ ls) e = by (other l) (put_there test other new ls)
  where
    either : (b : Bool) (o : Option Layer) → is_some o ≡ true → is_some (cond b (Some new) o) ≡ true
    either true o k = refl
    either false o k = k

    later : (b : Bool) → is_some (cond b (Some l) (find test ls)) ≡ true → (is_some (find test ls) ≡ true → is_some (find test (put_before other new ls)) ≡ true)
        → is_some (cond b (Some l) (find test (put_before other new ls))) ≡ true
    later true k rest = refl
    later false k rest = rest k

    by : (b : Bool) → (is_some (find test ls) ≡ true → is_some (find test (put_before other new ls)) ≡ true)
        → is_some (find test (cond b (new ∷ l ∷ ls) (l ∷ put_before other new ls))) ≡ true
    by true rest = either (test new) (find test (l ∷ ls)) e
    by false rest = later (test l) e rest

module _ (parent : List ℕ) (procedure : Ident) (layers : List Layer) (there : is_some (layer_at layers parent) ≡ true) (good : AreOrderly layers) where
  abbrev new : Layer
  new = starting procedure (new_layer (next_child (layer_of layers parent)))

  abbrev grown : List Layer
  grown = in_layer parent counting_child layers

  abbrev before_new : Layer → Bool
  before_new other = space_lt new.space other.space

  grown_orderly : AreOrderly grown
  grown_orderly = edit_orderly parent counting_child layers child_edit good

  new_numbered : IsNumbered new
  new_numbered = spawned_numbered _ (new_layer (next_child (layer_of layers parent))) (none_numbered (new_layer (next_child (layer_of layers parent))) refl (omega arith))

  created_numbered : EachNumbered (put_before before_new new grown)
  created_numbered l i = elim (in_put before_new new grown l i) [
    | inl e ↦ subst IsNumbered (sym e) new_numbered
    | inr k ↦ each_numbered grown grown_orderly l k
  ]

  pub child_orderly : AreOrderly (put_before before_new new grown)
  child_orderly = record {
    tree = tree_created parent procedure layers (layer_of layers parent) good.tree (is_there layers parent there);
    top = put_there (is_of []) before_new new grown grown_orderly.top;
    numbered = λ l c. created_numbered l (In-from_contains (put_before before_new new grown) l c);
  }

pub created_orderly : CreatedOrderly
created_orderly parent procedure layers there good = child_orderly parent procedure layers there good

pub committed_orderly : CommittedOrderly
committed_orderly statements space i layers good =
    edit_orderly space (committing (sight statements layers space) i) layers (choice_edit (sight statements layers space) i) good

-- each edit of a step that fits the layers
pub edited_orderly : (statements : List Statement) (parent : List ℕ) (edit : Edit) (layers : List Layer) → FitsIn layers parent edit → AreOrderly layers → AreOrderly (edited statements parent edit layers)
edited_orderly statements parent (Creates procedure x) layers fits good = created_orderly parent procedure layers fits good
edited_orderly statements parent (Commits child i) layers fits good = committed_orderly statements child i layers good
edited_orderly statements parent (Copies child x) layers fits good = record {
  tree = copied_tree parent child layers fits good.tree;
  top = copied_top parent child layers good.top;
  numbered = copied_numbered parent child layers good.numbered;
}
edited_orderly statements parent (Injects child procedure) layers fits good = record {
  tree = injected_tree child procedure layers good.tree;
  top = injected_top child procedure layers good.top;
  numbered = injected_numbered child procedure layers good.numbered;
}
edited_orderly statements parent (TakesIn child x) layers fits good = record {
  tree = taken_tree parent child layers fits good.tree;
  top = taken_top parent child layers fits good.tree good.top;
  numbered = taken_numbered parent child layers fits good.tree good.numbered;
}

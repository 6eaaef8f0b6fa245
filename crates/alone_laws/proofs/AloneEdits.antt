-- That the edits of a step come to the same where a space is alone.
use Rattle.std.proofs.Common.{◌≡◌, ℕ, true, not, List, [], ◌∷◌, filter, map, refl, sym, ap, ap₂, subst, ◌∙◌}
use Rattle.oz_base.specs.declared.names.Ident.{Ident}
use Rattle.oz_language.specs.declared.kernel.Statement.{Statement}
use Rattle.oz_semantics.specs.Names.{is_below}
use Rattle.oz_semantics.specs.Configurations.{layer_of, new_layer, in_layer, next_child, counting_child, placed}
use Rattle.oz_semantics.specs.Edits.{starting, created, committing, committed, moving, all_placed, is_in, is_under, copied, merging, joined, merged_away, merge_tells, taken_into, taken_in}
use Rattle.oz_semantics.specs.Renamings.{renamed_layer}
use Rattle.oz_semantics.specs.Spaces.{sight}
use Rattle.oz_semantics.specs.Answers.{Edit, Creates, Commits, Copies, Injects, TakesIn}
use Rattle.oz_semantics.specs.Changes.{Change, changed, changed_all}
use Rattle.oz_semantics.specs.Steps.{edit_tells, edited}
use Rattle.oz_semantics.specs.declared.configuration.Layer.{Layer}
use Rattle.oz_laws.proofs.SameLaws.{and-left}
use Rattle.view_laws.proofs.NameLaws.{below_trans}
use Rattle.view_laws.proofs.ChangeLaws.{edit_of, changed_by, edit_keeps}
use Rattle.alone_laws.specs.Alone.{alone_layers}
use Rattle.alone_laws.proofs.OrderLaws.{is_sorted, sorted_changed, sorted_filtered}
use Rattle.alone_laws.proofs.OutsideLaws.{layer_named, child_below, next_inside, AllInside, copies, copies_inside, grafts, grafts_inside}
use Rattle.alone_laws.proofs.StepLaws.{EditIsOf}
use Rattle.alone_laws.proofs.AloneLaws.{alone_changed, alone_filtered, alone_put, alone_all_put, own_filtered, own_layer_of, own_view, quieted_is}

module _ (s t : List ℕ) (inner : is_below s t ≡ true) where
  abbrev Al : List Layer → List Layer
  Al layers = alone_layers s layers

  -- an edit of the space's own layer
  pub own_edit : (f : Layer → Layer) → ((l : Layer) → (f l).space ≡ l.space) → (layers : List Layer) → Al (in_layer t f layers) ≡ in_layer t f (Al layers)
  own_edit f h layers = alone_changed s t f f inner h (λ l k. refl) layers

  child_inside : (c : List ℕ) → is_below t c ≡ true → is_below s c ≡ true
  child_inside c e = below_trans s t c inner e

  all_own : (news : List Layer) → AllInside t news → AllInside s news
  all_own news e l i = child_inside l.space (e l i)

  created_alone : (procedure : Ident) (layers : List Layer) → is_sorted layers ≡ true → Al (created t procedure layers) ≡ created t procedure (Al layers)
  created_alone procedure layers o =
      alone_put s (starting procedure (new_layer (next_child (layer_of layers t)))) (child_inside (next_child (layer_of layers t)) (next_inside t layers)) (in_layer t counting_child layers)
      (sorted_changed t counting_child (λ l. refl) layers ∙ o)
      ∙ ap₂ (λ (l : Layer) (ls : List Layer). placed (starting procedure (new_layer (next_child l))) ls) (sym (own_layer_of s t inner layers)) (own_edit counting_child (λ l. refl) layers)

  committed_alone : (statements : List Statement) (c : List ℕ) (i : ℕ) (layers : List Layer) → is_below s c ≡ true → Al (committed statements c i layers) ≡ committed statements c i (Al layers)
  committed_alone statements c i layers e =
      alone_changed s c (committing (sight statements layers c) i) (committing (sight statements (Al layers) c) i) e (λ l. refl)
      (λ l k. ap (λ v. committing (record { statements = statements; space = c; view = v }) i l) (sym (own_view s c e layers))) layers

  copied_alone : (c : List ℕ) (layers : List Layer) → is_below s c ≡ true → is_sorted layers ≡ true → Al (copied t c layers) ≡ copied t c (Al layers)
  copied_alone c layers e o =
      alone_all_put s (copies t c layers) (in_layer t counting_child layers) (all_own (copies t c layers) (copies_inside t c layers)) (sorted_changed t counting_child (λ l. refl) layers ∙ o)
      ∙ ap (all_placed (copies t c layers)) (own_edit counting_child (λ l. refl) layers)
      ∙ ap₂ (λ (l : Layer) (ls : List Layer). all_placed (map (renamed_layer (moving c (next_child l))) ls) (in_layer t counting_child (Al layers))) (sym (own_layer_of s t inner layers))
      (sym (own_filtered s (is_in c) (λ l k. below_trans s c l.space e k) (quieted_is s (is_in c) (λ l. refl)) layers))

  taken_alone : (c : List ℕ) (layers : List Layer) → is_below s c ≡ true → is_sorted layers ≡ true → Al (taken_in t c layers) ≡ taken_in t c (Al layers)
  taken_alone c layers e o =
      let child = layer_of layers c in
      let parent = layer_of layers t in
      let r = merging child parent in
      let child_own : is_below s child.space ≡ true = subst (λ u. is_below s u ≡ true) (sym (layer_named layers c)) e in
      let parent_own : is_below s parent.space ≡ true = subst (λ u. is_below s u ≡ true) (sym (layer_named layers t)) inner in
      let rest = filter (λ (l : Layer). not (is_under child.space l)) layers in
      let away = in_layer child.space merged_away rest in
      let base = in_layer parent.space (joined (renamed_layer r child)) away in
      let sorted_base : is_sorted base ≡ true =
      sorted_changed parent.space (joined (renamed_layer r child)) (λ l. refl) away ∙ sorted_changed child.space merged_away (λ l. refl) rest
      ∙ sorted_filtered (λ (l : Layer). not (is_under child.space l)) layers o in
      let base_is : Al base ≡ in_layer parent.space (joined (renamed_layer r child)) (in_layer child.space merged_away (filter (λ (l : Layer). not (is_under child.space l)) (Al layers))) =
      alone_changed s parent.space (joined (renamed_layer r child)) (joined (renamed_layer r child)) parent_own (λ l. refl) (λ l k. refl) away
      ∙ ap (in_layer parent.space (joined (renamed_layer r child))) (alone_changed s child.space merged_away merged_away child_own (λ l. refl) (λ l k. refl) rest
      ∙ ap (in_layer child.space merged_away) (alone_filtered s (λ (l : Layer). not (is_under child.space l)) (quieted_is s (λ (l : Layer). not (is_under child.space l)) (λ l. refl)) layers)) in
      let moved_are : filter (is_under child.space) (Al layers) ≡ filter (is_under child.space) layers =
      own_filtered s (is_under child.space) (λ l k. below_trans s child.space l.space child_own (and-left (is_below child.space l.space) _ k)) (quieted_is s (is_under child.space) (λ l. refl)) layers in
      alone_all_put s (grafts t c layers) base (all_own (grafts t c layers) (grafts_inside t c layers)) sorted_base
      ∙ ap₂ (λ ms ls. all_placed (map (renamed_layer r) ms) ls) (sym moved_are) base_is
      ∙ ap₂ (λ (a b : Layer). taken_into a b (Al layers)) (sym (own_layer_of s c e layers)) (sym (own_layer_of s t inner layers))

  -- each edit of a thread of the space, and what the space is told with it
  pub edited_alone : (statements : List Statement) (edit : Edit) (layers : List Layer) → EditIsOf t edit → is_sorted layers ≡ true → Al (edited statements t edit layers) ≡ edited statements t edit (Al layers)
  edited_alone statements (Creates procedure x) layers own o = created_alone procedure layers o
  edited_alone statements (Commits c i) layers own o = committed_alone statements c i layers (child_inside c (child_below t c own))
  edited_alone statements (Copies c x) layers own o = copied_alone c layers (child_inside c (child_below t c own)) o
  edited_alone statements (Injects c procedure) layers own o = alone_changed s c (starting procedure) (starting procedure) (child_inside c (child_below t c own)) (λ l. refl) (λ l k. refl) layers
  edited_alone statements (TakesIn c x) layers own o = taken_alone c layers (child_inside c (child_below t c own)) o

  pub tells_alone : (edit : Edit) (layers : List Layer) → EditIsOf t edit → edit_tells (Al layers) (layer_of (Al layers) t) edit ≡ edit_tells layers (layer_of layers t) edit
  tells_alone edit layers own = ap (λ l. edit_tells (Al layers) l edit) (own_layer_of s t inner layers) ∙ by edit own
    where
      by : (edit : Edit) → EditIsOf t edit → edit_tells (Al layers) (layer_of layers t) edit ≡ edit_tells layers (layer_of layers t) edit
      by (TakesIn c x) own = ap (λ m. merge_tells m (layer_of layers t) x) (own_layer_of s c (child_inside c (child_below t c own)) layers)
      by (Creates procedure x) own = refl
      by edit own = refl

pub changes_alone : (s : List ℕ) (id : Ident) → is_below s id.space ≡ true → (changes : List Change) (layers : List Layer) → alone_layers s (changed_all id changes layers) ≡ changed_all id changes (alone_layers s layers)
changes_alone s id inner [] layers = refl
changes_alone s id inner (change ∷ changes) layers =
    changes_alone s id inner changes (changed id layers change)
    ∙ ap (changed_all id changes)
    (ap (alone_layers s) (changed_by id layers change) ∙ own_edit s id.space inner (edit_of id.number change) (edit_keeps id.number change).space layers
    ∙ sym (changed_by id (alone_layers s layers) change))

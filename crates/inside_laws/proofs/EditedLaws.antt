-- The layers that are not below a space, and the space's own, after the edits of a step of a thread of the space.
use Rattle.std.proofs.Common.{◌≡◌, ℕ, ◌+◌, ◌-◌, Bool, true, not, if◌then◌else◌, List, [], ◌∷◌, ◌++◌, drop, length, filter, map, refl, sym, ap, subst, ◌∙◌, Option, Some, None, unwrap_or}
use Rattle.oz_base.specs.declared.names.Ident.{Ident}
use Rattle.oz_language.specs.declared.kernel.Statement.{Statement}
use Rattle.oz_semantics.specs.Names.{is_below, is_properly_below, child_name, is_child_of}
use Rattle.oz_semantics.specs.Configurations.{layer_at, layer_of, in_layer, new_layer, next_child, counting_child}
use Rattle.oz_semantics.specs.Answers.{Edit, Creates, Commits, Copies, Injects, TakesIn}
use Rattle.oz_semantics.specs.Spaces.{sight}
use Rattle.oz_semantics.specs.Renamings.{renamed_layer}
use Rattle.oz_semantics.specs.Edits.{starting, created, committing, is_in, is_under, moving, copied, merging, joined, merged_away, taken_into, taken_in, space_into}
use Rattle.oz_semantics.specs.Changes.{Change, changed, changed_all}
use Rattle.oz_semantics.specs.Steps.{edited}
use Rattle.oz_semantics.specs.declared.configuration.Layer.{Layer}
use Rattle.oz_laws.proofs.SameLaws.{In}
use Rattle.view_laws.proofs.ListLaws.{filter_in, in_map}
use Rattle.view_laws.proofs.NameLaws.{properly, properly_trans}
use Rattle.view_laws.proofs.SightLaws.{space_of}
use Rattle.view_laws.proofs.ChangeLaws.{edit_of, changed_by, edit_keeps}
use Rattle.edit_laws.proofs.NameLaws.{below_front, properly_front, child_of}
use Rattle.edit_laws.proofs.MergeLaws.{cut_at, into_front}
use Rattle.settle_laws.proofs.FitLaws.{FitsIn}
use Rattle.inside_laws.proofs.OwnLaws.{Keeps, own_name, own_layer, own_change, inner_change, inner_put, inner_puts, inner_gone}

-- a child is properly below its parent
pub child_inner : (t child : List ℕ) → is_child_of t child ≡ true → is_properly_below t child ≡ true
child_inner t child e = let c = child_of t child e in ap (is_properly_below t) c.1 ∙ properly_front t c.0 []

-- the layer of a space has its name
layer_named : (layers : List Layer) (s : List ℕ) → (layer_of layers s).space ≡ s
layer_named layers s = by (layer_at layers s) refl
  where
    by : (o : Option Layer) → layer_at layers s ≡ o → (unwrap_or o (new_layer s)).space ≡ s
    by None e = refl
    by (Some l) e = space_of layers s l e

-- what an edit makes of the layer of the thread that does it
abbrev pub taken : List ℕ → List Layer → List ℕ → Layer → Layer
taken t layers child l = joined (renamed_layer (merging (layer_of layers child) (layer_of layers t)) (layer_of layers child)) l

abbrev pub own_edited : List ℕ → List Layer → Edit → Layer → Layer
own_edited t layers (Creates procedure x) l = counting_child l
own_edited t layers (Commits child i) l = l
own_edited t layers (Copies child x) l = counting_child l
own_edited t layers (Injects child procedure) l = l
own_edited t layers (TakesIn child x) l = taken t layers child l

pub edited_status : (t : List ℕ) (layers : List Layer) (edit : Edit) (l : Layer) → (own_edited t layers edit l).status ≡ l.status
edited_status t layers (Creates procedure x) l = refl
edited_status t layers (Commits child i) l = refl
edited_status t layers (Copies child x) l = refl
edited_status t layers (Injects child procedure) l = refl
edited_status t layers (TakesIn child x) l = refl

module _ (t : List ℕ) (before layers : List Layer) (l : Layer) (keeps : Keeps t before layers l) where
  -- the name of a new child
  pub next_inner : is_properly_below t (next_child (layer_of layers t)) ≡ true
  next_inner =
      ap (λ (m : Layer). is_properly_below t (next_child m)) (own_layer t before layers l keeps)
      ∙ ap (λ s. is_properly_below t (child_name s l.next.child)) (own_name t before layers l keeps)
      ∙ properly_front t l.next.child []

  grown : Keeps t before (in_layer t counting_child layers) (counting_child l)
  grown = own_change t before layers l keeps counting_child (λ m. refl)

  pub created_keeps : (procedure : Ident) → Keeps t before (created t procedure layers) (counting_child l)
  created_keeps procedure =
      inner_put t before (in_layer t counting_child layers) (counting_child l) grown (starting procedure (new_layer (next_child (layer_of layers t)))) next_inner

  pub copied_keeps : (child : List ℕ) → Keeps t before (copied t child layers) (counting_child l)
  copied_keeps child = inner_puts t before (map (renamed_layer (moving child new)) (filter (is_in child) layers)) (in_layer t counting_child layers) (counting_child l) news_inner grown
    where
      new : List ℕ
      new = next_child (layer_of layers t)

      image_inner : (m : Layer) → is_in child m ≡ true → is_properly_below t (renamed_layer (moving child new) m).space ≡ true
      image_inner m e =
          ap (λ (b : Bool). is_properly_below t (if b then new ++ drop (length child) m.space else m.space)) e
          ∙ properly_trans t new (new ++ drop (length child) m.space) next_inner (below_front new (drop (length child) m.space))

      news_inner : (n : Layer) → In n (map (renamed_layer (moving child new)) (filter (is_in child) layers)) → is_properly_below t n.space ≡ true
      news_inner n i =
          let m = in_map (renamed_layer (moving child new)) (filter (is_in child) layers) n i in
          subst (λ (k : Layer). is_properly_below t k.space ≡ true) m.2 (image_inner m.0 (filter_in (is_in child) layers m.0 m.1).1)

  taken_into_keeps : (s p : Layer) → is_properly_below t s.space ≡ true → p.space ≡ t → Keeps t before (taken_into s p layers) (joined (renamed_layer (merging s p) s) l)
  taken_into_keeps s p inner parent =
      inner_puts t before (map (renamed_layer (merging s p)) (filter (is_under s.space) layers)) (in_layer p.space join (in_layer s.space merged_away rest)) (join l) news_inner
      (subst (λ u. Keeps t before (in_layer u join (in_layer s.space merged_away rest)) (join l)) (sym parent)
      (own_change t before (in_layer s.space merged_away rest) l (inner_change t before rest l (inner_gone t before layers l keeps s.space below) s.space merged_away inner (λ m. refl)) join (λ m. refl)))
    where
      rest : List Layer
      rest = filter (λ (m : Layer). not (is_under s.space m)) layers

      join : Layer → Layer
      join m = joined (renamed_layer (merging s p) s) m

      below : is_below t s.space ≡ true
      below = (properly t s.space inner).0

      image_inner : (m : Layer) → is_under s.space m ≡ true → is_properly_below t (space_into s p m.space) ≡ true
      image_inner m e =
          let cut = cut_at s.space m.space e in
          ap (λ u. is_properly_below t (space_into s p u)) cut.whole
          ∙ ap (is_properly_below t) (into_front s p cut.number cut.rest)
          ∙ ap (λ u. is_properly_below t (u ++ (cut.number + (p.next.child - 1)) ∷ cut.rest)) parent
          ∙ properly_front t (cut.number + (p.next.child - 1)) cut.rest

      news_inner : (n : Layer) → In n (map (renamed_layer (merging s p)) (filter (is_under s.space) layers)) → is_properly_below t n.space ≡ true
      news_inner n i =
          let m = in_map (renamed_layer (merging s p)) (filter (is_under s.space) layers) n i in
          subst (λ (k : Layer). is_properly_below t k.space ≡ true) m.2 (image_inner m.0 (filter_in (is_under s.space) layers m.0 m.1).1)

  pub taken_keeps : (child : List ℕ) → is_properly_below t child ≡ true → Keeps t before (taken_in t child layers) (taken t layers child l)
  taken_keeps child inner =
      taken_into_keeps (layer_of layers child) (layer_of layers t) (ap (is_properly_below t) (layer_named layers child) ∙ inner) (layer_named layers t)

  pub edited_keeps : (statements : List Statement) (edit : Edit) → FitsIn layers t edit → Keeps t before (edited statements t edit layers) (own_edited t layers edit l)
  edited_keeps statements (Creates procedure x) fits = created_keeps procedure
  edited_keeps statements (Commits child i) fits = inner_change t before layers l keeps child (committing (sight statements layers child) i) (child_inner t child fits.below) (λ m. refl)
  edited_keeps statements (Copies child x) fits = copied_keeps child
  edited_keeps statements (Injects child procedure) fits = inner_change t before layers l keeps child (starting procedure) (child_inner t child fits.below) (λ m. refl)
  edited_keeps statements (TakesIn child x) fits = taken_keeps child (child_inner t child fits.below)

-- The changes of a step

-- what they make of that layer
abbrev pub own_changed : ℕ → List Change → Layer → Layer
own_changed number [] l = l
own_changed number (change ∷ changes) l = own_changed number changes (edit_of number change l)

pub changed_keeps : (id : Ident) (changes : List Change) (before layers : List Layer) (l : Layer) → Keeps id.space before layers l
    → Keeps id.space before (changed_all id changes layers) (own_changed id.number changes l)
changed_keeps id [] before layers l keeps = keeps
changed_keeps id (change ∷ changes) before layers l keeps =
    changed_keeps id changes before (changed id layers change) (edit_of id.number change l)
    (subst (λ ls. Keeps id.space before ls (edit_of id.number change l)) (sym (changed_by id layers change))
    (own_change id.space before layers l keeps (edit_of id.number change) (edit_keeps id.number change).space))

pub changed_status : (number : ℕ) (changes : List Change) (l : Layer) → (own_changed number changes l).status ≡ l.status
changed_status number [] l = refl
changed_status number (change ∷ changes) l = changed_status number changes (edit_of number change l) ∙ (edit_keeps number change).status l

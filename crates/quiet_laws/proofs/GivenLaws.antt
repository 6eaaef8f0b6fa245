-- How many variables a space has given out after a step.
use Rattle.std.proofs.Common.{◌≡◌, ℕ, ◌+◌, Bool, true, false, cond, List, [], ◌∷◌, drop, refl, ap, ◌∙◌, arith, Some}
use Rattle.std.specs.List.{find}
use Rattle.oz_base.specs.Lists.{list_eq}
use Rattle.oz_base.specs.declared.names.Ident.{Ident}
use Rattle.oz_semantics.specs.Configurations.{is_of, layer_at, in_layer, with_frames}
use Rattle.oz_semantics.specs.Changes.{Change, GivesOut, changed, changed_all}
use Rattle.oz_semantics.specs.Steps.{without_top}
use Rattle.oz_semantics.specs.declared.configuration.Layer.{Layer}
use Rattle.view_laws.proofs.ChangeLaws.{edit_of, changed_by, edit_keeps}
use Rattle.quiet_laws.specs.Unknown.{given_by}

-- a layer that is changed and keeps its name is found changed
pub found_edit : (space : List ℕ) (f : Layer → Layer) → ((l : Layer) → (f l).space ≡ l.space) → (ls : List Layer) (l : Layer) → layer_at ls space ≡ Some l → layer_at (in_layer space f ls) space ≡ Some (f l)
found_edit space f named [] l e = cc
found_edit space f named (m ∷ ls) l e = by (is_of space m) refl e (found_edit space f named ls l)
  where
    by : (b : Bool) → is_of space m ≡ b → cond b (Some m) (layer_at ls space) ≡ Some l → (layer_at ls space ≡ Some l → layer_at (in_layer space f ls) space ≡ Some (f l))
        → find (is_of space) (cond b (f m ∷ ls) (m ∷ in_layer space f ls)) ≡ Some (f l)
    by true k h rest =
        let same : m ≡ l = cc in
        ap (λ (b : Bool). cond b (Some (f m)) (find (is_of space) ls)) (ap (λ s. list_eq s space) (named m) ∙ k) ∙ ap (λ (n : Layer). Some (f n)) same
    by false k h rest = ap (λ (b : Bool). cond b (Some m) (layer_at (in_layer space f ls) space)) k ∙ rest h

edit_gives : (number : ℕ) (change : Change) (changes : List Change) (l : Layer) → (edit_of number change l).next.variable + given_by changes ≡ l.next.variable + given_by (change ∷ changes)
edit_gives number (GivesOut n) changes l = omega arith
edit_gives number change changes l = refl

-- the layer of a space in the course of a step that has given out so many
pub record Gave (layers : List Layer) (space : List ℕ) (before : Layer) (n : ℕ) : Type 0 where
  pub layer : Layer
  pub there : layer_at layers space ≡ Some layer
  pub variable : layer.next.variable ≡ before.next.variable + n

pub changes_gave : (id : Ident) (changes : List Change) (layers : List Layer) (l : Layer) → layer_at layers id.space ≡ Some l → Gave (changed_all id changes layers) id.space l (given_by changes)
changes_gave id [] layers l e = record { layer = l; there = e; variable = omega arith }
changes_gave id (change ∷ changes) layers l e =
    let edit : Layer → Layer = edit_of id.number change in
    let one : layer_at (changed id layers change) id.space ≡ Some (edit l) =
    ap (λ ls. layer_at ls id.space) (changed_by id layers change) ∙ found_edit id.space edit (edit_keeps id.number change).space layers l e in
    let rest = changes_gave id changes (changed id layers change) (edit l) one in
    record { layer = rest.layer; there = rest.there; variable = rest.variable ∙ edit_gives id.number change changes l }

-- an edit that gives out none
pub edit_gave : (space : List ℕ) (f : Layer → Layer) → ((l : Layer) → (f l).space ≡ l.space) → ((l : Layer) → (f l).next.variable ≡ l.next.variable) → (layers : List Layer) (before : Layer) (n : ℕ)
    → Gave layers space before n → Gave (in_layer space f layers) space before n
edit_gave space f named same layers before n g = record { layer = f g.layer; there = found_edit space f named layers g.layer g.there; variable = same g.layer ∙ g.variable }

-- so once a statement was taken off the stack
pub popped_there : (id : Ident) (layers : List Layer) (l : Layer) → layer_at layers id.space ≡ Some l → layer_at (without_top id layers) id.space ≡ Some (with_frames id.number (λ frames. drop 1 frames) l)
popped_there id layers l e = found_edit id.space (with_frames id.number (λ frames. drop 1 frames)) (λ m. refl) layers l e

-- the layer that is found there in the end
pub gave_there : (layers : List Layer) (space : List ℕ) (before after : Layer) (n : ℕ) → Gave layers space before n → layer_at layers space ≡ Some after → after.next.variable ≡ before.next.variable + n
gave_there layers space before after n g e =
    let there : layer_at layers space ≡ Some g.layer = g.there in
    let same : after ≡ g.layer = cc in
    ap (λ (l : Layer). l.next.variable) same ∙ g.variable

-- The top stays.
use Rattle.std.proofs.Common.{◌≡◌, inl, inr, ℕ, Bool, true, false, not, List, [], filter, map, refl, sym, subst, ◌∙◌, Some}
use Rattle.oz_semantics.specs.Names.{is_below, is_properly_below}
use Rattle.oz_semantics.specs.Configurations.{is_of, layer_at, layer_of, in_layer, next_child, counting_child}
use Rattle.oz_semantics.specs.Renamings.{renamed_layer}
use Rattle.oz_semantics.specs.Edits.{starting, all_placed, is_in, is_under, moving, merging, joined, merged_away}
use Rattle.oz_semantics.specs.declared.configuration.Layer.{Layer}
use Rattle.oz_laws.proofs.SameLaws.{In}
use Rattle.view_laws.proofs.NameLaws.{properly}
use Rattle.view_laws.proofs.ListLaws.{in_filter, edit_in, edited_in, found_in}
use Rattle.view_laws.proofs.SightLaws.{space_of}
use Rattle.edit_laws.specs.Edits.{HasTop, InjectedTop, CopiedTop, TakenTop}
use Rattle.edit_laws.proofs.NameLaws.{not_above_top}
use Rattle.edit_laws.proofs.GraftLaws.{there_of, has_of_in, old_all_put}

-- a layer of the top is there
abbrev Top : List Layer → Type 0
Top layers = (l : Layer) × In l layers × (l.space ≡ [])

top_from : (layers : List Layer) → HasTop layers → Top layers
top_from layers h =
    let l = layer_of layers [] in
    let e : layer_at layers [] ≡ Some l = there_of (layer_at layers []) [] h in
    (l, (found_in (is_of []) counting_child layers l e).0, space_of layers [] l e)

from_top : (layers : List Layer) → Top layers → HasTop layers
from_top layers t = has_of_in layers t.0 [] t.1 t.2

top_changed : (u : List ℕ) (change : Layer → Layer) → ((l : Layer) → (change l).space ≡ l.space) → (layers : List Layer) → Top layers → Top (in_layer u change layers)
top_changed u change keeps layers t = elim (edit_in (is_of u) change layers t.0 t.1) [
  | inl i ↦ (t.0, i, t.2)
  | inr e ↦ (change t.0, edited_in (is_of u) change layers t.0 e, keeps t.0 ∙ t.2)
]

top_put : (ns ls : List Layer) → Top ls → Top (all_placed ns ls)
top_put ns ls t = (t.0, old_all_put ns ls t.0 t.1, t.2)

-- the top is below no other
top_left : (space : List ℕ) (layers : List Layer) → Top layers → Top (filter (λ (l : Layer). not (is_under space l)) layers)
top_left space layers t = (t.0, in_filter (λ (l : Layer). not (is_under space l)) layers t.0 t.1 (by (is_properly_below space t.0.space) refl), t.2)
  where
    by : (b : Bool) → is_properly_below space t.0.space ≡ b → not b ≡ true
    by true e =
        let p = properly space t.0.space e in
        absurd (p.1 (not_above_top space (subst (λ u. is_below space u ≡ true) t.2 p.0) ∙ sym t.2))
    by false e = refl

pub injected_top : InjectedTop
injected_top space procedure layers h = from_top (in_layer space (starting procedure) layers) (top_changed space (starting procedure) (λ l. refl) layers (top_from layers h))

pub copied_top : CopiedTop
copied_top parent child layers h =
    let news = map (renamed_layer (moving child (next_child (layer_of layers parent)))) (filter (is_in child) layers) in
    let base = in_layer parent counting_child layers in
    from_top (all_placed news base) (top_put news base (top_changed parent counting_child (λ l. refl) layers (top_from layers h)))

pub taken_top : TakenTop
taken_top parent child layers has t h =
    let s = layer_of layers child in
    let p = layer_of layers parent in
    let r = merging s p in
    let news = map (renamed_layer r) (filter (is_under s.space) layers) in
    let left = filter (λ (l : Layer). not (is_under s.space l)) layers in
    let away = in_layer s.space merged_away left in
    let base = in_layer p.space (joined (renamed_layer r s)) away in
    from_top (all_placed news base)
    (top_put news base (top_changed p.space (joined (renamed_layer r s)) (λ l. refl) away (top_changed s.space merged_away (λ l. refl) left (top_left s.space layers (top_from layers h)))))

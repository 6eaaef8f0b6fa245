-- What was noted of what is touched.
use Rattle.std.proofs.Common.{◌≡◌, ℕ, Bool, true, false, not, ◌&&◌, cond, List, [], ◌∷◌, ◌++◌, filter, refl, sym, ap, ap₂, subst, ◌∙◌}
use Rattle.std.proofs.lemmas.List.Elements.{filter-append}
use Rattle.oz_base.specs.Lists.{list_eq}
use Rattle.oz_base.specs.declared.names.Ident.{Ident}
use Rattle.oz_semantics.specs.Names.{is_below, is_properly_below}
use Rattle.oz_semantics.specs.declared.value.Tell.{Tell}
use Rattle.oz_semantics.specs.declared.configuration.Layer.{Layer}
use Rattle.oz_laws.proofs.SameLaws.{and-left, and-right}
use Rattle.view_laws.proofs.Members.{not_both, some_of}
use Rattle.view_laws.proofs.NameLaws.{equal_names}
use Rattle.view_laws.proofs.TwiceLaws.{touches_nothing, touches_twice}
use Rattle.space_core.specs.Shown.{gave_out, is_outer, is_other, Traces}

pub traces_nothing : (space : List ℕ) (before : List Tell) → Traces space before [] []
traces_nothing space before = record { all = []; touches = touches_nothing before; others = refl }

pub traces_twice : (space : List ℕ) (before more further : List Tell) (noted others : List Ident) → Traces space before more noted → Traces space (before ++ more) further others
    → Traces space before (more ++ further) (noted ++ others)
traces_twice space before more further noted others t u = record {
  all = t.all ++ u.all;
  touches = touches_twice before more further t.all u.all t.touches u.touches;
  others = ap₂ (λ (xs ys : List Ident). xs ++ ys) t.others u.others ∙ sym (filter-append (is_other space) t.all u.all);
}

-- a variable of a space above is not the space's own
outer_other : (layers : List Layer) (space : List ℕ) (x : Ident) → is_outer layers space x ≡ true → is_other space x ≡ true
outer_other layers space x e =
    let r = some_of (λ (l : Layer). gave_out x l && is_properly_below l.space space) layers e in
    let above : is_properly_below r.0.space space ≡ true = and-right (gave_out x r.0) _ r.2 in
    let own : r.0.space ≡ x.space = equal_names r.0.space x.space (and-right _ _ (and-left _ _ r.2)) in
    subst (λ (s : List ℕ). not (list_eq s space) ≡ true) own (and-right (is_below r.0.space space) _ above)

-- the one test after the other
both_tests : (p q : Ident → Bool) → ((x : Ident) → q x ≡ true → p x ≡ true) → (xs : List Ident) → filter q (filter p xs) ≡ filter q xs
both_tests p q h [] = refl
both_tests p q h (x ∷ xs) = by (p x) refl (q x) refl (both_tests p q h xs)
  where
    by : (a : Bool) → p x ≡ a → (b : Bool) → q x ≡ b → filter q (filter p xs) ≡ filter q xs → filter q (cond a (x ∷ filter p xs) (filter p xs)) ≡ cond b (x ∷ filter q xs) (filter q xs)
    by true e true f rest = ap (λ (b : Bool). cond b (x ∷ filter q (filter p xs)) (filter q (filter p xs))) f ∙ ap (λ (ys : List Ident). x ∷ ys) rest
    by true e false f rest = ap (λ (b : Bool). cond b (x ∷ filter q (filter p xs)) (filter q (filter p xs))) f ∙ rest
    by false e true f rest = absurd (not_both _ (h x f) e)
    by false e false f rest = rest

-- so those of spaces above that were noted are those that are touched
pub outer_noted : (layers : List Layer) (space : List ℕ) (before more : List Tell) (noted : List Ident) → (t : Traces space before more noted)
    → filter (is_outer layers space) noted ≡ filter (is_outer layers space) t.all
outer_noted layers space before more noted t = ap (filter (is_outer layers space)) t.others ∙ both_tests (is_other space) (is_outer layers space) (outer_other layers space) t.all

-- The threads that come into the queue after a step: those of the ancestors of its space, and then those of the space itself.
use Rattle.std.proofs.Common.{◌≡◌, inl, inr, ℕ, Bool, true, false, not, ◌&&◌, cond, List, [], ◌∷◌, ◌++◌, filter, flat_map, refl, sym, ap, ap₂, subst, ◌∙◌, append_assoc, Option, Some, None}
use Rattle.std.proofs.lemmas.List.{append-nil}
use Rattle.std.proofs.lemmas.List.Elements.{filter-append}
use Rattle.oz_base.specs.declared.names.Ident.{Ident}
use Rattle.oz_semantics.specs.Names.{is_below, is_properly_below}
use Rattle.oz_semantics.specs.Configurations.{is_of, layer_at}
use Rattle.oz_semantics.specs.declared.configuration.Layer.{Layer}
use Rattle.oz_laws.proofs.SameLaws.{In, contains-from_In, and-left, and-right}
use Rattle.view_laws.specs.Sights.{is_led}
use Rattle.view_laws.proofs.Members.{decide, not_both, each}
use Rattle.view_laws.proofs.ListLaws.{filter_none}
use Rattle.view_laws.proofs.NameLaws.{names_equal, properly, properly_by}
use Rattle.view_laws.proofs.SightLaws.{of_space}
use Rattle.quiet_laws.specs.Among.{above_of, AboveTop}

-- none is above the top
pub above_top : AboveTop
above_top layers = filter_none (λ (l : Layer). is_properly_below l.space []) layers (λ l i. none l.space)
  where
    none : (s : List ℕ) → is_properly_below s [] ≡ false
    none [] = refl
    none (n ∷ s) = refl

not_true : (b : Bool) → not b ≡ true → b ≡ false
not_true true e = sym e
not_true false e = refl

-- those of one layer, where there is one
abbrev pub own_of : (Layer → List Ident) → Option Layer → List Ident
own_of able None = []
own_of able (Some l) = able l

module _ (able : Layer → List Ident) (comes : Ident → Bool) (space : List ℕ) where
  abbrev all_of : List Layer → List Ident
  all_of ls = filter comes (flat_map able ls)

  none_come : (ls : List Layer) → ((l : Layer) → In l ls → filter comes (able l) ≡ []) → all_of ls ≡ []
  none_come [] h = refl
  none_come (l ∷ ls) h = filter-append comes (able l) (flat_map able ls) ∙ ap₂ (λ (xs ys : List Ident). xs ++ ys) (h l (inl refl)) (none_come ls (λ m i. h m (inr i)))

  itself_not_above : (l : Layer) → is_of space l ≡ true → is_properly_below l.space space ≡ false
  itself_not_above l e = elim (decide (is_properly_below l.space space)) [ inl k ↦ absurd ((properly l.space space k).1 (of_space space l e)) | inr k ↦ k ]

  -- where none comes of the layers of other spaces that are not above
  pub above_come : (ls : List Layer) → is_led ls ≡ true → ((l : Layer) → In l ls → is_below l.space space ≡ false → filter comes (able l) ≡ [])
      → all_of ls ≡ all_of (above_of ls space) ++ filter comes (own_of able (layer_at ls space))
  above_come [] led h = refl
  above_come (l ∷ ls) led h =
      filter-append comes (able l) (flat_map able ls) ∙ by (is_of space l) (is_below l.space space) refl refl (above_come ls (and-right _ _ led) (λ m i. h m (inr i)))
    where
      -- no later layer is above the space's own
      later : is_of space l ≡ true → (m : Layer) → In m ls → is_below m.space space ≡ false
      later e m i =
          subst (λ s. is_below m.space s ≡ false) (of_space space l e)
          (not_true _ (each (λ (n : Layer). not (is_below n.space l.space)) ls (and-left _ _ led) m (contains-from_In ls m i)))

      not_above : (m : Layer) → is_below m.space space ≡ false → is_properly_below m.space space ≡ false
      not_above m e = ap (λ b. b && not (is_of space m)) e

      by : (own below : Bool) → is_of space l ≡ own → is_below l.space space ≡ below
          → all_of ls ≡ all_of (above_of ls space) ++ filter comes (own_of able (layer_at ls space))
          → filter comes (able l) ++ all_of ls
          ≡ all_of (cond (is_properly_below l.space space) (l ∷ (above_of ls space)) (above_of ls space)) ++ filter comes (own_of able (cond own (Some l) (layer_at ls space)))
      by true below e k rest =
          let none : all_of ls ≡ [] = none_come ls (λ m i. h m (inr i) (later e m i)) in
          let no_above : (above_of ls space) ≡ [] = filter_none (λ (m : Layer). is_properly_below m.space space) ls (λ m i. not_above m (later e m i)) in
          ap (λ ys. filter comes (able l) ++ ys) none ∙ append-nil (filter comes (able l))
          ∙ sym (ap (λ (b : Bool). all_of (cond b (l ∷ (above_of ls space)) (above_of ls space)) ++ filter comes (able l)) (itself_not_above l e) ∙ ap (λ (ms : List Layer). all_of ms ++ filter comes (able l)) no_above)
      by false true e k rest =
          let higher : is_properly_below l.space space ≡ true =
          properly_by l.space space k (λ q. not_both _ (subst (λ s. is_of s l ≡ true) q (names_equal l.space)) e) in
          ap (λ ys. filter comes (able l) ++ ys) rest
          ∙ sym (append_assoc (filter comes (able l)) (all_of (above_of ls space)) (filter comes (own_of able (layer_at ls space))))
          ∙ ap (λ xs. xs ++ filter comes (own_of able (layer_at ls space))) (sym (filter-append comes (able l) (flat_map able (above_of ls space))))
          ∙ sym (ap (λ (b : Bool). all_of (cond b (l ∷ (above_of ls space)) (above_of ls space)) ++ filter comes (own_of able (layer_at ls space))) higher)
      by false false e k rest =
          ap (λ xs. xs ++ all_of ls) (h l (inl refl) k) ∙ rest
          ∙ sym (ap (λ (b : Bool). all_of (cond b (l ∷ (above_of ls space)) (above_of ls space)) ++ filter comes (own_of able (layer_at ls space))) (not_above l k))

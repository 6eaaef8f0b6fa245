-- How a list of touched variables is come by.
use Rattle.std.proofs.Common.{◌≡◌, ◌∙◌, ◌⊎◌, inl, inr, List, ◌++◌, sym, ap}
use Rattle.std.specs.Prelude.{Contains}
use Rattle.std.proofs.lemmas.List.Elements.{Contains-append_left, Contains-append_right}
use Rattle.oz_base.specs.declared.names.Ident.{Ident}
use Rattle.oz_laws.specs.Touched.{Meets}
use Rattle.oz_semantics.specs.Store.{Same, joined}
use Rattle.oz_semantics.specs.declared.value.Tell.{Tell}
use Rattle.term_store.specs.Classes.{instead}
use Rattle.term_store.specs.Closing.{Tied}
use Rattle.term_store.proofs.ClassLaws.{Decided, one, two, decided, instead_is, instead_other}

pub meets_joined : (before : List Tell) (touched : List Ident) (x y : Ident) → Same before x y → Meets before touched y → Meets before touched x
meets_joined before touched x y s m = (m.0, m.1, joined s m.2)

pub meets_left : (before : List Tell) (us vs : List Ident) (x : Ident) → Meets before us x → Meets before (us ++ vs) x
meets_left before us vs x m = (m.0, Contains-append_left us vs m.0 m.1, m.2)

pub meets_right : (before : List Tell) (us vs : List Ident) (x : Ident) → Meets before vs x → Meets before (us ++ vs) x
meets_right before us vs x m = (m.0, Contains-append_right us vs m.0 m.1, m.2)

module _ (before : List Tell) (touched : List Ident) (g : Ident → Ident) (tied : Tied before touched g) where
  -- a class whose variable was noted
  noted_meets : (t : Ident) (more : List Ident) → Contains more t → (x : Ident) → g x ≡ g t → Meets before (touched ++ more) x
  noted_meets t more c x e = elim (tied x t e) [
    | inl s ↦ meets_right before touched more x (t, c, s)
    | inr m ↦ meets_left before touched more x m.0
  ]

  still : (more : List Ident) → Tied before (touched ++ more) g
  still more x y e = elim (tied x y e) [
    | inl s ↦ inl s
    | inr m ↦ inr (meets_left before touched more x m.0, meets_left before touched more y m.1)
  ]

  -- the classes of u and o are joined, and a variable of each was noted
  pub tied_join : (u o a b : Ident) → g u ≡ u → g o ≡ o → (g a ≡ u) × (g b ≡ o) → (more : List Ident) → Contains more a → Contains more b → Tied before (touched ++ more) (λ z. instead u o (g z))
  tied_join u o a b under over at more ca cb x y e = by (decided (g x) u) (decided (g y) u)
    where
      at_u : (z : Ident) → g z ≡ u → Meets before (touched ++ more) z
      at_u z k = noted_meets a more ca z (k ∙ sym at.0)

      at_o : (z : Ident) → g z ≡ o → Meets before (touched ++ more) z
      at_o z k = noted_meets b more cb z (k ∙ sym at.1)

      by : Decided (g x) u → Decided (g y) u → Same before x y ⊎ (Meets before (touched ++ more) x × Meets before (touched ++ more) y)
      by (one k) (one n) = still more x y (k ∙ sym n)
      by (one k) (two n) = inr (at_u x k, at_o y (sym (instead_other u o (g y) n) ∙ sym e ∙ ap (instead u o) k ∙ instead_is u o))
      by (two k) (one n) = inr (at_o x (sym (instead_other u o (g x) k) ∙ e ∙ ap (instead u o) n ∙ instead_is u o), at_u y n)
      by (two k) (two n) = still more x y (sym (instead_other u o (g x) k) ∙ e ∙ instead_other u o (g y) n)

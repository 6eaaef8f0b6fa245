-- A variable that is alone in its class is held by no other.
use Rattle.std.proofs.Common.{◌≡◌, ℕ, Bool, true, false, ◌&&◌, ◌||◌, List, [], ◌∷◌, refl, sym, ap, ap₂, ◌∙◌}
use Rattle.std.specs.List.{list_any}
use Rattle.std.proofs.lemmas.Bool.{false≢true}
use Rattle.oz_base.specs.declared.names.Ident.{Ident}
use Rattle.oz_semantics.specs.Store.{same, reversed, named_by}
use Rattle.oz_semantics.specs.declared.value.Tell.{Tell}
use Rattle.oz_semantics.specs.declared.configuration.Layer.{Layer}
use Rattle.oz_laws.proofs.SameLaws.{tests_same}
use Rattle.space_core.specs.Shown.{is_outer}
use Rattle.space_core.specs.Silence.{holds_variable, tell_holds}

any_not : {A : Type 0} (f : A → Bool) → ((x : A) → f x ≡ false) → (xs : List A) → list_any f xs ≡ false
any_not f h [] = refl
any_not f h (x ∷ xs) = ap₂ (λ (a b : Bool). a || b) (h x) (any_not f h xs)

module _ (layers : List Layer) (space : List ℕ) (view : List Tell) (x : Ident) (alone : (y : Ident) → same view y x ≡ true → y ≡ x) (inner : is_outer layers space x ≡ false) where
  not_by : (y : Ident) → holds_variable layers space view x y ≡ false
  not_by y = by (is_outer layers space y) (same view x y) refl refl
    where
      by : (a b : Bool) → is_outer layers space y ≡ a → same view x y ≡ b → (a && b) ≡ false
      by false b e f = refl
      by true false e f = refl
      by true true e f =
          absurd (false≢true (sym inner ∙ ap (is_outer layers space) (sym (alone y ((tests_same view y x).1 (reversed ((tests_same view x y).0 f))))) ∙ e))

  pub by_none : (ts : List Tell) → list_any (tell_holds layers space view x) ts ≡ false
  by_none ts = any_not (tell_holds layers space view x) (λ t. any_not (holds_variable layers space view x) not_by (named_by t)) ts

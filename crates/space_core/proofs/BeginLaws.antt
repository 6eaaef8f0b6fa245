-- What is kept of the top at its beginning.
use Rattle.std.proofs.Common.{◌≡◌, ◌≤◌, arith, ℕ, List, [], ◌∷◌, refl, sym, ap, subst, ◌∙◌, Contains, length, flat_map, inl, inr}
use Rattle.std.specs.List.{list_any, list_all}
use Rattle.std.proofs.lemmas.Bool.{false≢true}
use Rattle.oz_semantics.specs.Names.{is_top}
use Rattle.oz_semantics.specs.Store.{is_consistent, named_by}
use Rattle.oz_semantics.specs.Configurations.{new_layer, view}
use Rattle.oz_semantics.specs.declared.value.Tell.{Tell}
use Rattle.oz_semantics.specs.declared.configuration.Layer.{Layer}
use Rattle.oz_laws.proofs.SameLaws.{In, In-from_contains}
use Rattle.view_laws.specs.Trees.{IsTree}
use Rattle.view_laws.specs.Spaceless.{gives_space}
use Rattle.space_core.specs.Beginnings.{IsTopLevel}
use Rattle.space_core.specs.Shown.{seen_above, is_home, Fits, IsSound}
use Rattle.space_core.specs.declared.level.Level.{Level}

alone : {A : Type 0} (x y : A) → In y (x ∷ []) → y ≡ x
alone x y (inl e) = sym e
alone x y (inr h) = elim h [ ]

top_tree : IsTree (new_layer [] ∷ [])
top_tree = record {
  ordered = refl;
  begins = λ l c. subst (λ (k : Layer). 1 ≤ k.next.child) (sym (alone (new_layer []) l (In-from_contains (new_layer [] ∷ []) l c))) (omega arith);
  given = λ l c t. absurd (false≢true (sym t ∙ ap (λ (k : Layer). is_top k.space) (alone (new_layer []) l (In-from_contains (new_layer [] ∷ []) l c))));
}

module _ (l : Level) (b : IsTopLevel l) where
  own_space : l.space ≡ []
  own_space = ap (λ (k : Layer). k.space) b.shows

  fits_top : Fits (new_layer [] ∷ []) l
  fits_top = record {
    seen = λ k. b.store ∙ sym (ap (view (new_layer [] ∷ [])) own_space);
    from = λ k. b.told_from ∙ sym (ap (λ (s : List ℕ). length (seen_above (new_layer [] ∷ []) s)) own_space);
    bare = λ k. absurd (false≢true (sym b.kept ∙ k));
    consistent = ap (λ (s : List ℕ). is_consistent (view (new_layer [] ∷ []) s)) own_space;
    home = λ t. ap (λ (ts : List Tell). list_all (is_home (new_layer [] ∷ []) l.space) (flat_map named_by ts))
        (ap (λ (k : Layer). k.tells) b.shows);
    touches = λ t n. absurd (false≢true (sym n ∙ ap is_top own_space));
    known = λ k. ap (λ (j : Layer). list_any gives_space j.tells) b.shows;
  }

  pub top_sound : IsSound (l ∷ [])
  top_sound = subst (λ (ls : List Layer). IsTree ls → ((m : Level) → Contains (l ∷ []) m → Fits ls m) → IsSound (l ∷ [])) (ap (λ (k : Layer). k ∷ []) b.shows) (λ t f. record { tree = t; fits = f })
      top_tree (λ m c. subst (Fits (new_layer [] ∷ [])) (sym (alone l m (In-from_contains (l ∷ []) m c))) fits_top)

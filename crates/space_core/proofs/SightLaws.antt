-- A bare space sees what its parent sees.
use Rattle.std.proofs.Common.{◌≡◌, ℕ, ◌<◌, true, false, List, [], ◌∷◌, ◌++◌, length, drop, refl, sym, ap, subst, ◌∙◌, arith, Contains, slice_index_or}
use Rattle.std.proofs.lemmas.Bool.{false≢true}
use Rattle.std.proofs.lemmas.List.{append-nil}
use Rattle.oz_base.specs.Lists.{is_empty}
use Rattle.oz_semantics.specs.Names.{parent_of}
use Rattle.oz_semantics.specs.Configurations.{view}
use Rattle.oz_semantics.specs.declared.value.Tell.{Tell}
use Rattle.space_core.specs.Places.{IsFirst}
use Rattle.space_core.specs.Shown.{shown, shown_all, is_named, IsSound}
use Rattle.space_core.specs.declared.level.Level.{Level}
use Rattle.space_core.proofs.ParentLaws.{first_read, named_space, named_member}
use Rattle.space_core.proofs.SoundLaws.{drop_nothing, above_is}
use Rattle.space_core.proofs.TellLaws.{view_is, layer_found}

-- the name of the parent is shorter
shorter : (s : List ℕ) → is_empty s ≡ false → length (parent_of s) < length s
shorter [] e = absurd (false≢true (sym e))
shorter (n ∷ []) e = omega arith
shorter (n ∷ m ∷ s) e = let r = shorter (m ∷ s) refl in omega (arith, r)

module _ (levels : List Level) (l : Level) (place : ℕ) (h : (x : Level) × IsFirst (is_named (parent_of l.space)) levels place x) (k : Level) (e : k ≡ slice_index_or levels place k) where
  parent_name : k.space ≡ parent_of l.space
  parent_name = ap (λ (m : Level). m.space) (first_read h.1 k e) ∙ named_space levels (parent_of l.space) place h.0 h.1

  pub parent_shorter : is_empty l.space ≡ false → length k.space < length l.space
  parent_shorter inner = subst (λ (s : List ℕ). length s < length l.space) (sym parent_name) (shorter l.space inner)

  pub sees_parent : l.bare ≡ true → (own : List Tell) → (IsSound levels → Contains levels k → own ≡ view (shown_all levels) k.space) → IsSound levels → Contains levels l → own ≡ view (shown_all levels) l.space
  sees_parent b own is s c =
      let bare = (s.fits l c).bare b in
      is s (subst (Contains levels) (sym (first_read h.1 k e)) (named_member levels (parent_of l.space) place h.0 h.1))
      ∙ ap (view (shown_all levels)) parent_name
      ∙ sym (view_is (shown_all levels) l.space (shown l) s.tree (layer_found levels s l c)
      ∙ ap (λ (ts : List Tell). ts ++ (shown l).tells) (above_is (shown_all levels) l.space bare.inner)
      ∙ ap (λ (ts : List Tell). view (shown_all levels) (parent_of l.space) ++ ts) (ap (drop l.told_from) bare.store ∙ drop_nothing l.told_from)
      ∙ append-nil (view (shown_all levels) (parent_of l.space)))

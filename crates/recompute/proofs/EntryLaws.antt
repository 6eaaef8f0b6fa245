-- The entries of a board.
use Rattle.std.proofs.Common.{◌≡◌, ℕ, ◌<◌, true, List, [], ◌∷◌, length, get_or, slice_get, Some, refl, ap, ◌∙◌}
use Rattle.std.specs.Option.{option_map}
use Rattle.std.specs.Ordering.{is_eq, ordering_then}
use Rattle.std.specs.declared.cmp.Ordering.{Ordering}
use Rattle.std.specs.declared.cmp.Ordering.TheVariants.{Less, Equal, Greater}
use Rattle.std.proofs.lemmas.Option.{slice_get_read}
use Rattle.oz_search.specs.Searches.{Search, IsSearch}
use Rattle.oz_search.specs.Paths.{path_cmp}

both_equal : (r s : Ordering) → is_eq (ordering_then r s) ≡ true → (r ≡ Equal) × (is_eq s ≡ true)
both_equal Less s e = absurd (cc (e))
both_equal Equal s e = (refl, e)
both_equal Greater s e = absurd (cc (e))

-- two paths that are level are one
pub same_path : {B L : Type 0} (k : Search B L) (its : IsSearch k) (p q : List B) → is_eq (path_cmp k p q) ≡ true → p ≡ q
same_path k its [] [] e = refl
same_path k its [] (b ∷ q) e = absurd (cc (e))
same_path k its (a ∷ p) [] e = absurd (cc (e))
same_path k its (a ∷ p) (b ∷ q) e =
    let both = both_equal (k.cmp a b) (path_cmp k p q) e in
    λ i. its.tied a b both.0 i ∷ same_path k its p q both.1 i

-- the path of the entry at a place
pub placed_there : {E B : Type 0} (path : E → List B) (entries : List E) (at : ℕ) (x : E) (p : List B) → at < length entries → x ≡ get_or entries at x → path x ≡ p
    → option_map path (slice_get entries at) ≡ Some p
placed_there path entries at x p within is e = ap (option_map path) (slice_get_read entries (length entries) at x refl within is) ∙ ap (λ q. Some q) e

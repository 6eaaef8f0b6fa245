-- The name of the parent of a space.
use Rattle.std.proofs.Common.{◌≡◌, ℕ, suc, ◌-◌, ◌<◌, arith, Bool, true, false, List, [], ◌∷◌, take, length, refl, sym, ◌∙◌, ap, Contains, Option, Some, None, slice_get, slice_index_or}
use Rattle.std.proofs.lemmas.Bool.{false≢true}
use Rattle.std.proofs.lemmas.List.{get_or_default}
use Rattle.std.proofs.lemmas.Option.{slice_get_within, get_or_from_slice_get}
use Rattle.oz_base.specs.Lists.{holds_of, is_empty, list_eq}
use Rattle.oz_semantics.specs.Names.{is_top, parent_of}
use Rattle.oz_laws.proofs.SameLaws.{contains-from_In}
use Rattle.view_laws.proofs.NameLaws.{equal_names}
use Rattle.view_laws.proofs.ListLaws.{found_in}
use Rattle.space_core.specs.Fates.{IsParentAt, is_parent_at}
use Rattle.space_core.specs.Places.{IsFirst}
use Rattle.space_core.specs.Shown.{is_named}
use Rattle.space_core.specs.declared.level.Level.{Level}

-- all but the last number
pub parent_take : (xs : List ℕ) → parent_of xs ≡ take (length xs - 1) xs
parent_take [] = refl
parent_take (x ∷ []) = refl
parent_take (x ∷ y ∷ ys) =
    let longer : suc (suc (length ys)) - 1 ≡ suc (length ys) = omega arith in
    let shorter : suc (length ys) - 1 ≡ length ys = omega arith in
    ap (λ zs. x ∷ zs) (parent_take (y ∷ ys)) ∙ ap (λ n. x ∷ take n (y ∷ ys)) shorter ∙ sym (ap (λ n. take n (x ∷ y ∷ ys)) longer)

-- what is read at the place of the first
pub first_read : {A : Type 0} {test : A → Bool} {xs : List A} {place : ℕ} {x : A} → IsFirst test xs place x → (y : A) → y ≡ slice_index_or xs place y → y ≡ x
first_read {xs = xs} {place = place} {x = x} h y e = e ∙ (get_or_default xs place y x h.within ∙ h.item)

pub named_space : (levels : List Level) (space : List ℕ) (place : ℕ) (x : Level) → IsFirst (is_named space) levels place x → x.space ≡ space
named_space levels space place x h = equal_names x.space space (found_in (is_named space) (λ (l : Level). l) levels x h.found).1

pub named_member : (levels : List Level) (space : List ℕ) (place : ℕ) (x : Level) → IsFirst (is_named space) levels place x → Contains levels x
named_member levels space place x h = contains-from_In levels x (found_in (is_named space) (λ (l : Level). l) levels x h.found).0

pub empty_top : (s : List ℕ) → is_empty s ≡ is_top s
empty_top [] = refl
empty_top (n ∷ s) = refl

pub not_empty : (s : List ℕ) → is_empty s ≡ false → is_top s ≡ false
not_empty s e = sym (empty_top s) ∙ e

-- the space at a place is a parent, where the names say so
pub parent_at : (levels : List Level) (place : ℕ) (space : List ℕ) → place < length levels → (l : Level) → l ≡ slice_index_or levels place l → list_eq l.space (parent_of space) ≡ true → IsParentAt levels place space
parent_at levels place space within l r e = record {
  within = within;
  name = λ k q. ap (λ (j : Level). j.space) (q ∙ get_or_default levels place k l within ∙ sym r) ∙ equal_names l.space (parent_of space) e;
}

pub parent_by : (levels : List Level) (place : ℕ) (space : List ℕ) → is_parent_at levels space place ≡ true → IsParentAt levels place space
parent_by levels place space e = by (slice_get levels place) refl e
  where
    by : (o : Option Level) → slice_get levels place ≡ o → holds_of (λ (l : Level). list_eq l.space (parent_of space)) o ≡ true → IsParentAt levels place space
    by None at t = absurd (false≢true t)
    by (Some l) at t = parent_at levels place space (slice_get_within levels place l at) l (sym (get_or_from_slice_get levels place l l at)) t

-- Domains against those that a run saw.
use Rattle.std.proofs.Common.{◌≡◌, ℕ, ◌+◌, ◌<◌, ◌≤◌, Bool, true, false, ◌&&◌, List, [], ◌∷◌, Some, None, unwrap_or, refl, sym, ap, ◌∙◌, arith, length, get_or, drop, eqb}
use Rattle.std.proofs.lemmas.List.{drop_more, drop_all}
use Rattle.std.proofs.lemmas.Bool.Decides.{nat_tests}
use Rattle.std.specs.FinSet as set
use Rattle.oz_base.specs.declared.names.Ident.{Ident}
use Rattle.oz_base.specs.declared.interval.Interval.{Interval}
use Rattle.oz_domains.specs.Domains.{IntSet, interval_eq, intervals_eq, intervals_of}
use Rattle.fd_domain.proofs.MemberLaws.{intervals_none}
use Rattle.oz_semantics.specs.Store.{View, domain_of}
use Rattle.oz_semantics.specs.Propagation.{domain_in, noted, all_eq}

pub more_than_one : (is : List Interval) (j : Interval) → (length is ≡ 1 → ⊥) → false ≡ intervals_eq is (j ∷ [])
more_than_one [] j n = refl
more_than_one (i ∷ []) j n = absurd (n refl)
more_than_one (i ∷ k ∷ is) j n = by (interval_eq i j)
  where
    by : (b : Bool) → false ≡ (b && false)
    by true = refl
    by false = refl

pub just_one : (is : List Interval) (i j : Interval) → length is ≡ 1 → i ≡ get_or is 0 i → interval_eq i j ≡ intervals_eq is (j ∷ [])
just_one [] i j h e = absurd (omega (arith, h))
just_one (k ∷ []) i j h e = ap (λ l. interval_eq l j) e ∙ by (interval_eq k j)
  where
    by : (b : Bool) → b ≡ (b && true)
    by true = refl
    by false = refl
just_one (k ∷ l ∷ is) i j h e = absurd (omega (arith, h))

pub none_seen : (is : List Interval) → eqb (length is) 0 ≡ intervals_eq is []
none_seen [] = refl
none_seen (i ∷ is) = grind (arith, nat_tests)

-- the intervals of a variable's domain
pub none_intervals : (view : View) (x : Ident) → None ≡ domain_of view x → intervals_of (domain_in view x) ≡ []
none_intervals view x e = ap (λ d. intervals_of (unwrap_or d set.empty)) (sym e) ∙ intervals_none

pub some_intervals : (view : View) (x : Ident) (s : IntSet) → Some s ≡ domain_of view x → intervals_of (domain_in view x) ≡ intervals_of s
some_intervals view x s e = ap (λ d. intervals_of (unwrap_or d set.empty)) (sym e)

-- As many domains as variables are compared one by one

seen_at : (view : View) (ds : List (List Interval)) (xs : List Ident) (i : ℕ) (d : List Interval) (x : Ident) → i < length ds → i < length xs
    → all_eq (drop i ds) (noted view (drop i xs))
    ≡ (intervals_eq (get_or ds i d) (intervals_of (domain_in view (get_or xs i x))) && all_eq (drop (i + 1) ds) (noted view (drop (i + 1) xs)))
seen_at view ds xs i d x h k = ap (λ l. all_eq l (noted view (drop i xs))) (drop_more ds i d h) ∙ ap (λ l. all_eq (get_or ds i d ∷ drop (i + 1) ds) (noted view l)) (drop_more xs i x k)

one_seen : (view : View) (ds : List (List Interval)) (xs : List Ident) (i : ℕ) (d : List Interval) (x : Ident) (b : Bool) → i < length ds → length ds ≡ length xs → d ≡ get_or ds i d → x ≡ get_or xs i x
    → b ≡ intervals_eq d (intervals_of (domain_in view x)) → all_eq (drop i ds) (noted view (drop i xs)) ≡ (b && all_eq (drop (i + 1) ds) (noted view (drop (i + 1) xs)))
one_seen view ds xs i d x b h long at_d at_x e =
    seen_at view ds xs i d x h (omega (arith, h, long))
    ∙ ap (λ l. intervals_eq l (intervals_of (domain_in view (get_or xs i x))) && all_eq (drop (i + 1) ds) (noted view (drop (i + 1) xs))) (sym at_d)
    ∙ ap (λ y. intervals_eq d (intervals_of (domain_in view y)) && all_eq (drop (i + 1) ds) (noted view (drop (i + 1) xs))) (sym at_x)
    ∙ ap (λ c. c && all_eq (drop (i + 1) ds) (noted view (drop (i + 1) xs))) (sym e)

pub seen_on : (view : View) (ds : List (List Interval)) (xs : List Ident) (i : ℕ) (d : List Interval) (x : Ident) (b r : Bool) → i < length ds → length ds ≡ length xs → d ≡ get_or ds i d → x ≡ get_or xs i x
    → b ≡ intervals_eq d (intervals_of (domain_in view x)) → b ≡ true → all_eq (drop i ds) (noted view (drop i xs)) ≡ r → all_eq (drop (i + 1) ds) (noted view (drop (i + 1) xs)) ≡ r
seen_on view ds xs i d x b r h long at_d at_x e t was =
    sym (ap (λ c. c && all_eq (drop (i + 1) ds) (noted view (drop (i + 1) xs))) t) ∙ sym (one_seen view ds xs i d x b h long at_d at_x e) ∙ was

pub seen_no : (view : View) (ds : List (List Interval)) (xs : List Ident) (i : ℕ) (d : List Interval) (x : Ident) (b r : Bool) → i < length ds → length ds ≡ length xs → d ≡ get_or ds i d → x ≡ get_or xs i x
    → b ≡ intervals_eq d (intervals_of (domain_in view x)) → b ≡ false → all_eq (drop i ds) (noted view (drop i xs)) ≡ r → false ≡ r
seen_no view ds xs i d x b r h long at_d at_x e f was =
    sym (ap (λ c. c && all_eq (drop (i + 1) ds) (noted view (drop (i + 1) xs))) f) ∙ sym (one_seen view ds xs i d x b h long at_d at_x e) ∙ was

pub seen_all : (view : View) (ds : List (List Interval)) (xs : List Ident) (i : ℕ) (r : Bool) → length ds ≤ i → length ds ≡ length xs → all_eq (drop i ds) (noted view (drop i xs)) ≡ r → true ≡ r
seen_all view ds xs i r h long was =
    sym (ap (λ l. all_eq l (noted view (drop i xs))) (drop_all i ds h) ∙ ap (λ l. all_eq [] (noted view l)) (drop_all i xs (omega (arith, h, long)))) ∙ was

pub not_as_many : (view : View) (ds : List (List Interval)) (xs : List Ident) → (length ds ≡ length xs → ⊥) → false ≡ all_eq ds (noted view xs)
not_as_many view [] [] n = absurd (n refl)
not_as_many view [] (x ∷ xs) n = refl
not_as_many view (d ∷ ds) [] n = refl
not_as_many view (d ∷ ds) (x ∷ xs) n = by (intervals_eq d (intervals_of (domain_in view x))) (not_as_many view ds xs (λ e. n (omega (arith, e))))
  where
    by : (b : Bool) → false ≡ all_eq ds (noted view xs) → false ≡ (b && all_eq ds (noted view xs))
    by true e = e
    by false e = refl

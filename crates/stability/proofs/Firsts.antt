-- The place that a search finds.
use Rattle.std.proofs.Common.{◌≡◌, ℕ, suc, ◌+◌, ◌<◌, ◌≤◌, Bool, true, false, List, [], ◌∷◌, drop, length, get_or, Option, Some, None, refl, sym, ap, ◌∙◌, subst, arith, MatchOption, Result, Ok, Err, slice_set}
use Rattle.std.specs.Prelude.{position, slice_get, IfOk}
use Rattle.oz_base.specs.Lists.{edit_first}
use Rattle.std.specs.Option.{option_map}
use Rattle.std.proofs.lemmas.Grind.{common_steps}
use Rattle.std.proofs.lemmas.List.{drop_more, drop_all, set-get_or}
use Rattle.std.proofs.lemmas.Option.{get_or_from_slice_get}
use Rattle.stability.specs.Places.{IsAbsent, IsFirst, from_place}
use Rattle.stability.proofs.PlaceLaws.{item_at}

abbrev pub Found : {A : Type 0} → (A → Bool) → List A → Option ℕ → Type 0
Found {A} test xs at = MatchOption at (IsAbsent test xs) (λ place. (x : A) × IsFirst test xs place x)

pub position_here : {A : Type 0} (test : A → Bool) (x : A) (xs : List A) → test x ≡ true → position test (x ∷ xs) ≡ Some 0
position_here test x xs e = rw e (grind arith)

pub position_later : {A : Type 0} (test : A → Bool) (x : A) (xs : List A) → test x ≡ false → position test (x ∷ xs) ≡ option_map (λ n. suc n) (position test xs)
position_later test x xs e = rw e (grind (arith, common_steps))

here : {A : Type 0} (test : A → Bool) (x : A) (xs : List A) → test x ≡ true → IsFirst test (x ∷ xs) 0 x
here test x xs e = record { at = position_here test x xs e; within = omega arith; item = refl; passes = e; found = rw e refl; edited = λ change. rw e refl }

later : {A : Type 0} (test : A → Bool) (x : A) (xs : List A) (at : Option ℕ) → test x ≡ false → Found test xs at → Found test (x ∷ xs) (option_map (λ n. suc n) at)
later test x xs None e h = record { none = rw e h.none; same = λ change. rw e (ap (λ ys. x ∷ ys) (h.same change)) }
later test x xs (Some n) e h = (
  h.0,
  record {
    at = position_later test x xs e ∙ ap (option_map (λ n. suc n)) h.1.at;
    within = let w = h.1.within in omega arith;
    item = h.1.item;
    passes = h.1.passes;
    found = rw e h.1.found;
    edited = λ change. rw e (ap (λ ys. x ∷ ys) (h.1.edited change));
  },
)

at_head : {A : Type 0} (test : A → Bool) (x : A) (xs : List A) (b : Bool) → test x ≡ b → Found test xs (position test xs) → Found test (x ∷ xs) (position test (x ∷ xs))
at_head test x xs true e h = subst (Found test (x ∷ xs)) (sym (position_here test x xs e)) (x, here test x xs e)
at_head test x xs false e h = subst (Found test (x ∷ xs)) (sym (position_later test x xs e)) (later test x xs (position test xs) e h)

-- what `position` finds
pub found_by_position : {A : Type 0} (test : A → Bool) (xs : List A) → Found test xs (position test xs)
found_by_position test [] = record { none = refl; same = λ change. refl }
found_by_position test (x ∷ xs) = at_head test x xs (test x) refl (found_by_position test xs)

-- and so any result that is equal to it
pub found_at : {A : Type 0} (test : A → Bool) (xs : List A) (at : Option ℕ) → at ≡ position test xs → Found test xs at
found_at test xs at e = subst (Found test xs) (sym e) (found_by_position test xs)

-- A search place by place: what is found from a place on

one_on : (i : ℕ) (at : Option ℕ) → option_map (λ n. i + n) (option_map (λ n. suc n) at) ≡ option_map (λ n. (i + 1) + n) at
one_on i None = refl
one_on i (Some n) = let e : i + suc n ≡ (i + 1) + n = omega arith in ap (λ m. Some m) e

none_on : (at : Option ℕ) → option_map (λ n. 0 + n) at ≡ at
none_on None = refl
none_on (Some n) = let e : 0 + n ≡ n = omega arith in ap (λ m. Some m) e

pub from_start : {A : Type 0} (test : A → Bool) (xs : List A) → from_place test xs 0 ≡ position test xs
from_start test xs = none_on (position test xs)

read_at : {A : Type 0} (xs : List A) (i : ℕ) (x : A) → i < length xs → x ≡ get_or xs i x → drop i xs ≡ x ∷ drop (i + 1) xs
read_at xs i x h e = drop_more xs i x h ∙ ap (λ y. y ∷ drop (i + 1) xs) (sym e)

pub place_left : {A : Type 0} (test : A → Bool) (xs : List A) (i : ℕ) (x : A) (whole : Option ℕ) → i < length xs → x ≡ get_or xs i x → from_place test xs i ≡ whole → false ≡ test x
    → from_place test xs (i + 1) ≡ whole
place_left test xs i x whole h here e passes =
    sym (ap (λ ys. option_map (λ n. i + n) (position test ys)) (read_at xs i x h here)
    ∙ ap (option_map (λ n. i + n)) (position_later test x (drop (i + 1) xs) (sym passes)) ∙ one_on i (position test (drop (i + 1) xs)))
    ∙ e

pub place_found : {A : Type 0} (test : A → Bool) (xs : List A) (i : ℕ) (x : A) (whole : Option ℕ) → i < length xs → x ≡ get_or xs i x → from_place test xs i ≡ whole → true ≡ test x → Some i ≡ whole
place_found test xs i x whole h here e passes =
    let sum : i ≡ i + 0 = omega arith in
    ap (λ m. Some m) sum
    ∙ sym (ap (λ ys. option_map (λ n. i + n) (position test ys)) (read_at xs i x h here) ∙ ap (option_map (λ n. i + n)) (position_here test x (drop (i + 1) xs) (sym passes)))
    ∙ e

pub place_end : {A : Type 0} (test : A → Bool) (xs : List A) (i : ℕ) (whole : Option ℕ) → length xs ≤ i → from_place test xs i ≡ whole → None ≡ whole
place_end test xs i whole h e = sym (ap (λ ys. option_map (λ n. i + n) (position test ys)) (drop_all i xs h)) ∙ e

-- the same where the search may be refused
pub found_in : {A E : Type 0} (test : A → Bool) (xs : List A) (r : Result (Option ℕ) E) → IfOk r (λ at. at ≡ position test xs) → IfOk r (Found test xs)
found_in test xs (Ok at) h = found_at test xs at h
found_in test xs (Err e) h = h

-- edits of one item that change it alike
pub edits_agree : {A : Type 0} (test other : A → Bool) (f g : A → A) (xs : List A) (p : ℕ) (x y : A) → IsFirst test xs p x → IsFirst other xs p y → f x ≡ g x
    → edit_first test f xs ≡ edit_first other g xs
edits_agree test other f g xs p x y h k e =
    let same : x ≡ y = some_same (sym h.item ∙ k.item) in
    h.edited f ∙ ap (slice_set xs p) (e ∙ ap g same) ∙ sym (k.edited g)
  where
    some_same : {A : Type 0} {x y : A} → Some x ≡ Some y → x ≡ y
    some_same e = cc

-- an edit that changes nothing
pub edit_same : {A : Type 0} (test : A → Bool) (f : A → A) (xs : List A) (p : ℕ) (x : A) → IsFirst test xs p x → f x ≡ x → edit_first test f xs ≡ xs
edit_same test f xs p x h e =
    h.edited f ∙ ap (slice_set xs p) (e ∙ sym (get_or_from_slice_get xs p x x h.item)) ∙ set-get_or xs p x

-- the same where what stands at a place is told
pub layer_found : {A : Type 0} (test : A → Bool) (xs : List A) (i : ℕ) (whole : Option ℕ) → i < length xs → from_place test xs i ≡ whole → ((x : A) → slice_get xs i ≡ Some x → true ≡ test x) → Some i ≡ whole
layer_found test xs i whole h e passes =
    let item = item_at xs i h in
    place_found test xs i item.0 whole h (sym (get_or_from_slice_get xs i item.0 item.0 item.1)) e (passes item.0 item.1)

pub layer_left : {A : Type 0} (test : A → Bool) (xs : List A) (i : ℕ) (whole : Option ℕ) → i < length xs → from_place test xs i ≡ whole → ((x : A) → slice_get xs i ≡ Some x → false ≡ test x) → from_place test xs (i + 1) ≡ whole
layer_left test xs i whole h e passes =
    let item = item_at xs i h in
    place_left test xs i item.0 whole h (sym (get_or_from_slice_get xs i item.0 item.0 item.1)) e (passes item.0 item.1)

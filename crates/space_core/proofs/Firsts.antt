-- The place that a search finds.
use Rattle.std.proofs.Common.{◌≡◌, ℕ, suc, Bool, true, false, ◌||◌, cond, List, [], ◌∷◌, Option, Some, None, map, refl, sym, ap, subst, ◌∙◌, arith, MatchOption}
use Rattle.std.specs.Prelude.{position}
use Rattle.std.specs.Option.{option_map}
use Rattle.std.specs.List.{find, list_any}
use Rattle.oz_base.specs.Lists.{edit_first}
use Rattle.std.proofs.lemmas.Grind.{common_steps}
use Rattle.space_core.specs.Places.{IsAbsent, IsFirst}

abbrev pub Found : {A : Type 0} → (A → Bool) → List A → Option ℕ → Type 0
Found {A} test xs at = MatchOption at (IsAbsent test xs) (λ place. (x : A) × IsFirst test xs place x)

pub position_here : {A : Type 0} (test : A → Bool) (x : A) (xs : List A) → test x ≡ true → position test (x ∷ xs) ≡ Some 0
position_here test x xs e = rw e (grind arith)

pub position_later : {A : Type 0} (test : A → Bool) (x : A) (xs : List A) → test x ≡ false → position test (x ∷ xs) ≡ option_map (λ n. suc n) (position test xs)
position_later test x xs e = rw e (grind (arith, common_steps))

here : {A : Type 0} (test : A → Bool) (x : A) (xs : List A) → test x ≡ true → IsFirst test (x ∷ xs) 0 x
here test x xs e = record { at = position_here test x xs e; within = omega arith; item = refl; found = rw e refl; edited = λ change. rw e refl; put = λ new. rw e refl }

later : {A : Type 0} (test : A → Bool) (x : A) (xs : List A) (at : Option ℕ) → test x ≡ false → Found test xs at → Found test (x ∷ xs) (option_map (λ n. suc n) at)
later test x xs None e h = record { none = rw e h.none; same = λ change. rw e (ap (λ ys. x ∷ ys) (h.same change)); put = λ new. rw e (ap (λ ys. x ∷ ys) (h.put new)) }
later test x xs (Some n) e h = (
  h.0,
  record {
    at = position_later test x xs e ∙ ap (option_map (λ n. suc n)) h.1.at;
    within = let w = h.1.within in omega arith;
    item = h.1.item;
    found = rw e h.1.found;
    edited = λ change. rw e (ap (λ ys. x ∷ ys) (h.1.edited change));
    put = λ new. rw e (ap (λ ys. x ∷ ys) (h.1.put new));
  },
)

at_head : {A : Type 0} (test : A → Bool) (x : A) (xs : List A) (b : Bool) → test x ≡ b → Found test xs (position test xs) → Found test (x ∷ xs) (position test (x ∷ xs))
at_head test x xs true e h = subst (Found test (x ∷ xs)) (sym (position_here test x xs e)) (x, here test x xs e)
at_head test x xs false e h = subst (Found test (x ∷ xs)) (sym (position_later test x xs e)) (later test x xs (position test xs) e h)

-- what `position` finds
pub found_by_position : {A : Type 0} (test : A → Bool) (xs : List A) → Found test xs (position test xs)
found_by_position test [] = record { none = refl; same = λ change. refl; put = λ new. refl }
found_by_position test (x ∷ xs) = at_head test x xs (test x) refl (found_by_position test xs)

-- and so any result that is equal to it
pub found_at : {A : Type 0} (test : A → Bool) (xs : List A) (at : Option ℕ) → at ≡ position test xs → Found test xs at
found_at test xs at e = subst (Found test xs) (sym e) (found_by_position test xs)

-- the place of an item is that of what it is shown as
pub position_shown : {A B : Type 0} (f : A → B) (test : B → Bool) (xs : List A) → position (λ x. test (f x)) xs ≡ position test (map f xs)
position_shown f test [] = refl
position_shown f test (x ∷ xs) = by (test (f x)) refl (position_shown f test xs)
  where
    by : (b : Bool) → test (f x) ≡ b → position (λ x. test (f x)) xs ≡ position test (map f xs) → position (λ x. test (f x)) (x ∷ xs) ≡ position test (map f (x ∷ xs))
    by true e rest = position_here (λ x. test (f x)) x xs e ∙ sym (position_here test (f x) (map f xs) e)
    by false e rest = position_later (λ x. test (f x)) x xs e ∙ ap (option_map (λ n. suc n)) rest ∙ sym (position_later test (f x) (map f xs) e)

-- what is found after the first was changed
pub found_edited : {A : Type 0} (test : A → Bool) (change : A → A) (xs : List A) (x : A) → find test xs ≡ Some x → test (change x) ≡ true → find test (edit_first test change xs) ≡ Some (change x)
found_edited test change [] x e h = cc
found_edited test change (y ∷ ys) x e h = by (test y) refl e (found_edited test change ys x)
  where
    by : (b : Bool) → test y ≡ b → cond b (Some y) (find test ys) ≡ Some x → (find test ys ≡ Some x → test (change x) ≡ true → find test (edit_first test change ys) ≡ Some (change x))
        → find test (cond b (change y ∷ ys) (y ∷ edit_first test change ys)) ≡ Some (change x)
    by true k f rest = let same : y ≡ x = cc in subst (λ z. find test (change z ∷ ys) ≡ Some (change x)) (sym same) (rw h refl)
    by false k f rest = rw k (rest f h)

-- an edit that keeps the test keeps the place
position_edited : {A : Type 0} (test : A → Bool) (change : A → A) → ((x : A) → test (change x) ≡ test x) → (xs : List A) → position test (edit_first test change xs) ≡ position test xs
position_edited test change keeps [] = refl
position_edited test change keeps (x ∷ xs) = by (test x) refl (position_edited test change keeps xs)
  where
    by : (b : Bool) → test x ≡ b → position test (edit_first test change xs) ≡ position test xs → position test (cond b (change x ∷ xs) (x ∷ edit_first test change xs)) ≡ position test (x ∷ xs)
    by true e rest = position_here test (change x) xs (keeps x ∙ e) ∙ sym (position_here test x xs e)
    by false e rest = position_later test x (edit_first test change xs) e ∙ ap (option_map (λ n. suc n)) rest ∙ sym (position_later test x xs e)

-- and so what is found there
pub first_edited : {A : Type 0} (test : A → Bool) (change : A → A) → ((x : A) → test (change x) ≡ test x) → (xs : List A) (place : ℕ) (x : A) → IsFirst test xs place x
    → (y : A) × IsFirst test (edit_first test change xs) place y
first_edited test change keeps xs place x h =
    subst (Found test (edit_first test change xs)) (position_edited test change keeps xs ∙ h.at) (found_by_position test (edit_first test change xs))

-- an edit that changes nothing
pub edit_same : {A : Type 0} (test : A → Bool) (xs : List A) → edit_first test (λ x. x) xs ≡ xs
edit_same test [] = refl
edit_same test (x ∷ xs) = by (test x) (edit_same test xs)
  where
    by : (b : Bool) → edit_first test (λ x. x) xs ≡ xs → cond b (x ∷ xs) (x ∷ edit_first test (λ x. x) xs) ≡ x ∷ xs
    by true rest = refl
    by false rest = ap (λ ys. x ∷ ys) rest

-- what any item passes, after an edit that keeps it
pub any_edited : {A : Type 0} (p test : A → Bool) (change : A → A) → ((x : A) → p (change x) ≡ p x) → (xs : List A) → list_any p (edit_first test change xs) ≡ list_any p xs
any_edited p test change keeps [] = refl
any_edited p test change keeps (x ∷ xs) = by (test x) (any_edited p test change keeps xs)
  where
    by : (b : Bool) → list_any p (edit_first test change xs) ≡ list_any p xs → list_any p (cond b (change x ∷ xs) (x ∷ edit_first test change xs)) ≡ (p x || list_any p xs)
    by true rest = ap (λ (c : Bool). c || list_any p xs) (keeps x)
    by false rest = ap (λ (c : Bool). p x || c) rest

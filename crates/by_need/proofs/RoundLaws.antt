-- What a round comes to.
use Rattle.std.proofs.Common.{◌≡◌, ℕ, zero, suc, ◌+◌, ◌<◌, Bool, true, false, not, ◌||◌, cond, if◌then◌else◌, List, [], ◌∷◌, ◌++◌, map, filter, length, take, get_or, Some, None, refl, sym, ap, ap₂, ◌∙◌, arith}
use Rattle.std.specs.Prelude.{slice_get}
use Rattle.std.specs.List.{list_any, fold, sum_by}
use Rattle.std.proofs.lemmas.List.Sums.{sum_by_more}
use Rattle.std.proofs.lemmas.Option.{get_or_from_slice_get}
use Rattle.oz_language.specs.declared.kernel.Statement.{Statement}
use Rattle.oz_semantics.specs.Triggers.{is_needed_in, beginning, fired, has_needed, fired_for}
use Rattle.oz_semantics.specs.declared.configuration.Trigger.{Trigger}
use Rattle.oz_semantics.specs.declared.configuration.Layer.{Layer}
use Rattle.stability.proofs.PlaceLaws.{item_at}
use Rattle.space_core.specs.Firing.{marked, unmarked, firing, at_place}
use Rattle.by_need.specs.Rounds.{is_mark, fire_each, IsRound}
use Rattle.by_need.proofs.WaitLaws.{made_more}

-- Marks by a test

marked_by : (p : Trigger → Bool) (ts : List Trigger) → marked (map p ts) ts ≡ filter p ts
marked_by p [] = refl
marked_by p (t ∷ ts) = by (p t) (marked_by p ts)
  where
    by : (b : Bool) → marked (map p ts) ts ≡ filter p ts → (if b then t ∷ marked (map p ts) ts else marked (map p ts) ts) ≡ cond b (t ∷ filter p ts) (filter p ts)
    by true e = ap (λ xs. t ∷ xs) e
    by false e = e

unmarked_by : (p : Trigger → Bool) (ts : List Trigger) → unmarked (map p ts) ts ≡ filter (λ t. not (p t)) ts
unmarked_by p [] = refl
unmarked_by p (t ∷ ts) = by (p t) (unmarked_by p ts)
  where
    by : (b : Bool) → unmarked (map p ts) ts ≡ filter (λ t. not (p t)) ts
        → (if b then unmarked (map p ts) ts else t ∷ unmarked (map p ts) ts) ≡ cond (not b) (t ∷ filter (λ t. not (p t)) ts) (filter (λ t. not (p t)) ts)
    by true e = e
    by false e = ap (λ xs. t ∷ xs) e

any_mark : (p : Trigger → Bool) (ts : List Trigger) → list_any is_mark (map p ts) ≡ list_any p ts
any_mark p [] = refl
any_mark p (t ∷ ts) = ap (λ b. p t || b) (any_mark p ts)

module _ (statements : List Statement) (layers : List Layer) where
  abbrev pub marks_in : Layer → List Bool
  marks_in l = map (is_needed_in statements layers l) l.triggers

  fired_in : (l : Layer) → firing (marks_in l) l ≡ fired statements layers l
  fired_in l =
      ap₂ (λ (left begun : List Trigger). fold beginning (record l { triggers = left }) begun) (unmarked_by (is_needed_in statements layers l) l.triggers) (marked_by (is_needed_in statements layers l) l.triggers)

  pub fired_each : (ls : List Layer) → fire_each (map marks_in ls) ls ≡ map (fired statements layers) ls
  fired_each [] = refl
  fired_each (l ∷ ls) = ap₂ (λ (k : Layer) (ks : List Layer). k ∷ ks) (fired_in l) (fired_each ls)

  pub any_needed : (ls : List Layer) → list_any (list_any is_mark) (map marks_in ls) ≡ list_any (has_needed statements layers) ls
  any_needed [] = refl
  any_needed (l ∷ ls) = ap₂ (λ (a b : Bool). a || b) (any_mark (is_needed_in statements layers l) l.triggers) (any_needed ls)

-- Layer by layer

fire_suc : (n : ℕ) (marks : List (List Bool)) (ls : List Layer) (m : List Bool) → n < length marks → m ≡ get_or marks n m → at_place n (firing m) (fire_each (take n marks) ls) ≡ fire_each (take (suc n) marks) ls
fire_suc n [] ls m within e = absurd (omega (arith, within))
fire_suc zero (x ∷ xs) [] m within e = refl
fire_suc zero (x ∷ xs) (l ∷ ls) m within e = ap (λ (k : List Bool). firing k l ∷ ls) e
fire_suc (suc n) (x ∷ xs) [] m within e = refl
fire_suc (suc n) (x ∷ xs) (l ∷ ls) m within e = ap (λ ks. firing x l ∷ ks) (fire_suc n xs ls m (omega (arith, within)) e)

pub fire_more : (marks : List (List Bool)) (ls : List Layer) (n : ℕ) (m : List Bool) → n < length marks → m ≡ get_or marks n m → at_place n (firing m) (fire_each (take n marks) ls) ≡ fire_each (take (n + 1) marks) ls
fire_more marks ls n m within e =
    let more : n + 1 ≡ suc n = omega arith in
    fire_suc n marks ls m within e ∙ ap (λ i. fire_each (take i marks) ls) (sym more)

pub length_each : (marks : List (List Bool)) (ls : List Layer) → length (fire_each marks ls) ≡ length ls
length_each [] ls = refl
length_each (m ∷ ms) [] = refl
length_each (m ∷ ms) (l ∷ ls) = omega (arith, length_each ms ls)

-- Gathered, place by place
pub mapped_more : {A B : Type 0} (f : A → B) (xs : List A) (n : ℕ) → n < length xs → (old new : List B) (y : B) → old ≡ map f (take n xs) → new ≡ old ++ y ∷ []
    → ((x : A) → slice_get xs n ≡ Some x → y ≡ f x) → new ≡ map f (take (n + 1) xs)
mapped_more f xs n within old new y o a made =
    let item = item_at xs n within in made_more f xs n item.0 old new y within (sym (get_or_from_slice_get xs n item.0 item.0 item.1)) o a (made item.0 item.1)

pub counted_more : (f : Layer → ℕ) (xs : List Layer) (n : ℕ) → n < length xs → (old new y : ℕ) → old ≡ sum_by f (take n xs) → new ≡ old + y
    → ((x : Layer) → slice_get xs n ≡ Some x → y ≡ f x) → new ≡ sum_by f (take (n + 1) xs)
counted_more f xs n within old new y o a made =
    let item = item_at xs n within in
    let here = get_or_from_slice_get xs n item.0 item.0 item.1 in
    a ∙ ap₂ (λ b d. b + d) o (made item.0 item.1) ∙ ap (λ (x : Layer). sum_by f (take n xs) + f x) (sym here) ∙ sym (sum_by_more f xs n item.0 within)

-- So many rounds

pub no_round : (statements : List Statement) (n : ℕ) (layers : List Layer) → IsRound statements layers None → fired_for statements n layers ≡ layers
unfolding fired_for
no_round statements zero layers e = refl
no_round statements (suc n) layers e = ap (λ b. if b then fired_for statements n (map (fired statements layers) layers) else layers) e

one_round : (statements : List Statement) (m : ℕ) (layers after : List Layer) → IsRound statements layers (Some after) → fired_for statements (suc m) layers ≡ fired_for statements m after
unfolding fired_for
one_round statements m layers after h =
    ap (λ b. if b then fired_for statements m (map (fired statements layers) layers) else layers) h.0 ∙ ap (λ (ls : List Layer). fired_for statements m ls) (sym h.1)

pub round_more : (statements : List Statement) (n m : ℕ) (layers after : List Layer) → n ≡ suc m → IsRound statements layers (Some after) → fired_for statements n layers ≡ fired_for statements m after
round_more statements n m layers after e h = ap (λ k. fired_for statements k layers) e ∙ one_round statements m layers after h

pub no_more : (statements : List Statement) (n : ℕ) (layers : List Layer) → n ≡ 0 → fired_for statements n layers ≡ layers
unfolding fired_for
no_more statements n layers e = ap (λ k. fired_for statements k layers) e

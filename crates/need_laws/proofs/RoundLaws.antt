-- Rounds of triggers that are needed: how many there are, and which layers they leave as they are.
use Rattle.std.proofs.Common.{◌≡◌, inl, inr, ℕ, zero, suc, ◌+◌, ◌≤◌, Bool, true, false, not, ◌&&◌, ◌||◌, cond, if◌then◌else◌, List, [], ◌∷◌, refl, sym, ap, ap₂, ◌∙◌, arith, Some, length, filter, map}
use Rattle.std.specs.List.{list_any, find, fold, sum_by}
use Rattle.std.proofs.lemmas.Bool.{false≢true}
use Rattle.std.proofs.lemmas.List.Sums.{sum_by-cons}
use Rattle.std.proofs.lemmas.List.Filters.{length-filter_both}
use Rattle.oz_base.specs.Lists.{is_empty, list_eq}
use Rattle.oz_language.specs.declared.kernel.Statement.{Statement}
use Rattle.oz_semantics.specs.Store.{View}
use Rattle.oz_base.specs.declared.names.Ident.{Ident}
use Rattle.oz_semantics.specs.Configurations.{is_of, is_open, view}
use Rattle.oz_semantics.specs.Spaces.{states_of, waited_in}
use Rattle.oz_semantics.specs.Triggers.{is_needed, is_needed_in, beginning, fired, has_needed, fired_for}
use Rattle.oz_semantics.specs.declared.configuration.Trigger.{Trigger}
use Rattle.oz_semantics.specs.declared.configuration.Layer.{Layer}
use Rattle.oz_laws.proofs.SameLaws.{In}
use Rattle.view_laws.specs.Needs.{NoneNeeded}
use Rattle.view_laws.proofs.Members.{or_cases}
use Rattle.view_laws.proofs.ListLaws.{filter_all, filter_none}
use Rattle.need_laws.specs.Needs.{has_triggers, NoneThere, NoneLeft, UnneededStays}
use Rattle.need_laws.proofs.FireLaws.{fires_fired, all_round}
use Rattle.need_laws.proofs.AfterLaws.{fired_view}
use Rattle.need_laws.proofs.StateLaws.{layer_waits, live_fired}

-- Tests of which none passes

or_none : (a b : Bool) → (a || b) ≡ false → (a ≡ false) × (b ≡ false)
or_none true b e = absurd (false≢true (sym e))
or_none false b e = (refl, e)

pub none_in : {A : Type 0} (p : A → Bool) (xs : List A) → list_any p xs ≡ false → (x : A) → In x xs → p x ≡ false
none_in p [] e x h = elim h [ ]
none_in p (y ∷ ys) e x (inl k) = ap p (sym k) ∙ (or_none (p y) (list_any p ys) e).0
none_in p (y ∷ ys) e x (inr h) = none_in p ys (or_none (p y) (list_any p ys) e).1 x h

-- No triggers

none_of : (statements : List Statement) (layers ls : List Layer) → has_triggers ls ≡ false → list_any (has_needed statements layers) ls ≡ false
none_of statements layers [] e = refl
none_of statements layers (l ∷ ls) e =
    let r = or_none (not (is_empty l.triggers)) (has_triggers ls) e in ap₂ (λ (a b : Bool). a || b) (empty l.triggers r.0) (none_of statements layers ls r.1)
  where
    empty : (ts : List Trigger) → not (is_empty ts) ≡ false → list_any (is_needed_in statements layers l) ts ≡ false
    empty [] k = refl
    empty (t ∷ ts) k = absurd (false≢true (sym k))

pub none_there : NoneThere
none_there statements layers e = none_of statements layers layers e

-- How many there are

abbrev count : Layer → ℕ
count l = length l.triggers

fold_keeps : (ts : List Trigger) (l : Layer) → (fold beginning l ts).triggers ≡ l.triggers
fold_keeps [] l = refl
fold_keeps (t ∷ ts) l = fold_keeps ts (beginning l t)

filter_passes : {A : Type 0} (p : A → Bool) (xs : List A) → list_any p xs ≡ true → 1 ≤ length (filter p xs)
filter_passes p [] e = absurd (false≢true e)
filter_passes p (x ∷ xs) e = by (p x) e (filter_passes p xs)
  where
    by : (b : Bool) → (b || list_any p xs) ≡ true → (list_any p xs ≡ true → 1 ≤ length (filter p xs)) → 1 ≤ length (cond b (x ∷ filter p xs) (filter p xs))
    by true k rest = omega arith
    by false k rest = rest k

module _ (statements : List Statement) (layers : List Layer) where
  abbrev after : Layer → Layer
  after l = fired statements layers l

  left_and_needed : (l : Layer) → length (filter (is_needed_in statements layers l) l.triggers) + count (after l) ≡ count l
  left_and_needed l =
      ap (λ (ts : List Trigger). length (filter (is_needed_in statements layers l) l.triggers) + length ts)
      (fold_keeps (filter (is_needed_in statements layers l) l.triggers) (record l { triggers = filter (λ t. not (is_needed_in statements layers l t)) l.triggers }))
      ∙ length-filter_both (is_needed_in statements layers l) (λ t. not (is_needed_in statements layers l t)) (λ t. refl) l.triggers

  fewer_in : (l : Layer) → has_needed statements layers l ≡ true → count (after l) + 1 ≤ count l
  fewer_in l e = omega (arith, left_and_needed l, filter_passes (is_needed_in statements layers l) l.triggers e)

  no_more_in : (l : Layer) → count (after l) ≤ count l
  no_more_in l = omega (arith, left_and_needed l)

  no_more : (ls : List Layer) → sum_by count (map after ls) ≤ sum_by count ls
  no_more [] = omega arith
  no_more (l ∷ ls) = omega (arith, sum_by-cons count l ls, sum_by-cons count (after l) (map after ls), no_more_in l, no_more ls)

  fewer : (ls : List Layer) → list_any (has_needed statements layers) ls ≡ true → sum_by count (map after ls) + 1 ≤ sum_by count ls
  fewer [] e = absurd (false≢true e)
  fewer (l ∷ ls) e = elim (or_cases (has_needed statements layers l) (list_any (has_needed statements layers) ls) e) [
    | inl k ↦ omega (arith, sum_by-cons count l ls, sum_by-cons count (after l) (map after ls), fewer_in l k, no_more ls)
    | inr k ↦ omega (arith, sum_by-cons count l ls, sum_by-cons count (after l) (map after ls), no_more_in l, fewer ls k)
  ]

none_for : (statements : List Statement) (n : ℕ) (layers : List Layer) → sum_by count layers ≤ n → NoneNeeded statements (fired_for statements n layers)
unfolding fired_for
none_for statements zero layers h = by (list_any (has_needed statements layers) layers) refl
  where
    by : (b : Bool) → list_any (has_needed statements layers) layers ≡ b → NoneNeeded statements layers
    by true e = absurd (omega (arith, h, fewer statements layers layers e))
    by false e = e
none_for statements (suc n) layers h = by (list_any (has_needed statements layers) layers) refl (none_for statements n (map (fired statements layers) layers))
  where
    by : (b : Bool) → list_any (has_needed statements layers) layers ≡ b
        → (sum_by count (map (fired statements layers) layers) ≤ n → NoneNeeded statements (fired_for statements n (map (fired statements layers) layers)))
        → NoneNeeded statements (if b then fired_for statements n (map (fired statements layers) layers) else layers)
    by true e rest = rest (omega (arith, h, fewer statements layers layers e))
    by false e rest = e

pub none_left : NoneLeft
none_left statements layers = none_for statements (sum_by count layers) layers (omega arith)

-- A layer of which none is needed

-- it goes by what the layer's space sees, and what its threads wait for
abbrev needed_by : Layer → View → List Ident → Bool
needed_by l v waited = list_any (λ t. is_open l.status && is_needed v waited t) l.triggers

pub needed_same : (statements : List Statement) (layers after : List Layer) (l : Layer) → view after l.space ≡ view layers l.space
    → waited_in statements after (states_of statements after) l ≡ waited_in statements layers (states_of statements layers) l → has_needed statements after l ≡ has_needed statements layers l
needed_same statements layers after l seen waited = ap₂ (needed_by l) seen waited

unneeded_same : (statements : List Statement) (layers : List Layer) (l : Layer) → has_needed statements layers l ≡ false → fired statements layers l ≡ l
unneeded_same statements layers l e =
    ap₂ (λ (rest needed : List Trigger). fold beginning (record l { triggers = rest }) needed)
    (filter_all (λ t. not (is_needed_in statements layers l t)) l.triggers (λ t h. ap not (none_in (is_needed_in statements layers l) l.triggers e t h)))
    (filter_none (is_needed_in statements layers l) l.triggers (none_in (is_needed_in statements layers l) l.triggers e))

-- a layer of this name where each layer keeps its name
found_map : (change : Layer → Layer) → ((l : Layer) → (change l).space ≡ l.space) → (space : List ℕ) (ls : List Layer) (l : Layer) → find (is_of space) ls ≡ Some l → find (is_of space) (map change ls) ≡ Some (change l)
found_map change h space [] l e = cc
found_map change h space (k ∷ ls) l e =
    ap (λ (b : Bool). cond b (Some (change k)) (find (is_of space) (map change ls))) (ap (λ (s : List ℕ). list_eq s space) (h k)) ∙ by (is_of space k) e (found_map change h space ls l)
  where
    by : (b : Bool) → cond b (Some k) (find (is_of space) ls) ≡ Some l → (find (is_of space) ls ≡ Some l → find (is_of space) (map change ls) ≡ Some (change l))
        → cond b (Some (change k)) (find (is_of space) (map change ls)) ≡ Some (change l)
    by true g rest = let q : k ≡ l = cc in ap (λ (m : Layer). Some (change m)) q
    by false g rest = rest g

stays_for : (statements : List Statement) (n : ℕ) (layers : List Layer) (space : List ℕ) (l : Layer) → find (is_of space) layers ≡ Some l → has_needed statements layers l ≡ false
    → find (is_of space) (fired_for statements n layers) ≡ Some l
unfolding fired_for
stays_for statements zero layers space l at e = at
stays_for statements (suc n) layers space l at e =
    let after : List Layer = map (fired statements layers) layers in
    let seen : view after l.space ≡ view layers l.space = fired_view layers after l.space (all_round statements layers) in
    let waited : waited_in statements after (states_of statements after) l ≡ waited_in statements layers (states_of statements layers) l =
    layer_waits statements layers after (states_of statements layers) (states_of statements after) l seen (live_fired statements layers after (all_round statements layers)) in
    by (list_any (has_needed statements layers) layers)
    (stays_for statements n after space l
    (found_map (fired statements layers) (λ k. (fires_fired statements layers k).space) space layers l at ∙ ap (λ (m : Layer). Some m) (unneeded_same statements layers l e))
    (needed_same statements layers after l seen waited ∙ e))
  where
    by : (b : Bool) → find (is_of space) (fired_for statements n (map (fired statements layers) layers)) ≡ Some l
        → find (is_of space) (if b then fired_for statements n (map (fired statements layers) layers) else layers) ≡ Some l
    by true rest = rest
    by false rest = at

pub unneeded_stays : UnneededStays
unneeded_stays statements layers space l at e = stays_for statements (sum_by count layers) layers space l at e

-- Which propagators of a space are watched, from edit to edit.
use Rattle.std.proofs.Common.{◌≡◌, ◌⊎◌, inl, inr, ℕ, zero, suc, ◌+◌, ◌<◌, ◌≤◌, arith, length, true, false, Bool, List, [], ◌∷◌, ◌++◌, take, refl, sym, ap, subst, ◌∙◌, Option, Some, None, Contains, slice_get, slice_index_or, is_some}
use Rattle.std.specs.Prelude.{position}
use Rattle.std.specs.List.{list_any}
use Rattle.std.specs.Option.{option_map}
use Rattle.std.proofs.lemmas.List.{length-take, take_more, take-take, take_all}
use Rattle.std.proofs.lemmas.Option.{slice_get_within, slice_get-get_or, get_or_from_slice_get}
use Rattle.oz_base.specs.Lists.{holds_of}
use Rattle.oz_base.specs.declared.interval.Interval.{Interval}
use Rattle.oz_base.specs.declared.names.Ident.{Ident}
use Rattle.oz_base.specs.declared.relation.Relation.{Relation}
use Rattle.oz_semantics.specs.Store.{View}
use Rattle.oz_semantics.specs.declared.configuration.LastRun.TheVariants.{Never}
use Rattle.oz_semantics.specs.declared.configuration.Propagator.{Propagator}
use Rattle.oz_laws.specs.Touched.{Touches}
use Rattle.view_laws.proofs.Members.{decide, not_both, by_some}
use Rattle.term_store.specs.Telling.{IsTold}
use Rattle.watching.specs.Changes.{IsRun}
use Rattle.watching.specs.Watching.{Knows, Foretells}
use Rattle.watching.specs.declared.watch.Foresight.{Foresight}
use Rattle.watching.specs.declared.watch.Watch.{Watch}
use Rattle.watching.proofs.PlaceLaws.{there, nowhere, position_any}
use Rattle.space_core.specs.Constraints.{IsWatched, noting_last}
use Rattle.space_core.specs.Firing.{at_place}
use Rattle.space_core.proofs.Firsts.{position_here, position_later}

-- Lists by place

get_front : {A : Type 0} (xs : List A) (y : A) (n : ℕ) (x : A) → slice_get xs n ≡ Some x → slice_get (xs ++ y ∷ []) n ≡ Some x
get_front [] y n x e = absurd (cc)
get_front (z ∷ zs) y zero x e = e
get_front (z ∷ zs) y (suc n) x e = get_front zs y n x e

get_last : {A : Type 0} (xs : List A) (y : A) → slice_get (xs ++ y ∷ []) (length xs) ≡ Some y
get_last [] y = refl
get_last (z ∷ zs) y = get_last zs y

get_end : {A : Type 0} (xs : List A) (x : A) (n : ℕ) (y : A) → slice_get (xs ++ x ∷ []) n ≡ Some y → (slice_get xs n ≡ Some y) ⊎ ((n ≡ length xs) × (x ≡ y))
get_end [] x zero y e = let same : x ≡ y = cc in inr (refl, same)
get_end [] x (suc n) y e = cc
get_end (z ∷ zs) x zero y e = inl e
get_end (z ∷ zs) x (suc n) y e = elim (get_end zs x n y e) [
  | inl k ↦ inl k
  | inr k ↦ inr (ap (λ m. suc m) k.0, k.1)
]

-- The next propagator is watched

run_last : (ps : List Propagator) (i : ℕ) → length ps ≡ i → (p q : Propagator) → q.variables ≡ p.variables → IsRun i (ps ++ p ∷ []) (ps ++ q ∷ [])
run_last ps i long p q same n x at = elim (get_end ps q n x at) [
  | inl e ↦ (x, get_front ps p n x e, refl, inr refl)
  | inr e ↦ (
    p,
    subst (λ (m : ℕ). slice_get (ps ++ p ∷ []) m ≡ Some p) (sym e.0) (get_last ps p),
    ap (λ (r : Propagator). r.variables) (sym e.1) ∙ same,
    inl (e.0 ∙ long),
  )
]

module _ (store : View) (ps : List Propagator) (i : ℕ) (within : i < length ps) (p : Propagator) (read : p ≡ slice_index_or ps i p) (xs : List Ident) (same : xs ≡ p.variables) where
  long : length (take i ps) ≡ i
  long = length-take i ps ∙ omega (arith, within)

  abbrev posted : Propagator
  posted = record { relation = p.relation; variables = xs; last = Never }

  pub watched_more : (before between after : Watch)
      → ((qs : List Propagator) (r : Relation) → Knows store qs before → length qs ≡ i → Knows store (qs ++ record { relation = r; variables = xs; last = Never } ∷ []) between)
      → ((view : View) (qs rs : List Propagator) → Knows view qs between → IsRun i qs rs → Knows view rs after)
      → Knows store (take i ps) before → Knows store (take (i + 1) ps) after
  watched_more before between after post run knows =
      subst (λ (qs : List Propagator). Knows store qs after) (sym (take_more ps i p within ∙ ap (λ (q : Propagator). take i ps ++ q ∷ []) (sym read)))
      (run store (take i ps ++ posted ∷ []) (take i ps ++ p ∷ []) (post (take i ps) p.relation knows long) (run_last (take i ps) i long posted p (sym same)))

-- None is watched yet
pub none_watched : (store : View) (ps : List Propagator) (w : Watch) → Knows store [] w → IsWatched store ps w 0
none_watched store ps w k = record { within = omega arith; knows = k }

-- Fewer are left
pub fewer_watched : (store : View) (ps kept : List Propagator) (w : Watch) (n count m : ℕ) → IsWatched store ps w n → kept ≡ take count ps → m ≤ n → m ≤ count
    → ((view : View) (qs : List Propagator) → Knows view qs w → Knows view (take m qs) w) → IsWatched store kept w m
fewer_watched store ps kept w n count m i e le lt law = record {
  within = omega (arith, ap length e ∙ length-take count ps, i.within, le, lt);
  knows = subst (λ (qs : List Propagator). Knows store qs w)
      (take-take m n ps le ∙ sym (take-take m count ps lt) ∙ ap (take m) (sym e))
      (law store (take n ps) i.knows);
}

-- A run is noted

run_at : (n w : ℕ) (ds : List (List Interval)) (ps : List Propagator) → IsRun n (take w ps) (take w (at_place n (noting_last ds) ps))
run_at n zero ds ps i q at = absurd (cc)
run_at n (suc w) ds [] i q at = absurd (cc)
run_at zero (suc w) ds (p ∷ ps) zero q at = (p, refl, by at, inl refl)
  where
    by : Some (noting_last ds p) ≡ Some q → q.variables ≡ p.variables
    by e = let same : noting_last ds p ≡ q = cc in ap (λ (r : Propagator). r.variables) (sym same)
run_at zero (suc w) ds (p ∷ ps) (suc i) q at = (q, at, refl, inr refl)
run_at (suc n) (suc w) ds (p ∷ ps) zero q at = (p, refl, ap (λ (r : Propagator). r.variables) (sym (by at)), inr (sym (by at)))
  where
    by : Some p ≡ Some q → p ≡ q
    by e = cc
run_at (suc n) (suc w) ds (p ∷ ps) (suc i) q at =
    let rest = run_at n w ds ps i q at in
    (rest.0, rest.1, rest.2, elim rest.3 [ inl e ↦ inl (ap (λ m. suc m) e) | inr e ↦ inr e ])

pub at_length : {A : Type 0} (n : ℕ) (f : A → A) (xs : List A) → length (at_place n f xs) ≡ length xs
at_length n f [] = refl
at_length zero f (x ∷ xs) = refl
at_length (suc n) f (x ∷ xs) = ap (λ m. suc m) (at_length n f xs)

-- The first that is due, among those that are watched and those behind them

pub found_front : {A : Type 0} (test : A → Bool) (w : ℕ) (xs : List A) (i : ℕ) → Some i ≡ position test (take w xs) → Some i ≡ position test xs
found_front test zero xs i e = absurd (cc)
found_front test (suc w) [] i e = e
found_front test (suc w) (x ∷ xs) i e = by (test x) refl (λ n. found_front test w xs n)
  where
    mapped : (o p : Option ℕ) → ((n : ℕ) → Some n ≡ o → Some n ≡ p) → (i : ℕ) → Some i ≡ option_map (λ n. suc n) o → Some i ≡ option_map (λ n. suc n) p
    mapped None p f i e = absurd (cc)
    mapped (Some n) p f i e = e ∙ ap (option_map (λ n. suc n)) (f n refl)

    by : (b : Bool) → test x ≡ b → ((n : ℕ) → Some n ≡ position test (take w xs) → Some n ≡ position test xs) → Some i ≡ position test (x ∷ xs)
    by true f rest = e ∙ position_here test x (take w xs) f ∙ sym (position_here test x xs f)
    by false f rest =
        mapped (position test (take w xs)) (position test xs) rest i (e ∙ position_later test x (take w xs) f)
        ∙ sym (position_later test x xs f)

front_item : {A : Type 0} (w : ℕ) (xs : List A) (n : ℕ) (x : A) → n < w → slice_get xs n ≡ Some x → slice_get (take w xs) n ≡ Some x
front_item zero xs n x lt e = absurd (omega (arith, lt))
front_item (suc w) [] n x lt e = e
front_item (suc w) (y ∷ ys) zero x lt e = e
front_item (suc w) (y ∷ ys) (suc n) x lt e = front_item w ys n x (omega (arith, lt)) e

got : {A : Type 0} (xs : List A) (n : ℕ) (x : A) → slice_get xs n ≡ Some x → Contains xs x
got xs n x e = (n, slice_get_within xs n x e, get_or_from_slice_get xs n x x e)

-- none before a place passes
abbrev pub NoneBefore : {A : Type 0} → (A → Bool) → List A → ℕ → Type 0
NoneBefore {A} test xs i = (n : ℕ) (x : A) → n < i → slice_get xs n ≡ Some x → test x ≡ false

pub none_front : {A : Type 0} (test : A → Bool) (w : ℕ) (xs : List A) → position test (take w xs) ≡ None → NoneBefore test xs w
none_front test w xs e n x lt at = elim (decide (test x)) [
  | inl k ↦ absurd (not_both (list_any test (take w xs)) (by_some test (take w xs) x (got (take w xs) n x (front_item w xs n x lt at)) k) (sym (position_any test (take w xs)) ∙ ap is_some e))
  | inr k ↦ k
]

nat_cases : (n i : ℕ) → n ≤ i → (n < i) ⊎ (n ≡ i)
nat_cases zero zero h = inr refl
nat_cases zero (suc i) h = inl (omega arith)
nat_cases (suc n) zero h = absurd (omega (arith, h))
nat_cases (suc n) (suc i) h = elim (nat_cases n i (omega (arith, h))) [ inl k ↦ inl (omega (arith, k)) | inr k ↦ inr (ap (λ m. suc m) k) ]

module _ {A : Type 0} (test : A → Bool) (xs : List A) (i : ℕ) where
  pub none_yet : i < length xs → (x : A) → x ≡ slice_index_or xs i x → test x ≡ false → NoneBefore test xs i → NoneBefore test xs (i + 1)
  none_yet within x read e none n y lt at = elim (nat_cases n i (omega (arith, lt))) [
    | inl less ↦ none n y less at
    | inr here ↦ (let same : y ≡ x = sym (get_or_from_slice_get xs i y x (subst (λ m. slice_get xs m ≡ Some y) here at)) ∙ sym read in ap test same ∙ e)
  ]

  pub found_here : i < length xs → (x : A) → x ≡ slice_index_or xs i x → test x ≡ true → NoneBefore test xs i → Some i ≡ position test xs
  found_here within x read e none = sym (there test xs i (ap (holds_of test) (slice_get-get_or xs i x within ∙ ap (λ y. Some y) (sym read)) ∙ e) none)

  pub found_none : length xs ≤ i → NoneBefore test xs i → None ≡ position test xs
  found_none le none = sym (nowhere test xs (λ n y at. none n y (let w : n < length xs = slice_get_within xs n y at in omega (arith, w, le)) at))

-- What is watched of other propagators, which are as many

pub first_part : {A : Type 0} (w : ℕ) (xs ys : List A) → length ys ≡ length xs → w ≤ length xs → w ≡ length (take w ys)
first_part w xs ys e le = sym (length-take w ys ∙ omega (arith, e, le))

pub noted_watched : (store : View) (ps : List Propagator) (before between after : Watch) (w n : ℕ) (ds : List (List Interval)) → IsWatched store ps before w
    → ((view : View) (qs rs : List Propagator) → Knows view qs before → IsRun n qs rs → Knows view rs between)
    → (qs : List Propagator) → qs ≡ at_place n (noting_last ds) ps → (Knows store (take w qs) between → Knows store (take w qs) after) → IsWatched store qs after w
noted_watched store ps before between after w n ds i run qs e settle = record {
  within = omega (arith, ap length e ∙ at_length n (noting_last ds) ps, i.within);
  knows = settle (subst (λ (rs : List Propagator). Knows store (take w rs) between) (sym e) (run store (take w ps) (take w (at_place n (noting_last ds) ps)) i.knows (run_at n w ds ps)));
}

pub all_watched : (store : View) (ps : List Propagator) (w : Watch) (n : ℕ) → n ≡ length ps → Knows store ps w → IsWatched store ps w n
all_watched store ps w n e k = record {
  within = omega (arith, e);
  knows = subst (λ (qs : List Propagator). Knows store qs w) (sym (take_all n ps (omega (arith, e)))) k;
}

-- A tell

pub kept_watched : (store now : View) (ps : List Propagator) (before after : Watch) (n : ℕ) → IsWatched store ps before n → now ≡ store → ((qs : List Propagator) → Knows store qs before → Knows store qs after)
    → IsWatched now ps after n
kept_watched store now ps before after n i e keeps =
    subst (λ (v : View). IsWatched v ps after n) (sym e) (record { within = i.within; knows = keeps (take n ps) i.knows })

module _ (store told ts : View) (ps seen : List Propagator) (same : seen ≡ ps) (before foreseen after : Watch) (w n : ℕ) (i : IsWatched store ps before w) (foresight : Foresight)
    (foretells : (qs : List Propagator) → Knows store qs before → Foretells store ts qs foresight foreseen) (none noted slice : List Ident) (empty : none ≡ []) (sliced : slice ≡ noted)
    (tells : IsTold store ts told none noted true) where
  touched : Touches store ts slice
  touched = subst (Touches store ts) (sym (sliced ∙ tells.2.noted ∙ ap (λ (xs : List Ident). xs ++ tells.2.more) empty)) tells.2.touches

  pub told_watched : ((old : View) → Foretells old ts (take w seen) foresight foreseen → told ≡ old ++ ts → Touches old ts slice → Knows told seen after) → n ≡ length ps → IsWatched told ps after n
  told_watched follows e =
      all_watched told ps after n e
      (subst (λ (qs : List Propagator). Knows told qs after) same
      (follows store (subst (λ (qs : List Propagator). Foretells store ts (take w qs) foresight foreseen) (sym same) (foretells (take w ps) i.knows)) tells.0 touched))

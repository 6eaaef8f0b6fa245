-- Threads whose numbers ascend: where a search finds one, and what edits leave.
use Rattle.std.proofs.Common.{◌≡◌, ℕ, zero, suc, ◌+◌, ◌<◌, ◌≤◌, ◌≢◌, ◌==◌, Bool, true, false, not, cond, ◌||◌, List, [], ◌∷◌, ◌++◌, Option, Some, None, Result, Ok, Err, length, get_or, slice_set, if◌then◌else◌, drop, refl, sym, ap, subst, ◌∙◌, inl, inr, arith}
use Rattle.std.specs.Prelude.{position, nat_lt, filter, OnOk, OnErr}
use Rattle.std.specs.List.{list_all, find, remove}
use Rattle.std.specs.List.Sorted.{IsSearchInRange, IsBinarySearchResult, IsNonDecreasingBy}
use Rattle.std.specs.Option.{option_map}
use Rattle.std.specs.Result.{result_ok}
use Rattle.std.specs.Ordering.{nat_cmp, ordering_index}
use Rattle.std.proofs.lemmas.Cmp.{ranked}
use Rattle.std.proofs.lemmas.Bool.{cases_lt, false≢true}
use Rattle.std.proofs.lemmas.Bool.Decides.{nat_tests, Decides-eqb}
use Rattle.std.proofs.lemmas.List.{get_or_default, get_or_append_left, get_or-set_same, set-append_left}
use Rattle.std.proofs.lemmas.List.Folds.{list_all-append}
use Rattle.oz_base.specs.Lists.{is_empty}
use Rattle.oz_laws.proofs.SameLaws.{and-left, and-right}
use Rattle.view_laws.proofs.Members.{decide, and_both}
use Rattle.oz_semantics.specs.Configurations.{is_numbered, in_thread}
use Rattle.oz_semantics.specs.declared.configuration.Frame.{Frame}
use Rattle.oz_semantics.specs.declared.configuration.Thread.{Thread}
use Rattle.space_core.specs.Places.{IsAbsent, IsFirst}
use Rattle.space_core.specs.declared.ended.Ended.{Ended}
use Rattle.space_core.specs.declared.ended.Ended.TheVariants.{Nobody, AtMost, Several}
use Rattle.space_core.specs.Threads.{Running, Ascends, goes_on, may_end, with_ended, with_seen, is_noted, IsKept, with_stack, with_new, without_ended, IsPopped}
use Rattle.space_core.proofs.Firsts.{position_here, position_later}

-- each number is at least the bound
rises : (low high : ℕ) (ts : List Thread) → Ascends low high ts → (i : ℕ) (d : Thread) → i < length ts → low ≤ (get_or ts i d).number
rises low high [] a i d h = absurd (omega (arith, h))
rises low high (t ∷ ts) a zero d h = a.0
rises low high (t ∷ ts) a (suc i) d h = let r = rises (t.number + 1) high ts a.1 i d (omega (arith, h)) in omega (arith, a.0, r)

-- and less than those after it
ordered : (low high : ℕ) (ts : List Thread) → Ascends low high ts → (i j : ℕ) (d : Thread) → i < j → j < length ts → (get_or ts i d).number < (get_or ts j d).number
ordered low high [] a i j d l h = absurd (omega (arith, h))
ordered low high (t ∷ ts) a i zero d l h = absurd (omega (arith, l))
ordered low high (t ∷ ts) a zero (suc j) d l h = let r = rises (t.number + 1) high ts a.1 j d (omega (arith, h)) in omega (arith, r)
ordered low high (t ∷ ts) a (suc i) (suc j) d l h = ordered (t.number + 1) high ts a.1 i j d (omega (arith, l)) (omega (arith, h))

-- Where a search finds a thread

same_number : (a b : ℕ) → a ≡ b → (a == b) ≡ true
same_number a b e = (Decides-eqb a b).1 e

other_number : (a b : ℕ) → a ≢ b → (a == b) ≡ false
other_number a b f = elim (decide (a == b)) [ inl e ↦ absurd (f ((Decides-eqb a b).0 e)) | inr e ↦ e ]

position_at : (low high n : ℕ) (ts : List Thread) → Ascends low high ts → (i : ℕ) (d : Thread) → i < length ts → (get_or ts i d).number ≡ n → position (is_numbered n) ts ≡ Some i
position_at low high n [] a i d h e = absurd (omega (arith, h))
position_at low high n (t ∷ ts) a zero d h e = position_here (is_numbered n) t ts (same_number t.number n e)
position_at low high n (t ∷ ts) a (suc i) d h e =
    let r = rises (t.number + 1) high ts a.1 i d (omega (arith, h)) in
    position_later (is_numbered n) t ts (other_number t.number n (λ k. omega (arith, k, e, r)))
    ∙ ap (option_map (λ m. suc m)) (position_at (t.number + 1) high n ts a.1 i d (omega (arith, h)) e)

position_none : (n : ℕ) (ts : List Thread) → ((i : ℕ) (d : Thread) → i < length ts → (get_or ts i d).number ≢ n) → position (is_numbered n) ts ≡ None
position_none n [] f = refl
position_none n (t ∷ ts) f =
    position_later (is_numbered n) t ts (other_number t.number n (f 0 t (omega arith)))
    ∙ ap (option_map (λ m. suc m)) (position_none n ts (λ i d h. f (suc i) d (omega (arith, h))))

abbrev none : Thread
none = record { number = 0; frames = [] }

module _ (next : ℕ) (ts : List Thread) (a : Ascends 1 next ts) (n : ℕ) where
  numbers_rise : IsNonDecreasingBy (λ t. ordering_index (nat_cmp t.number n)) ts
  numbers_rise i j d le within =
      let up : (get_or ts i d).number ≤ (get_or ts j d).number =
      grind (arith, ordered 1 next ts a i j d, λ (same : i ≡ j). ap (λ k. (get_or ts k d).number) same) in
      grind (arith, nat_tests)

  -- what a search by halves finds is the first thread of the number
  pub searched : (r : Result ℕ ℕ) → IsSearchInRange r (length ts) → IsBinarySearchResult (λ t. nat_cmp t.number n) ts r → result_ok r ≡ position (is_numbered n) ts
  searched (Ok i) within equal = sym (position_at 1 next n ts a i none within (ranked _ n _ (sym (equal none))))
  searched (Err i) within parted = sym (position_none n ts (λ j d h e. elim (cases_lt j i) [
    | inl l ↦ (let less : (get_or ts j d).number < n = ranked _ n _ (sym ((parted numbers_rise).0 j d (omega arith) l)) in omega (arith, less, e))
    | inr g ↦ (let more : n < (get_or ts j d).number = ranked _ n _ (sym ((parted numbers_rise).1 j d g h)) in omega (arith, more, e))
  ]))

-- and so it is in the list that is kept
pub found_in_kept : (threads now : List Thread) (next : ℕ) (ended : Ended) (value : Running) → now ≡ threads → record { list = threads; next = next } ≡ value → IsKept threads next ended → (n : ℕ) (r : Result ℕ ℕ) → IsSearchInRange r (length now)
    → IsBinarySearchResult (λ (t : Thread). nat_cmp t.number n) now r → (at : Option ℕ) → at ≡ result_ok r → at ≡ position (is_numbered n) value.list
found_in_kept threads now next ended value seen viewed k n r within result at e =
    e ∙ searched next now (subst (Ascends 1 next) (sym seen) k.ascends) n r within result ∙ ap (position (is_numbered n)) (seen ∙ ap (λ (v : Running). v.list) viewed)

-- a look at a place
pub stands_at : (ts : List Thread) (n place : ℕ) (d : Thread) → true ≡ nat_lt place (length ts) → d ≡ get_or ts place d → (d.number == n) ≡ true → (place < length ts) × ((t : Thread) → (get_or ts place t).number ≡ n)
stands_at ts n place d within there same =
    let inside : place < length ts = grind (arith, nat_tests, within) in
    (inside, λ t. ap (λ (u : Thread). u.number) (get_or_default ts place t d inside ∙ sym there) ∙ (Decides-eqb d.number n).0 same)

-- and a thread that stands where it was guessed to stand
pub guessed_in_kept : (threads now : List Thread) (next : ℕ) (ended : Ended) (value : Running) → now ≡ threads → record { list = threads; next = next } ≡ value → IsKept threads next ended → (n place : ℕ)
    → place < length now → ((t : Thread) → (get_or now place t).number ≡ n) → Some place ≡ position (is_numbered n) value.list
guessed_in_kept threads now next ended value seen viewed k n place within there =
    sym (position_at 1 next n now (subst (Ascends 1 next) (sym seen) k.ascends) place none within (there none)) ∙ ap (position (is_numbered n)) (seen ∙ ap (λ (v : Running). v.list) viewed)

-- What edits leave

ascends_set : (low high : ℕ) (ts : List Thread) → Ascends low high ts → (place : ℕ) (t u : Thread) → t ≡ get_or ts place t → u.number ≡ t.number → Ascends low high (slice_set ts place u)
ascends_set low high [] a place t u e n = a
ascends_set low high (x ∷ ts) a zero t u e n =
    let same : u.number ≡ x.number = n ∙ ap (λ (k : Thread). k.number) e in
    (omega (arith, a.0, same), subst (λ m. Ascends (m + 1) high ts) (sym same) a.1)
ascends_set low high (x ∷ ts) a (suc place) t u e n = (a.0, ascends_set (x.number + 1) high ts a.1 place t u e n)

ascends_from : (low more high : ℕ) (ts : List Thread) → low ≤ more → Ascends more high ts → Ascends low high ts
ascends_from low more high [] l a = omega (arith, l, a)
ascends_from low more high (t ∷ ts) l a = (omega (arith, l, a.0), a.1)

ascends_filter : (p : Thread → Bool) (low high : ℕ) (ts : List Thread) → Ascends low high ts → Ascends low high (filter p ts)
ascends_filter p low high [] a = a
ascends_filter p low high (t ∷ ts) a = by (p t) (ascends_filter p (t.number + 1) high ts a.1)
  where
    by : (b : Bool) → Ascends (t.number + 1) high (filter p ts) → Ascends low high (cond b (t ∷ filter p ts) (filter p ts))
    by true r = (a.0, r)
    by false r = ascends_from low (t.number + 1) high (filter p ts) (omega (arith, a.0)) r

ascends_more : (low high : ℕ) (ts : List Thread) (t : Thread) → t.number ≡ high → Ascends low high ts → Ascends low (high + 1) (ts ++ t ∷ [])
ascends_more low high [] t e a = (omega (arith, e, a), omega (arith, e))
ascends_more low high (x ∷ ts) t e a = (a.0, ascends_more (x.number + 1) high ts t e a.1)

all_set : (p : Thread → Bool) (ts : List Thread) (place : ℕ) (u : Thread) → list_all p ts ≡ true → p u ≡ true → list_all p (slice_set ts place u) ≡ true
all_set p [] place u a h = refl
all_set p (t ∷ ts) zero u a h = and_both _ _ h (and-right (p t) _ a)
all_set p (t ∷ ts) (suc place) u a h = and_both _ _ (and-left _ _ a) (all_set p ts place u (and-right (p t) _ a) h)

all_at : (p : Thread → Bool) (ts : List Thread) (place : ℕ) (t : Thread) → list_all p ts ≡ true → place < length ts → t ≡ get_or ts place t → p t ≡ true
all_at p [] place t a h e = absurd (omega (arith, h))
all_at p (x ∷ ts) zero t a h e = ap p e ∙ and-left _ _ a
all_at p (x ∷ ts) (suc place) t a h e = all_at p ts place t (and-right (p x) _ a) (omega (arith, h)) e

all_filtered : (p : Thread → Bool) (ts : List Thread) → list_all p (filter p ts) ≡ true
all_filtered p [] = refl
all_filtered p (t ∷ ts) = by (p t) refl (all_filtered p ts)
  where
    by : (b : Bool) → p t ≡ b → list_all p (filter p ts) ≡ true → list_all p (cond b (t ∷ filter p ts) (filter p ts)) ≡ true
    by true e rest = and_both _ _ e rest
    by false e rest = rest

-- a list of which all items pass is what is left of it
filter_all : (p : Thread → Bool) (ts : List Thread) → list_all p ts ≡ true → filter p ts ≡ ts
filter_all p [] a = refl
filter_all p (t ∷ ts) a = rw (and-left (p t) _ a) (ap (λ us. t ∷ us) (filter_all p ts (and-right (p t) _ a)))

-- What is noted

or_right : (a b c : Bool) → (b ≡ true → c ≡ true) → (a || b) ≡ true → (a || c) ≡ true
or_right true b c f h = refl
or_right false b c f h = f h

or_both : (a b c d : Bool) → (a ≡ true → b ≡ true) → (c ≡ true → d ≡ true) → (a || c) ≡ true → (b || d) ≡ true
or_both true b c d f g h = ap (λ (x : Bool). x || d) (f refl)
or_both false true c d f g h = refl
or_both false false c d f g h = g h

-- what is not so for the second reason is so for the first
pub or_first : (a b : Bool) → b ≡ false → (a || b) ≡ true → a ≡ true
or_first true b e h = refl
or_first false b e h = sym e ∙ h

-- one more thread may have ended, and those of which that was noted before
noted_more : (n : ℕ) (e : Ended) (m : ℕ) → may_end e m ≡ true → may_end (with_ended n e) m ≡ true
noted_more n Nobody m h = absurd (false≢true h)
noted_more n (AtMost one) m h = by (one == n)
  where
    by : (b : Bool) → may_end (if b then AtMost one else Several) m ≡ true
    by true = h
    by false = refl
noted_more n Several m h = refl

noted_this : (n : ℕ) (e : Ended) → may_end (with_ended n e) n ≡ true
noted_this n Nobody = same_number n n refl
noted_this n (AtMost one) = by (one == n) refl
  where
    by : (b : Bool) → (one == n) ≡ b → may_end (if b then AtMost one else Several) n ≡ true
    by true e = same_number n one (sym ((Decides-eqb one n).0 e))
    by false e = refl
noted_this n Several = refl

seen_more : (u : Thread) (e : Ended) (m : ℕ) → may_end e m ≡ true → may_end (with_seen u e) m ≡ true
seen_more u e m h = by (is_empty u.frames)
  where
    by : (b : Bool) → may_end (if b then with_ended u.number e else e) m ≡ true
    by true = noted_more u.number e m h
    by false = h

seen_this : (u : Thread) (e : Ended) → is_noted (with_seen u e) u ≡ true
seen_this u e = by (is_empty u.frames)
  where
    by : (b : Bool) → (not b || may_end (if b then with_ended u.number e else e) u.number) ≡ true
    by true = noted_this u.number e
    by false = refl

all_more : (p q : Thread → Bool) → ((t : Thread) → p t ≡ true → q t ≡ true) → (ts : List Thread) → list_all p ts ≡ true → list_all q ts ≡ true
all_more p q f [] h = refl
all_more p q f (t ∷ ts) h = and_both _ _ (f t (and-left _ _ h)) (all_more p q f ts (and-right (p t) _ h))

seen_all : (u : Thread) (e : Ended) (ts : List Thread) → list_all (is_noted e) ts ≡ true → list_all (is_noted (with_seen u e)) ts ≡ true
seen_all u e ts h = all_more (is_noted e) (is_noted (with_seen u e)) (λ t. or_right (goes_on t) (may_end e t.number) (may_end (with_seen u e) t.number) (seen_more u e t.number)) ts h

more_goes_on : (frames stack : List Frame) → not (is_empty stack) ≡ true → not (is_empty (frames ++ stack)) ≡ true
more_goes_on [] stack e = e
more_goes_on (f ∷ fs) stack e = refl

noted_under : (ended : Ended) (t u : Thread) (frames : List Frame) → u.number ≡ t.number → u.frames ≡ frames ++ t.frames → is_noted ended t ≡ true → is_noted ended u ≡ true
noted_under ended t u frames n f h =
    or_both (goes_on t) (goes_on u) (may_end ended t.number) (may_end ended u.number) (λ g. ap (λ (fs : List Frame). not (is_empty fs)) f ∙ more_goes_on frames t.frames g) (λ g. ap (may_end ended) n ∙ g) h

-- the thread at a place was changed
module _ (ts : List Thread) (next : ℕ) (ended : Ended) (k : IsKept ts next ended) (value : Running) (viewed : record { list = ts; next = next } ≡ value) (place : ℕ) (inside : place < length value.list)
    (t u : Thread) (e : t ≡ get_or ts place t) (n : u.number ≡ t.number) where
  within : place < length ts
  within = subst (λ (v : Running). place < length v.list) (sym viewed) inside

  kept_at : (now : Ended) → list_all (is_noted now) ts ≡ true → is_noted now u ≡ true → IsKept (slice_set ts place u) next now
  kept_at now all h = record { ascends = ascends_set 1 next ts k.ascends place t u e n; noted = all_set (is_noted now) ts place u all h }

  -- it was looked at afterwards
  pub kept_seen : (seen : Thread) → seen ≡ get_or (slice_set ts place u) place seen → (now : Ended) → now ≡ with_seen seen ended → IsKept (slice_set ts place u) next now
  kept_seen seen r now s =
      let is : seen ≡ u = r ∙ get_or-set_same ts place u seen within in
      subst (IsKept (slice_set ts place u) next) (sym (s ∙ ap (λ (v : Thread). with_seen v ended) is)) (kept_at (with_seen u ended) (seen_all u ended ts k.noted) (seen_this u ended))

  kept_under : (frames : List Frame) → u.frames ≡ frames ++ t.frames → IsKept (slice_set ts place u) next ended
  kept_under frames f = kept_at ended k.noted (noted_under ended t u frames n f (all_at (is_noted ended) ts place t k.noted within e))

  -- more was put on its stack, or that was refused
  pub kept_pushed : {A E : Type 0} (r : Result A E) (frames : List Frame) → OnOk r (u.frames ≡ frames ++ t.frames) → OnErr r (u.frames ≡ t.frames) → IsKept (slice_set ts place u) next ended
  kept_pushed (Ok a) frames f g = kept_under frames f
  kept_pushed (Err b) frames f g = kept_under [] g

ascends_bound : (low high : ℕ) (ts : List Thread) → Ascends low high ts → low ≤ high
ascends_bound low high [] a = a
ascends_bound low high (t ∷ ts) a = let r = ascends_bound (t.number + 1) high ts a.1 in omega (arith, r, a.0)

-- where none is left
pub kept_none : (ts : List Thread) (next : ℕ) (ended : Ended) → IsKept ts next ended → IsKept [] next Nobody
kept_none ts next ended k = record { ascends = ascends_bound 1 next ts k.ascends; noted = refl }

-- where all have statements
kept_going : (ts : List Thread) (next : ℕ) (ended : Ended) → IsKept ts next ended → list_all goes_on ts ≡ true → IsKept ts next Nobody
kept_going ts next ended k h = record { ascends = k.ascends; noted = all_more goes_on (is_noted Nobody) (λ t g. ap (λ (b : Bool). b || false) g) ts h }

pub kept_filtered : (ts : List Thread) (next : ℕ) (ended : Ended) → IsKept ts next ended → IsKept (filter goes_on ts) next Nobody
kept_filtered ts next ended k =
    record { ascends = ascends_filter goes_on 1 next ts k.ascends; noted = all_more goes_on (is_noted Nobody) (λ t g. ap (λ (b : Bool). b || false) g) (filter goes_on ts) (all_filtered goes_on ts) }

-- a new thread stands behind the others
pub kept_more : (ts more : List Thread) (next after : ℕ) (ended : Ended) → IsKept ts next ended → (t : Thread) → t.number ≡ next → more ≡ ts ++ t ∷ [] → after ≡ next + 1 → (now : Ended) → now ≡ with_seen t ended → IsKept more after now
kept_more ts more next after ended k t e m n now s = record {
  ascends = subst (λ (us : List Thread). Ascends 1 after us) (sym m) (subst (λ a. Ascends 1 a (ts ++ t ∷ [])) (sym n) (ascends_more 1 next ts t e k.ascends));
  noted = subst (λ (w : Ended). list_all (is_noted w) more ≡ true) (sym s)
      (ap (list_all (is_noted (with_seen t ended))) m ∙ list_all-append (is_noted (with_seen t ended)) ts (t ∷ []) ∙ and_both _ _ (seen_all t ended ts k.noted) (and_both _ _ (seen_this t ended) refl));
}

-- Which threads are dropped

-- where all have statements, none is
nothing_dropped : (ts : List Thread) (next : ℕ) (value : Running) → list_all goes_on ts ≡ true → record { list = ts; next = next } ≡ value → value ≡ without_ended value
nothing_dropped ts next value h viewed =
    subst (λ (v : Running). v ≡ without_ended v) viewed (ap (λ (us : List Thread). record { list = us; next = next }) (sym (filter_all goes_on ts h)))

-- all without statements were dropped
pub dropped_ended : (ts after : List Thread) (next : ℕ) (value : Running) → record { list = ts; next = next } ≡ value → after ≡ filter goes_on ts → record { list = after; next = next } ≡ without_ended value
dropped_ended ts after next value viewed e = ap (λ (us : List Thread). record { list = us; next = next }) e ∙ ap without_ended viewed

-- where it is noted that no thread may have ended
pub none_ended : (ts : List Thread) (next : ℕ) (ended : Ended) (value : Running) → IsKept ts next ended → record { list = ts; next = next } ≡ value → ended ≡ Nobody → value ≡ without_ended value
none_ended ts next ended value k viewed e =
    nothing_dropped ts next value (all_more (is_noted Nobody) goes_on (λ t. or_first (goes_on t) false refl) ts (subst (λ (w : Ended). list_all (is_noted w) ts ≡ true) e k.noted)) viewed

absent_goes : (n : ℕ) (ts : List Thread) → find (is_numbered n) ts ≡ None → list_all (is_noted (AtMost n)) ts ≡ true → list_all goes_on ts ≡ true
absent_goes n [] a h = refl
absent_goes n (t ∷ ts) a h = by (t.number == n) refl a (absent_goes n ts)
  where
    by : (b : Bool) → (t.number == n) ≡ b → cond b (Some t) (find (is_numbered n) ts) ≡ None → (find (is_numbered n) ts ≡ None → list_all (is_noted (AtMost n)) ts ≡ true → list_all goes_on ts ≡ true) → list_all goes_on (t ∷ ts) ≡ true
    by true e f rest = cc
    by false e f rest = and_both _ _ (or_first (goes_on t) (t.number == n) e (and-left _ _ h)) (rest f (and-right (is_noted (AtMost n) t) _ h))

-- the one that may have ended is not there
module _ (ts : List Thread) (next : ℕ) (ended : Ended) (value : Running) (k : IsKept ts next ended) (viewed : record { list = ts; next = next } ≡ value) (n : ℕ) (e : ended ≡ AtMost n)
    (absent : IsAbsent (is_numbered n) value.list) where
  all_go : list_all goes_on ts ≡ true
  all_go = absent_goes n ts (subst (λ (v : Running). find (is_numbered n) v.list ≡ None) (sym viewed) absent.none) (subst (λ (w : Ended). list_all (is_noted w) ts ≡ true) e k.noted)

  pub kept_absent : IsKept ts next Nobody
  kept_absent = kept_going ts next ended k all_go

  pub absent_ended : value ≡ without_ended value
  absent_ended = nothing_dropped ts next value all_go viewed

found_numbered : (n : ℕ) (ts : List Thread) (x : Thread) → find (is_numbered n) ts ≡ Some x → (x.number == n) ≡ true
found_numbered n [] x e = cc
found_numbered n (t ∷ ts) x e = by (t.number == n) refl e (found_numbered n ts x)
  where
    by : (b : Bool) → (t.number == n) ≡ b → cond b (Some t) (find (is_numbered n) ts) ≡ Some x → (find (is_numbered n) ts ≡ Some x → (x.number == n) ≡ true) → (x.number == n) ≡ true
    by true k f rest = let same : t ≡ x = cc in subst (λ (u : Thread). (u.number == n) ≡ true) same k
    by false k f rest = rest f

-- it is there: then all others have statements
pub others_go : (ts : List Thread) (next : ℕ) (ended : Ended) → IsKept ts next ended → (value : Running) → record { list = ts; next = next } ≡ value → (n : ℕ) → ended ≡ AtMost n → (place : ℕ) (x : Thread) → IsFirst (is_numbered n) value.list place x
    → (i : ℕ) (t : Thread) → i ≢ place → i < length ts → goes_on (get_or ts i t) ≡ true
others_go ts next ended k value viewed n e place x first i t other within =
    or_first (goes_on (get_or ts i t)) ((get_or ts i t).number == n) (other_number (get_or ts i t).number n differs)
    (all_at (is_noted (AtMost n)) ts i (get_or ts i t) (subst (λ (w : Ended). list_all (is_noted w) ts ≡ true) e k.noted) within (get_or_default ts i t (get_or ts i t) within))
  where
    here : IsFirst (is_numbered n) ts place x
    here = subst (λ (v : Running). IsFirst (is_numbered n) v.list place x) (sym viewed) first

    numbered : (get_or ts place t).number ≡ n
    numbered = ap (λ (u : Thread). u.number) (get_or_default ts place t x here.within ∙ here.item) ∙ (Decides-eqb x.number n).0 (found_numbered n ts x here.found)

    differs : (get_or ts i t).number ≢ n
    differs same = elim (cases_lt i place) [
      | inl l ↦ (let o = ordered 1 next ts k.ascends i place t l here.within in omega (arith, o, numbered, same))
      | inr g ↦ (let o = ordered 1 next ts k.ascends place i t (omega (arith, g, other)) within in omega (arith, o, numbered, same))
    ]

all_read : (p : Thread → Bool) (ts : List Thread) → ((i : ℕ) (t : Thread) → i < length ts → p (get_or ts i t) ≡ true) → list_all p ts ≡ true
all_read p [] f = refl
all_read p (t ∷ ts) f = and_both _ _ (f 0 t (omega arith)) (all_read p ts (λ i d h. f (suc i) d (omega (arith, h))))

-- the thread at a place has no statements, and all others have some
pub dropped_at : (ts : List Thread) (place : ℕ) → place < length ts → (t : Thread) → t ≡ get_or ts place t → is_empty t.frames ≡ true → ((i : ℕ) (u : Thread) → i ≢ place → i < length ts → goes_on (get_or ts i u) ≡ true)
    → remove ts place ≡ filter goes_on ts
dropped_at [] place h t e s f = absurd (omega (arith, h))
dropped_at (x ∷ ts) zero h t e s f =
    let gone : goes_on x ≡ false = ap goes_on (sym e) ∙ ap not s in
    sym (ap (λ (b : Bool). cond b (x ∷ filter goes_on ts) (filter goes_on ts)) gone
    ∙ filter_all goes_on ts (all_read goes_on ts (λ i u k. f (suc i) u (λ z. omega (arith, z)) (omega (arith, k)))))
dropped_at (x ∷ ts) (suc place) h t e s f =
    let going : goes_on x ≡ true = f 0 x (λ z. omega (arith, z)) (omega arith) in
    let rest : remove ts place ≡ filter goes_on ts = dropped_at ts place (omega (arith, h)) t e s (λ i u n k. f (suc i) u (λ z. n (omega (arith, z))) (omega (arith, k))) in
    ap (λ (us : List Thread). x ∷ us) rest ∙ sym (ap (λ (b : Bool). cond b (x ∷ filter goes_on ts) (filter goes_on ts)) going)

-- it has statements too
pub none_dropped : (ts : List Thread) (place : ℕ) (t : Thread) → t ≡ get_or ts place t → is_empty t.frames ≡ false → ((i : ℕ) (u : Thread) → i ≢ place → i < length ts → goes_on (get_or ts i u) ≡ true)
    → ts ≡ filter goes_on ts
none_dropped ts place t e s f = sym (filter_all goes_on ts (all_read goes_on ts by))
  where
    by : (i : ℕ) (u : Thread) → i < length ts → goes_on (get_or ts i u) ≡ true
    by i u h = elim (decide (i == place)) [
      | inl k ↦ (let same : i ≡ place = (Decides-eqb i place).0 k in
          ap goes_on (get_or_default ts i u t h ∙ ap (λ (j : ℕ). get_or ts j t) same ∙ sym e) ∙ ap not s)
      | inr k ↦ f i u (λ same. false≢true (sym k ∙ (Decides-eqb i place).1 same)) h
    ]

-- What is changed at the place of a thread

module _ (n place : ℕ) (ts : List Thread) (x : Thread) (h : IsFirst (is_numbered n) ts place x) (t : Thread) (e : t ≡ get_or ts place t) where
  found_is : t ≡ x
  found_is = e ∙ get_or_default ts place t x h.within ∙ h.item

  pub changed_is : (change : List Frame → List Frame) (fs : List Frame) → fs ≡ change t.frames → slice_set ts place (record t { frames = fs }) ≡ in_thread n (λ t. record t { frames = change t.frames }) ts
  changed_is change fs f =
      ap (λ (gs : List Frame). slice_set ts place (record t { frames = gs })) f
      ∙ ap (λ (u : Thread). slice_set ts place (record u { frames = change u.frames })) found_is
      ∙ sym (h.edited (λ t. record t { frames = change t.frames }))

-- a new thread was put behind the others, and then the statement on top of a stack was taken off
pub started_is : (n place : ℕ) (old more new : Running) (frames : List Frame) (frame : Option Frame) (x : Thread) → IsFirst (is_numbered n) old.list place x → more ≡ with_new frames old → IsPopped place more new frame
    → new ≡ with_new frames (with_stack n (λ stack. drop 1 stack) old)
started_is n place old more new frames frame x h m p =
    let added : Thread = record { number = old.next; frames = frames } in
    let q : IsPopped place (with_new frames old) new frame = subst (λ (r : Running). IsPopped place r new frame) m p in
    let read : q.thread ≡ get_or old.list place q.thread = q.read ∙ get_or_append_left old.list (added ∷ []) q.thread place h.within in
    q.left
    ∙ ap (λ (ts : List Thread). record (with_new frames old) { list = ts })
    (set-append_left old.list (added ∷ []) place (record q.thread { frames = drop 1 q.thread.frames }) h.within
    ∙ ap (λ (ts : List Thread). ts ++ added ∷ []) (changed_is n place old.list x h q.thread read (λ stack. drop 1 stack) (drop 1 q.thread.frames) refl))

-- Edits that leave the threads of a layer in the order of their numbers.
use Rattle.std.proofs.Common.{◌≡◌, inl, inr, ℕ, ◌<◌, ◌≤◌, Bool, true, false, not, cond, List, [], ◌∷◌, ◌++◌, refl, sym, ap, subst, arith, Contains, Option, Some, None, filter, map, is_some}
use Rattle.std.proofs.lemmas.List.{map-append}
use Rattle.oz_base.specs.Lists.{edit_first, is_empty}
use Rattle.oz_semantics.specs.Configurations.{is_numbered, with_frames, spawning}
use Rattle.oz_semantics.specs.Sights.{Sight, Offer}
use Rattle.oz_semantics.specs.Edits.{choosing, thread_offer, committing}
use Rattle.oz_semantics.specs.declared.configuration.Frame.{Frame}
use Rattle.oz_semantics.specs.declared.configuration.Thread.{Thread}
use Rattle.oz_semantics.specs.declared.configuration.Layer.{Layer}
use Rattle.oz_laws.proofs.SameLaws.{In, In-from_contains, contains-from_In}
use Rattle.view_laws.specs.Steps.{IsRising, IsNumbered}
use Rattle.view_laws.proofs.Members.{In-cases}
use Rattle.view_laws.proofs.ListLaws.{filter_in, map_in, in_map}
use Rattle.turn_laws.specs.Orderly.{KeepsNumbered, EditsNumbered}

abbrev number_in : Thread → ℕ
number_in t = t.number

abbrev numbers : List Thread → List ℕ
numbers ts = map number_in ts

-- Rising numbers

rising_one_more : (ms : List ℕ) (n : ℕ) → IsRising ms → ((m : ℕ) → In m ms → m < n) → IsRising (ms ++ n ∷ [])
rising_one_more [] n h less = (λ m c. elim (In-from_contains [] m c) [ ], tt)
rising_one_more (m ∷ ms) n h less = (
  λ k c. elim (In-cases k ms (n ∷ []) (In-from_contains (ms ++ n ∷ []) k c)) [
    | inl i ↦ h.0 k (contains-from_In ms k i)
    | inr i ↦ elim i [ inl e ↦ subst (λ j. m < j) e (less m (inl refl)) | inr j ↦ elim j [ ] ]
  ],
  rising_one_more ms n h.1 (λ a i. less a (inr i)),
)

rising_filter : (p : Thread → Bool) (ts : List Thread) → IsRising (numbers ts) → IsRising (numbers (filter p ts))
rising_filter p [] h = tt
rising_filter p (t ∷ ts) h = by (p t) (rising_filter p ts h.1)
  where
    less : (n : ℕ) → Contains (numbers (filter p ts)) n → t.number < n
    less n c =
        let r = in_map number_in (filter p ts) n (In-from_contains (numbers (filter p ts)) n c) in
        h.0 n (contains-from_In (numbers ts) n (subst (λ k. In k (numbers ts)) r.2 (map_in number_in ts r.0 (filter_in p ts r.0 r.1).0)))

    by : (b : Bool) → IsRising (numbers (filter p ts)) → IsRising (numbers (cond b (t ∷ filter p ts) (filter p ts)))
    by true k = (less, k)
    by false k = k

numbers_edited : (test : Thread → Bool) (change : Thread → Thread) → ((t : Thread) → (change t).number ≡ t.number) → (ts : List Thread) → numbers (edit_first test change ts) ≡ numbers ts
numbers_edited test change h [] = refl
numbers_edited test change h (t ∷ ts) = by (test t) (numbers_edited test change h ts)
  where
    by : (b : Bool) → numbers (edit_first test change ts) ≡ numbers ts → numbers (cond b (change t ∷ ts) (t ∷ edit_first test change ts)) ≡ t.number ∷ numbers ts
    by true rest = ap (λ n. n ∷ numbers ts) (h t)
    by false rest = ap (λ ns. t.number ∷ ns) rest

-- Layers

-- a number that a layer gave out
record IsCounted (l : Layer) (n : ℕ) : Type 0 where
  from : 1 ≤ n
  below : n < l.next.thread

given_number : (l : Layer) → IsNumbered l → (n : ℕ) → In n (numbers l.threads) → IsCounted l n
given_number l h n i =
    let r = in_map number_in l.threads n i in
    let there = contains-from_In l.threads r.0 r.1 in
    subst (IsCounted l) r.2 (record { from = h.counted r.0 there; below = h.given r.0 there })

by_numbers : (l : Layer) → 1 ≤ l.next.thread → IsRising (numbers l.threads) → ((n : ℕ) → In n (numbers l.threads) → IsCounted l n) → IsNumbered l
by_numbers l begins rising given = record {
  begins = begins;
  counted = λ t c. (given t.number (map_in number_in l.threads t (In-from_contains l.threads t c))).from;
  rising = rising;
  given = λ t c. (given t.number (map_in number_in l.threads t (In-from_contains l.threads t c))).below;
}

-- another list of threads of the same numbers
same_numbers : (l : Layer) (ts : List Thread) → numbers ts ≡ numbers l.threads → IsNumbered l → IsNumbered (record l { threads = ts })
same_numbers l ts e h =
    by_numbers (record l { threads = ts }) h.begins (subst IsRising (sym e) h.rising)
    (λ n i. let k = given_number l h n (subst (In n) e i) in record { from = k.from; below = k.below })

-- no threads
pub none_numbered : (l : Layer) → l.threads ≡ [] → 1 ≤ l.next.thread → IsNumbered l
none_numbered l e begins = by_numbers l begins (subst (λ ts. IsRising (numbers ts)) (sym e) tt) (λ n i. elim (subst (λ ts. In n (numbers ts)) e i) [ ])

frames_numbered : (number : ℕ) (change : List Frame → List Frame) → KeepsNumbered (with_frames number change)
frames_numbered number change l h =
    same_numbers l (edit_first (is_numbered number) (λ (t : Thread). record t { frames = change t.frames }) l.threads)
    (numbers_edited (is_numbered number) (λ (t : Thread). record t { frames = change t.frames }) (λ t. refl) l.threads) h

terminated_numbered : (l : Layer) → IsNumbered l → IsNumbered (record l { threads = filter (λ (t : Thread). not (is_empty t.frames)) l.threads })
terminated_numbered l h = record {
  begins = h.begins;
  counted = λ t c.
      h.counted t
      (contains-from_In l.threads t
      (filter_in (λ (u : Thread). not (is_empty u.frames)) l.threads t (In-from_contains (filter (λ (u : Thread). not (is_empty u.frames)) l.threads) t c)).0);
  rising = rising_filter (λ (t : Thread). not (is_empty t.frames)) l.threads h.rising;
  given = λ t c.
      h.given t
      (contains-from_In l.threads t
      (filter_in (λ (u : Thread). not (is_empty u.frames)) l.threads t (In-from_contains (filter (λ (u : Thread). not (is_empty u.frames)) l.threads) t c)).0);
}

pub spawned_numbered : (fs : List Frame) → KeepsNumbered (spawning fs)
spawned_numbered fs l h =
    let new : Thread = record { number = l.next.thread; frames = fs } in
    let all : numbers (l.threads ++ new ∷ []) ≡ numbers l.threads ++ l.next.thread ∷ [] = map-append number_in l.threads (new ∷ []) in
    let begins = h.begins in
    by_numbers (spawning fs l) (omega (arith, begins)) (subst IsRising (sym all) (rising_one_more (numbers l.threads) l.next.thread h.rising (λ n i. (given_number l h n i).below)))
    (λ n i. elim (In-cases n (numbers l.threads) (l.next.thread ∷ []) (subst (In n) all i)) [
      | inl k ↦ (let c = given_number l h n k in record { from = c.from; below = omega (arith, c.below) })
      | inr k ↦ elim k [ inl e ↦ record { from = omega (arith, begins, e); below = omega (arith, e) } | inr j ↦ elim j [ ] ]
    ])

chosen_number : (i : ℕ) (t : Thread) (o : Option Offer) → (choosing i t o).number ≡ t.number
chosen_number i t None = refl
chosen_number i t (Some offer) = refl

choice_numbered : (s : Sight) (i : ℕ) → KeepsNumbered (committing s i)
choice_numbered s i l h =
    let told = same_numbers l (edit_first (λ t. is_some (thread_offer s t)) (λ t. choosing i t (thread_offer s t)) l.threads)
    (numbers_edited (λ t. is_some (thread_offer s t)) (λ t. choosing i t (thread_offer s t)) (λ t. chosen_number i t (thread_offer s t)) l.threads) h in
    record { begins = told.begins; counted = told.counted; rising = told.rising; given = told.given }

pub edits_numbered : EditsNumbered
edits_numbered = record {
  frames = frames_numbered;
  terminated = terminated_numbered;
  tells = λ ts l h. record { begins = h.begins; counted = h.counted; rising = h.rising; given = h.given };
  variables = λ n l h. record { begins = h.begins; counted = h.counted; rising = h.rising; given = h.given };
  procedure = λ l h. record { begins = h.begins; counted = h.counted; rising = h.rising; given = h.given };
  name = λ l h. record { begins = h.begins; counted = h.counted; rising = h.rising; given = h.given };
  child = λ l h. record { begins = h.begins; counted = h.counted; rising = h.rising; given = h.given };
  threads = spawned_numbered;
  cell = λ content l h. record { begins = h.begins; counted = h.counted; rising = h.rising; given = h.given };
  content = λ number content l h. record { begins = h.begins; counted = h.counted; rising = h.rising; given = h.given };
  port = λ end l h. record { begins = h.begins; counted = h.counted; rising = h.rising; given = h.given };
  end = λ number end l h. record { begins = h.begins; counted = h.counted; rising = h.rising; given = h.given };
  trigger = λ procedure variable l h. record { begins = h.begins; counted = h.counted; rising = h.rising; given = h.given };
  propagator = λ r xs l h. record { begins = h.begins; counted = h.counted; rising = h.rising; given = h.given };
  run = λ v p ts l h. record { begins = h.begins; counted = h.counted; rising = h.rising; given = h.given };
  choice = choice_numbered;
  failure = λ l h. none_numbered _ refl h.begins;
  exception = λ x l h. none_numbered _ refl h.begins;
}

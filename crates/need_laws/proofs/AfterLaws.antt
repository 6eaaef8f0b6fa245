-- What stays where triggers give way to their threads.
use Rattle.std.proofs.Common.{◌≡◌, ◌⊎◌, inl, inr, ℕ, ◌+◌, ◌<◌, ◌≤◌, Bool, true, false, not, ◌&&◌, cond, if◌then◌else◌, List, [], ◌∷◌, ◌++◌, refl, sym, ap, ap₂, subst, ◌∙◌, arith, Some, is_some, length, map}
use Rattle.std.specs.List.{find}
use Rattle.std.proofs.lemmas.List.{map-append}
use Rattle.oz_base.specs.Lists.{list_eq}
use Rattle.oz_semantics.specs.Names.{is_below, is_top}
use Rattle.oz_semantics.specs.Store.{View, is_consistent}
use Rattle.oz_semantics.specs.Configurations.{is_of, is_numbered, view}
use Rattle.oz_semantics.specs.Settling.{may_fail}
use Rattle.oz_semantics.specs.declared.value.Tell.{Tell}
use Rattle.oz_semantics.specs.declared.configuration.Frame.{Frame}
use Rattle.oz_semantics.specs.declared.configuration.Thread.{Thread}
use Rattle.oz_semantics.specs.declared.configuration.Status.{Status}
use Rattle.oz_semantics.specs.declared.configuration.Next.{Next}
use Rattle.oz_semantics.specs.declared.configuration.Layer.{Layer}
use Rattle.oz_laws.proofs.SameLaws.{In, In-from_contains, contains-from_In}
use Rattle.view_laws.specs.Trees.{is_ascending, names_of, IsGivenOut}
use Rattle.view_laws.specs.Steps.{IsRising, IsNumbered}
use Rattle.view_laws.proofs.Members.{In-cases}
use Rattle.view_laws.proofs.ListLaws.{map_in, in_map}
use Rattle.view_laws.proofs.TreeLaws.{given_in}
use Rattle.view_laws.proofs.NumberLaws.{rising_append}
use Rattle.need_laws.specs.Needs.{begun_from, Fires, AllFire, FiredView, FiredTree, FiredThere, FiredNumbered, FiredSound, FiredStack}
use Rattle.need_laws.proofs.FireLaws.{fired_of, fired_to}

-- What spaces see

pub fired_view : FiredView
fired_view [] [] space f = refl
fired_view (l ∷ ls) (m ∷ ms) space f =
    ap₂ (λ (ts us : List Tell). ts ++ us) (ap₂ (λ (s : List ℕ) (ts : List Tell). if is_below s space then ts else []) f.0.space f.0.tells) (fired_view ls ms space f.1)
fired_view [] (m ∷ ms) space f = elim f [ ]
fired_view (l ∷ ls) [] space f = elim f [ ]

-- Trees

fired_names : (ls ms : List Layer) → AllFire ls ms → names_of ms ≡ names_of ls
fired_names [] [] f = refl
fired_names (l ∷ ls) (m ∷ ms) f = ap₂ (λ (s : List ℕ) (ss : List (List ℕ)). s ∷ ss) f.0.space (fired_names ls ms f.1)
fired_names [] (m ∷ ms) f = elim f [ ]
fired_names (l ∷ ls) [] f = elim f [ ]

pub fired_child : (l m : Layer) → Fires l m → m.next.child ≡ l.next.child
fired_child l m f = ap (λ (n : Next). n.child) f.next

pub fired_tree : FiredTree
fired_tree layers after f tree = record {
  ordered = ap is_ascending (fired_names layers after f) ∙ tree.ordered;
  begins = λ m c. let r = fired_of layers after f m (In-from_contains after m c) in still_begins r.0 m r.2 (tree.begins r.0 (contains-from_In layers r.0 r.1));
  given = λ m c top.
      let r = fired_of layers after f m (In-from_contains after m c) in
      let same : r.0.space ≡ m.space = sym r.2.space in
      given_in layers after m.space (λ p h. let q = fired_to layers after f p h in (q.0, q.1, q.2.space, kept p q.0 q.2))
      (subst (IsGivenOut layers) same (tree.given r.0 (contains-from_In layers r.0 r.1) (ap is_top same ∙ top)));
}
  where
    kept : (p q : Layer) → Fires p q → p.next.child ≤ q.next.child
    kept p q g = omega (arith, fired_child p q g)

    still_begins : (p q : Layer) → Fires p q → 1 ≤ p.next.child → 1 ≤ q.next.child
    still_begins p q g h = omega (arith, fired_child p q g, h)

-- Looking up

-- a layer of this name, and what it became
pub fired_at : (layers after : List Layer) (space : List ℕ) (l : Layer) → AllFire layers after → find (is_of space) layers ≡ Some l → (m : Layer) × (find (is_of space) after ≡ Some m) × Fires l m
fired_at [] after space l f e = cc
fired_at (k ∷ ls) [] space l f e = elim f [ ]
fired_at (k ∷ ls) (m ∷ ms) space l f e = by (is_of space k) refl e (fired_at ls ms space l f.1)
  where
    same : is_of space m ≡ is_of space k
    same = ap (λ (s : List ℕ). list_eq s space) f.0.space

    by : (b : Bool) → is_of space k ≡ b → cond b (Some k) (find (is_of space) ls) ≡ Some l
        → (find (is_of space) ls ≡ Some l → (n : Layer) × (find (is_of space) ms ≡ Some n) × Fires l n)
        → (n : Layer) × (find (is_of space) (m ∷ ms) ≡ Some n) × Fires l n
    by true t g rest = (m, ap (λ (b : Bool). cond b (Some m) (find (is_of space) ms)) (same ∙ t), subst (λ (n : Layer). Fires n m) (let q : k ≡ l = cc in q) f.0)
    by false t g rest = let r = rest g in (r.0, ap (λ (b : Bool). cond b (Some m) (find (is_of space) ms)) (same ∙ t) ∙ r.1, r.2)

pub fired_there : FiredThere
fired_there [] [] space f = refl
fired_there (l ∷ ls) (m ∷ ms) space f =
    ap (λ (b : Bool). is_some (cond b (Some m) (find (is_of space) ms))) (ap (λ (s : List ℕ). list_eq s space) f.0.space) ∙ by (is_of space l) (fired_there ls ms space f.1)
  where
    by : (b : Bool) → is_some (find (is_of space) ms) ≡ is_some (find (is_of space) ls) → is_some (cond b (Some m) (find (is_of space) ms)) ≡ is_some (cond b (Some l) (find (is_of space) ls))
    by true e = refl
    by false e = e
fired_there [] (m ∷ ms) space f = elim f [ ]
fired_there (l ∷ ls) [] space f = elim f [ ]

-- Threads

abbrev number_in : Thread → ℕ
number_in t = t.number

record BegunAt (n : ℕ) (frames : List Frame) (m : ℕ) : Type 0 where
  from : n ≤ m
  below : m < n + length frames

begun_at : (n : ℕ) (frames : List Frame) (m : ℕ) → In m (map number_in (begun_from n frames)) → BegunAt n frames m
begun_at n [] m h = elim h [ ]
begun_at n (x ∷ xs) m (inl e) = record { from = omega (arith, e); below = omega (arith, e) }
begun_at n (x ∷ xs) m (inr h) = let r = begun_at (n + 1) xs m h in record { from = omega (arith, r.from); below = omega (arith, r.below) }

begun_rising : (n : ℕ) (frames : List Frame) → IsRising (map number_in (begun_from n frames))
begun_rising n [] = tt
begun_rising n (x ∷ xs) = (
  λ m c. let r = begun_at (n + 1) xs m (In-from_contains (map number_in (begun_from (n + 1) xs)) m c) in omega (arith, r.from),
  begun_rising (n + 1) xs,
)

module _ (l m : Layer) (f : Fires l m) (numbered : IsNumbered l) where
  abbrev news : List Thread
  news = begun_from l.next.thread f.begun

  all_numbers : map number_in m.threads ≡ map number_in l.threads ++ map number_in news
  all_numbers = ap (map number_in) f.threads ∙ map-append number_in l.threads news

  old_below : (n : ℕ) → In n (map number_in l.threads) → n < l.next.thread
  old_below n h = let r = in_map number_in l.threads n h in subst (λ k. k < l.next.thread) r.2 (numbered.given r.0 (contains-from_In l.threads r.0 r.1))

  numbers_rise : IsRising (map number_in m.threads)
  numbers_rise =
      subst IsRising (sym all_numbers)
      (rising_append (map number_in l.threads) (map number_in news) numbered.rising (begun_rising l.next.thread f.begun)
      (λ a b i j. let p = old_below a i in let q = begun_at l.next.thread f.begun b j in omega (arith, p, q.from)))

  next_after : m.next.thread ≡ l.next.thread + length f.begun
  next_after = ap (λ (n : Next). n.thread) f.next

  in_one : (n : ℕ) → In n (map number_in l.threads) ⊎ In n (map number_in news) → n < m.next.thread
  in_one n (inl h) = let p = old_below n h in omega (arith, p, next_after)
  in_one n (inr h) = let q = begun_at l.next.thread f.begun n h in omega (arith, q.below, next_after)

  -- the numbers that were counted before, or come behind them
  counted_one : (n : ℕ) → In n (map number_in l.threads) ⊎ In n (map number_in news) → 1 ≤ n
  counted_one n (inl h) = let r = in_map number_in l.threads n h in subst (λ k. 1 ≤ k) r.2 (numbered.counted r.0 (contains-from_In l.threads r.0 r.1))
  counted_one n (inr h) = let q = begun_at l.next.thread f.begun n h in omega (arith, q.from, numbered.begins)

  numbers_after : IsNumbered m
  numbers_after = record {
    begins = omega (arith, next_after, numbered.begins);
    counted = λ t c. counted_one t.number (In-cases t.number (map number_in l.threads) (map number_in news) (subst (In t.number) all_numbers (map_in number_in m.threads t (In-from_contains m.threads t c))));
    rising = numbers_rise;
    given = λ t c. in_one t.number (In-cases t.number (map number_in l.threads) (map number_in news) (subst (In t.number) all_numbers (map_in number_in m.threads t (In-from_contains m.threads t c))));
  }

pub fired_numbered : FiredNumbered
fired_numbered layers after f numbered m c =
    let r = fired_of layers after f m (In-from_contains after m c) in numbers_after r.0 m r.2 (numbered r.0 (contains-from_In layers r.0 r.1))

-- Soundness

pub fired_sound : FiredSound
fired_sound layers after f sound m c =
    let r = fired_of layers after f m (In-from_contains after m c) in
    ap (λ (v : View). may_fail m.status && not (is_consistent v)) (fired_view layers after m.space f)
    ∙ ap₂ (λ (s : Status) (p : List ℕ). may_fail s && not (is_consistent (view layers p))) r.2.status r.2.space
    ∙ sound r.0 (contains-from_In layers r.0 r.1)

-- Stacks

-- what is found in front
found_before : {A : Type 0} (test : A → Bool) (xs ys : List A) (x : A) → find test xs ≡ Some x → find test (xs ++ ys) ≡ Some x
found_before test [] ys x e = cc
found_before {A = A} test (y ∷ xs) ys x e = by (test y) e (found_before test xs ys x)
  where
    by : (b : Bool) → cond b (Some y) (find test xs) ≡ Some x → (find test xs ≡ Some x → find test (xs ++ ys) ≡ Some x) → cond b (Some y) (find test (xs ++ ys)) ≡ Some x
    by true k rest = k
    by false k rest = rest k

pub fired_stack : FiredStack
fired_stack layers after id l t f at stands =
    let r = fired_at layers after id.space l f at in
    (r.0, r.1, r.2, ap (find (is_numbered id.number)) r.2.threads ∙ found_before (is_numbered id.number) l.threads (begun_from l.next.thread r.2.begun) t stands)

-- Lists of threads by rising numbers.
use Rattle.std.proofs.Common.{◌≡◌, ◌⊎◌, inl, inr, ℕ, ◌<◌, Bool, true, false, not, cond, if◌then◌else◌, List, [], ◌∷◌, refl, sym, ap, ap₂, subst, ◌∙◌, arith, Contains, filter, map}
use Rattle.std.proofs.lemmas.Bool.{false≢true}
use Rattle.oz_base.specs.declared.names.Ident.{Ident}
use Rattle.oz_semantics.specs.Names.{named}
use Rattle.oz_semantics.specs.Configurations.{is_open}
use Rattle.oz_semantics.specs.Sights.{can_step}
use Rattle.oz_semantics.specs.Spaces.{thread_ready}
use Rattle.oz_semantics.specs.Settling.{is_among, runnable_in}
use Rattle.oz_semantics.specs.declared.configuration.Thread.{Thread}
use Rattle.oz_laws.proofs.SameLaws.{In, In-from_contains, contains-from_In}
use Rattle.view_laws.specs.Steps.{IsRising}
use Rattle.view_laws.proofs.ListLaws.{among_in, in_among, filter_in, in_filter, map_in, in_map}
use Rattle.turn_laws.specs.Telling.{others_of}
use Rattle.sleep_laws.specs.Woken.{WokenOthers}

-- two rising lists with the same members are equal
same_rising : (ms ns : List ℕ) → IsRising ms → IsRising ns → ((k : ℕ) → In k ms → In k ns) → ((k : ℕ) → In k ns → In k ms) → ms ≡ ns
same_rising [] [] h k f g = refl
same_rising [] (n ∷ ns) h k f g = elim (g n (inl refl)) [ ]
same_rising (m ∷ ms) [] h k f g = elim (f m (inl refl)) [ ]
same_rising (m ∷ ms) (n ∷ ns) h k f g = ap₂ (λ (a : ℕ) (rest : List ℕ). a ∷ rest) head (same_rising ms ns h.1 k.1 forward back)
  where
    above : (a : ℕ) → In a ms → m < a
    above a i = h.0 a (contains-from_In ms a i)

    beyond : (a : ℕ) → In a ns → n < a
    beyond a i = k.0 a (contains-from_In ns a i)

    head : m ≡ n
    head = elim (f m (inl refl)) [
      | inl e ↦ sym e
      | inr i ↦ elim (g n (inl refl)) [
        | inl e ↦ e
        | inr j ↦ (let one = beyond m i in let other = above n j in absurd (omega (arith, one, other)))
      ]
    ]

    forward : (a : ℕ) → In a ms → In a ns
    forward a i = elim (f a (inr i)) [
      | inl e ↦ (let one = above a i in absurd (omega (arith, one, e, head)))
      | inr j ↦ j
    ]

    back : (a : ℕ) → In a ns → In a ms
    back a i = elim (g a (inr i)) [
      | inl e ↦ (let one = beyond a i in absurd (omega (arith, one, e, head)))
      | inr j ↦ j
    ]

rising_filter : (p : ℕ → Bool) (ns : List ℕ) → IsRising ns → IsRising (filter p ns)
rising_filter p [] h = tt
rising_filter p (n ∷ ns) h = by (p n) (rising_filter p ns h.1)
  where
    by : (b : Bool) → IsRising (filter p ns) → IsRising (cond b (n ∷ filter p ns) (filter p ns))
    by true k = (λ m c. h.0 m (contains-from_In ns m (filter_in p ns m (In-from_contains (filter p ns) m c)).0), k)
    by false k = k

-- the numbers of some of the threads
abbrev number_in : Thread → ℕ
number_in t = t.number

rising_threads : (p : Thread → Bool) (ts : List Thread) → IsRising (map number_in ts) → IsRising (map number_in (filter p ts))
rising_threads p [] h = tt
rising_threads p (t ∷ ts) h = by (p t) (rising_threads p ts h.1)
  where
    less : (n : ℕ) → Contains (map number_in (filter p ts)) n → t.number < n
    less n c =
        let r = in_map number_in (filter p ts) n (In-from_contains (map number_in (filter p ts)) n c) in
        h.0 n (contains-from_In (map number_in ts) n (subst (λ k. In k (map number_in ts)) r.2 (map_in number_in ts r.0 (filter_in p ts r.0 r.1).0)))

    by : (b : Bool) → IsRising (map number_in (filter p ts)) → IsRising (map number_in (cond b (t ∷ filter p ts) (filter p ts)))
    by true k = (less, k)
    by false k = k

filter_map : {A B : Type 0} (p : B → Bool) (f : A → B) (xs : List A) → filter p (map f xs) ≡ map f (filter (λ x. p (f x)) xs)
filter_map p f [] = refl
filter_map {A = A} {B = B} p f (x ∷ xs) = by (p (f x)) (filter_map p f xs)
  where
    by : (b : Bool) → filter p (map f xs) ≡ map f (filter (λ y. p (f y)) xs) → cond b (f x ∷ filter p (map f xs)) (filter p (map f xs)) ≡ map f (cond b (x ∷ filter (λ y. p (f y)) xs) (filter (λ y. p (f y)) xs))
    by true e = ap (λ (ys : List B). f x ∷ ys) e
    by false e = e

not_true : (b : Bool) → not b ≡ true → b ≡ true → ⊥
not_true b e f = false≢true (sym (ap not f) ∙ e)

-- Threads of one space, by their numbers

module _ (space : List ℕ) (ids : List Ident) (able numbers : List ℕ) (rising : IsRising able) (ordered : IsRising numbers) (within : (n : ℕ) → In n able → In (named space n) ids ⊎ In n numbers) where
  abbrev comes : ℕ → Bool
  comes n = not (is_among ids (named space n))

  abbrev names : List Ident
  names = map (named space) able

  abbrev wakes : ℕ → Bool
  wakes n = is_among names (named space n)

  forward : (n : ℕ) → In n (filter comes able) → In n (filter comes (filter wakes numbers))
  forward n i =
      let f = filter_in comes able n i in
      elim (within n f.0) [
        | inl k ↦ absurd (not_true (is_among ids (named space n)) f.1 (in_among ids (named space n) k))
        | inr k ↦ in_filter comes (filter wakes numbers) n (in_filter wakes numbers n k (in_among names (named space n) (map_in (named space) able n f.0))) f.1
      ]

  back : (n : ℕ) → In n (filter comes (filter wakes numbers)) → In n (filter comes able)
  back n i =
      let f = filter_in comes (filter wakes numbers) n i in
      let g = filter_in wakes numbers n f.0 in
      let r = in_map (named space) able (named space n) (among_in names (named space n) g.1) in
      in_filter comes able n (subst (λ (k : ℕ). In k able) (ap (λ (o : Ident). o.number) r.2) r.1) f.1

  pub others_numbered : others_of ids names ≡ others_of ids (filter (is_among names) (map (named space) numbers))
  others_numbered =
      filter_map (λ (o : Ident). not (is_among ids o)) (named space) able
      ∙ ap (map (named space)) (same_rising (filter comes able) (filter comes (filter wakes numbers)) (rising_filter comes able rising) (rising_filter comes (filter wakes numbers) (rising_filter wakes numbers ordered)) forward back)
      ∙ sym (filter_map (λ (o : Ident). not (is_among ids o)) (named space) (filter wakes numbers))
      ∙ ap (filter (λ (o : Ident). not (is_among ids o))) (sym (filter_map (is_among names) (named space) numbers))

-- The threads of a layer that can step

map_twice : (space : List ℕ) (ts : List Thread) → map (λ (t : Thread). named space t.number) ts ≡ map (named space) (map number_in ts)
map_twice space [] = refl
map_twice space (t ∷ ts) = ap (λ (os : List Ident). named space t.number ∷ os) (map_twice space ts)

module _ (space : List ℕ) (can : Thread → Bool) (ts : List Thread) (rising : IsRising (map number_in ts)) where
  abbrev able_of : Bool → List ℕ
  able_of b = if b then map number_in (filter can ts) else []

  pub names_able : (b : Bool) → ◌≡◌ {A = List Ident} (if b then map (λ (t : Thread). named space t.number) (filter can ts) else []) (map (named space) (able_of b))
  names_able true = map_twice space (filter can ts)
  names_able false = refl

  pub able_rising : (b : Bool) → IsRising (able_of b)
  able_rising true = rising_threads can ts rising
  able_rising false = tt

  pub of_able : (b : Bool) (n : ℕ) → In n (able_of b) → (t : Thread) × In t ts × (can t ≡ true) × (t.number ≡ n)
  of_able true n i = let r = in_map number_in (filter can ts) n i in let f = filter_in can ts r.0 r.1 in (r.0, f.0, f.1, r.2)
  of_able false n i = elim i [ ]

pub woken_others : WokenOthers
woken_others statements layers l ids numbers numbered ordered wakes =
    let can : Thread → Bool = λ t. can_step (thread_ready statements layers l.space t) in
    let b : Bool = is_open l.status in
    let able : List ℕ = if b then map number_in (filter can l.threads) else [] in
    let is : runnable_in statements layers l ≡ map (named l.space) able = names_able l.space can l.threads numbered.rising b in
    let within : (n : ℕ) → In n able → In (named l.space n) ids ⊎ In n numbers =
    λ n i.
    let t = of_able l.space can l.threads numbered.rising b n i in
    elim (wakes t.0 (contains-from_In l.threads t.0 t.1) t.2) [
      | inl k ↦ inl (subst (λ (m : ℕ). In (named l.space m) ids) t.3 (In-from_contains ids (named l.space t.0.number) k))
      | inr k ↦ inr (subst (λ (m : ℕ). In m numbers) t.3 (In-from_contains numbers t.0.number k))
    ] in
    ap (others_of ids) is
    ∙ others_numbered l.space ids able numbers (able_rising l.space can l.threads numbered.rising b) ordered within
    ∙ sym (ap (λ (os : List Ident). others_of ids (filter (is_among os) (map (named l.space) numbers))) is)

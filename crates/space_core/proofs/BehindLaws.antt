-- In the order of names all that is below a space stands right behind it.
use Rattle.std.proofs.Common.{◌≡◌, inl, inr, ℕ, suc, ◌+◌, nat_eq, Bool, true, false, ◌||◌, cond, List, [], ◌∷◌, filter, Option, Some, None, refl, sym, ap, subst, ◌∙◌, arith}
use Rattle.std.specs.Prelude.{slice_get, position}
use Rattle.std.specs.Option.{option_map}
use Rattle.std.specs.Ordering.{is_lt, nat_cmp, ordering_then, ordering_reverse}
use Rattle.std.specs.declared.cmp.Ordering.{Ordering}
use Rattle.std.specs.declared.cmp.Ordering.TheVariants.{Less, Equal as Level, Greater}
use Rattle.std.specs.Cmp.Lexicographic.{slice_cmp}
use Rattle.std.proofs.lemmas.Bool.{false≢true}
use Rattle.std.proofs.lemmas.Cmp.{nat_cmp_total}
use Rattle.std.proofs.lemmas.Map.Lookups.{exact_bytes}
use Rattle.oz_base.specs.Lists.{holds_of}
use Rattle.oz_semantics.specs.Names.{is_below, is_properly_below, space_lt}
use Rattle.oz_semantics.specs.Configurations.{is_of}
use Rattle.oz_semantics.specs.Spaces.{layers_below}
use Rattle.oz_semantics.specs.declared.configuration.Layer.{Layer}
use Rattle.oz_laws.proofs.SameLaws.{In, contains-from_In, and-left, and-right, eq-true, eq-refl}
use Rattle.view_laws.specs.Trees.{is_ascending, names_of}
use Rattle.view_laws.proofs.Members.{decide, not_both, and_both, each}
use Rattle.view_laws.proofs.ListLaws.{map_in}
use Rattle.view_laws.proofs.NameLaws.{equal_names, properly, properly_by}
use Rattle.view_laws.proofs.TreeLaws.{above_not_less, lt_itself}
use Rattle.space_core.specs.Telling.{has_below}
use Rattle.space_core.proofs.Firsts.{position_here, position_later}

-- Names

one_number : (a c : ℕ) → nat_cmp a c ≡ Level → a ≡ c
one_number a c e = same (exact_bytes (a ∷ []) (c ∷ []) (ap (λ (o : Ordering). ordering_then o Level) e))
  where
    same : a ∷ [] ≡ c ∷ [] → a ≡ c
    same k = cc

below_cons : (n : ℕ) (u v : List ℕ) → is_below u v ≡ true → is_below (n ∷ u) (n ∷ v) ≡ true
below_cons n u v h = and_both (nat_eq n n) (is_below u v) (eq-refl n) h

-- what stands between a space and one below it is below it
between : (s r m : List ℕ) → space_lt s r ≡ true → space_lt r m ≡ true → is_below s m ≡ true → is_below s r ≡ true
between [] r m e f b = refl
between (a ∷ s) [] m e f b = absurd (false≢true e)
between (a ∷ s) (c ∷ r) [] e f b = absurd (false≢true b)
between (a ∷ s) (c ∷ r) (d ∷ m) e f b = by (nat_cmp a c) refl e (between s r m)
  where
    same : a ≡ d
    same = eq-true a d (and-left (nat_eq a d) (is_below s m) b)

    by : (o : Ordering) → nat_cmp a c ≡ o → is_lt (ordering_then o (slice_cmp nat_cmp s r)) ≡ true → (space_lt s r ≡ true → space_lt r m ≡ true → is_below s m ≡ true → is_below s r ≡ true)
        → is_below (a ∷ s) (c ∷ r) ≡ true
    by Less k g inside =
        let turned : nat_cmp c d ≡ Greater = ap (nat_cmp c) (sym same) ∙ nat_cmp_total.antisymm c a ∙ ap ordering_reverse k in
        absurd (false≢true (sym (ap (λ (o : Ordering). is_lt (ordering_then o (slice_cmp nat_cmp r m))) turned) ∙ f))
    by Level k g inside =
        let here : a ≡ c = one_number a c k in
        let later : nat_cmp c d ≡ Level = subst (λ n. nat_cmp n d ≡ Level) here (subst (λ n. nat_cmp a n ≡ Level) (sym here ∙ same) k) in
        subst (λ n. is_below (a ∷ s) (n ∷ r) ≡ true) here
        (below_cons a s r (inside g (sym (ap (λ (o : Ordering). is_lt (ordering_then o (slice_cmp nat_cmp r m))) later) ∙ f) (and-right (nat_eq a d) (is_below s m) b)))
    by Greater k g inside = absurd (false≢true g)

-- Lists

filter_none : {A : Type 0} (p : A → Bool) (xs : List A) → ((x : A) → In x xs → p x ≡ false) → filter p xs ≡ []
filter_none p [] h = refl
filter_none p (x ∷ xs) h = ap (λ b. cond b (x ∷ filter p xs) (filter p xs)) (h x (inl refl)) ∙ filter_none p xs (λ y k. h y (inr k))

-- each later layer has a greater name
pub later_name : (l : Layer) (ls : List Layer) (m : Layer) → is_ascending (names_of (l ∷ ls)) ≡ true → In m ls → space_lt l.space m.space ≡ true
later_name l ls m e h = each (space_lt l.space) (names_of ls) (and-left _ _ e) m.space (contains-from_In (names_of ls) m.space (map_in (λ (n : Layer). n.space) ls m h))

-- behind one that is not below a space, and greater, none is
pub none_behind : (s : List ℕ) (r : Layer) (ls : List Layer) → is_ascending (names_of (r ∷ ls)) ≡ true → space_lt s r.space ≡ true → is_below s r.space ≡ false → layers_below (r ∷ ls) s ≡ []
none_behind s r ls e less not_it = filter_none (λ (m : Layer). is_below s m.space) (r ∷ ls) no
  where
    no : (m : Layer) → In m (r ∷ ls) → is_below s m.space ≡ false
    no m (inl k) = ap (λ (n : Layer). is_below s n.space) (sym k) ∙ not_it
    no m (inr h) = elim (decide (is_below s m.space)) [
      | inl k ↦ absurd (not_both _ (between s r.space m.space less (later_name r ls m e h) k) not_it)
      | inr k ↦ k
    ]

-- Whether there are spaces below

-- the layer that stands there, if one does, is properly below the space
abbrev next_is_below : List ℕ → List Layer → Bool
next_is_below s layers = holds_of (λ (l : Layer). is_properly_below s l.space) (slice_get layers 0)

-- behind a space the first tells of all
first_tells : (s : List ℕ) (ls : List Layer) → is_ascending (names_of ls) ≡ true → ((m : Layer) → In m ls → space_lt s m.space ≡ true) → has_below ls s ≡ next_is_below s ls
first_tells s [] e less = refl
first_tells s (r ∷ ls) e less = by (is_properly_below s r.space) refl
  where
    none : is_properly_below s r.space ≡ false → (ms : List Layer) → ((m : Layer) → In m ms → In m ls) → has_below ms s ≡ false
    none k [] within = refl
    none k (m ∷ ms) within = ap (λ b. b || has_below ms s) (not_it (is_properly_below s m.space) refl) ∙ none k ms (λ n h. within n (inr h))
      where
        not_it : (b : Bool) → is_properly_below s m.space ≡ b → b ≡ false
        not_it true q =
            let under = between s r.space m.space (less r (inl refl)) (later_name r ls m e (within m (inl refl))) (properly s m.space q).0 in
            absurd (not_both _ (properly_by s r.space under (λ same. not_both _ (less r (inl refl)) (ap (space_lt s) (sym same) ∙ lt_itself s))) k)
        not_it false q = refl

    by : (b : Bool) → is_properly_below s r.space ≡ b → has_below (r ∷ ls) s ≡ next_is_below s (r ∷ ls)
    by true k = ap (λ b. b || has_below ls s) k ∙ sym k
    by false k = ap (λ b. b || has_below ls s) k ∙ none k ls (λ m h. h) ∙ sym k

not_itself : (s t : List ℕ) → s ≡ t → is_properly_below s t ≡ false
not_itself s t e = by (is_properly_below s t) refl
  where
    by : (b : Bool) → is_properly_below s t ≡ b → b ≡ false
    by true k = absurd ((properly s t k).1 e)
    by false k = refl

-- an earlier name is not below
not_earlier : (s t : List ℕ) → space_lt t s ≡ true → is_properly_below s t ≡ false
not_earlier s t e = by (is_properly_below s t) refl
  where
    by : (b : Bool) → is_properly_below s t ≡ b → b ≡ false
    by true k = absurd (not_both _ e (above_not_less t s (properly s t k).0))
    by false k = refl

next : (n place : ℕ) → suc n ≡ place → suc (n + 1) ≡ place + 1
next n place e = omega arith

one_place : (m n : ℕ) → Some m ≡ Some n → m ≡ n
one_place m n e = cc

found_there : (s : List ℕ) (ls : List Layer) (n : ℕ) → position (is_of s) ls ≡ Some n → (m : Layer) × In m ls × (m.space ≡ s)
found_there s [] n at = cc
found_there s (l ∷ ls) n at = by (is_of s l) refl (position (is_of s) ls) refl (λ i q. found_there s ls i q)
  where
    by : (b : Bool) → is_of s l ≡ b → (p : Option ℕ) → position (is_of s) ls ≡ p → ((i : ℕ) → position (is_of s) ls ≡ Some i → (m : Layer) × In m ls × (m.space ≡ s))
        → (m : Layer) × In m (l ∷ ls) × (m.space ≡ s)
    by true k p q rest = (l, inl refl, equal_names l.space s k)
    by false k None q rest = absurd (none_some (sym (position_later (is_of s) l ls k ∙ ap (option_map (λ (i : ℕ). suc i)) q) ∙ at))
      where
        none_some : None ≡ Some n → ⊥
        none_some e = cc
    by false k (Some i) q rest = let f = rest i q in (f.0, inr f.1, f.2)

-- so the next one tells
pub next_tells : (s : List ℕ) (ls : List Layer) (place : ℕ) → is_ascending (names_of ls) ≡ true → position (is_of s) ls ≡ Some place
    → has_below ls s ≡ holds_of (λ (l : Layer). is_properly_below s l.space) (slice_get ls (place + 1))
next_tells s [] place e at = cc
next_tells s (l ∷ ls) place e at = by (is_of s l) refl (position (is_of s) ls) refl (λ n q. next_tells s ls n (and-right _ _ e) q)
  where
    by : (b : Bool) → is_of s l ≡ b → (p : Option ℕ) → position (is_of s) ls ≡ p
        → ((n : ℕ) → position (is_of s) ls ≡ Some n → has_below ls s ≡ holds_of (λ (m : Layer). is_properly_below s m.space) (slice_get ls (n + 1)))
        → has_below (l ∷ ls) s ≡ holds_of (λ (m : Layer). is_properly_below s m.space) (slice_get (l ∷ ls) (place + 1))
    by true k p q rest =
        let name : s ≡ l.space = sym (equal_names l.space s k) in
        let here : 0 ≡ place = one_place 0 place (sym (position_here (is_of s) l ls k) ∙ at) in
        ap (λ b. b || has_below ls s) (not_itself s l.space name)
        ∙ first_tells s ls (and-right _ _ e) (λ m h. subst (λ t. space_lt t m.space ≡ true) (sym name) (later_name l ls m e h))
        ∙ ap (λ n. holds_of (λ (m : Layer). is_properly_below s m.space) (slice_get (l ∷ ls) (n + 1))) here
    by false k None q rest = absurd (none_some (sym (position_later (is_of s) l ls k ∙ ap (option_map (λ (i : ℕ). suc i)) q) ∙ at))
      where
        none_some : None ≡ Some place → ⊥
        none_some e = cc
    by false k (Some n) q rest =
        let f = found_there s ls n q in
        let later : suc n ≡ place = one_place (suc n) place (sym (position_later (is_of s) l ls k ∙ ap (option_map (λ (i : ℕ). suc i)) q) ∙ at) in
        ap (λ b. b || has_below ls s) (not_earlier s l.space (subst (λ t. space_lt l.space t ≡ true) f.2 (later_name l ls f.0 e f.1)))
        ∙ rest n q
        ∙ ap (λ i. holds_of (λ (m : Layer). is_properly_below s m.space) (slice_get (l ∷ ls) i)) (next n place later)

-- That a search by halves finds the place of a space, where names stand in their order.
use Rattle.std.proofs.Common.{◌≡◌, ℕ, zero, suc, ◌<◌, ◌≤◌, Bool, true, false, List, [], ◌∷◌, Some, None, length, slice_index_or, refl, sym, ap, subst, ◌∙◌, arith, inl, inr}
use Rattle.std.specs.Prelude.{position, nat_lt}
use Rattle.std.specs.List.{list_all}
use Rattle.std.specs.Option.{option_map}
use Rattle.std.specs.Ordering.{nat_cmp, ordering_index, ordering_reverse, is_lt, is_eq}
use Rattle.std.specs.declared.result.Result.{Result}
use Rattle.std.specs.declared.result.Result.TheVariants.{Ok, Err}
use Rattle.std.specs.Result.{result_ok}
use Rattle.std.specs.List.Sorted.{IsNonDecreasingBy, IsPartitionPoint, IsSearchInRange, IsBinarySearchResult}
use Rattle.std.specs.declared.cmp.Ordering.{Ordering}
use Rattle.std.specs.declared.cmp.Ordering.TheVariants.{Less, Equal as Level, Greater}
use Rattle.std.specs.Cmp.Lexicographic.{slice_cmp}
use Rattle.std.proofs.lemmas.Bool.{false≢true, cases_lt}
use Rattle.std.proofs.lemmas.Bool.Decides.{nat_tests}
use Rattle.std.proofs.lemmas.Cmp.{nat_list_cmp_total, tied_itself}
use Rattle.std.proofs.lemmas.Map.Lookups.{exact_bytes}
use Rattle.oz_base.specs.Lists.{list_eq}
use Rattle.oz_base.specs.ListLaws.{list_eq-decides}
use Rattle.oz_semantics.specs.Names.{space_lt}
use Rattle.oz_semantics.specs.Configurations.{is_of}
use Rattle.oz_semantics.specs.declared.configuration.Layer.{Layer}
use Rattle.view_laws.specs.Trees.{is_ascending, names_of}
use Rattle.oz_laws.proofs.SameLaws.{and-left, and-right}
use Rattle.view_laws.proofs.TreeLaws.{lt_itself}
use Rattle.space_core.specs.declared.level.Level.{Level as Kept}
use Rattle.space_core.specs.Shown.{shown_all}
use Rattle.space_core.proofs.Firsts.{position_here, position_later, position_shown}

-- The order of names

less_is : (o : Ordering) → is_lt o ≡ true → o ≡ Less
less_is Less e = refl
less_is Level e = absurd (false≢true e)
less_is Greater e = absurd (false≢true e)

-- of two names the greater stands no lower to a third
rises : (s t x : List ℕ) → space_lt s t ≡ true → ordering_index (slice_cmp nat_cmp s x) ≤ ordering_index (slice_cmp nat_cmp t x)
rises s t x e = by (slice_cmp nat_cmp s x) refl
  where
    less : slice_cmp nat_cmp s t ≡ Less
    less = less_is (slice_cmp nat_cmp s t) e

    by : (o : Ordering) → slice_cmp nat_cmp s x ≡ o → ordering_index o ≤ ordering_index (slice_cmp nat_cmp t x)
    by Less k = omega arith
    by Level k =
        let f : slice_cmp nat_cmp t x ≡ Greater = subst (λ y. slice_cmp nat_cmp t y ≡ Greater) (exact_bytes s x k) (nat_list_cmp_total.antisymm t s ∙ ap ordering_reverse less) in
        rw f (omega arith)
    by Greater k =
        let g : slice_cmp nat_cmp x s ≡ Less = nat_list_cmp_total.antisymm x s ∙ ap ordering_reverse k in
        let f : slice_cmp nat_cmp t x ≡ Greater = nat_list_cmp_total.antisymm t x ∙ ap ordering_reverse (nat_list_cmp_total.trans x s t g less) in
        rw f (omega arith)

-- Lists of names

at_each : (p : List ℕ → Bool) (ss : List (List ℕ)) → list_all p ss ≡ true → (j : ℕ) (d : List ℕ) → j < length ss → p (slice_index_or ss j d) ≡ true
at_each p [] e j d h = absurd (omega arith)
at_each p (s ∷ ss) e zero d h = and-left _ _ e
at_each p (s ∷ ss) e (suc j) d h = at_each p ss (and-right _ _ e) j d (omega arith)

-- later names stand no lower to another
rising : (x : List ℕ) (ss : List (List ℕ)) → is_ascending ss ≡ true → (i j : ℕ) (d : List ℕ) → i ≤ j → j < length ss
    → ordering_index (slice_cmp nat_cmp (slice_index_or ss i d) x) ≤ ordering_index (slice_cmp nat_cmp (slice_index_or ss j d) x)
rising x [] e i j d h k = absurd (omega arith)
rising x (s ∷ ss) e zero zero d h k = omega arith
rising x (s ∷ ss) e zero (suc j) d h k = rises s (slice_index_or ss j d) x (at_each (space_lt s) ss (and-left _ _ e) j d (omega arith))
rising x (s ∷ ss) e (suc i) zero d h k = absurd (omega arith)
rising x (s ∷ ss) e (suc i) (suc j) d h k = rising x ss (and-right _ _ e) i j d (omega arith) (omega arith)

other_name : (s x : List ℕ) → space_lt s x ≡ true → list_eq s x ≡ false
other_name s x e = by (list_eq s x) refl
  where
    by : (b : Bool) → list_eq s x ≡ b → b ≡ false
    by true k = absurd (false≢true (sym (lt_itself s) ∙ subst (λ t. space_lt s t ≡ true) (sym ((list_eq-decides s x).0 k)) e))
    by false k = refl

-- a name that is found stands there alone
found_name : (x : List ℕ) (ss : List (List ℕ)) (i : ℕ) (d : List ℕ) → is_ascending ss ≡ true → i < length ss → slice_index_or ss i d ≡ x → position (λ s. list_eq s x) ss ≡ Some i
found_name x [] i d e h q = absurd (omega arith)
found_name x (s ∷ ss) zero d e h q = position_here (λ t. list_eq t x) s ss ((list_eq-decides s x).1 q)
found_name x (s ∷ ss) (suc i) d e h q =
    position_later (λ t. list_eq t x) s ss (other_name s x (subst (λ t. space_lt s t ≡ true) q (at_each (space_lt s) ss (and-left _ _ e) i d (omega arith))))
    ∙ ap (option_map (λ n. suc n)) (found_name x ss i d (and-right _ _ e) (omega arith) q)

absent_name : (x : List ℕ) (ss : List (List ℕ)) (d : List ℕ) → ((i : ℕ) → i < length ss → list_eq (slice_index_or ss i d) x ≡ false) → position (λ s. list_eq s x) ss ≡ None
absent_name x [] d h = refl
absent_name x (s ∷ ss) d h =
    position_later (λ t. list_eq t x) s ss (h 0 (omega arith)) ∙ ap (option_map (λ n. suc n)) (absent_name x ss d (λ i k. h (suc i) (omega arith)))

-- a name that stands lower or higher is another
apart : (s x : List ℕ) (o : Ordering) → slice_cmp nat_cmp s x ≡ o → is_eq o ≡ false → list_eq s x ≡ false
apart s x o k n = by (list_eq s x) refl
  where
    by : (b : Bool) → list_eq s x ≡ b → b ≡ false
    by true q =
        let level : slice_cmp nat_cmp s x ≡ Level = subst (λ t. slice_cmp nat_cmp s t ≡ Level) ((list_eq-decides s x).0 q) (tied_itself nat_list_cmp_total s) in
        absurd (false≢true (sym n ∙ ap is_eq (sym k ∙ level)))
    by false q = refl

-- Lists of spaces

named_at : (ls : List Kept) (i : ℕ) (d : Kept) → slice_index_or (names_of (shown_all ls)) i d.space ≡ (slice_index_or ls i d).space
named_at [] i d = refl
named_at (l ∷ ls) zero d = refl
named_at (l ∷ ls) (suc i) d = named_at ls i d

as_many : (ls : List Kept) → length (names_of (shown_all ls)) ≡ length ls
as_many [] = refl
as_many (l ∷ ls) = ap (λ n. suc n) (as_many ls)

abbrev order_to : List ℕ → Kept → Ordering
order_to x l = slice_cmp nat_cmp l.space x

by_names : (ls : List Kept) (x : List ℕ) → position (λ s. list_eq s x) (names_of (shown_all ls)) ≡ position (is_of x) (shown_all ls)
by_names ls x = sym (position_shown (λ (l : Layer). l.space) (λ s. list_eq s x) (shown_all ls))

-- a space that is found at a place of spaces in their order has its place there
stands_at : (ls : List Kept) (x : List ℕ) (i : ℕ) (d : Kept) → is_ascending (names_of (shown_all ls)) ≡ true → i < length ls → (slice_index_or ls i d).space ≡ x
    → position (is_of x) (shown_all ls) ≡ Some i
stands_at ls x i d ascending within same =
    sym (by_names ls x) ∙ found_name x (names_of (shown_all ls)) i d.space ascending (rw (as_many ls) within) (named_at ls i d ∙ same)

-- and so by a look at that place
pub seen_at : (ls : List Kept) (x : List ℕ) (i : ℕ) (d : Kept) → is_ascending (names_of (shown_all ls)) ≡ true → true ≡ nat_lt i (length ls) → d ≡ slice_index_or ls i d → list_eq d.space x ≡ true
    → position (is_of x) (shown_all ls) ≡ Some i
seen_at ls x i d ascending within there same =
    stands_at ls x i d ascending (grind (arith, nat_tests, within)) (sym (ap (λ (l : Kept). l.space) there) ∙ (list_eq-decides d.space x).0 same)

none_lower : (ls : List Kept) (x : List ℕ) → is_ascending (names_of (shown_all ls)) ≡ true → IsNonDecreasingBy (λ (l : Kept). ordering_index (slice_cmp nat_cmp l.space x)) ls
none_lower ls x ascending i j d h k =
    subst (λ s. ordering_index (slice_cmp nat_cmp s x) ≤ ordering_index (order_to x (slice_index_or ls j d))) (named_at ls i d)
    (subst (λ s. ordering_index (slice_cmp nat_cmp (slice_index_or (names_of (shown_all ls)) i d.space) x) ≤ ordering_index (slice_cmp nat_cmp s x)) (named_at ls j d)
    (rising x (names_of (shown_all ls)) ascending i j d.space h (rw (as_many ls) k)))

-- where a search by halves ends between those that stand lower and those that stand higher
split_apart : (ls : List Kept) (x : List ℕ) (i : ℕ) → IsPartitionPoint (λ (l : Kept). order_to x l ≡ Less) (λ (l : Kept). order_to x l ≡ Greater) ls i
    → (j : ℕ) (d : Kept) → j < length ls → list_eq (slice_index_or ls j d).space x ≡ false
split_apart ls x i split j d h = elim (cases_lt j i) [
  | inl k ↦ apart (slice_index_or ls j d).space x Less (split.0 j d (omega arith) k) refl
  | inr k ↦ apart (slice_index_or ls j d).space x Greater (split.1 j d k h) refl
]

-- what a search by halves answers is the place of the space
pub halves : (ls : List Kept) (x : List ℕ) (r : Result ℕ ℕ) → is_ascending (names_of (shown_all ls)) ≡ true → IsSearchInRange r (length ls)
    → IsBinarySearchResult (λ (l : Kept). slice_cmp nat_cmp l.space x) ls r → result_ok r ≡ position (is_of x) (shown_all ls)
halves [] x (Ok i) ascending within found = absurd (omega (arith, within))
halves [] x (Err i) ascending within parts = refl
halves (d ∷ ls) x (Ok i) ascending within found =
    sym (stands_at (d ∷ ls) x i d ascending within (exact_bytes (slice_index_or (d ∷ ls) i d).space x (found d)))
halves (d ∷ ls) x (Err i) ascending within parts =
    sym (absent_name x (names_of (shown_all (d ∷ ls))) d.space (λ j h. ap (λ s. list_eq s x) (named_at (d ∷ ls) j d)
    ∙ split_apart (d ∷ ls) x i (parts (none_lower (d ∷ ls) x ascending)) j d (rw (sym (as_many (d ∷ ls))) h)))
    ∙ by_names (d ∷ ls) x

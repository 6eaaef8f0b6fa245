-- What is news of an interval that some variables were told already: it makes no variables equal, and gives none a value.
use Rattle.std.proofs.Common.{◌≡◌, inl, inr, ℕ, ◌+◌, ◌<◌, Bool, true, false, not, ◌&&◌, ◌||◌, if◌then◌else◌, List, [], ◌∷◌, ◌++◌, Contains, Option, Some, None, is_some, refl, sym, ap, subst, ◌∙◌, length, get_or, drop, append_assoc, ◌≤◌}
use Rattle.std.proofs.lemmas.List.{append-nil, drop_more, drop_all, map-append}
use Rattle.std.proofs.lemmas.List.Elements.{Contains-append_cases, Contains-append_left, filter_map-append}
use Rattle.std.specs.List.{list_any, filter_map, cons_option}
use Rattle.oz_base.specs.Lists.{first_given, given_or, holds_of}
use Rattle.oz_base.specs.declared.names.Ident.{Ident}
use Rattle.oz_base.specs.declared.interval.Interval.{Interval}
use Rattle.oz_domains.specs.Domains.{IntSet, union, is_within}
use Rattle.oz_semantics.specs.Constraints.{confined}
use Rattle.oz_semantics.specs.Store.{View, Same, told, itself, reversed, joined, field, same, value_given, told_value, set_given, common, told_domain, domain_by, is_news, news}
use Rattle.oz_semantics.specs.declared.value.Value.{Value}
use Rattle.oz_semantics.specs.declared.value.Tell.{Tell}
use Rattle.oz_semantics.specs.declared.value.Tell.TheVariants.{Equal, Is, Within}
use Rattle.oz_laws.proofs.SameLaws.{In, In-from_contains, tests_same}
use Rattle.oz_laws.proofs.StoreLaws.{first_same, all_same}
use Rattle.oz_laws.proofs.DomainLaws.{common-has, common-some, among-is, among-within}
use Rattle.fd_domain.proofs.SetLaws.{same_bool}
use Rattle.fd_inputs.specs.News.{is_chosen, told_ones}

-- Equal variables

not_equal : (ones : List Ident) (i : Interval) (x y : Ident) → In (Equal x y) (confined ones i) → ⊥
not_equal [] i x y h = elim h [ ]
not_equal (z ∷ ones) i x y (inl e) = cc
not_equal (z ∷ ones) i x y (inr h) = not_equal ones i x y h

not_value : (ones : List Ident) (i : Interval) (x : Ident) (v : Value) → In (Is x v) (confined ones i) → ⊥
not_value [] i x v h = elim h [ ]
not_value (z ∷ ones) i x v (inl e) = cc
not_value (z ∷ ones) i x v (inr h) = not_value ones i x v h

equal_before : (ts : List Tell) (ones : List Ident) (i : Interval) (x y : Ident) → Contains (ts ++ confined ones i) (Equal x y) → Contains ts (Equal x y)
equal_before ts ones i x y c = elim (Contains-append_cases ts (confined ones i) (Equal x y) c) [
  | inl h ↦ h
  | inr h ↦ absurd (not_equal ones i x y (In-from_contains (confined ones i) (Equal x y) h))
]

value_before : (ts : List Tell) (ones : List Ident) (i : Interval) (x : Ident) (v : Value) → Contains (ts ++ confined ones i) (Is x v) → Contains ts (Is x v)
value_before ts ones i x v c = elim (Contains-append_cases ts (confined ones i) (Is x v) c) [
  | inl h ↦ h
  | inr h ↦ absurd (not_value ones i x v (In-from_contains (confined ones i) (Is x v) h))
]

same_before : (ts : List Tell) (ones : List Ident) (i : Interval) {x y : Ident} → Same (ts ++ confined ones i) x y → Same ts x y
same_before ts ones i {x} {y} (told c) = told (equal_before ts ones i x y c)
same_before ts ones i itself = itself
same_before ts ones i (reversed s) = reversed (same_before ts ones i s)
same_before ts ones i (joined s t) = joined (same_before ts ones i s) (same_before ts ones i t)
same_before ts ones i (field {x} {y} {a} {b} {v} {w} k s c d l e f) =
    field k (same_before ts ones i s) (value_before ts ones i x v c) (value_before ts ones i y w d) l e f

same_after : (ts us : List Tell) {x y : Ident} → Same ts x y → Same (ts ++ us) x y
same_after ts us {x} {y} (told c) = told (Contains-append_left ts us (Equal x y) c)
same_after ts us itself = itself
same_after ts us (reversed s) = reversed (same_after ts us s)
same_after ts us (joined s t) = joined (same_after ts us s) (same_after ts us t)
same_after ts us (field {x} {y} {a} {b} {v} {w} k s c d l e f) =
    field k (same_after ts us s) (Contains-append_left ts us (Is x v) c) (Contains-append_left ts us (Is y w) d) l e f

same_kept : (ts : List Tell) (ones : List Ident) (i : Interval) (x y : Ident) → same (ts ++ confined ones i) x y ≡ same ts x y
same_kept ts ones i x y =
    same_bool (same (ts ++ confined ones i) x y) (same ts x y)
    (λ h. (tests_same ts x y).1 (same_before ts ones i ((tests_same (ts ++ confined ones i) x y).0 h)))
    (λ h. (tests_same (ts ++ confined ones i) x y).1 (same_after ts (confined ones i) ((tests_same ts x y).0 h)))

-- Values

none_given : (test : Ident → Bool) (ones : List Ident) (i : Interval) → first_given (value_given test) (confined ones i) ≡ None
none_given test [] i = refl
none_given test (x ∷ ones) i = none_given test ones i

given_before : (test : Ident → Bool) (ts : List Tell) (ones : List Ident) (i : Interval) → first_given (value_given test) (ts ++ confined ones i) ≡ first_given (value_given test) ts
given_before test [] ones i = none_given test ones i
given_before test (t ∷ ts) ones i = ap (given_or (value_given test t)) (given_before test ts ones i)

value_test : (f g : Ident → Bool) → ((y : Ident) → f y ≡ g y) → (t : Tell) → value_given f t ≡ value_given g t
value_test f g h (Is y v) = ap (λ b. if b then Some v else None) (h y)
value_test f g h (Equal x y) = refl
value_test f g h (Within y is) = refl

set_test : (f g : Ident → Bool) → ((y : Ident) → f y ≡ g y) → (t : Tell) → set_given f t ≡ set_given g t
set_test f g h (Within y is) = ap (λ b. if b then Some (union is) else None) (h y)
set_test f g h (Equal x y) = refl
set_test f g h (Is y v) = refl

told_value_kept : (ts : List Tell) (ones : List Ident) (i : Interval) (x : Ident) → told_value (ts ++ confined ones i) x ≡ told_value ts x
told_value_kept ts ones i x =
    given_before (λ y. same (ts ++ confined ones i) y x) ts ones i
    ∙ first_same (value_given (λ y. same (ts ++ confined ones i) y x)) (value_given (λ y. same ts y x)) (value_test (λ y. same (ts ++ confined ones i) y x) (λ y. same ts y x) (λ y. same_kept ts ones i y x)) ts

-- Domains

abbrev sets_of : List Tell → Ident → List Tell → List IntSet
sets_of ts x us = filter_map (set_given (λ y. same ts y x)) us

told_domain_is : (ts : List Tell) (ones : List Ident) (i : Interval) (x : Ident) → told_domain (ts ++ confined ones i) x ≡ common (sets_of ts x ts ++ sets_of ts x (confined ones i))
told_domain_is ts ones i x =
    ap common (
    all_same (set_given (λ y. same (ts ++ confined ones i) y x)) (set_given (λ y. same ts y x)) (set_test (λ y. same (ts ++ confined ones i) y x) (λ y. same ts y x) (λ y. same_kept ts ones i y x)) (ts ++ confined ones i)
    ∙ filter_map-append (set_given (λ y. same ts y x)) ts (confined ones i)
    )

same_swapped : (ts : List Tell) (x y : Ident) → same ts x y ≡ same ts y x
same_swapped ts x y = same_bool (same ts x y) (same ts y x) (λ h. (tests_same ts y x).1 (reversed ((tests_same ts x y).0 h))) (λ h. (tests_same ts x y).1 (reversed ((tests_same ts y x).0 h)))

-- no variable of the class was told it
no_sets : (ts : List Tell) (x : Ident) (ones : List Ident) (i : Interval) → list_any (same ts x) ones ≡ false → sets_of ts x (confined ones i) ≡ []
no_sets ts x [] i e = refl
no_sets ts x (y ∷ ones) i e = by (same ts x y) refl e (no_sets ts x ones i)
  where
    by : (b : Bool) → same ts x y ≡ b → (b || list_any (same ts x) ones) ≡ false → (list_any (same ts x) ones ≡ false → filter_map (set_given (λ z. same ts z x)) (confined ones i) ≡ [])
        → filter_map (set_given (λ z. same ts z x)) (confined (y ∷ ones) i) ≡ []
    by true q k rest = cc
    by false q k rest = ap (λ b. cons_option (if b then Some (union (i ∷ [])) else None) (filter_map (set_given (λ z. same ts z x)) (confined ones i))) (same_swapped ts y x ∙ q) ∙ rest k

-- one was
one_set : (ts : List Tell) (x : Ident) (ones : List Ident) (i : Interval) → list_any (same ts x) ones ≡ true → In (union (i ∷ [])) (sets_of ts x (confined ones i))
one_set ts x [] i e = cc
one_set ts x (y ∷ ones) i e = by (same ts x y) refl e (one_set ts x ones i)
  where
    passed : (o : Option IntSet) (ss : List IntSet) (s : IntSet) → In s ss → In s (cons_option o ss)
    passed None ss s h = h
    passed (Some t) ss s h = inr h

    by : (b : Bool) → same ts x y ≡ b → (b || list_any (same ts x) ones) ≡ true → (list_any (same ts x) ones ≡ true → In (union (i ∷ [])) (filter_map (set_given (λ z. same ts z x)) (confined ones i)))
        → In (union (i ∷ [])) (filter_map (set_given (λ z. same ts z x)) (confined (y ∷ ones) i))
    by true q k rest =
        subst (λ b. In (union (i ∷ [])) (cons_option (if b then Some (union (i ∷ [])) else None) (filter_map (set_given (λ z. same ts z x)) (confined ones i)))) (sym (same_swapped ts y x ∙ q)) (inl refl)
    by false q k rest = passed (set_given (λ z. same ts z x) (Within y (i ∷ []))) (filter_map (set_given (λ z. same ts z x)) (confined ones i)) (union (i ∷ [])) (rest k)

in_last : {A : Type 0} (xs ys : List A) (y : A) → In y ys → In y (xs ++ ys)
in_last [] ys y h = h
in_last (x ∷ xs) ys y h = inr (in_last xs ys y h)

-- what is common to sets is within each of them
common_within : (ss : List IntSet) (i : Interval) → In (union (i ∷ [])) ss → holds_of (is_within (i ∷ [])) (common ss) ≡ true
common_within ss i h =
    let c = common-some ss (union (i ∷ [])) h in
    ap (holds_of (is_within (i ∷ []))) c.1
    ∙ among-within (i ∷ []) c.0 (λ n k. among-is (i ∷ []) n ∙ common-has ss c.0 n c.1 k (union (i ∷ [])) h)

-- What is news

and_true : (b : Bool) → (b && true) ≡ b
and_true true = refl
and_true false = refl

and_false : (b : Bool) → (b && false) ≡ false
and_false true = refl
and_false false = refl

-- what no interval of these keeps to
abbrev lacks : Interval → Option IntSet → Bool
lacks i o = not (holds_of (is_within (i ∷ [])) o)

-- after some variables were told it
abbrev after : List Tell → List Ident → Interval → List Tell
after ts ones i = ts ++ confined ones i

pub news_after : (ts : List Tell) (ones : List Ident) (i : Interval) (x : Ident) → is_news (ts ++ confined ones i) (Within x (i ∷ [])) ≡ is_chosen ts i ones x
news_after ts ones i x = valued (told_value ts x) refl
  where
    marked : (b : Bool) → list_any (same ts x) ones ≡ b → told_value ts x ≡ None → lacks i (told_domain (after ts ones i) x) ≡ (lacks i (told_domain ts x) && not b)
    marked true e none =
        ap (lacks i) (told_domain_is ts ones i x)
        ∙ ap not (common_within (sets_of ts x ts ++ sets_of ts x (confined ones i)) i (in_last (sets_of ts x ts) (sets_of ts x (confined ones i)) (union (i ∷ [])) (one_set ts x ones i e)))
        ∙ sym (and_false (lacks i (told_domain ts x)))
    marked false e none =
        ap (lacks i) (told_domain_is ts ones i x ∙ ap (λ l. common (sets_of ts x ts ++ l)) (no_sets ts x ones i e) ∙ ap common (append-nil (sets_of ts x ts)))
        ∙ sym (and_true (lacks i (told_domain ts x)))

    valued : (o : Option Value) → told_value ts x ≡ o → is_news (after ts ones i) (Within x (i ∷ [])) ≡ (is_news ts (Within x (i ∷ [])) && (is_some (told_value ts x) || not (list_any (same ts x) ones)))
    valued (Some v) e =
        ap (λ w. lacks i (domain_by w (told_domain (after ts ones i) x))) (told_value_kept ts ones i x ∙ e)
        ∙ sym (ap (λ w. lacks i (domain_by w (told_domain ts x)) && (is_some w || not (list_any (same ts x) ones))) e ∙ and_true (lacks i (domain_by (Some v) (told_domain ts x))))
    valued None e =
        ap (λ w. lacks i (domain_by w (told_domain (after ts ones i) x))) (told_value_kept ts ones i x ∙ e)
        ∙ marked (list_any (same ts x) ones) refl e
        ∙ sym (ap (λ w. lacks i (domain_by w (told_domain ts x)) && (is_some w || not (list_any (same ts x) ones))) e)

abbrev news_if : Bool → Ident → Interval → View → List Tell → List Tell
news_if b x i view us = if b then Within x (i ∷ []) ∷ news (view ++ Within x (i ∷ []) ∷ []) us else news view us

-- the news of an interval is told of the variables that are chosen
pub news_ones : (view : View) (i : Interval) (ones xs : List Ident) → confined (told_ones view i ones xs) i ≡ confined ones i ++ news (view ++ confined ones i) (confined xs i)
news_ones view i ones [] = sym (append-nil (confined ones i))
news_ones view i ones (x ∷ xs) = by (is_chosen view i ones x) refl (λ l. news_ones view i l xs)
  where
    one_more : confined (ones ++ x ∷ []) i ≡ confined ones i ++ Within x (i ∷ []) ∷ []
    one_more = map-append (λ y. Within y (i ∷ [])) ones (x ∷ [])

    by : (b : Bool) → is_chosen view i ones x ≡ b → ((l : List Ident) → confined (told_ones view i l xs) i ≡ confined l i ++ news (view ++ confined l i) (confined xs i))
        → confined (told_ones view i (if b then ones ++ x ∷ [] else ones) xs) i ≡ confined ones i ++ news (view ++ confined ones i) (confined (x ∷ xs) i)
    by true e all =
        all (ones ++ x ∷ [])
        ∙ ap (λ l. l ++ news (view ++ l) (confined xs i)) one_more
        ∙ ap (λ v. (confined ones i ++ Within x (i ∷ []) ∷ []) ++ news v (confined xs i)) (sym (append_assoc view (confined ones i) (Within x (i ∷ []) ∷ [])))
        ∙ append_assoc (confined ones i) (Within x (i ∷ []) ∷ []) (news ((view ++ confined ones i) ++ Within x (i ∷ []) ∷ []) (confined xs i))
        ∙ ap (λ b. confined ones i ++ news_if b x i (view ++ confined ones i) (confined xs i)) (sym (news_after view ones i x ∙ e))
    by false e all =
        all ones
        ∙ ap (λ b. confined ones i ++ news_if b x i (view ++ confined ones i) (confined xs i)) (sym (news_after view ones i x ∙ e))

pub news_are : (view : View) (i : Interval) (xs : List Ident) → confined (told_ones view i [] xs) i ≡ news view (confined xs i)
news_are view i xs = news_ones view i [] xs ∙ ap (λ v. news v (confined xs i)) (append-nil view)

-- One variable after another

pub one_chosen : (view : View) (i : Interval) (ones xs : List Ident) (k : ℕ) (x : Ident) (b : Bool) (r : List Ident) → k < length xs → x ≡ get_or xs k x → b ≡ is_chosen view i ones x
    → told_ones view i ones (drop k xs) ≡ r → told_ones view i (if b then ones ++ x ∷ [] else ones) (drop (k + 1) xs) ≡ r
one_chosen view i ones xs k x b r h at e was =
    ap (λ c. told_ones view i (if c then ones ++ x ∷ [] else ones) (drop (k + 1) xs)) e
    ∙ sym (ap (told_ones view i ones) (drop_more xs k x h ∙ ap (λ y. y ∷ drop (k + 1) xs) (sym at)))
    ∙ was

pub all_chosen : (view : View) (i : Interval) (ones xs : List Ident) (k : ℕ) (r : List Ident) → length xs ≤ k → told_ones view i ones (drop k xs) ≡ r → ones ≡ r
all_chosen view i ones xs k r h was = sym (ap (told_ones view i ones) (drop_all k xs h)) ∙ was

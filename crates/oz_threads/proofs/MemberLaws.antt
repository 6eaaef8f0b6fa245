-- Being among some threads, as threads join them.
use Rattle.std.proofs.Common.{◌≡◌, ℕ, ◌+◌, ◌<◌, length, get_or, take, ◌||◌, ◌&&◌, Bool, true, false, not, cond, if◌then◌else◌, List, [], ◌∷◌, ◌++◌, Option, Some, None, filter, refl, sym, ap, ap₂, ◌∙◌}
use Rattle.std.specs.List.{list_any}
use Rattle.std.proofs.lemmas.List.{take_more, append-nil}
use Rattle.std.proofs.lemmas.List.Folds.{list_any-append}
use Rattle.std.proofs.lemmas.List.Elements.{filter-append}
use Rattle.std.proofs.lemmas.Map.Views.{any-filter_same}
use Rattle.oz_base.specs.declared.names.Ident.{Ident}
use Rattle.oz_base.specs.Names.{ident_eq}
use Rattle.oz_base.specs.IdentLaws.{ident_eq-equivalence, ident_eq-equal, ident_eq-itself}
use Rattle.oz_semantics.specs.Settling.{is_among, mover_in, queue_after}
use Rattle.oz_threads.specs.Members.{is_mover, joins}

one_more : (a b : Bool) → cond a true b ≡ (b || (a || false))
one_more true true = refl
one_more true false = refl
one_more false true = refl
one_more false false = refl

-- a set into which a thread is put has those of the list to which it is added
pub put_more : (old new xs : List Ident) (id : Ident) → ((q : Ident) → is_among new q ≡ cond (ident_eq id q) true (is_among old q))
    → ((q : Ident) → is_among old q ≡ is_among xs q) → (q : Ident) → is_among new q ≡ is_among (xs ++ id ∷ []) q
put_more old new xs id put same q =
    put q ∙ one_more (ident_eq id q) (is_among old q) ∙ ap (λ b. b || (ident_eq id q || false)) (same q)
    ∙ ap (λ b. is_among xs q || (b || false)) (ident_eq-equivalence.symm id q) ∙ sym (list_any-append (ident_eq q) xs (id ∷ []))

-- A filter by tests that agree on the list

kept_or_not : {A : Type 0} (b : Bool) (x : A) (xs ys : List A) → xs ≡ ys → cond b (x ∷ xs) xs ≡ cond b (x ∷ ys) ys
kept_or_not true x xs ys e = ap (λ zs. x ∷ zs) e
kept_or_not false x xs ys e = e

or-true : (b : Bool) → (b || true) ≡ true
or-true true = refl
or-true false = refl

filter_agrees : (p q : Ident → Bool) (xs : List Ident) → ((id : Ident) → is_among xs id ≡ true → p id ≡ q id) → filter p xs ≡ filter q xs
filter_agrees p q [] agree = refl
filter_agrees p q (x ∷ xs) agree =
    ap (λ b. cond b (x ∷ filter p xs) (filter p xs)) (agree x (ap (λ b. b || is_among xs x) (ident_eq-itself x)))
    ∙ kept_or_not (q x) x _ _ (filter_agrees p q xs (λ id e. agree id (ap (λ b. ident_eq id x || b) e ∙ or-true (ident_eq id x))))

filter_all : (p : Ident → Bool) (xs : List Ident) → ((id : Ident) → is_among xs id ≡ true → p id ≡ true) → filter p xs ≡ xs
filter_all p [] passes = refl
filter_all p (x ∷ xs) passes =
    ap (λ b. cond b (x ∷ filter p xs) (filter p xs)) (passes x (ap (λ b. b || is_among xs x) (ident_eq-itself x)))
    ∙ ap (λ ys. x ∷ ys) (filter_all p xs (λ id e. passes id (ap (λ b. ident_eq id x || b) e ∙ or-true (ident_eq id x))))

-- of one more of a list
passed_more : (p : Ident → Bool) (xs : List Ident) (i : ℕ) (x : Ident) → i < length xs → x ≡ get_or xs i x → (b : Bool) → b ≡ p x
    → filter p (take (i + 1) xs) ≡ filter p (take i xs) ++ (if b then x ∷ [] else [])
passed_more p xs i x h here b e =
    ap (filter p) (take_more xs i x h ∙ ap (λ (y : Ident). take i xs ++ y ∷ []) (sym here)) ∙ filter-append p (take i xs) (x ∷ [])
    ∙ ap (λ b. filter p (take i xs) ++ cond b (x ∷ []) []) (sym e)

-- where it passes, and where it does not
pub one_joins : (p : Ident → Bool) (xs : List Ident) (i : ℕ) (x : Ident) → i < length xs → x ≡ get_or xs i x → (old new : List Ident) (y : Ident) → old ≡ filter p (take i xs)
    → new ≡ old ++ y ∷ [] → y ≡ x → true ≡ p x → new ≡ filter p (take (i + 1) xs)
one_joins p xs i x h here old new y o n same e = n ∙ ap₂ (λ ys z. ys ++ z ∷ []) o same ∙ sym (passed_more p xs i x h here true e)

pub none_joins : (p : Ident → Bool) (xs : List Ident) (i : ℕ) (x : Ident) → i < length xs → x ≡ get_or xs i x → (old : List Ident) → old ≡ filter p (take i xs) → false ≡ p x
    → old ≡ filter p (take (i + 1) xs)
none_joins p xs i x h here old o e = o ∙ sym (append-nil (filter p (take i xs))) ∙ sym (passed_more p xs i x h here false e)

-- the same by other words for the test
pub filter_same : (p q : Ident → Bool) (xs : List Ident) → ((id : Ident) → p id ≡ q id) → filter p xs ≡ filter q xs
filter_same p q xs h = filter_agrees p q xs (λ id e. h id)

-- The queue after a step

-- a thread equal to one that is among some is among them
same_among : (ids : List Ident) (x y : Ident) → ident_eq x y ≡ true → is_among ids y ≡ is_among ids x
same_among ids x y e = sym (ap (is_among ids) (ident_eq-equal x y e))

mover_if : (b : Bool) (mover id : Ident) → (ident_eq id mover ≡ true → b ≡ true) → list_any (ident_eq id) (if b then mover ∷ [] else []) ≡ ident_eq id mover
mover_if true mover id h = by (ident_eq id mover)
  where
    by : (b : Bool) → (b || false) ≡ b
    by true = refl
    by false = refl
mover_if false mover id h = by (ident_eq id mover) h
  where
    by : (b : Bool) → (b ≡ true → false ≡ true) → false ≡ b
    by true h = h refl
    by false h = refl

mover_among : (ids : List Ident) (mover : Option Ident) (id : Ident) → is_among ids id ≡ true → is_among (mover_in mover ids) id ≡ is_mover mover id
mover_among ids None id e = refl
mover_among ids (Some mover) id e = mover_if (is_among ids mover) mover id (λ k. same_among ids id mover k ∙ e)

neither : (a b : Bool) → not (a || b) ≡ (not a && not b)
neither true b = refl
neither false b = refl

-- a thread that can step stays where it is in the queue, or is the one that stepped
stays : (ids : List Ident) (mover : Option Ident) (queue : List Ident) (id : Ident) → is_among ids id ≡ true
    → joins (is_among queue) mover id ≡ not (is_among (filter (is_among ids) queue ++ mover_in mover ids) id)
stays ids mover queue id e =
    sym (ap not (list_any-append (ident_eq id) (filter (is_among ids) queue) (mover_in mover ids)
    ∙ ap₂ (λ a b. a || b) (any-filter_same (ident_eq id) (is_among ids) true (λ k h. same_among ids id k h ∙ e) queue) (mover_among ids mover id e))
    ∙ neither (is_among queue id) (is_mover mover id))

mover_passes : (b : Bool) (ids : List Ident) (mover : Ident) → is_among ids mover ≡ b → filter (is_among ids) (if b then mover ∷ [] else []) ≡ (if b then mover ∷ [] else [])
mover_passes true ids mover e = ap (λ b. cond b (mover ∷ []) []) e
mover_passes false ids mover e = refl

mover_kept : (ids : List Ident) (mover : Option Ident) → filter (is_among ids) (mover_in mover ids) ≡ mover_in mover ids
mover_kept ids None = refl
mover_kept ids (Some mover) = mover_passes (is_among ids mover) ids mover refl

filtered_among : (p : Ident → Bool) (xs : List Ident) (id : Ident) → is_among (filter p xs) id ≡ true → is_among xs id ≡ true
filtered_among p [] id e = e
filtered_among p (x ∷ xs) id e = by (p x) (ident_eq id x) (filtered_among p xs id) refl e
  where
    by : (b a : Bool) → (is_among (filter p xs) id ≡ true → is_among xs id ≡ true) → ident_eq id x ≡ a → is_among (cond b (x ∷ filter p xs) (filter p xs)) id ≡ true → (a || is_among xs id) ≡ true
    by b true h here k = refl
    by true false h here k = h (ap (λ a. a || is_among (filter p xs) id) (sym here) ∙ k)
    by false false h here k = h k

-- what joins the end before those leave that cannot step
pub requeued : (ids : List Ident) (mover : Option Ident) (queue : List Ident)
    → filter (is_among ids) (queue ++ mover_in mover ids ++ filter (joins (is_among queue) mover) ids) ≡ queue_after ids mover queue
requeued ids mover queue =
    filter-append (is_among ids) (queue ++ mover_in mover ids) (filter (joins (is_among queue) mover) ids)
    ∙ ap₂ (λ xs ys. xs ++ ys)
    (filter-append (is_among ids) queue (mover_in mover ids) ∙ ap (λ xs. filter (is_among ids) queue ++ xs) (mover_kept ids mover))
    (filter_all (is_among ids) (filter (joins (is_among queue) mover) ids) (filtered_among (joins (is_among queue) mover) ids)
    ∙ filter_agrees (joins (is_among queue) mover) (λ id. not (is_among (filter (is_among ids) queue ++ mover_in mover ids) id)) ids (stays ids mover queue))

-- what is made of a queue in these steps
pub requeued_by : (ids : List Ident) (mover : Option Ident) (queue : List Ident) (able : Ident → Bool) → ((id : Ident) → able id ≡ is_among ids id)
    → (moved others joined after : List Ident) → moved ≡ mover_in mover ids → others ≡ filter (joins (is_among queue) mover) ids
    → joined ≡ queue ++ moved ++ others → after ≡ filter able joined → after ≡ queue_after ids mover queue
requeued_by ids mover queue able same moved others joined after m o j a =
    a ∙ filter_same able (is_among ids) joined same ∙ ap (filter (is_among ids)) (j ∙ ap₂ (λ xs ys. queue ++ xs ++ ys) m o) ∙ requeued ids mover queue

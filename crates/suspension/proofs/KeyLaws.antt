-- How keys go on.
use Rattle.std.proofs.Common.{◌≡◌, ◌⊎◌, inl, inr, ℕ, ◌+◌, ◌<◌, Bool, true, false, not, ◌&&◌, if◌then◌else◌, List, [], ◌∷◌, ◌++◌, length, take, refl, sym, ap, subst, ◌∙◌, Contains, Option, Some, None, slice_get, get_or, unwrap_or}
use Rattle.std.proofs.lemmas.Bool.{false≢true}
use Rattle.std.proofs.lemmas.List.{take_more}
use Rattle.std.proofs.lemmas.Option.{get_or_from_slice_get, slice_get_within}
use Rattle.std.proofs.lemmas.List.Elements.{Contains-push, Contains-push_cases, Contains-append_left, Contains-append_right, Contains-append_cases}
use Rattle.ident_map.specs.Entries.{entry}
use Rattle.oz_base.specs.Lists.{is_empty}
use Rattle.oz_base.specs.Names.{ident_eq}
use Rattle.oz_base.specs.declared.names.Ident.{Ident}
use Rattle.oz_semantics.specs.Store.{View, Same, reversed, joined, same}
use Rattle.oz_laws.specs.Touched.{Meets}
use Rattle.oz_laws.proofs.SameLaws.{In-from_contains, contains-from_In, ident_eq-true, ident_eq-refl, tests_same, and-left, and-right}
use Rattle.term_store.specs.Classes.{Table, root_in, IsPartition}
use Rattle.view_laws.proofs.Members.{decide, not_both, and_both}
use Rattle.suspension.specs.Changes.{is_key, AreListed, Finds, Admits, Enters, Gains, Sets, Gathered, Tidies}
use Rattle.suspension.specs.Sleeping.{numbers_at, IsKey, AreKeys, FallsAsleep}
use Rattle.suspension.specs.declared.sleepers.Sleepers.{Sleepers}

-- Lists

pub nothing_in : {A : Type 0} {B : Type 0} (x : A) → Contains [] x → B
nothing_in x c = elim (In-from_contains [] x c) [ ]

pub one : {A : Type 0} (x : A) → Contains (x ∷ []) x
one x = contains-from_In (x ∷ []) x (inl refl)

pub only_one : {A : Type 0} (x y : A) → Contains (x ∷ []) y → x ≡ y
only_one x y c = elim (In-from_contains (x ∷ []) y c) [ inl e ↦ e | inr h ↦ elim h [ ] ]

some_in : (xs : List ℕ) → not (is_empty xs) ≡ true → (n : ℕ) × Contains xs n
some_in [] e = absurd (false≢true e)
some_in (x ∷ xs) e = (x, contains-from_In (x ∷ xs) x (inl refl))

in_some : (xs : List ℕ) (n : ℕ) → Contains xs n → not (is_empty xs) ≡ true
in_some [] n c = nothing_in n c
in_some (x ∷ xs) n c = refl

pub gains_none : (n : ℕ) (xs : List ℕ) → Contains xs n → Gains n xs xs
gains_none n xs c = record { here = c; kept = λ m d. d; only = λ m d. inl d }

pub gains_push : (n : ℕ) (xs ys : List ℕ) → ys ≡ xs ++ n ∷ [] → Gains n xs ys
gains_push n xs ys e = subst (Gains n xs) (sym e) (record {
  here = Contains-push xs n;
  kept = λ m d. Contains-append_left xs (n ∷ []) m d;
  only = λ m d. elim (Contains-push_cases xs n m d) [ inl c ↦ inl c | inr q ↦ inr (sym q) ];
})

-- The test of a key

pub is_key_of : (s : Sleepers) (k : Ident) → is_key s k ≡ true → IsKey s k
is_key_of s k e = some_in (numbers_at s k) e

pub key_tested : (s : Sleepers) (k : Ident) → IsKey s k → is_key s k ≡ true
key_tested s k h = in_some (numbers_at s k) h.0 h.1

pub same_numbers : (old new : Sleepers) → new.lists ≡ old.lists → (y : Ident) → numbers_at new y ≡ numbers_at old y
same_numbers old new e y = ap (λ ls. unwrap_or (entry ls y) []) e

-- Writes

through : (b : Bool) (list : List ℕ) (o : Option (List ℕ)) → unwrap_or (if b then Some list else o) [] ≡ (if b then list else unwrap_or o [])
through true list o = refl
through false list o = refl

pub sets : (old new : Sleepers) (k : Ident) (list : List ℕ)
    → ((y : Ident) → entry new.lists y ≡ (if ident_eq y k then Some list else entry old.lists y)) → Sets old new k list
sets old new k list e y = ap (λ o. unwrap_or o []) (e y) ∙ through (ident_eq y k) list (entry old.lists y)

module _ (old new : Sleepers) (k : Ident) (list : List ℕ) (s : Sets old new k list) where
  pub set_here : numbers_at new k ≡ list
  set_here = s k ∙ ap (λ (b : Bool). if b then list else numbers_at old k) (ident_eq-refl k)

  pub set_other : (y : Ident) → ident_eq y k ≡ false → numbers_at new y ≡ numbers_at old y
  set_other y e = s y ∙ ap (λ (b : Bool). if b then list else numbers_at old y) e

-- A number more

pub admits_none : (k : Ident) (s : Sleepers) → is_key s k ≡ true → Admits k s s
admits_none k s e = record { lists = refl; here = λ l. l k (is_key_of s k e); kept = λ y c. c }

pub admits_push : (k : Ident) (old new : Sleepers) → new.lists ≡ old.lists → new.variables ≡ old.variables ++ k ∷ [] → Admits k old new
admits_push k old new l e = record {
  lists = l;
  here = λ h. subst (λ (xs : List Ident). Contains xs k) (sym e) (Contains-push old.variables k);
  kept = λ y c. subst (λ (xs : List Ident). Contains xs y) (sym e) (Contains-append_left old.variables (k ∷ []) y c);
}

module _ (n : ℕ) (k : Ident) (old middle new : Sleepers) (a : Admits k old middle) (list : List ℕ) (g : Gains n (numbers_at middle k) list)
    (w : (y : Ident) → entry new.lists y ≡ (if ident_eq y k then Some list else entry middle.lists y)) (v : new.variables ≡ middle.variables) where
  was : (y : Ident) → numbers_at middle y ≡ numbers_at old y
  was = same_numbers old middle a.lists

  lists : Sets old new k list
  lists y = sets middle new k list w y ∙ ap (λ (xs : List ℕ). if ident_eq y k then list else xs) (was y)

  pub enters : Enters n k old new
  enters = record {
    list = list;
    lists = lists;
    gains = subst (λ (xs : List ℕ). Gains n xs list) (was k) g;
    listed = λ l y h. subst (λ (xs : List Ident). Contains xs y) (sym v) (elim (decide (ident_eq y k)) [
      | inl q ↦ subst (Contains middle.variables) (sym (ident_eq-true y k q)) (a.here l)
      | inr q ↦ a.kept y (l y (h.0, subst (λ (xs : List ℕ). Contains xs h.0) (set_other old new k list lists y q) h.1))
    ]);
  }

-- Falling asleep

module _ (view : View) (n : ℕ) (x r : Ident) (old new : Sleepers) (e : Enters n r old new) (x_r : Same view x r)
    (alone : AreKeys view old → (l : Ident) → IsKey old l → Same view l r → l ≡ r) where
  here : numbers_at new r ≡ e.list
  here = set_here old new r e.list e.lists

  -- what stands in a list stood there, or in that of the key
  back : (k : Ident) (m : ℕ) → Contains (numbers_at new k) m → (k ≡ r) ⊎ Contains (numbers_at old k) m
  back k m c = elim (decide (ident_eq k r)) [
    | inl q ↦ inl (ident_eq-true k r q)
    | inr q ↦ inr (subst (λ (xs : List ℕ). Contains xs m) (set_other old new r e.list e.lists k q) c)
  ]

  forth : (k : Ident) (m : ℕ) → Contains (numbers_at old k) m → Contains (numbers_at new k) m
  forth k m c = elim (decide (ident_eq k r)) [
    | inl q ↦ (let p : k ≡ r = ident_eq-true k r q in
        subst (λ z. Contains (numbers_at new z) m) (sym p)
        (subst (λ (xs : List ℕ). Contains xs m) (sym here) (e.gains.kept m (subst (λ z. Contains (numbers_at old z) m) p c))))
    | inr q ↦ subst (λ (xs : List ℕ). Contains xs m) (sym (set_other old new r e.list e.lists k q)) c
  ]

  key_back : (k : Ident) → IsKey new k → (k ≡ r) ⊎ IsKey old k
  key_back k h = elim (back k h.0 h.1) [ inl q ↦ inl q | inr c ↦ inr (h.0, c) ]

  pub falls_one : FallsAsleep view n (x ∷ []) old new
  falls_one = record {
    keys = λ a. record {
      apart = λ k l hk hl s. elim (key_back k hk) [
        | inl p ↦ elim (key_back l hl) [
          | inl q ↦ p ∙ sym q
          | inr q ↦ p ∙ sym (alone a l q (reversed (subst (λ z. Same view z l) p s)))
        ]
        | inr p ↦ elim (key_back l hl) [
          | inl q ↦ alone a k p (subst (Same view k) q s) ∙ sym q
          | inr q ↦ a.apart k l p q s
        ]
      ];
      listed = e.listed a.listed;
    };
    found = λ y c. (r, subst (λ z. Same view z r) (only_one x y c) x_r, subst (λ (xs : List ℕ). Contains xs n) (sym here) e.gains.here);
    kept = λ m ys f y c. (let k = f y c in (k.0, k.1, forth k.0 m k.2));
    only = λ y m f. elim (back f.0 m f.2) [
      | inl p ↦ elim (e.gains.only m (subst (λ (xs : List ℕ). Contains xs m) here (subst (λ z. Contains (numbers_at new z) m) p f.2))) [
        | inl c ↦ inl (r, subst (Same view y) p f.1, c)
        | inr q ↦ inr (q, (x, one x, joined (subst (Same view y) p f.1) (reversed x_r)))
      ]
      | inr c ↦ inl (f.0, f.1, c)
    ];
  }

pub falls_none : (view : View) (n : ℕ) (s : Sleepers) → FallsAsleep view n [] s s
falls_none view n s = record { keys = λ a. a; found = λ y c. nothing_in y c; kept = λ m ys f. f; only = λ y m f. inl f }

pub meets_left : (view : View) (xs ys : List Ident) (k : Ident) → Meets view xs k → Meets view (xs ++ ys) k
meets_left view xs ys k m = (m.0, Contains-append_left xs ys m.0 m.1, m.2)

pub meets_right : (view : View) (xs ys : List Ident) (k : Ident) → Meets view ys k → Meets view (xs ++ ys) k
meets_right view xs ys k m = (m.0, Contains-append_right xs ys m.0 m.1, m.2)

pub falls_more : (view : View) (n : ℕ) (xs ys : List Ident) (a b c : Sleepers) → FallsAsleep view n xs a b → FallsAsleep view n ys b c → FallsAsleep view n (xs ++ ys) a c
falls_more view n xs ys a b c f g = record {
  keys = λ k. g.keys (f.keys k);
  found = λ y m. elim (Contains-append_cases xs ys y m) [ inl h ↦ g.kept n xs f.found y h | inr h ↦ g.found y h ];
  kept = λ m zs h. g.kept m zs (f.kept m zs h);
  only = λ y m h. elim (g.only y m h) [
    | inl i ↦ elim (f.only y m i) [ inl j ↦ inl j | inr j ↦ inr (j.0, meets_left view xs ys y j.1) ]
    | inr j ↦ inr (j.0, meets_right view xs ys y j.1)
  ];
}

-- Looks

pub root_same : (view : View) (t : Table) → IsPartition view t → (x r : Ident) → r ≡ root_in t x → Same view x r
root_same view t p x r e = (tests_same view x r).0 ((p.classes x r).1 (sym (p.roots x) ∙ ap (root_in t) (sym e)))

pub finds_root : (view : View) (s : Sleepers) (x r : Ident) → Same view x r → is_key s r ≡ true → Finds view s x (Some r)
finds_root view s x r x_r e = (e, x_r)

-- a variable that is alone, and whose root is no key
pub finds_alone : (view : View) (s : Sleepers) (x r : Ident) → Same view x r → is_key s r ≡ false → ((other : Ident) → same view other x ≡ true → other ≡ x)
    → Finds view s x None
finds_alone view s x r x_r e alone l k h x_k =
    let k_x : k ≡ x = alone k ((tests_same view k x).1 (reversed x_k)) in
    let r_x : r ≡ x = alone r ((tests_same view r x).1 (reversed x_r)) in
    not_both (is_key s k) (key_tested s k h) (ap (is_key s) (k_x ∙ sym r_x) ∙ e)

pub finds_none : (view : View) (s : Sleepers) (x : Ident) → ((k : Ident) → Contains s.variables k → (is_key s k && same view x k) ≡ false)
    → Finds view s x None
finds_none view s x none l k h x_k =
    not_both (is_key s k && same view x k) (and_both (is_key s k) (same view x k) (key_tested s k h) ((tests_same view x k).1 x_k)) (none k (l k h))

pub finds_here : (view : View) (s : Sleepers) (x k : Ident) → (is_key s k && same view x k) ≡ true → Finds view s x (Some k)
finds_here view s x k e = (and-left (is_key s k) (same view x k) e, (tests_same view x k).0 (and-right (is_key s k) (same view x k) e))

-- Gathering

has_alike : (xs ys : List ℕ) → xs ≡ ys → (n : ℕ) → Contains xs n → Contains ys n
has_alike xs ys e n c = subst (λ (zs : List ℕ). Contains zs n) e c

pub gather_first : (old new : Sleepers) → ((k : Ident) → numbers_at new k ≡ []) → Gathered old [] new
gather_first old new none = record {
  same = λ k h. absurd (no_key k h);
  kept = λ k c h. nothing_in k c;
  listed = λ k h. absurd (no_key k h);
}
  where
    no_key : (k : Ident) → IsKey new k → ⊥
    no_key k h = nothing_in h.0 (has_alike (numbers_at new k) [] (none k) h.0 h.1)

module _ (old : Sleepers) (seen : List Ident) (key : Ident) (before : Sleepers) (g : Gathered old seen before) where
  -- a variable that is no key, or stands there already
  pub gather_none : (IsKey old key → IsKey before key) → Gathered old (seen ++ key ∷ []) before
  gather_none none = record {
    same = g.same;
    kept = λ k c h. elim (Contains-push_cases seen key k c) [
      | inl d ↦ g.kept k d h
      | inr q ↦ subst (IsKey before) q (none (subst (IsKey old) (sym q) h))
    ];
    listed = g.listed;
  }

  -- a key
  module _ (after : Sleepers) (list : List ℕ) (e : list ≡ numbers_at old key) (s : Sets before after key list) (v : after.variables ≡ before.variables ++ key ∷ []) where
    pub gather_key : Gathered old (seen ++ key ∷ []) after
    gather_key = record {
      same = λ k h. elim (decide (ident_eq k key)) [
        | inl q ↦ subst (λ z. numbers_at after z ≡ numbers_at old z) (sym (ident_eq-true k key q)) (set_here before after key list s ∙ e)
        | inr q ↦ set_other before after key list s k q
            ∙ g.same k (h.0, has_alike (numbers_at after k) (numbers_at before k) (set_other before after key list s k q) h.0 h.1)
      ];
      kept = λ k c h. elim (decide (ident_eq k key)) [
        | inl q ↦ (let p : k ≡ key = ident_eq-true k key q in
            subst (IsKey after) (sym p) (let i : IsKey old key = subst (IsKey old) p h in
            (i.0, has_alike (numbers_at old key) (numbers_at after key) (sym (set_here before after key list s ∙ e)) i.0 i.1)))
        | inr q ↦ elim (Contains-push_cases seen key k c) [
          | inl d ↦ (let i = g.kept k d h in (i.0, has_alike (numbers_at before k) (numbers_at after k) (sym (set_other before after key list s k q)) i.0 i.1))
          | inr p ↦ absurd (not_both (ident_eq k key) (subst (λ z. ident_eq z key ≡ true) p (ident_eq-refl key)) q)
        ]
      ];
      listed = λ k h. subst (λ (xs : List Ident). Contains xs k) (sym v) (elim (decide (ident_eq k key)) [
        | inl q ↦ subst (Contains (before.variables ++ key ∷ [])) (sym (ident_eq-true k key q)) (Contains-push before.variables key)
        | inr q ↦ Contains-append_left before.variables (key ∷ []) k
            (g.listed k (h.0, has_alike (numbers_at after k) (numbers_at before k) (set_other before after key list s k q) h.0 h.1))
      ]);
    }

pub tidies_none : (s : Sleepers) → AreListed s → Tidies s s
tidies_none s l = record { kept = λ k n c. c; only = λ k n c. c; listed = l }

pub tidies : (old new : Sleepers) → Gathered old old.variables new → AreListed old → Tidies old new
tidies old new g l = record {
  kept = λ k n c. has_alike (numbers_at old k) (numbers_at new k) (sym (g.same k (g.kept k (l k (n, c)) (n, c)))) n c;
  only = λ k n c. has_alike (numbers_at new k) (numbers_at old k) (g.same k (n, c)) n c;
  listed = g.listed;
}

-- Items that were passed

pub taken : {A : Type 0} (xs : List A) (i : ℕ) (x : A) → slice_get xs i ≡ Some x → take (i + 1) xs ≡ take i xs ++ x ∷ []
taken xs i x e = take_more xs i x (slice_get_within xs i x e) ∙ ap (λ y. take i xs ++ y ∷ []) (get_or_from_slice_get xs i x x e)

pub taken_item : {A : Type 0} (xs : List A) (i : ℕ) (x : A) → i < length xs → x ≡ get_or xs i x → take (i + 1) xs ≡ take i xs ++ x ∷ []
taken_item xs i x h e = take_more xs i x h ∙ ap (λ y. take i xs ++ y ∷ []) (sym e)

pub none_more : (test : Ident → Bool) (xs : List Ident) (i : ℕ) (x : Ident) → slice_get xs i ≡ Some x → test x ≡ false
    → ((y : Ident) → Contains (take i xs) y → test y ≡ false) → (y : Ident) → Contains (take (i + 1) xs) y → test y ≡ false
none_more test xs i x at e none y c = elim (Contains-push_cases (take i xs) x y (subst (λ (ys : List Ident). Contains ys y) (taken xs i x at) c)) [
  | inl d ↦ none y d
  | inr q ↦ subst (λ z. test z ≡ false) q e
]

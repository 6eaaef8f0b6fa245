-- What tells one after another come to.
use Rattle.std.proofs.Common.{ℕ, ◌+◌, ◌<◌, ◌≤◌, ◌≡◌, ◌∙◌, ◌⊎◌, inl, inr, Bool, true, false, not, if◌then◌else◌, List, [], ◌∷◌, ◌++◌, length, Option, Some, None, is_some, refl, sym, ap, ap₂, subst, arith, append_assoc, append-nil, take, drop, get_or}
use Rattle.std.specs.Prelude.{Contains}
use Rattle.std.specs.FinSet as set
use Rattle.std.proofs.lemmas.Bool.{false≢true}
use Rattle.std.proofs.lemmas.List.{take_more, take-append-drop, take_all}
use Rattle.std.proofs.lemmas.List.Elements.{Contains-append_cases}
use Rattle.oz_base.specs.Lists.{given_or, first_given, holds_of}
use Rattle.oz_base.specs.declared.interval.Interval.{Interval}
use Rattle.oz_base.specs.declared.names.Ident.{Ident}
use Rattle.oz_domains.specs.Domains.{IntSet, is_within}
use Rattle.fd_domain.proofs.SetLaws.{same_members}
use Rattle.oz_laws.proofs.DomainLaws.{meet-has, has-meet, within-among}
use Rattle.oz_laws.proofs.SameLaws.{tests_same}
use Rattle.oz_laws.proofs.StoreLaws.{told_row, domain_row}
use Rattle.oz_laws.specs.Touched.{Meets, Touches}
use Rattle.oz_semantics.specs.Store.{Same, reversed, same, value_given, told_value, told_domain, domain_of, domain_by, is_news, is_consistent}
use Rattle.oz_semantics.specs.declared.value.Value.{Value}
use Rattle.oz_semantics.specs.declared.value.Tell.{Tell}
use Rattle.oz_semantics.specs.declared.value.Tell.TheVariants.{Equal, Is, Within}
use Rattle.term_store.specs.Bounds.{meets, left_by}
use Rattle.term_store.specs.Classes.{Table}
use Rattle.term_store.specs.Closing.{Going}
use Rattle.term_store.specs.Telling.{Notes, IsTold}
use Rattle.term_store.proofs.AnswerLaws.{store_consistent}
use Rattle.term_store.proofs.BoundLaws.{left_append, left_same, some_left, among_left, meets_none}
use Rattle.term_store.proofs.ClosingLaws.{head_in, tail_in, cons_cases, none_in, Same-prefix, inconsistent_more}
use Rattle.term_store.proofs.ToldLaws.{some_told, given_by, value_from}
use Rattle.term_store.proofs.TrailLaws.{meets_joined, meets_left, meets_right}

-- Whether a variable is equal to one of a list

decided_meets : (ts : List Tell) (xs : List Ident) (x : Ident) → Meets ts xs x ⊎ (Meets ts xs x → ⊥)
decided_meets ts [] x = inr (λ m. none_in m.0 m.1)
decided_meets ts (y ∷ ys) x = by (same ts x y) refl (decided_meets ts ys x)
  where
    by : (b : Bool) → same ts x y ≡ b → Meets ts ys x ⊎ (Meets ts ys x → ⊥) → Meets ts (y ∷ ys) x ⊎ (Meets ts (y ∷ ys) x → ⊥)
    by true e rest = inl (y, head_in y ys, (tests_same ts x y).0 e)
    by false e (inl m) = inl (m.0, tail_in y m.0 ys m.1, m.2)
    by false e (inr n) = inr (λ m. elim (cons_cases y m.0 ys m.1) [
      | inl k ↦ false≢true (sym e ∙ (tests_same ts x y).1 (subst (Same ts x) (sym k) m.2))
      | inr c ↦ n (m.0, c, m.2)
    ])

given_append : {A B : Type 0} (f : A → Option B) (xs ys : List A) → first_given f (xs ++ ys) ≡ given_or (first_given f xs) (first_given f ys)
given_append f [] ys = refl
given_append {A} {B} f (x ∷ xs) ys = ap (given_or (f x)) (given_append f xs ys) ∙ by (f x)
  where
    by : (o : Option B) → given_or o (given_or (first_given f xs) (first_given f ys)) ≡ given_or (given_or o (first_given f xs)) (first_given f ys)
    by None = refl
    by (Some v) = refl

-- Tells one after another

meets_before : (ts us : List Tell) (xs ys : List Ident) → Touches ts us xs → (x : Ident) → Meets (ts ++ us) ys x → Meets ts (xs ++ ys) x
meets_before ts us xs ys h x m = elim (h.joins x m.0 m.2) [
  | inl s ↦ meets_right ts xs ys x (m.0, m.1, s)
  | inr k ↦ meets_left ts xs ys x k
]

valued_told : (ts : List Tell) (x y : Ident) (v : Value) → Contains ts (Is y v) → Same ts x y → is_some (told_value ts x) ≡ true
valued_told ts x y v d s = let u = some_told ts y v d in ap is_some (told_row ts x y s ∙ u.1)

module _ (ts us : List Tell) (xs : List Ident) (h : Touches ts us xs) where
  value_before : (x y : Ident) (v : Value) → Contains ts (Is y v) ⊎ Contains us (Is y v) → Same (ts ++ us) y x → (is_some (told_value ts x) ≡ true) ⊎ Meets ts xs x
  value_before x y v (inl d) s = elim (h.joins x y (reversed s)) [
    | inl k ↦ inl (valued_told ts x y v d k)
    | inr m ↦ inr m
  ]
  value_before x y v (inr d) s = elim (h.joins x y (reversed s)) [
    | inl k ↦ elim (h.binds y v d) [ inl e ↦ inl (ap is_some (told_row ts x y k) ∙ e) | inr m ↦ inr (meets_joined ts xs x y k m) ]
    | inr m ↦ inr m
  ]

  told_before : (x : Ident) → is_some (told_value (ts ++ us) x) ≡ true → (is_some (told_value ts x) ≡ true) ⊎ Meets ts xs x
  told_before x e = by (told_value (ts ++ us) x) refl e
    where
      by : (o : Option Value) → told_value (ts ++ us) x ≡ o → is_some o ≡ true → (is_some (told_value ts x) ≡ true) ⊎ Meets ts xs x
      by None k f = absurd (false≢true f)
      by (Some v) k f = let g = value_from (ts ++ us) x v k in value_before x g.variable v (Contains-append_cases ts us (Is g.variable v) g.told) g.class

  -- what is known of a variable that is equal to none of the list
  module _ (x : Ident) (unmet : Meets ts xs x → ⊥) where
    abbrev test : Ident → Bool
    test y = same ts y x

    same_class : (y : Ident) → same (ts ++ us) y x ≡ same ts y x
    same_class y = by (same (ts ++ us) y x) (same ts y x) refl refl
      where
        by : (a b : Bool) → same (ts ++ us) y x ≡ a → same ts y x ≡ b → a ≡ b
        by true true e f = refl
        by false false e f = refl
        by true false e f = elim (h.joins x y (reversed ((tests_same (ts ++ us) y x).0 e))) [
          | inl k ↦ sym ((tests_same ts y x).1 (reversed k)) ∙ f
          | inr m ↦ absurd (unmet m)
        ]
        by false true e f = sym e ∙ (tests_same (ts ++ us) y x).1 (Same-prefix ts us ((tests_same ts y x).0 f))

    same_tests : (λ y. same (ts ++ us) y x) ≡ test
    same_tests = λ i y. same_class y i

    meets_class : (y : Ident) → Same ts y x → Meets ts xs y → ⊥
    meets_class y s m = unmet (meets_joined ts xs x y (reversed s) m)

    more_values : told_value (ts ++ us) x ≡ given_or (told_value ts x) (first_given (value_given test) us)
    more_values = ap (λ p. first_given (value_given p) (ts ++ us)) same_tests ∙ given_append (value_given test) ts us

    more_domains : told_domain (ts ++ us) x ≡ meets (told_domain ts x) (left_by test us)
    more_domains = left_same (λ y. same (ts ++ us) y x) test (ts ++ us) same_class ∙ left_append test ts us

    -- a class that was told no value is told none
    no_value : told_value ts x ≡ None → first_given (value_given test) us ≡ None
    no_value none = by (first_given (value_given test) us) refl
      where
        of_tell : (t : Tell) (v : Value) → Contains us t → value_given test t ≡ Some v → ⊥
        of_tell (Equal a b) v c q = cc
        of_tell (Within a is) v c q = cc
        of_tell (Is y w) v c q = by_test (same ts y x) refl q
          where
            by_test : (b : Bool) → same ts y x ≡ b → (if b then Some w else None) ≡ Some v → ⊥
            by_test false k p = cc
            by_test true k p =
                let s = (tests_same ts y x).0 k in
                elim (h.binds y w c) [
                  | inl e ↦ false≢true (sym (ap is_some (told_row ts y x s ∙ none)) ∙ e)
                  | inr m ↦ meets_class y s m
                ]

        by : (o : Option Value) → first_given (value_given test) us ≡ o → o ≡ None
        by None e = refl
        by (Some v) e = let g = given_by (value_given test) us v e in absurd (of_tell g.0 v g.1 g.2)

    -- and the domains that it is told it kept to
    kept_domain : told_value ts x ≡ None → meets (told_domain ts x) (left_by test us) ≡ told_domain ts x
    kept_domain none = by (told_domain ts x) (left_by test us) refl refl
      where
        kept_to : (y : Ident) (is : List Interval) → Contains us (Within y is) → test y ≡ true → holds_of (is_within is) (told_domain ts x) ≡ true
        kept_to y is c k =
            let s = (tests_same ts y x).0 k in
            let known : domain_of ts y ≡ told_domain ts x = domain_row ts y x s ∙ ap (λ o. domain_by o (told_domain ts x)) none in
            elim (h.narrows y is c) [
              | inl e ↦ ap (holds_of (is_within is)) (sym known) ∙ not_not (holds_of (is_within is) (domain_of ts y)) e
              | inr m ↦ absurd (meets_class y s m)
            ]
          where
            not_not : (b : Bool) → not b ≡ false → b ≡ true
            not_not true q = refl
            not_not false q = absurd (false≢true (sym q))

        by : (a b : Option IntSet) → told_domain ts x ≡ a → left_by test us ≡ b → meets a b ≡ a
        by a None e f = meets_none a
        by None (Some u) e f = let t = (some_left test us u f).1 in absurd (false≢true (sym (ap (holds_of (is_within t.intervals)) e) ∙ kept_to t.variable t.intervals t.told t.passes))
        by (Some s) (Some u) e f =
            ap (λ (z : IntSet). Some z) (same_members (set.intersection s u) s (λ n k. (meet-has s u n k).0)
            (λ n k. has-meet s u n k (among_left test us u n f (λ y js c p. within-among js s (sym (ap (holds_of (is_within js)) e) ∙ kept_to y js c p) n k))))

    same_domain : domain_of (ts ++ us) x ≡ domain_of ts x
    same_domain = by (told_value ts x) refl
      where
        by : (o : Option Value) → told_value ts x ≡ o → domain_of (ts ++ us) x ≡ domain_of ts x
        by (Some v) e =
            ap (λ k. domain_by k (told_domain (ts ++ us) x)) (more_values ∙ ap (λ k. given_or k (first_given (value_given test) us)) e)
            ∙ ap (λ k. domain_by k (told_domain ts x)) (sym e)
        by None e =
            ap₂ domain_by (more_values ∙ ap₂ given_or e (no_value e)) (more_domains ∙ kept_domain e)
            ∙ ap (λ k. domain_by k (told_domain ts x)) (sym e)

  news_before : (x : Ident) (is : List Interval) → is_news (ts ++ us) (Within x is) ≡ false → (is_news ts (Within x is) ≡ false) ⊎ Meets ts xs x
  news_before x is e = elim (decided_meets ts xs x) [
    | inl m ↦ inr m
    | inr n ↦ inl (ap (λ d. not (holds_of (is_within is) d)) (sym (same_domain x n)) ∙ e)
  ]

  touches_more : (vs : List Tell) (ys : List Ident) → Touches (ts ++ us) vs ys → Touches ts (us ++ vs) (xs ++ ys)
  touches_more vs ys k = record {
    joins = λ x y s. elim (k.joins x y (subst (λ ws. Same ws x y) (sym (append_assoc ts us vs)) s)) [
      | inl e ↦ elim (h.joins x y e) [ inl f ↦ inl f | inr m ↦ inr (meets_left ts xs ys x m) ]
      | inr m ↦ inr (meets_before ts us xs ys h x m)
    ];
    binds = λ x v d. elim (Contains-append_cases us vs (Is x v) d) [
      | inl e ↦ elim (h.binds x v e) [ inl f ↦ inl f | inr m ↦ inr (meets_left ts xs ys x m) ]
      | inr e ↦ elim (k.binds x v e) [
        | inl f ↦ elim (told_before x f) [ inl n ↦ inl n | inr m ↦ inr (meets_left ts xs ys x m) ]
        | inr m ↦ inr (meets_before ts us xs ys h x m)
      ]
    ];
    narrows = λ x is d. elim (Contains-append_cases us vs (Within x is) d) [
      | inl e ↦ elim (h.narrows x is e) [ inl f ↦ inl f | inr m ↦ inr (meets_left ts xs ys x m) ]
      | inr e ↦ elim (k.narrows x is e) [
        | inl f ↦ elim (news_before x is f) [ inl n ↦ inl n | inr m ↦ inr (meets_left ts xs ys x m) ]
        | inr m ↦ inr (meets_before ts us xs ys h x m)
      ]
    ];
  }

module _ (ts us vs now new : List Tell) (start before after : List Ident) (first : IsTold ts us now start before true) where
  pub told_on : IsTold now vs new before after true → IsTold ts (us ++ vs) new start after true
  told_on next =
      let notes = first.2 in
      let more : Notes (ts ++ us) vs before after = subst (λ ws. Notes ws vs before after) first.0 next.2 in (
        next.0 ∙ ap (λ ws. ws ++ vs) first.0 ∙ append_assoc ts us vs,
        subst (λ ws. is_consistent ws ≡ true) (ap (λ ws. ws ++ vs) first.0 ∙ append_assoc ts us vs) next.1,
        record {
          more = notes.more ++ more.more;
          noted = more.noted ∙ ap (λ xs. xs ++ more.more) notes.noted ∙ append_assoc start notes.more more.more;
          touches = touches_more ts us notes.more notes.touches vs more.more more.touches;
        },
      )

  pub clashed_on : (rest : List Tell) → is_consistent (now ++ vs) ≡ false → is_consistent (((ts ++ us) ++ vs) ++ rest) ≡ false
  clashed_on rest e = subst (λ ws. is_consistent ws ≡ false) all_told (inconsistent_more (now ++ vs) rest e)
    where
      all_told : (now ++ vs) ++ rest ≡ ((ts ++ us) ++ vs) ++ rest
      all_told = ap (λ ws. (ws ++ vs) ++ rest) first.0

pub told_nothing : (ts : List Tell) (start : List Ident) → is_consistent ts ≡ true → IsTold ts [] ts start start true
told_nothing ts start e = (
  sym (append-nil ts),
  subst (λ ws. is_consistent ws ≡ true) (sym (append-nil ts)) e,
  record {
    more = [];
    noted = sym (append-nil start);
    touches = record { joins = λ x y s. inl (subst (λ ws. Same ws x y) (append-nil ts) s); binds = λ x v d. none_in (Is x v) d; narrows = λ x is d. none_in (Within x is) d };
  },
)

-- One of a list is told

module _ (ts tells : List Tell) (i : ℕ) (item : Tell) (l : i < length tells) (is : item ≡ get_or tells i item) (now new : List Tell) (start before after : List Ident) (goes : Bool)
    (so_far : IsTold ts (take i tells) now start before true) (next : IsTold now (item ∷ []) new before after goes) where
  taken_more : take (i + 1) tells ≡ take i tells ++ item ∷ []
  taken_more = take_more tells i item l ∙ ap (λ t. take i tells ++ t ∷ []) (sym is)

  pub each_goes : goes ≡ true → IsTold ts (take (i + 1) tells) new start after true
  each_goes e =
      subst (λ us. IsTold ts us new start after true) (sym taken_more)
      (told_on ts (take i tells) (item ∷ []) now new start before after so_far (subst (IsTold now (item ∷ []) new before after) e next))

  pub each_clashes : goes ≡ false → is_consistent (ts ++ tells) ≡ false
  each_clashes e =
      let clashes : IsTold now (item ∷ []) new before after false = subst (IsTold now (item ∷ []) new before after) e next in
      let rest = drop (i + 1) tells in
      let parts : ((ts ++ take i tells) ++ item ∷ []) ++ rest ≡ ts ++ tells =
      ap (λ us. us ++ rest) (append_assoc ts (take i tells) (item ∷ []) ∙ ap (λ us. ts ++ us) (sym taken_more)) ∙ append_assoc ts (take (i + 1) tells) rest ∙ ap (λ us. ts ++ us) (take-append-drop (i + 1) tells) in
      subst (λ us. is_consistent us ≡ false) parts (clashed_on ts (take i tells) (item ∷ []) now new start before after so_far rest clashes.1)

pub each_ends : (ts tells : List Tell) (i : ℕ) → length tells ≤ i → (now : List Tell) (start after : List Ident) → IsTold ts (take i tells) now start after true → (new : List Tell) → new ≡ now → IsTold ts tells new start after true
each_ends ts tells i l now start after told new e = subst (λ ws. IsTold ts tells ws start after true) (sym e) (subst (λ us. IsTold ts us now start after true) (take_all i tells l) told)

pub told_empty : (ts tells : List Tell) (t : Table) → Going ts t [] → length tells ≡ 0 → (start : List Ident) → IsTold ts tells ts start start true
told_empty ts [] t c e start = told_nothing ts start (store_consistent ts t c)
told_empty ts (u ∷ us) t c e start = absurd (omega (arith, e))

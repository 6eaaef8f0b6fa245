-- What one tell comes to.
use Rattle.std.proofs.Common.{ℕ, ◌≡◌, ◌∙◌, ◌⊎◌, inl, inr, Bool, true, false, if◌then◌else◌, List, [], ◌∷◌, ◌++◌, length, Option, Some, None, is_some, refl, sym, ap, ap₂, subst, arith, append-nil}
use Rattle.std.specs.Prelude.{Contains}
use Rattle.std.specs.List.{zip}
use Rattle.std.proofs.lemmas.Bool.{false≢true}
use Rattle.std.proofs.lemmas.List.Elements.{Contains-append_left, Contains-push}
use Rattle.oz_base.specs.IdentLaws.{ident_eq-equal, ident_eq-itself}
use Rattle.oz_base.specs.Names.{ident_eq}
use Rattle.oz_base.specs.declared.interval.Interval.{Interval}
use Rattle.oz_base.specs.declared.names.Ident.{Ident}
use Rattle.oz_domains.specs.Domains.{IntSet, union}
use Rattle.oz_laws.specs.Touched.{Meets}
use Rattle.oz_semantics.specs.Store.{Same, itself, set_given, told_value, is_news, is_consistent}
use Rattle.oz_semantics.specs.Values.{is_like, fields_of}
use Rattle.oz_semantics.specs.declared.value.Value.{Value}
use Rattle.oz_semantics.specs.declared.value.Tell.{Tell}
use Rattle.oz_semantics.specs.declared.value.Tell.TheVariants.{Equal, Is, Within}
use Rattle.term_store.specs.Bounds.{meets, admits, has_value, left_by, AreDomain, Suits, Keeps, Bounded}
use Rattle.term_store.specs.Classes.{Table, root_in, first_in, domain_in, kept_in, instead, is_nothing, Marks, Unites, UnitesFree}
use Rattle.term_store.specs.Closing.{Closing, Going, Tied, Settles}
use Rattle.term_store.specs.Places.{value_told, value_at, value_place}
use Rattle.term_store.specs.Telling.{IsTold}
use Rattle.term_store.specs.declared.cell.Kept.{Kept}
use Rattle.term_store.proofs.AnswerLaws.{store_consistent, place_at, told_at_place}
use Rattle.term_store.proofs.BoundLaws.{left_push, meets_none, bounded_by, bounded_more, bounded_first, bounded_within, bounded_join}
use Rattle.term_store.proofs.ClassLaws.{one, two, decided, root_same, nothing_is}
use Rattle.term_store.proofs.ClosingLaws.{head_in, tail_in, cons_cases, none_in, some_is, in_place, last_at, Same-prefix, closing_by, closing_skip, whole, one_class, more_equal, more_within, value_before, more_free, more_like, more_differs}
use Rattle.term_store.proofs.ConsistencyLaws.{clash_empty, clash_value}
use Rattle.term_store.proofs.JoiningLaws.{Turn, free as fit_free, joins}
use Rattle.term_store.proofs.TrailLaws.{tied_join}

-- What a store was told, by what it became

abbrev pub Bound : List Tell → Tell → List Ident → Type 0
Bound ts t more = (x : Ident) (v : Value) → Contains (t ∷ []) (Is x v) → (is_some (told_value ts x) ≡ true) ⊎ Meets ts more x

abbrev pub Narrowed : List Tell → Tell → List Ident → Type 0
Narrowed ts t more = (x : Ident) (is : List Interval) → Contains (t ∷ []) (Within x is) → (is_news ts (Within x is) ≡ false) ⊎ Meets ts more x

pub told_by : (ts : List Tell) (t : Table) (tell : Tell) (more new : List Ident) (us : List Tell) (before : List Ident)
    → Going (ts ++ tell ∷ []) t [] → Tied ts more (root_in t) → Bound ts tell more → Narrowed ts tell more → us ≡ ts ++ tell ∷ [] → new ≡ before ++ more → IsTold ts (tell ∷ []) us before new true
told_by ts t tell more new us before c tied bound narrowed e noted = (
  e,
  store_consistent (ts ++ tell ∷ []) t c,
  record {
    more = more;
    noted = noted;
    touches = record {
      joins = λ x y s. elim (tied x y (whole (ts ++ tell ∷ []) (root_in t) (first_in t) c.values s)) [ inl k ↦ inl k | inr m ↦ inr m.0 ];
      binds = bound;
      narrows = narrowed;
    };
  },
)

equal_binds : (ts : List Tell) (x y : Ident) (more : List Ident) → Bound ts (Equal x y) more
equal_binds ts x y more z v d = elim (cons_cases (Equal x y) (Is z v) [] d) [ inl e ↦ absurd (cc) | inr n ↦ none_in (Is z v) n ]

equal_narrows : (ts : List Tell) (x y : Ident) (more : List Ident) → Narrowed ts (Equal x y) more
equal_narrows ts x y more z is d = elim (cons_cases (Equal x y) (Within z is) [] d) [ inl e ↦ absurd (cc) | inr n ↦ none_in (Within z is) n ]

value_narrows : (ts : List Tell) (x : Ident) (v : Value) (more : List Ident) → Narrowed ts (Is x v) more
value_narrows ts x v more z is d = elim (cons_cases (Is x v) (Within z is) [] d) [ inl e ↦ absurd (cc) | inr n ↦ none_in (Within z is) n ]

domain_binds : (ts : List Tell) (x : Ident) (is : List Interval) (more : List Ident) → Bound ts (Within x is) more
domain_binds ts x is more z v d = elim (cons_cases (Within x is) (Is z v) [] d) [ inl e ↦ absurd (cc) | inr n ↦ none_in (Is z v) n ]

value_binds : (ts : List Tell) (x : Ident) (v : Value) → Bound ts (Is x v) (x ∷ [])
value_binds ts x v z w d = elim (cons_cases (Is x v) (Is z w) [] d) [
  | inl e ↦ (let is : x ≡ z = cc in inr (x, head_in x [], subst (λ y. Same ts y x) is itself))
  | inr n ↦ none_in (Is z w) n
]

domain_narrows : (ts : List Tell) (x : Ident) (is : List Interval) → Narrowed ts (Within x is) (x ∷ [])
domain_narrows ts x is z js d = elim (cons_cases (Within x is) (Within z js) [] d) [
  | inl e ↦ (let same_x : x ≡ z = cc in inr (x, head_in x [], subst (λ y. Same ts y x) same_x itself))
  | inr n ↦ none_in (Within z js) n
]

tied_none : (ts : List Tell) (t : Table) → Going ts t [] → Tied ts [] (root_in t)
tied_none ts t c x y e = inl (one_class ts (root_in t) (first_in t) c.values x y e)

-- a tell that gives no domain
more_bounds : (ts : List Tell) (t : Table) → Going ts t [] → (tell : Tell) → ((p : Ident → Bool) → set_given p tell ≡ None) → Bounded (ts ++ tell ∷ []) (root_in t) (first_in t) (domain_in t)
more_bounds ts t c tell none = bounded_more ts (root_in t) (first_in t) (domain_in t) c.bounds tell (λ r p v e k q. value_before ts (root_in t) (first_in t) c.values tell r p v e k q) none

equated : (ts : List Tell) (t : Table) → Going ts t [] → (x y : Ident) → Going (ts ++ Equal x y ∷ []) t ((x, y) ∷ [])
equated ts t c x y = record { values = more_equal ts (root_in t) (first_in t) c.values x y; bounds = more_bounds ts t c (Equal x y) (λ p. refl) }

-- An equation of two variables of one class
known_equation : (ts : List Tell) (t : Table) → Going ts t [] → (x y : Ident) → root_in t x ≡ root_in t y → Going (ts ++ Equal x y ∷ []) t []
known_equation ts t c x y e = let k = equated ts t c x y in record { values = closing_skip (ts ++ Equal x y ∷ []) (root_in t) (first_in t) [] x y k.values e; bounds = k.bounds }

-- A value of a class that has none

module _ (ts : List Tell) (t : Table) (c : Going ts t []) (x : Ident) (r : Ident) (root : r ≡ root_in t x) where
  abbrev test : Ident → Bool
  test y = ident_eq (root_in t y) r

  r_root : root_in t r ≡ r
  r_root = ap (root_in t) root ∙ c.values.idem x ∙ sym root

  -- the class of x, whatever is told besides
  of_class : (tell : Tell) (y : Ident) → test y ≡ true → Same (ts ++ tell ∷ []) y r
  of_class tell y e = Same-prefix ts (tell ∷ []) (subst (Same ts y) (ident_eq-equal (root_in t y) r e) (c.values.sound y))

  same_x : (tell : Tell) → Same (ts ++ tell ∷ []) x r
  same_x tell = Same-prefix ts (tell ∷ []) (subst (Same ts x) (sym root) (c.values.sound x))

  module _ (v : Value) where
    left_value : left_by test (ts ++ Is x v ∷ []) ≡ domain_in t r
    left_value = left_push test ts (Is x v) ∙ meets_none (left_by test ts) ∙ sym (c.bounds.left r r_root)

    -- that is no integer of its domain
    pub value_outside : (domain : Option IntSet) → domain ≡ domain_in t r → admits domain v ≡ false → is_consistent (ts ++ Is x v ∷ []) ≡ false
    value_outside None e f = absurd (false≢true (sym f))
    value_outside (Some s) e f =
        clash_value (ts ++ Is x v ∷ []) test r (of_class (Is x v)) x v s (left_value ∙ sym e) (Contains-push ts (Is x v)) (same_x (Is x v)) f

    module _ (t' : Table) (none : first_in t r ≡ None) (content : Kept) (m : Marks t t' r content) (first : content.first ≡ Some (length ts)) (domain : content.domain ≡ domain_in t r) (inside : admits (domain_in t r) v ≡ true) where
      first_here : first_in t' r ≡ Some (length ts)
      first_here = ap (λ (k : Kept). k.first) m.here ∙ first

      firsts : (z : Ident) → (z ≡ r → ⊥) → first_in t' z ≡ first_in t z
      firsts z ne = ap (λ (k : Kept). k.first) (m.others z ne)

      domains : (z : Ident) → domain_in t' z ≡ domain_in t z
      domains z = elim (decided z r) [
        | one e ↦ ap (domain_in t') e ∙ ap (λ (k : Kept). k.domain) m.here ∙ domain ∙ ap (domain_in t) (sym e)
        | two ne ↦ ap (λ (k : Kept). k.domain) (m.others z ne)
      ]

      admitted : (d : Option IntSet) (s : IntSet) → admits d v ≡ true → d ≡ Some s → has_value s v ≡ true
      admitted None s a e = absurd (cc)
      admitted (Some u) s a e = let is : u ≡ s = cc in subst (λ z. has_value z v ≡ true) is a

      suits_here : Suits (ts ++ Is x v ∷ []) (first_in t' r) (domain_in t r)
      suits_here p w s ep ew es =
          let at : length ts ≡ p = some_is (length ts) p (sym first_here ∙ ep) in
          let value_is : v ≡ w = some_is v w (ap value_told (sym (last_at ts (Is x v))) ∙ ap (value_at (ts ++ Is x v ∷ [])) at ∙ ew) in
          subst (λ z. has_value s z ≡ true) value_is (admitted (domain_in t r) s inside es)

      bounds : Bounded (ts ++ Is x v ∷ []) (root_in t) (first_in t') (domain_in t)
      bounds = bounded_first ts (root_in t) (first_in t) (domain_in t) c.bounds (Is x v) (λ q p w e k n. value_before ts (root_in t) (first_in t) c.values (Is x v) q p w e k n) (λ p. refl) (first_in t') r suits_here firsts

      values : Closing (ts ++ Is x v ∷ []) (root_in t) (first_in t') []
      values = more_free ts (root_in t) (first_in t) c.values (first_in t') x v (ap (first_in t) (sym root) ∙ none) (ap (first_in t') (sym root) ∙ first_here) (λ z ne. firsts z (λ e. ne (e ∙ root)))

      value_going : Going (ts ++ Is x v ∷ []) t' []
      value_going = record {
        values = closing_by (ts ++ Is x v ∷ []) (root_in t) (first_in t') (root_in t') (first_in t') [] (root_same t t' m.links) (λ z. refl) values;
        bounds = bounded_by (ts ++ Is x v ∷ []) (root_in t) (root_in t') (first_in t') (first_in t') (domain_in t) (domain_in t') (root_same t t' m.links) (λ z. refl) domains bounds;
      }

  marked_tied : (t' : Table) (content : Kept) → Marks t t' r content → Tied ts (x ∷ []) (root_in t')
  marked_tied t' content m a b e = inl (one_class ts (root_in t) (first_in t) c.values a b (sym (root_same t t' m.links a) ∙ e ∙ root_same t t' m.links b))

  -- A domain of a class

  module _ (is : List Interval) where
    set_here : set_given (λ y. ident_eq (root_in t y) r) (Within x is) ≡ Some (union is)
    set_here = ap (λ (b : Bool). if b then Some (union is) else None) (ap (λ z. ident_eq z r) (sym root) ∙ ident_eq-itself r)

    left_domain : left_by test (ts ++ Within x is ∷ []) ≡ meets (domain_in t r) (Some (union is))
    left_domain = left_push test ts (Within x is) ∙ ap₂ meets (sym (c.bounds.left r r_root)) set_here

    -- of which nothing is left, or that has not its value
    pub domain_clashes : (first : Option ℕ) → first ≡ first_in t r → Keeps ts first (domain_in t r) (Some (union is)) None → is_consistent (ts ++ Within x is ∷ []) ≡ false
    domain_clashes first e (inl k) = clash_empty (ts ++ Within x is ∷ []) test r (of_class (Within x is)) (left_domain ∙ k)
    domain_clashes first e (inr k) =
        let a = c.values.firsts r k.place r_root (sym e ∙ k.found) in
        let value_is : a.value ≡ k.value = some_is a.value k.value (ap value_told (sym a.told) ∙ k.told) in
        let told = Contains-append_left ts (Within x is ∷ []) (Is a.variable k.value) (in_place ts (Is a.variable k.value) k.place (a.told ∙ ap (λ z. Some (Is a.variable z)) value_is)) in
        clash_value (ts ++ Within x is ∷ []) test r (of_class (Within x is)) a.variable k.value k.integers (left_domain ∙ k.left) told
        (of_class (Within x is) a.variable (ap (λ z. ident_eq z r) a.class ∙ ident_eq-itself r)) k.missing

    module _ (t' : Table) (first : Option ℕ) (is_first : first ≡ first_in t r) (content : Kept) (keeps : Keeps ts first (domain_in t r) (Some (union is)) (Some content)) (m : Marks t t' r content) where
      same_firsts : (z : Ident) → first_in t' z ≡ first_in t z
      same_firsts z = elim (decided z r) [
        | one e ↦ ap (first_in t') e ∙ ap (λ (k : Kept). k.first) (m.here ∙ keeps.0) ∙ is_first ∙ ap (first_in t) (sym e)
        | two ne ↦ ap (λ (k : Kept). k.first) (m.others z ne)
      ]

      domain_here : domain_in t' r ≡ meets (domain_in t r) (Some (union is))
      domain_here = ap (λ (k : Kept). k.domain) (m.here ∙ keeps.0)

      domain_bounds : Bounded (ts ++ Within x is ∷ []) (root_in t) (first_in t) (domain_in t')
      domain_bounds =
          bounded_within ts (root_in t) (first_in t) (domain_in t) (domain_in t') c.bounds x is (λ q p w e k n. value_before ts (root_in t) (first_in t) c.values (Within x is) q p w e k n)
          (c.values.idem x)
          (subst (λ z. domain_in t' z ≡ meets (domain_in t z) (Some (union is))) root domain_here)
          (λ z ne. ap (λ (k : Kept). k.domain) (m.others z (λ e. ne (e ∙ root))))
          (subst (λ z. AreDomain (domain_in t' z)) root (subst AreDomain (sym domain_here) keeps.1))
          (subst (λ z. Suits ts (first_in t z) (domain_in t' z)) root (subst (λ o. Suits ts o (domain_in t' r)) is_first (subst (Suits ts first) (sym domain_here) keeps.2)))

      domain_going : Going (ts ++ Within x is ∷ []) t' []
      domain_going = record {
        values = closing_by (ts ++ Within x is ∷ []) (root_in t) (first_in t) (root_in t') (first_in t') [] (root_same t t' m.links) same_firsts (more_within ts (root_in t) (first_in t) c.values x is);
        bounds = bounded_by (ts ++ Within x is ∷ []) (root_in t) (root_in t') (first_in t) (first_in t') (domain_in t') (domain_in t') (root_same t t' m.links) same_firsts (λ z. refl) domain_bounds;
      }

pub value_told_in : (ts : List Tell) (t t' : Table) → Going ts t [] → (x : Ident) (v : Value) (r : Ident) → r ≡ root_in t x → first_in t r ≡ None → (domain : Option IntSet) → domain ≡ domain_in t r → admits domain v ≡ true
    → (content : Kept) → content ≡ record { first = Some (length ts); domain = domain } → Marks t t' r content
    → (tell : Tell) → tell ≡ Is x v → (us : List Tell) → us ≡ ts ++ tell ∷ [] → (copy : Ident) → copy ≡ x → (start after : List Ident) → after ≡ start ++ copy ∷ [] → Going us t' [] × IsTold ts (Is x v ∷ []) us start after true
value_told_in ts t t' c x v r root none domain is_domain inside content is_content m tell e us k copy is start after noted =
    let going =
    value_going ts t c x r root v t' none content m (ap (λ (z : Kept). z.first) is_content) (ap (λ (z : Kept). z.domain) is_content ∙ is_domain) (subst (λ d. admits d v ≡ true) is_domain inside) in
    let listed : us ≡ ts ++ Is x v ∷ [] = k ∙ ap (λ one. ts ++ one ∷ []) e in (
      subst (λ ws. Going ws t' []) (sym listed) going,
      told_by ts t' (Is x v) (x ∷ []) after us start going (marked_tied ts t c x r root t' content m) (value_binds ts x v) (value_narrows ts x v (x ∷ [])) listed (noted ∙ ap (λ y. start ++ y ∷ []) is),
    )

pub domain_told_in : (ts : List Tell) (t t' : Table) → Going ts t [] → (x : Ident) (is : List Interval) (r : Ident) → r ≡ root_in t x → (first : Option ℕ) → first ≡ first_in t r → (domain more : Option IntSet) → domain ≡ domain_in t r → more ≡ Some (union is)
    → (content : Kept) → Keeps ts first domain more (Some content) → Marks t t' r content
    → (tell : Tell) → tell ≡ Within x is → (us : List Tell) → us ≡ ts ++ tell ∷ [] → (copy : Ident) → copy ≡ x → (start after : List Ident) → after ≡ start ++ copy ∷ [] → Going us t' [] × IsTold ts (Within x is ∷ []) us start after true
domain_told_in ts t t' c x is r root first is_first domain more is_domain is_more content keeps m tell e us k copy copied start after noted =
    let kept : Keeps ts first (domain_in t r) (Some (union is)) (Some content) = subst (λ d. Keeps ts first d (Some (union is)) (Some content)) is_domain (subst (λ d. Keeps ts first domain d (Some content)) is_more keeps) in
    let going = domain_going ts t c x r root is t' first is_first content kept m in
    let listed : us ≡ ts ++ Within x is ∷ [] = k ∙ ap (λ one. ts ++ one ∷ []) e in (
      subst (λ ws. Going ws t' []) (sym listed) going,
      told_by ts t' (Within x is) (x ∷ []) after us start going (marked_tied ts t c x r root t' content m) (domain_binds ts x is (x ∷ [])) (domain_narrows ts x is) listed (noted ∙ ap (λ y. start ++ y ∷ []) copied),
    )

pub domain_refused : (ts : List Tell) (t : Table) → Going ts t [] → (x : Ident) (is : List Interval) (r : Ident) → r ≡ root_in t x → (first : Option ℕ) → first ≡ first_in t r → (domain more : Option IntSet) → domain ≡ domain_in t r → more ≡ Some (union is)
    → (content : Option Kept) → content ≡ None → Keeps ts first domain more content → is_consistent (ts ++ Within x is ∷ []) ≡ false
domain_refused ts t c x is r root first is_first domain more is_domain is_more content none keeps =
    domain_clashes ts t c x r root is first is_first
    (subst (λ d. Keeps ts first d (Some (union is)) None) is_domain (subst (λ d. Keeps ts first domain d None) is_more (subst (Keeps ts first domain more) none keeps)))

-- An equation of classes of one of which nothing is kept

module _ (ts : List Tell) (t t' : Table) (c : Going ts t []) (x y a b : Ident) (ea : a ≡ root_in t x) (eb : b ≡ root_in t y) (apart : a ≡ b → ⊥) where
  abbrev after : List Tell
  after = ts ++ Equal x y ∷ []

  equated_going : Going (ts ++ Equal x y ∷ []) t ((x, y) ∷ [])
  equated_going = equated ts t c x y

  module _ (u o : Ident) (ends : ((u ≡ a) × (o ≡ b)) ⊎ ((u ≡ b) × (o ≡ a))) (nothing_kept : is_nothing (kept_in t u) ≡ true) (n : Unites t t' u o (kept_in t o)) where
    roots : (λ z. instead u o (root_in t z)) ≡ root_in t'
    roots = λ i z. sym (n.roots z) i

    a_root : root_in t a ≡ a
    a_root = ap (root_in t) ea ∙ c.values.idem x ∙ sym ea

    b_root : root_in t b ≡ b
    b_root = ap (root_in t) eb ∙ c.values.idem y ∙ sym eb

    turn : Turn (root_in t) x y u o
    turn = elim ends [
      | inl e ↦ record { under = ap (root_in t) e.0 ∙ a_root ∙ sym e.0; over = ap (root_in t) e.1 ∙ b_root ∙ sym e.1; apart = λ k. apart (sym e.0 ∙ k ∙ e.1); pair = inl (sym ea ∙ sym e.0, sym eb ∙ sym e.1) }
      | inr e ↦ record { under = ap (root_in t) e.0 ∙ b_root ∙ sym e.0; over = ap (root_in t) e.1 ∙ a_root ∙ sym e.1; apart = λ k. apart (sym e.1 ∙ sym k ∙ e.0); pair = inr (sym ea ∙ sym e.1, sym eb ∙ sym e.0) }
    ]

    no_first : first_in t u ≡ None
    no_first = ap (λ (k : Kept). k.first) (nothing_is (kept_in t u) nothing_kept)

    no_domain : domain_in t u ≡ None
    no_domain = ap (λ (k : Kept). k.domain) (nothing_is (kept_in t u) nothing_kept)

    same_first : first_in t' o ≡ first_in t o
    same_first = ap (λ (k : Kept). k.first) n.here

    same_domain : domain_in t' o ≡ domain_in t o
    same_domain = ap (λ (k : Kept). k.domain) n.here

    other_firsts : (z : Ident) → (z ≡ u → ⊥) → (z ≡ o → ⊥) → first_in t' z ≡ first_in t z
    other_firsts z nu nv = ap (λ (k : Kept). k.first) (n.others z nu nv)

    other_domains : (z : Ident) → (z ≡ u → ⊥) → (z ≡ o → ⊥) → domain_in t' z ≡ domain_in t z
    other_domains z nu nv = ap (λ (k : Kept). k.domain) (n.others z nu nv)

    joined_bounds : Bounded (ts ++ Equal x y ∷ []) (λ z. instead u o (root_in t z)) (first_in t') (domain_in t')
    joined_bounds =
        let bounds = equated_going.bounds in
        bounded_join after (root_in t) (first_in t) (first_in t') (domain_in t) (domain_in t') u o turn.under turn.over bounds
        (same_domain ∙ ap (λ d. meets d (domain_in t o)) (sym no_domain))
        (subst AreDomain (sym same_domain) (bounds.domains o turn.over))
        (subst (λ k. Suits after k (domain_in t' o)) (sym same_first) (subst (Suits after (first_in t o)) (sym same_domain) (bounds.suits o turn.over)))
        other_firsts other_domains

    one_going : Going (ts ++ Equal x y ∷ []) t' []
    one_going = record {
      values = subst (λ h. Closing (ts ++ Equal x y ∷ []) h (first_in t') []) roots
          (joins (ts ++ Equal x y ∷ []) (root_in t) (first_in t) (first_in t') [] [] x y u o equated_going.values turn (λ h j. j) (λ z w d. inl d) (fit_free no_first same_first) other_firsts);
      bounds = subst (λ h. Bounded (ts ++ Equal x y ∷ []) h (first_in t') (domain_in t')) roots joined_bounds;
    }

    one_tied : Tied ts (x ∷ y ∷ []) (root_in t')
    one_tied = subst (Tied ts (x ∷ y ∷ [])) roots (elim turn.pair [
      | inl e ↦ tied_join ts [] (root_in t) (tied_none ts t c) u o x y turn.under turn.over e (x ∷ y ∷ []) (head_in x (y ∷ [])) (tail_in x y (y ∷ []) (head_in y []))
      | inr e ↦ tied_join ts [] (root_in t) (tied_none ts t c) u o y x turn.under turn.over (e.1, e.0) (x ∷ y ∷ []) (tail_in x y (y ∷ []) (head_in y [])) (head_in x (y ∷ []))
    ])

  united_going : UnitesFree t t' a b → Going (ts ++ Equal x y ∷ []) t' []
  united_going (inl n) = one_going a b (inl (refl, refl)) n.0 n.1
  united_going (inr n) = one_going b a (inr (refl, refl)) n.0 n.1

  united_tied : UnitesFree t t' a b → Tied ts (x ∷ y ∷ []) (root_in t')
  united_tied (inl n) = one_tied a b (inl (refl, refl)) n.0 n.1
  united_tied (inr n) = one_tied b a (inr (refl, refl)) n.0 n.1

-- Pairs were joined on a copy

module _ (ts us : List Tell) (tell : Tell) (t t0 t' : Table) (none now : List Ident) (e : us ≡ ts ++ tell ∷ []) (copy : t0 ≡ t) (empty : none ≡ []) where
  pub closed_true : Going ts t [] → ((x : Ident) (v : Value) → Contains (tell ∷ []) (Is x v) → is_some (told_value ts x) ≡ true) → ((x : Ident) (is : List Interval) → Contains (tell ∷ []) (Within x is) → is_news ts (Within x is) ≡ false)
      → (goes : Bool) → goes ≡ true → Settles us t0 t' none now goes → (new : List Tell) (before after : List Ident) → new ≡ us → after ≡ before ++ now → IsTold ts (tell ∷ []) new before after true
  closed_true c valued known goes g s new before after is noted =
      let settled : Settles us t0 t' none now true = subst (Settles us t0 t' none now) g s in
      let start : Tied ts none (root_in t0) = subst (λ xs. Tied ts xs (root_in t0)) (sym empty) (subst (λ k. Tied ts [] (root_in k)) (sym copy) (tied_none ts t c)) in
      told_by ts t' tell now after new before (subst (λ ws. Going ws t' []) e settled.0) (settled.1 ts start) (λ x v d. inl (valued x v d)) (λ x js d. inl (known x js d)) (is ∙ e) noted

  pub closed_false : (goes : Bool) → goes ≡ false → Settles us t0 t' none now goes → is_consistent (ts ++ tell ∷ []) ≡ false
  closed_false goes g s = subst (λ ws. is_consistent ws ≡ false) e (subst (Settles us t0 t' none now) g s)

pub equal_valued : (ts : List Tell) (x y : Ident) (tell : Tell) → tell ≡ Equal x y → (z : Ident) (v : Value) → Contains (tell ∷ []) (Is z v) → is_some (told_value ts z) ≡ true
equal_valued ts x y tell e z v d = elim (cons_cases tell (Is z v) [] d) [ inl k ↦ absurd (cc) | inr n ↦ none_in (Is z v) n ]

pub equal_known : (ts : List Tell) (x y : Ident) (tell : Tell) → tell ≡ Equal x y → (z : Ident) (is : List Interval) → Contains (tell ∷ []) (Within z is) → is_news ts (Within z is) ≡ false
equal_known ts x y tell e z is d = elim (cons_cases tell (Within z is) [] d) [ inl k ↦ absurd (cc) | inr n ↦ none_in (Within z is) n ]

pub value_known : (ts : List Tell) (x : Ident) (v : Value) (tell : Tell) → tell ≡ Is x v → (z : Ident) (is : List Interval) → Contains (tell ∷ []) (Within z is) → is_news ts (Within z is) ≡ false
value_known ts x v tell e z is d = elim (cons_cases tell (Within z is) [] d) [ inl k ↦ absurd (cc) | inr n ↦ none_in (Within z is) n ]

-- A value of a class that has one

module _ (ts : List Tell) (x : Ident) (v w : Value) (p : ℕ) (at : value_place ts x ≡ Some p) (first : value_at ts p ≡ Some w) where
  pub again_differs : (t : Table) → Going ts t [] → is_like w v ≡ false → is_consistent (ts ++ Is x v ∷ []) ≡ false
  again_differs t c unlike = more_differs ts (root_in t) (first_in t) c.values x v w p (place_at ts t c x ∙ at) first unlike

  pub again_going : is_like w v ≡ true → (tell : Tell) → tell ≡ Is x v → (ps : List (Ident × Ident)) → ps ≡ zip (fields_of w) (fields_of v) → (t : Table) → Going ts t [] → Going (ts ++ tell ∷ []) t ps
  again_going like tell e ps is t c =
      subst (λ us. Going (ts ++ us ∷ []) t ps) (sym e) (subst (λ qs. Going (ts ++ Is x v ∷ []) t qs) (sym is) (record {
        values = more_like ts (root_in t) (first_in t) c.values x v w p (place_at ts t c x ∙ at) first like;
        bounds = more_bounds ts t c (Is x v) (λ q. refl);
      }))

  pub again_valued : (t : Table) → Going ts t [] → (tell : Tell) → tell ≡ Is x v → (z : Ident) (u : Value) → Contains (tell ∷ []) (Is z u) → is_some (told_value ts z) ≡ true
  again_valued t c tell e z u d = elim (cons_cases tell (Is z u) [] d) [
    | inl k ↦ (let whole_tell : Is x v ≡ Is z u = sym e ∙ k in let is : x ≡ z = cc in subst (λ y. is_some (told_value ts y) ≡ true) is (told_at_place ts t c x p at))
    | inr n ↦ none_in (Is z u) n
  ]

  pub again_told : (t : Table) → Going ts t [] → is_like w v ≡ true → (tell : Tell) → tell ≡ Is x v → (ps : List (Ident × Ident)) → ps ≡ zip (fields_of w) (fields_of v) → length ps ≡ 0
      → (us : List Tell) (start : List Ident) → us ≡ ts ++ tell ∷ [] → Going us t [] × IsTold ts (Is x v ∷ []) us start start true
  again_told t c like tell e ps is none us start k =
      let going : Going (ts ++ tell ∷ []) t [] = subst (λ qs. Going (ts ++ tell ∷ []) t qs) (no_items ps none) (again_going like tell e ps is t c) in
      let all_told = told_by ts t tell [] start us start going (tied_none ts t c) (λ z u d. inl (again_valued t c tell e z u d)) (λ z js d. inl (value_known ts x v tell e z js d)) k (sym (append-nil start)) in
      (subst (λ ws. Going ws t []) (sym k) going, subst (λ one. IsTold ts (one ∷ []) us start start true) e all_told)
    where
      no_items : (qs : List (Ident × Ident)) → length qs ≡ 0 → qs ≡ []
      no_items [] k = refl
      no_items (q ∷ qs) k = absurd (omega (arith, k))

-- An equation

module _ (ts : List Tell) (x y : Ident) (tell : Tell) (e : tell ≡ Equal x y) (us : List Tell) (k : us ≡ ts ++ tell ∷ []) where
  equation_listed : us ≡ ts ++ Equal x y ∷ []
  equation_listed = k ∙ ap (λ one. ts ++ one ∷ []) e

  pub known_told : (t : Table) → Going ts t [] → root_in t x ≡ root_in t y → (start : List Ident) → Going us t [] × IsTold ts (Equal x y ∷ []) us start start true
  known_told t c same_root start =
      let going = known_equation ts t c x y same_root in (
        subst (λ ws. Going ws t []) (sym equation_listed) going,
        told_by ts t (Equal x y) [] start us start going (tied_none ts t c) (equal_binds ts x y []) (equal_narrows ts x y []) equation_listed (sym (append-nil start)),
      )

  pub equation_told : (t t' : Table) → Going ts t [] → (a b : Ident) → a ≡ root_in t x → b ≡ root_in t y → (a ≡ b → ⊥) → UnitesFree t t' a b
      → (start after : List Ident) → after ≡ start ++ x ∷ y ∷ [] → Going us t' [] × IsTold ts (Equal x y ∷ []) us start after true
  equation_told t t' c a b ea eb apart n start after noted =
      let going = united_going ts t t' c x y a b ea eb apart n in (
        subst (λ ws. Going ws t' []) (sym equation_listed) going,
        told_by ts t' (Equal x y) (x ∷ y ∷ []) after us start going (united_tied ts t t' c x y a b ea eb apart n) (equal_binds ts x y (x ∷ y ∷ [])) (equal_narrows ts x y (x ∷ y ∷ [])) equation_listed noted,
      )

pub equation_going : (ts : List Tell) (x y : Ident) (tell : Tell) → tell ≡ Equal x y → (ps : List (Ident × Ident)) → ps ≡ (x, y) ∷ [] → (t : Table) → Going ts t [] → Going (ts ++ tell ∷ []) t ps
equation_going ts x y tell e ps is t c = subst (λ one. Going (ts ++ one ∷ []) t ps) (sym e) (subst (λ qs. Going (ts ++ Equal x y ∷ []) t qs) (sym is) (equated ts t c x y))

-- Whether two variables are equal, where more is told: what is decided stays so, and what is not does while no class moves that it
-- waits for.
use Rattle.std.proofs.Common.{◌≡◌, ◌⊎◌, inl, inr, ℕ, zero, suc, Bool, true, false, not, ◌&&◌, if◌then◌else◌, List, [], ◌∷◌, refl, sym, ap, subst, ◌∙◌, Contains, Some, slice_get, flat_map}
use Rattle.std.specs.List.{list_any}
use Rattle.std.proofs.lemmas.Bool.{false≢true}
use Rattle.oz_base.specs.Lists.{holds_of}
use Rattle.oz_base.specs.declared.names.Ident.{Ident}
use Rattle.oz_base.specs.declared.interval.Interval.{Interval}
use Rattle.oz_domains.specs.Domains.{Has, union, among}
use Rattle.oz_semantics.specs.Values.{is_like, integer_in, fields_of}
use Rattle.oz_semantics.specs.Store.{Same, told, itself, reversed, joined, field, IsConsistent, same, value_of, told_domain, domain_by, is_determined, is_consistent, named_by}
use Rattle.oz_semantics.specs.Entailment.{equated, is_affected, affected, Equality, Entailed, Contradicted, Undecided, entailed_unless, equality}
use Rattle.oz_semantics.specs.declared.value.Value.{Value}
use Rattle.oz_semantics.specs.declared.value.Tell.{Tell}
use Rattle.oz_semantics.specs.declared.value.Tell.TheVariants.{Equal, Is, Within}
use Rattle.oz_laws.proofs.SameLaws.{In, In-from_contains, contains-from_In, and-left, and-right, tests_same}
use Rattle.oz_laws.proofs.StoreLaws.{tests_consistent, domain_row, told_sets, set_told, told_set_by}
use Rattle.oz_laws.proofs.DomainLaws.{AllHave, common-has, has-common, common-some}
use Rattle.oz_laws.proofs.AlikeLaws.{alike-refl, alike-sym, alike-trans, alike-integer}
use Rattle.view_laws.specs.Readies.{Keeps, IsUnmoved, SameClasses}
use Rattle.view_laws.proofs.Members.{bool_eq, decide, not_both, and_both, has-left, has-right, has-cases, some_of, by_some}
use Rattle.view_laws.proofs.ViewLaws.{same_kept, same_named, has_value, determined_same, some_is, free_told}
use Rattle.view_laws.proofs.KnownLaws.{Known, was_told, known_value, known_same, known_later, known_alike, known_fits, known_determined, FitsAll, fits_same, fits_like, fits_known, all_fit, class_fits, in_all, of_all, head_in, integer_is, among_value}
use Rattle.view_laws.proofs.ListLaws.{filter_in, in_filter}
use Rattle.view_laws.proofs.MatchLaws.{AreSame, value_known_later, found_alike, determined_later}

-- what is decided stays so
abbrev pub EqualityStays : List Tell → List Tell → Equality → Equality → Type 0
EqualityStays before after Entailed e = e ≡ Entailed
EqualityStays before after Contradicted e = e ≡ Contradicted
EqualityStays before after (Undecided xs) e = ((x : Ident) → Contains xs x → IsUnmoved before after x) → (ys : List Ident) × (e ≡ Undecided ys) × SameClasses after xs ys

-- An equation at the end

equated_keeps : (before after : List Tell) (x y : Ident) → Keeps before after → Keeps (equated before x y) (equated after x y)
equated_keeps before after x y keeps t c = elim (has-cases t before (Equal x y ∷ []) c) [
  | inl k ↦ has-left t after (Equal x y ∷ []) (keeps t k)
  | inr k ↦ has-right t after (Equal x y ∷ []) k
]

value_told_before : (view : List Tell) (x y z : Ident) (v : Value) → Contains (equated view x y) (Is z v) → Contains view (Is z v)
value_told_before view x y z v c = elim (has-cases (Is z v) view (Equal x y ∷ []) c) [
  | inl k ↦ k
  | inr k ↦ elim (In-from_contains (Equal x y ∷ []) (Is z v) k) [ inl e ↦ cc | inr e ↦ elim e [ ] ]
]

domain_told_before : (view : List Tell) (x y z : Ident) (js : List Interval) → Contains (equated view x y) (Within z js) → Contains view (Within z js)
domain_told_before view x y z js c = elim (has-cases (Within z js) view (Equal x y ∷ []) c) [
  | inl k ↦ k
  | inr k ↦ elim (In-from_contains (Equal x y ∷ []) (Within z js) k) [ inl e ↦ cc | inr e ↦ elim e [ ] ]
]

fits_less : (before after : List Tell) → Keeps before after → (x : Ident) (v : Value) → FitsAll after x v → FitsAll before x v
fits_less before after keeps x v f = record {
  values = λ y w s c. f.values y w (same_kept before after keeps s) (keeps (Is y w) c);
  domains = λ y js s c. f.domains y js (same_kept before after keeps s) (keeps (Within y js) c);
}

pub consistent_less : (before after : List Tell) → Keeps before after → IsConsistent after → IsConsistent before
consistent_less before after keeps h = all_fit before (λ x. let f = class_fits after h x in (f.0, fits_less before after keeps x f.0 f.1))

named_both : (ts : List Tell) (a b : Ident) → Same ts a b → (a ≡ b → ⊥) → Contains (flat_map named_by ts) a × Contains (flat_map named_by ts) b
named_both ts a b s n = elim (same_named ts s) [
  | inl e ↦ absurd (n e)
  | inr k ↦ (contains-from_In (flat_map named_by ts) a k.0, contains-from_In (flat_map named_by ts) b k.1)
]

-- What an equation affects, by its meaning

pub record Affects (view : List Tell) (x y z : Ident) : Type 0 where
  pub free : is_determined view z ≡ false
  pub other : Ident
  pub joins : Same (equated view x y) z other
  pub apart : same view z other ≡ false

not_is : (b : Bool) → not b ≡ true → b ≡ false
not_is true e = absurd (false≢true e)
not_is false e = refl

affects : (view : List Tell) (x y z : Ident) → In z (affected view x y) → Affects view x y z
affects view x y z h =
    let variables = flat_map named_by (equated view x y) in
    let e = (filter_in (is_affected view (equated view x y) variables) variables z h).1 in
    let w = some_of (λ w. same (equated view x y) z w && not (same view z w)) variables (and-right _ _ e) in
    record {
      free = not_is _ (and-left _ _ e);
      other = w.0;
      joins = (tests_same (equated view x y) z w.0).0 (and-left _ _ w.2);
      apart = not_is _ (and-right _ _ w.2);
    }

is_affecting : (view : List Tell) (x y z : Ident) → Affects view x y z → In z (affected view x y)
is_affecting view x y z a =
    let variables = flat_map named_by (equated view x y) in
    let n = named_both (equated view x y) z a.other a.joins (λ e. not_both _ (subst (λ w. same view z w ≡ true) e ((tests_same view z z).1 itself)) a.apart) in
    in_filter (is_affected view (equated view x y) variables) variables z (In-from_contains variables z n.0)
    (and_both _ _ (ap not a.free)
    (by_some (λ w. same (equated view x y) z w && not (same view z w)) variables a.other n.1 (and_both _ _ ((tests_same (equated view x y) z a.other).1 a.joins) (ap not a.apart))))

module _ (before after : List Tell) (keeps : Keeps before after) (sound : IsConsistent after) (x y : Ident) (agrees : IsConsistent (equated before x y))
    (unmoved : (z : Ident) → In z (affected before x y) → IsUnmoved before after z) where
  -- equal in the later view, or by the equation over the earlier one, in turn
  data Link : Ident → Ident → Type 0 where
    done : {u v : Ident} → Same after u v → Link u v
    step : {u a b v : Ident} → Same after u a → Same (equated before x y) a b → Link b v → Link u v

  abbrev over : List Tell
  over = equated before x y

  link_after : {u v w : Ident} → Same after u v → Link v w → Link u w
  link_after s (done t) = done (joined s t)
  link_after s (step t n l) = step (joined s t) n l

  link_joined : {u v w : Ident} → Link u v → Link v w → Link u w
  link_joined (done s) l = link_after s l
  link_joined (step s n k) l = step s n (link_joined k l)

  link_reversed : {u v : Ident} → Link u v → Link v u
  link_reversed (done s) = done (reversed s)
  link_reversed (step s n l) = link_joined (link_reversed l) (step itself (reversed n) (done (reversed s)))

  -- Lists and values that are linked

  abbrev AreLinked : List Ident → List Ident → Type 0
  AreLinked [] [] = Unit {0}
  AreLinked (u ∷ us) (v ∷ vs) = Link u v × AreLinked us vs
  AreLinked [] (v ∷ vs) = ⊥
  AreLinked (u ∷ us) [] = ⊥

  linked_same : (us vs : List Ident) → AreSame after us vs → AreLinked us vs
  linked_same [] [] h = tt
  linked_same (u ∷ us) (v ∷ vs) h = (done h.0, linked_same us vs h.1)
  linked_same [] (v ∷ vs) h = elim h [ ]
  linked_same (u ∷ us) [] h = elim h [ ]

  linked_over : (us vs : List Ident) → AreSame over us vs → AreLinked us vs
  linked_over [] [] h = tt
  linked_over (u ∷ us) (v ∷ vs) h = (step itself h.0 (done itself), linked_over us vs h.1)
  linked_over [] (v ∷ vs) h = elim h [ ]
  linked_over (u ∷ us) [] h = elim h [ ]

  linked_joined : (us vs ws : List Ident) → AreLinked us vs → AreLinked vs ws → AreLinked us ws
  linked_joined [] [] [] h k = tt
  linked_joined (u ∷ us) (v ∷ vs) (w ∷ ws) h k = (link_joined h.0 k.0, linked_joined us vs ws h.1 k.1)
  linked_joined [] [] (w ∷ ws) h k = elim k [ ]
  linked_joined (u ∷ us) (v ∷ vs) [] h k = elim k [ ]
  linked_joined [] (v ∷ vs) ws h k = elim h [ ]
  linked_joined (u ∷ us) [] ws h k = elim h [ ]

  linked_at : (us vs : List Ident) → AreLinked us vs → (i : ℕ) (a b : Ident) → slice_get us i ≡ Some a → slice_get vs i ≡ Some b → Link a b
  linked_at [] [] h i a b p q = cc
  linked_at (u ∷ us) (v ∷ vs) h zero a b p q = let e : u ≡ a = cc in let f : v ≡ b = cc in subst (λ c. Link c b) e (subst (Link u) f h.0)
  linked_at (u ∷ us) (v ∷ vs) h (suc i) a b p q = linked_at us vs h.1 i a b p q
  linked_at [] (v ∷ vs) h i a b p q = elim h [ ]
  linked_at (u ∷ us) [] h i a b p q = elim h [ ]

  record Agreed (s t : Value) : Type 0 where
    like : is_like s t ≡ true
    fields : AreLinked (fields_of s) (fields_of t)

  agreed_joined : (s t r : Value) → Agreed s t → Agreed t r → Agreed s r
  agreed_joined s t r h k = record { like = alike-trans s t r h.like k.like; fields = linked_joined (fields_of s) (fields_of t) (fields_of r) h.fields k.fields }

  agreed_after : (a b : Ident) (s t : Value) → Same after a b → Known after a s → Known after b t → Agreed s t
  agreed_after a b s t e g h =
      let f = found_alike before after keeps sound a b s t e g h in record { like = f.like; fields = linked_same (fields_of s) (fields_of t) f.fields }

  -- values of the earlier view, of variables that the equation makes one
  over_keeps : Keeps before over
  over_keeps t c = has-left t before (Equal x y ∷ []) c

  known_over : (a : Ident) (s : Value) → Known before a s → Known over a s
  known_over a s k = known_later before over over_keeps a s k

  agreed_over : (a b : Ident) (s t : Value) → Same over a b → Known before a s → Known before b t → Agreed s t
  agreed_over a b s t e g h =
      let f = found_alike over over (λ u c. c) agrees a b s t e (known_over a s g) (known_over b t h) in record { like = f.like; fields = linked_over (fields_of s) (fields_of t) f.fields }

  -- One step of the equation, from a variable that has a value: the other end has one too, or is one that the equation affects

  data Crosses (b : Ident) (s : Value) : Type 0 where
    passes : (t : Value) → Known after b t → Agreed s t → Crosses b s
    stops : IsUnmoved before after b → Crosses b s

  affected_by : (a b : Ident) → Same over a b → same before a b ≡ false → is_determined before a ≡ false → In a (affected before x y)
  affected_by a b s apart free = is_affecting before x y a (record { free = free; other = b; joins = s; apart = apart })

  apart_back : (a b : Ident) → same before a b ≡ false → same before b a ≡ false
  apart_back a b e = elim (decide (same before b a)) [
    | inl k ↦ absurd (not_both _ ((tests_same before a b).1 (reversed ((tests_same before b a).0 k))) e)
    | inr k ↦ k
  ]

  crosses : (a b : Ident) (s : Value) → Known after a s → Same over a b → Crosses b s
  crosses a b s g e = elim (decide (same before a b)) [
    | inl k ↦ (let t : Same after a b = same_kept before after keeps ((tests_same before a b).0 k) in
        let h : Known after b s = known_same after a b s t g in
        passes s h (agreed_after a b s s t g h))
    | inr k ↦ elim (decide (is_determined before a)) [
      | inr free ↦ absurd (not_both _ (known_determined after sound a s g) (unmoved a (affected_by a b e k free)).free)
      | inl d ↦ (let sa = some_is (value_of before a) d in
          elim (decide (is_determined before b)) [
            | inr free ↦ stops (unmoved b (affected_by b a (reversed e) (apart_back a b k) free))
            | inl f ↦ (let sb = some_is (value_of before b) f in
                passes sb.0 (value_known_later before after keeps sound b sb.0 sb.1)
                (agreed_joined s sa.0 sb.0 (agreed_after a a s sa.0 itself g (value_known_later before after keeps sound a sa.0 sa.1))
                (agreed_over a b sa.0 sb.0 e (known_value before a sa.0 sa.1) (known_value before b sb.0 sb.1))))
          ])
    ]
  ]

  over_later : {u v : Ident} → Same before u v → Same over u v
  over_later s = same_kept before over over_keeps s

  -- so values at the ends of links agree
  walk : (a : Ident) (s t : Value) {b v : Ident} → Link b v → Known after a s → Same over a b → Known after v t → Agreed s t
  walk a s t (done {u = b} {v = v} e) g n h = elim (crosses a b s g n) [
    | passes r k agreed ↦ agreed_joined s r t agreed (agreed_after b v r t e k h)
    | stops u ↦ absurd (not_both _ (known_determined after sound b t (known_same after v b t (reversed e) h)) u.free)
  ]
  walk a s t (step {u = b} {a = c} {b = d} {v = v} e m rest) g n h = elim (crosses a b s g n) [
    | passes r k agreed ↦ agreed_joined s r t agreed (walk c r t rest (known_same after b c r e k) m h)
    | stops u ↦ walk a s t rest g (joined n (joined (over_later (u.alone c e)) m)) h
  ]

  link_agreed : (s t : Value) {u v : Ident} → Link u v → Known after u s → Known after v t → Agreed s t
  link_agreed s t (done {u = u} {v = v} e) g h = agreed_after u v s t e g h
  link_agreed s t (step {u = u} {a = a} {b = b} {v = v} e n rest) g h = walk a s t rest (known_same after u a s e g) n h

  -- What the equation makes equal in the later view is linked

  told_known : (u : Ident) (s : Value) → Contains (equated after x y) (Is u s) → Known after u s
  told_known u s c = was_told (record { variable = u; told = value_told_before after x y u s c; equal = itself })

  told_linked : (u v : Ident) → Contains (equated after x y) (Equal u v) → Link u v
  told_linked u v c = elim (has-cases (Equal u v) after (Equal x y ∷ []) c) [
    | inl k ↦ done (told k)
    | inr k ↦ step itself (told (has-right (Equal u v) before (Equal x y ∷ []) k)) (done itself)
  ]

  linked : {u v : Ident} → Same (equated after x y) u v → Link u v
  linked (told {x = u} {y = v} c) = told_linked u v c
  linked itself = done itself
  linked (reversed s) = link_reversed (linked s)
  linked (joined s t) = link_joined (linked s) (linked t)
  linked (field {x = u} {y = v} {a = a} {b = b} {v = s} {w = t} i e c d l p q) =
      linked_at (fields_of s) (fields_of t) (link_agreed s t (linked e) (told_known u s c) (told_known v t d)).fields i a b p q

  not_determined_before : (a : Ident) → is_determined after a ≡ false → is_determined before a ≡ false
  not_determined_before a e = elim (decide (is_determined before a)) [
    | inl k ↦ absurd (not_both _ (determined_later before after keeps sound a k) e)
    | inr k ↦ k
  ]

  -- a link from a variable without a value stays in its class, or goes through one that the equation affects
  escapes : {z w : Ident} → Link z w → is_determined after z ≡ false → Same after z w ⊎ ((a : Ident) × In a (affected before x y) × Same after z a)
  escapes (done e) free = inl e
  escapes (step {u = z} {a = a} {b = b} {v = w} e n rest) free = elim (decide (same before a b)) [
    | inl k ↦ (let s : Same after z b = joined e (same_kept before after keeps ((tests_same before a b).0 k)) in
        elim (escapes rest (determined_same after b z (reversed s) ∙ free)) [
          | inl t ↦ inl (joined s t)
          | inr r ↦ inr (r.0, r.1, joined s r.2)
        ])
    | inr k ↦ inr (a, affected_by a b n k (not_determined_before a (determined_same after a z (reversed e) ∙ free)), e)
  ]

  -- A value that fits a class goes along with a link: it is known there, or the class is one that the equation affects

  data Standing (v : Value) (b : Ident) : Type 0 where
    holds_value : (t : Value) → Known after b t → is_like v t ≡ true → Standing v b
    stays_free : IsUnmoved before after b → FitsAll over b v → Standing v b

  unmoved_same : (b c : Ident) → Same after b c → IsUnmoved before after b → IsUnmoved before after c
  unmoved_same b c s u = record {
    free = determined_same after c b (reversed s) ∙ u.free;
    alone = λ z t. joined (reversed (u.alone c s)) (u.alone z (joined s t));
    kept = domain_row after c b (reversed s) ∙ u.kept ∙ domain_row before b c (u.alone c s);
  }

  standing_after : (v : Value) (b c : Ident) → Same after b c → Standing v b → Standing v c
  standing_after v b c s (holds_value t k e) = holds_value t (known_same after b c t s k) e
  standing_after v b c s (stays_free u f) = stays_free (unmoved_same b c s u) (fits_same over b c v (over_later (u.alone c s)) f)

  standing_apart : (v : Value) (b c : Ident) → Same over b c → same before b c ≡ false → FitsAll over b v → Standing v c
  standing_apart v b c e apart f = elim (decide (is_determined before c)) [
    | inl d ↦ (let sc = some_is (value_of before c) d in
        let k = known_value before c sc.0 sc.1 in
        holds_value sc.0 (known_later before after keeps c sc.0 k) (fits_known over c v sc.0 (fits_same over b c v e f) (known_over c sc.0 k)))
    | inr free ↦ stays_free (unmoved c (affected_by c b (reversed e) (apart_back b c apart) free)) (fits_same over b c v e f)
  ]

  standing_fits : (v : Value) (b c : Ident) → Same over b c → same before b c ≡ false → Standing v b → FitsAll over b v
  standing_fits v b c e apart (stays_free u f) = f
  standing_fits v b c e apart (holds_value t k like) = elim (decide (is_determined before b)) [
    | inr free ↦ absurd (not_both _ (known_determined after sound b t k) (unmoved b (affected_by b c e apart free)).free)
    | inl d ↦ (let sb = some_is (value_of before b) d in
        let kb = known_value before b sb.0 sb.1 in
        let f = class_fits over agrees b in
        let one : is_like f.0 sb.0 ≡ true = fits_known over b f.0 sb.0 f.1 (known_over b sb.0 kb) in
        let two : is_like sb.0 t ≡ true = known_alike after sound b b sb.0 t itself (known_later before after keeps b sb.0 kb) k in
        fits_like over b f.0 v (alike-trans f.0 t v (alike-trans f.0 sb.0 t one two) (alike-sym v t like)) f.1)
  ]

  standing_over : (v : Value) (b c : Ident) → Same over b c → Standing v b → Standing v c
  standing_over v b c e st = elim (decide (same before b c)) [
    | inl k ↦ standing_after v b c (same_kept before after keeps ((tests_same before b c).0 k)) st
    | inr k ↦ standing_apart v b c e k (standing_fits v b c e k st)
  ]

  standing_link : (v : Value) {b c : Ident} → Link b c → Standing v b → Standing v c
  standing_link v (done {u = b} {v = c} e) st = standing_after v b c e st
  standing_link v (step {u = u} {a = a} {b = b} {v = c} e n rest) st = standing_link v rest (standing_over v a b n (standing_after v u a e st))

  standing_value : (v : Value) (b : Ident) → Standing v b → (w : Value) → Contains after (Is b w) → is_like v w ≡ true
  standing_value v b (holds_value t k e) w c = alike-trans v t w e (known_alike after sound b b t w itself k (was_told (record { variable = b; told = c; equal = itself })))
  standing_value v b (stays_free u f) w c = absurd (not_both _ (has_value after b b w itself c) u.free)

  -- a class that has not moved keeps its domain
  free_domain : (b : Ident) → IsUnmoved before after b → told_domain after b ≡ told_domain before b
  free_domain b u =
      sym (ap (λ o. domain_by o (told_domain after b)) (free_told after b u.free)) ∙ u.kept
      ∙ ap (λ o. domain_by o (told_domain before b)) (free_told before b (not_determined_before b u.free))

  free_among : (v : Value) (b : Ident) (js : List Interval) → IsUnmoved before after b → FitsAll over b v → Contains after (Within b js) → holds_of (among js) (integer_in v) ≡ true
  free_among v b js u f c =
      let t = common-some (told_sets after b) (union js) (set_told after b b js itself c) in
      let was : told_domain before b ≡ Some t.0 = sym (free_domain b u) ∙ t.1 in
      let h = head_in (told_sets before b) t.0 was in
      let first = told_set_by before b h.0 h.1 in
      let i = integer_is first.intervals (integer_in v) (f.domains first.variable first.intervals (over_later first.equal) (over_keeps (Within first.variable first.intervals) first.tells)) in
      let all : AllHave (told_sets before b) i.0 =
      in_all before b i.0 (λ z ks s d. among_value ks v i.0 i.1 (f.domains z ks (over_later s) (over_keeps (Within z ks) d))) in
      let has : Has t.0 i.0 = has-common (told_sets before b) t.0 i.0 was all in
      ap (holds_of (among js)) i.1 ∙ of_all after b i.0 (common-has (told_sets after b) t.0 i.0 t.1 has) b js itself c

  standing_domain : (v : Value) (b : Ident) → Standing v b → (js : List Interval) → Contains after (Within b js) → holds_of (among js) (integer_in v) ≡ true
  standing_domain v b (holds_value t k e) js c = ap (holds_of (among js)) (alike-integer v t e) ∙ (known_fits after sound b t k).domains b js itself c
  standing_domain v b (stays_free u f) js c = free_among v b js u f c

  -- Where to begin: the class has a value, or the equation affects it, or links stay in it
  starts : (u : Ident) → ((v : Value) × Standing v u) ⊎ ((w : Ident) → Link u w → Same after u w)
  starts u = elim (decide (is_determined after u)) [
    | inl d ↦ (let s = some_is (value_of after u) d in inl (s.0, holds_value s.0 (known_value after u s.0 s.1) (alike-refl s.0)))
    | inr free ↦ elim (decide (list_any (same after u) (affected before x y))) [
      | inl e ↦ (let a = some_of (same after u) (affected before x y) e in
          let f = class_fits over agrees a.0 in
          inl (f.0, standing_after f.0 a.0 u (reversed ((tests_same after u a.0).0 a.2)) (stays_free (unmoved a.0 (In-from_contains (affected before x y) a.0 a.1)) f.1)))
      | inr none ↦ inr (λ w l. elim (escapes l free) [
        | inl s ↦ s
        | inr r ↦ absurd (not_both _ (by_some (same after u) (affected before x y) r.0 (contains-from_In (affected before x y) r.0 r.1) ((tests_same after u r.0).1 r.2)) none)
      ])
    ]
  ]

  equation_fits : (u : Ident) → (v : Value) × FitsAll (equated after x y) u v
  equation_fits u = elim (starts u) [
    | inl st ↦ (
      st.0,
      record {
        values = λ z w s c. standing_value st.0 z (standing_link st.0 (link_reversed (linked s)) st.1) w (value_told_before after x y z w c);
        domains = λ z js s c. standing_domain st.0 z (standing_link st.0 (link_reversed (linked s)) st.1) js (domain_told_before after x y z js c);
      },
    )
    | inr stay ↦ (let f = class_fits after sound u in (
      f.0,
      record {
        values = λ z w s c. f.1.values z w (reversed (stay z (link_reversed (linked s)))) (value_told_before after x y z w c);
        domains = λ z js s c. f.1.domains z js (reversed (stay z (link_reversed (linked s)))) (domain_told_before after x y z js c);
      },
    ))
  ]

  pub equation_agrees : IsConsistent (equated after x y)
  equation_agrees = all_fit (equated after x y) equation_fits

  -- What it affects there

  abbrev before_list : List Ident
  before_list = affected before x y

  abbrev after_list : List Ident
  after_list = affected after x y

  stays_affected : (z : Ident) → In z before_list → In z after_list
  stays_affected z h =
      let a = affects before x y z h in
      let u = unmoved z h in
      is_affecting after x y z (record {
        free = u.free;
        other = a.other;
        joins = same_kept over (equated after x y) (equated_keeps before after x y keeps) a.joins;
        apart = elim (decide (same after z a.other)) [
          | inl k ↦ absurd (not_both _ ((tests_same before z a.other).1 (u.alone a.other ((tests_same after z a.other).0 k))) a.apart)
          | inr k ↦ k
        ];
      })

  was_affected : (z : Ident) → In z after_list → (a : Ident) × In a before_list × Same after z a
  was_affected z h =
      let a = affects after x y z h in
      elim (escapes (linked a.joins) a.free) [
        | inl s ↦ absurd (not_both _ ((tests_same after z a.other).1 s) a.apart)
        | inr r ↦ r
      ]

  pub same_affected : SameClasses after before_list after_list
  same_affected z = bool_eq _ _ forward back
    where
      forward : list_any (same after z) before_list ≡ true → list_any (same after z) after_list ≡ true
      forward e =
          let a = some_of (same after z) before_list e in
          by_some (same after z) after_list a.0 (contains-from_In after_list a.0 (stays_affected a.0 (In-from_contains before_list a.0 a.1))) a.2

      back : list_any (same after z) after_list ≡ true → list_any (same after z) before_list ≡ true
      back e =
          let q = some_of (same after z) after_list e in
          let a = was_affected q.0 (In-from_contains after_list q.0 q.1) in
          by_some (same after z) before_list a.0 (contains-from_In before_list a.0 a.1) ((tests_same after z a.0).1 (joined ((tests_same after z q.0).0 q.2) a.2))

  pub none_affected : before_list ≡ [] → after_list ≡ []
  none_affected e = by after_list was_affected
    where
      by : (zs : List Ident) → ((z : Ident) → In z zs → (a : Ident) × In a before_list × Same after z a) → zs ≡ []
      by [] h = refl
      by (z ∷ zs) h = let a = h z (inl refl) in elim (subst (In a.0) e a.1) [ ]

-- The answer

unless_some : (zs : List Ident) (z : Ident) → In z zs → entailed_unless zs ≡ Undecided zs
unless_some [] z h = elim h [ ]
unless_some (a ∷ zs) z h = refl

module _ (before after : List Tell) (keeps : Keeps before after) (sound : IsConsistent after) (x y : Ident) where
  holds_after : IsConsistent (equated before x y) → ((z : Ident) → In z (affected before x y) → IsUnmoved before after z) → equality after x y ≡ entailed_unless (affected after x y)
  holds_after agrees unmoved =
      ap (λ (b : Bool). if b then entailed_unless (affected after x y) else Contradicted)
      ((tests_consistent (equated after x y)).1 (equation_agrees before after keeps sound x y agrees unmoved))

  unless_stays : IsConsistent (equated before x y) → (zs : List Ident) → affected before x y ≡ zs → EqualityStays before after (entailed_unless zs) (equality after x y)
  unless_stays agrees [] e =
      let unmoved : (z : Ident) → In z (affected before x y) → IsUnmoved before after z = λ z h. elim (subst (In z) e h) [ ] in
      holds_after agrees unmoved ∙ ap entailed_unless (none_affected before after keeps sound x y agrees unmoved e)
  unless_stays agrees (z ∷ zs) e = λ h.
      let unmoved : (w : Ident) → In w (affected before x y) → IsUnmoved before after w = λ w i. h w (contains-from_In (z ∷ zs) w (subst (In w) e i)) in (
        affected after x y,
        holds_after agrees unmoved ∙ unless_some (affected after x y) z (stays_affected before after keeps sound x y agrees unmoved z (subst (In z) (sym e) (inl refl))),
        subst (λ ws. SameClasses after ws (affected after x y)) e (same_affected before after keeps sound x y agrees unmoved),
      )

  by_consistency : (b : Bool) → is_consistent (equated before x y) ≡ b → EqualityStays before after (if b then entailed_unless (affected before x y) else Contradicted) (equality after x y)
  by_consistency true e = unless_stays ((tests_consistent (equated before x y)).0 e) (affected before x y) refl
  by_consistency false e = ap (λ (b : Bool). if b then entailed_unless (affected after x y) else Contradicted) contradicted
    where
      contradicted : is_consistent (equated after x y) ≡ false
      contradicted = elim (decide (is_consistent (equated after x y))) [
        | inl k ↦ absurd (not_both _ ((tests_consistent (equated before x y)).1
            (consistent_less (equated before x y) (equated after x y) (equated_keeps before after x y keeps) ((tests_consistent (equated after x y)).0 k))) e)
        | inr k ↦ k
      ]

  pub equality_stays : EqualityStays before after (equality before x y) (equality after x y)
  equality_stays = by_consistency (is_consistent (equated before x y)) refl

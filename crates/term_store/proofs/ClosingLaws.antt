-- How a closing begins, goes on and ends.
use Rattle.std.proofs.Common.{ℕ, zero, suc, ◌≡◌, ◌∙◌, ◌<◌, ◌≤◌, ◌⊎◌, inl, inr, Bool, true, false, if◌then◌else◌, List, [], ◌∷◌, ◌++◌, map, length, Option, Some, None, is_some, refl, sym, ap, ap₂, subst, arith, slice_get}
use Rattle.std.specs.Prelude.{Contains}
use Rattle.std.specs.List.{zip}
use Rattle.std.proofs.lemmas.Bool.{false≢true}
use Rattle.std.proofs.lemmas.List.Elements.{Contains-append_left, Contains-append_right, Contains-push, Contains-push_cases}
use Rattle.std.proofs.lemmas.Option.{slice_get-get_or, slice_get_within, get_or_from_slice_get}
use Rattle.oz_base.specs.declared.interval.Interval.{Interval}
use Rattle.oz_base.specs.declared.names.Ident.{Ident}
use Rattle.oz_laws.proofs.SameLaws.{and-right, eq-true, tests_same}
use Rattle.oz_laws.proofs.AlikeLaws.{alike-refl, alike-sym, alike-trans}
use Rattle.oz_laws.proofs.StoreLaws.{tests_consistent}
use Rattle.oz_semantics.specs.Store.{Same, told, itself, reversed, joined, field, same, is_consistent}
use Rattle.oz_semantics.specs.Values.{is_like, fields_of}
use Rattle.oz_semantics.specs.declared.value.Value.{Value}
use Rattle.oz_semantics.specs.declared.value.Value.TheVariants as value
use Rattle.oz_semantics.specs.declared.value.Tell.{Tell}
use Rattle.oz_semantics.specs.declared.value.Tell.TheVariants.{Equal, Is, Within}
use Rattle.term_store.specs.Closing.{Joins, ToldAt, Stands, Closing}
use Rattle.term_store.specs.Places.{value_told, value_at, gives_value, value_place}
use Rattle.term_store.proofs.ClassLaws.{one, two, decided}
use Rattle.term_store.proofs.PlaceLaws.{place_found, place_absent}

-- Lists

pub head_in : {X : Type 0} (x : X) (xs : List X) → Contains (x ∷ xs) x
head_in x xs = (0, omega arith, refl)

pub tail_in : {X : Type 0} (y x : X) (xs : List X) → Contains xs x → Contains (y ∷ xs) x
tail_in y x xs h = (suc h.0, omega (arith, h.1), h.2)

pub cons_cases : {X : Type 0} (y x : X) (xs : List X) → Contains (y ∷ xs) x → (y ≡ x) ⊎ Contains xs x
cons_cases y x xs (zero, h, e) = inl e
cons_cases y x xs (suc k, h, e) = inr (k, omega (arith, h), e)

pub none_in : {X : Type 0} {A : Type 0} (x : X) → Contains [] x → A
none_in x h = absurd (omega (arith, h.1))

pub place_in : {X : Type 0} (xs : List X) (x : X) → Contains xs x → (k : ℕ) × (slice_get xs k ≡ Some x)
place_in xs x h = (h.0, slice_get-get_or xs h.0 x h.1 ∙ ap Some h.2)

pub in_place : {X : Type 0} (xs : List X) (x : X) (k : ℕ) → slice_get xs k ≡ Some x → Contains xs x
in_place xs x k e = (k, slice_get_within xs k x e, get_or_from_slice_get xs k x x e)

pub more_at : {X : Type 0} (xs ys : List X) (k : ℕ) (x : X) → slice_get xs k ≡ Some x → slice_get (xs ++ ys) k ≡ Some x
more_at [] ys k x e = cc
more_at (y ∷ xs) ys zero x e = e
more_at (y ∷ xs) ys (suc k) x e = more_at xs ys k x e

pub last_at : {X : Type 0} (xs : List X) (x : X) → slice_get (xs ++ x ∷ []) (length xs) ≡ Some x
last_at [] x = refl
last_at (y ∷ xs) x = last_at xs x

pub push_at : {X : Type 0} (xs : List X) (y : X) (k : ℕ) (x : X) → slice_get (xs ++ y ∷ []) k ≡ Some x → (slice_get xs k ≡ Some x) ⊎ ((k ≡ length xs) × (y ≡ x))
push_at [] y zero x e = inr (refl, cc)
push_at [] y (suc k) x e = cc
push_at (z ∷ xs) y zero x e = inl e
push_at (z ∷ xs) y (suc k) x e = elim (push_at xs y k x e) [ inl h ↦ inl h | inr h ↦ inr (omega (arith, h.0), h.1) ]

map_at : (g : Ident → Ident) (xs : List Ident) (i : ℕ) (a : Ident) → slice_get xs i ≡ Some a → slice_get (map g xs) i ≡ Some (g a)
map_at g [] i a e = absurd (cc)
map_at g (x ∷ xs) zero a e = cc
map_at g (x ∷ xs) (suc i) a e = map_at g xs i a e

pub some_is : {X : Type 0} (a b : X) → Some a ≡ Some b → a ≡ b
some_is a b e = cc

pub some_not_none : {X : Type 0} {A : Type 0} (o : Option X) (x : X) → o ≡ Some x → o ≡ None → A
some_not_none o x e f = absurd (cc)

pub zip_agrees : (h : Ident → Ident) (xs ys : List Ident) → length xs ≡ length ys → Joins h (zip xs ys) → map h xs ≡ map h ys
zip_agrees h [] [] l k = refl
zip_agrees h [] (y ∷ ys) l k = absurd (omega arith)
zip_agrees h (x ∷ xs) [] l k = absurd (omega arith)
zip_agrees h (x ∷ xs) (y ∷ ys) l k = ap₂ (λ a bs. a ∷ bs) (k x y (head_in (x, y) (zip xs ys))) (zip_agrees h xs ys (omega arith) (λ a b c. k a b (tail_in (x, y) (a, b) (zip xs ys) c)))

pub record Zipped (xs ys : List Ident) (p q : Ident) : Type 0 where
  pub place : ℕ
  pub left : slice_get xs place ≡ Some p
  pub right : slice_get ys place ≡ Some q

pub in_zip : (xs ys : List Ident) (p q : Ident) → Contains (zip xs ys) (p, q) → Zipped xs ys p q
in_zip [] ys p q c = none_in (p, q) c
in_zip (x ∷ xs) [] p q c = none_in (p, q) c
in_zip (x ∷ xs) (y ∷ ys) p q c = elim (cons_cases (x, y) (p, q) (zip xs ys) c) [
  | inl e ↦ record { place = 0; left = ap (λ (z : Ident × Ident). Some z.0) e; right = ap (λ (z : Ident × Ident). Some z.1) e }
  | inr d ↦ (let r = in_zip xs ys p q d in record { place = suc r.place; left = r.left; right = r.right })
]

pub Joins-left : (g : Ident → Ident) (ps qs : List (Ident × Ident)) → Joins g (ps ++ qs) → Joins g ps
Joins-left g ps qs h a b c = h a b (Contains-append_left ps qs (a, b) c)

pub Joins-right : (g : Ident → Ident) (ps qs : List (Ident × Ident)) → Joins g (ps ++ qs) → Joins g qs
Joins-right g ps qs h a b c = h a b (Contains-append_right ps qs (a, b) c)

pub Joins-push : (g : Ident → Ident) (ps : List (Ident × Ident)) (a b : Ident) → Joins g ps → g a ≡ g b → Joins g (ps ++ (a, b) ∷ [])
Joins-push g ps a b h e p q c = elim (Contains-push_cases ps (a, b) (p, q) c) [
  | inl m ↦ h p q m
  | inr m ↦ subst (λ (z : Ident × Ident). g z.0 ≡ g z.1) m e
]

-- Values that are alike have as many fields
pub like_length : (v w : Value) → is_like v w ≡ true → length (fields_of v) ≡ length (fields_of w)
like_length (value.Constant a) (value.Constant b) e = refl
like_length (value.Record a) (value.Record b) e = eq-true (length a.fields) (length b.fields) (and-right _ _ (and-right _ _ e))
like_length (value.Procedure a) (value.Procedure b) e = refl
like_length (value.Builtin a) (value.Builtin b) e = refl
like_length (value.Name a) (value.Name b) e = refl
like_length (value.Cell a) (value.Cell b) e = refl
like_length (value.Port a) (value.Port b) e = refl
like_length (value.Space a) (value.Space b) e = refl
like_length v w e = absurd (false≢true e)

abbrev if_value : Bool → Value → Option Value
if_value b v = if b then Some v else None

-- The value at a place

value_is : (o : Option Tell) (v : Value) → value_told o ≡ Some v → (y : Ident) × (o ≡ Some (Is y v))
value_is None v e = absurd (cc)
value_is (Some (Equal a b)) v e = absurd (cc)
value_is (Some (Within a is)) v e = absurd (cc)
value_is (Some (Is y w)) v e = (y, let k : w ≡ v = cc in ap (λ u. Some (Is y u)) k)

-- More tells make more variables equal

pub Same-more : (ts us : List Tell) → ((t : Tell) → Contains ts t → Contains us t) → {x y : Ident} → Same ts x y → Same us x y
Same-more ts us e (told {x = a} {y = b} t) = told (e (Equal a b) t)
Same-more ts us e itself = itself
Same-more ts us e (reversed s) = reversed (Same-more ts us e s)
Same-more ts us e (joined s t) = joined (Same-more ts us e s) (Same-more ts us e t)
Same-more ts us e (field {x = p} {y = q} {v = v} {w = w} i s tx ty l ea eb) = field i (Same-more ts us e s) (e (Is p v) tx) (e (Is q w) ty) l ea eb

pub Same-prefix : (ts us : List Tell) {x y : Ident} → Same ts x y → Same (ts ++ us) x y
Same-prefix ts us s = Same-more ts (ts ++ us) (λ t c. Contains-append_left ts us t c) s

-- and values that differ still do
pub consistent_prefix : (ts us : List Tell) → is_consistent (ts ++ us) ≡ true → is_consistent ts ≡ true
consistent_prefix ts us e =
    let c = (tests_consistent (ts ++ us)).0 e in
    (tests_consistent ts).1 (record {
      agree = λ a b v w s d f. c.agree a b v w (Same-prefix ts us s) (Contains-append_left ts us (Is a v) d) (Contains-append_left ts us (Is b w) f);
      inhabited = λ a is d. let n = c.inhabited a is (Contains-append_left ts us (Within a is) d) in (n.0, λ b js s f. n.1 b js (Same-prefix ts us s) (Contains-append_left ts us (Within b js) f));
      inside = λ a b v is s d f. c.inside a b v is (Same-prefix ts us s) (Contains-append_left ts us (Is a v) d) (Contains-append_left ts us (Within b is) f);
    })

pub inconsistent_more : (ts us : List Tell) → is_consistent ts ≡ false → is_consistent (ts ++ us) ≡ false
inconsistent_more ts us e = by (is_consistent (ts ++ us)) refl
  where
    by : (b : Bool) → is_consistent (ts ++ us) ≡ b → b ≡ false
    by true k = absurd (false≢true (sym e ∙ consistent_prefix ts us k))
    by false k = refl

-- Nothing is told

pub closing_none : (g : Ident → Ident) (f : Ident → Option ℕ) → ((x : Ident) → g x ≡ x) → ((x : Ident) → f x ≡ None) → Closing [] g f []
closing_none g f alone free = record {
  idem = λ x. alone (g x);
  sound = λ x. subst (λ z. Same [] x z) (sym (alone x)) itself;
  due = λ x y c. none_in (x, y) c;
  equal = λ x y c h co j. none_in (Equal x y) c;
  firsts = λ r p e k. some_not_none (f r) p k (free r);
  stands = λ k y w e. absurd (cc);
}

module _ (ts : List Tell) (g : Ident → Ident) (f : Ident → Option ℕ) where
  -- The same classes and places by other functions

  pub closing_by : (g' : Ident → Ident) (f' : Ident → Option ℕ) (ps : List (Ident × Ident)) → ((x : Ident) → g' x ≡ g x) → ((x : Ident) → f' x ≡ f x) → Closing ts g f ps → Closing ts g' f' ps
  closing_by g' f' ps eg ef c =
      let roots : g ≡ g' = λ i x. sym (eg x) i in
      let places : f ≡ f' = λ i x. sym (ef x) i in
      subst (λ h. Closing ts h f' ps) roots (subst (λ k. Closing ts g k ps) places c)

  -- A pair whose classes are one already

  pub closing_skip : (ps : List (Ident × Ident)) (a b : Ident) → Closing ts g f (ps ++ (a, b) ∷ []) → g a ≡ g b → Closing ts g f ps
  closing_skip ps a b c e = record {
    idem = c.idem;
    sound = c.sound;
    due = λ x y d. c.due x y (Contains-append_left ps ((a, b) ∷ []) (x, y) d);
    equal = λ x y d h co j. c.equal x y d h co (Joins-push h ps a b j (co a b e));
    firsts = c.firsts;
    stands = λ k y w t. let s = c.stands k y w t in
        record { place = s.place; found = s.found; early = s.early; value = s.value; told = s.told; like = s.like; agree = λ h co j. s.agree h co (Joins-push h ps a b j (co a b e)) };
  }

  -- All pairs are of one class each already

  pub closing_all : (ps : List (Ident × Ident)) → Joins g ps → Closing ts g f ps → Closing ts g f []
  closing_all ps already c = record {
    idem = c.idem;
    sound = c.sound;
    due = λ x y d. none_in (x, y) d;
    equal = λ x y d h co j. c.equal x y d h co (λ a b e. co a b (already a b e));
    firsts = c.firsts;
    stands = λ k y w t. let s = c.stands k y w t in
        record { place = s.place; found = s.found; early = s.early; value = s.value; told = s.told; like = s.like; agree = λ h co j. s.agree h co (λ a b e. co a b (already a b e)) };
  }

  -- Nothing is pending

  module _ (c : Closing ts g f []) where
    no_pairs : (h : Ident → Ident) → Joins h []
    no_pairs h a b d = none_in (a, b) d

    place_one : (y z : Ident) (p q : ℕ) → f (g y) ≡ Some p → f (g z) ≡ Some q → g y ≡ g z → p ≡ q
    place_one y z p q e k same_root = some_is p q (sym e ∙ ap f same_root ∙ k)

    -- two values of one class stand for each other
    one_value : (j k : ℕ) (y z : Ident) (v w : Value) (s : Stands ts g f [] j y v) (t : Stands ts g f [] k z w) → g y ≡ g z → s.value ≡ t.value
    one_value j k y z v w s t e = some_is s.value t.value (sym s.told ∙ ap (value_at ts) (place_one y z s.place t.place s.found t.found e) ∙ t.told)

    pub at_place : (y : Ident) (v : Value) (d : Contains ts (Is y v)) → Stands ts g f [] (place_in ts (Is y v) d).0 y v
    at_place y v d = let p = place_in ts (Is y v) d in c.stands p.0 y v p.1

    pub whole : {a b : Ident} → Same ts a b → g a ≡ g b
    whole (told {x = a} {y = b} d) = c.equal a b d g (λ x y e. e) (no_pairs g)
    whole itself = refl
    whole (reversed s) = sym (whole s)
    whole (joined s t) = whole s ∙ whole t
    whole (field {x = p} {y = q} {a = a} {b = b} {v = v} {w = w} i s tp tq l ea eb) =
        let sv = at_place p v tp in
        let sw = at_place q w tq in
        let is = one_value _ _ p q v w sv sw (whole s) in
        let fields : map g (fields_of v) ≡ map g (fields_of w) = sym (sv.agree g (λ x y e. e) (no_pairs g)) ∙ ap (λ u. map g (fields_of u)) is ∙ sw.agree g (λ x y e. e) (no_pairs g) in
        some_is (g a) (g b) (sym (map_at g (fields_of v) i a ea) ∙ ap (λ bs. slice_get bs i) fields ∙ map_at g (fields_of w) i b eb)

    pub one_class : (a b : Ident) → g a ≡ g b → Same ts a b
    one_class a b e = joined (c.sound a) (subst (λ z. Same ts z b) (sym e) (reversed (c.sound b)))

    pub agreeing : (a b : Ident) (v w : Value) → Same ts a b → Contains ts (Is a v) → Contains ts (Is b w) → is_like v w ≡ true
    agreeing a b v w s d e =
        let sv = at_place a v d in
        let sw = at_place b w e in
        let is = one_value _ _ a b v w sv sw (whole s) in
        alike-trans v sv.value w (alike-sym sv.value v sv.like) (subst (λ u. is_like u w ≡ true) (sym is) sw.like)

    -- The place of the first value of a class

    if_given : (b : Bool) (v : Value) → is_some (if_value b v) ≡ true → b ≡ true
    if_given true v e = refl
    if_given false v e = absurd (false≢true e)

    earlier : (x : Ident) (p k : ℕ) (t : Tell) → f (g x) ≡ Some p → slice_get ts k ≡ Some t → gives_value ts x t ≡ true → p ≤ k
    earlier x p k (Equal a b) e d h = absurd (false≢true h)
    earlier x p k (Within a is) e d h = absurd (false≢true h)
    earlier x p k (Is y w) e d h =
        let s = c.stands k y w d in
        let y_x = (tests_same ts y x).0 (if_given (same ts y x) w h) in
        let is = place_one y x s.place p s.found e (whole y_x) in
        omega (arith, s.early, is)

    before : (x : Ident) (p k : ℕ) (t : Tell) → f (g x) ≡ Some p → k < p → slice_get ts k ≡ Some t → gives_value ts x t ≡ false
    before x p k t e l d = by (gives_value ts x t) refl
      where
        by : (b : Bool) → gives_value ts x t ≡ b → b ≡ false
        by true h = absurd (omega (arith, l, earlier x p k t e d h))
        by false h = refl

    never : (x : Ident) (k : ℕ) (t : Tell) → f (g x) ≡ None → slice_get ts k ≡ Some t → gives_value ts x t ≡ false
    never x k (Equal a b) e d = refl
    never x k (Within a is) e d = refl
    never x k (Is y w) e d = by (same ts y x) refl
      where
        by : (b : Bool) → same ts y x ≡ b → is_some (if_value b w) ≡ false
        by true h = let s = c.stands k y w d in some_not_none (f (g x)) s.place (ap f (sym (whole ((tests_same ts y x).0 h))) ∙ s.found) e
        by false h = refl

    pub place_is : (x : Ident) → f (g x) ≡ value_place ts x
    place_is x = by (f (g x)) refl
      where
        by : (o : Option ℕ) → f (g x) ≡ o → o ≡ value_place ts x
        by None e = sym (place_absent (gives_value ts x) ts (λ k t d. never x k t e d))
        by (Some p) e =
            let a = c.firsts (g x) p (c.idem x) e in
            let same_x = (tests_same ts a.variable x).1 (one_class a.variable x a.class) in
            sym (place_found (gives_value ts x) ts p (Is a.variable a.value) a.told (ap (λ b. is_some (if_value b a.value)) same_x) (λ k t l d. before x p k t e l d))

-- One tell more

module _ (ts : List Tell) (g : Ident → Ident) (f : Ident → Option ℕ) (c : Closing ts g f []) where
  more_sound : (t : Tell) (x : Ident) → Same (ts ++ t ∷ []) x (g x)
  more_sound t x = Same-prefix ts (t ∷ []) (c.sound x)

  more_firsts : (t : Tell) (r : Ident) (p : ℕ) → g r ≡ r → f r ≡ Some p → ToldAt (ts ++ t ∷ []) g r p
  more_firsts t r p e k =
      let a = c.firsts r p e k in
      record { variable = a.variable; value = a.value; told = more_at ts (t ∷ []) p (Is a.variable a.value) a.told; class = a.class }

  pub more_value : (t : Tell) (p : ℕ) (v : Value) → value_at ts p ≡ Some v → value_at (ts ++ t ∷ []) p ≡ Some v
  more_value t p v e = let k = value_is (slice_get ts p) v e in ap value_told (more_at ts (t ∷ []) p (Is k.0 v) k.1)

  more_stands : (t : Tell) (ps : List (Ident × Ident)) (k : ℕ) (y : Ident) (w : Value) → Stands ts g f [] k y w → Stands (ts ++ t ∷ []) g f ps k y w
  more_stands t ps k y w s = record {
    place = s.place;
    found = s.found;
    early = s.early;
    value = s.value;
    told = more_value t s.place s.value s.told;
    like = s.like;
    agree = λ h co j. s.agree h co (λ a b d. none_in (a, b) d);
  }

  -- an equation
  pub more_equal : (x y : Ident) → Closing (ts ++ Equal x y ∷ []) g f ((x, y) ∷ [])
  more_equal x y = record {
    idem = c.idem;
    sound = more_sound (Equal x y);
    due = λ a b d. elim (cons_cases (x, y) (a, b) [] d) [
      | inl e ↦ subst (λ (p : Ident × Ident). Same (ts ++ Equal x y ∷ []) p.0 p.1) e (told (Contains-push ts (Equal x y)))
      | inr n ↦ none_in (a, b) n
    ];
    equal = λ a b d h co j. elim (Contains-push_cases ts (Equal x y) (Equal a b) d) [
      | inl o ↦ c.equal a b o h co (λ p q n. none_in (p, q) n)
      | inr e ↦ (let l : x ≡ a = cc in let r : y ≡ b = cc in ap h (sym l) ∙ j x y (head_in (x, y) []) ∙ ap h r)
    ];
    firsts = more_firsts (Equal x y);
    stands = λ k z w e. elim (push_at ts (Equal x y) k (Is z w) e) [
      | inl d ↦ more_stands (Equal x y) ((x, y) ∷ []) k z w (c.stands k z w d)
      | inr d ↦ absurd (cc)
    ];
  }

  -- a domain
  pub more_within : (x : Ident) (is : List Interval) → Closing (ts ++ Within x is ∷ []) g f []
  more_within x is = record {
    idem = c.idem;
    sound = more_sound (Within x is);
    due = λ a b d. none_in (a, b) d;
    equal = λ a b d h co j. elim (Contains-push_cases ts (Within x is) (Equal a b) d) [
      | inl o ↦ c.equal a b o h co j
      | inr e ↦ absurd (cc)
    ];
    firsts = more_firsts (Within x is);
    stands = λ k z w e. elim (push_at ts (Within x is) k (Is z w) e) [
      | inl d ↦ more_stands (Within x is) [] k z w (c.stands k z w d)
      | inr d ↦ absurd (cc)
    ];
  }

  -- what a class had before it still has
  pub value_before : (t : Tell) (r : Ident) (p : ℕ) (v : Value) → g r ≡ r → f r ≡ Some p → value_at (ts ++ t ∷ []) p ≡ Some v → value_at ts p ≡ Some v
  value_before t r p v e k q =
      let a = c.firsts r p e k in
      let was : value_at ts p ≡ Some a.value = ap value_told a.told in
      was ∙ sym (more_value t p a.value was) ∙ q

  more_told : (x : Ident) (v : Value) (a b : Ident) → Contains (ts ++ Is x v ∷ []) (Equal a b) → g a ≡ g b
  more_told x v a b d = elim (Contains-push_cases ts (Is x v) (Equal a b) d) [ inl o ↦ whole ts g f c (told o) | inr e ↦ absurd (cc) ]

  -- a value that is like the first of its class
  module _ (x : Ident) (v w : Value) (p : ℕ) (at : f (g x) ≡ Some p) (first : value_at ts p ≡ Some w) (like : is_like w v ≡ true) where
    abbrev after : List Tell
    after = ts ++ Is x v ∷ []

    fields_due : (a b : Ident) → Contains (zip (fields_of w) (fields_of v)) (a, b) → Same after a b
    fields_due a b d =
        let z = in_zip (fields_of w) (fields_of v) a b d in
        let t = c.firsts (g x) p (c.idem x) at in
        let is : t.value ≡ w = some_is t.value w (ap value_told (sym t.told) ∙ first) in
        let there : Contains after (Is t.variable w) = Contains-append_left ts (Is x v ∷ []) (Is t.variable w) (in_place ts (Is t.variable w) p (t.told ∙ ap (λ u. Some (Is t.variable u)) is)) in
        field {v = w} {w = v} z.place (Same-prefix ts (Is x v ∷ []) (one_class ts g f c t.variable x t.class)) there (Contains-push ts (Is x v)) like z.left z.right

    last_stands : (k : ℕ) (y : Ident) (u : Value) → k ≡ length ts → x ≡ y → v ≡ u → Stands after g f (zip (fields_of w) (fields_of v)) k y u
    last_stands k y u ek ey eu = record {
      place = p;
      found = ap (λ z. f (g z)) (sym ey) ∙ at;
      early = (let t = c.firsts (g x) p (c.idem x) at in omega (arith, ek, slice_get_within ts p (Is t.variable t.value) t.told));
      value = w;
      told = more_value (Is x v) p w first;
      like = subst (λ z. is_like w z ≡ true) eu like;
      agree = λ h co j. zip_agrees h (fields_of w) (fields_of v) (like_length w v like) j ∙ ap (λ z. map h (fields_of z)) eu;
    }

    pub more_like : Closing (ts ++ Is x v ∷ []) g f (zip (fields_of w) (fields_of v))
    more_like = record {
      idem = c.idem;
      sound = more_sound (Is x v);
      due = fields_due;
      equal = λ a b d h co j. co a b (more_told x v a b d);
      firsts = more_firsts (Is x v);
      stands = λ k y u e. elim (push_at ts (Is x v) k (Is y u) e) [
        | inl d ↦ more_stands (Is x v) (zip (fields_of w) (fields_of v)) k y u (c.stands k y u d)
        | inr d ↦ (let ey : x ≡ y = cc in let eu : v ≡ u = cc in last_stands k y u d.0 ey eu)
      ];
    }

  -- the first value of a class
  module _ (f' : Ident → Option ℕ) (x : Ident) (v : Value) (free : f (g x) ≡ None) (here : f' (g x) ≡ Some (length ts)) (others : (z : Ident) → (z ≡ g x → ⊥) → f' z ≡ f z) where
    was_valued : (z : Ident) (p : ℕ) → f z ≡ Some p → f' z ≡ Some p
    was_valued z p e = others z (λ k. some_not_none (f z) p e (ap f k ∙ free)) ∙ e

    free_firsts : (r : Ident) (p : ℕ) → g r ≡ r → f' r ≡ Some p → ToldAt (ts ++ Is x v ∷ []) g r p
    free_firsts r p e k = elim (decided r (g x)) [
      | one is ↦ record {
        variable = x;
        value = v;
        told = subst (λ q. slice_get (ts ++ Is x v ∷ []) q ≡ Some (Is x v)) (some_is (length ts) p (sym here ∙ ap f' (sym is) ∙ k)) (last_at ts (Is x v));
        class = sym is;
      }
      | two ne ↦ more_firsts (Is x v) r p e (sym (others r ne) ∙ k)
    ]

    free_stands : (k : ℕ) (y : Ident) (w : Value) → Stands ts g f [] k y w → Stands (ts ++ Is x v ∷ []) g f' [] k y w
    free_stands k y w s = record {
      place = s.place;
      found = was_valued (g y) s.place s.found;
      early = s.early;
      value = s.value;
      told = more_value (Is x v) s.place s.value s.told;
      like = s.like;
      agree = s.agree;
    }

    free_last : (k : ℕ) (y : Ident) (u : Value) → k ≡ length ts → x ≡ y → v ≡ u → Stands (ts ++ Is x v ∷ []) g f' [] k y u
    free_last k y u ek ey eu = record {
      place = length ts;
      found = ap (λ z. f' (g z)) (sym ey) ∙ here;
      early = omega (arith, ek);
      value = v;
      told = ap value_told (last_at ts (Is x v));
      like = subst (λ z. is_like v z ≡ true) eu (alike-refl v);
      agree = λ h co j. ap (λ z. map h (fields_of z)) eu;
    }

    pub more_free : Closing (ts ++ Is x v ∷ []) g f' []
    more_free = record {
      idem = c.idem;
      sound = more_sound (Is x v);
      due = λ a b d. none_in (a, b) d;
      equal = λ a b d h co j. co a b (more_told x v a b d);
      firsts = free_firsts;
      stands = λ k y u e. elim (push_at ts (Is x v) k (Is y u) e) [
        | inl d ↦ free_stands k y u (c.stands k y u d)
        | inr d ↦ (let ey : x ≡ y = cc in let eu : v ≡ u = cc in free_last k y u d.0 ey eu)
      ];
    }

-- Values that differ

pub clash : (ts : List Tell) (p q : ℕ) (y z : Ident) (v w : Value) → slice_get ts p ≡ Some (Is y v) → slice_get ts q ≡ Some (Is z w) → Same ts y z → is_like v w ≡ false → is_consistent ts ≡ false
clash ts p q y z v w tp tq s unlike = by (is_consistent ts) refl
  where
    by : (t : Bool) → is_consistent ts ≡ t → t ≡ false
    by true e = absurd (false≢true (sym unlike ∙ ((tests_consistent ts).0 e).agree y z v w s (in_place ts (Is y v) p tp) (in_place ts (Is z w) q tq)))
    by false e = refl

-- a value that is told differs from the first of its class
pub more_differs : (ts : List Tell) (g : Ident → Ident) (f : Ident → Option ℕ) → Closing ts g f [] → (x : Ident) (v w : Value) (p : ℕ) → f (g x) ≡ Some p → value_at ts p ≡ Some w → is_like w v ≡ false → is_consistent (ts ++ Is x v ∷ []) ≡ false
more_differs ts g f c x v w p at first unlike =
    let t = c.firsts (g x) p (c.idem x) at in
    let is : t.value ≡ w = some_is t.value w (ap value_told (sym t.told) ∙ first) in
    let there = more_at ts (Is x v ∷ []) p (Is t.variable w) (t.told ∙ ap (λ u. Some (Is t.variable u)) is) in
    clash (ts ++ Is x v ∷ []) p (length ts) t.variable x w v there (last_at ts (Is x v)) (Same-prefix ts (Is x v ∷ []) (one_class ts g f c t.variable x t.class)) unlike

-- How a closing goes on where two classes are joined.
use Rattle.std.proofs.Common.{ℕ, ◌≡◌, ◌∙◌, ◌≤◌, ◌⊎◌, inl, inr, true, List, [], ◌∷◌, ◌++◌, map, Option, Some, None, refl, sym, ap, subst, arith, slice_get}
use Rattle.std.specs.Prelude.{Contains}
use Rattle.std.proofs.lemmas.List.Elements.{Contains-append_left, Contains-push}
use Rattle.oz_base.specs.declared.names.Ident.{Ident}
use Rattle.oz_laws.proofs.AlikeLaws.{alike-refl, alike-sym, alike-trans}
use Rattle.oz_semantics.specs.Store.{Same, reversed, joined}
use Rattle.oz_semantics.specs.Values.{is_like, fields_of}
use Rattle.oz_semantics.specs.declared.value.Value.{Value}
use Rattle.oz_semantics.specs.declared.value.Tell.{Tell}
use Rattle.oz_semantics.specs.declared.value.Tell.TheVariants.{Is}
use Rattle.term_store.specs.Classes.{instead}
use Rattle.term_store.specs.Closing.{Coarser, Joins, Agree, ToldAt, Stands, Closing}
use Rattle.term_store.specs.Places.{value_at}
use Rattle.term_store.proofs.ClassLaws.{one, two, decided, instead_is, instead_other}
use Rattle.term_store.proofs.ClosingLaws.{some_is, some_not_none, Joins-push}

-- the variables of a pair that stand for its classes, one of which is put below the other
pub record Turn (g : Ident → Ident) (l r u o : Ident) : Type 0 where
  pub under : g u ≡ u
  pub over : g o ≡ o
  pub apart : u ≡ o → ⊥
  pub pair : ((g l ≡ u) × (g r ≡ o)) ⊎ ((g l ≡ o) × (g r ≡ u))

-- the value at m is that at p or that at q, whichever is earlier; they are alike, and the pairs join their fields
pub record Alike (ts : List Tell) (ps : List (Ident × Ident)) (p q m : ℕ) : Type 0 where
  pub left : Value
  pub right : Value
  pub at_left : value_at ts p ≡ Some left
  pub at_right : value_at ts q ≡ Some right
  pub like : is_like left right ≡ true
  pub fields : (h : Ident → Ident) → Joins h ps → map h (fields_of left) ≡ map h (fields_of right)
  pub earliest : ((m ≡ p) × (p ≤ q)) ⊎ ((m ≡ q) × (q ≤ p))

-- the places of the values of two classes, where the second is put below the first: the second has none, or they are alike
pub data Fit (ts : List Tell) (f f' : Ident → Option ℕ) (ps : List (Ident × Ident)) (u o : Ident) : Type 0 where
  free : f u ≡ None → f' o ≡ f o → Fit ts f f' ps u o
  alike : (p q m : ℕ) → f o ≡ Some p → f u ≡ Some q → f' o ≡ Some m → Alike ts ps p q m → Fit ts f f' ps u o

-- What stands for a value of one of two classes with values

pub record Rep (ts : List Tell) (ps : List (Ident × Ident)) (m : ℕ) (p : ℕ) (v : Value) : Type 0 where
  pub value : Value
  pub told : value_at ts m ≡ Some value
  pub early : m ≤ p
  pub like : is_like value v ≡ true
  pub fields : (h : Ident → Ident) → Joins h ps → map h (fields_of value) ≡ map h (fields_of v)

module _ (ts : List Tell) (ps : List (Ident × Ident)) (p q m : ℕ) (a : Alike ts ps p q m) where
  pub left_rep : Rep ts ps m p a.left
  left_rep = elim a.earliest [
    | inl e ↦ record { value = a.left; told = ap (value_at ts) e.0 ∙ a.at_left; early = omega (arith, e.0); like = alike-refl a.left; fields = λ h j. refl }
    | inr e ↦ record { value = a.right; told = ap (value_at ts) e.0 ∙ a.at_right; early = omega (arith, e.0, e.1); like = alike-sym a.left a.right a.like; fields = λ h j. sym (a.fields h j) }
  ]

  pub right_rep : Rep ts ps m q a.right
  right_rep = elim a.earliest [
    | inl e ↦ record { value = a.left; told = ap (value_at ts) e.0 ∙ a.at_left; early = omega (arith, e.0, e.1); like = a.like; fields = a.fields }
    | inr e ↦ record { value = a.right; told = ap (value_at ts) e.0 ∙ a.at_right; early = omega (arith, e.0); like = alike-refl a.right; fields = λ h j. refl }
  ]

module _ (ts : List Tell) (g : Ident → Ident) (f f' : Ident → Option ℕ) (ps ps' : List (Ident × Ident)) (l r u o : Ident) (c : Closing ts g f (ps ++ (l, r) ∷ [])) (turn : Turn g l r u o)
    (joins_old : (h : Ident → Ident) → Joins h ps' → Joins h ps) (due_new : (z w : Ident) → Contains ps' (z, w) → Contains ps (z, w) ⊎ Same ts z w)
    (fit : Fit ts f f' ps' u o) (others : (z : Ident) → (z ≡ u → ⊥) → (z ≡ o → ⊥) → f' z ≡ f z) where
  abbrev after : Ident → Ident
  after z = instead u o (g z)

  pub roots_same : Same ts u o
  roots_same =
      let s : Same ts (g l) (g r) = joined (reversed (c.sound l)) (joined (c.due l r (Contains-push ps (l, r))) (c.sound r)) in
      elim turn.pair [
        | inl e ↦ subst (λ a. Same ts a o) e.0 (subst (λ b. Same ts (g l) b) e.1 s)
        | inr e ↦ subst (λ a. Same ts a o) e.1 (subst (λ b. Same ts (g r) b) e.0 (reversed s))
      ]

  over_stays : instead u o o ≡ o
  over_stays = instead_other u o o (λ e. turn.apart (sym e))

  pair_one : after l ≡ after r
  pair_one = elim turn.pair [
    | inl e ↦ ap (instead u o) e.0 ∙ instead_is u o ∙ sym over_stays ∙ sym (ap (instead u o) e.1)
    | inr e ↦ ap (instead u o) e.0 ∙ over_stays ∙ sym (instead_is u o) ∙ sym (ap (instead u o) e.1)
  ]

  was_coarser : (h : Ident → Ident) → Coarser after h → Coarser g h
  was_coarser h co a b e = co a b (ap (instead u o) e)

  with_pair : (h : Ident → Ident) → Coarser after h → Joins h ps' → Joins h (ps ++ (l, r) ∷ [])
  with_pair h co j = Joins-push h ps l r (joins_old h j) (co l r pair_one)

  joined_sound : (z : Ident) → Same ts z (after z)
  joined_sound z = elim (decided (g z) u) [
    | one e ↦ subst (λ a. Same ts z a) (sym (ap (instead u o) e ∙ instead_is u o)) (joined (subst (λ a. Same ts z a) e (c.sound z)) roots_same)
    | two ne ↦ subst (λ a. Same ts z a) (sym (instead_other u o (g z) ne)) (c.sound z)
  ]

  joined_idem : (z : Ident) → after (after z) ≡ after z
  joined_idem z = elim (decided (g z) u) [
    | one e ↦ (let k : after z ≡ o = ap (instead u o) e ∙ instead_is u o in ap after k ∙ ap (instead u o) turn.over ∙ over_stays ∙ sym k)
    | two ne ↦ ap after (instead_other u o (g z) ne) ∙ ap (instead u o) (c.idem z)
  ]

  agree_after : (v w : Value) → Agree g (ps ++ (l, r) ∷ []) v w → (h : Ident → Ident) → Coarser after h → Joins h ps' → map h (fields_of v) ≡ map h (fields_of w)
  agree_after v w a h co j = a h (was_coarser h co) (with_pair h co j)

  -- a value stands that stood
  kept_stands : (k : ℕ) (y : Ident) (w : Value) (s : Stands ts g f (ps ++ (l, r) ∷ []) k y w) → f' (after y) ≡ Some s.place → Stands ts after f' ps' k y w
  kept_stands k y w s e = record { place = s.place; found = e; early = s.early; value = s.value; told = s.told; like = s.like; agree = agree_after s.value w s.agree }

  -- or that at m stands for it
  rep_stands : (k : ℕ) (y : Ident) (w : Value) (s : Stands ts g f (ps ++ (l, r) ∷ []) k y w) (m : ℕ) (v : Value) → f' (after y) ≡ Some m → value_at ts s.place ≡ Some v → Rep ts ps' m s.place v → Stands ts after f' ps' k y w
  rep_stands k y w s m v e at rep =
      let is : v ≡ s.value = some_is v s.value (sym at ∙ s.told) in
      record {
        place = m;
        found = e;
        early = omega (arith, rep.early, s.early);
        value = rep.value;
        told = rep.told;
        like = alike-trans rep.value v w rep.like (subst (λ z. is_like z w ≡ true) (sym is) s.like);
        agree = λ h co j. rep.fields h j ∙ ap (λ z. map h (fields_of z)) is ∙ agree_after s.value w s.agree h co j;
      }

  under_stands : (k : ℕ) (y : Ident) (w : Value) → Stands ts g f (ps ++ (l, r) ∷ []) k y w → g y ≡ u → after y ≡ o → Fit ts f f' ps' u o → Stands ts after f' ps' k y w
  under_stands k y w s e is (free none _) = some_not_none (f u) s.place (ap f (sym e) ∙ s.found) none
  under_stands k y w s e is (alike p q m at_o at_u now a) =
      let q_is : q ≡ s.place = some_is q s.place (sym at_u ∙ ap f (sym e) ∙ s.found) in
      rep_stands k y w s m a.right (ap f' is ∙ now) (ap (value_at ts) (sym q_is) ∙ a.at_right) (subst (λ n. Rep ts ps' m n a.right) q_is (right_rep ts ps' p q m a))

  over_stands : (k : ℕ) (y : Ident) (w : Value) → Stands ts g f (ps ++ (l, r) ∷ []) k y w → g y ≡ o → after y ≡ o → Fit ts f f' ps' u o → Stands ts after f' ps' k y w
  over_stands k y w s e is (free none now) = kept_stands k y w s (ap f' is ∙ now ∙ ap f (sym e) ∙ s.found)
  over_stands k y w s e is (alike p q m at_o at_u now a) =
      let p_is : p ≡ s.place = some_is p s.place (sym at_o ∙ ap f (sym e) ∙ s.found) in
      rep_stands k y w s m a.left (ap f' is ∙ now) (ap (value_at ts) (sym p_is) ∙ a.at_left) (subst (λ n. Rep ts ps' m n a.left) p_is (left_rep ts ps' p q m a))

  joined_stands : (k : ℕ) (y : Ident) (w : Value) → Stands ts g f (ps ++ (l, r) ∷ []) k y w → Stands ts after f' ps' k y w
  joined_stands k y w s = elim (decided (g y) u) [
    | one e ↦ under_stands k y w s e (ap (instead u o) e ∙ instead_is u o) fit
    | two nu ↦ elim (decided (g y) o) [
      | one e ↦ over_stands k y w s e (ap (instead u o) e ∙ over_stays) fit
      | two no_over ↦ kept_stands k y w s (ap f' (instead_other u o (g y) nu) ∙ others (g y) nu no_over ∙ s.found)
    ]
  ]

  -- the first values

  over_firsts : (p : ℕ) → f' o ≡ Some p → Fit ts f f' ps' u o → ToldAt ts after o p
  over_firsts p e (free none now) =
      let t = c.firsts o p turn.over (sym now ∙ e) in
      record { variable = t.variable; value = t.value; told = t.told; class = ap (instead u o) t.class ∙ over_stays }
  over_firsts n e (alike p q m at_o at_u now a) =
      let n_is : m ≡ n = some_is m n (sym now ∙ e) in
      elim a.earliest [
        | inl k ↦ (let t = c.firsts o p turn.over at_o in
            record { variable = t.variable; value = t.value; told = subst (λ i. slice_get ts i ≡ Some (Is t.variable t.value)) (sym k.0 ∙ n_is) t.told; class = ap (instead u o) t.class ∙ over_stays })
        | inr k ↦ (let t = c.firsts u q turn.under at_u in
            record { variable = t.variable; value = t.value; told = subst (λ i. slice_get ts i ≡ Some (Is t.variable t.value)) (sym k.0 ∙ n_is) t.told; class = ap (instead u o) t.class ∙ instead_is u o })
      ]

  joined_firsts : (z : Ident) (p : ℕ) → after z ≡ z → f' z ≡ Some p → ToldAt ts after z p
  joined_firsts z p root e = elim (decided z o) [
    | one is ↦ subst (λ a. ToldAt ts after a p) (sym is) (over_firsts p (ap f' (sym is) ∙ e) fit)
    | two no_over ↦ elim (decided (g z) u) [
      | one k ↦ absurd (no_over (sym root ∙ ap (instead u o) k ∙ instead_is u o))
      | two nu ↦ (let was : g z ≡ z = sym (instead_other u o (g z) nu) ∙ root in
          let not_u : z ≡ u → ⊥ = λ k. nu (was ∙ k) in
          let t = c.firsts z p was (sym (others z not_u no_over) ∙ e) in
          record { variable = t.variable; value = t.value; told = t.told; class = ap (instead u o) t.class ∙ instead_other u o z not_u })
    ]
  ]

  pub joins : Closing ts after f' ps'
  joins = record {
    idem = joined_idem;
    sound = joined_sound;
    due = λ z w d. elim (due_new z w d) [ inl k ↦ c.due z w (Contains-append_left ps ((l, r) ∷ []) (z, w) k) | inr s ↦ s ];
    equal = λ x y d h co j. c.equal x y d h (was_coarser h co) (with_pair h co j);
    firsts = joined_firsts;
    stands = λ k y w t. joined_stands k y w (c.stands k y w t);
  }

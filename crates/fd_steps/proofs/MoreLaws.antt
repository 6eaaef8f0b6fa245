-- What a thread tells and posts leaves a state good.
use Rattle.std.proofs.Common.{◌≡◌, ◌≢◌, ◌⊎◌, inl, inr, ℕ, zero, suc, ◌+◌, ◌<◌, ◌≤◌, List, [], ◌∷◌, ◌++◌, length, map, flat_map, Contains, All, Option, Some, None, is_some, refl, sym, ◌∙◌, ap, subst, arith}
use Rattle.std.proofs.lemmas.List.{append-nil, get_or_append_left, length-append}
use Rattle.std.proofs.lemmas.List.Elements.{All-head, All-tail, Contains-append_cases, Contains-append_left, Contains-append_right}
use Rattle.environments.specs.Environments.{nowhere}
use Rattle.oz_base.specs.declared.names.Ident.{Ident}
use Rattle.oz_base.specs.declared.relation.Relation.{Relation}
use Rattle.oz_semantics.specs.Values.{fields_of}
use Rattle.oz_semantics.specs.Store.{View, Same, named_by}
use Rattle.oz_semantics.specs.declared.value.Value.{Value}
use Rattle.oz_semantics.specs.declared.value.Tell.{Tell}
use Rattle.oz_semantics.specs.declared.value.Tell.TheVariants.{Equal, Is, Within}
use Rattle.oz_semantics.specs.declared.configuration.LastRun.TheVariants.{Never}
use Rattle.oz_semantics.specs.declared.configuration.Propagator.{Propagator}
use Rattle.fd_stores.specs.Stores.{Store, Constraint, Posted, Told, Runs}
use Rattle.propagators.proofs.StepLaws.{parts_refl}
use Rattle.fd_stores.specs.Stores as stores
use Rattle.fd_stores.proofs.Lists.{contains_cases, contains_none, contains_head}
use Rattle.fd_views.specs.Views.{variable_at, variables_at, HaveDomains, IsFree, StandsFor, OnlyDomains}
use Rattle.fd_views.proofs.SameLaws.{value_same, stand, stand_other, equation_same}
use Rattle.fd_views.proofs.StandLaws.{free_value, free_equation, valued_stands, equated_stands, next_stands}
use Rattle.fd_turns.specs.Nodes.{Top, node_space, own}
use Rattle.fd_steps.specs.States.{State, told_more, with_value, with_equation, with_room, with_variable, new_propagator, with_post, view_of, IsBelow, IsPosted, IsDone, IsGood, IsLater}
use Rattle.fd_steps.proofs.GoodLaws.{is_variable, view_more, told_good, told_later, domains_good}

own_same : (i j : ℕ) → own i ≡ own j → i ≡ j
own_same i j e = ap (λ (x : Ident). x.number) e

own_not_top : (i : ℕ) (x : Ident) → x.space ≡ [] → own i ≡ x → ⊥
own_not_top i x e f = no_top (ap (λ (y : Ident). y.space) f ∙ e) where
  no_top : node_space ≡ [] → ⊥
  no_top g = cc

module _ (t : Top) (cs : List Constraint) (st : State) (h : IsGood t cs st) where
  abbrev seen : View
  seen = view_of t st

  -- ---- a value

  module _ (i : ℕ) (v : Value) (f : IsFree seen (own i)) (n : Contains st.variables (own i) → ⊥) where
    value_stands : StandsFor (seen ++ Is (own i) v ∷ []) st.variables st.store
    value_stands = valued_stands seen st.variables st.store (own i) v h.stands f n

    value_named : i < st.next → ((x : Ident) → Contains (fields_of v) x → IsBelow st.next x) → (x : Ident) → Contains (flat_map named_by (Is (own i) v ∷ [])) x → IsBelow st.next x
    value_named l below x c = elim (contains_cases (own i) x (fields_of v ++ []) c) [
      | inl e ↦ inr (i, l, sym e)
      | inr k ↦ below x (subst (λ xs. Contains xs x) (append-nil (fields_of v)) k)
    ]

    pub valued_good : i < st.next → ((x : Ident) → Contains (fields_of v) x → IsBelow st.next x) → IsGood t cs (with_value i v st)
    valued_good l below = told_good t cs st h (Is (own i) v ∷ []) st.store value_stands h.over (parts_refl st.store) (value_named l below) (λ x y a b c. value_same seen (own i) v f c)

    pub valued_later : IsLater t cs (λ j. j ≡ i) st (with_value i v st)
    valued_later = told_later t cs st h (Is (own i) v ∷ []) st.store value_stands h.over (parts_refl st.store) stores.none (λ j. j ≡ i) (λ j l m g. free_value seen (own j) (own i) v g f (λ e. m (own_same j i (sym e))))

  -- ---- an equation with a variable of the top

  module _ (i : ℕ) (y : Ident) (f : IsFree seen (own i)) (n : Contains st.variables (own i) → ⊥) (top : y.space ≡ []) where
    top_other : Contains st.variables y → ⊥
    top_other c = (let g = h.given y c in own_not_top g.0 y top (sym g.2))

    equation_stands : StandsFor (seen ++ Equal (own i) y ∷ []) st.variables st.store
    equation_stands = equated_stands seen st.variables st.store (own i) y h.stands f n top_other

    top_stays : (x : Ident) → x.space ≡ [] → stand seen (own i) y f x ≡ x
    top_stays x e = stand_other seen (own i) y f x (λ g. own_not_top i x e (sym g))

    pub equated_good : i < st.next → IsGood t cs (with_equation i y st)
    equated_good l =
        told_good t cs st h (Equal (own i) y ∷ []) st.store equation_stands h.over (parts_refl st.store) named
        (λ a b p q c. subst (λ z. Same seen z b) (top_stays a p) (subst (Same seen (stand seen (own i) y f a)) (top_stays b q) (equation_same seen (own i) y f c))) where
          named : (x : Ident) → Contains (flat_map named_by (Equal (own i) y ∷ [])) x → IsBelow st.next x
          named x c = elim (contains_cases (own i) x (y ∷ []) c) [
            | inl e ↦ inr (i, l, sym e)
            | inr k ↦ elim (contains_cases y x [] k) [ inl e ↦ inl (ap (λ (z : Ident). z.space) (sym e) ∙ top) | inr g ↦ absurd (contains_none x g) ]
          ]

    pub equated_later : IsLater t cs (λ j. j ≡ i) st (with_equation i y st)
    equated_later = told_later t cs st h (Equal (own i) y ∷ []) st.store equation_stands h.over (parts_refl st.store) stores.none (λ j. j ≡ i)
        (λ j l m g. free_equation seen (own j) (own i) y g f (λ e. m (own_same j i e)) (λ e. own_not_top j y top e))

  -- ---- new variables

  below_more : (n : ℕ) (x : Ident) → IsBelow st.next x → IsBelow (st.next + n) x
  below_more n x (inl e) = inl e
  below_more n x (inr k) = inr (k.0, omega (arith, k.1), k.2)

  pub given_good : (n : ℕ) → IsGood t cs (with_room n st)
  given_good n = record {
    stands = h.stands;
    over = h.over;
    posts = h.posts;
    done = h.done;
    named = λ x c. below_more n x (h.named x c);
    given = λ x c. (let g = h.given x c in (g.0, omega (arith, g.1), g.2));
    above = h.above;
  }

  pub given_later : (told : ℕ → Type 0) (n : ℕ) → IsLater t cs told st (with_room n st)
  given_later told n = record { keeps = λ u c. c; runs = stores.none; next = omega arith; variables = refl; posted = refl; free = λ i l m f. f }

  -- ---- a further variable of the search

  pub longer_at : (xs : List Ident) (y : Ident) (is : List ℕ) → All (λ x. x < length xs) is → variables_at (xs ++ y ∷ []) is ≡ variables_at xs is
  longer_at xs y [] a = refl
  longer_at xs y (x ∷ is) a = (let e = get_or_append_left xs (y ∷ []) nowhere x (All-head (λ z. z < length xs) x is a) in let f = longer_at xs y is (All-tail (λ z. z < length xs) x is a) in λ i. e i ∷ f i)

  pub longer_all : (xs : List Ident) (y : Ident) (is : List ℕ) → All (λ x. x < length xs) is → All (λ x. x < length (xs ++ y ∷ [])) is
  longer_all xs y is a = λ k d l. (let e = length-append xs (y ∷ []) in let b = a k d l in omega (arith, b, e))

  module _ (i : ℕ) (f : IsFree seen (own i)) (n : Contains st.variables (own i) → ⊥) (l : i < st.next) (room : length st.variables < length st.store) where
    abbrev pub joined : State
    joined = record st { variables = st.variables ++ own i ∷ [] }

    posted_longer : (p : Propagator) → IsPosted cs seen st.variables st.store p → IsPosted cs seen (st.variables ++ own i ∷ []) st.store p
    posted_longer p k = (let e = longer_at st.variables (own i) k.places k.inside in record {
      places = k.places;
      variables = k.variables ∙ sym e;
      among = k.among;
      inside = longer_all st.variables (own i) k.places k.inside;
      have = subst (HaveDomains seen) (sym e) k.have;
      note = k.note;
    })

    done_longer : (c : Constraint) → IsDone st.variables st.store st.propagators c → IsDone (st.variables ++ own i ∷ []) st.store st.propagators c
    done_longer (Posted r is) (inl d) = inl d
    done_longer (Posted r is) (inr d) = inr (d.0, d.1, d.2, d.3 ∙ sym (longer_at st.variables (own i) is d.4), longer_all st.variables (own i) is d.4)
    done_longer (Told x v) d = d

    pub joined_good : IsGood t cs (with_variable i st)
    joined_good = record {
      stands = next_stands seen st.variables st.store (own i) h.stands f n room;
      over = h.over;
      posts = λ p c. posted_longer p (h.posts p c);
      done = λ c d. done_longer c (h.done c d);
      named = h.named;
      given = λ x c. elim (Contains-append_cases st.variables (own i ∷ []) x c) [
        | inl k ↦ h.given x k
        | inr k ↦ elim (contains_cases (own i) x [] k) [ inl e ↦ (i, l, sym e) | inr g ↦ absurd (contains_none x g) ]
      ];
      above = h.above;
    }

-- ---- a constraint

module _ (t : Top) (cs : List Constraint) (st : State) (h : IsGood t cs st) (r : Relation) (is : List ℕ) (among : Contains cs (Posted r is)) (a : All (λ x. x < length st.variables) is) (w : HaveDomains (view_of t st) (variables_at st.variables is)) where
  is_posted : IsPosted cs (view_of t st) st.variables st.store (new_propagator st r is)
  is_posted = record { places = is; variables = refl; among = among; inside = a; have = w; note = tt }

  done_with : (c : Constraint) → IsDone st.variables st.store st.propagators c → IsDone st.variables st.store (st.propagators ++ (new_propagator st r is) ∷ []) c
  done_with (Posted q js) (inl d) = inl d
  done_with (Posted q js) (inr d) = inr (d.0, Contains-append_left st.propagators (new_propagator st r is ∷ []) d.0 d.1, d.2, d.3, d.4)
  done_with (Told x v) d = d

  pub posting_good : IsGood t cs (with_post r is st)
  posting_good = record {
    stands = h.stands;
    over = h.over;
    posts = λ p c. elim (Contains-append_cases st.propagators ((new_propagator st r is) ∷ []) p c) [
      | inl k ↦ h.posts p k
      | inr k ↦ elim (contains_cases (new_propagator st r is) p [] k) [ inl e ↦ subst (IsPosted cs (view_of t st) st.variables st.store) e is_posted | inr g ↦ absurd (contains_none p g) ]
    ];
    done = λ c d. elim (Contains-append_cases st.posted (Posted r is ∷ []) c d) [
      | inl k ↦ done_with c (h.done c k)
      | inr k ↦ elim (contains_cases (Posted r is) c [] k) [
        | inl e ↦ subst (IsDone st.variables st.store (st.propagators ++ (new_propagator st r is) ∷ [])) e (inr ((new_propagator st r is), Contains-append_right st.propagators ((new_propagator st r is) ∷ []) (new_propagator st r is) (contains_head (new_propagator st r is) []), refl, refl, a))
        | inr g ↦ absurd (contains_none c g)
      ]
    ];
    named = h.named;
    given = h.given;
    above = h.above;
  }

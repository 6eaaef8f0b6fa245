-- How what is watched goes on.
use Rattle.std.proofs.Common.{◌≡◌, inl, inr, ℕ, zero, suc, Bool, true, false, not, if◌then◌else◌, List, [], ◌∷◌, ◌++◌, length, take, refl, sym, ap, subst, ◌∙◌, arith, Contains, Option, Some, None, is_some, slice_get, unwrap_or, flat_map, append_assoc, append-nil, MatchOption}
use Rattle.std.specs.List.{list_all}
use Rattle.std.specs.List.Sorted.{IsNonDecreasing as IsAscending}
use Rattle.std.proofs.lemmas.Bool.{false≢true}
use Rattle.std.proofs.lemmas.List.Elements.{Contains-push_cases, Contains-append_cases}
use Rattle.oz_base.specs.declared.interval.Interval.{Interval}
use Rattle.oz_base.specs.declared.names.Ident.{Ident}
use Rattle.oz_base.specs.declared.relation.Relation.{Relation}
use Rattle.oz_laws.proofs.SameLaws.{In, In-from_contains, contains-from_In, In-flat_back, tests_same}
use Rattle.oz_laws.proofs.StoreLaws.{domain_row}
use Rattle.oz_laws.specs.Touched.{Meets, Touches}
use Rattle.oz_semantics.specs.Store.{View, Same, reversed, joined, same, told_value, domain_of, is_news, is_consistent}
use Rattle.oz_semantics.specs.Propagation.{is_due}
use Rattle.oz_semantics.specs.declared.configuration.LastRun.TheVariants.{Never}
use Rattle.oz_semantics.specs.declared.configuration.Propagator.{Propagator}
use Rattle.oz_semantics.specs.declared.value.Value.{Value}
use Rattle.oz_semantics.specs.declared.value.Tell.{Tell}
use Rattle.oz_semantics.specs.declared.value.Tell.TheVariants.{Equal, Is, Within}
use Rattle.term_store.proofs.ClosingLaws.{push_at}
use Rattle.view_laws.proofs.Members.{not_both, each}
use Rattle.watching.specs.Changes.{Gains, Wakes, Rejoins, IsRun, list_in, is_due_at}
use Rattle.watching.specs.Lists.{Gathers, StandsAlone, IsAlone, AreKeyed, AreWatched}
use Rattle.watching.specs.Watching.{HasList, IsCovered, AreKeys, AreApart, HasDue, IsWoken, Tracks, joins_nothing, touched_by, is_domainless, Stays, Foresees}
use Rattle.watching.specs.declared.keys.Keys.{Keys}
use Rattle.watching.specs.declared.watch.Foresight.{Foresight}
use Rattle.watching.specs.declared.watch.Foresight.TheVariants.{Settled, Fresh, Joins}
use Rattle.watching.specs.declared.watched.Watched.{Watched}
use Rattle.watching.proofs.CandidateLaws.{due_after, due_still}
use Rattle.watching.proofs.JoiningLaws.{same_later, same_before, touches}
use Rattle.watching.proofs.KeyLaws.{nothing_in, keys_told, gathers_keys, gathers_alone, gathers_two}
use Rattle.watching.proofs.DueLaws.{only_one}
use Rattle.watching.proofs.PlaceLaws.{first_not}

-- Where there is no key

-- a variable without a domain is equal to no key
pub no_key : (view : View) (ps : List Propagator) (keys : Keys) → AreKeys view ps keys → (x : Ident) → domain_of view x ≡ None
    → (k : Ident) (is : List ℕ) → HasList keys k is → Same view x k → ⊥
no_key view ps keys a x none k is h s = false≢true (sym (ap is_some (sym (domain_row view x k s) ∙ none)) ∙ a.domains k is h)

-- nor to a variable of a propagator
pub none_woken : (view : View) (ps : List Propagator) (keys : Keys) → AreKeys view ps keys → (x : Ident) → domain_of view x ≡ None → (due : List ℕ) → IsWoken view ps due x
none_woken view ps keys a x none due i p y at m s =
    let c = a.covers i p y at m in absurd (no_key view ps keys a x none c.key c.list c.stands (joined (reversed s) c.equal))

-- Waking

list_is : (keys : Keys) (k : Ident) (is : List ℕ) → HasList keys k is → is ≡ list_in keys k
list_is keys k is h = sym (ap (λ (o : Option (List ℕ)). unwrap_or o []) h)

-- the class of a key whose list was added
pub woken_by : (view : View) (ps : List Propagator) (r x : Ident) (keys : Keys) → AreKeys view ps keys → StandsAlone view r keys → Same view x r
    → (due more : List ℕ) → Gains due more (list_in keys r) → IsWoken view ps more x
woken_by view ps r x keys a alone x_r due more g i p y at m s =
    let c = a.covers i p y at m in
    let is_r : c.key ≡ r = alone c.key c.list c.stands (joined (reversed c.equal) (joined s x_r)) in
    let list : c.list ≡ list_in keys r = list_is keys r c.list (subst (λ z. HasList keys z c.list) is_r c.stands) in
    g.here i (subst (λ (ls : List ℕ). Contains ls i) list c.has)

pub wakes_none : (view : View) (ps : List Propagator) (w : Watched) → Tracks view ps w → Wakes view ps [] w w
wakes_none view ps w t = record { tracks = t; kept = λ i c. c; woken = λ x c. nothing_in x c }

pub wakes_nothing : (view : View) (ps : List Propagator) (x : Ident) (w : Watched) → domain_of view x ≡ None → Tracks view ps w → Wakes view ps (x ∷ []) w w
wakes_nothing view ps x w none t = record {
  tracks = t;
  kept = λ i c. c;
  woken = λ y c. subst (IsWoken view ps w.due) (only_one x y c) (none_woken view ps w.keys t.keys x none w.due);
}

pub wakes_more : (view : View) (ps : List Propagator) (xs ys : List Ident) (a b c : Watched) → Wakes view ps xs a b → (Tracks view ps b → Wakes view ps ys b c)
    → Wakes view ps (xs ++ ys) a c
wakes_more view ps xs ys a b c w f =
    let v = f w.tracks in
    record {
      tracks = v.tracks;
      kept = λ i m. v.kept i (w.kept i m);
      woken = λ x m. elim (Contains-append_cases xs ys x m) [ inl n ↦ (λ i p y at k s. v.kept i (w.woken x n i p y at k s)) | inr n ↦ v.woken x n ];
    }

-- the root of a class was made a key, and its list was added
pub attended : (view : View) (ps : List Propagator) (r x : Ident) (before middle after : Watched) → Same view x r → middle.due ≡ before.due
    → (AreKeys view ps before.keys → AreApart view before.keys → is_some (domain_of view r) ≡ true → AreKeyed view ps r before.keys middle.keys)
    → is_some (domain_of view x) ≡ true → after.keys ≡ middle.keys → Gains middle.due after.due (list_in middle.keys r) → Tracks view ps before → Wakes view ps (x ∷ []) before after
attended view ps r x before middle after s e make d f g t =
    let m = make t.keys t.apart (ap is_some (sym (domain_row view x r s)) ∙ d) in
    let h : Gains before.due after.due (list_in middle.keys r) = subst (λ (ls : List ℕ). Gains ls after.due (list_in middle.keys r)) e g in
    record {
      tracks = record {
        due = λ i p at q. h.kept i (t.due i p at q);
        ascends = h.ascends t.ascends;
        keys = subst (AreKeys view ps) (sym f) m.keys;
        apart = subst (AreApart view) (sym f) m.apart;
      };
      kept = h.kept;
      woken = λ y c. subst (IsWoken view ps after.due) (only_one x y c) (woken_by view ps r x middle.keys m.keys m.alone s before.due after.due h);
    }

pub flat_push : {A B : Type 0} (f : A → List B) (xs : List A) (x : A) → flat_map f (xs ++ x ∷ []) ≡ flat_map f xs ++ f x
flat_push f [] x = append-nil (f x)
flat_push f (y ∷ xs) x = ap (λ ys. f y ++ ys) (flat_push f xs x) ∙ sym (append_assoc (f y) (flat_map f xs) (f x))

-- What is foreseen

module _ (old tells : View) (ps : List Propagator) (w : Watched) (t : Tracks old ps w) where
  no_keys : w.keys.variables ≡ [] → (k : Ident) (is : List ℕ) → HasList w.keys k is → ⊥
  no_keys e k is h = nothing_in k (subst (λ (xs : List Ident). Contains xs k) e (t.keys.listed k is h))

  -- where there is no key
  pub fresh_empty : w.keys.variables ≡ [] → Foresees old tells ps w Fresh
  fresh_empty e = (
    (
      t,
      λ sound. record {
        due = due_still old (old ++ tells) ps w.due t.due (λ i p x at m. (let c = t.keys.covers i p x at m in no_keys e c.key c.list c.stands));
        ascends = t.ascends;
        keys = keys_told old tells ps w.keys sound t.keys;
        apart = λ k l is js h m s. absurd (no_keys e k is h);
      },
    ),
    λ x is c k l h s. no_keys e k l h,
  )

  module _ (joinless : list_all joins_nothing tells ≡ true) where
    none : (u : Tell) → Contains tells u → joins_nothing u ≡ true
    none = each joins_nothing tells joinless

    stays : ((x : Ident) → Contains (flat_map (touched_by old) tells) x → IsWoken old ps w.due x) → Stays old tells ps w
    stays woken = (
      t,
      λ sound. record {
        due = due_after old tells (flat_map (touched_by old) tells) (touches old tells none) ps w.due t.due woken;
        ascends = t.ascends;
        keys = keys_told old tells ps w.keys sound t.keys;
        apart = λ k l is js h m s. t.apart k l is js h m (same_before old tells none s);
      },
    )

    -- where all that is touched was woken
    pub settled : ((x : Ident) → Contains (flat_map (touched_by old) tells) x → IsWoken old ps w.due x) → Foresees old tells ps w Settled
    settled woken = stays woken

    -- where no variable that is told something has a domain
    module _ (domainless : list_all (is_domainless old) tells ≡ true) where
      not_some : {A : Type 0} (o : Option A) → not (is_some o) ≡ true → o ≡ None
      not_some None e = refl
      not_some (Some y) e = absurd (false≢true e)

      if_in : (b : Bool) (x y : Ident) → In y (if b then x ∷ [] else []) → x ≡ y
      if_in true x y (inl e) = e
      if_in true x y (inr h) = elim h [ ]
      if_in false x y h = elim h [ ]

      if_not : (b : Bool) (x y : Ident) → In y (if b then [] else x ∷ []) → x ≡ y
      if_not false x y (inl e) = e
      if_not false x y (inr h) = elim h [ ]
      if_not true x y h = elim h [ ]

      without : (u : Tell) (y : Ident) → is_domainless old u ≡ true → In y (touched_by old u) → domain_of old y ≡ None
      without (Equal a b) y e h = elim h [ ]
      without (Is x v) y e h = subst (λ z. domain_of old z ≡ None) (if_not (is_some (told_value old x)) x y h) (not_some (domain_of old x) e)
      without (Within x is) y e h = subst (λ z. domain_of old z ≡ None) (if_in (is_news old (Within x is)) x y h) (not_some (domain_of old x) e)

      untold : (u : Tell) → Contains tells u → is_domainless old u ≡ true
      untold = each (is_domainless old) tells domainless

      pub fresh_told : Foresees old tells ps w Fresh
      fresh_told = (
        stays (λ x c. (let b = In-flat_back (touched_by old) x tells (In-from_contains (flat_map (touched_by old) tells) x c) in
            none_woken old ps w.keys t.keys x (without b.0 x (untold b.0 (contains-from_In tells b.0 b.1)) b.2) w.due)),
        λ x is c k l h s. no_key old ps w.keys t.keys x (not_some (domain_of old x) (untold (Within x is) c)) k l h (same_before old tells none s),
      )

-- Classes that were joined

module _ (old new : View) (ps : List Propagator) (done rest : List Ident) (x : Ident) where
  rest_only : (k : Ident) → Meets new (x ∷ rest) k → (Same new k x → ⊥) → Meets new rest k
  rest_only k m apart = elim (In-from_contains (x ∷ rest) m.0 m.1) [
    | inl e ↦ absurd (apart (subst (λ z. Same new k z) (sym e) m.2))
    | inr h ↦ (m.0, contains-from_In rest m.0 h, m.2)
  ]

  -- one to which no key is equal
  rejoin_alone : (w : Watched) → ((k : Ident) (is : List ℕ) → HasList w.keys k is → Same new k x → ⊥) → Rejoins old new ps done (x ∷ rest) w → Rejoins old new ps (done ++ x ∷ []) rest w
  rejoin_alone w alone r = record {
    due = r.due;
    ascends = r.ascends;
    keys = r.keys;
    apart = λ k l is js h m s. elim (r.apart k l is js h m s) [
      | inl e ↦ inl e
      | inr n ↦ inr (rest_only k n (alone k is h))
    ];
    woken = λ t c. elim (Contains-push_cases done x t c) [
      | inl d ↦ r.woken t d
      | inr e ↦ subst (IsWoken new ps w.due) e (λ i p y at m s. (let c = r.keys.covers i p y at m in absurd (alone c.key c.list c.stands (joined (reversed c.equal) s))))
    ];
  }

  pub rejoin_none : (w : Watched) → domain_of new x ≡ None → Rejoins old new ps done (x ∷ rest) w → Rejoins old new ps (done ++ x ∷ []) rest w
  rejoin_none w none r = rejoin_alone w (λ k is h s. no_key new ps w.keys r.keys x none k is h (reversed s)) r

  pub rejoin_unwatched : (w : Watched) (root : Ident) → Same new x root → (Rejoins old new ps done (x ∷ rest) w → IsAlone new root w.keys) → Rejoins old new ps done (x ∷ rest) w
      → Rejoins old new ps (done ++ x ∷ []) rest w
  rejoin_unwatched w root s alone r = rejoin_alone w (λ k is h t. alone r k is h (joined t s)) r

  pub rejoined : (root : Ident) (before middle after : Watched) → Same new x root → middle.due ≡ before.due → (Rejoins old new ps done (x ∷ rest) before → Gathers new root before.keys middle.keys)
      → is_some (domain_of new x) ≡ true → after.keys ≡ middle.keys → Gains middle.due after.due (list_in middle.keys root)
      → Rejoins old new ps done (x ∷ rest) before → Rejoins old new ps (done ++ x ∷ []) rest after
  rejoined root before middle after s e gather d f g r =
      let q = gather r in
      let h : Gains before.due after.due (list_in middle.keys root) = subst (λ (ls : List ℕ). Gains ls after.due (list_in middle.keys root)) e g in
      let keys : AreKeys new ps middle.keys = gathers_keys new ps root before.keys middle.keys q r.keys (ap is_some (sym (domain_row new x root s)) ∙ d) in
      record {
        due = λ i p at n. h.kept i (r.due i p at n);
        ascends = h.ascends r.ascends;
        keys = subst (AreKeys new ps) (sym f) keys;
        apart = λ k l is js hk hl t.
            elim (gathers_two new ps root before.keys middle.keys q k l is js (subst (λ (ks : Keys). HasList ks k is) f hk) (subst (λ (ks : Keys). HasList ks l js) f hl) t) [
              | inl n ↦ inl n
              | inr n ↦ elim (r.apart k l is js n.0 n.1 t) [
                | inl m ↦ inl m
                | inr m ↦ inr (rest_only k m (λ (u : Same new k x). not_both (same new k root) ((tests_same new k root).1 (joined u s)) n.2))
              ]
            ];
        woken = λ t c. elim (Contains-push_cases done x t c) [
          | inl n ↦ (λ i p y at k u. h.kept i (r.woken t n i p y at k u))
          | inr n ↦ subst (IsWoken new ps after.due) n (woken_by new ps root x middle.keys keys (gathers_alone new ps root before.keys middle.keys q) s before.due after.due h)
        ];
      }

module _ (old tells : View) (ps : List Propagator) (noted : List Ident) (w : Watched) (h : Touches old tells noted) where
  pub rejoin_first : is_consistent (old ++ tells) ≡ true → Tracks old ps w → Rejoins old (old ++ tells) ps [] noted w
  rejoin_first sound t = record {
    due = t.due;
    ascends = t.ascends;
    keys = keys_told old tells ps w.keys sound t.keys;
    apart = λ k l is js hk hl s. elim (h.joins k l s) [ inl u ↦ inl (t.apart k l is js hk hl u) | inr m ↦ inr (m.0, m.1, same_later old tells m.2) ];
    woken = λ x c. nothing_in x c;
  }

  pub rejoin_last : Rejoins old (old ++ tells) ps noted [] w → Tracks (old ++ tells) ps w
  rejoin_last r = record {
    due = due_after old tells noted h ps w.due r.due (λ t c i p x at m s. r.woken t c i p x at m (same_later old tells s));
    ascends = r.ascends;
    keys = r.keys;
    apart = λ k l is js hk hl s. elim (r.apart k l is js hk hl s) [ inl e ↦ e | inr m ↦ nothing_in m.0 m.1 ];
  }

-- What follows a tell

module _ (old tells new : View) (ps : List Propagator) (w : Watched) (e : new ≡ old ++ tells) (consistent : is_consistent new ≡ true) where
  sound : is_consistent (old ++ tells) ≡ true
  sound = subst (λ (v : View). is_consistent v ≡ true) e consistent

  pub settles_on : Foresees old tells ps w Settled → Tracks new ps w
  settles_on f = subst (λ (v : View). Tracks v ps w) (sym e) (f.1 sound)

  pub adopted : Foresees old tells ps w Fresh → (keys : Keys)
      → (AreKeys new ps w.keys → AreApart new w.keys → ((x : Ident) (is : List Interval) → Contains tells (Within x is) → (k : Ident) (l : List ℕ) → HasList w.keys k l → Same new x k → ⊥)
      → AreKeys new ps keys × AreApart new keys) → Tracks new ps record { keys = keys; due = w.due }
  adopted f keys adopt =
      let t = settles_on f.0 in
      let k = adopt t.keys t.apart (λ x is c y l h s. f.1 x is c y l h (subst (λ (v : View). Same v x y) e s)) in
      record { due = t.due; ascends = t.ascends; keys = k.0; apart = k.1 }

pub rejoins_all : (old tells new : View) (ps : List Propagator) (noted : List Ident) (w v : Watched) → new ≡ old ++ tells → Touches old tells noted → is_consistent new ≡ true
    → Foresees old tells ps w Joins → (Rejoins old new ps [] noted w → Rejoins old new ps noted [] v) → Tracks new ps v
rejoins_all old tells new ps noted w v e h consistent f all =
    let first : Rejoins old new ps [] noted w =
    subst (λ (u : View). Rejoins old u ps [] noted w) (sym e) (rejoin_first old tells ps noted w h (subst (λ (u : View). is_consistent u ≡ true) e consistent) f) in
    subst (λ (u : View). Tracks u ps v) (sym e) (rejoin_last old tells ps noted v h (subst (λ (u : View). Rejoins old u ps noted [] v) e (all first)))

pub foresees_tracks : (old tells : View) (ps : List Propagator) (w : Watched) (f : Foresight) → Foresees old tells ps w f → Tracks old ps w
foresees_tracks old tells ps w Settled t = t.0
foresees_tracks old tells ps w Fresh t = t.0.0
foresees_tracks old tells ps w Joins t = t

-- what a tell touches, by its test
pub touched_value : (view : View) (t : Tell) (x : Ident) (v : Value) → t ≡ Is x v → (b : Bool) → b ≡ is_some (told_value view x) → touched_by view t ≡ (if b then [] else x ∷ [])
touched_value view t x v e b h = ap (touched_by view) e ∙ ap (λ (c : Bool). if c then [] else x ∷ []) (sym h)

pub touched_domain : (view : View) (t : Tell) (x : Ident) (is : List Interval) → t ≡ Within x is → (b : Bool) → b ≡ is_news view t → touched_by view t ≡ (if b then x ∷ [] else [])
touched_domain view t x is e b h = ap (touched_by view) e ∙ ap (λ (c : Bool). if c then x ∷ [] else []) (sym (h ∙ ap (is_news view) e))

-- a candidate that is not due
pub dropped : (view : View) (ps : List Propagator) (w : Watched) (due : List ℕ) (o : Option ℕ) (d : ℕ) → MatchOption o ((w.due ≡ []) × (due ≡ [])) (λ item. w.due ≡ item ∷ due)
    → Some d ≡ slice_get w.due 0 → is_due_at view ps d ≡ false → Tracks view ps w → Tracks view ps record { keys = w.keys; due = due }
dropped view ps w due None d m at not_due t = absurd (let clash : Some d ≡ None = at ∙ ap (λ (ls : List ℕ). slice_get ls 0) m.0 in cc)
dropped view ps w due (Some item) d m at not_due t =
    let same : d ≡ item = one (at ∙ ap (λ (ls : List ℕ). slice_get ls 0) m) in
    let rises : IsAscending (item ∷ due) = subst IsAscending m t.ascends in
    record {
      due = first_not view ps item due (subst (HasDue view ps) m t.due) (ap (is_due_at view ps) (sym same) ∙ not_due);
      ascends = λ i j e le lt. rises (suc i) (suc j) e (omega (arith, le)) (omega (arith, lt));
      keys = t.keys;
      apart = t.apart;
    }
  where
    one : Some d ≡ Some item → d ≡ item
    one e = cc

-- Propagators that come, run and go

pub posted : (view : View) (ps : List Propagator) (r : Relation) (xs : List Ident) (n : ℕ) (w v : Watched)
    → (AreKeys view ps w.keys → AreApart view w.keys → AreWatched view ps xs n w.keys v.keys) → Gains w.due v.due (n ∷ []) → Tracks view ps w → length ps ≡ n
    → Tracks view (ps ++ record { relation = r; variables = xs; last = Never } ∷ []) v
posted view ps r xs n w v watch g t e =
    let k = watch t.keys t.apart in
    let new : Propagator = record { relation = r; variables = xs; last = Never } in
    let here : Contains v.due n = g.here n (contains-from_In (n ∷ []) n (inl refl)) in
    record {
      due = λ i p at d. elim (push_at ps new i p at) [
        | inl m ↦ g.kept i (t.due i p m d)
        | inr m ↦ subst (Contains v.due) (sym (m.0 ∙ e)) here
      ];
      ascends = g.ascends t.ascends;
      keys = record {
        covers = λ i p x at m. elim (push_at ps new i p at) [
          | inl q ↦ k.keys.covers i p x q m
          | inr q ↦ subst (IsCovered view v.keys x) (sym (q.0 ∙ e)) (k.covers x (subst (λ (z : Propagator). Contains z.variables x) (sym q.1) m))
        ];
        domains = k.keys.domains;
        listed = k.keys.listed;
      };
      apart = k.apart;
    }

pub has_run : (view : View) (ps qs : List Propagator) (n : ℕ) (w v : Watched) → v.keys ≡ w.keys → Gains w.due v.due (n ∷ []) → Tracks view ps w → IsRun n ps qs → Tracks view qs v
has_run view ps qs n w v e g t run = record {
  due = λ i q at d. (let b = run i q at in elim b.3 [
    | inl m ↦ subst (Contains v.due) (sym m) (g.here n (contains-from_In (n ∷ []) n (inl refl)))
    | inr m ↦ g.kept i (t.due i b.0 b.1 (subst (λ (z : Propagator). is_due view z ≡ true) m d))
  ]);
  ascends = g.ascends t.ascends;
  keys = subst (AreKeys view qs) (sym e) (record {
    covers = λ i q x at m. (let b = run i q at in t.keys.covers i b.0 x b.1 (subst (λ (xs : List Ident). Contains xs x) b.2 m));
    domains = t.keys.domains;
    listed = t.keys.listed;
  });
  apart = subst (AreApart view) (sym e) t.apart;
}

-- what stands at a place below
take_at : {A : Type 0} (n : ℕ) (xs : List A) (i : ℕ) (x : A) → slice_get (take n xs) i ≡ Some x → slice_get xs i ≡ Some x
take_at zero xs i x e = absurd (let clash : None ≡ Some x = e in cc)
take_at (suc n) [] i x e = e
take_at (suc n) (y ∷ xs) zero x e = e
take_at (suc n) (y ∷ xs) (suc i) x e = take_at n xs i x e

pub tracks_first : (view : View) (ps : List Propagator) (n : ℕ) (w : Watched) → Tracks view ps w → Tracks view (take n ps) w
tracks_first view ps n w t = record {
  due = λ i p at d. t.due i p (take_at n ps i p at) d;
  ascends = t.ascends;
  keys = record { covers = λ i p x at m. t.keys.covers i p x (take_at n ps i p at) m; domains = t.keys.domains; listed = t.keys.listed };
  apart = t.apart;
}

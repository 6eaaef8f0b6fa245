-- How keys go on.
use Rattle.std.proofs.Common.{◌≡◌, ◌⊎◌, inl, inr, ℕ, Bool, true, false, if◌then◌else◌, List, [], ◌∷◌, ◌++◌, sym, ap, subst, ◌∙◌, Contains, Some, None, is_some}
use Rattle.std.proofs.lemmas.List.Elements.{Contains-push, Contains-push_cases, Contains-append_left, Contains-append_right, Contains-append_cases}
use Rattle.ident_map.specs.Entries.{entry}
use Rattle.oz_base.specs.Names.{ident_eq}
use Rattle.oz_base.specs.declared.interval.Interval.{Interval}
use Rattle.oz_base.specs.declared.names.Ident.{Ident}
use Rattle.oz_semantics.specs.Store.{View, Same, itself, reversed, joined, same, domain_of, is_consistent}
use Rattle.oz_semantics.specs.declared.configuration.Propagator.{Propagator}
use Rattle.oz_semantics.specs.declared.value.Tell.{Tell}
use Rattle.oz_semantics.specs.declared.value.Tell.TheVariants.{Within}
use Rattle.oz_laws.proofs.SameLaws.{ident_eq-true, ident_eq-refl, tests_same, In-from_contains}
use Rattle.oz_laws.proofs.StoreLaws.{domain_row}
use Rattle.term_store.specs.Classes.{Table, root_in, IsPartition}
use Rattle.view_laws.proofs.Members.{decide, not_both}
use Rattle.watching.specs.Lists.{Sets, Adds, Enters, Gathered, Gathers, StandsAlone, IsAlone, KeepsCover, AreKeyed, AreWatched, AreRooted}
use Rattle.watching.specs.Watching.{HasList, AreListed, AreKeys, AreApart}
use Rattle.watching.specs.declared.keys.Keys.{Keys}
use Rattle.watching.specs.declared.keys.Gathering.{Gathering}
use Rattle.watching.proofs.JoiningLaws.{same_later}
use Rattle.watching.proofs.StayingLaws.{domain_stays}

pub nothing_in : {A : Type 0} {B : Type 0} (x : A) → Contains [] x → B
nothing_in x c = elim (In-from_contains [] x c) [ ]

one_list : (is js : List ℕ) → Some is ≡ Some js → is ≡ js
one_list is js e = cc

-- Writes

module _ (old new : Keys) (k : Ident) (list : List ℕ) (s : Sets old new k list) where
  pub set_here : HasList new k list
  set_here = s k ∙ ap (λ (b : Bool). if b then Some list else entry old.lists k) (ident_eq-refl k)

  pub set_other : (y : Ident) (is : List ℕ) → HasList old y is → ident_eq y k ≡ false → HasList new y is
  set_other y is h e = s y ∙ ap (λ (b : Bool). if b then Some list else entry old.lists y) e ∙ h

  pub set_cases : (y : Ident) (is : List ℕ) → HasList new y is → ((y ≡ k) × (list ≡ is)) ⊎ HasList old y is
  set_cases y is h = elim (decide (ident_eq y k)) [
    | inl e ↦ inl (ident_eq-true y k e, one_list list is (sym (ap (λ (b : Bool). if b then Some list else entry old.lists y) e) ∙ sym (s y) ∙ h))
    | inr e ↦ inr (sym (ap (λ (b : Bool). if b then Some list else entry old.lists y) e) ∙ sym (s y) ∙ h)
  ]

pub added_listed : (old new : Keys) (k : Ident) (list : List ℕ) → Adds old new k list → AreListed old → AreListed new
added_listed old new k list a h y is stands =
    subst (λ (xs : List Ident). Contains xs y) (sym a.variables) (elim (set_cases old new k list a.lists y is stands) [
      | inl e ↦ subst (λ z. Contains (old.variables ++ k ∷ []) z) (sym e.0) (Contains-push old.variables k)
      | inr e ↦ Contains-append_left old.variables (k ∷ []) y (h y is e)
    ])

-- Gathering

module _ (view : View) (r : Ident) (keys : Keys) (seen : List Ident) (key : Ident) (before after : Gathering) (g : Gathered view r keys seen before) where
  -- a variable that is no key
  pub gather_none : entry keys.lists key ≡ None → after ≡ before → Gathered view r keys (seen ++ key ∷ []) after
  gather_none none e = subst (Gathered view r keys (seen ++ key ∷ [])) (sym e) (record {
    others = λ k is h c f. g.others k is h (was k is h c) f;
    only = g.only;
    listed = g.listed;
    united = λ k is i h c f m. g.united k is i h (was k is h c) f m;
  })
    where
      was : (k : Ident) (is : List ℕ) → HasList keys k is → Contains (seen ++ key ∷ []) k → Contains seen k
      was k is h c = elim (Contains-push_cases seen key k c) [
        | inl d ↦ d
        | inr q ↦ absurd (let clash : Some is ≡ None = sym h ∙ ap (entry keys.lists) (sym q) ∙ none in cc)
      ]

  module _ (list : List ℕ) (stands : HasList keys key list) where
    its_list : (k : Ident) (is : List ℕ) → HasList keys k is → key ≡ k → list ≡ is
    its_list k is h q = one_list list is (sym stands ∙ ap (entry keys.lists) q ∙ h)

    -- one that is equal to the variable
    pub gather_united : same view key r ≡ true → after.others ≡ before.others → after.list ≡ before.list ++ list → Gathered view r keys (seen ++ key ∷ []) after
    gather_united equal e f = record {
      others = λ k is h c d. subst (λ (ks : Keys). HasList ks k is) (sym e) (elim (Contains-push_cases seen key k c) [
        | inl m ↦ g.others k is h m d
        | inr q ↦ absurd (not_both (same view key r) equal (ap (λ z. same view z r) q ∙ d))
      ]);
      only = λ k is h. g.only k is (subst (λ (ks : Keys). HasList ks k is) e h);
      listed = subst AreListed (sym e) g.listed;
      united = λ k is i h c d m. subst (λ (ls : List ℕ). Contains ls i) (sym f) (elim (Contains-push_cases seen key k c) [
        | inl n ↦ Contains-append_left before.list list i (g.united k is i h n d m)
        | inr q ↦ Contains-append_right before.list list i (subst (λ (ls : List ℕ). Contains ls i) (sym (its_list k is h q)) m)
      ]);
    }

    -- another
    pub gather_other : same view key r ≡ false → Adds before.others after.others key list → after.list ≡ before.list → Gathered view r keys (seen ++ key ∷ []) after
    gather_other apart a f = record {
      others = λ k is h c d. elim (decide (ident_eq k key)) [
        | inl q ↦ (let same_key : key ≡ k = sym (ident_eq-true k key q) in
            subst (λ z. HasList after.others z is) same_key
            (subst (λ (ls : List ℕ). HasList after.others key ls) (its_list k is h same_key) (set_here before.others after.others key list a.lists)))
        | inr q ↦ set_other before.others after.others key list a.lists k is (g.others k is h (elim (Contains-push_cases seen key k c) [
          | inl m ↦ m
          | inr p ↦ absurd (not_both (ident_eq k key) (subst (λ z. ident_eq z key ≡ true) p (ident_eq-refl key)) q)
        ]) d) q
      ];
      only = λ k is h. elim (set_cases before.others after.others key list a.lists k is h) [
        | inl e ↦ (subst (λ z. HasList keys z is) (sym e.0) (subst (λ (ls : List ℕ). HasList keys key ls) e.1 stands), ap (λ z. same view z r) e.0 ∙ apart)
        | inr e ↦ g.only k is e
      ];
      listed = added_listed before.others after.others key list a g.listed;
      united = λ k is i h c d m. subst (λ (ls : List ℕ). Contains ls i) (sym f) (elim (Contains-push_cases seen key k c) [
        | inl n ↦ g.united k is i h n d m
        | inr q ↦ absurd (not_both (same view key r) (ap (λ z. same view z r) q ∙ d) apart)
      ]);
    }

pub gather_first : (view : View) (r : Ident) (keys : Keys) (draft : Gathering) → ((k : Ident) → entry draft.others.lists k ≡ None) → Gathered view r keys [] draft
gather_first view r keys draft none = record {
  others = λ k is h c d. nothing_in k c;
  only = λ k is h. absurd (let clash : Some is ≡ None = sym h ∙ none k in cc);
  listed = λ k is h. absurd (let clash : Some is ≡ None = sym h ∙ none k in cc);
  united = λ k is i h c d m. nothing_in k c;
}

same_self : (view : View) (r : Ident) → same view r r ≡ true
same_self view r = (tests_same view r r).1 itself

pub gathers : (view : View) (r : Ident) (keys new : Keys) (draft : Gathering) → Gathered view r keys keys.variables draft → Adds draft.others new r draft.list → AreListed keys
    → Gathers view r keys new
gathers view r keys new draft g a listed = record {
  list = draft.list;
  here = set_here draft.others new r draft.list a.lists;
  united = λ k is i h d m. g.united k is i h (listed k is h) d m;
  others = λ k is h d. set_other draft.others new r draft.list a.lists k is (g.others k is h (listed k is h) d) (elim (decide (ident_eq k r)) [
    | inl q ↦ absurd (not_both (same view k r) (ap (λ z. same view z r) (ident_eq-true k r q) ∙ same_self view r) d)
    | inr q ↦ q
  ]);
  only = λ k is h. elim (set_cases draft.others new r draft.list a.lists k is h) [ inl e ↦ inl e.0 | inr e ↦ inr (g.only k is e) ];
  listed = added_listed draft.others new r draft.list a g.listed;
}

module _ (view : View) (ps : List Propagator) (r : Ident) (old new : Keys) (g : Gathers view r old new) where
  pub gathers_cover : KeepsCover view old new
  gathers_cover x i c = elim (decide (same view c.key r)) [
    | inl e ↦ record { key = r; list = g.list; stands = g.here; equal = joined c.equal ((tests_same view c.key r).0 e); has = g.united c.key c.list i c.stands e c.has }
    | inr e ↦ record { key = c.key; list = c.list; stands = g.others c.key c.list c.stands e; equal = c.equal; has = c.has }
  ]

  pub gathers_keys : AreKeys view ps old → is_some (domain_of view r) ≡ true → AreKeys view ps new
  gathers_keys k d = record {
    covers = λ i p x at m. gathers_cover x i (k.covers i p x at m);
    domains = λ l is h. elim (g.only l is h) [
      | inl e ↦ ap (λ z. is_some (domain_of view z)) e ∙ d
      | inr e ↦ k.domains l is e.0
    ];
    listed = g.listed;
  }

  pub gathers_alone : StandsAlone view r new
  gathers_alone k is h s = elim (g.only k is h) [ inl e ↦ e | inr e ↦ absurd (not_both (same view k r) ((tests_same view k r).1 s) e.1) ]

  -- two keys that are equal are one, or were two
  pub gathers_two : (k l : Ident) (is js : List ℕ) → HasList new k is → HasList new l js → Same view k l → (k ≡ l) ⊎ (HasList old k is × HasList old l js × (same view k r ≡ false))
  gathers_two k l is js hk hl s = elim (g.only k is hk) [
    | inl e ↦ inl (e ∙ sym (gathers_alone l js hl (subst (λ z. Same view l z) e (reversed s))))
    | inr e ↦ elim (g.only l js hl) [
      | inl f ↦ inl (gathers_alone k is hk (subst (λ z. Same view k z) f s) ∙ sym f)
      | inr f ↦ inr (e.0, f.0, e.1)
    ]
  ]

  pub gathers_keyed : AreKeys view ps old → AreApart view old → is_some (domain_of view r) ≡ true → AreKeyed view ps r old new
  gathers_keyed k a d = record {
    keys = gathers_keys k d;
    apart = λ x y is js hx hy s. elim (gathers_two x y is js hx hy s) [ inl e ↦ e | inr e ↦ a x y is js e.0 e.1 s ];
    alone = gathers_alone;
    kept = gathers_cover;
  }

pub keyed_there : (view : View) (ps : List Propagator) (r : Ident) (keys : Keys) (list : List ℕ) → HasList keys r list → AreKeys view ps keys → AreApart view keys → AreKeyed view ps r keys keys
keyed_there view ps r keys list h k a = record { keys = k; apart = a; alone = λ l is m s. a l r is list m h s; kept = λ x i c. c }

-- A key more, to which none was equal

module _ (view : View) (ps : List Propagator) (r : Ident) (old new : Keys) (alone : IsAlone view r old) (w : Adds old new r []) where
  adds_other : (k : Ident) (js : List ℕ) → HasList old k js → HasList new k js
  adds_other k js h = set_other old new r [] w.lists k js h (elim (decide (ident_eq k r)) [
    | inl q ↦ absurd (alone k js h (subst (Same view k) (ident_eq-true k r q) itself))
    | inr q ↦ q
  ])

  adds_cover : KeepsCover view old new
  adds_cover x i c = record { key = c.key; list = c.list; stands = adds_other c.key c.list c.stands; equal = c.equal; has = c.has }

  adds_alone : StandsAlone view r new
  adds_alone k js h s = elim (set_cases old new r [] w.lists k js h) [ inl q ↦ q.0 | inr q ↦ absurd (alone k js q s) ]

  pub adds_keyed : AreKeys view ps old → AreApart view old → is_some (domain_of view r) ≡ true → AreKeyed view ps r old new
  adds_keyed a b d = record {
    keys = record {
      covers = λ i p y at m. adds_cover y i (a.covers i p y at m);
      domains = λ k js h. elim (set_cases old new r [] w.lists k js h) [
        | inl q ↦ ap (λ z. is_some (domain_of view z)) q.0 ∙ d
        | inr q ↦ a.domains k js q
      ];
      listed = added_listed old new r [] w a.listed;
    };
    apart = λ k l js ms hk hl s. elim (set_cases old new r [] w.lists k js hk) [
      | inl p ↦ p.0 ∙ sym (adds_alone l ms hl (subst (λ z. Same view l z) p.0 (reversed s)))
      | inr p ↦ elim (set_cases old new r [] w.lists l ms hl) [
        | inl q ↦ absurd (alone k js p (subst (Same view k) q.0 s))
        | inr q ↦ b k l js ms p q s
      ]
    ];
    alone = adds_alone;
    kept = adds_cover;
  }

-- A list with one index more

module _ (view : View) (ps : List Propagator) (old new : Keys) (r : Ident) (i : ℕ) (e : Enters old new r i) where
  -- what is a key was one
  enters_back : (k : Ident) (is : List ℕ) → HasList new k is → (js : List ℕ) × HasList old k js
  enters_back k is h = elim (set_cases old new r (e.list ++ i ∷ []) e.lists k is h) [
    | inl q ↦ (e.list, subst (λ z. HasList old z e.list) (sym q.0) e.stands)
    | inr q ↦ (is, q)
  ]

  enters_cover : KeepsCover view old new
  enters_cover x j c = elim (decide (ident_eq c.key r)) [
    | inl q ↦ (let same_key : c.key ≡ r = ident_eq-true c.key r q in
        let same_list : c.list ≡ e.list = one_list c.list e.list (sym c.stands ∙ ap (entry old.lists) same_key ∙ e.stands) in
        record {
          key = r;
          list = e.list ++ i ∷ [];
          stands = set_here old new r (e.list ++ i ∷ []) e.lists;
          equal = subst (λ z. Same view x z) same_key c.equal;
          has = Contains-append_left e.list (i ∷ []) j (subst (λ (ls : List ℕ). Contains ls j) same_list c.has);
        })
    | inr q ↦ record { key = c.key; list = c.list; stands = set_other old new r (e.list ++ i ∷ []) e.lists c.key c.list c.stands q; equal = c.equal; has = c.has }
  ]

  pub enters_watched : (x : Ident) (first : Keys) → Same view x r → KeepsCover view first old → AreKeys view ps old → AreApart view old → AreWatched view ps (x ∷ []) i first new
  enters_watched x first s kept k a = record {
    keys = record {
      covers = λ j p y at m. enters_cover y j (k.covers j p y at m);
      domains = λ l is h. let b = enters_back l is h in k.domains l b.0 b.1;
      listed = λ l is h. let b = enters_back l is h in subst (λ (xs : List Ident). Contains xs l) (sym e.variables) (k.listed l b.0 b.1);
    };
    apart = λ l m is js hl hm t. let b = enters_back l is hl in (let c = enters_back m js hm in a l m b.0 c.0 b.1 c.1 t);
    kept = λ y j c. enters_cover y j (kept y j c);
    covers = λ y c. elim (In-from_contains (x ∷ []) y c) [
      | inl q ↦ record {
        key = r;
        list = e.list ++ i ∷ [];
        stands = set_here old new r (e.list ++ i ∷ []) e.lists;
        equal = subst (λ z. Same view z r) q s;
        has = Contains-push e.list i;
      }
      | inr q ↦ elim q [ ]
    ];
  }

pub watched_none : (view : View) (ps : List Propagator) (i : ℕ) (keys : Keys) → AreKeys view ps keys → AreApart view keys → AreWatched view ps [] i keys keys
watched_none view ps i keys k a = record { keys = k; apart = a; kept = λ x j c. c; covers = λ x c. nothing_in x c }

pub watched_more : (view : View) (ps : List Propagator) (xs ys : List Ident) (i : ℕ) (first old new : Keys) → AreWatched view ps xs i first old
    → (AreKeys view ps old → AreApart view old → AreWatched view ps ys i old new) → AreWatched view ps (xs ++ ys) i first new
watched_more view ps xs ys i first old new w f =
    let v = f w.keys w.apart in
    record {
      keys = v.keys;
      apart = v.apart;
      kept = λ x j c. v.kept x j (w.kept x j c);
      covers = λ x c. elim (Contains-append_cases xs ys x c) [ inl d ↦ v.kept x i (w.covers x d) | inr d ↦ v.covers x d ];
    }

-- the root of a class is of the class
pub root_same : (view : View) (t : Table) → IsPartition view t → (x r : Ident) → r ≡ root_in t x → Same view x r
root_same view t part x r root = (tests_same view x r).0 ((part.classes x r).1 (sym (ap (root_in t) root ∙ part.roots x)))

-- A new key

module _ (view : View) (ps : List Propagator) (t : Table) (tells : List Tell) (part : IsPartition view t) (x : Ident) (is : List Interval) (told : Contains tells (Within x is)) (old new : Keys)
    (a : AreRooted view ps t tells old) (r : Ident) (root : r ≡ root_in t x) (none : entry old.lists r ≡ None) (d : is_some (domain_of view x) ≡ true) (w : Adds old new r []) where
  x_r : Same view x r
  x_r = root_same view t part x r root

  other : (k : Ident) (js : List ℕ) → HasList old k js → HasList new k js
  other k js h = set_other old new r [] w.lists k js h (elim (decide (ident_eq k r)) [
    | inl q ↦ absurd (let clash : Some js ≡ None = sym h ∙ ap (entry old.lists) (ident_eq-true k r q) ∙ none in cc)
    | inr q ↦ q
  ])

  -- a key of its class is the root
  old_root : (k : Ident) (js : List ℕ) → HasList old k js → Same view r k → k ≡ r
  old_root k js h s = a.rooted x is told k js h (joined x_r s) ∙ sym root

  pub rooted_more : AreRooted view ps t tells new
  rooted_more = record {
    keys = record {
      covers = λ i p y at m. (let c = a.keys.covers i p y at m in record { key = c.key; list = c.list; stands = other c.key c.list c.stands; equal = c.equal; has = c.has });
      domains = λ k js h. elim (set_cases old new r [] w.lists k js h) [
        | inl q ↦ ap (λ z. is_some (domain_of view z)) q.0 ∙ ap is_some (sym (domain_row view x r x_r)) ∙ d
        | inr q ↦ a.keys.domains k js q
      ];
      listed = added_listed old new r [] w a.keys.listed;
    };
    apart = λ k l js ms hk hl s. elim (set_cases old new r [] w.lists k js hk) [
      | inl p ↦ elim (set_cases old new r [] w.lists l ms hl) [
        | inl q ↦ p.0 ∙ sym q.0
        | inr q ↦ p.0 ∙ sym (old_root l ms q (subst (λ z. Same view z l) p.0 s))
      ]
      | inr p ↦ elim (set_cases old new r [] w.lists l ms hl) [
        | inl q ↦ old_root k js p (reversed (subst (λ z. Same view k z) q.0 s)) ∙ sym q.0
        | inr q ↦ a.apart k l js ms p q s
      ]
    ];
    rooted = λ y ys c k js h s. elim (set_cases old new r [] w.lists k js h) [
      | inl q ↦ q.0 ∙ root ∙ sym ((part.classes y x).0 ((tests_same view y x).1 (joined (subst (λ z. Same view y z) q.0 s) (reversed x_r))))
      | inr q ↦ a.rooted y ys c k js q s
    ];
  }

-- After a tell

module _ (old more : View) (ps : List Propagator) (keys : Keys) (e : is_consistent (old ++ more) ≡ true) (k : AreKeys old ps keys) where
  pub keys_told : AreKeys (old ++ more) ps keys
  keys_told = record {
    covers = λ i p x at m. (let c = k.covers i p x at m in record { key = c.key; list = c.list; stands = c.stands; equal = same_later old more c.equal; has = c.has });
    domains = λ l is h. domain_stays old more e l (k.domains l is h);
    listed = k.listed;
  }

-- Keys that were looked at

pub alone_all : (view : View) (r : Ident) (keys : Keys) → ((k : Ident) → Contains keys.variables k → same view k r ≡ false) → AreListed keys → IsAlone view r keys
alone_all view r keys none listed k is h s = not_both (same view k r) ((tests_same view k r).1 s) (none k (listed k is h))

-- States stay good, whatever is told.
use Rattle.std.proofs.Common.{◌≡◌, ◌≢◌, ◌⊎◌, inl, inr, ℕ, zero, suc, ◌+◌, ◌<◌, ◌≤◌, Bool, true, false, List, [], ◌∷◌, ◌++◌, length, map, flat_map, Contains, All, Option, Some, None, is_some, refl, sym, ◌∙◌, ap, subst, arith}
use Rattle.std.specs.List.{find}
use Rattle.std.proofs.lemmas.List.{append-nil, append_assoc, get_or_append_left, length-append}
use Rattle.std.proofs.lemmas.List.Elements.{All-head, All-tail, All-contains, Contains-append_cases, Contains-append_left, Contains-append_right, filter_map-append}
use Rattle.std.proofs.lemmas.Grind.{flat_map-append}
use Rattle.environments.specs.Environments.{nowhere}
use Rattle.oz_base.specs.Lists.{edit_first}
use Rattle.oz_base.specs.Names.{ident_eq}
use Rattle.oz_base.specs.declared.names.Ident.{Ident}
use Rattle.oz_base.specs.declared.interval.Interval.{Interval}
use Rattle.oz_domains.specs.Domains.{IntSet, Has}
use Rattle.oz_domains.specs.Positions.{domain, AreParts}
use Rattle.oz_semantics.specs.Store.{View, Same, domain_of, common, set_given, named_by}
use Rattle.oz_semantics.specs.declared.value.Value.{Value}
use Rattle.oz_semantics.specs.declared.value.Tell.{Tell}
use Rattle.oz_semantics.specs.declared.value.Tell.TheVariants.{Equal, Is, Within}
use Rattle.oz_semantics.specs.declared.configuration.LastRun.{LastRun}
use Rattle.oz_semantics.specs.declared.configuration.Propagator.{Propagator}
use Rattle.oz_laws.proofs.SameLaws.{In, In-from_contains, contains-from_In, In-flat_back}
use Rattle.view_laws.specs.Readies.{Keeps}
use Rattle.fd_stores.specs.Stores.{Store, Constraint, Posted, Told, Runs}
use Rattle.fd_stores.specs.Laws.{AreOver}
use Rattle.fd_stores.specs.Notes.{Stands}
use Rattle.fd_stores.proofs.RunLaws.{runs_law}
use Rattle.fd_stores.proofs.NoteLaws.{notes_stand}
use Rattle.fd_stores.proofs.Lists.{contains_mapped, contains_cases, contains_none}
use Rattle.fd_views.specs.Views.{variable_at, variables_at, HaveDomains, IsFree, IsPlain, StandsFor, IsDomainTell, OnlyDomains}
use Rattle.fd_views.proofs.SameLaws.{keeps_more, domains_same, unnamed_free}
use Rattle.fd_views.proofs.ValueLaws.{own_sets, domain_own}
use Rattle.fd_views.proofs.StandLaws.{variable_in}
use Rattle.fd_runs.specs.Runs.{note_of}
use Rattle.fd_turns.specs.Nodes.{Top, node_space, own}
use Rattle.fd_steps.specs.States.{State, told_more, view_of, IsBelow, IsPosted, IsDone, IsGood, IsLater}
use Rattle.fd_steps.proofs.EditLaws.{edited_from, from_edited}

-- ---- lists of variables

pub is_variable : (xs : List Ident) (is : List ℕ) (v : Ident) → All (λ x. x < length xs) is → Contains (variables_at xs is) v → Contains xs v
is_variable xs is v a c = (let r = contains_mapped (variable_at xs) is v c in subst (Contains xs) r.2 (variable_in xs r.0 (All-contains (λ x. x < length xs) is r.0 a r.1)))

-- ---- who keeps a domain

some_more : (ss us : List IntSet) → is_some (common ss) ≡ true → is_some (common (ss ++ us)) ≡ true
some_more [] us e = cc
some_more (s ∷ ss) us e = refl

pub domain_kept : (ts more : List Tell) (x : Ident) → IsFree ts x → IsFree (ts ++ more) x → is_some (domain_of ts x) ≡ true → is_some (domain_of (ts ++ more) x) ≡ true
domain_kept ts more x f g e =
    ap is_some (domain_own (ts ++ more) x g ∙ ap common (filter_map-append (set_given (λ y. ident_eq y x)) ts more))
    ∙ some_more (own_sets ts x) (own_sets more x) (ap is_some (sym (domain_own ts x f)) ∙ e)

-- ---- more tells

module _ (t : Top) (cs : List Constraint) (st : State) (h : IsGood t cs st) where
  abbrev seen : View
  seen = view_of t st

  pub view_more : (us : List Tell) (m : Store) → view_of t (told_more us m st) ≡ seen ++ us
  view_more us m = sym (append_assoc t.tells st.tells us)

  module _ (us : List Tell) (m : Store) (s : StandsFor (seen ++ us) st.variables m) (over : AreOver cs m) (parts : AreParts m st.store) where
    pub have_more : (is : List ℕ) → All (λ x. x < length st.variables) is → HaveDomains seen (variables_at st.variables is) → HaveDomains (seen ++ us) (variables_at st.variables is)
    have_more is a w v c =
        let old = h.stands in
        let plain = old.plain in
        let new = s.plain in
        let among = is_variable st.variables is v a c in
        domain_kept seen us v (plain.free v among) (new.free v among) (w v c)

    posted_more : (p : Propagator) → IsPosted cs seen st.variables st.store p → IsPosted cs (seen ++ us) st.variables m p
    posted_more p k = record {
      places = k.places;
      variables = k.variables;
      among = k.among;
      inside = k.inside;
      have = have_more k.places k.inside k.have;
      note = (let o = h.over in let n = notes_stand in n.stays (Posted p.relation k.places) (note_of p.last) st.store m (o.over (Posted p.relation k.places) k.among) k.note parts);
    }

    done_more : (c : Constraint) → IsDone st.variables st.store st.propagators c → IsDone st.variables m st.propagators c
    done_more (Posted q is) d = d
    done_more (Told x v) d = λ n e. d n (parts.each x n e)

    pub told_good : ((x : Ident) → Contains (flat_map named_by us) x → IsBelow st.next x) → ((x y : Ident) → x.space ≡ [] → y.space ≡ [] → Same (seen ++ us) x y → Same seen x y)
        → IsGood t cs (told_more us m st)
    told_good named above =
        let e = sym (view_more us m) in
        record {
          stands = subst (λ v. StandsFor v st.variables m) e s;
          over = over;
          posts = λ p c. subst (λ v. IsPosted cs v st.variables m p) e (posted_more p (h.posts p c));
          done = λ c d. done_more c (h.done c d);
          named = λ x c. elim (Contains-append_cases (flat_map named_by seen) (flat_map named_by us) x (subst (λ v. Contains v x) (ap (flat_map named_by) (view_more us m) ∙ flat_map-append named_by seen us) c)) [
            | inl k ↦ h.named x k
            | inr k ↦ named x k
          ];
          given = h.given;
          above = λ x y a b c. h.above x y a b (above x y a b (subst (λ v. Same v x y) (view_more us m) c));
        }

    pub told_later : Runs cs st.store m → (told : ℕ → Type 0) → ((i : ℕ) → i < st.next → (told i → ⊥) → IsFree seen (own i) → IsFree (seen ++ us) (own i)) → IsLater t cs told st (told_more us m st)
    told_later r told free = record {
      keeps = λ u c. subst (λ v. Contains v u) (sym (view_more us m)) (keeps_more seen us u c);
      runs = r;
      next = omega arith;
      variables = refl;
      posted = refl;
      free = λ i l n f. subst (λ v. IsFree v (own i)) (sym (view_more us m)) (free i l n f);
    }

  -- ---- what is not given out

  -- a variable that is not given out is named by nothing
  pub not_named : (i : ℕ) → st.next ≤ i → Contains (flat_map named_by seen) (own i) → ⊥
  not_named i l c = elim (h.named (own i) c) [
    | inl e ↦ absurd (not_top e)
    | inr k ↦ (let same : i ≡ k.0 = ap (λ (x : Ident). x.number) k.2 in omega (arith, l, k.1, same))
  ] where
    not_top : node_space ≡ [] → ⊥
    not_top e = cc

  pub new_free : (i : ℕ) → st.next ≤ i → IsFree seen (own i)
  new_free i l = unnamed_free seen (own i) (not_named i l)

  pub new_other : (i : ℕ) → st.next ≤ i → Contains st.variables (own i) → ⊥
  new_other i l c = (let g = h.given (own i) c in let same : i ≡ g.0 = ap (λ (x : Ident). x.number) g.2 in omega (arith, l, g.1, same))

  -- ---- a note

  pub noted_good : (test : Propagator → Bool) (last : LastRun) → ((p : Propagator) → Contains st.propagators p → find test st.propagators ≡ Some p → IsPosted cs seen st.variables st.store (record p { last = last }))
      → IsGood t cs (record st { propagators = edit_first test (λ (p : Propagator). record p { last = last }) st.propagators })
  noted_good test last k = record {
    stands = h.stands;
    over = h.over;
    posts = λ p c. elim (edited_from test (λ (q : Propagator). record q { last = last }) st.propagators p c) [
      | inl d ↦ h.posts p d
      | inr d ↦ subst (IsPosted cs seen st.variables st.store) d.3 (k d.0 d.2 d.1)
    ];
    done = λ c d. by c (h.done c d);
    named = h.named;
    given = h.given;
    above = h.above;
  } where
    by : (c : Constraint) → IsDone st.variables st.store st.propagators c → IsDone st.variables st.store (edit_first test (λ (p : Propagator). record p { last = last }) st.propagators) c
    by (Posted r is) (inl d) = inl d
    by (Posted r is) (inr d) = elim (from_edited test (λ (q : Propagator). record q { last = last }) st.propagators d.0 d.1) [
      | inl e ↦ inr (d.0, e, d.2, d.3, d.4)
      | inr e ↦ inr (record d.0 { last = last }, e, d.2, d.3, d.4)
    ]
    by (Told x v) d = d

-- ---- domains

module _ (t : Top) (cs : List Constraint) (st : State) (h : IsGood t cs st) (us : List Tell) (m : Store) (o : OnlyDomains us) (s : StandsFor (view_of t st ++ us) st.variables m) where
  named_below : (x : Ident) → Contains (flat_map named_by us) x → IsBelow st.next x
  named_below x c = (let f = In-flat_back named_by x us (In-from_contains (flat_map named_by us) x c) in by f.0 (contains-from_In us f.0 f.1) f.2) where
    by : (u : Tell) → Contains us u → In x (named_by u) → IsBelow st.next x
    by (Equal a b) d i = absurd (o (Equal a b) d)
    by (Is a v) d i = absurd (o (Is a v) d)
    by (Within a is) d (inl e) = (let p = s.plain in let g = h.given a (p.only a is (Contains-append_right (view_of t st) us (Within a is) d)) in inr (g.0, g.1, sym e ∙ g.2))
    by (Within a is) d (inr n) = elim n [ ]

  -- of a part of the store
  pub parts_good : AreOver cs m → AreParts m st.store → IsGood t cs (told_more us m st)
  parts_good over parts = told_good t cs st h us m s over parts named_below (λ x y a b c. domains_same (view_of t st) us o c)

  pub domains_good : Runs cs st.store m → IsGood t cs (told_more us m st)
  domains_good r = (let l = runs_law cs st.store m h.over r in parts_good l.0 l.1)

-- ---- more that is done

pub all_done : (t : Top) (cs : List Constraint) (st : State) (h : IsGood t cs st) (ks : List Constraint) → ((c : Constraint) → Contains ks c → IsDone st.variables st.store st.propagators c)
    → IsGood t cs (record st { posted = st.posted ++ ks })
all_done t cs st h ks d = record {
  stands = h.stands;
  over = h.over;
  posts = h.posts;
  done = λ c k. elim (Contains-append_cases st.posted ks c k) [ inl e ↦ h.done c e | inr e ↦ d c e ];
  named = h.named;
  given = h.given;
  above = h.above;
}

-- Where all is posted and nothing is due, no run changes the store.
use Rattle.std.proofs.Common.{◌≡◌, ◌≢◌, inl, inr, ℕ, ◌<◌, false, List, [], ◌∷◌, length, Contains, All, AllPairs, Some, refl, sym, ◌∙◌, ap, subst}
use Rattle.std.proofs.lemmas.List.Elements.{All-head, All-tail}
use Rattle.oz_base.specs.declared.names.Ident.{Ident}
use Rattle.oz_base.specs.declared.relation.Relation.{Relation}
use Rattle.oz_semantics.specs.Store.{View}
use Rattle.oz_semantics.specs.Propagation.{is_due}
use Rattle.oz_semantics.specs.declared.configuration.Propagator.{Propagator}
use Rattle.fd_stores.specs.Stores.{Store, Constraint, Posted, Told, run, Runs, none, more, AtRest}
use Rattle.fd_stores.specs.Notes.{IsNoted}
use Rattle.fd_stores.proofs.NoteLaws.{notes_stand}
use Rattle.fd_views.specs.Views.{variable_at, variables_at}
use Rattle.fd_views.proofs.StandLaws.{variable_once}
use Rattle.fd_runs.specs.Runs.{note_of}
use Rattle.fd_runs.proofs.DueLaws.{not_due}
use Rattle.fd_runs.proofs.RunLaws.{all_kept}
use Rattle.fd_turns.specs.Nodes.{Top}
use Rattle.fd_steps.specs.States.{State, view_of, IsPosted, IsDone, IsGood, NoneDue}
use Rattle.fd_steps.proofs.EditLaws.{none_passes}

-- ---- places

-- different variables have different places
pub same_places : (xs : List Ident) (is js : List ℕ) → AllPairs (λ x y. x ≢ y) xs → All (λ x. x < length xs) is → All (λ x. x < length xs) js → variables_at xs is ≡ variables_at xs js → is ≡ js
same_places xs [] [] o a b e = refl
same_places xs [] (j ∷ js) o a b e = cc
same_places xs (i ∷ is) [] o a b e = cc
same_places xs (i ∷ is) (j ∷ js) o a b e =
    let first : variable_at xs i ≡ variable_at xs j = cc in
    let others : variables_at xs is ≡ variables_at xs js = cc in
    let here = variable_once xs i j o (All-head (λ x. x < length xs) i is a) (All-head (λ x. x < length xs) j js b) first in
    let rest = same_places xs is js o (All-tail (λ x. x < length xs) i is a) (All-tail (λ x. x < length xs) j js b) others in
    λ k. here k ∷ rest k

-- ---- runs at rest

pub some_got : (a b : Store) → Some a ≡ Some b → a ≡ b
some_got a b e = cc

-- they change nothing
pub runs_rest : (cs : List Constraint) (s m : Store) → AtRest cs s → Runs cs s m → m ≡ s
runs_rest cs s m r none = refl
runs_rest cs s m r (more {m = n} c k e q) =
    let same : s ≡ n = some_got s n (sym (r c k) ∙ e) in
    runs_rest cs n m (subst (AtRest cs) same r) q ∙ sym same

-- ---- states at rest

module _ (t : Top) (cs : List Constraint) (st : State) (h : IsGood t cs st) (idle : NoneDue t st) where
  abbrev seen : View
  seen = view_of t st

  -- a run of a propagator that is not due changes nothing
  module _ (p : Propagator) (c : Contains st.propagators p) where
    abbrev posted : IsPosted cs seen st.variables st.store p
    posted = h.posts p c

    rested : is_due seen p ≡ false
    rested = none_passes (is_due seen) (λ q. q) st.propagators p idle c

    noted : IsNoted (Posted p.relation (h.posts p c).places) (note_of p.last) st.store
    noted =
        let k = posted in
        not_due seen st.variables st.store p.relation k.places h.stands k.inside k.have p.last (sym (ap (λ vs. is_due seen (record { relation = p.relation; variables = vs; last = p.last })) k.variables) ∙ rested)

    pub ran_same : run (Posted p.relation (h.posts p c).places) st.store ≡ Some st.store
    ran_same = (let k = posted in let o = h.over in let n = notes_stand in
        n.rests (Posted p.relation k.places) (note_of p.last) st.store (o.over (Posted p.relation k.places) k.among) o.domains k.note noted)

    pub ran_at : (r : Relation) (is : List ℕ) → p.relation ≡ r → p.variables ≡ variables_at st.variables is → All (λ x. x < length st.variables) is → run (Posted r is) st.store ≡ Some st.store
    ran_at r is e f a =
        let k = posted in
        let s = h.stands in
        let places = same_places st.variables k.places is s.once k.inside a (sym k.variables ∙ f) in
        sym (λ i. run (Posted (e i) (places i)) st.store) ∙ ran_same

  done_same : (c : Constraint) → Contains cs c → IsDone st.variables st.store st.propagators c → run c st.store ≡ Some st.store
  done_same (Posted r is) k (inl d) = d st.store
  done_same (Posted r is) k (inr d) = ran_at d.0 d.1 r is d.2 d.3 d.4
  done_same (Told x v) k d = (let o = h.over in all_kept st.store x v (o.over (Told x v) k) o.domains d)

  pub at_rest : ((k : Constraint) → Contains cs k → Contains st.posted k) → AtRest cs st.store
  at_rest all c k = done_same c k (h.done c (all c k))

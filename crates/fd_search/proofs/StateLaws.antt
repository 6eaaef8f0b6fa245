-- States in which all is posted.
use Rattle.std.proofs.Common.{◌≡◌, inl, inr, ℕ, ◌<◌, Bool, true, false, ◌||◌, if◌then◌else◌, List, [], ◌∷◌, length, filter, flat_map, Contains, All, is_some, refl, sym, ◌∙◌, ap, subst}
use Rattle.std.proofs.lemmas.List.Elements.{Contains-append_cases}
use Rattle.std.specs.List.{list_any}
use Rattle.oz_base.specs.declared.names.Ident.{Ident}
use Rattle.oz_domains.specs.Domains.{IntSet, union}
use Rattle.oz_domains.specs.Positions.{AreParts}
use Rattle.oz_semantics.specs.Store.{View, domain_of, common}
use Rattle.oz_semantics.specs.Propagation.{is_due, is_undecided}
use Rattle.oz_semantics.specs.declared.value.Value.{Value}
use Rattle.oz_semantics.specs.declared.value.Tell.{Tell}
use Rattle.oz_semantics.specs.declared.value.Tell.TheVariants.{Is, Within}
use Rattle.oz_semantics.specs.declared.configuration.Frame.{Frame}
use Rattle.oz_semantics.specs.declared.configuration.Propagator.{Propagator}
use Rattle.oz_laws.proofs.SameLaws.{In}
use Rattle.oz_laws.proofs.DomainLaws.{common-some}
use Rattle.view_laws.specs.Readies.{Keeps}
use Rattle.view_laws.proofs.ViewLaws.{same_kept}
use Rattle.propagators.proofs.StepLaws.{parts_trans}
use Rattle.fd_stores.specs.Stores.{Constraint}
use Rattle.fd_stores.proofs.Lists.{contains_none, contains_cases, contains_head, contains_tail}
use Rattle.fd_stores.proofs.RunLaws.{runs_law}
use Rattle.fd_views.specs.Views.{variables_at, HaveDomains, IsFree, HasValue}
use Rattle.fd_views.proofs.ValueLaws.{own_sets, domain_own, own_by, own_in}
use Rattle.fd_turns.specs.Nodes.{Top, own}
use Rattle.fd_steps.specs.States.{State, view_of, IsGood, NoneDue, IsLater}
use Rattle.fd_steps.specs.Distributing.{Distributes}
use Rattle.fd_steps.proofs.EditLaws.{none_any}
use Rattle.fd_steps.proofs.GoodLaws.{is_variable}
use Rattle.fd_search.specs.Laws.{Setting}

-- ---- lists

pub filtered_from : {A : Type 0} (test : A → Bool) (xs : List A) (y : A) → Contains (filter test xs) y → Contains xs y
filtered_from test [] y c = absurd (contains_none y c)
filtered_from test (x ∷ xs) y c = by (test x) c (filtered_from test xs y) where
  by : (b : Bool) → Contains (if b then x ∷ filter test xs else filter test xs) y → (Contains (filter test xs) y → Contains xs y) → Contains (x ∷ xs) y
  by true d again = elim (contains_cases x y (filter test xs) d) [ inl e ↦ subst (Contains (x ∷ xs)) e (contains_head x xs) | inr k ↦ contains_tail x y xs (again k) ]
  by false d again = contains_tail x y xs (again d)

pub flat_from : {A B : Type 0} (f : A → List B) (xs : List A) (y : B) → Contains (flat_map f xs) y → (x : A) × Contains xs x × Contains (f x) y
flat_from f [] y c = absurd (contains_none y c)
flat_from f (x ∷ xs) y c = elim (Contains-append_cases (f x) (flat_map f xs) y c) [
  | inl k ↦ (x, contains_head x xs, k)
  | inr k ↦ (let r = flat_from f xs y k in (r.0, contains_tail x r.0 xs r.1, r.2))
]

pub none_pass : {A : Type 0} (test : A → Bool) (xs : List A) → ((x : A) → Contains xs x → test x ≡ false) → list_any test xs ≡ false
none_pass test [] h = refl
none_pass test (x ∷ xs) h = λ i. h x (contains_head x xs) i || none_pass test xs (λ y c. h y (contains_tail x y xs c)) i

-- ---- what later views keep

pub value_keeps : (ts us : List Tell) (x : Ident) (v : Value) → Keeps ts us → HasValue ts x v → HasValue us x v
value_keeps ts us x v k h = record { variable = h.variable; equal = same_kept ts us k h.equal; told = k (Is h.variable v) h.told }

a_set : (ss : List IntSet) → is_some (common ss) ≡ true → (s : IntSet) × In s ss
a_set [] e = absurd (cc)
a_set (s ∷ ss) e = (s, inl refl)

pub domain_keeps : (ts us : List Tell) (x : Ident) → Keeps ts us → IsFree ts x → IsFree us x → is_some (domain_of ts x) ≡ true → is_some (domain_of us x) ≡ true
domain_keeps ts us x k f g e =
    let one = a_set (own_sets ts x) (ap is_some (sym (domain_own ts x f)) ∙ e) in
    let told = own_by ts x one.0 one.1 in
    let some = common-some (own_sets us x) (union told.0) (own_in us x told.0 (k (Within x told.0) told.1)) in
    ap is_some (domain_own us x g ∙ some.1)

-- ---- a state in which all is posted

pub record IsFull (its : Setting) (st : State) : Type 0 where
  pub good : IsGood its.top its.constraints st
  pub posted : (k : Constraint) → Contains its.constraints k → Contains st.posted k
  pub parts : AreParts st.store its.start
  pub variables : st.variables ≡ its.variables
  pub rooted : HasValue (view_of its.top st) (own 0) its.root

-- its thread distributes
abbrev pub IsReady : Setting → State → Frame → Type 0
IsReady its st f = Distributes its.kernel.statements its.top its.constraints its.distribution st f []

module _ (its : Setting) (st later : State) (keeps : Keeps (view_of its.top st) (view_of its.top later)) (same : later.variables ≡ st.variables) where
  pub full_more : IsFull its st → IsGood its.top its.constraints later → later.posted ≡ st.posted → AreParts later.store st.store → IsFull its later
  full_more h g e p = record {
    good = g;
    posted = λ k c. subst (λ ks. Contains ks k) (sym e) (h.posted k c);
    parts = parts_trans its.start st.store later.store h.parts p;
    variables = same ∙ h.variables;
    rooted = value_keeps (view_of its.top st) (view_of its.top later) (own 0) its.root keeps h.rooted;
  }

  pub ready_more : (f : Frame) → IsReady its st f → IsReady its later f
  ready_more f h = record { answers = λ last g k e. h.answers last g (λ u c. k u (keeps u c)) (e ∙ same) }

  -- variables of the search keep their domains
  pub have_more : (is : List ℕ) → IsGood its.top its.constraints st → IsGood its.top its.constraints later → All (λ x. x < length st.variables) is → HaveDomains (view_of its.top st) (variables_at st.variables is)
      → HaveDomains (view_of its.top later) (variables_at later.variables is)
  have_more is h g a w = subst (λ ys. HaveDomains (view_of its.top later) (variables_at ys is)) (sym same) (λ v c. kept v c (w v c)) where
    kept : (v : Ident) → Contains (variables_at st.variables is) v → is_some (domain_of (view_of its.top st) v) ≡ true → is_some (domain_of (view_of its.top later) v) ≡ true
    kept v c e =
        let among = is_variable st.variables is v a c in
        let old = (let s = h.stands in s.plain) in
        let new = (let s = g.stands in s.plain) in
        domain_keeps (view_of its.top st) (view_of its.top later) v keeps (old.free v among) (new.free v (subst (λ ys. Contains ys v) (sym same) among)) e

pub full_later : (its : Setting) (told : ℕ → Type 0) (st later : State) → IsFull its st → IsGood its.top its.constraints later → IsLater its.top its.constraints told st later → IsFull its later
full_later its told st later h g l =
    let old = h.good in
    full_more its st later l.keeps l.variables h g l.posted (runs_law its.constraints st.store later.store old.over l.runs).1

-- ---- propagators over the variables of the search

module _ (t : Top) (cs : List Constraint) (st : State) (h : IsGood t cs st) where
  abbrev seen : View
  seen = view_of t st

  pub undecided_variable : (x : Ident) → Contains (flat_map (λ (p : Propagator). p.variables) (filter (is_undecided seen) st.propagators)) x → Contains st.variables x
  undecided_variable x c =
      let r = flat_from (λ (p : Propagator). p.variables) (filter (is_undecided seen) st.propagators) x c in
      let k = h.posts r.0 (filtered_from (is_undecided seen) st.propagators r.0 r.1) in
      is_variable st.variables k.places x k.inside (subst (λ vs. Contains vs x) k.variables r.2)

  pub none_due : NoneDue t st → list_any (is_due seen) st.propagators ≡ false
  none_due e = none_any (is_due seen) (λ p. p) st.propagators e

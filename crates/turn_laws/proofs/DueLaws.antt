-- The least propagator that is due is of an open layer, and where there is none no propagator is due.
use Rattle.std.proofs.Common.{◌≡◌, inl, inr, ℕ, Bool, true, false, ◌&&◌, ◌||◌, if◌then◌else◌, cond, List, [], ◌∷◌, refl, sym, ap, ap₂, subst, ◌∙◌, Option, Some, None, option_map}
use Rattle.std.specs.List.{list_any, find}
use Rattle.oz_base.specs.Lists.{given_or, first_given}
use Rattle.oz_semantics.specs.Names.{is_below}
use Rattle.oz_semantics.specs.Configurations.{is_open, view}
use Rattle.oz_semantics.specs.Propagation.{is_due}
use Rattle.oz_semantics.specs.Spaces.{has_due, layers_below}
use Rattle.oz_semantics.specs.Schedule.{due_in, least_due}
use Rattle.oz_semantics.specs.declared.configuration.Propagator.{Propagator}
use Rattle.oz_semantics.specs.declared.configuration.Layer.{Layer}
use Rattle.oz_laws.proofs.SameLaws.{In}
use Rattle.view_laws.specs.Queues.{is_due_below}
use Rattle.view_laws.proofs.ListLaws.{found_in, filter_in}

-- a propagator that is due, of an open layer
pub record IsDueIn (layers : List Layer) (due : Layer × Propagator) : Type 0 where
  pub opened : is_open due.0.status ≡ true
  pub there : In due.1 due.0.propagators
  pub ready : is_due (view layers due.0.space) due.1 ≡ true

abbrev due_in_own : List Layer → Layer → Option (Layer × Propagator)
due_in_own layers l = option_map (λ (p : Propagator). (l, p)) (find (is_due (view layers l.space)) l.propagators)

pub due_of : (layers : List Layer) (l : Layer) (due : Layer × Propagator) → due_in layers l ≡ Some due → (l ≡ due.0) × IsDueIn layers due
due_of layers l due e = by (is_open l.status) refl e
  where
    pair_is : (p : Propagator) → ◌≡◌ {A = Option (Layer × Propagator)} (Some (l, p)) (Some due) → ◌≡◌ {A = Layer × Propagator} (l, p) due
    pair_is p q = let same : ◌≡◌ {A = Layer × Propagator} (l, p) due = cc in same

    found : is_open l.status ≡ true → (o : Option Propagator) → find (is_due (view layers l.space)) l.propagators ≡ o → option_map (λ (p : Propagator). (l, p)) o ≡ Some due → (l ≡ due.0) × IsDueIn layers due
    found k None q f = cc
    found k (Some p) q f =
        let same = pair_is p f in
        let owner : l ≡ due.0 = ap (λ (d : Layer × Propagator). d.0) same in
        let one : p ≡ due.1 = ap (λ (d : Layer × Propagator). d.1) same in
        let h = found_in (is_due (view layers l.space)) (λ (x : Propagator). x) l.propagators p q in (
          owner,
          record {
            opened = ap (λ (m : Layer). is_open m.status) (sym owner) ∙ k;
            there = subst (λ (d : Layer × Propagator). In d.1 d.0.propagators) same h.0;
            ready = subst (λ (d : Layer × Propagator). is_due (view layers d.0.space) d.1 ≡ true) same h.1;
          },
        )

    by : (b : Bool) → is_open l.status ≡ b → (if b then due_in_own layers l else None) ≡ Some due → (l ≡ due.0) × IsDueIn layers due
    by true k q = found k (find (is_due (view layers l.space)) l.propagators) refl q
    by false k q = cc

due_among : (layers ls : List Layer) (due : Layer × Propagator) → first_given (due_in layers) ls ≡ Some due → In due.0 ls × IsDueIn layers due
due_among layers [] due e = cc
due_among layers (l ∷ ls) due e = by (due_in layers l) refl e (due_among layers ls due)
  where
    by : (o : Option (Layer × Propagator)) → due_in layers l ≡ o → given_or o (first_given (due_in layers) ls) ≡ Some due
        → (first_given (due_in layers) ls ≡ Some due → In due.0 ls × IsDueIn layers due) → In due.0 (l ∷ ls) × IsDueIn layers due
    by None k q rest = let r = rest q in (inr r.0, r.1)
    by (Some d) k q rest = let r = due_of layers l due (k ∙ q) in (inl r.0, r.1)

pub least_found : (layers : List Layer) (due : Layer × Propagator) → least_due layers ≡ Some due → In due.0 layers × IsDueIn layers due
least_found layers due e = due_among layers layers due e

-- none is due

none_found : {A : Type 0} (p : A → Bool) (xs : List A) → find p xs ≡ None → list_any p xs ≡ false
none_found p [] e = refl
none_found {A} p (x ∷ xs) e = by (p x) e (none_found p xs)
  where
    by : (b : Bool) → cond b (Some x) (find p xs) ≡ None → (find p xs ≡ None → list_any p xs ≡ false) → (b || list_any p xs) ≡ false
    by true k rest = cc
    by false k rest = rest k

no_due : (layers : List Layer) (l : Layer) → due_in layers l ≡ None → has_due (view layers l.space) l ≡ false
no_due layers l e = by (is_open l.status) e
  where
    unmapped : (o : Option Propagator) → option_map {U = Layer × Propagator} (λ (p : Propagator). (l, p)) o ≡ None → o ≡ None
    unmapped None q = refl
    unmapped (Some p) q = cc

    by : (b : Bool) → (if b then due_in_own layers l else None) ≡ None → (b && list_any (is_due (view layers l.space)) l.propagators) ≡ false
    by true k = none_found (is_due (view layers l.space)) l.propagators (unmapped (find (is_due (view layers l.space)) l.propagators) k)
    by false k = refl

none_given : (layers ls : List Layer) → first_given (due_in layers) ls ≡ None → (l : Layer) → In l ls → has_due (view layers l.space) l ≡ false
none_given layers [] e l h = elim h [ ]
none_given layers (m ∷ ls) e l h = by (due_in layers m) refl e h (none_given layers ls)
  where
    by : (o : Option (Layer × Propagator)) → due_in layers m ≡ o → given_or o (first_given (due_in layers) ls) ≡ None → In l (m ∷ ls)
        → (first_given (due_in layers) ls ≡ None → (n : Layer) → In n ls → has_due (view layers n.space) n ≡ false) → has_due (view layers l.space) l ≡ false
    by None k q (inl i) rest = subst (λ (n : Layer). has_due (view layers n.space) n ≡ false) i (no_due layers m k)
    by None k q (inr i) rest = rest q l i
    by (Some d) k q i rest = cc

pub none_due : (layers : List Layer) → least_due layers ≡ None → (l : Layer) → In l layers → has_due (view layers l.space) l ≡ false
none_due layers e l h = none_given layers layers e l h

none_any : {A : Type 0} (p : A → Bool) (xs : List A) → ((x : A) → In x xs → p x ≡ false) → list_any p xs ≡ false
none_any p [] h = refl
none_any p (x ∷ xs) h = ap₂ (λ a b. a || b) (h x (inl refl)) (none_any p xs (λ y i. h y (inr i)))

pub none_due_below : (layers : List Layer) (space : List ℕ) → least_due layers ≡ None → is_due_below layers space ≡ false
none_due_below layers space e =
    none_any (λ (l : Layer). has_due (view layers l.space) l) (layers_below layers space)
    (λ l h. none_due layers e l (filter_in (λ (m : Layer). is_below space m.space) layers l h).0)

-- one that is due has the layer go on
any_here : {A : Type 0} (p : A → Bool) (xs : List A) (x : A) → In x xs → p x ≡ true → list_any p xs ≡ true
any_here p [] x h e = elim h [ ]
any_here p (y ∷ ys) x (inl k) e = ap (λ b. b || list_any p ys) (ap p k ∙ e)
any_here p (y ∷ ys) x (inr h) e = ap (λ b. p y || b) (any_here p ys x h e) ∙ or_true (p y)
  where
    or_true : (b : Bool) → (b || true) ≡ true
    or_true true = refl
    or_true false = refl

pub due_has : (layers : List Layer) (due : Layer × Propagator) → IsDueIn layers due → has_due (view layers due.0.space) due.0 ≡ true
due_has layers due d =
    ap (λ b. b && list_any (is_due (view layers due.0.space)) due.0.propagators) d.opened
    ∙ any_here (is_due (view layers due.0.space)) due.0.propagators due.1 d.there d.ready

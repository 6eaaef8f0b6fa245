-- Which propagators are due, layer by layer.
use Rattle.std.proofs.Common.{◌≡◌, ℕ, zero, suc, ◌<◌, ◌+◌, ◌&&◌, ◌||◌, not, Bool, true, false, cond, if◌then◌else◌, inl, inr, List, [], ◌∷◌, drop, length, Option, Some, None, refl, sym, ap, subst, ◌∙◌, arith}
use Rattle.std.specs.Prelude.{is_some, position, slice_get}
use Rattle.std.specs.Option.{option_map}
use Rattle.std.specs.List.{list_any, find}
use Rattle.std.proofs.lemmas.List.{drop_all}
use Rattle.oz_base.specs.Lists.{is_empty, list_eq, given_or, first_given}
use Rattle.oz_base.specs.ListLaws.{list_eq-decides}
use Rattle.oz_semantics.specs.Names.{is_below, space_lt}
use Rattle.oz_semantics.specs.Store.{View}
use Rattle.oz_semantics.specs.Configurations.{is_of, is_open, view}
use Rattle.oz_semantics.specs.Propagation.{is_due}
use Rattle.oz_semantics.specs.Spaces.{has_due, layers_below}
use Rattle.oz_semantics.specs.Schedule.{due_in, least_due}
use Rattle.oz_semantics.specs.declared.configuration.Propagator.{Propagator}
use Rattle.oz_semantics.specs.declared.configuration.Status.{Status}
use Rattle.oz_semantics.specs.declared.configuration.Status.TheVariants as status
use Rattle.oz_semantics.specs.declared.configuration.Layer.{Layer}
use Rattle.oz_laws.proofs.SameLaws.{In, and-right}
use Rattle.view_laws.specs.Trees.{is_ascending, names_of}
use Rattle.view_laws.proofs.Members.{decide, not_both}
use Rattle.view_laws.proofs.TreeLaws.{lt_itself}
use Rattle.space_core.specs.Propagators.{has_propagators}
use Rattle.space_core.proofs.BehindLaws.{later_name}
use Rattle.stability.specs.Due.{due_place, IsLeastDue}
use Rattle.stability.specs.Places.{IsFirst}
use Rattle.stability.proofs.Firsts.{Found, found_at, found_by_position, position_here, position_later}
use Rattle.stability.proofs.PlaceLaws.{item_at, rest_at}

-- In a layer

-- what a search in a layer comes to
abbrev DueAt : List Layer → Layer → Option ℕ → Type 0
DueAt layers l None = due_in layers l ≡ None
DueAt layers l (Some n) =
    (p : Propagator) × (due_in layers l ≡ Some (l, p)) × (l.status ≡ status.Open) × IsFirst (is_due (view layers l.space)) l.propagators n p

module _ (layers : List Layer) (l : Layer) where
  abbrev test : Propagator → Bool
  test = is_due (view layers l.space)

  abbrev due_by : Bool → Option (Layer × Propagator)
  due_by b = if b then option_map (λ (p : Propagator). (l, p)) (find test l.propagators) else None

  open_due : l.status ≡ status.Open → (o : Option ℕ) → Found test l.propagators o → DueAt layers l o
  open_due e None h = ap (λ (s : Status). due_by (is_open s)) e ∙ ap (option_map (λ (p : Propagator). (l, p))) h.none
  open_due e (Some n) h = (h.0, ap (λ (s : Status). due_by (is_open s)) e ∙ ap (option_map (λ (p : Propagator). (l, p))) h.1.found, e, h.1)

  pub due_found : (o : Option ℕ) → o ≡ due_place (view layers l.space) l → DueAt layers l o
  due_found o e = by l.status refl e
    where
      closed : is_open l.status ≡ false → DueAt layers l o
      closed k =
          subst (DueAt layers l) (sym (e ∙ ap (λ (b : Bool). if b then position test l.propagators else None) k)) (ap due_by k)

      by : (st : Status) → l.status ≡ st → o ≡ due_place (view layers l.space) l → DueAt layers l o
      by status.Open k q =
          subst (DueAt layers l) (sym (q ∙ ap (λ (s : Status). if is_open s then position test l.propagators else None) k)) (open_due k (position test l.propagators) (found_by_position test l.propagators))
      by status.Failed k q = closed (ap is_open k)
      by (status.Raised x) k q = closed (ap is_open k)
      by status.Merged k q = closed (ap is_open k)

-- of a layer that is open, and of one that is not
pub place_open : (view : View) (l : Layer) → l.status ≡ status.Open → position (is_due view) l.propagators ≡ due_place view l
place_open view l e = sym (ap (λ (s : Status). if is_open s then position (is_due view) l.propagators else None) e)

pub place_closed : (view : View) (l : Layer) → is_open l.status ≡ false → None ≡ due_place view l
place_closed view l e = sym (ap (λ (b : Bool). if b then position (is_due view) l.propagators else None) e)

-- whether there is one
some_position : {A : Type 0} (test : A → Bool) (xs : List A) → is_some (position test xs) ≡ list_any test xs
some_position test [] = refl
some_position test (x ∷ xs) = by (test x) refl (some_position test xs)
  where
    more : (o : Option ℕ) → is_some (option_map (λ n. suc n) o) ≡ is_some o
    more None = refl
    more (Some n) = refl

    by : (b : Bool) → test x ≡ b → is_some (position test xs) ≡ list_any test xs → is_some (position test (x ∷ xs)) ≡ list_any test (x ∷ xs)
    by true e rest = ap is_some (position_here test x xs e) ∙ sym (ap (λ b. b || list_any test xs) e)
    by false e rest = ap is_some (position_later test x xs e) ∙ more (position test xs) ∙ rest ∙ sym (ap (λ b. b || list_any test xs) e)

pub due_any : (view : View) (l : Layer) → is_some (due_place view l) ≡ has_due view l
due_any view l = by (is_open l.status) refl
  where
    by : (b : Bool) → is_open l.status ≡ b → is_some (if b then position (is_due view) l.propagators else None) ≡ (b && list_any (is_due view) l.propagators)
    by true e = some_position (is_due view) l.propagators
    by false e = refl

-- where no layer has a propagator

none_in : (layers : List Layer) (l : Layer) → not (is_empty l.propagators) ≡ false → (due_in layers l ≡ None) × (has_due (view layers l.space) l ≡ false)
none_in layers l e = by l.propagators refl e (is_open l.status) refl
  where
    by : (ps : List Propagator) → l.propagators ≡ ps → not (is_empty l.propagators) ≡ false → (b : Bool) → is_open l.status ≡ b
        → (due_in layers l ≡ None) × (has_due (view layers l.space) l ≡ false)
    by [] k q true o = (rw (o, k) refl, rw (o, k) refl)
    by (p ∷ ps) k q b o = absurd (true≢false (sym (ap (λ (xs : List Propagator). not (is_empty xs)) k) ∙ q))
      where
        true≢false : true ≡ false → ⊥
        true≢false f = cc
    by [] k q false o = (rw o refl, rw o refl)

both_false : (a b : Bool) → (a || b) ≡ false → (a ≡ false) × (b ≡ false)
both_false true b e = cc
both_false false b e = (refl, e)

none_least : (layers ls : List Layer) → has_propagators ls ≡ false → first_given (due_in layers) ls ≡ None
none_least layers [] e = refl
none_least layers (l ∷ ls) e =
    let both = both_false (not (is_empty l.propagators)) (has_propagators ls) e in
    ap (λ (o : Option (Layer × Propagator)). given_or o (first_given (due_in layers) ls)) ((none_in layers l both.0).0) ∙ none_least layers ls both.1

pub no_least : (layers : List Layer) → has_propagators layers ≡ false → least_due layers ≡ None
no_least layers e = none_least layers layers e

none_below : (layers : List Layer) (space : List ℕ) (ls : List Layer) → has_propagators ls ≡ false → list_any (λ (l : Layer). has_due (view layers l.space) l) (layers_below ls space) ≡ false
none_below layers space [] e = refl
none_below layers space (l ∷ ls) e =
    let both = both_false (not (is_empty l.propagators)) (has_propagators ls) e in
    by (is_below space l.space) refl ((none_in layers l both.0).1) (none_below layers space ls both.1)
  where
    by : (b : Bool) → is_below space l.space ≡ b → has_due (view layers l.space) l ≡ false → list_any (λ (m : Layer). has_due (view layers m.space) m) (layers_below ls space) ≡ false
        → list_any (λ (m : Layer). has_due (view layers m.space) m) (layers_below (l ∷ ls) space) ≡ false
    by true k q rest = ap (λ (b : Bool). list_any (λ (m : Layer). has_due (view layers m.space) m) (cond b (l ∷ layers_below ls space) (layers_below ls space))) k ∙ ap (λ b. b || list_any (λ (m : Layer). has_due (view layers m.space) m) (layers_below ls space)) q ∙ rest
    by false k q rest = ap (λ (b : Bool). list_any (λ (m : Layer). has_due (view layers m.space) m) (cond b (l ∷ layers_below ls space) (layers_below ls space))) k ∙ rest

pub no_due_below : (layers : List Layer) (space : List ℕ) → has_propagators layers ≡ false → false ≡ list_any (λ (l : Layer). has_due (view layers l.space) l) (layers_below layers space)
no_due_below layers space e = sym (none_below layers space layers e)

-- A layer of a tree is the first of its name

item_in : (xs : List Layer) (i : ℕ) (x : Layer) → slice_get xs i ≡ Some x → In x xs
item_in [] i x k = cc
item_in (y ∷ ys) zero x k = inl (cc)
item_in (y ∷ ys) (suc i) x k = inr (item_in ys i x k)

name_place : (ls : List Layer) (place : ℕ) (l : Layer) → is_ascending (names_of ls) ≡ true → slice_get ls place ≡ Some l → position (is_of l.space) ls ≡ Some place
name_place [] place l e item = cc
name_place (m ∷ ls) zero l e item = position_here (is_of l.space) m ls ((list_eq-decides m.space l.space).1 (ap (λ (x : Layer). x.space) same))
  where
    same : m ≡ l
    same = cc
name_place (m ∷ ls) (suc n) l e item =
    position_later (is_of l.space) m ls other ∙ ap (option_map (λ k. suc k)) (name_place ls n l (and-right _ _ e) item)
  where
    other : list_eq m.space l.space ≡ false
    other = elim (decide (list_eq m.space l.space)) [
      | inl k ↦ absurd (not_both _ (later_name m ls l e (item_in ls n l item)) (ap (λ (s : List ℕ). space_lt s l.space) ((list_eq-decides m.space l.space).0 k) ∙ lt_itself l.space))
      | inr k ↦ k
    ]

pub first_of_name : (layers : List Layer) (place : ℕ) (l : Layer) → is_ascending (names_of layers) ≡ true → slice_get layers place ≡ Some l → IsFirst (is_of l.space) layers place l
first_of_name layers place l e item =
    let h = found_at (is_of l.space) layers (Some place) (sym (name_place layers place l e item)) in
    subst (IsFirst (is_of l.space) layers place) (same (sym h.1.item ∙ item)) h.1
  where
    same : {x y : Layer} → Some x ≡ Some y → x ≡ y
    same k = cc

-- From a place on

module _ (layers : List Layer) (place : ℕ) (within : place < length layers) where
  step_on : (l : Layer) → slice_get layers place ≡ Some l → first_given (due_in layers) (drop place layers) ≡ given_or (due_in layers l) (first_given (due_in layers) (drop (place + 1) layers))
  step_on l item = ap (first_given (due_in layers)) (rest_at layers place l item)

  pub least_here : (index : ℕ) → is_ascending (names_of layers) ≡ true → first_given (due_in layers) (drop place layers) ≡ least_due layers
      → ((l : Layer) → slice_get layers place ≡ Some l → Some index ≡ due_place (view layers l.space) l) → IsLeastDue layers (record { place = place; index = index })
  least_here index ascends so finds =
      let item = item_at layers place within in
      let l = item.0 in
      let due = due_found layers l (Some index) (finds l item.1) in
      record {
        layer = l;
        propagator = due.0;
        least = sym so ∙ step_on l item.1 ∙ ap (λ (o : Option (Layer × Propagator)). given_or o (first_given (due_in layers) (drop (place + 1) layers))) due.1;
        there = first_of_name layers place l ascends item.1;
        goes = due.2;
        first = due.3;
      }

  pub least_later : first_given (due_in layers) (drop place layers) ≡ least_due layers → ((l : Layer) → slice_get layers place ≡ Some l → None ≡ due_place (view layers l.space) l)
      → first_given (due_in layers) (drop (place + 1) layers) ≡ least_due layers
  least_later so finds =
      let item = item_at layers place within in
      let due = due_found layers item.0 None (finds item.0 item.1) in
      sym (step_on item.0 item.1 ∙ ap (λ (o : Option (Layer × Propagator)). given_or o (first_given (due_in layers) (drop (place + 1) layers))) due) ∙ so

pub least_end : (layers : List Layer) (place : ℕ) → length layers ≡ place → first_given (due_in layers) (drop place layers) ≡ least_due layers → least_due layers ≡ None
least_end layers place h so = sym so ∙ ap (first_given (due_in layers)) (drop_all place layers (omega (arith, h)))

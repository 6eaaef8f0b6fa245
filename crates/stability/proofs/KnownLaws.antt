-- States that are kept, by the places of their spaces, and what goes by them.
use Rattle.std.proofs.Common.{◌≡◌, ℕ, zero, suc, ◌+◌, ◌-◌, ◌<◌, ◌≤◌, Bool, true, false, cond, List, [], ◌∷◌, drop, length, reverse, get_or, add-one, Option, Some, None, refl, sym, ap, subst, ◌∙◌, arith}
use Rattle.std.specs.Prelude.{slice_get, position, option_map, MatchOption}
use Rattle.std.specs.List.{find}
use Rattle.std.specs.Option.{option_and_then}
use Rattle.std.proofs.lemmas.List.{drop_all, length-reverse, get_or-reverse}
use Rattle.std.proofs.lemmas.Option.{slice_get_within, slice_get_read, slice_get_past}
use Rattle.oz_base.specs.Lists.{list_eq}
use Rattle.oz_base.specs.ListLaws.{list_eq-decides}
use Rattle.oz_semantics.specs.Configurations.{is_of}
use Rattle.oz_semantics.specs.Sights.{state_in}
use Rattle.oz_semantics.specs.declared.configuration.Layer.{Layer}
use Rattle.oz_semantics.specs.declared.outcome.State.{State}
use Rattle.stability.specs.Known.{with_names, known, KnownAt}
use Rattle.stability.specs.Places.{from_place}
use Rattle.stability.proofs.PlaceLaws.{rest_at}
use Rattle.stability.proofs.Firsts.{Found, position_here, position_later, found_by_position}

-- The state of a space, by the place of its layer

abbrev state_by_place : List State → Option ℕ → Option State
state_by_place sts at = option_and_then (slice_get sts) at

abbrev has_name : List ℕ → List ℕ × State → Bool
has_name space s = list_eq s.0 space

no_states : (at : Option ℕ) → None ≡ state_by_place [] at
no_states None = refl
no_states (Some n) = refl

later_state : (st : State) (sts : List State) (at : Option ℕ) → state_by_place sts at ≡ state_by_place (st ∷ sts) (option_map (λ n. suc n) at)
later_state st sts None = refl
later_state st sts (Some n) = refl

state_found : (ls : List Layer) (sts : List State) (space : List ℕ) → state_in (with_names ls sts) space ≡ state_by_place sts (position (is_of space) ls)
state_found [] sts space = refl
state_found (l ∷ ls) [] space = no_states (position (is_of space) (l ∷ ls))
state_found (l ∷ ls) (st ∷ sts) space = by (list_eq l.space space) refl (state_found ls sts space)
  where
    by : (b : Bool) → list_eq l.space space ≡ b → state_in (with_names ls sts) space ≡ state_by_place sts (position (is_of space) ls)
        → state_in (with_names (l ∷ ls) (st ∷ sts)) space ≡ state_by_place (st ∷ sts) (position (is_of space) (l ∷ ls))
    by true e rest =
        ap (λ (b : Bool). option_map (λ (s : List ℕ × State). s.1) (cond b (Some (l.space, st)) (find (has_name space) (with_names ls sts)))) e
        ∙ sym (ap (state_by_place (st ∷ sts)) (position_here (is_of space) l ls e))
    by false e rest =
        ap (λ (b : Bool). option_map (λ (s : List ℕ × State). s.1) (cond b (Some (l.space, st)) (find (has_name space) (with_names ls sts)))) e
        ∙ rest ∙ later_state st sts (position (is_of space) ls)
        ∙ sym (ap (state_by_place (st ∷ sts)) (position_later (is_of space) l ls e))

-- From a place on

got_none : {A : Type 0} (m : ℕ) → slice_get {X = A} [] m ≡ None
got_none zero = refl
got_none (suc m) = refl

got_behind : {A : Type 0} (xs : List A) (i n : ℕ) → slice_get (drop i xs) n ≡ slice_get xs (i + n)
got_behind xs zero n = let e : n ≡ 0 + n = omega arith in ap (slice_get xs) e
got_behind [] (suc i) n = got_none n ∙ sym (got_none (suc i + n))
got_behind (x ∷ xs) (suc i) n = let e : suc (i + n) ≡ suc i + n = omega arith in got_behind xs i n ∙ ap (slice_get (x ∷ xs)) e

-- the space stands nowhere from there on
pub known_nowhere : (layers : List Layer) (sts : List State) (space : List ℕ) (from : ℕ) → from ≡ length layers - length sts → from_place (is_of space) layers from ≡ None
    → state_in (known layers sts) space ≡ None
known_nowhere layers sts space from e found =
    state_found (drop (length layers - length sts) layers) sts space
    ∙ ap (λ i. state_by_place sts (position (is_of space) (drop i layers))) (sym e)
    ∙ ap (state_by_place sts) (nowhere_on (position (is_of space) (drop from layers)) found)
  where
    nowhere_on : (at : Option ℕ) → option_map (λ n. from + n) at ≡ None → at ≡ None
    nowhere_on None k = refl
    nowhere_on (Some n) k = cc

some_same : (m n : ℕ) → Some m ≡ Some n → m ≡ n
some_same m n k = cc

named_so : (x l : Layer) → Some x ≡ Some l → l.space ≡ x.space
named_so x l q = cc

-- it stands there
pub known_here : (layers : List Layer) (sts : List State) (space : List ℕ) (from place : ℕ) → from ≡ length layers - length sts → from_place (is_of space) layers from ≡ Some place
    → KnownAt layers sts space place
known_here layers sts space from place e found = by (position (is_of space) (drop from layers)) refl found
  where
    by : (at : Option ℕ) → position (is_of space) (drop from layers) ≡ at → option_map (λ n. from + n) at ≡ Some place → KnownAt layers sts space place
    by None p k = cc
    by (Some n) p k =
        let first = subst (λ at. Found (is_of space) (drop from layers) at) p (found_by_position (is_of space) (drop from layers)) in
        let x = first.0 in
        let here : from + n ≡ place = some_same (from + n) place k in
        let item : slice_get layers place ≡ Some x = ap (slice_get layers) (sym here) ∙ sym (got_behind layers from n) ∙ first.1.item in
        let offset : n ≡ place - (length layers - length sts) = omega (arith, here, e) in record {
          within = slice_get_within layers place x item;
          named = λ l q. named_so x l (sym item ∙ q) ∙ (list_eq-decides x.space space).0 first.1.passes;
          state =
              state_found (drop (length layers - length sts) layers) sts space
              ∙ ap (λ i. state_by_place sts (position (is_of space) (drop i layers))) (sym e)
              ∙ ap (state_by_place sts) p ∙ ap (slice_get sts) offset;
        }

-- what a search for it comes to
pub known_found : (layers : List Layer) (sts : List State) (space : List ℕ) (from : ℕ) (at : Option ℕ) → from ≡ length layers - length sts → at ≡ from_place (is_of space) layers from
    → MatchOption at (state_in (known layers sts) space ≡ None) (KnownAt layers sts space)
known_found layers sts space from None e found = known_nowhere layers sts space from e (sym found)
known_found layers sts space from (Some place) e found = known_here layers sts space from place e (sym found)

-- From the end

pub turned_at : (sts : List State) (place : ℕ) (st : State) → place < length sts → st ≡ get_or sts (length sts - 1 - place) st → Some st ≡ slice_get (reverse sts) place
turned_at sts place st h here = sym (slice_get_read (reverse sts) (length sts) place st (sym (length-reverse sts)) h (here ∙ sym (get_or-reverse sts place st h)))

pub turned_past : (sts : List State) (place : ℕ) → length sts ≤ place → None ≡ slice_get (reverse sts) place
turned_past sts place h = let long : length (reverse sts) ≤ place = omega (arith, length-reverse sts, h) in sym (slice_get_past (reverse sts) place long)

-- One more before those that are known

pub known_more : (layers : List Layer) (sts : List State) (place : ℕ) (l : Layer) (st : State) → length sts + (place + 1) ≡ length layers → slice_get layers place ≡ Some l
    → known layers (st ∷ sts) ≡ (l.space, st) ∷ known layers sts
known_more layers sts place l st e item =
    let one : length (st ∷ sts) ≡ length sts + 1 = sym (add-one (length sts)) in
    let here : length layers - length (st ∷ sts) ≡ place = omega (arith, e, one) in
    let next : place + 1 ≡ length layers - length sts = omega (arith, e) in
    ap (λ i. with_names (drop i layers) (st ∷ sts)) here ∙ ap (λ ls. with_names ls (st ∷ sts)) (rest_at layers place l item)
    ∙ ap (λ i. (l.space, st) ∷ with_names (drop i layers) sts) next

pub none_known : (layers : List Layer) (place : ℕ) → length layers ≤ place → [] ≡ drop place layers
none_known layers place h = sym (drop_all place layers h)

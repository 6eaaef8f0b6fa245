-- What goes by states goes by what threads answer by them.
use Rattle.std.proofs.Common.{◌≡◌, ℕ, suc, ◌+◌, ◌-◌, ◌<◌, ◌≤◌, ◌++◌, ◌||◌, append_assoc, ap₂, add-one, get_or, take, length, Bool, true, false, cond, if◌then◌else◌, List, [], ◌∷◌, map, filter, drop, Option, Some, None, refl, sym, ap, ◌∙◌, arith}
use Rattle.std.specs.Prelude.{slice_get, position, option_map}
use Rattle.std.specs.List.{list_any, flat_map, find, filter_map}
use Rattle.std.proofs.lemmas.List.{take_more, take_all, take-append-drop, map-append, drop_all, append-nil}
use Rattle.std.proofs.lemmas.List.Elements.{filter-append}
use Rattle.oz_base.specs.Lists.{list_eq, first}
use Rattle.oz_base.specs.ListLaws.{list_eq-decides}
use Rattle.oz_base.specs.declared.names.Ident.{Ident}
use Rattle.oz_language.specs.declared.kernel.Statement.{Statement}
use Rattle.oz_semantics.specs.Names.{named}
use Rattle.oz_semantics.specs.Configurations.{is_of, is_open, view, ancestor_variables}
use Rattle.oz_semantics.specs.Sights.{States, state_in, Readiness, can_step, waits_of, offer_of}
use Rattle.oz_semantics.specs.Answers.{Answer}
use Rattle.oz_semantics.specs.Readiness.{answer_ready}
use Rattle.oz_semantics.specs.Spaces.{answer_in, ready_in, readinesses, layers_below, subtree_goes_on, is_held, waits_outside, offer_in, state_by, states_behind, state, goes_on, has_due, undecided_in}
use Rattle.oz_semantics.specs.declared.configuration.Frame.{Frame}
use Rattle.oz_semantics.specs.declared.configuration.Thread.{Thread}
use Rattle.oz_semantics.specs.declared.configuration.Status.{Status}
use Rattle.oz_semantics.specs.declared.configuration.Status.TheVariants as status
use Rattle.oz_semantics.specs.declared.configuration.Layer.{Layer}
use Rattle.oz_semantics.specs.declared.outcome.State.{State}
use Rattle.view_laws.specs.Spaceless.{has_spaces}
use Rattle.view_laws.specs.Trees.{IsTree}
use Rattle.view_laws.proofs.SpacelessLaws.{spaceless_answer, view_spaceless}
use Rattle.view_laws.proofs.BehindLaws.{behind_goes_on}
use Rattle.stability.specs.Known.{with_names, known, Serves, ServesFrom}
use Rattle.stability.specs.Places.{IsFirst}
use Rattle.stability.proofs.Firsts.{position_here, position_later}
use Rattle.stability.proofs.PlaceLaws.{rest_at}
use Rattle.stability.proofs.KnownLaws.{known_more}
use Rattle.stability.proofs.StateLaws.{open_same}

-- where no space is a value, any states serve
pub any_serve : (statements : List Statement) (layers : List Layer) (one other : States) → has_spaces layers ≡ false → Serves statements layers one other
any_serve statements layers one other none space frames =
    spaceless_answer statements layers one space frames (view_spaceless layers space none) ∙ sym (spaceless_answer statements layers other space frames (view_spaceless layers space none))

-- the same states serve
pub same_serve : (statements : List Statement) (layers : List Layer) (one other : States) → one ≡ other → Serves statements layers one other
same_serve statements layers one other e space frames = ap (λ (states : States). answer_in statements layers states space frames) e

-- What threads answer, as a whole

abbrev Answers : Type 0
Answers = List ℕ → List Frame → Answer

module _ (statements : List Statement) (layers : List Layer) (one other : States) (serves : Serves statements layers one other) where
  answers : ◌≡◌ {A = Answers} (answer_in statements layers one) (answer_in statements layers other)
  answers i space frames = serves space frames i

  readies : ◌≡◌ {A = Layer → List Readiness} (readinesses statements layers one) (readinesses statements layers other)
  readies =
      let by : Answers → Layer → List Readiness = λ f l. if is_open l.status then map (λ (t : Thread). answer_ready (f l.space t.frames)) l.threads else [] in
      ap by answers

  pub ready_alike : (space : List ℕ) (t : Thread) → ready_in statements layers one space t ≡ ready_in statements layers other space t
  ready_alike space t = ap answer_ready (serves space t.frames)

  pub goes_alike : (space : List ℕ) → subtree_goes_on statements layers one space ≡ subtree_goes_on statements layers other space
  goes_alike space = ap (λ (r : Layer → List Readiness). list_any (λ (l : Layer). list_any can_step (r l) || has_due (view layers l.space) l) (layers_below layers space)) readies

  pub waits_alike : (space : List ℕ) → waits_outside statements layers one space ≡ waits_outside statements layers other space
  waits_alike space =
      ap (λ (r : Layer → List Readiness). list_any (λ (l : Layer). list_any (is_held (view layers l.space) (ancestor_variables layers space)) (flat_map waits_of (r l) ++ undecided_in (view layers l.space) l)) (layers_below layers space)) readies

  pub offer_alike : (l : Layer) → offer_in statements layers one l ≡ offer_in statements layers other l
  offer_alike l = ap (λ (r : Layer → List Readiness). first (filter_map offer_of (r l))) readies

  pub state_alike : (l : Layer) (st : Status) → state_by statements layers one l st ≡ state_by statements layers other l st
  state_alike l status.Open = open_same statements layers one other l (goes_alike l.space) (waits_alike l.space) (offer_alike l)
  state_alike l status.Failed = refl
  state_alike l (status.Raised x) = refl
  state_alike l status.Merged = refl

  pub able_alike : (l : Layer) → l.status ≡ status.Open
      → map (λ (t : Thread). named l.space t.number) (filter (λ t. can_step (ready_in statements layers one l.space t)) l.threads)
      ≡ (if is_open l.status then map (λ (t : Thread). named l.space t.number) (filter (λ t. can_step (ready_in statements layers other l.space t)) l.threads) else [])
  able_alike l e =
      ap (λ (f : Answers). map (λ (t : Thread). named l.space t.number) (filter (λ (t : Thread). can_step (answer_ready (f l.space t.frames))) l.threads)) answers
      ∙ ap (λ (st : Status). if is_open st then map (λ (t : Thread). named l.space t.number) (filter (λ t. can_step (ready_in statements layers other l.space t)) l.threads) else []) (sym e)

-- The state of a space that is there

some_same : (m n : ℕ) → Some m ≡ Some n → m ≡ n
some_same m n e = cc

same_item : (m l : Layer) → Some m ≡ Some l → m ≡ l
same_item m l e = cc

module _ (statements : List Statement) (layers : List Layer) (space : List ℕ) where
  abbrev state_behind : List Layer → ℕ → Layer → State
  state_behind ls p l = state_by statements layers (states_behind statements layers (drop (p + 1) ls)) l l.status

  abbrev IsState : List Layer → Type 0
  IsState ls = (p : ℕ) (l : Layer) → position (is_of space) ls ≡ Some p → slice_get ls p ≡ Some l → state_in (states_behind statements layers ls) space ≡ Some (state_behind ls p l)

  abbrev found : Layer → List Layer → Bool → Option State
  found m ls b =
      option_map (λ (s : List ℕ × State). s.1)
      (cond b (Some (m.space, state_by statements layers (states_behind statements layers ls) m m.status)) (find (λ (s : List ℕ × State). list_eq s.0 space) (states_behind statements layers ls)))

  first_state : (m : Layer) (ls : List Layer) (p : ℕ) (l : Layer) → 0 ≡ p → slice_get (m ∷ ls) p ≡ Some l → found m ls true ≡ Some (state_behind (m ∷ ls) p l)
  first_state m ls p l here item =
      ap (λ (x : Layer). Some (state_behind (m ∷ ls) 0 x)) (same_item m l (ap (slice_get (m ∷ ls)) here ∙ item)) ∙ ap (λ n. Some (state_behind (m ∷ ls) n l)) here

  later_state : (m : Layer) (ls : List Layer) (p : ℕ) (l : Layer) → IsState ls → (q : Option ℕ) → position (is_of space) ls ≡ q → option_map (λ n. suc n) q ≡ Some p → slice_get (m ∷ ls) p ≡ Some l
      → found m ls false ≡ Some (state_behind (m ∷ ls) p l)
  later_state m ls p l rest None e k item = cc
  later_state m ls p l rest (Some q) e k item =
      let here : suc q ≡ p = some_same (suc q) p k in
      let next : suc (q + 1) ≡ suc q + 1 = omega arith in
      rest q l e (ap (slice_get (m ∷ ls)) here ∙ item)
      ∙ ap (λ n. Some (state_by statements layers (states_behind statements layers (drop n (m ∷ ls))) l l.status)) next
      ∙ ap (λ n. Some (state_behind (m ∷ ls) n l)) here

  state_of : (ls : List Layer) → IsState ls
  state_of [] p l at item = cc
  state_of (m ∷ ls) p l at item = by (list_eq m.space space) refl (state_of ls)
    where
      by : (b : Bool) → list_eq m.space space ≡ b → IsState ls → state_in (states_behind statements layers (m ∷ ls)) space ≡ Some (state_behind (m ∷ ls) p l)
      by true e rest = ap (found m ls) e ∙ first_state m ls p l (some_same 0 p (sym (position_here (is_of space) m ls e) ∙ at)) item
      by false e rest = ap (found m ls) e ∙ later_state m ls p l rest (position (is_of space) ls) refl (sym (position_later (is_of space) m ls e) ∙ at) item

  pub state_there : (p : ℕ) (l : Layer) → IsFirst (is_of space) layers p l → state statements layers space ≡ Some (state_behind layers p l)
  state_there p l h = state_of layers p l h.at h.item

-- One state more before those that are known
pub known_behind : (statements : List Statement) (layers : List Layer) (sts : List State) (place next : ℕ) (l : Layer) (st : State) → next ≡ place + 1 → length sts + next ≡ length layers
    → slice_get layers place ≡ Some l → known layers sts ≡ states_behind statements layers (drop next layers) → st ≡ state_by statements layers (known layers sts) l l.status
    → known layers (st ∷ sts) ≡ states_behind statements layers (drop place layers)
known_behind statements layers sts place next l st n e item so is =
    let behind : known layers sts ≡ states_behind statements layers (drop (place + 1) layers) = so ∙ ap (λ i. states_behind statements layers (drop i layers)) n in
    known_more layers sts place l st (ap (λ i. length sts + i) (sym n) ∙ e) item
    ∙ ap (λ s. (l.space, s) ∷ known layers sts) is
    ∙ ap (λ (states : States). (l.space, state_by statements layers states l l.status) ∷ states) behind
    ∙ ap (states_behind statements layers) (sym (rest_at layers place l item))

-- The threads that can step, one by one
pub able_more : (p : Thread → Bool) (name : Thread → Ident) (ts : List Thread) (i : ℕ) (t : Thread) → i < length ts → t ≡ get_or ts i t → (b : Bool) → b ≡ p t
    → map name (filter p (take (i + 1) ts)) ≡ map name (filter p (take i ts)) ++ (if b then name t ∷ [] else [])
able_more p name ts i t h here b e =
    ap (λ xs. map name (filter p xs)) (take_more ts i t h ∙ ap (λ (y : Thread). take i ts ++ y ∷ []) (sym here))
    ∙ ap (map name) (filter-append p (take i ts) (t ∷ [])) ∙ map-append name (filter p (take i ts)) (filter p (t ∷ []))
    ∙ ap (λ xs. map name (filter p (take i ts)) ++ xs) (by b e)
  where
    by : (b : Bool) → b ≡ p t → map name (cond (p t) (t ∷ []) []) ≡ (if b then name t ∷ [] else [])
    by true e = ap (λ c. map name (cond c (t ∷ []) [])) (sym e)
    by false e = ap (λ c. map name (cond c (t ∷ []) [])) (sym e)

-- none is known at first
pub none_known : (statements : List Statement) (layers : List Layer) (sts : List State) (place : ℕ) → sts ≡ [] → place ≡ length layers → known layers sts ≡ states_behind statements layers (drop place layers)
none_known statements layers sts place e h =
    ap (known layers) e ∙ no_names (drop (length layers - length {A = State} []) layers) ∙ ap (states_behind statements layers) (sym (drop_all place layers (omega (arith, h))))
  where
    no_names : (ls : List Layer) → with_names ls [] ≡ []
    no_names [] = refl
    no_names (l ∷ ls) = refl

pub one_counted : (sts new : List State) (st : State) (place n : ℕ) → new ≡ st ∷ sts → 0 < place → length sts + place ≡ n → length new + (place - 1) ≡ n
one_counted sts new st place n e h k =
    let longer : length new ≡ length sts + 1 = ap (λ (xs : List State). length xs) e ∙ sym (add-one (length sts)) in
    omega (arith, longer, k, h)

-- the names of threads of a space
abbrev names : List ℕ → List Thread → List Ident
names space ts = map (λ (t : Thread). named space t.number) ts

module _ (p : Thread → Bool) (space : List ℕ) (ts : List Thread) (i : ℕ) where
  pub able_joins : (t : Thread) → i < length ts → t ≡ get_or ts i t → (begun old new : List Ident) (s : List ℕ) → old ≡ begun ++ names space (filter p (take i ts))
      → new ≡ old ++ named s t.number ∷ [] → s ≡ space → true ≡ p t → new ≡ begun ++ names space (filter p (take (i + 1) ts))
  able_joins t h here begun old new s o n same e =
      n ∙ ap₂ (λ (xs : List Ident) (s : List ℕ). xs ++ named s t.number ∷ []) o same ∙ append_assoc begun (names space (filter p (take i ts))) (named space t.number ∷ [])
      ∙ ap (λ xs. begun ++ xs) (sym (able_more p (λ (t : Thread). named space t.number) ts i t h here true e))

  pub able_stays : (t : Thread) → i < length ts → t ≡ get_or ts i t → (begun old : List Ident) → old ≡ begun ++ names space (filter p (take i ts)) → false ≡ p t
      → old ≡ begun ++ names space (filter p (take (i + 1) ts))
  able_stays t h here begun old o e =
      o ∙ ap (λ xs. begun ++ xs) (sym (append-nil (names space (filter p (take i ts)))) ∙ sym (able_more p (λ (t : Thread). named space t.number) ts i t h here false e))

  pub able_all : (begun old : List Ident) → length ts ≤ i → old ≡ begun ++ names space (filter p (take i ts)) → old ≡ begun ++ names space (filter p ts)
  able_all begun old h o = o ∙ ap (λ xs. begun ++ names space (filter p xs)) (take_all i ts h)

-- Of a space that is there, by the states of those behind it

split_at : (layers : List Layer) (p : ℕ) (l : Layer) → slice_get layers p ≡ Some l → layers ≡ take p layers ++ l ∷ drop (p + 1) layers
split_at layers p l item = sym (take-append-drop p layers) ∙ ap (λ ls. take p layers ++ ls) (rest_at layers p l item)

pub goes_there : (statements : List Statement) (layers : List Layer) (space : List ℕ) (p next : ℕ) (l : Layer) (sts : List State) → IsTree layers → IsFirst (is_of space) layers p l → next ≡ p + 1
    → ServesFrom statements layers next sts → subtree_goes_on statements layers (known layers sts) l.space ≡ goes_on statements layers space
goes_there statements layers space p next l sts tree h n serves =
    goes_alike statements layers (known layers sts) (states_behind statements layers (drop next layers)) serves l.space
    ∙ ap (λ i. subtree_goes_on statements layers (states_behind statements layers (drop i layers)) l.space) n
    ∙ behind_goes_on statements layers (take p layers) (drop (p + 1) layers) l (split_at layers p l h.item) tree.ordered
    ∙ ap (goes_on statements layers) ((list_eq-decides l.space space).0 h.passes)

pub state_now : (statements : List Statement) (layers : List Layer) (space : List ℕ) (p next : ℕ) (l : Layer) (sts : List State) → IsFirst (is_of space) layers p l → next ≡ p + 1
    → ServesFrom statements layers next sts → (st : State) → st ≡ state_by statements layers (known layers sts) l l.status → Some st ≡ state statements layers space
state_now statements layers space p next l sts h n serves st e =
    ap (λ s. Some s)
    (e ∙ state_alike statements layers (known layers sts) (states_behind statements layers (drop next layers)) serves l l.status
    ∙ ap (λ i. state_by statements layers (states_behind statements layers (drop i layers)) l l.status) n)
    ∙ sym (state_there statements layers space p l h)

-- and of one that is not there
pub no_state : (statements : List Statement) (layers : List Layer) (space : List ℕ) (ls : List Layer) → find (is_of space) ls ≡ None → None ≡ state_in (states_behind statements layers ls) space
no_state statements layers space [] e = refl
no_state statements layers space (m ∷ ls) e = by (list_eq m.space space) refl e (no_state statements layers space ls)
  where
    by : (b : Bool) → list_eq m.space space ≡ b → cond b (Some m) (find (is_of space) ls) ≡ None → (find (is_of space) ls ≡ None → None ≡ state_in (states_behind statements layers ls) space)
        → None ≡ state_in (states_behind statements layers (m ∷ ls)) space
    by true k f rest = cc
    by false k f rest = rest f ∙ sym (ap (found statements layers space m ls) k)

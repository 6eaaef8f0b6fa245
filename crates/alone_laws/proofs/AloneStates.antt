-- That threads and spaces below a space are in the same state where the space is alone.
use Rattle.std.proofs.Common.{◌≡◌, inl, inr, ℕ, Bool, true, false, not, ◌&&◌, ◌||◌, if◌then◌else◌, List, [], ◌∷◌, ◌++◌, filter, map, flat_map, filter_map, refl, sym, ap, ap₂, subst, ◌∙◌, Option, Some}
use Rattle.std.specs.List.{list_any}
use Rattle.oz_base.specs.Lists.{list_eq, first}
use Rattle.oz_base.specs.declared.names.Ident.{Ident}
use Rattle.oz_language.specs.declared.kernel.Statement.{Statement}
use Rattle.oz_semantics.specs.Names.{is_below, parent_of, is_child_of, named}
use Rattle.oz_semantics.specs.Store.{View}
use Rattle.oz_semantics.specs.Configurations.{is_open, view, ancestor_variables}
use Rattle.oz_semantics.specs.Sights.{Sight, States, state_in, Readiness, can_step, waits_of, offer_of}
use Rattle.oz_semantics.specs.Readiness.{answer_ready}
use Rattle.oz_semantics.specs.Operations.{with_state, operated, by_state}
use Rattle.oz_semantics.specs.Statements.{stack_answer}
use Rattle.oz_semantics.specs.Spaces.{answer_in, ready_in, readinesses, layer_goes_on, waited_in, layers_below, subtree_goes_on, is_held, has_due, undecided_in, is_left, layer_waits, waits_outside, alike_on, is_stable, stable_state, open_state, state_by, states_behind, states_of, goes_on}
use Rattle.oz_semantics.specs.Settling.{runnable_in}
use Rattle.oz_semantics.specs.declared.configuration.Frame.{Frame}
use Rattle.oz_semantics.specs.declared.configuration.Layer.{Layer}
use Rattle.oz_semantics.specs.declared.configuration.Status.{Status}
use Rattle.oz_semantics.specs.declared.configuration.Status.TheVariants as status
use Rattle.oz_semantics.specs.declared.configuration.Thread.{Thread}
use Rattle.oz_semantics.specs.declared.outcome.State.{State}
use Rattle.oz_semantics.specs.declared.outcome.State.TheVariants as states
use Rattle.view_laws.proofs.Members.{not_both, or_left, or_right}
use Rattle.view_laws.proofs.NameLaws.{below_itself, below_trans, equal_names, above_parent}
use Rattle.view_laws.proofs.AnswerLaws.{stack_holds}
use Rattle.alone_laws.specs.Alone.{is_kept, quieted, alone_layers}
use Rattle.alone_laws.proofs.Lists.{any_filtered}
use Rattle.alone_laws.proofs.OutsideLaws.{child_below}
use Rattle.alone_laws.proofs.AloneLaws.{comparable, own_first, kept_first, not_kept_first, own_filtered, own_view, kept_view, kept_variables, quieted_is, quieted_space}

pub parent_above : (u : List ℕ) → is_below (parent_of u) u ≡ true
parent_above u = by (list_eq (parent_of u) u) refl
  where
    by : (b : Bool) → list_eq (parent_of u) u ≡ b → is_below (parent_of u) u ≡ true
    by true k = subst (λ v. is_below (parent_of u) v ≡ true) (equal_names (parent_of u) u k) (below_itself (parent_of u))
    by false k = above_parent (parent_of u) u k ∙ below_itself (parent_of u)

-- By states that agree on the spaces in a thread's own, which see the same, it answers the same
pub answers_same : (s : Sight) (one other : List Layer) (known later : States) → ((c : List ℕ) → is_child_of s.space c ≡ true → (state_in known c ≡ state_in later c) × (view one c ≡ view other c))
    → (frames : List Frame) → by_state one s known (stack_answer s frames) ≡ by_state other s later (stack_answer s frames)
answers_same s one other known later same frames =
    stack_holds s (λ a. by_state one s known a ≡ by_state other s later a) (λ act. refl) (λ procedure x. refl) (λ kind. refl) (λ x. refl) (λ ts. refl) (λ ready. refl)
    (λ op c x y told below. let e = same c below in ap₂ (λ (o : Option State) (inner : View). with_state o (operated s inner op c x)) e.0 e.1) frames

module _ (statements : List Statement) (s : List ℕ) (layers : List Layer) where
  abbrev part : List Layer
  part = alone_layers s layers

  -- the same states of the spaces below it
  abbrev AgreeStates : States → States → Type 0
  AgreeStates one other = (c : List ℕ) → is_below s c ≡ true → state_in one c ≡ state_in other c

  abbrev sees : List ℕ → View → Sight
  sees u v = record { statements = statements; space = u; view = v }

  -- what a thread of a space that is below it answers
  pub answer_same : (one other : States) → AgreeStates one other → (u : List ℕ) → is_below s u ≡ true → (frames : List Frame) → answer_in statements part one u frames ≡ answer_in statements layers other u frames
  answer_same one other a u e frames =
      ap (λ v. by_state part (sees u v) one (stack_answer (sees u v) frames)) (own_view s u e layers)
      ∙ answers_same (sees u (view layers u)) part layers one other (λ c k. let inside = below_trans s u c e (child_below u c k) in (a c inside, own_view s c inside layers)) frames

  pub thread_same : (one other : States) → AgreeStates one other → (u : List ℕ) → is_below s u ≡ true → (t : Thread) → ready_in statements part one u t ≡ ready_in statements layers other u t
  thread_same one other a u e t = ap answer_ready (answer_same one other a u e t.frames)

  ready_same : (one other : States) → AgreeStates one other → (l : Layer) → is_below s l.space ≡ true → readinesses statements part one l ≡ readinesses statements layers other l
  ready_same one other a l e = ap (λ (f : Thread → Readiness). if is_open l.status then map f l.threads else []) (λ i t. thread_same one other a l.space e t i)

  goes_same : (one other : States) → AgreeStates one other → (l : Layer) → is_below s l.space ≡ true → layer_goes_on statements part one l ≡ layer_goes_on statements layers other l
  goes_same one other a l e =
      ap₂ (λ (rs : List Readiness) (v : View). list_any can_step rs || has_due v l) (ready_same one other a l e) (own_view s l.space e layers)

  below_same : (u : List ℕ) → is_below s u ≡ true → layers_below part u ≡ layers_below layers u
  below_same u e = own_filtered s (λ (l : Layer). is_below u l.space) (λ l k. below_trans s u l.space e k) (quieted_is s (λ (l : Layer). is_below u l.space) (λ l. refl)) layers

  pub subtree_same : (one other : States) → AgreeStates one other → (u : List ℕ) → is_below s u ≡ true → subtree_goes_on statements part one u ≡ subtree_goes_on statements layers other u
  subtree_same one other a u e =
      ap (list_any (layer_goes_on statements part one)) (below_same u e)
      ∙ any_filtered (λ (l : Layer). is_below u l.space) (layer_goes_on statements part one) (layer_goes_on statements layers other) (λ l k. goes_same one other a l (below_trans s u l.space e k)) layers

  waits_same : (one other : States) → AgreeStates one other → (held : List Ident) (l : Layer) → is_below s l.space ≡ true → layer_waits statements part one held l ≡ layer_waits statements layers other held l
  waits_same one other a held l e =
      ap₂ (λ (rs : List Readiness) (v : View). list_any (is_held v held) (flat_map waits_of rs ++ undecided_in v l)) (ready_same one other a l e) (own_view s l.space e layers)

  own_variables : (u : List ℕ) → is_below s u ≡ true → ancestor_variables part u ≡ ancestor_variables layers u
  own_variables u e = kept_variables s u (or_right (is_below u s) _ e) layers

  outside_same : (one other : States) → AgreeStates one other → (u : List ℕ) → is_below s u ≡ true → waits_outside statements part one u ≡ waits_outside statements layers other u
  outside_same one other a u e =
      ap₂ (λ (held : List Ident) (ls : List Layer). list_any (layer_waits statements part one held) ls) (own_variables u e) (below_same u e)
      ∙ any_filtered (λ (l : Layer). is_below u l.space) (layer_waits statements part one (ancestor_variables layers u)) (layer_waits statements layers other (ancestor_variables layers u))
      (λ l k. waits_same one other a (ancestor_variables layers u) l (below_trans s u l.space e k)) layers

  parent_kept : (u : List ℕ) → is_below s u ≡ true → (is_below (parent_of u) s || is_below s (parent_of u)) ≡ true
  parent_kept u e = elim (comparable s (parent_of u) u e (parent_above u)) [ inl k ↦ or_right (is_below (parent_of u) s) _ k | inr k ↦ or_left _ _ k ]

  abbrev stable_by : Bool → Bool → List Ident → View → View → Bool
  stable_by b w xs v p = not b && not w && alike_on xs v p

  stable_same : (one other : States) → AgreeStates one other → (u : List ℕ) → is_below s u ≡ true → is_stable statements part one u ≡ is_stable statements layers other u
  stable_same one other a u e =
      ap (λ b. stable_by b (waits_outside statements part one u) (ancestor_variables part u) (view part u) (view part (parent_of u))) (subtree_same one other a u e)
      ∙ ap (λ w. stable_by (subtree_goes_on statements layers other u) w (ancestor_variables part u) (view part u) (view part (parent_of u))) (outside_same one other a u e)
      ∙ ap (λ xs. stable_by (subtree_goes_on statements layers other u) (waits_outside statements layers other u) xs (view part u) (view part (parent_of u))) (own_variables u e)
      ∙ ap (λ v. stable_by (subtree_goes_on statements layers other u) (waits_outside statements layers other u) (ancestor_variables layers u) v (view part (parent_of u))) (own_view s u e layers)
      ∙ ap (λ p. stable_by (subtree_goes_on statements layers other u) (waits_outside statements layers other u) (ancestor_variables layers u) (view layers u) p) (kept_view s (parent_of u) (parent_kept u e) layers)

  abbrev open_by : Bool → Bool → Bool → List Readiness → State
  open_by b c left rs = if b then states.Running else (if c then stable_state (first (filter_map offer_of rs)) left else states.Suspended)

  open_same : (one other : States) → AgreeStates one other → (l : Layer) → is_below s l.space ≡ true → open_state statements part one l ≡ open_state statements layers other l
  open_same one other a l e =
      ap (λ b. open_by b (is_stable statements part one l.space) (is_left (view part l.space) l) (readinesses statements part one l)) (subtree_same one other a l.space e)
      ∙ ap (λ c. open_by (subtree_goes_on statements layers other l.space) c (is_left (view part l.space) l) (readinesses statements part one l)) (stable_same one other a l.space e)
      ∙ ap (λ v. open_by (subtree_goes_on statements layers other l.space) (is_stable statements layers other l.space) (is_left v l) (readinesses statements part one l)) (own_view s l.space e layers)
      ∙ ap (λ rs. open_by (subtree_goes_on statements layers other l.space) (is_stable statements layers other l.space) (is_left (view layers l.space) l) rs) (ready_same one other a l e)

  state_same : (one other : States) → AgreeStates one other → (l : Layer) → is_below s l.space ≡ true → (st : Status) → state_by statements part one l st ≡ state_by statements layers other l st
  state_same one other a l e status.Open = open_same one other a l e
  state_same one other a l e status.Failed = refl
  state_same one other a l e (status.Raised x) = refl
  state_same one other a l e status.Merged = refl

  not_named : (l : Layer) (c : List ℕ) → is_below s l.space ≡ false → is_below s c ≡ true → list_eq l.space c ≡ false
  not_named l c e f = by (list_eq l.space c) refl
    where
      by : (b : Bool) → list_eq l.space c ≡ b → list_eq l.space c ≡ false
      by true k = absurd (not_both _ (subst (λ u. is_below s u ≡ true) (sym (equal_names l.space c k)) f) e)
      by false k = k

  -- the state of the first space, or that of a later one
  head_state : (b : Bool) (u : List ℕ) (one other : State) (rest more : States) (c : List ℕ) → list_eq u c ≡ b → one ≡ other → state_in rest c ≡ state_in more c
      → state_in ((u, one) ∷ rest) c ≡ state_in ((u, other) ∷ more) c
  head_state true u one other rest more c k e f = rw k (ap Some e)
  head_state false u one other rest more c k e f = rw k f

  behind_same : (ls : List Layer) → AgreeStates (states_behind statements part (alone_layers s ls)) (states_behind statements layers ls)
  behind_same [] c e = refl
  behind_same (l ∷ ls) c e = by (is_below s l.space) (is_kept s l) refl refl (behind_same ls)
    where
      by : (b d : Bool) → is_below s l.space ≡ b → is_kept s l ≡ d → AgreeStates (states_behind statements part (alone_layers s ls)) (states_behind statements layers ls)
          → state_in (states_behind statements part (alone_layers s (l ∷ ls))) c ≡ state_in (states_behind statements layers (l ∷ ls)) c
      by true d i j a =
          ap (λ ms. state_in (states_behind statements part ms) c) (own_first s l ls i)
          ∙ head_state (list_eq l.space c) l.space _ _ (states_behind statements part (alone_layers s ls)) (states_behind statements layers ls) c refl (state_same (states_behind statements part (alone_layers s ls)) (states_behind statements layers ls) a l i l.status) (a c e)
      by false true i j a =
          let one : state_in (states_behind statements part (quieted s l ∷ alone_layers s ls)) c ≡ state_in (states_behind statements part (alone_layers s ls)) c = rw (ap (λ v. list_eq v c) (quieted_space s l) ∙ not_named l c i e) refl in
          let other : state_in (states_behind statements layers (l ∷ ls)) c ≡ state_in (states_behind statements layers ls) c = rw (not_named l c i e) refl in
          ap (λ ms. state_in (states_behind statements part ms) c) (kept_first s l ls j) ∙ one ∙ a c e ∙ sym other
      by false false i j a =
          let other : state_in (states_behind statements layers (l ∷ ls)) c ≡ state_in (states_behind statements layers ls) c = rw (not_named l c i e) refl in
          ap (λ ms. state_in (states_behind statements part ms) c) (not_kept_first s l ls j) ∙ a c e ∙ sym other

  pub states_same : AgreeStates (states_of statements part) (states_of statements layers)
  states_same = behind_same layers

  -- what the threads of such a layer wait for, and which of them can step
  pub waited_same : (l : Layer) → is_below s l.space ≡ true → waited_in statements part (states_of statements part) l ≡ waited_in statements layers (states_of statements layers) l
  waited_same l e = ap (flat_map waits_of) (ready_same (states_of statements part) (states_of statements layers) states_same l e)

  pub runnable_same : (l : Layer) → is_below s l.space ≡ true → runnable_in statements part l ≡ runnable_in statements layers l
  runnable_same l e =
      ap (λ (ready : Thread → Readiness). if is_open l.status then map (λ (t : Thread). named l.space t.number) (filter (λ t. can_step (ready t)) l.threads) else [])
      (λ i t. thread_same (states_of statements part) (states_of statements layers) states_same l.space e t i)

  -- something of it or below it can step
  pub goes_on_same : goes_on statements part s ≡ goes_on statements layers s
  goes_on_same = subtree_same (states_of statements part) (states_of statements layers) states_same s (below_itself s)

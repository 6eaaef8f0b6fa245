-- Where the layers that are not below a space are the same, and the space is there and was not merged, triggers that are not below it are needed alike.
use Rattle.std.proofs.Common.{◌≡◌, inl, inr, ℕ, Bool, true, false, not, cond, if◌then◌else◌, List, [], ◌∷◌, refl, sym, ap, subst, ◌∙◌, Option, Some, None, filter, map, flat_map}
use Rattle.std.specs.Prelude.{option_map}
use Rattle.std.specs.List.{find}
use Rattle.oz_base.specs.Lists.{list_eq, holds_of}
use Rattle.oz_language.specs.declared.kernel.Statement.{Statement}
use Rattle.oz_semantics.specs.Names.{is_below, is_top, parent_of, is_child_of}
use Rattle.oz_semantics.specs.Configurations.{is_open, layer_at, view}
use Rattle.oz_semantics.specs.Sights.{States, state_in, Offer, Readiness, waits_of}
use Rattle.oz_semantics.specs.Spaces.{ready_in, subtree_goes_on, is_stable, offer_in, is_left, stable_state, state_by, states_behind, states_of, waited_in}
use Rattle.oz_semantics.specs.Triggers.{has_needed}
use Rattle.oz_semantics.specs.declared.configuration.Thread.{Thread}
use Rattle.oz_semantics.specs.declared.configuration.Status.{Status}
use Rattle.oz_semantics.specs.declared.configuration.Status.TheVariants as status
use Rattle.oz_semantics.specs.declared.configuration.Layer.{Layer}
use Rattle.oz_semantics.specs.declared.outcome.State.{State}
use Rattle.oz_semantics.specs.declared.outcome.State.TheVariants as states
use Rattle.oz_laws.proofs.SameLaws.{and-right}
use Rattle.view_laws.proofs.Members.{decide, not_both}
use Rattle.view_laws.proofs.NameLaws.{equal_names, above_parent}
use Rattle.view_laws.proofs.BehindLaws.{AgreeOnChildren, ready_agrees}
use Rattle.need_laws.proofs.StateLaws.{is_live, found_live, AreLive, layer_waits}
use Rattle.need_laws.proofs.RoundLaws.{needed_same}
use Rattle.settle_laws.proofs.ListEdits.{find_filter}
use Rattle.inside_laws.specs.Outside.{outside}
use Rattle.inside_laws.proofs.OwnLaws.{view_outside, layer_outside}

-- Which spaces are there and were not merged

abbrev pub was_left : Status → Bool
was_left status.Open = true
was_left status.Failed = true
was_left (status.Raised x) = true
was_left status.Merged = false

abbrev pub left_at : List Layer → List ℕ → Bool
left_at layers space = holds_of (λ (l : Layer). was_left l.status) (layer_at layers space)

stable_live : (o : Option Offer) (left : Bool) → is_live (stable_state o left) ≡ true
stable_live (Some offer) left = refl
stable_live None true = refl
stable_live None false = refl

open_live : (goes stable : Bool) (o : Option Offer) (left : Bool) → is_live (if goes then states.Running else (if stable then stable_state o left else states.Suspended)) ≡ true
open_live true stable o left = refl
open_live false true o left = stable_live o left
open_live false false o left = refl

status_live : (statements : List Statement) (layers : List Layer) (known : States) (l : Layer) (st : Status) → is_live (state_by statements layers known l st) ≡ was_left st
status_live statements layers known l status.Open =
    open_live (subtree_goes_on statements layers known l.space) (is_stable statements layers known l.space) (offer_in statements layers known l) (is_left (view layers l.space) l)
status_live statements layers known l status.Failed = refl
status_live statements layers known l (status.Raised x) = refl
status_live statements layers known l status.Merged = refl

abbrev is_named : List ℕ → List ℕ × State → Bool
is_named space s = list_eq s.0 space

found_left : (statements : List Statement) (layers ls : List Layer) (space : List ℕ) → found_live (state_in (states_behind statements layers ls) space) ≡ left_at ls space
found_left statements layers [] space = refl
found_left statements layers (l ∷ ls) space = by (states_behind statements layers ls) (list_eq l.space space) (found_left statements layers ls space)
  where
    by : (rest : States) (b : Bool) → found_live (state_in rest space) ≡ left_at ls space
        → found_live (option_map (λ (s : List ℕ × State). s.1) (cond b (Some (l.space, state_by statements layers rest l l.status)) (find (is_named space) rest)))
        ≡ holds_of (λ (m : Layer). was_left m.status) (cond b (Some l) (layer_at ls space))
    by rest true e = status_live statements layers rest l l.status
    by rest false e = e

-- The states of the children of a space

abbrev is_child_state : List ℕ → List ℕ × State → Bool
is_child_state space s = is_child_of space s.0

abbrev of_children : List ℕ → States → States
of_children space known = filter (is_child_state space) known

-- a child's state is that of all
child_state : (space child : List ℕ) → is_child_of space child ≡ true → (known : States) → state_in (of_children space known) child ≡ state_in known child
child_state space child below known =
    ap (λ (o : Option (List ℕ × State)). option_map (λ (s : List ℕ × State). s.1) o)
    (find_filter (is_named child) (is_child_state space) (λ s e. ap (is_child_of space) (equal_names s.0 child e) ∙ below) known)

-- and another space has none
other_state : (space other : List ℕ) → is_child_of space other ≡ false → (known : States) → state_in (of_children space known) other ≡ None
other_state space other apart [] = refl
other_state space other apart (s ∷ ss) = by (is_child_of space s.0) refl (other_state space other apart ss)
  where
    not_named : is_child_of space s.0 ≡ true → list_eq s.0 other ≡ false
    not_named e = elim (decide (list_eq s.0 other)) [
      | inl k ↦ absurd (not_both _ e (ap (is_child_of space) (equal_names s.0 other k) ∙ apart))
      | inr k ↦ k
    ]

    by : (b : Bool) → is_child_of space s.0 ≡ b → state_in (of_children space ss) other ≡ None → state_in (cond b (s ∷ of_children space ss) (of_children space ss)) other ≡ None
    by true e rest = ap (λ (b : Bool). option_map (λ (r : List ℕ × State). r.1) (cond b (Some s) (find (is_named other) (of_children space ss)))) (not_named e) ∙ rest
    by false e rest = rest

-- so the threads of a layer wait for the same by the states of the children alone
children_wait : (statements : List Statement) (layers : List Layer) (known : States) (l : Layer) → waited_in statements layers (of_children l.space known) l ≡ waited_in statements layers known l
children_wait statements layers known l =
    ap (λ (f : Thread → Readiness). flat_map waits_of (if is_open l.status then map f l.threads else [])) each
  where
    agree : AgreeOnChildren (of_children l.space known) known l.space
    agree child below = child_state l.space child below known

    each : ◌≡◌ {A = Thread → Readiness} (ready_in statements layers (of_children l.space known) l.space) (ready_in statements layers known l.space)
    each = λ i t. ready_agrees statements layers (of_children l.space known) known l.space agree t i

-- Two lists of layers in which those are the same that are not below the space, which is there in both and was not merged
module _ (statements : List Statement) (t : List ℕ) (before layers : List Layer) (same : outside t layers ≡ outside t before) (one : left_at before t ≡ true) (other : left_at layers t ≡ true) where
  child_left : (u child : List ℕ) → is_below t u ≡ false → is_child_of u child ≡ true → left_at layers child ≡ left_at before child
  child_left u child apart e = elim (decide (is_below t child)) [
    | inr k ↦ ap (holds_of (λ (l : Layer). was_left l.status)) (layer_outside t child k layers before same)
    | inl k ↦ elim (decide (list_eq t child)) [
      | inl q ↦ subst (λ s. left_at layers s ≡ left_at before s) (equal_names t child q) (other ∙ sym one)
      | inr q ↦ absurd (not_both _ k (above_parent t child q ∙ ap (is_below t) (equal_names (parent_of child) u (and-right (not (is_top child)) _ e)) ∙ apart))
    ]
  ]

  children_live : (u : List ℕ) → is_below t u ≡ false → AreLive (of_children u (states_of statements before)) (of_children u (states_of statements layers))
  children_live u apart space = elim (decide (is_child_of u space)) [
    | inl k ↦ (ap found_live (child_state u space k (states_of statements before)) ∙ found_left statements before before space ∙ sym (child_left u space apart k)
        ∙ sym (found_left statements layers layers space) ∙ sym (ap found_live (child_state u space k (states_of statements layers))))
    | inr k ↦ (ap found_live (other_state u space k (states_of statements before)) ∙ sym (ap found_live (other_state u space k (states_of statements layers))))
  ]

  waits_alike : (l : Layer) → is_below t l.space ≡ false → waited_in statements layers (states_of statements layers) l ≡ waited_in statements before (states_of statements before) l
  waits_alike l apart =
      sym (children_wait statements layers (states_of statements layers) l)
      ∙ layer_waits statements before layers (of_children l.space (states_of statements before)) (of_children l.space (states_of statements layers)) l (view_outside t l.space apart layers before same)
      (children_live l.space apart)
      ∙ children_wait statements before (states_of statements before) l

  pub needed_alike : (l : Layer) → is_below t l.space ≡ false → has_needed statements layers l ≡ has_needed statements before l
  needed_alike l apart = needed_same statements before layers l (view_outside t l.space apart layers before same) (waits_alike l apart)

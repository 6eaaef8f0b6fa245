-- What a thread waits for owes to a child's state only whether the child is there and was not merged.
use Rattle.std.proofs.Common.{◌≡◌, ◌⊎◌, inl, inr, ℕ, ℤ, Bool, true, false, if◌then◌else◌, cond, List, [], ◌∷◌, map, flat_map, refl, sym, ap, ◌∙◌, Option, Some, None}
use Rattle.std.specs.Prelude.{pos, negsuc, nat_le, ◌&&◌, option_map}
use Rattle.std.specs.List.{list_any, find}
use Rattle.std.proofs.lemmas.Bool.{false≢true}
use Rattle.std.proofs.lemmas.List.Folds.{list_any-append}
use Rattle.oz_base.specs.Lists.{list_eq, holds_of}
use Rattle.oz_base.specs.declared.names.Ident.{Ident}
use Rattle.oz_language.specs.declared.kernel.Statement.{Statement}
use Rattle.oz_semantics.specs.Names.{is_child_of}
use Rattle.oz_semantics.specs.Values.{integer_in, is_procedure}
use Rattle.oz_semantics.specs.Store.{View, value_of}
use Rattle.oz_semantics.specs.Configurations.{layer_at, is_open, view}
use Rattle.oz_semantics.specs.Sights.{Sight, States, state_in, Offer, waits_of}
use Rattle.oz_semantics.specs.Answers.{Edit, Commits, Copies, TakesIn, Answer, Acts, Edits, RaisesKind, Operates, given, of_kind}
use Rattle.oz_semantics.specs.Operations.{once_decided, unless_merged, unless_ended, alternative_of, committed_in, injected_in, injects, operated, with_state, by_state}
use Rattle.oz_semantics.specs.Statements.{stack_answer}
use Rattle.oz_semantics.specs.Readiness.{answer_ready}
use Rattle.oz_semantics.specs.Spaces.{ready_in, subtree_goes_on, is_stable, offer_in, is_left, stable_state, state_by, states_behind, waited_in}
use Rattle.oz_semantics.specs.declared.value.SpaceOperation.{SpaceOperation}
use Rattle.oz_semantics.specs.declared.value.SpaceOperation.TheVariants as spaces
use Rattle.oz_semantics.specs.declared.value.Value.{Value}
use Rattle.oz_semantics.specs.declared.configuration.Frame.{Frame}
use Rattle.oz_semantics.specs.declared.configuration.Thread.{Thread}
use Rattle.oz_semantics.specs.declared.configuration.Status.{Status}
use Rattle.oz_semantics.specs.declared.configuration.Status.TheVariants as status
use Rattle.oz_semantics.specs.declared.configuration.Layer.{Layer}
use Rattle.oz_semantics.specs.declared.outcome.RaiseKind.TheVariants as raise
use Rattle.oz_semantics.specs.declared.outcome.State.{State}
use Rattle.oz_semantics.specs.declared.outcome.State.TheVariants as states
use Rattle.view_laws.proofs.Members.{or_cases, or_left, or_right}
use Rattle.view_laws.proofs.AnswerLaws.{stack_holds}
use Rattle.need_laws.proofs.StateLaws.{is_live, found_live}

-- An operation on a space

abbrev waits : Answer → List Ident
waits a = waits_of (answer_ready a)

abbrev waits_for : Ident → Option Value → List Ident
waits_for x None = x ∷ []
waits_for x (Some v) = []

either_waits : (b : Bool) (one other : Answer) → waits one ≡ [] → waits other ≡ [] → waits (if b then one else other) ≡ []
either_waits true one other e f = e
either_waits false one other e f = f

given_waits : (x : Ident) (o : Option Value) (go : Value → Answer) → ((v : Value) → waits (go v) ≡ []) → waits (given x o go) ≡ waits_for x o
given_waits x None go h = refl
given_waits x (Some v) go h = h v

kind_waits : (o : Option ℤ) (go : ℤ → Answer) → ((i : ℤ) → waits (go i) ≡ []) → waits (of_kind o go) ≡ []
kind_waits None go h = refl
kind_waits (Some i) go h = h i

decided_waits : (st : State) (one other : Answer) → waits one ≡ [] → waits other ≡ [] → waits (once_decided st one other) ≡ []
decided_waits states.Running one other e f = e
decided_waits states.Suspended one other e f = e
decided_waits st one other e f = f

unended_waits : (st : State) (edit : Edit) → waits (unless_ended st edit) ≡ []
unended_waits states.Failed edit = refl
unended_waits st edit = refl

alternative_waits : (space : List ℕ) (n : ℕ) (i : ℤ) → waits (alternative_of space n i) ≡ []
alternative_waits space n (pos i) = either_waits (nat_le 1 i && nat_le i n) (Edits (Commits space i)) (RaisesKind raise.SpaceChoice) refl refl
alternative_waits space n (negsuc i) = refl

committed_waits : (space : List ℕ) (st : State) (i : ℤ) → waits (committed_in space st i) ≡ []
committed_waits space (states.Alternatives n) i = alternative_waits space n i
committed_waits space st i = refl

injected_waits : (space : List ℕ) (p : Ident) (st : State) → waits (injected_in space p st) ≡ []
injected_waits space p states.Failed = refl
injected_waits space p st = refl

-- where the space was not merged
unmerged_waits : (st : State) (a : Answer) → waits (unless_merged st a) ≡ (if is_live st then waits a else [])
unmerged_waits states.Merged a = refl
unmerged_waits st a = refl

nothing_either : (b : Bool) → ◌≡◌ {A = List Ident} (if b then [] else []) []
nothing_either true = refl
nothing_either false = refl

-- what an operation waits for on a space that is there and was not merged
abbrev operand_waits : View → SpaceOperation → Ident → List Ident
operand_waits view spaces.Ask x = []
operand_waits view spaces.Commit x = waits_for x (value_of view x)
operand_waits view spaces.Clone x = []
operand_waits view spaces.Inject x = waits_for x (value_of view x)
operand_waits view spaces.Merge x = []

module _ (s : Sight) (inner : View) (space : List ℕ) (x : Ident) (st : State) where
  when_live : (a : Answer) (xs : List Ident) → waits a ≡ xs → waits (unless_merged st a) ≡ (if is_live st then xs else [])
  when_live a xs e = unmerged_waits st a ∙ ap (λ ys. if is_live st then ys else []) e

  operated_waits : (op : SpaceOperation) → waits (operated s inner op space x st) ≡ (if is_live st then operand_waits s.view op x else [])
  operated_waits spaces.Ask = decided_waits st (Operates spaces.Ask space x) (Acts _) refl refl ∙ sym (nothing_either (is_live st))
  operated_waits spaces.Commit =
      when_live _ (waits_for x (value_of s.view x))
      (given_waits x (value_of s.view x) (λ v. once_decided st (Operates spaces.Commit space x) (of_kind (integer_in v) (committed_in space st)))
      (λ v. decided_waits st (Operates spaces.Commit space x) (of_kind (integer_in v) (committed_in space st)) refl (kind_waits (integer_in v) (committed_in space st) (committed_waits space st))))
  operated_waits spaces.Clone = when_live _ [] (decided_waits st (Operates spaces.Clone space x) (unless_ended st (Copies space x)) refl (unended_waits st (Copies space x)))
  operated_waits spaces.Inject =
      when_live _ (waits_for x (value_of s.view x))
      (given_waits x (value_of s.view x) (injects space x st) (λ v. either_waits (is_procedure v) (injected_in space x st) (RaisesKind raise.BadKind) (injected_waits space x st) refl))
  operated_waits spaces.Merge = when_live _ [] (decided_waits st (Operates spaces.Merge space x) (unless_ended st (TakesIn space x)) refl (unended_waits st (TakesIn space x)))

state_waits : (s : Sight) (inner : View) (op : SpaceOperation) (space : List ℕ) (x : Ident) (o : Option State)
    → waits (with_state o (operated s inner op space x)) ≡ (if found_live o then operand_waits s.view op x else [])
state_waits s inner op space x None = refl
state_waits s inner op space x (Some st) = operated_waits s inner space x st op

-- What more than one list of states makes a thread wait for

-- nothing, or the same
abbrev NoMore : List Ident → List Ident → Type 0
NoMore xs ys = (ys ≡ []) ⊎ (ys ≡ xs)

-- a space that was there and not merged may be gone
abbrev pub Fades : Option State → Option State → Type 0
Fades o p = (found_live p ≡ found_live o) ⊎ (found_live o ≡ true)

live_more : (b c : Bool) (xs : List Ident) → (c ≡ b) ⊎ (b ≡ true) → NoMore (if b then xs else []) (if c then xs else [])
live_more b c xs (inl e) = inr (ap (λ d. if d then xs else []) e)
live_more true true xs (inr e) = inr refl
live_more true false xs (inr e) = inl refl
live_more false c xs (inr e) = absurd (false≢true e)

no_more : (xs ys us vs : List Ident) → xs ≡ us → ys ≡ vs → NoMore us vs → NoMore xs ys
no_more xs ys us vs e f (inl g) = inl (f ∙ g)
no_more xs ys us vs e f (inr g) = inr (f ∙ g ∙ sym e)

module _ (one other : List Layer) (s : Sight) (known later : States) (fades : (c : List ℕ) → is_child_of s.space c ≡ true → Fades (state_in known c) (state_in later c)) where
  abbrev Waiting : Answer → Type 0
  Waiting a = NoMore (waits (by_state one s known a)) (waits (by_state other s later a))

  stack_waits : (frames : List Frame) → Waiting (stack_answer s frames)
  stack_waits frames =
      stack_holds s Waiting (λ act. inr refl) (λ procedure x. inr refl) (λ kind. inr refl) (λ x. inr refl) (λ ts. inr refl) (λ ready. inr refl)
      (λ op c x y told below.
      no_more _ _ _ _ (state_waits s (view one c) op c x (state_in known c)) (state_waits s (view other c) op c x (state_in later c))
      (live_more (found_live (state_in known c)) (found_live (state_in later c)) (operand_waits s.view op x) (fades c below)))
      frames

fewer : (p : Ident → Bool) (xs ys : List Ident) → NoMore xs ys → list_any p ys ≡ true → list_any p xs ≡ true
fewer p xs ys (inl e) f = absurd (false≢true (sym (ap (list_any p) e) ∙ f))
fewer p xs ys (inr e) f = sym (ap (list_any p) e) ∙ f

module _ (statements : List Statement) (one other : List Layer) (known later : States) (u : List ℕ) (seen : view other u ≡ view one u)
    (fades : (c : List ℕ) → is_child_of u c ≡ true → Fades (state_in known c) (state_in later c)) where
  abbrev sees : View → Sight
  sees v = record { statements = statements; space = u; view = v }

  thread_waits : (t : Thread) → NoMore (waits_of (ready_in statements one known u t)) (waits_of (ready_in statements other later u t))
  thread_waits t =
      no_more _ _ _ _ refl (ap (λ v. waits (by_state other (sees v) later (stack_answer (sees v) t.frames))) seen)
      (stack_waits one other (sees (view one u)) known later fades t.frames)

  -- a variable that is waited for was waited for
  threads_wait : (p : Ident → Bool) (ts : List Thread) → list_any p (flat_map waits_of (map (ready_in statements other later u) ts)) ≡ true
      → list_any p (flat_map waits_of (map (ready_in statements one known u) ts)) ≡ true
  threads_wait p [] e = e
  threads_wait p (t ∷ ts) e =
      let before = waits_of (ready_in statements one known u t) in
      let after = waits_of (ready_in statements other later u t) in
      let rest = flat_map waits_of (map (ready_in statements one known u) ts) in
      list_any-append p before rest
      ∙ elim (or_cases (list_any p after) (list_any p (flat_map waits_of (map (ready_in statements other later u) ts))) (sym (list_any-append p after (flat_map waits_of (map (ready_in statements other later u) ts))) ∙ e)) [
        | inl k ↦ or_left _ _ (fewer p before after (thread_waits t) k)
        | inr k ↦ or_right (list_any p before) _ (threads_wait p ts k)
      ]

  pub layer_waits_less : (p : Ident → Bool) (l : Layer) → l.space ≡ u → list_any p (waited_in statements other later l) ≡ true → list_any p (waited_in statements one known l) ≡ true
  layer_waits_less p l own e =
      ap (λ v. list_any p (waiting one known v (is_open l.status))) own ∙ by (is_open l.status) (ap (λ v. list_any p (waiting other later v (is_open l.status))) (sym own) ∙ e)
    where
      waiting : List Layer → States → List ℕ → Bool → List Ident
      waiting layers ss v b = flat_map waits_of (if b then map (ready_in statements layers ss v) l.threads else [])

      by : (b : Bool) → list_any p (waiting other later u b) ≡ true → list_any p (waiting one known u b) ≡ true
      by true f = threads_wait p l.threads f
      by false f = absurd (false≢true f)

-- Whether a space is there and was not merged stands in its layer

abbrev pub is_unmerged : Status → Bool
is_unmerged status.Merged = false
is_unmerged st = true

abbrev pub live_at : List Layer → List ℕ → Bool
live_at layers space = holds_of (λ (l : Layer). is_unmerged l.status) (layer_at layers space)

stable_live : (o : Option Offer) (left : Bool) → is_live (stable_state o left) ≡ true
stable_live (Some offer) left = refl
stable_live None true = refl
stable_live None false = refl

open_live : (goes stable : Bool) (o : Option Offer) (left : Bool) → is_live (if goes then states.Running else (if stable then stable_state o left else states.Suspended)) ≡ true
open_live true stable o left = refl
open_live false true o left = stable_live o left
open_live false false o left = refl

status_live : (statements : List Statement) (layers : List Layer) (known : States) (l : Layer) (st : Status) → is_live (state_by statements layers known l st) ≡ is_unmerged st
status_live statements layers known l status.Open =
    open_live (subtree_goes_on statements layers known l.space) (is_stable statements layers known l.space) (offer_in statements layers known l) (is_left (view layers l.space) l)
status_live statements layers known l status.Failed = refl
status_live statements layers known l (status.Raised x) = refl
status_live statements layers known l status.Merged = refl

pub found_at : (statements : List Statement) (layers ls : List Layer) (space : List ℕ) → found_live (state_in (states_behind statements layers ls) space) ≡ live_at ls space
found_at statements layers [] space = refl
found_at statements layers (l ∷ ls) space = by (states_behind statements layers ls) (list_eq l.space space) (found_at statements layers ls space)
  where
    by : (rest : States) (b : Bool) → found_live (state_in rest space) ≡ live_at ls space
        → found_live (option_map (λ (s : List ℕ × State). s.1) (cond b (Some (l.space, state_by statements layers rest l l.status)) (find (λ (s : List ℕ × State). list_eq s.0 space) rest)))
        ≡ holds_of (λ (m : Layer). is_unmerged m.status) (cond b (Some l) (layer_at ls space))
    by rest true e = status_live statements layers rest l l.status
    by rest false e = e

-- A run from where all that can step is queued ends where nothing of its space can step.
use Rattle.std.proofs.Common.{◌≡◌, ℕ, zero, suc, ◌+◌, ◌-◌, nat_le, Bool, true, false, cond, if◌then◌else◌, List, [], ◌∷◌, ◌++◌, append_assoc, Option, Some, None, option_map, refl, sym, ap, ◌∙◌, subst, true≢false}
use Rattle.std.specs.List.{find}
use Rattle.std.proofs.lemmas.Option.{same_Some}
use Rattle.oz_base.specs.Lists.{list_eq}
use Rattle.oz_base.specs.ListLaws.{list_eq-decides}
use Rattle.oz_base.specs.declared.names.Ident.{Ident}
use Rattle.oz_language.specs.declared.kernel.Statement.{Statement}
use Rattle.oz_language.specs.declared.kernel.Kernel.{Kernel}
use Rattle.oz_search.specs.declared.leaf.Outcome.{Outcome}
use Rattle.oz_search.specs.declared.tree.Kind.{Kind}
use Rattle.oz_search.specs.Nodes.{Reached}
use Rattle.oz_search.specs.Plain.{outcomes}
use Rattle.oz_semantics.specs.Sights.{States, state_in, Offer}
use Rattle.oz_semantics.specs.Configurations.{view}
use Rattle.oz_semantics.specs.Spaces.{state, goes_on, subtree_goes_on, is_stable, offer_in, is_left, stable_state, open_state, state_by, states_behind}
use Rattle.oz_semantics.specs.Triggers.{triggered}
use Rattle.oz_semantics.specs.Settling.{Turned, top_failed, without_inconsistent, runnable, requeued}
use Rattle.oz_semantics.specs.Edits.{created, committed}
use Rattle.oz_semantics.specs.Texts.{Printed}
use Rattle.oz_semantics.specs.Schedule.{least_due, turn_of_queue, turn_of, turn}
use Rattle.oz_semantics.specs.declared.configuration.Propagator.{Propagator}
use Rattle.oz_semantics.specs.Runs.{Ran, Ended, TopRaised, Over, after_turn, left_by, run_for, run}
use Rattle.oz_semantics.specs.Search.{state_text, kind_of, node_of_kind, node_in_state, node_of_run, node_at, maker}
use Rattle.oz_semantics.specs.declared.configuration.Status.{Status}
use Rattle.oz_semantics.specs.declared.configuration.Status.TheVariants as status
use Rattle.oz_semantics.specs.declared.configuration.Layer.{Layer}
use Rattle.oz_semantics.specs.declared.configuration.Configuration.{Configuration}
use Rattle.oz_semantics.specs.declared.outcome.State.{State}
use Rattle.oz_semantics.specs.declared.outcome.State.TheVariants.{Running, Suspended}
use Rattle.oz_semantics.specs.declared.outcome.Stepped.TheVariants.{Moved, Quiescent, TopEnded}
use Rattle.view_laws.specs.Trees.{is_ascending, names_of}
use Rattle.view_laws.proofs.BehindLaws.{behind_goes_on}
use Rattle.turn_laws.proofs.KeptLaws.{committed_top}
use Rattle.machine_search.specs.Rests.{IsSettled, SettledLaw, RootLaw, ChosenLaw, RestLaw, StateLaw, NodesLaw}
use Rattle.machine_search.proofs.QueueLaws.{all_queued, nothing_goes_on}
use Rattle.machine_search.proofs.TopLaws.{still_consistent, begun_consistent, created_top}
use Rattle.machine_search.proofs.TurnLaws.{IsStep, queue_step, run_step}
use Rattle.machine_search.proofs.MetLaws.{met_rests}
use Rattle.machine_search.proofs.RunLaws.{same_config, no_raise}

pub settled_law : SettledLaw
settled_law statements mover cost c consistent =
    let P : Bool → Type 0 = λ b. IsSettled statements (left_by (if b then top_failed cost c else (Moved cost, requeued statements mover c (triggered statements (without_inconsistent c.layers))))) in
    subst P (sym consistent) (begun_consistent statements (without_inconsistent c.layers) (still_consistent c.layers consistent), all_queued (runnable statements (triggered statements (without_inconsistent c.layers))) mover c.queue)

pub root_law : RootLaw
root_law statements procedure c h = settled_law statements None 1 (record c { layers = created [] procedure c.layers }) (created_top [] procedure c.layers ∙ h.0)

pub chosen_law : ChosenLaw
chosen_law statements space i c h = settled_law statements None 1 (record c { layers = committed statements space i c.layers }) (committed_top statements space i c.layers h.0)

module _ (k : Kernel) (space : List ℕ) where
  abbrev pub Rests : Configuration → Type 0
  Rests d = (goes_on k.statements d.layers space ≡ false) × IsSettled k.statements d

  ended : (c d : Configuration) (f left : ℕ) → Rests c → ◌≡◌ {A = Ran} (Ended c f) (Ended d left) → Rests d
  ended c d f left rests e = subst (λ (x : Configuration). Rests x) (same_config c d f left e) rests

  abbrev Ends : ℕ → Type 0
  Ends n = (c : Configuration) (f : ℕ) (d : Configuration) (left : ℕ) → IsSettled k.statements c → run_for k space n c f ≡ Ended d left → Rests d

  by_step : (n : ℕ) → Ends n → (c : Configuration) (f : ℕ) (d : Configuration) (left : ℕ) (t : Turned) → IsStep k.statements t → after_turn (run_for k space n) f c t ≡ Ended d left → Rests d
  by_step n rest c f d left (Moved cost, x) step e = by (nat_le cost f) e
    where
      by : (b : Bool) → (if b then run_for k space n x (f - cost) else Over c) ≡ Ended d left → Rests d
      by true e = rest x (f - cost) d left step.1 e
      by false e = absurd (cc (e))
  by_step n rest c f d left (TopEnded exception cost, x) step e = absurd (no_raise k space cost f (λ g. TopRaised x g exception) c d left (λ g i. cc) e)
  by_step n rest c f d left (Quiescent, x) step e = absurd step

  by_queue : (n : ℕ) → Ends n → (c : Configuration) (f : ℕ) (d : Configuration) (left : ℕ) → IsSettled k.statements c → goes_on k.statements c.layers space ≡ true → least_due c.layers ≡ None
      → (queue : List Ident) → c.queue ≡ queue → after_turn (run_for k space n) f c (turn_of_queue k c queue) ≡ Ended d left → Rests d
  by_queue n rest c f d left queued going none [] empty e = absurd (true≢false (sym going ∙ nothing_goes_on k.statements c space queued.1 none empty))
  by_queue n rest c f d left queued going none (id ∷ queue) is e = by_step n rest c f d left (turn_of_queue k c (id ∷ queue)) (queue_step k c id queue) e

  by_due : (n : ℕ) → Ends n → (c : Configuration) (f : ℕ) (d : Configuration) (left : ℕ) → IsSettled k.statements c → goes_on k.statements c.layers space ≡ true
      → (due : Option (Layer × Propagator)) → least_due c.layers ≡ due → after_turn (run_for k space n) f c (turn_of k c due) ≡ Ended d left → Rests d
  by_due n rest c f d left queued going None none e = by_queue n rest c f d left queued going none c.queue refl e
  by_due n rest c f d left queued going (Some due) is e = by_step n rest c f d left (turn_of k c (Some due)) (run_step k c due) e

  by_going : (n : ℕ) → Ends n → (c : Configuration) (f : ℕ) (d : Configuration) (left : ℕ) → IsSettled k.statements c → (b : Bool) → goes_on k.statements c.layers space ≡ b
      → (if b then after_turn (run_for k space n) f c (turn k c) else Ended c f) ≡ Ended d left → Rests d
  by_going n rest c f d left queued true going e = by_due n rest c f d left queued going (least_due c.layers) refl e
  by_going n rest c f d left queued false not_going e = ended c d f left (not_going, queued) e

  ends : (n : ℕ) → Ends n
  unfolding run_for
  ends zero c f d left queued e = absurd (cc (e))
  ends (suc n) c f d left queued e = by_going n (ends n) c f d left queued (goes_on k.statements c.layers space) refl e

pub rest_law : RestLaw
rest_law k space c fuel d left queued e = ends k space (suc fuel) c fuel d left queued e

-- ---- so no space runs there
stable_not : (o : Option Offer) (left : Bool) → stable_state o left ≡ Running → ⊥
stable_not (Some offer) left e = cc
stable_not None true e = cc
stable_not None false e = cc

open_not : (statements : List Statement) (layers : List Layer) (known : States) (l : Layer) → subtree_goes_on statements layers known l.space ≡ false
    → open_state statements layers known l ≡ Running → ⊥
open_not statements layers known l not_going e = go (is_stable statements layers known l.space) (sym (ap (λ b. if b then Running else rest) not_going) ∙ e)
  where
    rest : State
    rest = if is_stable statements layers known l.space then stable_state (offer_in statements layers known l) (is_left (view layers l.space) l) else Suspended

    go : (b : Bool) → (if b then stable_state (offer_in statements layers known l) (is_left (view layers l.space) l) else Suspended) ≡ Running → ⊥
    go true e = stable_not (offer_in statements layers known l) (is_left (view layers l.space) l) e
    go false e = cc

not_running : (statements : List Statement) (layers : List Layer) (known : States) (l : Layer) (s : Status) → subtree_goes_on statements layers known l.space ≡ false
    → state_by statements layers known l s ≡ Running → ⊥
not_running statements layers known l status.Open not_going e = open_not statements layers known l not_going e
not_running statements layers known l status.Failed not_going e = cc
not_running statements layers known l (status.Raised x) not_going e = cc
not_running statements layers known l status.Merged not_going e = cc

-- the first layer of the name, among those behind others
no_state : (statements : List Statement) (layers : List Layer) (space : List ℕ) → is_ascending (names_of layers) ≡ true → goes_on statements layers space ≡ false
    → (front ls : List Layer) → layers ≡ front ++ ls → state_in (states_behind statements layers ls) space ≡ Some Running → ⊥
no_state statements layers space ordered not_going front [] parts e = cc
no_state statements layers space ordered not_going front (l ∷ ls) parts e =
    by (list_eq l.space space) refl (no_state statements layers space ordered not_going (front ++ l ∷ []) ls (parts ∙ sym (append_assoc front (l ∷ []) ls))) e
  where
    behind : l.space ≡ space → subtree_goes_on statements layers (states_behind statements layers ls) l.space ≡ false
    behind same = behind_goes_on statements layers front ls l parts ordered ∙ ap (goes_on statements layers) same ∙ not_going

    here : List ℕ × State
    here = (l.space, state_by statements layers (states_behind statements layers ls) l l.status)

    by : (b : Bool) → list_eq l.space space ≡ b → (state_in (states_behind statements layers ls) space ≡ Some Running → ⊥)
        → option_map (λ (s : List ℕ × State). s.1) (cond b (Some here) (find (λ (s : List ℕ × State). list_eq s.0 space) (states_behind statements layers ls))) ≡ Some Running → ⊥
    by true own rest k = not_running statements layers (states_behind statements layers ls) l l.status (behind ((list_eq-decides l.space space).0 own)) (same_Some _ _ k)
    by false own rest k = rest k

pub state_law : StateLaw
state_law k space c fuel d left queued e ordered running =
    no_state k.statements d.layers space ordered (rest_law k space c fuel d left queued e).0 [] d.layers refl running

-- ---- nor in any node
module _ (k : Kernel) (space : List ℕ) where
  kind_rests : (d : Configuration) → Rests k space d → (steps : ℕ) (o : Option (Kind Outcome)) (r : Reached Configuration Outcome) → node_of_kind d steps o ≡ Some r → Rests k space r.config
  kind_rests d h steps None r e = absurd (cc (e))
  kind_rests d h steps (Some kind) r e = subst (λ (x : Configuration). Rests k space x) (ap (λ (x : Reached Configuration Outcome). x.config) (same_Some _ r e)) h

  state_rests : (f : ℕ) (d : Configuration) (left : ℕ) → Rests k space d → (o : Option State) (r : Reached Configuration Outcome) → node_in_state k space (suc f) d left o ≡ Some r → Rests k space r.config
  state_rests f d left h None r e = absurd (cc (e))
  state_rests f d left h (Some s) r e = by (nat_le printed.nodes left) e
    where
      printed : Printed
      printed = state_text k.words d space s

      by : (b : Bool) → (if b then node_of_kind d (suc f - left + printed.nodes) (kind_of s printed.bytes) else None) ≡ Some r → Rests k space r.config
      by true e = kind_rests d h (suc f - left + printed.nodes) (kind_of s printed.bytes) r e
      by false e = absurd (cc (e))

  run_rests : (f : ℕ) (c : Configuration) → IsSettled k.statements c → (o : Ran) → run k space c f ≡ o → (r : Reached Configuration Outcome) → node_of_run k space (suc f) o ≡ Some r → Rests k space r.config
  run_rests f c h (Ended d left) ran r e = state_rests f d left (rest_law k space c f d left h ran) (state k.statements d.layers space) r e
  run_rests f c h (TopRaised d left exception) ran r e = absurd (cc (e))
  run_rests f c h (Over d) ran r e = absurd (cc (e))

  pub node_rests : (f : ℕ) (c : Configuration) → IsSettled k.statements c → (r : Reached Configuration Outcome) → node_at k space f c ≡ Some r → Rests k space r.config
  node_rests zero c h r e = absurd (cc (e))
  node_rests (suc f) c h r e = run_rests f c h (run k space c f) refl r e

pub nodes_law : NodesLaw
nodes_law k space c fuel p node h e =
    met_rests outcomes (maker k space) (IsSettled k.statements) (Rests k space) (λ f d g r i. node_rests k space f d g r i) (λ b d g. chosen_law k.statements space b d g.1) fuel 0 c p h node e

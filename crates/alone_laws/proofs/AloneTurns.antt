-- That a space makes the same turns alone as among others.
use Rattle.std.proofs.Common.{◌≡◌, inl, inr, ℕ, Bool, true, false, cond, List, [], ◌∷◌, filter, refl, sym, ap, ap₂, subst, ◌∙◌, Some, None}
use Rattle.std.proofs.lemmas.Bool.{false≢true}
use Rattle.oz_base.specs.Lists.{holds_of}
use Rattle.oz_base.specs.declared.names.Ident.{Ident}
use Rattle.oz_language.specs.declared.kernel.Statement.{Statement}
use Rattle.oz_language.specs.declared.kernel.Kernel.{Kernel}
use Rattle.oz_semantics.specs.Names.{is_below, is_top}
use Rattle.oz_semantics.specs.Configurations.{is_open, view}
use Rattle.oz_semantics.specs.Settling.{Turned}
use Rattle.oz_semantics.specs.Steps.{stepped}
use Rattle.oz_semantics.specs.Propagation.{run_of}
use Rattle.oz_semantics.specs.Schedule.{least_due, propagated, turn_of_queue, turn_of, turn}
use Rattle.oz_semantics.specs.declared.configuration.Propagator.{Propagator}
use Rattle.oz_semantics.specs.declared.configuration.Layer.{Layer}
use Rattle.oz_semantics.specs.declared.configuration.Status.{Status}
use Rattle.oz_semantics.specs.declared.configuration.Status.TheVariants as status
use Rattle.oz_semantics.specs.declared.configuration.Configuration.{Configuration}
use Rattle.view_laws.proofs.Members.{decide}
use Rattle.edit_laws.proofs.NameLaws.{top_is}
use Rattle.turn_laws.specs.Kept.{IsKept, IsThere}
use Rattle.turn_laws.proofs.HeadLaws.{find_layer, kept_head}
use Rattle.turn_laws.proofs.DueLaws.{least_found}
use Rattle.alone_laws.specs.Alone.{alone_layers, is_own, alone, TurnsAlone, SameTurn, StepsAlone, SameRun, PropagatesAlone}
use Rattle.alone_laws.proofs.OrderLaws.{ascending_sorted}
use Rattle.alone_laws.proofs.WaitLaws.{live_at, is_unmerged}
use Rattle.alone_laws.proofs.StepLaws.{Rested, run_rests, step_rests}
use Rattle.alone_laws.proofs.AloneLaws.{own_first}
use Rattle.alone_laws.proofs.AloneSteps.{stepped_alone}
use Rattle.alone_laws.proofs.AloneDues.{none_alone, due_alone, propagated_alone}

-- The top alone is the whole

top_layers : (ls : List Layer) → alone_layers [] ls ≡ ls
top_layers [] = refl
top_layers (l ∷ ls) = own_first [] l ls refl ∙ ap (λ ms. l ∷ ms) (top_layers ls)

top_queue : (ids : List Ident) → filter (is_own []) ids ≡ ids
top_queue [] = refl
top_queue (id ∷ ids) = ap (λ xs. id ∷ xs) (top_queue ids)

pub top_alone : (c : Configuration) → alone [] c ≡ c
top_alone c = ap₂ (λ (ls : List Layer) (ids : List Ident). record c { layers = ls; queue = ids }) (top_layers c.layers) (top_queue c.queue)

-- The thread at the head

open_unmerged : (st : Status) → is_open st ≡ true → is_unmerged st ≡ true
open_unmerged status.Open e = refl
open_unmerged status.Failed e = refl
open_unmerged (status.Raised x) e = refl
open_unmerged status.Merged e = absurd (false≢true e)

there_live : (statements : List Statement) (layers : List Layer) (id : Ident) → IsThere statements layers id → live_at layers id.space ≡ true
there_live statements layers id there = ap (holds_of (λ (l : Layer). is_unmerged l.status)) there.layer ∙ open_unmerged _ there.opened

module _ (k : Kernel) (c : Configuration) (id : Ident) (rest : List Ident) (kept : IsKept k.statements c) (none : least_due c.layers ≡ None) (q : c.queue ≡ id ∷ rest) where
  abbrev popped : Configuration
  popped = record c { queue = rest }

  pub whole_turn : ◌≡◌ {A = Turned} (turn k c) (stepped k id popped)
  whole_turn = ap (turn_of k c) none ∙ ap (turn_of_queue k c) q

  head_live : live_at c.layers id.space ≡ true
  head_live = there_live k.statements c.layers id (kept_head k.statements id rest c (subst (λ (ids : List Ident). IsKept k.statements (record c { queue = ids })) q kept))

  -- where it is none of the top's, all but what is below its space stays
  pub turn_rests : is_top id.space ≡ false → Rested k.statements id.space (Some id) c.layers popped (turn k c)
  turn_rests child = subst (Rested k.statements id.space (Some id) c.layers popped) (sym whole_turn) (step_rests k id c.layers kept.sound kept.content head_live child popped refl)

  module _ (space : List ℕ) (own : is_below space id.space ≡ true) where
    own_head : (alone space c).queue ≡ id ∷ filter (is_own space) rest
    own_head = ap (filter (is_own space)) q ∙ ap (λ (b : Bool). cond b (id ∷ filter (is_own space) rest) (filter (is_own space) rest)) own

    inner_turn : is_top space ≡ false → SameTurn k c space id rest
    inner_turn child = record {
      due = none_alone space c.layers none;
      head = own_head;
      turns =
          ap (turn_of k (alone space c)) (none_alone space c.layers none) ∙ ap (turn_of_queue k (alone space c)) own_head
          ∙ stepped_alone k space id own child c.layers kept.sound kept.content head_live popped (ascending_sorted c.layers kept.tree.ordered) refl
          ∙ ap (λ (w : Turned). (w.0, alone space w.1)) (sym whole_turn);
    }

top_same : (k : Kernel) (c : Configuration) → TurnsAlone k c []
top_same k c = ap (turn k) (top_alone c) ∙ ap (λ (d : Configuration). ((turn k c).0, d)) (sym (top_alone (turn k c).1))

top_turn : (k : Kernel) (c : Configuration) (id : Ident) (rest : List Ident) → least_due c.layers ≡ None → c.queue ≡ id ∷ rest → SameTurn k c [] id rest
top_turn k c id rest none q = record {
  due = ap (λ (d : Configuration). least_due d.layers) (top_alone c) ∙ none;
  head = top_queue c.queue ∙ q ∙ ap (λ ids. id ∷ ids) (sym (top_queue rest));
  turns = top_same k c;
}

pub steps_alone : StepsAlone
steps_alone k c space id rest kept none q own = elim (decide (is_top space)) [
  | inl top ↦ subst (λ s. SameTurn k c s id rest) (sym (top_is space top)) (top_turn k c id rest none q)
  | inr child ↦ inner_turn k c id rest kept none q space own child
]

-- The propagator that runs

module _ (k : Kernel) (c : Configuration) (due : Layer × Propagator) (kept : IsKept k.statements c) (e : least_due c.layers ≡ Some due) where
  whole_run : ◌≡◌ {A = Turned} (turn k c) (propagated k.statements due c)
  whole_run = ap (turn_of k c) e

  due_live : live_at c.layers due.0.space ≡ true
  due_live =
      let d = least_found c.layers due e in
      ap (holds_of (λ (l : Layer). is_unmerged l.status)) (find_layer c.layers due.0 kept.tree.ordered d.0) ∙ open_unmerged due.0.status d.1.opened

  -- where it is none of the top's, all but what is below its space stays
  pub run_turn_rests : is_top due.0.space ≡ false → Rested k.statements due.0.space None c.layers c (turn k c)
  run_turn_rests child =
      subst (Rested k.statements due.0.space None c.layers c) (sym whole_run)
      (run_rests k.statements due.0.space c.layers kept.sound kept.content due_live child c due.0 due.1 (run_of (view c.layers due.0.space) due.1) refl refl)

  inner_run : (space : List ℕ) → is_below space due.0.space ≡ true → is_top space ≡ false → SameRun k c space due
  inner_run space own child = record {
    due = due_alone space c.layers due own e;
    turns =
        ap (turn_of k (alone space c)) (due_alone space c.layers due own e)
        ∙ propagated_alone k.statements space due own child c.layers kept.sound kept.content due_live c refl
        ∙ ap (λ (w : Turned). (w.0, alone space w.1)) (sym whole_run);
  }

top_run : (k : Kernel) (c : Configuration) (due : Layer × Propagator) → least_due c.layers ≡ Some due → SameRun k c [] due
top_run k c due e = record { due = ap (λ (d : Configuration). least_due d.layers) (top_alone c) ∙ e; turns = top_same k c }

pub propagates_alone : PropagatesAlone
propagates_alone k c space due kept e own = elim (decide (is_top space)) [
  | inl top ↦ subst (λ s. SameRun k c s due) (sym (top_is space top)) (top_run k c due e)
  | inr child ↦ inner_run k c due kept e space own child
]

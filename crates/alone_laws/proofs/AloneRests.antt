-- That a space alone rests where what steps does not concern it.
use Rattle.std.proofs.Common.{◌≡◌, inl, inr, ℕ, Bool, true, false, not, if◌then◌else◌, cond, List, [], ◌∷◌, ◌++◌, filter, map, refl, sym, ap, ap₂, ◌∙◌, Option, Some, None}
use Rattle.std.proofs.lemmas.Bool.{false≢true}
use Rattle.std.proofs.lemmas.List.{append-nil}
use Rattle.oz_base.specs.declared.names.Ident.{Ident}
use Rattle.oz_language.specs.declared.kernel.Statement.{Statement}
use Rattle.oz_semantics.specs.Names.{is_below, is_top}
use Rattle.oz_semantics.specs.Settling.{Turned, runnable, is_among, mover_in, queue_after}
use Rattle.oz_semantics.specs.Schedule.{turn}
use Rattle.oz_semantics.specs.declared.configuration.Layer.{Layer}
use Rattle.oz_semantics.specs.declared.configuration.Configuration.{Configuration}
use Rattle.oz_semantics.specs.declared.outcome.Stepped.TheVariants.{Moved, TopEnded, Quiescent}
use Rattle.view_laws.specs.Queues.{IsExact}
use Rattle.view_laws.proofs.Members.{decide, not_both, or_cases}
use Rattle.view_laws.proofs.NameLaws.{below_trans}
use Rattle.view_laws.proofs.ListLaws.{in_among, filter_all, filter_none}
use Rattle.settle_laws.proofs.ListEdits.{filter_inside}
use Rattle.alone_laws.specs.Alone.{is_kept, quieted, alone_layers, is_own, alone, RestsAlone, RestsAtRuns}
use Rattle.alone_laws.proofs.OutsideLaws.{is_outside, outside, Stay}
use Rattle.alone_laws.proofs.StepLaws.{Rested}
use Rattle.alone_laws.proofs.AloneLaws.{comparable}
use Rattle.alone_laws.proofs.AloneParts.{own_mover, own_queue, runnable_alone}
use Rattle.alone_laws.proofs.AloneTurns.{turn_rests, run_turn_rests}

-- A queue that holds exactly the threads that can step stays
exact_rests : (ids queue : List Ident) → ((id : Ident) → is_among queue id ≡ is_among ids id) → queue_after ids None queue ≡ queue
exact_rests ids queue exact =
    let stay : filter (is_among ids) queue ++ mover_in None ids ≡ queue =
    ap (λ xs. xs ++ []) (filter_all (is_among ids) queue (λ id i. sym (exact id) ∙ in_among queue id i)) ∙ append-nil queue in
    ap (λ xs. xs ++ filter (λ id. not (is_among xs id)) ids) stay
    ∙ ap (λ ys. queue ++ ys) (filter_none (λ id. not (is_among queue id)) ids (λ id i. ap not (exact id ∙ in_among ids id i))) ∙ append-nil queue

-- Layers that are kept are not below a space that is neither below the space nor above it

module _ (s t : List ℕ) (apart : is_below s t ≡ false) (aside : is_below t s ≡ false) where
  kept_outside : (l : Layer) → is_kept s l ≡ true → is_below t l.space ≡ false
  kept_outside l e = elim (decide (is_below t l.space)) [
    | inl k ↦ elim (or_cases (is_below l.space s) (is_below s l.space) e) [
      | inl j ↦ absurd (not_both _ (below_trans t l.space s k j) aside)
      | inr j ↦ elim (comparable s t l.space j k) [ inl m ↦ absurd (not_both _ m apart) | inr m ↦ absurd (not_both _ m aside) ]
    ]
    | inr k ↦ k
  ]

  gone_outside : (l : Layer) → is_outside t l ≡ false → is_kept s l ≡ false
  gone_outside l e = elim (decide (is_kept s l)) [
    | inl k ↦ absurd (not_both _ (ap not (kept_outside l k)) e)
    | inr k ↦ k
  ]

  alone_outside : (layers : List Layer) → alone_layers s (outside t layers) ≡ alone_layers s layers
  alone_outside layers = ap (map (quieted s)) (filter_inside (is_kept s) (is_outside t) gone_outside layers)

  layers_rest : (before after : List Layer) → Stay t before after → alone_layers s after ≡ alone_layers s before
  layers_rest before after n = sym (alone_outside after) ∙ ap (alone_layers s) n ∙ alone_outside before

module _ (statements : List Statement) (space t : List ℕ) (mover : Option Ident) (c : Configuration) (rest : List Ident) (exact : IsExact statements c.layers c.queue)
    (rest_queue : filter (is_own space) rest ≡ filter (is_own space) c.queue) (no_mover : own_mover space mover ≡ None) (apart : is_below space t ≡ false) (aside : is_below t space ≡ false) where
  rested : (turned : Turned) → Rested statements t mover c.layers (record c { queue = rest }) turned → alone space turned.1 ≡ alone space c
  rested (Moved cost, d) h =
      let able : List Ident = filter (is_own space) (runnable statements c.layers) in
      let layers : alone_layers space d.layers ≡ alone_layers space c.layers = layers_rest space t apart aside c.layers d.layers h.0 in
      let ids : filter (is_own space) (runnable statements d.layers) ≡ able =
      sym (runnable_alone space statements d.layers) ∙ ap (runnable statements) layers ∙ runnable_alone space statements c.layers in
      let queue : filter (is_own space) d.queue ≡ filter (is_own space) c.queue =
      ap (filter (is_own space)) h.1 ∙ own_queue space (runnable statements d.layers) mover rest
      ∙ ap₂ (λ xs m. queue_after xs m (filter (is_own space) rest)) ids no_mover ∙ ap (queue_after able None) rest_queue
      ∙ sym (own_queue space (runnable statements c.layers) None c.queue) ∙ ap (filter (is_own space)) (exact_rests (runnable statements c.layers) c.queue exact) in
      λ i. record { layers = layers i; queue = queue i; shown = h.2 i }
  rested (TopEnded x cost, d) h = elim h [ ]
  rested (Quiescent, d) h = elim h [ ]

pub not_top : (s t : List ℕ) → is_below t s ≡ false → is_top t ≡ false
not_top s [] e = absurd (false≢true (sym e))
not_top s (n ∷ t) e = refl

-- the thread that stepped is none of the space's
pub rests_alone : RestsAlone
rests_alone k c space id rest kept none q apart aside =
    rested k.statements space id.space (Some id) c rest kept.exact
    (sym (ap (filter (is_own space)) q ∙ ap (λ (b : Bool). cond b (id ∷ filter (is_own space) rest) (filter (is_own space) rest)) apart))
    (ap (λ (b : Bool). if b then Some id else None) apart) apart aside (turn k c) (turn_rests k c id rest kept none q (not_top space id.space aside))

pub rests_at_runs : RestsAtRuns
rests_at_runs k c space due kept e apart aside =
    rested k.statements space due.0.space None c c.queue kept.exact refl refl apart aside (turn k c) (run_turn_rests k c due kept e (not_top space due.0.space aside))

-- The queue after a step has each thread that can step, and while it is empty and no propagator is due nothing goes on.
use Rattle.std.proofs.Common.{◌≡◌, ℕ, Bool, true, false, not, ◌||◌, cond, if◌then◌else◌, List, [], ◌∷◌, ◌++◌, map, filter, Option, None, inl, inr, refl, sym, ap, ap₂, ◌∙◌, true≢false}
use Rattle.std.specs.List.{list_any, flat_map}
use Rattle.std.proofs.lemmas.List.Folds.{list_any-append}
use Rattle.oz_base.specs.declared.names.Ident.{Ident}
use Rattle.oz_base.specs.Names.{ident_eq}
use Rattle.oz_base.specs.IdentLaws.{ident_eq-itself, ident_eq-equal}
use Rattle.oz_language.specs.declared.kernel.Statement.{Statement}
use Rattle.oz_semantics.specs.Names.{is_below, named}
use Rattle.oz_semantics.specs.Configurations.{is_open, view}
use Rattle.oz_semantics.specs.Sights.{Readiness, can_step}
use Rattle.oz_semantics.specs.Spaces.{states_of, thread_ready, has_due, layer_goes_on, layers_below, goes_on}
use Rattle.oz_semantics.specs.Settling.{runnable_in, runnable, is_among, mover_in, queue_after}
use Rattle.oz_semantics.specs.declared.configuration.Thread.{Thread}
use Rattle.oz_semantics.specs.declared.configuration.Layer.{Layer}
use Rattle.oz_semantics.specs.declared.configuration.Configuration.{Configuration}
use Rattle.oz_semantics.specs.Schedule.{least_due}
use Rattle.oz_laws.proofs.SameLaws.{In}
use Rattle.turn_laws.proofs.DueLaws.{none_due}
use Rattle.machine_search.specs.Rests.{IsQueued}

or_right : (a b : Bool) → b ≡ true → (a || b) ≡ true
or_right true b e = refl
or_right false b e = e

-- those that stay, and of the others each that is among the ids
module _ (stay : List Ident) (id : Ident) (absent : is_among stay id ≡ false) where
  abbrev kept : List Ident → List Ident
  kept ids = filter (λ i. not (is_among stay i)) ids

  others : (ids : List Ident) → is_among ids id ≡ true → is_among (kept ids) id ≡ true
  others [] e = e
  others (y ∷ ys) e = by (ident_eq id y) refl e (others ys)
    where
      here : ident_eq id y ≡ true → (b : Bool) → is_among stay y ≡ b → is_among (cond (not b) (y ∷ kept ys) (kept ys)) id ≡ true
      here same true i = absurd (true≢false (sym i ∙ (ap (is_among stay) (sym (ident_eq-equal id y same)) ∙ absent)))
      here same false i = ap (λ t. t || is_among (kept ys) id) same

      apart : is_among (kept ys) id ≡ true → (b : Bool) → is_among (cond (not b) (y ∷ kept ys) (kept ys)) id ≡ true
      apart h true = h
      apart h false = or_right (ident_eq id y) (is_among (kept ys) id) h

      by : (b : Bool) → ident_eq id y ≡ b → (b || is_among ys id) ≡ true → (is_among ys id ≡ true → is_among (kept ys) id ≡ true) → is_among (cond (not (is_among stay y)) (y ∷ kept ys) (kept ys)) id ≡ true
      by true same e h = here same (is_among stay y) refl
      by false same e h = apart (h e) (is_among stay y)

covered : (stay ids : List Ident) (id : Ident) → is_among ids id ≡ true → is_among (stay ++ filter (λ i. not (is_among stay i)) ids) id ≡ true
covered stay ids id e = list_any-append (ident_eq id) stay (filter (λ i. not (is_among stay i)) ids) ∙ by (is_among stay id) refl
  where
    by : (b : Bool) → is_among stay id ≡ b → (b || is_among (filter (λ i. not (is_among stay i)) ids) id) ≡ true
    by true i = refl
    by false i = others stay id i ids e

pub all_queued : (ids : List Ident) (mover : Option Ident) (queue : List Ident) (id : Ident) → is_among ids id ≡ true → is_among (queue_after ids mover queue) id ≡ true
all_queued ids mover queue id e = covered (filter (is_among ids) queue ++ mover_in mover ids) ids id e

-- where none can step, nothing goes on
none_among : (ids : List Ident) → ((id : Ident) → is_among ids id ≡ true → is_among [] id ≡ true) → ids ≡ []
none_among [] h = refl
none_among (x ∷ xs) h = absurd (true≢false (sym (h x (ap (λ b. b || is_among xs x) (ident_eq-itself x)))))

append_parts : {A : Type 0} (xs ys : List A) → (xs ++ ys) ≡ [] → (xs ≡ []) × (ys ≡ [])
append_parts [] ys e = (refl, e)
append_parts (x ∷ xs) ys e = absurd (cc (e))

no_thread : (ready : Thread → Readiness) (space : List ℕ) (threads : List Thread) → map (λ (t : Thread). named space t.number) (filter (λ t. can_step (ready t)) threads) ≡ []
    → list_any can_step (map ready threads) ≡ false
no_thread ready space [] e = refl
no_thread ready space (t ∷ threads) e = by (can_step (ready t)) (no_thread ready space threads) e
  where
    by : (b : Bool) → (map (λ (t : Thread). named space t.number) (filter (λ t. can_step (ready t)) threads) ≡ [] → list_any can_step (map ready threads) ≡ false)
        → map (λ (t : Thread). named space t.number) (cond b (t ∷ filter (λ t. can_step (ready t)) threads) (filter (λ t. can_step (ready t)) threads)) ≡ []
        → (b || list_any can_step (map ready threads)) ≡ false
    by true rest e = absurd (cc (e))
    by false rest e = rest e

-- by the states of all spaces
abbrev going : List Statement → List Layer → Layer → Bool
going statements layers = layer_goes_on statements layers (states_of statements layers)

no_layer : (statements : List Statement) (layers : List Layer) (l : Layer) → runnable_in statements layers l ≡ [] → has_due (view layers l.space) l ≡ false → going statements layers l ≡ false
no_layer statements layers l e none = ap₂ (λ a b. a || b) (by (is_open l.status) e) none
  where
    by : (b : Bool) → (if b then map (λ (t : Thread). named l.space t.number) (filter (λ t. can_step (thread_ready statements layers l.space t)) l.threads) else []) ≡ []
        → list_any can_step (if b then map (thread_ready statements layers l.space) l.threads else []) ≡ false
    by true e = no_thread (thread_ready statements layers l.space) l.space l.threads e
    by false e = refl

no_layers : (statements : List Statement) (layers : List Layer) (space : List ℕ) (ls : List Layer) → flat_map (runnable_in statements layers) ls ≡ []
    → ((l : Layer) → In l ls → has_due (view layers l.space) l ≡ false) → list_any (going statements layers) (layers_below ls space) ≡ false
no_layers statements layers space [] e none = refl
no_layers statements layers space (l ∷ ls) e none =
    let parts = append_parts (runnable_in statements layers l) (flat_map (runnable_in statements layers) ls) e in
    by (is_below space l.space) (no_layer statements layers l parts.0 (none l (inl refl))) (no_layers statements layers space ls parts.1 (λ m i. none m (inr i)))
  where
    by : (b : Bool) → going statements layers l ≡ false → list_any (going statements layers) (layers_below ls space) ≡ false
        → list_any (going statements layers) (cond b (l ∷ layers_below ls space) (layers_below ls space)) ≡ false
    by true here rest = ap (λ t. t || list_any (going statements layers) (layers_below ls space)) here ∙ rest
    by false here rest = rest

pub nothing_goes_on : (statements : List Statement) (c : Configuration) (space : List ℕ) → IsQueued statements c → least_due c.layers ≡ None → c.queue ≡ [] → goes_on statements c.layers space ≡ false
nothing_goes_on statements c space queued none empty =
    no_layers statements c.layers space c.layers
    (none_among (runnable statements c.layers) (λ id e. ap (λ q. is_among q id) (sym empty) ∙ queued id e))
    (none_due c.layers none)

-- The queue of a space alone.
use Rattle.std.proofs.Common.{◌≡◌, inl, inr, ℕ, Bool, true, false, not, ◌||◌, if◌then◌else◌, List, [], ◌∷◌, ◌++◌, filter, map, flat_map, refl, sym, ap, ap₂, subst, ◌∙◌, Option, Some, None}
use Rattle.std.proofs.lemmas.List.Elements.{filter-append}
use Rattle.oz_base.specs.Names.{ident_eq}
use Rattle.oz_base.specs.declared.names.Ident.{Ident}
use Rattle.oz_language.specs.declared.kernel.Statement.{Statement}
use Rattle.oz_semantics.specs.Names.{is_below, is_properly_below, named}
use Rattle.oz_semantics.specs.Configurations.{is_open}
use Rattle.oz_semantics.specs.Sights.{can_step}
use Rattle.oz_semantics.specs.Spaces.{thread_ready}
use Rattle.oz_semantics.specs.Settling.{runnable_in, runnable, is_among, mover_in, queue_after}
use Rattle.oz_semantics.specs.declared.configuration.Layer.{Layer}
use Rattle.oz_semantics.specs.declared.configuration.Thread.{Thread}
use Rattle.oz_laws.proofs.SameLaws.{ident_eq-true}
use Rattle.view_laws.proofs.Members.{not_both, or_cases}
use Rattle.view_laws.proofs.NameLaws.{below_itself, properly_by}
use Rattle.alone_laws.specs.Alone.{is_kept, quieted, alone_layers, is_own}
use Rattle.alone_laws.proofs.AloneLaws.{own_first, kept_first, not_kept_first}
use Rattle.alone_laws.proofs.AloneStates.{runnable_same}

-- The queue

module _ (s : List ℕ) where
  -- whether a thread that is below it is among others is told by those that are below it
  own_among : (x : Ident) → is_own s x ≡ true → (xs : List Ident) → is_among (filter (is_own s) xs) x ≡ is_among xs x
  own_among x e [] = refl
  own_among x e (y ∷ ys) = by (is_own s y) (ident_eq x y) refl refl (own_among x e ys)
    where
      by : (b c : Bool) → is_own s y ≡ b → ident_eq x y ≡ c → is_among (filter (is_own s) ys) x ≡ is_among ys x → is_among (filter (is_own s) (y ∷ ys)) x ≡ is_among (y ∷ ys) x
      by true c i j rest = rw i (ap (λ b. ident_eq x y || b) rest)
      by false true i j rest = absurd (not_both _ (subst (λ z. is_own s z ≡ true) (ident_eq-true x y j) e) i)
      by false false i j rest = rw (i, j) rest

  own_filters : (p q : Ident → Bool) → ((x : Ident) → is_own s x ≡ true → p x ≡ q x) → (xs : List Ident) → filter (is_own s) (filter p xs) ≡ filter q (filter (is_own s) xs)
  own_filters p q h [] = refl
  own_filters p q h (x ∷ xs) = by (is_own s x) (p x) refl refl (own_filters p q h xs)
    where
      by : (b c : Bool) → is_own s x ≡ b → p x ≡ c → filter (is_own s) (filter p xs) ≡ filter q (filter (is_own s) xs) → filter (is_own s) (filter p (x ∷ xs)) ≡ filter q (filter (is_own s) (x ∷ xs))
      by true true i j rest = rw (i, j) (rw (i, sym (h x i) ∙ j) (ap (λ ys. x ∷ ys) rest))
      by true false i j rest = rw (i, j) (rw (sym (h x i) ∙ j) rest)
      by false true i j rest = rw (i, j) (rw i rest)
      by false false i j rest = rw (i, j) rest

  abbrev pub own_mover : Option Ident → Option Ident
  own_mover None = None
  own_mover (Some id) = if is_own s id then Some id else None

  own_mover_in : (mover : Option Ident) (ids : List Ident) → filter (is_own s) (mover_in mover ids) ≡ mover_in (own_mover mover) (filter (is_own s) ids)
  own_mover_in None ids = refl
  own_mover_in (Some id) ids = by (is_own s id) (is_among ids id) refl refl
    where
      by : (b c : Bool) → is_own s id ≡ b → is_among ids id ≡ c → filter (is_own s) (mover_in (Some id) ids) ≡ mover_in (own_mover (Some id)) (filter (is_own s) ids)
      by true true i j = rw (i, j) (rw (i, own_among id i ids ∙ j) refl)
      by true false i j = rw (i, j) (rw (own_among id i ids ∙ j) refl)
      by false true i j = rw (i, j) (rw i refl)
      by false false i j = rw (i, j) refl

  abbrev staying : List Ident → Option Ident → List Ident → List Ident
  staying ids mover queue = filter (is_among ids) queue ++ mover_in mover ids

  pub own_queue : (ids : List Ident) (mover : Option Ident) (queue : List Ident)
      → filter (is_own s) (queue_after ids mover queue) ≡ queue_after (filter (is_own s) ids) (own_mover mover) (filter (is_own s) queue)
  own_queue ids mover queue =
      let stay = staying ids mover queue in
      let stays : filter (is_own s) stay ≡ staying (filter (is_own s) ids) (own_mover mover) (filter (is_own s) queue) =
      filter-append (is_own s) (filter (is_among ids) queue) (mover_in mover ids)
      ∙ ap₂ (λ xs ys. xs ++ ys) (own_filters (is_among ids) (is_among (filter (is_own s) ids)) (λ x e. sym (own_among x e ids)) queue) (own_mover_in mover ids) in
      filter-append (is_own s) stay (filter (λ id. not (is_among stay id)) ids)
      ∙ ap₂ (λ xs ys. xs ++ ys) stays
      (own_filters (λ id. not (is_among stay id)) (λ id. not (is_among (staying (filter (is_own s) ids) (own_mover mover) (filter (is_own s) queue)) id))
      (λ x e. ap not (sym (own_among x e stay) ∙ ap (λ xs. is_among xs x) stays)) ids)

  -- Threads that can step

  own_all : (u : List ℕ) → is_below s u ≡ true → (ts : List Thread) → filter (is_own s) (map (λ (t : Thread). named u t.number) ts) ≡ map (λ (t : Thread). named u t.number) ts
  own_all u e [] = refl
  own_all u e (t ∷ ts) = rw e (ap (λ xs. named u t.number ∷ xs) (own_all u e ts))

  own_none : (u : List ℕ) → is_below s u ≡ false → (ts : List Thread) → filter (is_own s) (map (λ (t : Thread). named u t.number) ts) ≡ []
  own_none u e [] = refl
  own_none u e (t ∷ ts) = rw e (own_none u e ts)

  module _ (statements : List Statement) (layers : List Layer) where
    abbrev able : Layer → List Thread
    able l = filter (λ t. can_step (thread_ready statements layers l.space t)) l.threads

    inner_runnable : (l : Layer) → is_below s l.space ≡ true → filter (is_own s) (runnable_in statements layers l) ≡ runnable_in statements layers l
    inner_runnable l e = by (is_open l.status)
      where
        by : (b : Bool) → filter (is_own s) (if b then map (λ (t : Thread). named l.space t.number) (able l) else []) ≡ (if b then map (λ (t : Thread). named l.space t.number) (able l) else [])
        by true = own_all l.space e (able l)
        by false = refl

    outer_runnable : (l : Layer) → is_below s l.space ≡ false → filter (is_own s) (runnable_in statements layers l) ≡ []
    outer_runnable l e = by (is_open l.status)
      where
        by : (b : Bool) → filter (is_own s) (if b then map (λ (t : Thread). named l.space t.number) (able l) else []) ≡ []
        by true = own_none l.space e (able l)
        by false = refl

    none_runnable : (l : Layer) → runnable_in statements layers (record l { threads = []; triggers = []; propagators = [] }) ≡ []
    none_runnable l = by (is_open l.status)
      where
        by : (b : Bool) → ◌≡◌ {A = List Ident} (if b then [] else []) []
        by true = refl
        by false = refl

  -- one that is kept and not below it is a proper ancestor
  pub ancestor : (l : Layer) → is_kept s l ≡ true → is_below s l.space ≡ false → is_properly_below l.space s ≡ true
  ancestor l e f = elim (or_cases (is_below l.space s) _ e) [
    | inl k ↦ properly_by l.space s k (λ q. not_both _ (subst (λ u. is_below s u ≡ true) (sym q) (below_itself s)) f)
    | inr k ↦ absurd (not_both _ k f)
  ]

  pub quiet_layer : (l : Layer) → is_kept s l ≡ true → is_below s l.space ≡ false → quieted s l ≡ record l { threads = []; triggers = []; propagators = [] }
  quiet_layer l e f = rw (ancestor l e f) refl

  pub runnable_alone : (statements : List Statement) (layers : List Layer) → runnable statements (alone_layers s layers) ≡ filter (is_own s) (runnable statements layers)
  runnable_alone statements layers = along layers
    where
      part : Layer → List Ident
      part = runnable_in statements (alone_layers s layers)

      whole : Layer → List Ident
      whole = runnable_in statements layers

      split : (l : Layer) (ls : List Layer) (xs : List Ident) → filter (is_own s) (whole l) ≡ xs → filter (is_own s) (flat_map whole (l ∷ ls)) ≡ xs ++ filter (is_own s) (flat_map whole ls)
      split l ls xs e = filter-append (is_own s) (whole l) (flat_map whole ls) ∙ ap (λ ys. ys ++ filter (is_own s) (flat_map whole ls)) e

      by : (l : Layer) (ls : List Layer) (b c : Bool) → is_below s l.space ≡ b → is_kept s l ≡ c → flat_map part (alone_layers s ls) ≡ filter (is_own s) (flat_map whole ls)
          → flat_map part (alone_layers s (l ∷ ls)) ≡ filter (is_own s) (flat_map whole (l ∷ ls))
      by l ls true c i j rest =
          ap (flat_map part) (own_first s l ls i) ∙ ap₂ (λ xs ys. xs ++ ys) (runnable_same statements s layers l i) rest ∙ sym (split l ls (whole l) (inner_runnable statements layers l i))
      by l ls false true i j rest =
          ap (flat_map part) (kept_first s l ls j)
          ∙ ap₂ (λ xs ys. xs ++ ys) (ap part (quiet_layer l j i) ∙ none_runnable statements (alone_layers s layers) l) rest
          ∙ sym (split l ls [] (outer_runnable statements layers l i))
      by l ls false false i j rest = ap (flat_map part) (not_kept_first s l ls j) ∙ rest ∙ sym (split l ls [] (outer_runnable statements layers l i))

      along : (ls : List Layer) → flat_map part (alone_layers s ls) ≡ filter (is_own s) (flat_map whole ls)
      along [] = refl
      along (l ∷ ls) = by l ls (is_below s l.space) (is_kept s l) refl refl (along ls)

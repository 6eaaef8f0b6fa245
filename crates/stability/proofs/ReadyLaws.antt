-- What the threads of an open layer can do.
use Rattle.std.proofs.Common.{◌≡◌, ◌⊎◌, inl, inr, ℕ, ◌&&◌, ◌||◌, Bool, true, false, if◌then◌else◌, List, [], ◌∷◌, ◌++◌, map, filter, Result, refl, subst, sym, ap, ap₂, ◌∙◌}
use Rattle.std.specs.Prelude.{IfOk}
use Rattle.std.specs.List.{list_any, flat_map}
use Rattle.std.proofs.lemmas.List.Folds.{list_any-append}
use Rattle.oz_base.specs.declared.names.Ident.{Ident}
use Rattle.oz_language.specs.declared.kernel.Statement.{Statement}
use Rattle.oz_semantics.specs.Store.{View}
use Rattle.oz_semantics.specs.Configurations.{is_open, view, ancestor_variables}
use Rattle.oz_semantics.specs.Sights.{Sight, States, Readiness, can_step, waits_of}
use Rattle.oz_semantics.specs.Answers.{Answer, Acts, Edits, RaisesKind, RaisesTerm, Operates, Widens, Rests}
use Rattle.oz_semantics.specs.Operations.{by_state}
use Rattle.oz_semantics.specs.Readiness.{answer_ready}
use Rattle.oz_semantics.specs.Propagation.{is_due, is_undecided}
use Rattle.oz_semantics.specs.Spaces.{ready_in, readinesses, has_due, layer_goes_on, waited_in, undecided_in, layer_waits, is_held}
use Rattle.oz_semantics.specs.declared.configuration.Propagator.{Propagator}
use Rattle.oz_semantics.specs.declared.configuration.Thread.{Thread}
use Rattle.oz_semantics.specs.declared.configuration.Status.{Status}
use Rattle.oz_semantics.specs.declared.configuration.Status.TheVariants as status
use Rattle.oz_semantics.specs.declared.configuration.Layer.{Layer}
use Rattle.builtins.specs.Answers.{IsReady}
use Rattle.builtins.specs.declared.answer.Readiness.TheVariants as readiness
use Rattle.stability.specs.Known.{waits_for_state}
use Rattle.stability.specs.Waits.{undecided_waits}
use Rattle.stability.proofs.Held.{held_by_classes}
use Rattle.stability.proofs.Among.{any-map, any-flat_map}

-- an answer by other words
pub same_ok : {A E : Type 0} (r : Result A E) {a b : A} → a ≡ b → IfOk r (λ x. x ≡ a) → IfOk r (λ x. x ≡ b)
same_ok {A} {E} r {a} {b} e h = subst (λ (y : A). IfOk r (λ x. x ≡ y)) e h

pub and_true : (a b : Bool) → a ≡ true → b ≡ (a && b)
and_true a b e = ap (λ x. x && b) (sym e)

-- a space that has ended is not open
pub not_open : (s : Status) → (s ≡ status.Failed) ⊎ (((x : Ident) × (s ≡ status.Raised x)) ⊎ (s ≡ status.Merged)) → is_open s ≡ false
not_open s (inl e) = ap is_open e
not_open s (inr (inl e)) = ap is_open e.1
not_open s (inr (inr e)) = ap is_open e

pub open_readinesses : (statements : List Statement) (layers : List Layer) (states : States) (l : Layer) → l.status ≡ status.Open
    → readinesses statements layers states l ≡ map (ready_in statements layers states l.space) l.threads
open_readinesses statements layers states l e = ap (λ (s : Status). if is_open s then map (ready_in statements layers states l.space) l.threads else []) e

-- whether a thread of the layer can step
abbrev pub thread_steps : List Statement → List Layer → States → Layer → Thread → Bool
thread_steps statements layers states l t = can_step (ready_in statements layers states l.space t)

steps_open : (statements : List Statement) (layers : List Layer) (states : States) (l : Layer) → l.status ≡ status.Open
    → list_any can_step (readinesses statements layers states l) ≡ list_any (thread_steps statements layers states l) l.threads
steps_open statements layers states l e =
    ap (list_any can_step) (open_readinesses statements layers states l e) ∙ any-map can_step (ready_in statements layers states l.space) l.threads

-- a thread can step, or a propagator is due
pub goes_open : (statements : List Statement) (layers : List Layer) (states : States) (l : Layer) → l.status ≡ status.Open
    → (list_any (thread_steps statements layers states l) l.threads || has_due (view layers l.space) l) ≡ layer_goes_on statements layers states l
goes_open statements layers states l e = ap (λ (b : Bool). b || has_due (view layers l.space) l) (sym (steps_open statements layers states l e))

pub goes_closed : (statements : List Statement) (layers : List Layer) (states : States) (l : Layer) → is_open l.status ≡ false → false ≡ layer_goes_on statements layers states l
goes_closed statements layers states l e =
    sym (ap (λ (b : Bool). list_any can_step (if b then map (ready_in statements layers states l.space) l.threads else []) || (b && list_any (is_due (view layers l.space)) l.propagators)) e)

-- whether a thread of the layer waits for a variable of the space's proper ancestors
abbrev pub thread_waits : List Statement → List Layer → States → List ℕ → Layer → Thread → Bool
thread_waits statements layers states space l t = list_any (is_held (view layers l.space) (ancestor_variables layers space)) (waits_of (ready_in statements layers states l.space t))

threads_wait : (statements : List Statement) (layers : List Layer) (states : States) (held : List Ident) (l : Layer) → l.status ≡ status.Open
    → list_any (is_held (view layers l.space) held) (waited_in statements layers states l)
    ≡ list_any (λ t. list_any (is_held (view layers l.space) held) (waits_of (ready_in statements layers states l.space t))) l.threads
threads_wait statements layers states held l e =
    let test = is_held (view layers l.space) held in
    ap (λ (rs : List Readiness). list_any test (flat_map waits_of rs)) (open_readinesses statements layers states l e)
    ∙ any-flat_map test waits_of (map (ready_in statements layers states l.space) l.threads)
    ∙ any-map (λ r. list_any test (waits_of r)) (ready_in statements layers states l.space) l.threads

any-filter : (test keep : Propagator → Bool) (ps : List Propagator) → list_any test (filter keep ps) ≡ list_any (λ p. keep p && test p) ps
any-filter test keep [] = refl
any-filter test keep (p ∷ ps) = by (keep p) refl (any-filter test keep ps)
  where
    by : (b : Bool) → keep p ≡ b → list_any test (filter keep ps) ≡ list_any (λ q. keep q && test q) ps → list_any test (filter keep (p ∷ ps)) ≡ list_any (λ q. keep q && test q) (p ∷ ps)
    by true e rest = rw e (ap (λ b. test p || b) rest)
    by false e rest = rw e rest

propagators_wait : (view : View) (held : List Ident) (l : Layer) → l.status ≡ status.Open
    → list_any (is_held view held) (undecided_in view l) ≡ list_any (undecided_waits view held) l.propagators
propagators_wait view held l e =
    ap (λ (s : Status). list_any (is_held view held) (if is_open s then flat_map (λ (p : Propagator). p.variables) (filter (is_undecided view) l.propagators) else [])) e
    ∙ any-flat_map (is_held view held) (λ (p : Propagator). p.variables) (filter (is_undecided view) l.propagators)
    ∙ any-filter (λ p. list_any (is_held view held) p.variables) (is_undecided view) l.propagators

-- a thread waits, or a propagator
pub waits_open : (statements : List Statement) (layers : List Layer) (states : States) (held : List Ident) (l : Layer) → l.status ≡ status.Open
    → (list_any (λ t. list_any (is_held (view layers l.space) held) (waits_of (ready_in statements layers states l.space t))) l.threads
    || list_any (undecided_waits (view layers l.space) held) l.propagators) ≡ layer_waits statements layers states held l
waits_open statements layers states held l e =
    sym (list_any-append (is_held (view layers l.space) held) (waited_in statements layers states l) (undecided_in (view layers l.space) l)
    ∙ ap₂ (λ (a b : Bool). a || b) (threads_wait statements layers states held l e) (propagators_wait (view layers l.space) held l e))

pub waits_closed : (statements : List Statement) (layers : List Layer) (states : States) (held : List Ident) (l : Layer) → is_open l.status ≡ false
    → false ≡ layer_waits statements layers states held l
waits_closed statements layers states held l e =
    sym (ap (λ (b : Bool). list_any (is_held (view layers l.space) held)
    (flat_map waits_of (if b then map (ready_in statements layers states l.space) l.threads else [])
    ++ (if b then flat_map (λ (p : Propagator). p.variables) (filter (is_undecided (view layers l.space)) l.propagators) else []))) e)

-- what waits for no state, or is no operation, is the same by any states
pub known_alone : (layers : List Layer) (s : Sight) (states : States) (a : Answer) → waits_for_state (answer_ready a) ≡ false → by_state layers s states a ≡ a
known_alone layers s states (Acts act) e = refl
known_alone layers s states (Edits edit) e = refl
known_alone layers s states (RaisesKind kind) e = refl
known_alone layers s states (RaisesTerm x) e = refl
known_alone layers s states (Widens ts) e = refl
known_alone layers s states (Operates op space x) e = cc
known_alone layers s states (Rests ready) e = refl

-- waits that are answered are held where those of the definition are
pub offers_answered : (view : View) (held xs : List Ident) (n : ℕ) (defined : Readiness) → IsReady view defined (readiness.Offers n xs)
    → list_any (is_held view held) xs ≡ list_any (is_held view held) (waits_of defined)
offers_answered view held xs n defined h = held_by_classes view held xs h.1 h.4 ∙ sym (ap (λ (r : Readiness). list_any (is_held view held) (waits_of r)) h.2)

pub waits_answered : (view : View) (held xs : List Ident) (defined : Readiness) → IsReady view defined (readiness.Waits xs) → list_any (is_held view held) xs ≡ list_any (is_held view held) (waits_of defined)
waits_answered view held xs defined h = held_by_classes view held xs h.0 h.2 ∙ sym (ap (λ (r : Readiness). list_any (is_held view held) (waits_of r)) h.1)

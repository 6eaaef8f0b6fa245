-- What the state of an open space rests on.
use Rattle.std.proofs.Common.{◌≡◌, ◌==◌, ◌+◌, add-one, arith, length, [], ◌∷◌, ◌&&◌, ◌||◌, Bool, true, false, not, if◌then◌else◌, List, Option, refl, sym, ap, ◌∙◌}
use Rattle.std.specs.List.{list_any}
use Rattle.std.proofs.lemmas.Bool.{eqb-true}
use Rattle.oz_base.specs.Lists.{is_empty}
use Rattle.oz_semantics.specs.Store.{View}
use Rattle.oz_semantics.specs.Propagation.{is_undecided}
use Rattle.oz_semantics.specs.declared.configuration.Thread.{Thread}
use Rattle.oz_language.specs.declared.kernel.Statement.{Statement}
use Rattle.oz_semantics.specs.Names.{parent_of}
use Rattle.oz_semantics.specs.Configurations.{view, ancestor_variables}
use Rattle.oz_semantics.specs.Sights.{States, Offer}
use Rattle.oz_semantics.specs.Spaces.{subtree_goes_on, waits_outside, alike_on, offer_in, is_left, stable_state, open_state}
use Rattle.oz_semantics.specs.declared.configuration.Layer.{Layer}
use Rattle.oz_semantics.specs.declared.outcome.State.{State}
use Rattle.oz_semantics.specs.declared.outcome.State.TheVariants.{Running, Suspended}

-- a state by three tests: whether the space goes on, whether it waits for an ancestor, whether it is silent
abbrev by_tests : Bool → Bool → Bool → State → State
by_tests g w a stable = if g then Running else (if not g && not w && a then stable else Suspended)

running_by : (g w a : Bool) (stable : State) → g ≡ true → Running ≡ by_tests g w a stable
running_by true w a stable e = refl
running_by false w a stable e = cc

waiting_by : (g w a : Bool) (stable : State) → g ≡ false → w ≡ true → Suspended ≡ by_tests g w a stable
waiting_by g true a stable e k = rw e refl
waiting_by g false a stable e k = cc

telling_by : (g w a : Bool) (stable : State) → g ≡ false → a ≡ false → Suspended ≡ by_tests g w a stable
telling_by g w true stable e k = cc
telling_by g true false stable e k = rw e refl
telling_by g false false stable e k = rw e refl

stable_by : (g w a : Bool) (stable : State) → g ≡ false → w ≡ false → a ≡ true → stable ≡ by_tests g w a stable
stable_by g w a stable e k m = rw (e, k, m) refl

-- The tests of a layer

abbrev going : List Statement → List Layer → States → Layer → Bool
going statements layers states l = subtree_goes_on statements layers states l.space

abbrev waiting : List Statement → List Layer → States → Layer → Bool
waiting statements layers states l = waits_outside statements layers states l.space

abbrev pub silent : List Layer → Layer → Bool
silent layers l = alike_on (ancestor_variables layers l.space) (view layers l.space) (view layers (parent_of l.space))

abbrev stable : List Statement → List Layer → States → Layer → State
stable statements layers states l = stable_state (offer_in statements layers states l) (is_left (view layers l.space) l)

module _ (statements : List Statement) (layers : List Layer) (states : States) (l : Layer) where
  pub running : going statements layers states l ≡ true → Running ≡ open_state statements layers states l
  running g = running_by (going statements layers states l) (waiting statements layers states l) (silent layers l) (stable statements layers states l) g

  pub waits : going statements layers states l ≡ false → waiting statements layers states l ≡ true → Suspended ≡ open_state statements layers states l
  waits g w = waiting_by (going statements layers states l) (waiting statements layers states l) (silent layers l) (stable statements layers states l) g w

  pub tells : going statements layers states l ≡ false → silent layers l ≡ false → Suspended ≡ open_state statements layers states l
  tells g a = telling_by (going statements layers states l) (waiting statements layers states l) (silent layers l) (stable statements layers states l) g a

  pub rests : going statements layers states l ≡ false → waiting statements layers states l ≡ false → silent layers l ≡ true
      → (s : State) → s ≡ stable statements layers states l → s ≡ open_state statements layers states l
  rests g w a s e = e ∙ stable_by (going statements layers states l) (waiting statements layers states l) (silent layers l) (stable statements layers states l) g w a

-- By other states that come to the same
pub open_same : (statements : List Statement) (layers : List Layer) (one other : States) (l : Layer) → going statements layers one l ≡ going statements layers other l
    → waiting statements layers one l ≡ waiting statements layers other l → offer_in statements layers one l ≡ offer_in statements layers other l
    → open_state statements layers one l ≡ open_state statements layers other l
open_same statements layers one other l g w o =
    ap (λ (b : Bool). by_tests b (waiting statements layers one l) (silent layers l) (stable statements layers one l)) g
    ∙ ap (λ (b : Bool). by_tests (going statements layers other l) b (silent layers l) (stable statements layers one l)) w
    ∙ ap (λ (offer : Option Offer). by_tests (going statements layers other l) (waiting statements layers other l) (silent layers l) (stable_state offer (is_left (view layers l.space) l))) o

-- What is left

pub empty_length : {A : Type 0} (xs : List A) → (length xs == 0) ≡ is_empty xs
empty_length [] = refl
empty_length (x ∷ xs) = by (length (x ∷ xs) == 0) refl
  where
    by : (b : Bool) → (length (x ∷ xs) == 0) ≡ b → (length (x ∷ xs) == 0) ≡ false
    by true e =
        let same : length (x ∷ xs) ≡ 0 = eqb-true (length (x ∷ xs)) 0 e in
        let long : length (x ∷ xs) ≡ length xs + 1 = sym (add-one (length xs)) in
        absurd (omega (arith, same, long))
    by false e = e

pub left_threads : (view : View) (l : Layer) (ts : List Thread) → ts ≡ l.threads → is_empty ts ≡ false → true ≡ is_left view l
left_threads view l ts e some = sym (ap (λ (b : Bool). not b || list_any (is_undecided view) l.propagators) (ap is_empty (sym e) ∙ some))

pub left_propagators : (view : View) (l : Layer) (ts : List Thread) → ts ≡ l.threads → is_empty ts ≡ true → list_any (is_undecided view) l.propagators ≡ is_left view l
left_propagators view l ts e none = sym (ap (λ (b : Bool). not b || list_any (is_undecided view) l.propagators) (ap is_empty (sym e) ∙ none))

-- The variables that threads wait for, by their classes.
use Rattle.std.proofs.Common.{◌≡◌, ℕ, ◌+◌, ◌<◌, Bool, true, false, ◌&&◌, ◌||◌, if◌then◌else◌, List, [], ◌∷◌, ◌++◌, map, length, take, get_or, refl, sym, ap, ap₂, subst, ◌∙◌, Result}
use Rattle.std.specs.Prelude.{IfOk, is_some}
use Rattle.std.specs.List.{list_any, flat_map}
use Rattle.std.proofs.lemmas.List.{take_more, map_push, append-nil}
use Rattle.std.proofs.lemmas.List.Folds.{list_any-append}
use Rattle.std.proofs.lemmas.Grind.{flat_map-append}
use Rattle.oz_base.specs.declared.names.Ident.{Ident}
use Rattle.oz_language.specs.declared.kernel.Statement.{Statement}
use Rattle.oz_semantics.specs.Store.{View, same, domain_of, is_determined}
use Rattle.oz_semantics.specs.Configurations.{is_open, view}
use Rattle.oz_semantics.specs.Sights.{States, Readiness, waits_of}
use Rattle.oz_semantics.specs.Spaces.{ready_in, waited_in, states_of}
use Rattle.oz_semantics.specs.Triggers.{is_needed, is_needed_in}
use Rattle.oz_semantics.specs.declared.configuration.Layer.{Layer}
use Rattle.oz_semantics.specs.declared.configuration.Thread.{Thread}
use Rattle.oz_semantics.specs.declared.configuration.Trigger.{Trigger}
use Rattle.builtins.specs.Answers.{IsReady}
use Rattle.builtins.specs.declared.answer.Readiness.TheVariants as readiness
use Rattle.tree_equal.specs.Answers.{SameClasses}
use Rattle.stability.specs.Known.{Serves}
use Rattle.stability.proofs.AlikeLaws.{ready_alike}
use Rattle.by_need.specs.Waited.{AddsClasses}

-- marks by other words
pub same_marks : {A E : Type 0} (r : Result A E) {a b : A} → a ≡ b → IfOk r (λ x. x ≡ a) → IfOk r (λ x. x ≡ b)
same_marks {A} {E} r {a} {b} e h = subst (λ (y : A). IfOk r (λ x. x ≡ y)) e h

-- one more item gone over
pub made_more : {A B : Type 0} (f : A → B) (xs : List A) (n : ℕ) (x : A) (old new : List B) (y : B) → n < length xs → x ≡ get_or xs n x → old ≡ map f (take n xs) → new ≡ old ++ y ∷ [] → y ≡ f x
    → new ≡ map f (take (n + 1) xs)
made_more f xs n x old new y within e o a made =
    a ∙ ap₂ (λ ys z. ys ++ z ∷ []) o made ∙ sym (map_push f (take n xs) x) ∙ ap (map f) (sym (take_more xs n x within ∙ ap (λ z. take n xs ++ z ∷ []) (sym e)))

-- What a thread waits for

pub waits_said : (view : View) (defined : Readiness) (xs : List Ident) → IsReady view defined (readiness.Waits xs) → (ys : List Ident) × SameClasses view xs ys × (waits_of defined ≡ ys)
waits_said view defined xs h = (h.0, h.2, ap waits_of h.1)

pub offers_said : (view : View) (defined : Readiness) (n : ℕ) (xs : List Ident) → IsReady view defined (readiness.Offers n xs) → (ys : List Ident) × SameClasses view xs ys × (waits_of defined ≡ ys)
offers_said view defined n xs h = (h.1, h.4, ap waits_of h.2)

pub adds_waits : (view : View) (defined : Readiness) (xs ys old new : List Ident) → new ≡ old ++ xs → SameClasses view xs ys → waits_of defined ≡ ys → AddsClasses view (waits_of defined) old new
adds_waits view defined xs ys old new e classes is =
    λ z. ap (list_any (same view z)) e ∙ list_any-append (same view z) old xs
    ∙ ap (λ b. list_any (same view z) old || b) (classes z ∙ sym (ap (λ (zs : List Ident). list_any (same view z) zs) is))

-- One more thread

pub waits_more : (view : View) (f : Thread → List Ident) (ts : List Thread) (n : ℕ) (t : Thread) (old new : List Ident) → n < length ts → t ≡ get_or ts n t
    → SameClasses view old (flat_map f (take n ts)) → AddsClasses view (f t) old new → SameClasses view new (flat_map f (take (n + 1) ts))
waits_more view f ts n t old new within e s a =
    let whole : flat_map f (take (n + 1) ts) ≡ flat_map f (take n ts) ++ f t =
    ap (flat_map f) (take_more ts n t within ∙ ap (λ (y : Thread). take n ts ++ y ∷ []) (sym e)) ∙ flat_map-append f (take n ts) (t ∷ []) ∙ ap (λ ys. flat_map f (take n ts) ++ ys) (append-nil (f t)) in
    λ z. a z ∙ ap (λ b. b || list_any (same view z) (f t)) (s z) ∙ sym (ap (list_any (same view z)) whole ∙ list_any-append (same view z) (flat_map f (take n ts)) (f t))

-- What is needed for them

pub needed_same : (view : View) (xs ys : List Ident) (ts : List Trigger) → SameClasses view xs ys → map (is_needed view xs) ts ≡ map (is_needed view ys) ts
needed_same view xs ys [] s = refl
needed_same view xs ys (t ∷ ts) s =
    ap₂ (λ (b : Bool) (bs : List Bool). (is_determined view t.variable || is_some (domain_of view t.variable) || b) ∷ bs) (s t.variable) (needed_same view xs ys ts s)

waits_mapped : (f : Thread → Readiness) (ts : List Thread) → flat_map waits_of (map f ts) ≡ flat_map (λ t. waits_of (f t)) ts
waits_mapped f [] = refl
waits_mapped f (t ∷ ts) = ap (λ xs. waits_of (f t) ++ xs) (waits_mapped f ts)

-- what a thread of the layer waits for
abbrev pub thread_waits : List Statement → List Layer → States → Layer → Thread → List Ident
thread_waits statements layers states l t = waits_of (ready_in statements layers states l.space t)

module _ (statements : List Statement) (layers : List Layer) (l : Layer) where
  abbrev waits : States → List Ident
  waits states = flat_map (λ t. waits_of (ready_in statements layers states l.space t)) l.threads

  waited_open : (states : States) → is_open l.status ≡ true → waited_in statements layers states l ≡ waits states
  waited_open states e =
      ap (λ (b : Bool). flat_map waits_of (if b then map (ready_in statements layers states l.space) l.threads else [])) e ∙ waits_mapped (ready_in statements layers states l.space) l.threads

  -- by states that serve as well
  waits_alike : (one other : States) → Serves statements layers one other → waits one ≡ waits other
  waits_alike one other serves =
      let same : ◌≡◌ {A = Thread → Readiness} (ready_in statements layers one l.space) (ready_in statements layers other l.space) = λ i t. ready_alike statements layers one other serves l.space t i in
      ap (λ (f : Thread → Readiness). flat_map (λ (t : Thread). waits_of (f t)) l.threads) same

  pub needed_open : (states : States) → Serves statements layers states (states_of statements layers) → is_open l.status ≡ true
      → map (is_needed (view layers l.space) (waits states)) l.triggers ≡ map (is_needed_in statements layers l) l.triggers
  needed_open states serves e =
      ap (λ (xs : List Ident). map (is_needed (view layers l.space) xs) l.triggers) (waits_alike states (states_of statements layers) serves ∙ sym (waited_open (states_of statements layers) e))
      ∙ sym (ap (λ (b : Bool). map (λ t. b && is_needed (view layers l.space) (waited_in statements layers (states_of statements layers) l) t) l.triggers) e)

  pub needed_ended : is_open l.status ≡ false → map (λ (t : Trigger). false) l.triggers ≡ map (is_needed_in statements layers l) l.triggers
  needed_ended e = sym (ap (λ (b : Bool). map (λ t. b && is_needed (view layers l.space) (waited_in statements layers (states_of statements layers) l) t) l.triggers) e)

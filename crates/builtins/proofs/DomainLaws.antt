-- What the built-ins of finite domains answer and wait for, by their inputs.
use Rattle.std.proofs.Common.{◌≡◌, ◌∙◌, ℕ, ℤ, refl, ap, Option, Some, None, List, [], ◌∷◌}
use Rattle.oz_base.specs.declared.names.Ident.{Ident}
use Rattle.oz_base.specs.declared.relation.Relation.TheVariants.{Distinct}
use Rattle.oz_language.specs.declared.kernel.Operation.TheVariants as operation
use Rattle.oz_semantics.specs.Store.{View}
use Rattle.oz_semantics.specs.Inputs.{Input, Known, Unknown, OtherKind, both}
use Rattle.oz_semantics.specs.Vectors.{vector}
use Rattle.oz_semantics.specs.Constraints.{bounds, refusal_of}
use Rattle.oz_semantics.specs.Distributors.{Distribution, Widens, Finished, Splits, distribution}
use Rattle.oz_semantics.specs.Sights.{Sight, Offer, Parts, Steps, Waits, Offers, count_of}
use Rattle.oz_semantics.specs.Answers.{Answer, Acts, Confines}
use Rattle.oz_semantics.specs.Builtins.{of_input, unless_refused, interval_news, confines, posts, distributes, of_operation, answer}
use Rattle.oz_semantics.specs.Readiness.{answer_ready}
use Rattle.oz_semantics.specs.declared.outcome.RaiseKind.{RaiseKind}
use Rattle.oz_semantics.specs.declared.value.Builtin.TheVariants as builtin
use Rattle.fd_inputs.specs.Answers.{input_of, both_of, offered_in}
use Rattle.fd_inputs.specs.declared.input.Input as inputs
use Rattle.fd_inputs.specs.declared.input.Input.TheVariants as input
use Rattle.builtins.specs.Looks.{ready_by, awaited_by, input_ready, distributing}

-- What the code's inputs wait for

-- of two inputs
both_read : {A B C D : Type 0} (f : A → C) (g : B → D) (i : inputs.Input A) (j : inputs.Input B)
    → input_of (λ (p : A × B). (f p.0, g p.1)) (both_of i j) ≡ both (input_of f i) (input_of g j)
both_read f g (input.Known a) (input.Known b) = refl
both_read f g (input.Known a) (input.Unknown y) = refl
both_read f g (input.Known a) input.OtherKind = refl
both_read f g (input.Unknown x) j = refl
both_read f g input.OtherKind (input.Known b) = refl
both_read f g input.OtherKind (input.Unknown y) = refl
both_read f g input.OtherKind input.OtherKind = refl

-- an input is waited for
awaited_ready : {A B : Type 0} (f : A → B) (i : inputs.Input A) → ready_by (awaited_by i) ≡ input_ready (input_of f i)
awaited_ready f (input.Known a) = refl
awaited_ready f (input.Unknown x) = refl
awaited_ready f input.OtherKind = refl

pub awaited_so : {A B : Type 0} (f : A → B) (i : inputs.Input A) (j : Input B) (o : Option Ident) → o ≡ awaited_by i → input_of f i ≡ j → ready_by o ≡ input_ready j
awaited_so f i j o e h = ap ready_by e ∙ awaited_ready f i ∙ ap input_ready h

pub both_awaited : {A B C D : Type 0} (f : A → C) (g : B → D) (i : inputs.Input A) (j : inputs.Input B) (k : Input C) (l : Input D) (o : Option Ident)
    → o ≡ awaited_by (both_of i j) → input_of f i ≡ k → input_of g j ≡ l → ready_by o ≡ input_ready (both k l)
both_awaited f g i j k l o e h m =
    awaited_so (λ p. (f p.0, g p.1)) (both_of i j) (both k l) o e (both_read f g i j ∙ ap (λ n. both n (input_of g j)) h ∙ ap (both k) m)

-- What the built-ins wait for

input_waits : {A : Type 0} (i : Input A) (go : A → Answer) → ((a : A) → answer_ready (go a) ≡ Steps) → answer_ready (of_input i go) ≡ input_ready i
input_waits (Known a) go h = h a
input_waits (Unknown x) go h = refl
input_waits OtherKind go h = refl

refusal_steps : (o : Option RaiseKind) (a : Answer) → answer_ready a ≡ Steps → answer_ready (unless_refused o a) ≡ Steps
refusal_steps None a h = h
refusal_steps (Some kind) a h = refl

confines_steps : (view : View) (xs : List Ident) (b : ℤ × ℤ) → answer_ready (confines view xs b) ≡ Steps
confines_steps view xs b = refusal_steps (refusal_of b.0 b.1) (Acts (Confines (interval_news view xs (record { low = b.0; high = b.1 })))) refl

pub bound_waits : (view : View) (x y z : Ident) → answer_ready (of_operation view operation.Bound x y z) ≡ input_ready (bounds view y)
bound_waits view x y z = input_waits (bounds view y) (confines view (x ∷ [])) (confines_steps view (x ∷ []))

pub bound_each_waits : (view : View) (x y z : Ident) → answer_ready (of_operation view operation.BoundEach x y z) ≡ input_ready (both (vector view x) (bounds view y))
bound_each_waits view x y z =
    input_waits (both (vector view x) (bounds view y)) (λ (i : List Ident × (ℤ × ℤ)). confines view i.0 i.1) (λ (i : List Ident × (ℤ × ℤ)). confines_steps view i.0 i.1)

pub distinct_waits : (s : Sight) (f : ℕ → Ident) → answer_ready (answer s builtin.Distinct f) ≡ input_ready (vector s.view (f 0))
distinct_waits s f = input_waits (vector s.view (f 0)) (posts s.view Distinct) (λ xs. refl)

distribution_waits : (view : View) (i : Input Distribution) → answer_ready (of_input i (distributes view)) ≡ distributing i
distribution_waits view (Known (Widens xs)) = refl
distribution_waits view (Known Finished) = refl
distribution_waits view (Known (Splits one other xs)) = refl
distribution_waits view (Unknown x) = refl
distribution_waits view OtherKind = refl

pub distribute_waits : (s : Sight) (f : ℕ → Ident) → answer_ready (answer s builtin.Distribute f) ≡ distributing (distribution s.view (f 0) (f 1))
distribute_waits s f = distribution_waits s.view (distribution s.view (f 0) (f 1))

-- ---- what a distributor waits for

pub none_waited : (i : Input Distribution) → Known None ≡ offered_in i → distributing i ≡ Steps
none_waited (Known (Widens xs)) e = refl
none_waited (Known Finished) e = refl
none_waited (Known (Splits one other xs)) e = absurd (cc (e))
none_waited (Unknown x) e = absurd (cc (e))
none_waited OtherKind e = absurd (cc (e))

pub some_waited : (i : Input Distribution) (xs : List Ident) → Known (Some xs) ≡ offered_in i → (offer : Offer) × (distributing i ≡ Offers offer xs) × (2 ≡ count_of offer)
some_waited (Known (Widens ys)) xs e = absurd (cc (e))
some_waited (Known Finished) xs e = absurd (cc (e))
some_waited (Known (Splits one other ys)) xs e = (Parts one other, ap (Offers (Parts one other)) (cc (e)), refl)
some_waited (Unknown x) xs e = absurd (cc (e))
some_waited OtherKind xs e = absurd (cc (e))

pub unknown_waited : (i : Input Distribution) (x : Ident) → Unknown x ≡ offered_in i → Waits (x ∷ []) ≡ distributing i
unknown_waited (Known d) x e = absurd (cc (e))
unknown_waited (Unknown y) x e = ap (λ z. Waits (z ∷ [])) (cc (e))
unknown_waited OtherKind x e = absurd (cc (e))

pub other_waited : (i : Input Distribution) → OtherKind ≡ offered_in i → distributing i ≡ Steps
other_waited (Known d) e = absurd (cc (e))
other_waited (Unknown y) e = absurd (cc (e))
other_waited OtherKind e = refl

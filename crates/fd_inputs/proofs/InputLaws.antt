-- Inputs by what is made of the known thing.
use Rattle.std.proofs.Common.{◌≡◌, ◌∙◌, ap, refl}
use Rattle.oz_semantics.specs.Inputs.{Input, both}
use Rattle.fd_inputs.specs.declared.input.Input as inputs
use Rattle.fd_inputs.specs.declared.input.Input.TheVariants as input
use Rattle.fd_inputs.specs.Answers.{input_of, both_of}

-- of two inputs, what is made of each
pub both_as : {A B C D : Type 0} (f : A → C) (g : B → D) (left : inputs.Input A) (right : inputs.Input B)
    → input_of (λ (p : A × B). (f p.0, g p.1)) (both_of left right) ≡ both (input_of f left) (input_of g right)
both_as f g (input.Known a) (input.Known b) = refl
both_as f g (input.Known a) (input.Unknown y) = refl
both_as f g (input.Known a) input.OtherKind = refl
both_as f g (input.Unknown x) right = refl
both_as f g input.OtherKind (input.Known b) = refl
both_as f g input.OtherKind (input.Unknown y) = refl
both_as f g input.OtherKind input.OtherKind = refl

-- inputs that were read
pub both_read : {A B C D : Type 0} (f : A → C) (g : B → D) (left : inputs.Input A) (right : inputs.Input B) (u : Input C) (v : Input D) (k : inputs.Input (A × B))
    → k ≡ both_of left right → input_of f left ≡ u → input_of g right ≡ v → input_of (λ (p : A × B). (f p.0, g p.1)) k ≡ both u v
both_read {A} {B} f g left right u v k e p q =
    ap (input_of (λ (i : A × B). (f i.0, g i.1))) e ∙ both_as f g left right ∙ ap (λ l. both l (input_of g right)) p ∙ ap (both u) q

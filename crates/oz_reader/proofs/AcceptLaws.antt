-- A program is accepted where nothing else is open.
use Rattle.std.proofs.Common.{◌≡◌, ◌≢◌, ◌+◌, None, List, [], ◌∷◌, length, refl, ap, ◌∙◌, arith}
use Rattle.open_constructs.specs.declared.frame.Frame.{Frame as FrameKept}
use Rattle.open_constructs.specs.View.{frame_of, onto_stack, stack_of}
use Rattle.oz_reader.specs.Stepping.{program_of}
use Rattle.reader_law.specs.Machine.{Frame, Stack, accepted, accepted_of}

accepted_among : (f g : Frame) (k : Stack) → accepted_of (f ∷ (g ∷ k)) ≡ None
accepted_among (accepted p) g k = refl
accepted_among f g k = refl

alone : (f : Frame) → accepted_of (f ∷ []) ≡ program_of f
alone (accepted p) = refl
alone f = refl

onto_many : (fs : List FrameKept) (f g : Frame) (k : Stack) → accepted_of (onto_stack (f ∷ (g ∷ k)) fs) ≡ None
onto_many [] f g k = accepted_among f g k
onto_many (h ∷ fs) f g k = onto_many fs (frame_of h) f (g ∷ k)

pub accepted_of_many : (fs : List FrameKept) → length fs ≢ 1 → accepted_of (stack_of fs) ≡ None
accepted_of_many [] h = refl
accepted_of_many (f ∷ []) h = absurd (h refl)
accepted_of_many (f ∷ (g ∷ fs)) h = onto_many fs (frame_of g) (frame_of f) []

nothing_left : (fs : List FrameKept) → length fs + 1 ≡ 1 → stack_of fs ≡ []
nothing_left [] h = refl
nothing_left (f ∷ fs) h = absurd (omega arith)

pub accepted_alone : (f : FrameKept) (fs : List FrameKept) → length fs + 1 ≡ 1 → accepted_of (frame_of f ∷ stack_of fs) ≡ program_of (frame_of f)
accepted_alone f fs h = ap (λ (k : Stack). accepted_of (frame_of f ∷ k)) (nothing_left fs h) ∙ alone (frame_of f)

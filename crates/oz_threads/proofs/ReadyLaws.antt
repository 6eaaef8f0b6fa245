-- What a thread can do goes by what is on top of its stack.
use Rattle.std.proofs.Common.{◌≡◌, List, [], ◌∷◌, Some, None, sym, ap, refl}
use Rattle.oz_base.specs.Lists.{first}
use Rattle.oz_semantics.specs.Sights.{Sight, Waits}
use Rattle.oz_semantics.specs.Statements.{code_answer, stack_answer}
use Rattle.oz_semantics.specs.Readiness.{answer_ready}
use Rattle.oz_semantics.specs.declared.configuration.Frame.{Frame}

-- by the frame on top, and without one
pub top_ready : (s : Sight) (frames : List Frame) (frame : Frame) → first frames ≡ Some frame → answer_ready (code_answer s frame.environment frame.code) ≡ answer_ready (stack_answer s frames)
top_ready s [] frame e = cc
top_ready s (f ∷ frames) frame e = sym (ap (λ (g : Frame). answer_ready (code_answer s g.environment g.code)) (same f frame e))
  where
    same : (f frame : Frame) → Some f ≡ Some frame → f ≡ frame
    same f frame e = cc

pub none_ready : (s : Sight) (frames : List Frame) → first frames ≡ None → Waits [] ≡ answer_ready (stack_answer s frames)
none_ready s [] e = refl
none_ready s (f ∷ frames) e = cc

-- What is open, and the phrases, as they are pushed and popped.
use Rattle.std.proofs.Common.{◌≡◌, ◌+◌, ◌<◌, ℕ, take, get_or, List, [], ◌∷◌, ◌++◌, length, true, false, refl, ap, arith}
use Rattle.std.proofs.lemmas.List.{append-nil, take_all, take_more}
use Rattle.oz_syntax.specs.declared.phrase.Phrase.{Phrase as Tree}
use Rattle.oz_syntax.specs.View.{view, views}
use Rattle.open_constructs.specs.declared.frame.Frame.{Frame as FrameKept}
use Rattle.open_constructs.specs.View.{frame_of, onto_stack, stack_of}
use Rattle.reader_law.specs.Machine.{Stack, is_some_item}

onto_push : (fs : List FrameKept) (k : Stack) (f : FrameKept) → onto_stack k (fs ++ f ∷ []) ≡ frame_of f ∷ onto_stack k fs
onto_push [] k f = refl
onto_push (g ∷ fs) k f = onto_push fs (frame_of g ∷ k) f

pub stack_push : (fs : List FrameKept) (f : FrameKept) → stack_of (fs ++ f ∷ []) ≡ frame_of f ∷ stack_of fs
stack_push fs f = onto_push fs [] f

pub stack_same : (fs : List FrameKept) → stack_of (fs ++ []) ≡ stack_of fs
stack_same fs = ap stack_of (append-nil fs)

-- the last one is on top of those before it
pub stack_last : (fs : List FrameKept) (n : ℕ) (f : FrameKept) → n + 1 ≡ length fs → f ≡ get_or fs n f → stack_of fs ≡ frame_of f ∷ stack_of (take n fs)
stack_last fs n f e h =
    let whole = take_all (n + 1) fs (omega arith) in
    let more = take_more fs n f (omega arith) in
    let pushed = stack_push (take n fs) (get_or fs n f) in
    cc

pub views_push : (ps : List Tree) (p : Tree) → views (ps ++ p ∷ []) ≡ views ps ++ view p ∷ []
views_push [] p = refl
views_push (q ∷ ps) p = ap (λ rest. view q ∷ rest) (views_push ps p)

pub some_views : (ps : List Tree) → 0 < length ps → is_some_item (views ps) ≡ true
some_views [] h = absurd (omega arith)
some_views (p ∷ ps) h = refl

pub no_views : (ps : List Tree) → length ps ≡ 0 → is_some_item (views ps) ≡ false
no_views [] h = refl
no_views (p ∷ ps) h = absurd (omega arith)

use Rattle.std.proofs.Common.{◌≡◌, ◌∙◌, ◌+◌, ℕ, List, ap, sym, drop, length, min, take}
use Rattle.std.proofs.lemmas.List.{drop-drop, take_rest}
use Rattle.oz_outside.proofs.Pieces.{gives_next}
use Rattle.oz_outside.proofs.memory.MemSourceSource.read.Goals as goal

pub returns-clause-bytes : goal.returns-clause-bytes
returns-clause-bytes c =
    let left = c.args.self.now.left in
    let n = c.min-n.result in
    let at = c.self.inside.at in
    let begun : drop at c.self.inside.bytes.items ≡ left = ap (λ v. v.left) c.self.view_is in
    let rest = take_rest c.deref.result.now at ∙ ap (drop at) c.deref.ensures.value ∙ begun in
    let later : drop n left ≡ drop (at + n) c.self.inside.bytes.items = ap (drop n) (sym begun) ∙ drop-drop n at c.self.inside.bytes.items in
    rw (← later) (gives_next left c.copy_from_slice.new.self c.args.buf.now n c.self.inside.chunk (c.copy_from_slice.ensures.after ∙ ap (take n) rest)
    (c.min-n.ensures ∙ ap (λ k. min k (length c.args.buf.now)) c.min.ensures ∙ ap (λ (r : List ℕ). min (min (length r) c.self.inside.chunk) (length c.args.buf.now)) rest) c.self.invariant.1)

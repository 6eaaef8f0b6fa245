use Rattle.std.proofs.Common.{◌∙◌, ◌-◌, nat_eq, position, Some, ap, sym}
use Rattle.term_text.proofs.Reversed.{absent_reversed, position_reversed}
use Rattle.term_text.proofs.nesting.Nesting.find.Goals as goal

pub returns-in_err-outside : goal.returns-in_err-outside
returns-in_err-outside c =
    c.from_residual.ensures ∙ sym (absent_reversed c.args.place c.self.inside.places.keys c.self.invariant (sym c.in_err-outside.ensures.index))
    ∙ ap (λ xs. position (nat_eq c.args.place) xs) c.self.view_is

pub returns : goal.returns
returns c =
    ap (λ n. Some (n - 1 - c.in_ok-outside.outside)) c.len.ensures.len
    ∙ sym (position_reversed c.args.place c.self.inside.places.keys c.in_ok-outside.outside c.self.invariant (sym c.in_ok-outside.ensures.index))
    ∙ ap (λ xs. position (nat_eq c.args.place) xs) c.self.view_is

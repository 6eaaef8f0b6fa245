use Rattle.std.proofs.Common.{◌≡◌, ◌∙◌, ◌+◌, ◌-◌, ◌*◌, length, slice_get, sym, ap, arith}
use Rattle.term_store.specs.Logs.{told_in, with_ended}
use Rattle.term_store.proofs.LogLaws.{get_rest}
use Rattle.term_store.proofs.log.Log.get.Goals as goal

pub returns : goal.returns
returns c =
    let from : c.args.place ≡ 32 * length (with_ended c.self.inside.chunks c.self.inside.ended) + (c.args.place - c.listed-listed.result) =
    omega (arith, c.listed-listed.ensures, c.if-place-listed.false, ap (λ l. length l.chunks) c.self.view_is) in
    c.at.ensures
    ∙ ap (λ ts. slice_get ts (c.args.place - c.listed-listed.result)) c.as_slice.ensures.value
    ∙ sym (get_rest (with_ended c.self.inside.chunks c.self.inside.ended) c.self.inside.rest.items c.self.invariant.0 c.args.place (c.args.place - c.listed-listed.result) from)
    ∙ ap (λ l. slice_get (told_in l) c.args.place) c.self.view_is

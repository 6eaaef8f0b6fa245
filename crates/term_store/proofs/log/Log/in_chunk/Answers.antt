use Rattle.std.proofs.Common.{◌≡◌, ◌∙◌, ◌+◌, ◌*◌, ◌<◌, Some, None, length, slice_get, option_copied, refl, sym, ap, subst}
use Rattle.term_store.specs.Logs.{told_in, with_ended}
use Rattle.term_store.proofs.LogLaws.{get_chunk, none_at}
use Rattle.term_store.proofs.log.Log.in_chunk.Goals as goal

pub returns-in-None : goal.returns-in-None
returns-in-None c =
    let at : slice_get (with_ended c.self.inside.chunks c.self.inside.ended) c.args.chunk ≡ None =
    ap (λ e. slice_get (with_ended c.self.inside.chunks e) c.args.chunk) (sym c.as_ref.ensures.value) ∙ sym c.chunk_at.ensures ∙ ap (λ o. option_copied o) c.in-None.is in
    absurd (none_at (with_ended c.self.inside.chunks c.self.inside.ended) c.args.chunk at (subst (λ l. c.args.chunk < length l.chunks) (sym c.self.view_is) c.requires.chunk))

pub returns-in-Some : goal.returns-in-Some
returns-in-Some c =
    let at : slice_get (with_ended c.self.inside.chunks c.self.inside.ended) c.args.chunk ≡ Some c.in-Some.tells.now =
    ap (λ e. slice_get (with_ended c.self.inside.chunks e) c.args.chunk) (sym c.as_ref.ensures.value) ∙ sym c.chunk_at.ensures ∙ ap (λ o. option_copied o) c.in-Some.is in
    let told : slice_get (told_in c.args.self.now) (32 * c.args.chunk + c.args.place) ≡ slice_get c.in-Some.tells.now c.args.place =
    sym (ap (λ l. slice_get (told_in l) (32 * c.args.chunk + c.args.place)) c.self.view_is)
    ∙ get_chunk (with_ended c.self.inside.chunks c.self.inside.ended) c.self.inside.rest.items c.self.invariant.0 c.args.chunk c.args.place (32 * c.args.chunk + c.args.place) c.in-Some.tells.now at c.requires.place refl in
    c.at.ensures ∙ ap (λ ts. slice_get ts c.args.place) c.as_slice.ensures ∙ sym told

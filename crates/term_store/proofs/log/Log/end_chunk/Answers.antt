use Rattle.std.proofs.Common.{◌≡◌, ◌∙◌, ◌++◌, ◌∷◌, ◌<◌, ◌^◌, [], length, Some, subst, sym, arith, ap}
use Rattle.std.specs.List.{flat_map}
use Rattle.term_store.specs.Logs.{AllFull, with_ended}
use Rattle.term_store.proofs.LogLaws.{length_told, ended_full, ended_told, ended_count}
use Rattle.term_store.proofs.log.Log.end_chunk.Goals as goal

pub overflow_add-self : goal.overflow_add-self
overflow_add-self c = omega (arith, ap (λ l. length l.rest) c.self.view_is, c.requires.full, c.self.invariant.2, c.self.invariant.3, length_told (with_ended c.self.inside.chunks c.self.inside.ended) c.self.inside.rest.items c.self.invariant.0)

pub invariant_of-self-2 : goal.invariant_of-self-2
invariant_of-self-2 c =
    let inside = c.self.inside in
    let after = c.put_ended.new in
    let full : length c.self.inside.rest.items ≡ 32 = ap (λ l. length l.rest) c.self.view_is ∙ c.requires.full in
    let now : AllFull (c.put_ended.new.chunks ++ c.in_ok-chunk.chunk ∷ []) =
    ended_full inside.chunks after.chunks inside.ended after.ended c.in_ok-chunk.chunk inside.rest.items c.chunk_of.new.tells.items c.put_ended.ensures.same c.in_ok-put_ended.ensures.filed c.in_ok-chunk.ensures.chunk c.in_ok-chunk.ensures.ok c.self.invariant.0 full in
    let told : flat_map (λ d. d) (with_ended c.put_ended.new.chunks (Some c.in_ok-chunk.chunk)) ++ c.chunk_of.new.tells.items ≡ flat_map (λ d. d) (with_ended c.self.inside.chunks c.self.inside.ended) ++ c.self.inside.rest.items =
    ended_told inside.chunks after.chunks inside.ended after.ended c.in_ok-chunk.chunk inside.rest.items c.chunk_of.new.tells.items c.put_ended.ensures.same c.in_ok-put_ended.ensures.filed c.in_ok-chunk.ensures.chunk c.in_ok-chunk.ensures.ok in (
      now,
      omega (arith, ap length c.in_ok-chunk.ensures.ok),
      subst (λ ts. length ts < 2 ^ 64) (sym told) c.self.invariant.2,
      omega (arith, c.self.invariant.3, ended_count inside.chunks after.chunks inside.ended after.ended c.in_ok-chunk.chunk inside.rest.items c.chunk_of.new.tells.items c.put_ended.ensures.same c.in_ok-put_ended.ensures.filed c.in_ok-chunk.ensures.chunk c.in_ok-chunk.ensures.ok),
    )

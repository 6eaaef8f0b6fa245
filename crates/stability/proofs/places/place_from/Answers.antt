use Rattle.std.proofs.Common.{sym, ap, ◌∙◌, List, ℕ, arith}
use Rattle.oz_base.specs.Lists.{list_eq}
use Rattle.oz_semantics.specs.Configurations.{is_of}
use Rattle.stability.specs.Places.{from_place}
use Rattle.stability.proofs.Firsts.{layer_found, layer_left, place_end}
use Rattle.stability.proofs.places.place_from.Goals as goal

pub returns-then-same_space : goal.returns-then-same_space
returns-then-same_space c =
    layer_found (is_of c.args.space.now) c.args.levels.now c.loop-place.place (from_place (is_of c.args.space.now) c.args.levels.now c.args.from) (omega arith) c.loop-place.invariant
    (λ l e. sym c.if-same_space.true ∙ c.same_space.ensures ∙ ap (λ (s : List ℕ). list_eq s c.args.space.now) (c.space_at.ensures l e))

pub loop-place-preserved : goal.loop-place-preserved
loop-place-preserved c =
    layer_left (is_of c.args.space.now) c.args.levels.now c.loop-place.place (from_place (is_of c.args.space.now) c.args.levels.now c.args.from) (omega arith) c.loop-place.invariant
    (λ l e. sym c.if-same_space.false ∙ c.same_space.ensures ∙ ap (λ (s : List ℕ). list_eq s c.args.space.now) (c.space_at.ensures l e))

pub returns : goal.returns
returns c = place_end (is_of c.args.space.now) c.args.levels.now c.loop-place.place _ (omega arith) c.loop-place.invariant

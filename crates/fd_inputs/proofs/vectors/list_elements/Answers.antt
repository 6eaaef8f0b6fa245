use Rattle.std.proofs.Common.{◌∙◌, ◌-◌, ◌++◌, ◌∷◌, ap, sym, refl, inl, arith, suc, length, []}
use Rattle.oz_semantics.specs.Inputs.{Unknown}
use Rattle.oz_semantics.specs.Vectors.{list_elements}
use Rattle.fd_inputs.proofs.SpineLaws.{walked, after_all, at_unknown, at_other, at_end, at_limit, at_return, at_cell, still_passed, from_start}
use Rattle.fd_inputs.proofs.vectors.list_elements.Goals as goal

pub cells-init : goal.cells-init
cells-init c = (
  ap (λ hs. after_all hs (walked c.args.store.now (suc c.len-left.result) c.args.x.now)) c.new-elements.ensures.items
      ∙ ap (λ n. after_all [] (walked c.args.store.now (suc n) c.args.x.now)) c.len-left.ensures
      ∙ from_start c.args.store.now (suc (length c.args.store.now)) c.args.x.now,
  inl refl,
)

pub returns-in-Unknown : goal.returns-in-Unknown
returns-in-Unknown c =
    ap Unknown c.in_ok-copied-in-Unknown.ensures
    ∙ at_unknown c.args.store.now c.cells.elements.items c.cells.left c.cells.place.now (list_elements c.args.store.now (suc (length c.args.store.now)) [] c.args.x.now) c.in-Unknown.ensures c.cells.invariant.0

pub returns-in-OtherKind : goal.returns-in-OtherKind
returns-in-OtherKind c =
    at_other c.args.store.now c.cells.elements.items c.cells.left c.cells.place.now (list_elements c.args.store.now (suc (length c.args.store.now)) [] c.args.x.now) c.in-OtherKind.ensures c.cells.invariant.0

pub returns-in-End : goal.returns-in-End
returns-in-End c =
    at_end c.args.store.now c.cells.elements.items c.cells.left c.cells.place.now (list_elements c.args.store.now (suc (length c.args.store.now)) [] c.args.x.now) c.in-End.ensures c.cells.invariant.0

pub returns-then-left-eq0 : goal.returns-then-left-eq0
returns-then-left-eq0 c =
    at_limit c.args.store.now c.cells.elements.items c.cells.left c.cells.place.now c.in-Cell.head.now c.in-Cell.tail.now (list_elements c.args.store.now (suc (length c.args.store.now)) [] c.args.x.now)
    c.in-Cell.ensures c.if-left-eq0.true c.cells.invariant.0

pub returns-then-same : goal.returns-then-same
returns-then-same c =
    at_return c.args.store.now c.cells.elements.items c.cells.left c.cells.place.now c.in-Cell.head.now c.in-Cell.tail.now c.cells.passed.now (list_elements c.args.store.now (suc (length c.args.store.now)) [] c.args.x.now)
    c.in-Cell.ensures (sym c.if-same.ensures) c.cells.invariant.1 c.cells.invariant.0

pub cells-preserved : goal.cells-preserved
cells-preserved c = (
  at_cell c.args.store.now c.cells.elements.items c.push.new.self.items c.cells.left (c.cells.left - 1) c.cells.place.now c.in-Cell.head.now c.in-Cell.tail.now (list_elements c.args.store.now (suc (length c.args.store.now)) [] c.args.x.now)
      c.in-Cell.ensures (omega (arith, c.if-left-eq0.false)) (c.in_ok-push-in-Cell.ensures.items ∙ ap (λ z. c.cells.elements.items ++ z ∷ []) c.in_ok-copied-in-Cell.ensures) c.cells.invariant.0,
  still_passed c.args.store.now c.cells.passed.now c.looked_out_for-passed.result.now c.cells.place.now c.in-Cell.head.now c.in-Cell.tail.now c.looked_out_for-passed.ensures c.cells.invariant.1 c.in-Cell.ensures,
)

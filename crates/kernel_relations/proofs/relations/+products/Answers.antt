use Rattle.std.proofs.Common.{◌≡◌, ◌∙◌, ap}
use Rattle.oz_language.specs.Grammar.{Phrase, binary}
use Rattle.oz_syntax.specs.declared.phrase.Phrase.TheOpen.{Phrase-F}
use Rattle.oz_syntax.specs.declared.phrase.Phrase.TheFolds.{fold-roll-Phrase}
use Rattle.oz_syntax.specs.View.{view, view_step}
use Rattle.kernel_relations.proofs.RelationLaws.{products_plus, products_minus}
use Rattle.kernel_relations.proofs.relations.+products.Goals as goal

pub returns-in_ok-products-in-Plus-2 : goal.returns-in_ok-products-in-Plus-2
unfolding Rattle.oz_syntax.specs.declared.phrase.Phrase.TheViews.roll-Phrase denote.Hole.Carrier.roll
returns-in_ok-products-in-Plus-2 t c =
    let seen : view c.args.side.now ≡ binary c.in-Binary.operator (view c.in-Binary.left.value) (view c.in-Binary.right.value) =
    ap view c.in-Binary.is ∙ fold-roll-Phrase Phrase view_step (Phrase-F.Binary c.in-Binary.operator c.in-Binary.left c.in-Binary.right) in
    rw (seen, c.in-Plus.is)
    (products_plus c.args.output.now _ _ c.args.names.next _ (view c.in-Binary.left.value) (view c.in-Binary.right.value)
    (rw c.deref.ensures at c.in_ok-products-in-Plus.ensures)
    (rw c.deref-in-Plus.ensures at c.in_ok-behind_side-in-Plus.ensures)
    (rw c.deref-in-Plus-2.ensures at c.in_ok-products-in-Plus-2.ensures))

pub returns-in_ok-products-in-Minus-2 : goal.returns-in_ok-products-in-Minus-2
unfolding Rattle.oz_syntax.specs.declared.phrase.Phrase.TheViews.roll-Phrase denote.Hole.Carrier.roll
returns-in_ok-products-in-Minus-2 t c =
    let seen : view c.args.side.now ≡ binary c.in-Binary.operator (view c.in-Binary.left.value) (view c.in-Binary.right.value) =
    ap view c.in-Binary.is ∙ fold-roll-Phrase Phrase view_step (Phrase-F.Binary c.in-Binary.operator c.in-Binary.left c.in-Binary.right) in
    rw (seen, c.in-Minus.is)
    (products_minus c.args.output.now _ _ c.args.names.next _ (view c.in-Binary.left.value) (view c.in-Binary.right.value)
    (rw c.deref-in-Minus.ensures at c.in_ok-products-in-Minus.ensures)
    (rw c.deref-in-Minus-2.ensures at c.in_ok-behind_side-in-Minus.ensures)
    (rw c.deref-in-Minus-3.ensures at c.in_ok-products-in-Minus-2.ensures))

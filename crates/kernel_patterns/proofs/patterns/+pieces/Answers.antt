use Rattle.std.proofs.Common.{◌≡◌, ◌∙◌, List, ap, sym, subst}
use Rattle.std.specs.Prelude.{IfOk}
use Rattle.oz_language.specs.Grammar.{Phrase, paren, of_list}
use Rattle.oz_language.specs.Kernels.{pieces}
use Rattle.oz_language.specs.Translation.{patterned}
use Rattle.oz_language.specs.declared.kernel.Piece.{Piece}
use Rattle.oz_syntax.specs.declared.phrase.Phrase.TheOpen.{Phrase-F}
use Rattle.oz_syntax.specs.declared.phrase.Phrase.TheFolds.{fold-roll-Phrase}
use Rattle.oz_syntax.specs.View.{view, views, view_step}
use Rattle.kernel_patterns.proofs.ParenLaws.{paren_one, paren_others, paren_anywhere}
use Rattle.kernel_patterns.proofs.patterns.+pieces.Goals as goal

pub paren_pieces-returns-then-inner-ne1 : goal.paren_pieces-returns-then-inner-ne1
paren_pieces-returns-then-inner-ne1 t c =
    subst (λ (ps : List Piece). IfOk c.one.result (λ nodes. nodes ≡ ps)) (paren_others c.args.words.now c.args.inner.now c.if-inner-ne1.true) c.one.ensures

pub paren_pieces-returns : goal.paren_pieces-returns
paren_pieces-returns t c =
    subst (λ (ps : List Piece). IfOk c.pieces.result (λ nodes. nodes ≡ ps))
    (paren_one c.args.words.now c.args.inner.now c.index-inner-0.result c.if-inner-ne1.false c.index-inner-0.is) c.pieces.ensures

pub pieces-returns-in-Paren : goal.pieces-returns-in-Paren
unfolding Rattle.oz_syntax.specs.declared.phrase.Phrase.TheViews.roll-Phrase denote.Hole.Carrier.roll
pieces-returns-in-Paren t c =
    let words = c.args.words.now in
    let seen : view c.args.pattern.now ≡ paren c.in-Paren.at (of_list (views c.in-Paren.inner.items)) =
    ap view c.in-Paren.is ∙ fold-roll-Phrase Phrase view_step (Phrase-F.Paren c.in-Paren.at c.in-Paren.inner) in
    subst (λ (ps : List Piece). IfOk c.paren_pieces.result (λ nodes. nodes ≡ ps))
    (ap (λ ps. pieces (patterned words (paren 0 (of_list (views ps))))) c.deref-in-Paren.ensures.value
    ∙ paren_anywhere words c.in-Paren.at (of_list (views c.in-Paren.inner.items))
    ∙ ap (λ p. pieces (patterned words p)) (sym seen))
    c.paren_pieces.ensures

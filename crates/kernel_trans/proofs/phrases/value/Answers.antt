use Rattle.kernel_writer.specs.Tasks.{state_of, written, all_done}
use Rattle.oz_syntax.specs.View.{view, views, view_step}
use Rattle.oz_language.specs.Grammar.{of_list, Phrase, paren}
use Rattle.oz_language.specs.Translation.{translated, value}
use Rattle.std.proofs.Common.{ap, sym, ◌∙◌, ◌≡◌}
use Rattle.kernel_trans.proofs.Building.{inner_anywhere}
use Rattle.oz_syntax.specs.declared.phrase.Phrase.TheFolds.{fold-roll-Phrase}
use Rattle.oz_syntax.specs.declared.phrase.Phrase.TheOpen.{Phrase-F}
use Rattle.kernel_trans.proofs.phrases.value.Goals as goal

pub returns-in_ok-inner_value-in-Paren : goal.returns-in_ok-inner_value-in-Paren
unfolding Rattle.oz_syntax.specs.declared.phrase.Phrase.TheViews.roll-Phrase denote.Hole.Carrier.roll
returns-in_ok-inner_value-in-Paren c =
    let w = c.args.writer.now in
    let words = c.args.words.now in
    let es = of_list (views c.deref-in-Paren.result.now) in
    let seen : view c.args.phrase.now ≡ paren c.in-Paren.at es =
    rw c.deref-in-Paren.ensures.value (ap view c.in-Paren.is ∙ fold-roll-Phrase Phrase view_step (Phrase-F.Paren c.in-Paren.at c.in-Paren.inner)) in
    c.in_ok-inner_value-in-Paren.ensures words
    ∙ ap (λ m. all_done words w.tasks (written (state_of w) m))
    (sym (inner_anywhere words c.args.name w.numbers.next c.in-Paren.at es) ∙ ap (translated words (value c.args.name) w.numbers.next) (sym seen))

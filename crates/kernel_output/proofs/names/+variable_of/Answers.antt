use Rattle.std.proofs.Common.{◌≡◌, ◌∙◌, ap}
use Rattle.oz_language.specs.Grammar.{Phrase, paren, of_list}
use Rattle.oz_syntax.specs.View.{view, views, view_step}
use Rattle.oz_syntax.specs.declared.phrase.Phrase.TheOpen.{Phrase-F}
use Rattle.oz_syntax.specs.declared.phrase.Phrase.TheFolds.{fold-roll-Phrase}
use Rattle.kernel_output.proofs.Listing.{many_no_variable}
use Rattle.kernel_output.proofs.names.+variable_of.Goals as goal

pub returns-in_default-as_slice-2 : goal.returns-in_default-as_slice-2
unfolding Rattle.oz_syntax.specs.declared.phrase.Phrase.TheViews.roll-Phrase denote.Hole.Carrier.roll
returns-in_default-as_slice-2 t c =
    let seen : view c.args.phrase.now ≡ paren c.in-Paren.at (of_list (views c.as_slice.result.now)) =
    rw c.as_slice.ensures.value (ap view c.in-Paren.is ∙ fold-roll-Phrase Phrase view_step (Phrase-F.Paren c.in-Paren.at c.in-Paren.inner)) in
    rw seen (many_no_variable c.in-Paren.at c.as_slice.result.now c.in_default-as_slice.len_at_least)

use Rattle.std.proofs.Common.{◌≡◌, ◌∙◌, None, refl, ap}
use Rattle.oz_language.specs.Grammar.{Phrase, paren, of_list}
use Rattle.oz_syntax.specs.View.{view, views, view_step}
use Rattle.oz_syntax.specs.declared.phrase.Phrase.TheOpen.{Phrase-F}
use Rattle.oz_syntax.specs.declared.phrase.Phrase.TheFolds.{fold-roll-Phrase}
use Rattle.fd_form.specs.Parts.{bounds_of}
use Rattle.fd_form.proofs.ParenLaws.{of_many}
use Rattle.fd_form.proofs.bounds.+bounds_of.Goals as goal

pub returns-in-len2-up : goal.returns-in-len2-up
unfolding Rattle.oz_syntax.specs.declared.phrase.Phrase.TheViews.roll-Phrase denote.Hole.Carrier.roll
returns-in-len2-up t c =
    let seen : view c.args.phrase.now ≡ paren c.in-Paren.at (of_list (views c.as_slice.result.now)) =
    rw c.as_slice.ensures.value (ap view c.in-Paren.is ∙ fold-roll-Phrase Phrase view_step (Phrase-F.Paren c.in-Paren.at c.in-Paren.inner)) in
    rw seen (of_many bounds_of None c.in-Paren.at c.as_slice.result.now c.in-len2-up.len_at_least (λ p q es. refl))

use Rattle.std.specs.Prelude.{◌≡◌, fold, map, drop}
use Rattle.oz_base.specs.Words.{with_text}
use Rattle.oz_lex.proofs.tokens.numbered.Given as goal

abbrev pub invariant-texts : goal.invariant-texts
invariant-texts l =
    fold with_text l.words (map (λ text. text.now) (drop l.text-index l.texts)) ≡ fold with_text l.initial.words (map (λ text. text.now) l.texts)

-- Lists of phrases: what is left of one, and what there is where there are more than one.
use Rattle.std.proofs.Common.{◌≡◌, ℕ, None, List, [], ◌∷◌, refl, ap, sym, ◌∙◌, ◌+◌, length, ◌<◌, ◌≤◌, get_or, drop, arith}
use Rattle.std.proofs.lemmas.List.{drop_more, drop_all}
use Rattle.oz_language.specs.Grammar.{more, of_list, nothing, paren}
use Rattle.oz_language.specs.Translation.{variable_of, last_variable}
use Rattle.oz_syntax.specs.View.{view, views}
use Rattle.oz_syntax.specs.declared.phrase.Phrase.{Phrase as Tree}

-- the next one and the others
pub next_one : (ps : List Tree) (i : ℕ) (e : Tree) → i < length ps → e ≡ get_or ps i e → of_list (views (drop i ps)) ≡ more (view e) (of_list (views (drop (i + 1) ps)))
next_one ps i e lt is = ap (λ es. of_list (views es)) (drop_more ps i e lt ∙ ap (λ y. y ∷ drop (i + 1) ps) (sym is))

-- or none
pub none_left : (ps : List Tree) (i : ℕ) → length ps ≤ i → of_list (views (drop i ps)) ≡ nothing
none_left ps i le = ap (λ es. of_list (views es)) (drop_all i ps le)

-- what stands in parentheses beside others is no variable
pub many_no_variable : (at : ℕ) (ps : List Tree) → 2 ≤ length ps → None ≡ variable_of (paren at (of_list (views ps)))
many_no_variable at [] h = absurd (omega (arith, h))
many_no_variable at (p ∷ []) h = absurd (omega (arith, h))
many_no_variable at (p ∷ q ∷ ps) h = refl

pub many_no_last : (ps : List Tree) → 2 ≤ length ps → last_variable (of_list (views ps)) ≡ None
many_no_last [] h = absurd (omega (arith, h))
many_no_last (p ∷ []) h = absurd (omega (arith, h))
many_no_last (p ∷ q ∷ ps) h = refl

-- What one phrase and the others behind it declare.
use Rattle.std.proofs.Common.{◌≡◌, ℕ, ◌+◌, ◌<◌, Bool, true, false, Option, Some, None, List, [], ◌∷◌, ◌++◌, length, get_or, drop, append_assoc, refl, ap, sym, ◌∙◌}
use Rattle.std.specs.Prelude.{if◌then◌else◌}
use Rattle.oz_language.specs.Grammar.{of_list}
use Rattle.oz_language.specs.Refusals.{contains, declared_by}
use Rattle.oz_language.specs.Translation.{once, declared}
use Rattle.oz_language.specs.declared.kernel.Identifier.{Identifier}
use Rattle.oz_language.specs.declared.kernel.Identifier.TheVariants.{Word}
use Rattle.oz_syntax.specs.declared.phrase.Phrase.{Phrase as Tree}
use Rattle.oz_syntax.specs.View.{view, views}
use Rattle.kernel_output.specs.Declares.{first_time, seen_with}
use Rattle.kernel_output.proofs.Listing.{next_one}

tested : (b : Bool) (x : Identifier) (seen next : List ℕ) (rest : List ℕ → List Identifier) →
    (if b then rest seen else x ∷ rest next) ≡ (if b then [] else x ∷ []) ++ rest (if b then seen else next)
tested true x seen next rest = refl
tested false x seen next rest = refl

pub once_first : (seen : List ℕ) (name : Option ℕ) (rest : List ℕ → List Identifier) → once seen name rest ≡ first_time seen name ++ rest (seen_with name seen)
once_first seen None rest = refl
once_first seen (Some name) rest = tested (contains seen name) (Word name) seen (name ∷ seen) rest

pub declared_loop : (xs xs' f : List Identifier) (seen seen' : List ℕ) (ps : List Tree) (i : ℕ) (e : Tree) →
    i < length ps → e ≡ get_or ps i e →
    xs' ≡ xs ++ first_time seen (declared_by (view e)) → seen' ≡ seen_with (declared_by (view e)) seen →
    xs ++ declared seen (of_list (views (drop i ps))) ≡ f →
    xs' ++ declared seen' (of_list (views (drop (i + 1) ps))) ≡ f
declared_loop xs xs' f seen seen' ps i e lt is ex es h =
    let rest = of_list (views (drop (i + 1) ps)) in
    ap (λ q. q ++ declared seen' rest) ex
    ∙ ap (λ q. (xs ++ first_time seen (declared_by (view e))) ++ declared q rest) es
    ∙ append_assoc xs (first_time seen (declared_by (view e))) _
    ∙ ap (λ q. xs ++ q) (sym (once_first seen (declared_by (view e)) (λ names. declared names rest)))
    ∙ sym (ap (λ q. xs ++ declared seen q) (next_one ps i e lt is))
    ∙ h

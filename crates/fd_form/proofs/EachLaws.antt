-- The same of each of some phrases, read one after the other.
use Rattle.std.proofs.Common.{◌≡◌, ℕ, ◌+◌, ◌<◌, ◌≤◌, Option, Some, None, option_map, List, [], ◌∷◌, ◌++◌, length, get_or, drop, append_assoc, refl, ap, sym, ◌∙◌}
use Rattle.std.proofs.lemmas.List.{append-nil}
use Rattle.oz_language.specs.Grammar.{Phrase, of_list}
use Rattle.oz_syntax.specs.declared.phrase.Phrase.{Phrase as Tree}
use Rattle.oz_syntax.specs.View.{view, views}
use Rattle.kernel_output.proofs.Listing.{next_one, none_left}
use Rattle.fd_form.specs.Parts.{both, each}

-- behind what is read already
abbrev pub behind : {A : Type 0} → List A → Option (List A) → Option (List A)
behind xs rest = option_map (λ ys. xs ++ ys) rest

one_more : {A : Type 0} (xs : List A) (x : A) (rest : Option (List A)) →
    behind xs (option_map (λ a. a.0 ∷ a.1) (both (Some x) rest)) ≡ behind (xs ++ x ∷ []) rest
one_more xs x None = refl
one_more xs x (Some ys) = ap Some (sym (append_assoc xs (x ∷ []) ys))

pub each_some : {A : Type 0} (read : Phrase → Option A) (all : Option (List A)) (xs xs' : List A) (ps : List Tree) (i : ℕ) (e : Tree) (x : A) →
    i < length ps → e ≡ get_or ps i e → read (view e) ≡ Some x → xs' ≡ xs ++ x ∷ [] →
    all ≡ behind xs (each read (of_list (views (drop i ps)))) → all ≡ behind xs' (each read (of_list (views (drop (i + 1) ps))))
each_some read all xs xs' ps i e x lt is ex exs h =
    let rest = each read (of_list (views (drop (i + 1) ps))) in
    h ∙ ap (λ q. behind xs (each read q)) (next_one ps i e lt is)
    ∙ ap (λ o. behind xs (option_map (λ a. a.0 ∷ a.1) (both o rest))) ex
    ∙ one_more xs x rest ∙ ap (λ q. behind q rest) (sym exs)

pub each_none : {A : Type 0} (read : Phrase → Option A) (all : Option (List A)) (xs : List A) (ps : List Tree) (i : ℕ) (e : Tree) →
    i < length ps → e ≡ get_or ps i e → read (view e) ≡ None →
    all ≡ behind xs (each read (of_list (views (drop i ps)))) → None ≡ all
each_none read all xs ps i e lt is ex h =
    let rest = each read (of_list (views (drop (i + 1) ps))) in
    sym (h ∙ ap (λ q. behind xs (each read q)) (next_one ps i e lt is) ∙ ap (λ o. behind xs (option_map (λ a. a.0 ∷ a.1) (both o rest))) ex)

pub each_end : {A : Type 0} (read : Phrase → Option A) (all : Option (List A)) (xs : List A) (ps : List Tree) (i : ℕ) →
    length ps ≤ i → all ≡ behind xs (each read (of_list (views (drop i ps)))) → Some xs ≡ all
each_end read all xs ps i le h =
    sym (h ∙ ap (λ q. behind xs (each read q)) (none_left ps i le) ∙ ap Some (append-nil xs))

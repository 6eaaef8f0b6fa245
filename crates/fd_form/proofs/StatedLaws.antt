-- What statements state, read one after the other.
use Rattle.std.proofs.Common.{◌≡◌, ℕ, ◌+◌, ◌<◌, ◌≤◌, Option, Some, None, option_map, List, [], ◌∷◌, ◌++◌, length, get_or, drop, append_assoc, refl, ap, sym, ◌∙◌}
use Rattle.std.proofs.lemmas.List.{append-nil}
use Rattle.oz_language.specs.Grammar.{of_list}
use Rattle.oz_syntax.specs.declared.phrase.Phrase.{Phrase as Tree}
use Rattle.oz_syntax.specs.View.{view, views}
use Rattle.fd_problems.specs.declared.problem.Distribution.{Distribution}
use Rattle.fd_problems.specs.declared.problem.Item.{Item}
use Rattle.kernel_output.proofs.Listing.{next_one, none_left}
use Rattle.fd_form.specs.Parts.{both}
use Rattle.fd_form.specs.FdScripts.{items_of, distribution_of, stated}
use Rattle.fd_form.specs.Steps.{all_items}
use Rattle.fd_form.proofs.EachLaws.{behind}

-- the items of one statement, and of the others
abbrev pub with_others : Option (List Item) → Option (List Item) → Option (List Item)
with_others is rest = option_map (λ (p : List Item × List Item). p.0 ++ p.1) (both is rest)

one_more : (xs is : List Item) (rest : Option (List Item)) → behind xs (with_others (Some is) rest) ≡ behind (xs ++ is) rest
one_more xs is None = refl
one_more xs is (Some js) = ap Some (sym (append_assoc xs is js))

pub items_some : (root : ℕ) (vs : List ℕ) (all : Option (List Item)) (xs xs' is : List Item) (ps : List Tree) (i : ℕ) (e : Tree) →
    i < length ps → e ≡ get_or ps i e → Some is ≡ items_of root vs (view e) → xs' ≡ xs ++ is →
    all ≡ behind xs (all_items root vs (of_list (views (drop i ps)))) → all ≡ behind xs' (all_items root vs (of_list (views (drop (i + 1) ps))))
items_some root vs all xs xs' is ps i e lt same found exs h =
    let rest = all_items root vs (of_list (views (drop (i + 1) ps))) in
    h ∙ ap (λ q. behind xs (all_items root vs q)) (next_one ps i e lt same)
    ∙ ap (λ o. behind xs (with_others o rest)) (sym found)
    ∙ one_more xs is rest ∙ ap (λ q. behind q rest) (sym exs)

pub items_none : (root : ℕ) (vs : List ℕ) (all : Option (List Item)) (xs : List Item) (ps : List Tree) (i : ℕ) (e : Tree) →
    i < length ps → e ≡ get_or ps i e → None ≡ items_of root vs (view e) →
    all ≡ behind xs (all_items root vs (of_list (views (drop i ps)))) → None ≡ all
items_none root vs all xs ps i e lt same found h =
    let rest = all_items root vs (of_list (views (drop (i + 1) ps))) in
    sym (h ∙ ap (λ q. behind xs (all_items root vs q)) (next_one ps i e lt same) ∙ ap (λ o. behind xs (with_others o rest)) (sym found))

pub items_end : (root : ℕ) (vs : List ℕ) (all : Option (List Item)) (xs : List Item) (ps : List Tree) (i : ℕ) →
    length ps ≤ i → all ≡ behind xs (all_items root vs (of_list (views (drop i ps)))) → Some xs ≡ all
items_end root vs all xs ps i le h =
    sym (h ∙ ap (λ q. behind xs (all_items root vs q)) (none_left ps i le) ∙ ap Some (append-nil xs))

-- the last one distributes
alone : (d : Option Distribution) → ◌≡◌ {A = Option (List Item × Distribution)} (option_map (λ x. ([], x)) d) (both (Some []) d)
alone None = refl
alone (Some x) = refl

grouped : (o a : Option (List Item)) (d : Option Distribution) →
    ◌≡◌ {A = Option (List Item × Distribution)}
    (option_map (λ (p : List Item × (List Item × Distribution)). (p.0 ++ p.1.0, p.1.1)) (both o (both a d)))
    (both (with_others o a) d)
grouped None a d = refl
grouped (Some is) None d = refl
grouped (Some is) (Some js) None = refl
grouped (Some is) (Some js) (Some x) = refl

pub stated_last : (root : ℕ) (vs : List ℕ) (ps : List Tree) (s : Tree) →
    stated root vs (of_list (views (ps ++ s ∷ []))) ≡ both (all_items root vs (of_list (views ps))) (distribution_of root vs (view s))
stated_last root vs [] s = alone (distribution_of root vs (view s))
stated_last root vs (p ∷ []) s =
    ap (λ q. option_map (λ (r : List Item × (List Item × Distribution)). (r.0 ++ r.1.0, r.1.1)) (both (items_of root vs (view p)) q)) (stated_last root vs [] s)
    ∙ grouped (items_of root vs (view p)) (Some []) (distribution_of root vs (view s))
stated_last root vs (p ∷ q ∷ ps) s =
    ap (λ r. option_map (λ (r : List Item × (List Item × Distribution)). (r.0 ++ r.1.0, r.1.1)) (both (items_of root vs (view p)) r)) (stated_last root vs (q ∷ ps) s)
    ∙ grouped (items_of root vs (view p)) (all_items root vs (of_list (views (q ∷ ps)))) (distribution_of root vs (view s))

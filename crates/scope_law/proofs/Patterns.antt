-- The variables of a pattern are those of its phrase.
use Rattle.std.proofs.Common.{◌≡◌, ◌⊎◌, inl, inr, ℕ, suc, List, [], ◌∷◌, ◌++◌, true, nat_le, refl, ap, subst, sym, map}
use Rattle.std.specs.List.{Contains, zip}
use Rattle.std.proofs.lemmas.List.Elements.{Contains-append_left, Contains-append_right, Contains-append_cases}
use Rattle.oz_language.specs.declared.kernel.Identifier.{Identifier}
use Rattle.oz_language.specs.declared.kernel.Identifier.TheVariants.{Word}
use Rattle.oz_language.specs.declared.kernel.Constant.{Constant}
use Rattle.oz_language.specs.declared.token.Literal.{Literal}
use Rattle.oz_language.specs.Arities.{feature_lt, placed_field, in_arity_order}
use Rattle.oz_language.specs.Kernels.{Pattern}
use Rattle.oz_language.specs.Grammar.{Phrase, Phrases, nothing, more, var, rec, keyed, list, paren, bars, hashes, level_of_bars, level_of_hashes, term, terms, fields, is_more, at_least_two}
use Rattle.oz_language.specs.Refusals.{contains, variables_in, variables_in_each, features}
use Rattle.oz_language.specs.Translation.{atom, keys_of, side_by_side, labelled_or_literal, list_pattern, chain_pattern, cell_pattern, patterned, patterned_each}
use Rattle.oz_language.specs.Wording.{hash_word}
use Rattle.scope_law.specs.Closed.{pattern_names, names_beside}
use Rattle.scope_law.proofs.Basics.{both, by_test, parts_kept, parts_swapped, here, in_none, first_name, firsts, append_first}

-- the variables of several patterns
abbrev names_in : List Pattern → List Identifier
names_in [] = []
names_in (p ∷ ps) = pattern_names p ++ names_in ps

-- what fields have
abbrev pub seconds : {A : Type 0} → List (Constant × A) → List A
seconds {A} fs = map (λ (g : Constant × A). g.1) fs

-- ---- parts of one pattern

in_side : (ps : List Pattern) (x : Identifier) → Contains (names_in ps) x → Contains (names_beside (side_by_side ps)) x
in_side [] x h = h
in_side (p ∷ ps) x h = parts_kept (pattern_names p) (names_in ps) (pattern_names p) (names_beside (side_by_side ps)) x (λ k. k) (in_side ps x) h

in_labelled : (l : Literal) (fs : List (Constant × Pattern)) (x : Identifier) → Contains (names_in (seconds fs)) x → Contains (pattern_names (labelled_or_literal l fs)) x
in_labelled l [] x h = h
in_labelled l (f ∷ fs) x h = in_side (seconds (f ∷ fs)) x h

in_cell : (p q : Pattern) (x : Identifier) → Contains (pattern_names p) x ⊎ Contains (pattern_names q) x → Contains (pattern_names (cell_pattern p q)) x
in_cell p q x (inl h) = Contains-append_left (pattern_names p) (pattern_names q ++ []) x h
in_cell p q x (inr h) = Contains-append_right (pattern_names p) (pattern_names q ++ []) x (Contains-append_left (pattern_names q) [] x h)

in_list : (ps : List Pattern) (x : Identifier) → Contains (names_in ps) x → Contains (pattern_names (list_pattern ps)) x
in_list [] x h = h
in_list (p ∷ ps) x h = in_cell p (list_pattern ps) x (elim (Contains-append_cases (pattern_names p) (names_in ps) x h) [ inl k ↦ inl k | inr k ↦ inr (in_list ps x k) ])

in_chain : (ps : List Pattern) (x : Identifier) → Contains (names_in ps) x → Contains (pattern_names (chain_pattern ps)) x
in_chain [] x h = h
in_chain (p ∷ []) x h = elim (Contains-append_cases (pattern_names p) [] x h) [ inl k ↦ k | inr k ↦ in_none x k ]
in_chain (p ∷ q ∷ ps) x h = in_cell p (chain_pattern (q ∷ ps)) x (elim (Contains-append_cases (pattern_names p) (names_in (q ∷ ps)) x h) [ inl k ↦ inl k | inr k ↦ inr (in_chain (q ∷ ps) x k) ])

-- ---- fields in the order of arities

in_placed : (words : List (List ℕ)) (f : Constant × Pattern) (gs : List (Constant × Pattern)) (x : Identifier) → Contains (pattern_names f.1 ++ names_in (seconds gs)) x → Contains (names_in (seconds (placed_field words f gs))) x
in_placed words f [] x h = h
in_placed words f (g ∷ gs) x h =
    let fields = names_in (seconds gs) in
    let step = parts_kept (pattern_names g.1) (pattern_names f.1 ++ fields) (pattern_names g.1) (names_in (seconds (placed_field words f gs))) x (λ k. k) (in_placed words f gs x) in
    by_test (λ (fs : List (Constant × Pattern)). Contains (names_in (seconds fs)) x) (feature_lt words g.0 f.0) (g ∷ placed_field words f gs) (f ∷ g ∷ gs)
    (step (parts_swapped (pattern_names f.1) (pattern_names g.1) fields x h)) h

in_order : (words : List (List ℕ)) (fs : List (Constant × Pattern)) (x : Identifier) → Contains (names_in (seconds fs)) x → Contains (names_in (seconds (in_arity_order words fs))) x
in_order words [] x h = h
in_order words (f ∷ fs) x h =
    let rest = names_in (seconds (in_arity_order words fs)) in
    in_placed words f (in_arity_order words fs) x (parts_kept (pattern_names f.1) (names_in (seconds fs)) (pattern_names f.1) rest x (λ k. k) (in_order words fs x) h)

-- each field has its feature
fields_whole : (words : List (List ℕ)) (n : ℕ) (fs : Phrases) → seconds (zip (map (λ (f : Constant × ℕ). f.0) (features n fs)) (patterned_each words fs)) ≡ patterned_each words fs
fields_whole words n nothing = refl
fields_whole words n (more (keyed k at e) fs) = ap (λ ps. patterned words e ∷ ps) (fields_whole words n fs)
fields_whole words n (more e fs) = ap (λ ps. patterned words e ∷ ps) (fields_whole words (suc n) fs)

in_record : (words : List (List ℕ)) (l : Literal) (fs : Phrases) (x : Identifier) → Contains (names_in (patterned_each words fs)) x → Contains (pattern_names (labelled_or_literal l (in_arity_order words (zip (keys_of fs) (patterned_each words fs))))) x
in_record words l fs x h =
    let parts = zip (keys_of fs) (patterned_each words fs) in
    in_labelled l (in_arity_order words parts) x (in_order words parts x (rw (fields_whole words 1 fs) h))

in_tuple : (words : List (List ℕ)) (l : Literal) (fs : Phrases) (x : Identifier) → Contains (names_in (patterned_each words fs)) x → Contains (pattern_names (labelled_or_literal l (zip (keys_of fs) (patterned_each words fs)))) x
in_tuple words l fs x h = in_labelled l (zip (keys_of fs) (patterned_each words fs)) x (rw (fields_whole words 1 fs) h)

-- ---- the variables of a phrase

both_in : (words : List (List ℕ)) (p : Phrase) (ps : Phrases) (w : ℕ) → (contains (firsts (variables_in p)) w ≡ true → Contains (pattern_names (patterned words p)) (Word w))
    → (contains (firsts (variables_in_each ps)) w ≡ true → Contains (names_in (patterned_each words ps)) (Word w)) → contains (firsts (variables_in p ++ variables_in_each ps)) w ≡ true
    → Contains (pattern_names (patterned words p) ++ names_in (patterned_each words ps)) (Word w)
both_in words p ps w f g k = elim (append_first (variables_in p) (variables_in_each ps) w k) [
  | inl l ↦ Contains-append_left (pattern_names (patterned words p)) (names_in (patterned_each words ps)) (Word w) (f l)
  | inr l ↦ Contains-append_right (pattern_names (patterned words p)) (names_in (patterned_each words ps)) (Word w) (g l)
]

mutual
  pub variable_in : (words : List (List ℕ)) (m : ℕ) (p : Phrase) (w : ℕ) → term true m p ≡ true → contains (firsts (variables_in p)) w ≡ true → Contains (pattern_names (patterned words p)) (Word w)
  variable_in words m (var name at) w h k = elim (first_name name w [] k) [ inl e ↦ subst (λ x. Contains (Word name ∷ []) (Word x)) (sym e) (here (Word name) []) | inr l ↦ absurd (cc) ]
  variable_in words m (rec l at fs) w h k = in_record words l fs (Word w) (field_in words fs w h k)
  variable_in words m (list at es) w h k = in_list (patterned_each words es) (Word w) (element_in words 0 es w (both (is_more es) _ h).1 k)
  variable_in words m (paren at (more p nothing)) w h k = elim (append_first (variables_in p) [] w k) [ inl l ↦ variable_in words 0 p w (both (term true 0 p) true h).0 l | inr l ↦ absurd (cc) ]
  variable_in words m (bars es) w h k = in_chain (patterned_each words es) (Word w) (element_in words level_of_hashes es w (both (at_least_two es) _ (both (nat_le m level_of_bars) _ h).1).1 k)
  variable_in words m (hashes es) w h k = in_tuple words (atom hash_word) es (Word w) (element_in words (suc level_of_hashes) es w (both (at_least_two es) _ (both (nat_le m level_of_hashes) _ h).1).1 k)
  variable_in words m p w h k = absurd (cc)

  element_in : (words : List (List ℕ)) (m : ℕ) (ps : Phrases) (w : ℕ) → terms true m ps ≡ true → contains (firsts (variables_in_each ps)) w ≡ true → Contains (names_in (patterned_each words ps)) (Word w)
  element_in words m nothing w h k = absurd (cc)
  element_in words m (more p ps) w h k =
      let t = both (term true m p) (terms true m ps) h in
      both_in words p ps w (variable_in words m p w t.0) (element_in words m ps w t.1) k

  field_in : (words : List (List ℕ)) (ps : Phrases) (w : ℕ) → fields true ps ≡ true → contains (firsts (variables_in_each ps)) w ≡ true → Contains (names_in (patterned_each words ps)) (Word w)
  field_in words nothing w h k = absurd (cc)
  field_in words (more (keyed c at p) ps) w h k =
      let t = both (term true 0 p) (fields true ps) h in
      both_in words p ps w (variable_in words 0 p w t.0) (field_in words ps w t.1) k
  field_in words (more p ps) w h k =
      let t = both (term true 0 p) (fields true ps) h in
      both_in words p ps w (variable_in words 0 p w t.0) (field_in words ps w t.1) k

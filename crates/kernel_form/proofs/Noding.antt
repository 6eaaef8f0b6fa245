-- The nodes of a pattern one after the other make up its text.
use Rattle.std.proofs.Common.{◌≡◌, ◌∙◌, ℕ, suc, Bool, true, false, not, ◌||◌, List, [], ◌∷◌, ◌++◌, length, map, codes, ap, refl, sym, arith}
use Rattle.std.proofs.lemmas.List.{append_assoc, append-nil}
use Rattle.oz_language.specs.Kernels.{Pattern, variable, any, constant, labelled, Patterns, no_pattern, beside, pieces, pieces_each}
use Rattle.oz_language.specs.KernelTexts.{name_text, field_text, pattern_text, pattern_texts}
use Rattle.oz_language.specs.SimpleTexts.{constant_text, form_of, record_text, text_as, enclosed, is_chain}
use Rattle.oz_language.specs.declared.kernel.Constant.{Constant}
use Rattle.oz_language.specs.declared.kernel.Identifier.{Identifier}
use Rattle.oz_language.specs.declared.kernel.Piece.{Piece}
use Rattle.oz_language.specs.declared.kernel.Piece.TheVariants as piece
use Rattle.oz_language.specs.declared.token.Literal.{Literal}
use Rattle.oz_language.specs.declared.text.Form.{Form}
use Rattle.oz_language.specs.declared.text.Form.TheVariants as form
use Rattle.kernel_form.specs.Whole.{width, IsWholePattern, AreWholePatterns}
use Rattle.kernel_form.specs.Fields.{Rest, next_in, lead_text, passed, is_enclosed, encloses, closing, still_open, end_text, opening_text, just_opened}
use Rattle.kernel_form.specs.Nodes.{nodes_text, record_nodes}
use Rattle.kernel_form.proofs.Fielding.{fields_left, record_law}

-- a text that is written in another way stands by itself
other_alone : (f : Form) (b : Bool) → encloses f b form.Other ≡ false
other_alone form.Bars true = refl
other_alone form.Bars false = refl
other_alone form.Hashes b = refl
other_alone form.Other b = refl

plain : (rs : List Rest) → is_enclosed rs form.Other ≡ false
plain [] = refl
plain (r ∷ rs) = other_alone r.form r.first

chain_only : (rs : List Rest) (f : Form) → is_chain f ≡ false → is_enclosed rs f ≡ false
chain_only rs form.Bars e = absurd (cc)
chain_only rs form.Hashes e = absurd (cc)
chain_only rs form.Other e = plain rs

-- what is left behind a field of the innermost record
abbrev behind : List (List ℕ) → List Rest → List Piece → List ℕ
behind words rs more = closing rs ++ nodes_text words (still_open rs) more

-- a leaf
leaf : (words : List (List ℕ)) (rs : List Rest) (t after : List ℕ) → lead_text words rs ++ (t ++ after) ≡ lead_text words rs ++ (enclosed (is_enclosed rs form.Other) t ++ after)
leaf words rs t after = rw (plain rs) refl

-- a record between what stands before it and what comes behind it
framed : (lead opening fields ending text after : List ℕ) → opening ++ (fields ++ ending) ≡ text
    → lead ++ (opening ++ (fields ++ (ending ++ after))) ≡ lead ++ (text ++ after)
framed lead opening fields ending text after e = rw (← e) (simp append_assoc)

regrouped : (lead field others after : List ℕ) → lead ++ (field ++ (others ++ after)) ≡ (lead ++ (field ++ others)) ++ after
regrouped lead field others after = simp append_assoc

abbrev rest : Form → List Constant → ℕ → Bool → Bool → Rest
rest f fs n first closes = record { form = f; features = fs; next = n; first = first; closes = closes }

-- the fields that are left of the innermost record
abbrev Passes : List (List ℕ) → Patterns → List Rest → List Piece → Rest → Type 0
Passes words ps rs more r =
    behind words (r ∷ rs) (pieces_each ps ++ more) ≡ fields_left words r (pattern_texts words ps) ++ (end_text r.closes ++ behind words rs more)

abbrev Prints : List (List ℕ) → Pattern → List Rest → List Piece → Type 0
Prints words p rs more =
    nodes_text words rs (pieces p ++ more) ≡ lead_text words rs ++ (enclosed (is_enclosed rs (pattern_text words p).0) (pattern_text words p).1 ++ behind words (passed rs) more)

-- no field is left
ended : (words : List (List ℕ)) (rs : List Rest) (more : List Piece) (f : Form) (fs : List Constant) (n : ℕ) (b z : Bool) → length fs ≡ 0
    → Passes words no_pattern rs more (rest f fs n b z)
ended words rs more f [] n b z k = append_assoc (end_text z) (closing rs) (nodes_text words (still_open rs) more)
ended words rs more f (c ∷ cs) n b z k = absurd (omega (arith, k))

-- a field is left
goes_on : (words : List (List ℕ)) (p : Pattern) (ps : Patterns) (rs : List Rest) (more : List Piece) (f : Form) (fs : List Constant) (n : ℕ) (b z : Bool) → length fs ≡ suc (width ps)
    → Prints words p (rest f fs n b z ∷ rs) (pieces_each ps ++ more)
    → ((cs : List Constant) (m : ℕ) → length cs ≡ width ps → Passes words ps rs more (rest f cs m false z))
    → Passes words (beside p ps) rs more (rest f fs n b z)
goes_on words p ps rs more f [] n b z k first others = absurd (omega (arith, k))
goes_on words p ps rs more f (c ∷ cs) n b z k first others =
    let r = rest f (c ∷ cs) n b z in
    let lead = lead_text words (r ∷ rs) in
    let field = enclosed (encloses f b (pattern_text words p).0) (pattern_text words p).1 in
    let r' = rest f cs (next_in f c n) false z in
    ap (λ qs. nodes_text words (r ∷ rs) qs) (append_assoc (pieces p) (pieces_each ps) more)
    ∙ first
    ∙ ap (λ t. lead ++ (field ++ t)) (others cs (next_in f c n) (omega (arith, k)))
    ∙ regrouped lead field (fields_left words r' (pattern_texts words ps)) (end_text z ++ behind words rs more)

lengths : (words : List (List ℕ)) (ps : Patterns) → length (pattern_texts words ps) ≡ width ps
lengths words no_pattern = refl
lengths words (beside p ps) = ap suc (lengths words ps)

-- a record
nests : (words : List (List ℕ)) (l : Literal) (fs : List Constant) (ps : Patterns) (rs : List Rest) (more : List Piece) → length fs ≡ width ps
    → Passes words ps (passed rs) more (just_opened (form_of words l fs) fs (is_enclosed rs (form_of words l fs)))
    → Prints words (labelled l fs ps) rs more
nests words l fs ps rs more k fields =
    let f = form_of words l fs in
    let b = is_enclosed rs f in
    let os = pattern_texts words ps in
    ap (λ t. lead_text words rs ++ (opening_text words l f b ++ t)) fields
    ∙ framed (lead_text words rs) (opening_text words l f b) (fields_left words (just_opened f fs b) os) (end_text (not (is_chain f) || b)) (enclosed b (text_as f words l fs os))
    (behind words (passed rs) more) (record_law words l f fs b os (k ∙ sym (lengths words ps)) (chain_only rs f))

mutual
  pub pattern_law : (words : List (List ℕ)) (p : Pattern) (rs : List Rest) (more : List Piece) → IsWholePattern p → Prints words p rs more
  pattern_law words (variable x) rs more w = leaf words rs (name_text words x) (behind words (passed rs) more)
  pattern_law words any rs more w = leaf words rs (codes "_") (behind words (passed rs) more)
  pattern_law words (constant c) rs more w = leaf words rs (constant_text words c) (behind words (passed rs) more)
  pattern_law words (labelled l fs ps) rs more w =
      let f = form_of words l fs in
      let b = is_enclosed rs f in
      nests words l fs ps rs more w.0 (patterns_law words ps (passed rs) more f fs 1 true (not (is_chain f) || b) w.0 w.1)

  pub patterns_law : (words : List (List ℕ)) (ps : Patterns) (rs : List Rest) (more : List Piece) (f : Form) (fs : List Constant) (n : ℕ) (b z : Bool) → length fs ≡ width ps → AreWholePatterns ps
      → Passes words ps rs more (rest f fs n b z)
  patterns_law words no_pattern rs more f fs n b z k w = ended words rs more f fs n b z k
  patterns_law words (beside p ps) rs more f fs n b z k w =
      goes_on words p ps rs more f fs n b z k (pattern_law words p (rest f fs n b z ∷ rs) (pieces_each ps ++ more) w.0)
      (λ cs m k'. patterns_law words ps rs more f cs m false z k' w.1)

-- a pattern by itself
pub whole_pattern : (words : List (List ℕ)) (p : Pattern) → IsWholePattern p → nodes_text words [] (pieces p) ≡ (pattern_text words p).1
whole_pattern words p w = ap (nodes_text words []) (sym (append-nil (pieces p))) ∙ pattern_law words p [] [] w ∙ append-nil (pattern_text words p).1

-- identifiers as fields
abbrev as_patterns : List Identifier → Patterns
as_patterns [] = no_pattern
as_patterns (x ∷ xs) = beside (variable x) (as_patterns xs)

their_pieces : (xs : List Identifier) → pieces_each (as_patterns xs) ≡ map piece.Variable xs
their_pieces [] = refl
their_pieces (x ∷ xs) = ap (λ ps. piece.Variable x ∷ ps) (their_pieces xs)

their_texts : (words : List (List ℕ)) (xs : List Identifier) → pattern_texts words (as_patterns xs) ≡ map (field_text words) xs
their_texts words [] = refl
their_texts words (x ∷ xs) = ap (λ ts. field_text words x ∷ ts) (their_texts words xs)

their_width : (xs : List Identifier) → width (as_patterns xs) ≡ length xs
their_width [] = refl
their_width (x ∷ xs) = ap suc (their_width xs)

they_are_whole : (xs : List Identifier) → AreWholePatterns (as_patterns xs)
they_are_whole [] = tt
they_are_whole (x ∷ xs) = (tt, they_are_whole xs)

-- a record whose fields are identifiers
pub whole_record : (words : List (List ℕ)) (l : Literal) (fs : List Constant) (xs : List Identifier) → length fs ≡ length xs
    → nodes_text words [] (record_nodes l fs xs) ≡ record_text words l fs (map (field_text words) xs)
whole_record words l fs xs e =
    ap (λ ps. nodes_text words [] (piece.Record l fs ∷ ps)) (sym (their_pieces xs))
    ∙ whole_pattern words (labelled l fs (as_patterns xs)) (e ∙ sym (their_width xs), they_are_whole xs)
    ∙ ap (record_text words l fs) (their_texts words xs)

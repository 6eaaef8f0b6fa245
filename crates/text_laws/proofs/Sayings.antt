-- Phrases that say a term: as an expression and as a pattern.
use Rattle.std.proofs.Common.{◌++◌, ◌≡◌, ◌+◌, ℕ, suc, pos, true, not, List, [], ◌∷◌, None, refl, ap, sym, ◌∙◌, arith}
use Rattle.std.specs.Prelude.{map}
use Rattle.std.specs.List.{zip, list_all}
use Rattle.oz_base.specs.Lists.{is_empty}
use Rattle.oz_language.specs.Kernels.{Pattern, Stmt, Stmts, none, followed, just, ◌⨾◌}
use Rattle.oz_language.specs.Kernels as k
use Rattle.oz_language.specs.Arities.{in_arity_order}
use Rattle.oz_language.specs.Grammar.{Phrase, Phrases, nothing, more, int, rec, keyed, paren, bars, hashes, is_more, key_token, tokens_of, each, separated, led}
use Rattle.oz_language.specs.Grammar as g
use Rattle.oz_language.specs.Translation.{Made, made, and_then, preceded, within, value, variable_of, names_of, behind_names, fresh_names, record_or_label, record_bound, cell_bound, last_variable, translated, filled, chain_made, patterned, patterned_each, chain_pattern, cell_pattern, labelled_or_literal, keys_of, atom}
use Rattle.oz_language.specs.Wording.{bar_word, hash_word}
use Rattle.oz_language.specs.declared.token.Literal.{Literal}
use Rattle.oz_language.specs.declared.kernel.Constant.{Constant}
use Rattle.oz_language.specs.declared.kernel.Constant.TheVariants as constant
use Rattle.oz_language.specs.declared.kernel.Identifier.{Identifier}
use Rattle.oz_language.specs.declared.kernel.Identifier.TheVariants.{Fresh}
use Rattle.text_laws.specs.Terms.{Term, Terms, simple, compound, no_term, beside, is_arity, is_filled}
use Rattle.oz_language.specs.declared.token.Token.TheVariants as token
use Rattle.text_laws.specs.Renaming.{has_literal, has_constant, has_term, has_terms}
use Rattle.text_laws.proofs.Knowing.{KnowsChains, knows, parts, separated_parts, led_separated, literal_known, label_known, keys_known}
use Rattle.text_laws.specs.Meanings.{pattern_of, count, term_made, fields_made}
use Rattle.text_laws.proofs.Features.{ordered, pattern_list, labelled_fields}
use Rattle.text_laws.proofs.Basics.{both, both_yes}

pub record Says (words : List (List ℕ)) (p : Phrase) (t : Term) : Type 0 where
  pub unnamed : variable_of p ≡ None
  pub valued : (x : Identifier) (n : ℕ) → translated words (value x) n p ≡ term_made x n t
  pub matched : patterned words p ≡ pattern_of t
  pub told : (others : List (List ℕ)) → KnowsChains words others → list_all (knows words others) (tokens_of p) ≡ true → has_term words others t ≡ true

-- phrases of a chain
pub record SaysChain (words : List (List ℕ)) (es : Phrases) (t : Term) : Type 0 where
  pub unnamed : last_variable es ≡ None
  pub valued : (x : Identifier) (n : ℕ) → chain_made words x es n ≡ term_made x n t
  pub matched : chain_pattern (patterned_each words es) ≡ pattern_of t
  pub told : (others : List (List ℕ)) → KnowsChains words others → list_all (knows words others) (separated token.Bar es) ≡ true → has_term words others t ≡ true

-- phrases one by one
pub record SaysEach (words : List (List ℕ)) (es : Phrases) (ts : Terms) : Type 0 where
  pub named : (n : ℕ) → names_of n es ≡ fresh_names n (count ts)
  pub behind : (n : ℕ) → behind_names n es ≡ n + count ts
  pub valued : (m n : ℕ) → filled words m es n ≡ fields_made m ts n
  pub matched : patterned_each words es ≡ pattern_list ts
  pub told : (others : List (List ℕ)) → KnowsChains words others → list_all (knows words others) (each es) ≡ true → has_terms words others ts ≡ true

-- an integer or a literal
abbrev pub constant_phrase : Constant → ℕ → Phrase
constant_phrase (constant.Int i) at = int i at
constant_phrase (constant.Literal l) at = g.literal l at

-- the record of a cell
abbrev pub cell : Term → Term → Term
cell head tail = compound (atom bar_word) (constant.Int (pos 1) ∷ constant.Int (pos 2) ∷ []) (beside head (beside tail no_term))

module _ (words : List (List ℕ)) where
  -- ---- single phrases

  pub says_paren : (at : ℕ) (p : Phrase) (t : Term) → Says words p t → Says words (paren at (more p nothing)) t
  says_paren at p t s = record {
    unnamed = s.unnamed;
    valued = s.valued;
    matched = s.matched;
    told = λ others c h.
        let a = parts (knows words others) (tokens_of p ++ []) (token.CloseParen ∷ []) h in
        s.told others c (parts (knows words others) (tokens_of p) [] a.0).0;
  }

  pub says_keyed : (f : Constant) (at : ℕ) (p : Phrase) (t : Term) → Says words p t → Says words (keyed f at p) t
  says_keyed f at p t s = record {
    unnamed = s.unnamed;
    valued = s.valued;
    matched = s.matched;
    told = λ others c h. s.told others c (both (knows words others (key_token f at)) (list_all (knows words others) (tokens_of p)) h).1;
  }

  pub says_constant : (c : Constant) (at : ℕ) → Says words (constant_phrase c at) (simple c)
  says_constant (constant.Int i) at = record { unnamed = refl; valued = λ x n. refl; matched = refl; told = λ others c h. refl }
  says_constant (constant.Literal l) at = record {
    unnamed = refl;
    valued = λ x n. refl;
    matched = refl;
    told = λ others c h. literal_known words others l at (both (knows words others (token.Literal l at)) true h).0;
  }

  -- ---- one by one

  pub says_none : SaysEach words nothing no_term
  says_none = record { named = λ n. refl; behind = λ n. omega arith; valued = λ m n. refl; matched = refl; told = λ others c h. refl }

  pub says_more : (p : Phrase) (es : Phrases) (t : Term) (ts : Terms) → Says words p t → SaysEach words es ts → SaysEach words (more p es) (beside t ts)
  says_more p es t ts s e = record {
    named = λ n. rw s.unnamed (ap (λ ns. Fresh n ∷ ns) (e.named (suc n)));
    behind = λ n. rw s.unnamed (e.behind (suc n) ∙ (omega arith));
    valued = valued;
    matched = λ i. s.matched i ∷ e.matched i;
    told = λ others c h.
        let a = parts (knows words others) (tokens_of p) (each es) h in
        both_yes (has_term words others t) (has_terms words others ts) (s.told others c a.0) (e.told others c a.1);
  }
    where
      valued : (m n : ℕ) → filled words m (more p es) n ≡ fields_made m (beside t ts) n
      valued m n = rw s.unnamed (λ j. and_then (s.valued (Fresh m) n j) (λ i. e.valued (suc m) i j))

  -- ---- records

  -- the identifiers of fields, beside their features
  name_features : (fs : List Constant) (ts : Terms) (n : ℕ) → is_filled fs ts ≡ true → map (λ (f : Constant × Identifier). f.0) (zip fs (fresh_names n (count ts))) ≡ fs
  name_features [] no_term n h = refl
  name_features (f ∷ fs) (beside t ts) n h = ap (λ gs. f ∷ gs) (name_features fs ts (suc n) h)
  name_features [] (beside t ts) n h = absurd (cc)
  name_features (f ∷ fs) no_term n h = absurd (cc)

  name_fields : (fs : List Constant) (ts : Terms) (n : ℕ) → is_filled fs ts ≡ true
      → map (λ (f : Constant × Identifier). f.1) (zip fs (fresh_names n (count ts))) ≡ fresh_names n (count ts)
  name_fields [] no_term n h = refl
  name_fields (f ∷ fs) (beside t ts) n h = ap (λ gs. Fresh n ∷ gs) (name_fields fs ts (suc n) h)
  name_fields [] (beside t ts) n h = absurd (cc)
  name_fields (f ∷ fs) no_term n h = absurd (cc)

  bound_fields : (x : Identifier) (l : Literal) (fs : List Constant) (ts : Terms) (n : ℕ) → not (is_empty fs) ≡ true → is_filled fs ts ≡ true
      → record_or_label x l (zip fs (fresh_names n (count ts))) ≡ k.bind_record x l fs (fresh_names n (count ts))
  bound_fields x l [] ts n e h = absurd (cc)
  bound_fields x l (f ∷ fs) no_term n e h = absurd (cc)
  bound_fields x l (f ∷ fs) (beside t ts) n e h =
      let a = name_features (f ∷ fs) (beside t ts) n h in
      let b = name_fields (f ∷ fs) (beside t ts) n h in
      λ i. k.bind_record x l (a i) (b i)

  -- what the fields are, in the order of features
  module _ (l : Literal) (fs : List Constant) (ts : Terms) (es : Phrases) (o : is_arity words fs ≡ true) (e : not (is_empty fs) ≡ true) (h : is_filled fs ts ≡ true)
      (keys : keys_of es ≡ fs) (s : SaysEach words es ts) where
    fields_bound : (x : Identifier) (n : ℕ) → record_bound words x l es (names_of n es) ≡ k.bind_record x l fs (fresh_names n (count ts))
    fields_bound x n =
        ap (λ fields. record_or_label x l (in_arity_order words fields)) (λ i. zip (keys i) (s.named n i))
        ∙ ap (record_or_label x l) (ordered words fs (fresh_names n (count ts)) o) ∙ bound_fields x l fs ts n e h

    pub record_valued : (x : Identifier) (n : ℕ)
        → within (names_of n es) (preceded (record_bound words x l es (names_of n es)) (filled words n es (behind_names n es))) ≡ term_made x n (compound l fs ts)
    record_valued x n =
        let a = fields_bound x n in
        let b : filled words n es (behind_names n es) ≡ fields_made n ts (n + count ts) = s.valued n (behind_names n es) ∙ ap (fields_made n ts) (s.behind n) in
        λ i. within (s.named n i) (preceded (a i) (b i))

    record_told : (others : List (List ℕ)) → KnowsChains words others → has_literal words others l ≡ true → list_all (knows words others) (each es) ≡ true
        → has_term words others (compound l fs ts) ≡ true
    record_told others c a b =
        both_yes (has_literal words others l) _ a
        (both_yes (list_all (has_constant words others) fs) _ (ap (list_all (has_constant words others)) (sym keys) ∙ keys_known words others es 1 b) (s.told others c b))

    pub says_record : (at : ℕ) → Says words (rec l at es) (compound l fs ts)
    says_record at = record {
      unnamed = refl;
      valued = record_valued;
      matched = ap (λ fields. labelled_or_literal l (in_arity_order words fields)) (λ i. zip (keys i) (s.matched i))
          ∙ ap (labelled_or_literal l) (ordered words fs (pattern_list ts) o) ∙ labelled_fields l fs ts e h;
      told = λ others c k.
          let a = both (knows words others (token.Label l at)) (list_all (knows words others) (each es ++ token.CloseParen ∷ [])) k in
          record_told others c (label_known words others l at a.0) (parts (knows words others) (each es) (token.CloseParen ∷ []) a.1).0;
    }

  pub says_hashes : (fs : List Constant) (ts : Terms) (es : Phrases) → is_arity words fs ≡ true → not (is_empty fs) ≡ true → is_filled fs ts ≡ true
      → keys_of es ≡ fs → SaysEach words es ts → Says words (hashes es) (compound (atom hash_word) fs ts)
  says_hashes fs ts es o e h keys s = record {
    unnamed = refl;
    valued = record_valued (atom hash_word) fs ts es o e h keys s;
    matched = ap (labelled_or_literal (atom hash_word)) (λ i. zip (keys i) (s.matched i)) ∙ labelled_fields (atom hash_word) fs ts e h;
    told = λ others c k. record_told (atom hash_word) fs ts es o e h keys s others c c.hash (separated_parts (knows words others) token.Hash es k);
  }

  -- ---- chains

  pub says_last : (p : Phrase) (t : Term) → Says words p t → SaysChain words (more p nothing) t
  says_last p t s = record {
    unnamed = s.unnamed;
    valued = s.valued;
    matched = s.matched;
    told = λ others c h. s.told others c (parts (knows words others) (tokens_of p) [] h).0;
  }

  chain_matched : (q : Pattern) (es : Phrases) → is_more es ≡ true → chain_pattern (q ∷ patterned_each words es) ≡ cell_pattern q (chain_pattern (patterned_each words es))
  chain_matched q nothing h = absurd (cc)
  chain_matched q (more e es) h = refl

  -- a cell, whose head and tail have identifiers of their own
  abbrev cell_fresh : Identifier → ℕ → (Identifier → ℕ → Made) → (Identifier → ℕ → Made) → Made
  cell_fresh x n head tail =
      within (Fresh n ∷ Fresh (suc n) ∷ []) (preceded (cell_bound x (Fresh n) (Fresh (suc n))) (and_then (head (Fresh n) (suc (suc n))) (tail (Fresh (suc n)))))

  chain_cell : (x : Identifier) (n : ℕ) (p : Phrase) (es : Phrases) → is_more es ≡ true → variable_of p ≡ None → last_variable es ≡ None
      → chain_made words x (more p es) n ≡ cell_fresh x n (λ y i. translated words (value y) i p) (λ z i. chain_made words z es i)
  chain_cell x n p nothing h u v = absurd (cc)
  chain_cell x n p (more e es) h u v = rw u (rw v refl)

  nothing_behind : (ss : Stmts) → ss ⨾ none ≡ ss
  nothing_behind none = refl
  nothing_behind (followed s ss) = ap (followed s) (nothing_behind ss)

  made_last : (a : Made) → and_then a (λ i. made none i) ≡ a
  made_last a = ap (λ ss. made ss a.next) (nothing_behind a.code)

  pub says_cell : (p : Phrase) (es : Phrases) (head tail : Term) → is_more es ≡ true → Says words p head → SaysChain words es tail → SaysChain words (more p es) (cell head tail)
  says_cell p es head tail h s c = record {
    unnamed = unnamed es h;
    valued = valued;
    matched = chain_matched (patterned words p) es h ∙ (λ i. cell_pattern (s.matched i) (c.matched i));
    told = told;
  }
    where
      unnamed : (fs : Phrases) → is_more fs ≡ true → last_variable (more p fs) ≡ None
      unnamed nothing i = absurd (cc)
      unnamed (more f fs) i = refl

      told : (others : List (List ℕ)) → KnowsChains words others → list_all (knows words others) (separated token.Bar (more p es)) ≡ true → has_term words others (cell head tail) ≡ true
      told others g k =
          let a = parts (knows words others) (tokens_of p) (led token.Bar es) k in
          let b : list_all (knows words others) (separated token.Bar es) ≡ true = ap (list_all (knows words others)) (sym (led_separated token.Bar es h)) ∙ a.1 in
          both_yes (has_literal words others (atom bar_word)) _ g.bar
          (both_yes (has_term words others head) _ (s.told others g a.0) (both_yes (has_term words others tail) true (c.told others g b) refl))

      tails : (n : ℕ) → ◌≡◌ {A = ℕ → Made} (λ i. chain_made words (Fresh (suc n)) es i) (λ i. and_then (term_made (Fresh (suc n)) i tail) (λ j. made none j))
      tails n = λ j i. (c.valued (Fresh (suc n)) i ∙ sym (made_last (term_made (Fresh (suc n)) i tail))) j

      heads : (n : ℕ) → translated words (value (Fresh n)) (suc (suc n)) p ≡ term_made (Fresh n) (n + 2) head
      heads n = let e : suc (suc n) ≡ n + 2 = omega arith in s.valued (Fresh n) (suc (suc n)) ∙ ap (λ m. term_made (Fresh n) m head) e

      valued : (x : Identifier) (n : ℕ) → chain_made words x (more p es) n ≡ term_made x n (cell head tail)
      valued x n =
          chain_cell x n p es h s.unnamed c.unnamed
          ∙ (λ j. within (Fresh n ∷ Fresh (suc n) ∷ []) (preceded (cell_bound x (Fresh n) (Fresh (suc n))) (and_then (heads n j) (tails n j))))

  pub says_bars : (es : Phrases) (t : Term) → SaysChain words es t → Says words (bars es) t
  says_bars es t c = record { unnamed = refl; valued = c.valued; matched = c.matched; told = c.told }

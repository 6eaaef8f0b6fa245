-- Operands with `#` between them, and the fields of labelled records.
use Rattle.std.proofs.Common.{subst, ◌≡◌, ◌+◌, ◌&&◌, ℕ, suc, pos, Bool, true, false, not, List, [], ◌∷◌, ◌++◌, length, refl, ap, sym, ◌∙◌, append_assoc}
use Rattle.std.specs.Prelude.{map, nat_le, if◌then◌else◌, codes}
use Rattle.oz_base.specs.Lists.{is_empty}
use Rattle.oz_language.specs.Constants.{constant_eq}
use Rattle.oz_language.specs.Grammar.{Phrase, Phrases, nothing, more, rec, keyed, hashes, key_token, tokens_of, each, separated, led, is_more, at_least_two, term, terms, fields, level_of_hashes, tightest}
use Rattle.oz_language.specs.Refusals.{place_of, features}
use Rattle.oz_language.specs.SimpleTexts.{constant_text, gapped, joined, count_from, hash_texts, fields_text, literal_text, labelled_text}
use Rattle.oz_language.specs.Translation.{keys_of, atom}
use Rattle.oz_language.specs.Wording.{hash_word}
use Rattle.oz_language.specs.declared.token.Literal.{Literal}
use Rattle.oz_language.specs.declared.token.Token.{Token}
use Rattle.oz_language.specs.declared.token.Token.TheVariants as token
use Rattle.oz_language.specs.declared.kernel.Constant.{Constant}
use Rattle.oz_language.specs.declared.kernel.Constant.TheVariants as constant
use Rattle.oz_lex.specs.Scanning.{begins}
use Rattle.text_laws.specs.Terms.{Term, Terms, no_term, beside, is_literal, is_constant, is_arity, is_filled, term_text, field_texts, compound}
use Rattle.text_laws.specs.Laws.{AreWords}
use Rattle.text_laws.proofs.Steps.{ends, is_end}
use Rattle.text_laws.proofs.Spans.{Span, Spelt, anything, is_start, begins_more}
use Rattle.text_laws.proofs.Spellings.{nothing_span, then_span, blank_span, hash_span, colon_span, label_span, close_span, led_by, same_span}
use Rattle.text_laws.proofs.Constants.{constant_spelt, literal_written, written_start}
use Rattle.text_laws.proofs.Features.{counted, left_out}
use Rattle.text_laws.proofs.Sayings.{Says, SaysEach, says_keyed, says_none, says_more, says_record, says_hashes}
use Rattle.text_laws.proofs.Parts.{Known, is_keyed}
use Rattle.text_laws.proofs.Basics.{both_yes}

-- what is behind a piece that ends before a gap
ends_gapped : (c : ℕ) (ts : List (List ℕ)) (rest : List ℕ) → is_end c ≡ true → ends rest ≡ true → ends (gapped (c ∷ []) ts ++ rest) ≡ true
ends_gapped c [] rest h e = e
ends_gapped c (t ∷ ts) rest h e = h

gap_first : (c : ℕ) (t : List ℕ) (ts : List (List ℕ)) → c ∷ joined (c ∷ []) (t ∷ ts) ≡ gapped (c ∷ []) (t ∷ ts)
gap_first c t ts = refl

-- a phrase without a key
bare_feature : (n : ℕ) (p : Phrase) (ps : Phrases) → is_keyed p ≡ false → features n (more p ps) ≡ (constant.Int (pos n), place_of p) ∷ features (suc n) ps
bare_feature n (keyed c at e) ps h = absurd (cc)
bare_feature n p ps h = refl

bare_field : (b : Bool) (p : Phrase) (ps : Phrases) → is_keyed p ≡ false → fields b (more p ps) ≡ (term b 0 p && fields b ps)
bare_field b (keyed c at e) ps h = absurd (cc)
bare_field b p ps h = refl

abbrev feature : Constant × ℕ → Constant
feature f = f.0

-- ---- operands of `#`

abbrev pub is_some_term : Terms → Bool
is_some_term no_term = false
is_some_term (beside t ts) = true

-- bytes that spell operands, with these tokens
pub record Operands (words : List (List ℕ)) (at : ℕ) (bytes : List ℕ) (tokens : Phrases → List Token) (ts : Terms) : Type 0 where
  pub operands : Phrases
  pub some : is_more operands ≡ is_some_term ts
  pub spelt : Spelt words at bytes (tokens operands)
  pub fit : (b : Bool) → terms b (suc level_of_hashes) operands ≡ true
  pub says : SaysEach words operands ts
  pub keys : (n : ℕ) (fs : List Constant) → is_filled fs ts ≡ true → count_from n fs ≡ true → map feature (features n operands) ≡ fs

abbrev pub Gapped : List (List ℕ) → ℕ → Terms → Type 0
Gapped words at ts = Operands words at (gapped (codes "#") (hash_texts (field_texts words ts))) (led token.Hash) ts

module _ (words : List (List ℕ)) where
  pub no_operands : (at : ℕ) → Gapped words at no_term
  no_operands at = record {
    operands = nothing;
    some = refl;
    spelt = nothing_span words ends at;
    fit = λ b. refl;
    says = says_none words;
    keys = no_keys;
  }
    where
      no_keys : (n : ℕ) (fs : List Constant) → is_filled fs no_term ≡ true → count_from n fs ≡ true → map feature (features n nothing) ≡ fs
      no_keys n [] h c = refl
      no_keys n (f ∷ fs) h c = absurd (cc)

  -- the first operand, and those behind it
  pub first_operand : (at : ℕ) (xs : List ℕ) (t : Term) (ts : Terms) → Known words at xs (suc level_of_hashes) t → ((place : ℕ) → Gapped words place ts)
      → Operands words at (xs ++ gapped (codes "#") (hash_texts (field_texts words ts))) (separated token.Hash) (beside t ts)
  first_operand at xs t ts p rest =
      let q = rest (at + length xs) in
      record {
        operands = more p.phrase q.operands;
        some = refl;
        spelt = then_span words ends ends at (at + length xs) xs (gapped (codes "#") (hash_texts (field_texts words ts))) (tokens_of p.phrase) (led token.Hash q.operands)
            p.spelt refl q.spelt (λ r h. ends_gapped 35 (hash_texts (field_texts words ts)) r refl h);
        fit = λ b. both_yes (term b (suc level_of_hashes) p.phrase) (terms b (suc level_of_hashes) q.operands) (p.fit b (suc level_of_hashes) refl) (q.fit b);
        says = says_more words p.phrase q.operands t ts p.says q.says;
        keys = keys;
      }
    where
      keys : (n : ℕ) (fs : List Constant) → is_filled fs (beside t ts) ≡ true → count_from n fs ≡ true
          → map feature (features n (more p.phrase (rest (at + length xs)).operands)) ≡ fs
      keys n [] h c = absurd (cc)
      keys n (f ∷ fs) h c =
          let q = rest (at + length xs) in
          let e = counted n f fs c in
          let a : map feature (features n (more p.phrase q.operands)) ≡ constant.Int (pos n) ∷ map feature (features (suc n) q.operands) =
          ap (map feature) (bare_feature n p.phrase q.operands p.bare) in
          a ∙ (λ i. sym e.0 i ∷ q.keys (suc n) fs h e.1 i)

  -- with a `#` before them
  pub behind_hash : (at : ℕ) (xs : List ℕ) (t : Term) (ts : Terms)
      → Operands words (at + 1) (xs ++ gapped (codes "#") (hash_texts (field_texts words ts))) (separated token.Hash) (beside t ts)
      → Operands words at (35 ∷ (xs ++ gapped (codes "#") (hash_texts (field_texts words ts)))) (led token.Hash) (beside t ts)
  behind_hash at xs t ts q = record {
    operands = q.operands;
    some = q.some;
    spelt = same_span words ends at _ _ _ _ refl (led_tokens q.operands q.some)
        (led_by words anything at 35 (xs ++ gapped (codes "#") (hash_texts (field_texts words ts))) (token.Hash ∷ []) (separated token.Hash q.operands) (hash_span words at) q.spelt (λ r. refl));
    fit = q.fit;
    says = q.says;
    keys = q.keys;
  }
    where
      led_tokens : (es : Phrases) → is_more es ≡ true → token.Hash ∷ separated token.Hash es ≡ led token.Hash es
      led_tokens nothing h = absurd (cc)
      led_tokens (more e es) h = refl

  -- the whole
  pub hashed : (at : ℕ) (l : Literal) (fs : List Constant) (xs : List ℕ) (t u : Term) (ts : Terms) → l ≡ atom hash_word → count_from 1 fs ≡ true
      → is_arity words fs ≡ true → is_filled fs (beside t (beside u ts)) ≡ true → not (is_empty fs) ≡ true
      → Known words at xs (suc level_of_hashes) t → ((place : ℕ) → Gapped words place (beside u ts))
      → Known words at (xs ++ gapped (codes "#") (hash_texts (field_texts words (beside u ts)))) level_of_hashes (compound l fs (beside t (beside u ts)))
  unfolding first_operand
  hashed at l fs xs t u ts e c o h n p rest =
      let q = first_operand at xs t (beside u ts) p rest in
      let keys : keys_of q.operands ≡ fs = q.keys 1 fs h c in
      let several : is_more (rest (at + length xs)).operands ≡ true = (rest (at + length xs)).some in
      record {
        phrase = hashes q.operands;
        bare = refl;
        started = begins_more is_start xs _ p.started;
        spelt = q.spelt;
        fit = λ b m i. both_yes (nat_le m level_of_hashes) _ i (both_yes (at_least_two q.operands) _ several (q.fit b));
        says = subst (λ m. Says words (hashes q.operands) (compound m fs (beside t (beside u ts)))) (sym e)
            (says_hashes words fs (beside t (beside u ts)) q.operands o n h keys q.says);
      }

-- ---- fields

-- bytes that spell the fields of these features, where those without a key count from n on
pub record Filled (words : List (List ℕ)) (at : ℕ) (bytes : List ℕ) (n : ℕ) (fs : List Constant) (ts : Terms) : Type 0 where
  pub parts : Phrases
  pub spelt : Spelt words at bytes (each parts)
  pub fit : (b : Bool) → fields b parts ≡ true
  pub says : SaysEach words parts ts
  pub keys : map feature (features n parts) ≡ fs

abbrev pub texts_in : List (List ℕ) → Terms → List (List ℕ)
texts_in words ts = map (λ o. o.1) (field_texts words ts)

abbrev pub Behind : List (List ℕ) → ℕ → ℕ → List Constant → Terms → Type 0
Behind words at n fs ts = Filled words at (gapped (codes " ") (fields_text words n fs (texts_in words ts))) n fs ts

module _ (words : List (List ℕ)) (ws : AreWords words) where
  pub no_fields : (at n : ℕ) → Behind words at n [] no_term
  no_fields at n = record { parts = nothing; spelt = nothing_span words ends at; fit = λ b. refl; says = says_none words; keys = refl }

  -- the key of a field, and its text
  keyed_spelt : (at : ℕ) (f : Constant) (xs : List ℕ) (p : Phrase) → is_constant words f ≡ true → begins is_start xs ≡ true
      → Spelt words (at + length (constant_text words f) + 1) xs (tokens_of p) → Spelt words at (constant_text words f ++ codes ":" ++ xs) (tokens_of (keyed f at p))
  keyed_spelt at f xs p h b s =
      let n = at + length (constant_text words f) in
      let value : Spelt words n (58 ∷ xs) (token.Colon ∷ tokens_of p) =
      led_by words (begins is_start) n 58 xs (token.Colon ∷ []) (tokens_of p) (colon_span words n) s (λ r. begins_more is_start xs r b) in
      same_span words ends at (constant_text words f ++ (58 ∷ xs)) (constant_text words f ++ codes ":" ++ xs) _ _ (sym (append_assoc (constant_text words f) (codes ":") xs)) refl
      (then_span words ends ends at n (constant_text words f) (58 ∷ xs) (key_token f at ∷ []) (token.Colon ∷ tokens_of p)
      (constant_spelt words at f ws h) refl value (λ r e. refl))

  -- the first field: its key is left out where it is the next number
  bare_first : (at n : ℕ) (f : Constant) (fs : List Constant) (t : Term) (ts : Terms) → f ≡ constant.Int (pos n)
      → Known words at (term_text words t) 0 t → ((place : ℕ) → Behind words place (suc n) fs ts)
      → Filled words at (joined (codes " ") (term_text words t ∷ fields_text words (suc n) fs (texts_in words ts))) n (f ∷ fs) (beside t ts)
  bare_first at n f fs t ts e p rest =
      let q = rest (at + length (term_text words t)) in
      record {
        parts = more p.phrase q.parts;
        spelt = then_span words ends ends at (at + length (term_text words t)) (term_text words t) _ (tokens_of p.phrase) (each q.parts) p.spelt refl q.spelt
            (λ r h. ends_gapped 32 (fields_text words (suc n) fs (texts_in words ts)) r refl h);
        fit = λ b. bare_field b p.phrase q.parts p.bare ∙ both_yes (term b 0 p.phrase) _ (p.fit b 0 refl) (q.fit b);
        says = says_more words p.phrase q.parts t ts p.says q.says;
        keys = ap (map feature) (bare_feature n p.phrase q.parts p.bare) ∙ (λ i. sym e i ∷ q.keys i);
      }

  keyed_first : (at n : ℕ) (f : Constant) (fs : List Constant) (t : Term) (ts : Terms) → is_constant words f ≡ true
      → ((place : ℕ) → Known words place (term_text words t) 0 t) → ((place : ℕ) → Behind words place n fs ts)
      → Filled words at (joined (codes " ") ((constant_text words f ++ codes ":" ++ term_text words t) ∷ fields_text words n fs (texts_in words ts))) n (f ∷ fs) (beside t ts)
  keyed_first at n f fs t ts h known rest =
      let xs = constant_text words f ++ codes ":" ++ term_text words t in
      let p = known (at + length (constant_text words f) + 1) in
      let q = rest (at + length xs) in
      record {
        parts = more (keyed f at p.phrase) q.parts;
        spelt = then_span words ends ends at (at + length xs) xs _ (tokens_of (keyed f at p.phrase)) (each q.parts)
            (keyed_spelt at f (term_text words t) p.phrase h p.started p.spelt) refl q.spelt
            (λ r e. ends_gapped 32 (fields_text words n fs (texts_in words ts)) r refl e);
        fit = λ b. both_yes (term b 0 p.phrase) _ (p.fit b 0 refl) (q.fit b);
        says = says_more words (keyed f at p.phrase) q.parts t ts (says_keyed words f at p.phrase t p.says) q.says;
        keys = λ i. f ∷ q.keys i;
      }

  pub first_field : (at n : ℕ) (f : Constant) (fs : List Constant) (t : Term) (ts : Terms) → is_constant words f ≡ true
      → ((place : ℕ) → Known words place (term_text words t) 0 t) → ((m place : ℕ) → Behind words place m fs ts)
      → Filled words at (joined (codes " ") (fields_text words n (f ∷ fs) (texts_in words (beside t ts)))) n (f ∷ fs) (beside t ts)
  first_field at n f fs t ts h known rest = by (constant_eq f (constant.Int (pos n))) refl
    where
      by : (b : Bool) → constant_eq f (constant.Int (pos n)) ≡ b
          → Filled words at (joined (codes " ") (if b then term_text words t ∷ fields_text words (suc n) fs (texts_in words ts)
          else (constant_text words f ++ codes ":" ++ term_text words t) ∷ fields_text words n fs (texts_in words ts))) n (f ∷ fs) (beside t ts)
      by true e = bare_first at n f fs t ts (left_out f n e) (known at) (rest (suc n))
      by false e = keyed_first at n f fs t ts h known (rest n)

  -- with a blank before them
  pub behind_blank : (at n : ℕ) (f : Constant) (fs : List Constant) (t : Term) (ts : Terms)
      → Filled words (at + 1) (joined (codes " ") (fields_text words n (f ∷ fs) (texts_in words (beside t ts)))) n (f ∷ fs) (beside t ts)
      → Behind words at n (f ∷ fs) (beside t ts)
  behind_blank at n f fs t ts q = record {
    parts = q.parts;
    spelt = same_span words ends at _ _ _ _ (blank_first (constant_eq f (constant.Int (pos n)))) refl
        (led_by words anything at 32 _ [] (each q.parts) (blank_span words at) q.spelt (λ r. refl));
    fit = q.fit;
    says = q.says;
    keys = q.keys;
  }
    where
      blank_first : (b : Bool)
          → 32 ∷ joined (codes " ") (if b then term_text words t ∷ fields_text words (suc n) fs (texts_in words ts)
          else (constant_text words f ++ codes ":" ++ term_text words t) ∷ fields_text words n fs (texts_in words ts))
          ≡ gapped (codes " ") (if b then term_text words t ∷ fields_text words (suc n) fs (texts_in words ts)
          else (constant_text words f ++ codes ":" ++ term_text words t) ∷ fields_text words n fs (texts_in words ts))
      blank_first true = refl
      blank_first false = refl

  -- the whole: l(F ..)
  pub labelled : (at : ℕ) (l : Literal) (fs : List Constant) (ts : Terms) → is_literal words l ≡ true → is_arity words fs ≡ true → not (is_empty fs) ≡ true → is_filled fs ts ≡ true
      → ((place : ℕ) → Filled words place (joined (codes " ") (fields_text words 1 fs (texts_in words ts))) 1 fs ts)
      → Known words at (labelled_text words l fs (texts_in words ts)) tightest (compound l fs ts)
  labelled at l fs ts h o n f rest =
      let label = literal_text words l ++ codes "(" in
      let inner = joined (codes " ") (fields_text words 1 fs (texts_in words ts)) in
      let q = rest (at + length label) in
      let opened : Span words ends at (label ++ inner) (token.Label l at ∷ each q.parts) =
      then_span words anything ends at (at + length label) label inner (token.Label l at ∷ []) (each q.parts) (label_span words at l ws h) refl q.spelt (λ r e. refl) in
      let closed : Span words anything at (label ++ inner ++ codes ")") (token.Label l at ∷ (each q.parts ++ token.CloseParen ∷ [])) =
      then_span words ends anything at (at + length (label ++ inner)) (label ++ inner) (codes ")") (token.Label l at ∷ each q.parts) (token.CloseParen ∷ [])
      opened refl (close_span words (at + length (label ++ inner))) (λ r e. refl) in
      record {
        phrase = rec l at q.parts;
        bare = refl;
        started = begins_more is_start (label ++ inner) (codes ")") (begins_more is_start label inner
            (begins_more is_start (literal_text words l) (codes "(") (written_start words l (literal_text words l) (literal_written words l ws h))));
        spelt = record { go = λ text r more d e k. closed.go text r more d refl k };
        fit = λ b m i. q.fit b;
        says = says_record words l fs ts q.parts o n f q.keys q.says at;
      }

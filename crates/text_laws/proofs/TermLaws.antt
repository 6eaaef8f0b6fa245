-- The text of each term is read as the term.
use Rattle.std.proofs.Common.{◌≡◌, ◌+◌, ℕ, suc, pos, true, false, not, List, [], ◌∷◌, ◌++◌, refl, sym, subst, append-nil}
use Rattle.std.specs.Prelude.{nat_le, codes}
use Rattle.std.specs.List.{list_all}
use Rattle.oz_base.specs.Lists.{is_empty}
use Rattle.oz_language.specs.Grammar.{level_of_bars, level_of_hashes, tightest}
use Rattle.oz_language.specs.SimpleTexts.{joined, is_bars, is_chain, count_from, form_of, bar_texts, hash_texts, enclosed, fields_text, text_as, record_text, constant_text}
use Rattle.oz_language.specs.Translation.{atom}
use Rattle.oz_language.specs.Wording.{bar_word, hash_word}
use Rattle.oz_language.specs.declared.text.Form.{Form}
use Rattle.oz_language.specs.declared.text.Form.TheVariants as form
use Rattle.oz_language.specs.declared.token.Literal.{Literal}
use Rattle.oz_language.specs.declared.kernel.Constant.{Constant}
use Rattle.oz_language.specs.declared.kernel.Constant.TheVariants as constant
use Rattle.text_laws.specs.Terms.{Term, Terms, simple, compound, no_term, beside, is_literal, is_constant, is_fail, is_arity, is_filled, is_value, are_values, form_in, term_text, field_texts}
use Rattle.text_laws.specs.Laws.{AreWords, IsReadAs, ConstantsRead, TermsRead}
use Rattle.text_laws.proofs.Spellings.{whole_text}
use Rattle.text_laws.proofs.Features.{one_two}
use Rattle.text_laws.proofs.Sayings.{cell}
use Rattle.text_laws.proofs.Parts.{Known, Reading, level_in, operand, alone, loosened, barred, constant_known, simple_known}
use Rattle.text_laws.proofs.Fields.{Filled, Gapped, Behind, texts_in, no_operands, first_operand, behind_hash, hashed, no_fields, first_field, behind_blank, labelled}
use Rattle.text_laws.proofs.Labels.{bar_label, hash_label, bars_form, hashes_form, is_two, is_several, two_fields, several_fields}
use Rattle.text_laws.proofs.Basics.{both, negated}

-- ---- levels of operands

bar_level : (f : Form) → is_bars f ≡ false → nat_le level_of_hashes (level_in f) ≡ true
bar_level form.Bars h = absurd (cc)
bar_level form.Hashes h = refl
bar_level form.Other h = refl

hash_level : (f : Form) → is_chain f ≡ false → nat_le (suc level_of_hashes) (level_in f) ≡ true
hash_level form.Bars h = absurd (cc)
hash_level form.Hashes h = absurd (cc)
hash_level form.Other h = refl

any_level : (f : Form) → nat_le 0 (level_in f) ≡ true
any_level form.Bars = refl
any_level form.Hashes = refl
any_level form.Other = refl

-- ---- what a record that is a value has

record IsRecord (words : List (List ℕ)) (l : Literal) (fs : List Constant) (ts : Terms) : Type 0 where
  label : is_literal words l ≡ true
  features : list_all (is_constant words) fs ≡ true
  arity : is_arity words fs ≡ true
  some : not (is_empty fs) ≡ true
  filled : is_filled fs ts ≡ true
  values : are_values words ts ≡ true

is_record : (words : List (List ℕ)) (l : Literal) (fs : List Constant) (ts : Terms) → is_value words (compound l fs ts) ≡ true → IsRecord words l fs ts
is_record words l fs ts v =
    let a = both (is_literal words l) _ v in
    let b = both (list_all (is_constant words) fs) _ a.1 in
    let c = both (is_arity words fs) _ b.1 in
    let d = both (not (is_empty fs)) _ c.1 in
    let e = both (is_filled fs ts) (are_values words ts) d.1 in
    record { label = a.0; features = b.0; arity = c.0; some = d.0; filled = e.0; values = e.1 }

-- ---- records, by how their fields are read

abbrev BarsRead : List (List ℕ) → Terms → Type 0
BarsRead words ts = is_two ts ≡ true → (place : ℕ)
    → Reading words place (joined (codes "|") (bar_texts (field_texts words ts))) level_of_bars
    (compound (atom bar_word) (constant.Int (pos 1) ∷ constant.Int (pos 2) ∷ []) ts)

abbrev HashesRead : List (List ℕ) → Terms → Type 0
HashesRead words ts = is_several ts ≡ true → (l : Literal) (fs : List Constant) → l ≡ atom hash_word → count_from 1 fs ≡ true → is_arity words fs ≡ true → is_filled fs ts ≡ true → not (is_empty fs) ≡ true → (place : ℕ)
    → Known words place (joined (codes "#") (hash_texts (field_texts words ts))) level_of_hashes (compound l fs ts)

abbrev FieldsRead : List (List ℕ) → Terms → Type 0
FieldsRead words ts = (n : ℕ) (fs : List Constant) → is_filled fs ts ≡ true → list_all (is_constant words) fs ≡ true → not (is_empty fs) ≡ true → (place : ℕ)
    → Filled words place (joined (codes " ") (fields_text words n fs (texts_in words ts))) n fs ts

module _ (words : List (List ℕ)) (ws : AreWords words) where
  record_read : (l : Literal) (fs : List Constant) (ts : Terms) → IsRecord words l fs ts → BarsRead words ts → HashesRead words ts → FieldsRead words ts → (at : ℕ)
      → Reading words at (record_text words l fs (field_texts words ts)) (level_in (form_of words l fs)) (compound l fs ts)
  record_read l fs ts r bars hashes fields at = by (form_of words l fs) refl
    where
      by : (f : Form) → form_of words l fs ≡ f → Reading words at (text_as f words l fs (field_texts words ts)) (level_in f) (compound l fs ts)
      by form.Bars e =
          let b = bars_form words l fs e in
          let label = bar_label words l ws r.label b.0 in
          let features = one_two fs b.1 b.2 in
          subst (Reading words at (joined (codes "|") (bar_texts (field_texts words ts))) level_of_bars) (λ i. compound (sym label i) (sym features i) ts)
          (bars (two_fields fs ts r.filled b.2) at)
      by form.Hashes e =
          let h = hashes_form words l fs e in
          alone words at level_of_hashes _ _ refl (hashes (several_fields fs ts r.filled h.2) l fs (hash_label words l ws r.label h.0) h.1 r.arity r.filled r.some at)
      by form.Other e = alone words at tightest _ _ refl (labelled words ws at l fs ts r.label r.arity r.some r.filled (fields 1 fs r.filled r.features r.some))

  -- ---- terms and their fields

  mutual
    read : (t : Term) → is_value words t ≡ true → (at : ℕ) → Reading words at (term_text words t) (level_in (form_in words t)) t
    read (simple c) v at =
        let q = both (is_constant words c) (not (is_fail words c)) v in
        alone words at tightest _ _ refl (simple_known words at c ws q.0 (negated (is_fail words c) q.1))
    read (compound l fs ts) v at =
        let r = is_record words l fs ts v in
        record_read l fs ts r (bars_read ts r.values) (hashes_read ts r.values) (fields_read ts r.values) at

    bars_read : (ts : Terms) → are_values words ts ≡ true → BarsRead words ts
    bars_read (beside t (beside u no_term)) v two place =
        let a = both (is_value words t) _ v in
        let b = both (is_value words u) _ a.1 in
        let xs = enclosed (is_bars (form_in words t)) (term_text words t) in
        subst (λ ys. Reading words place (xs ++ (124 ∷ ys)) level_of_bars (cell t u))
        (sym (append-nil (term_text words u)))
        (barred words place xs (term_text words u) t u
        (operand words place (level_in (form_in words t)) level_of_hashes (term_text words t) t (is_bars (form_in words t)) (bar_level (form_in words t))
        (λ m. (read t a.0 m).known))
        (λ m. (read u b.0 m).chain))
    bars_read ts v two place = absurd (cc)

    hashes_read : (ts : Terms) → are_values words ts ≡ true → HashesRead words ts
    hashes_read (beside t (beside u ts)) v several l fs e c o h n place =
        let a = both (is_value words t) _ v in
        hashed words place l fs (enclosed (is_chain (form_in words t)) (term_text words t)) t u ts e c o h n
        (operand words place (level_in (form_in words t)) (suc level_of_hashes) (term_text words t) t (is_chain (form_in words t)) (hash_level (form_in words t))
        (λ m. (read t a.0 m).known))
        (λ m. operands_read (beside u ts) a.1 m)
    hashes_read ts v several l fs e c o h n place = absurd (cc)

    operands_read : (ts : Terms) → are_values words ts ≡ true → (place : ℕ) → Gapped words place ts
    operands_read no_term v place = no_operands words place
    operands_read (beside t ts) v place =
        let a = both (is_value words t) _ v in
        let xs = enclosed (is_chain (form_in words t)) (term_text words t) in
        behind_hash words place xs t ts (first_operand words (place + 1) xs t ts
        (operand words (place + 1) (level_in (form_in words t)) (suc level_of_hashes) (term_text words t) t (is_chain (form_in words t)) (hash_level (form_in words t))
        (λ m. (read t a.0 m).known))
        (λ m. operands_read ts a.1 m))

    fields_read : (ts : Terms) → are_values words ts ≡ true → FieldsRead words ts
    fields_read (beside t ts) v n (f ∷ fs) h c s place =
        let a = both (is_value words t) _ v in
        let d = both (is_constant words f) _ c in
        first_field words ws place n f fs t ts d.0
        (λ m. loosened words m (level_in (form_in words t)) 0 (term_text words t) t (any_level (form_in words t)) (read t a.0 m).known)
        (λ j m. fields_behind ts a.1 j fs h d.1 m)
    fields_read (beside t ts) v n [] h c s place = absurd (cc)
    fields_read no_term v n [] h c s place = absurd (cc)
    fields_read no_term v n (f ∷ fs) h c s place = absurd (cc)

    fields_behind : (ts : Terms) → are_values words ts ≡ true → (n : ℕ) (fs : List Constant) → is_filled fs ts ≡ true → list_all (is_constant words) fs ≡ true → (place : ℕ) → Behind words place n fs ts
    fields_behind no_term v n [] h c place = no_fields words ws place n
    fields_behind (beside t ts) v n (f ∷ fs) h c place =
        let a = both (is_value words t) _ v in
        let d = both (is_constant words f) _ c in
        behind_blank words ws place n f fs t ts (first_field words ws (place + 1) n f fs t ts d.0
        (λ m. loosened words m (level_in (form_in words t)) 0 (term_text words t) t (any_level (form_in words t)) (read t a.0 m).known)
        (λ j m. fields_behind ts a.1 j fs h d.1 m))
    fields_behind (beside t ts) v n [] h c place = absurd (cc)
    fields_behind no_term v n (f ∷ fs) h c place = absurd (cc)

  pub term_read : (t : Term) → is_value words t ≡ true → Known words 0 (term_text words t) (level_in (form_in words t)) t
  term_read t v = (read t v 0).known

-- ---- the laws

read_as : (words : List (List ℕ)) (bytes : List ℕ) (level : ℕ) (t : Term) → nat_le 0 level ≡ true → Known words 0 bytes level t → IsReadAs words bytes t
read_as words bytes level t l p =
    let h = whole_text words bytes _ p.spelt in
    record {
      lexemes = h.lexemes;
      phrase = p.phrase;
      lexed = h.lexed;
      spelled = h.spelled;
      expression = p.fit false 0 l;
      valued = p.says.valued;
      as_pattern = p.fit true 0 l;
      matched = p.says.matched;
    }

pub constants_read : ConstantsRead
constants_read words c ws h = read_as words (constant_text words c) tightest (simple c) refl (constant_known words 0 c ws h)

pub terms_read : TermsRead
terms_read words t ws v = read_as words (term_text words t) (level_in (form_in words t)) t (any_level (form_in words t)) (term_read words ws t v)

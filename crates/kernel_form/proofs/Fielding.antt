-- The fields of a record one after the other make up its text.
use Rattle.std.proofs.Common.{◌≡◌, ◌∙◌, ℕ, suc, Bool, true, false, not, ◌||◌, if◌then◌else◌, List, [], ◌∷◌, ◌++◌, length, map, codes, pos, ap, refl, sym, arith}
use Rattle.std.proofs.lemmas.List.{append_assoc, append-nil}
use Rattle.oz_language.specs.Constants.{constant_eq}
use Rattle.oz_language.specs.SimpleTexts.{constant_text, literal_text, fields_text, gapped, joined, enclosed, bar_texts, hash_texts, is_chain, is_bars, text_as}
use Rattle.oz_language.specs.declared.kernel.Constant.{Constant}
use Rattle.oz_language.specs.declared.kernel.Constant.TheVariants as constant
use Rattle.oz_language.specs.declared.token.Literal.{Literal}
use Rattle.oz_language.specs.declared.text.Form.{Form}
use Rattle.oz_language.specs.declared.text.Form.TheVariants as form
use Rattle.simple_text.specs.Keys.{key_text, next_after}
use Rattle.kernel_form.specs.Fields.{Rest, lead_before, passed_to, encloses, end_text, opening_text, just_opened}

-- the fields that are left, by their forms and texts
abbrev pub fields_left : List (List ℕ) → Rest → List (Form × List ℕ) → List ℕ
fields_left words r [] = []
fields_left words r (o ∷ os) = lead_before words r r.features ++ (enclosed (encloses r.form r.first o.0) o.1 ++ fields_left words (passed_to r r.features) os)

abbrev rest : Form → List Constant → ℕ → Bool → Bool → Rest
rest f fs n first closes = record { form = f; features = fs; next = n; first = first; closes = closes }

-- a field with its key, and those that are left
keyed : (words : List (List ℕ)) (n : ℕ) (f : Constant) (fs : List Constant) (t : List ℕ) (ts : List (List ℕ))
    → fields_text words n (f ∷ fs) (t ∷ ts) ≡ (key_text words f n ++ t) ∷ fields_text words (next_after f n) fs ts
keyed words n f fs t ts = by (constant_eq f (constant.Int (pos n)))
  where
    by : (b : Bool) → (if b then t ∷ fields_text words (suc n) fs ts else (constant_text words f ++ codes ":" ++ t) ∷ fields_text words n fs ts)
        ≡ ((if b then [] else constant_text words f ++ codes ":") ++ t) ∷ fields_text words (if b then suc n else n) fs ts
    by true = refl
    by false = refl

-- Fields behind the first

further_bars : (words : List (List ℕ)) (fs : List Constant) (n : ℕ) (z : Bool) (os : List (Form × List ℕ)) → length fs ≡ length os
    → fields_left words (rest form.Bars fs n false z) os ≡ gapped (codes "|") (map (λ (o : Form × List ℕ). o.1) os)
further_bars words fs n z [] e = refl
further_bars words [] n z (o ∷ os) e = absurd (omega (arith, e))
further_bars words (f ∷ fs) n z (o ∷ os) e = ap (λ t. codes "|" ++ (o.1 ++ t)) (further_bars words fs n z os (omega (arith, e)))

further_hashes : (words : List (List ℕ)) (fs : List Constant) (n : ℕ) (z : Bool) (os : List (Form × List ℕ)) → length fs ≡ length os
    → fields_left words (rest form.Hashes fs n false z) os ≡ gapped (codes "#") (hash_texts os)
further_hashes words fs n z [] e = refl
further_hashes words [] n z (o ∷ os) e = absurd (omega (arith, e))
further_hashes words (f ∷ fs) n z (o ∷ os) e = ap (λ t. codes "#" ++ (enclosed (is_chain o.0) o.1 ++ t)) (further_hashes words fs n z os (omega (arith, e)))

further_fields : (words : List (List ℕ)) (fs : List Constant) (n : ℕ) (z : Bool) (os : List (Form × List ℕ)) → length fs ≡ length os
    → fields_left words (rest form.Other fs n false z) os ≡ gapped (codes " ") (fields_text words n fs (map (λ (o : Form × List ℕ). o.1) os))
further_fields words [] n z [] e = refl
further_fields words (f ∷ fs) n z [] e = absurd (omega (arith, e))
further_fields words [] n z (o ∷ os) e = absurd (omega (arith, e))
further_fields words (f ∷ fs) n z (o ∷ os) e =
    let on = further_fields words fs (next_after f n) z os (omega (arith, e)) in
    let ts = map (λ (o : Form × List ℕ). o.1) os in
    rw (keyed words n f fs o.1 ts) (
    ap (λ t. (codes " " ++ key_text words f n) ++ (o.1 ++ t)) on
    ∙ ap (λ t. codes " " ++ t) (sym (append_assoc (key_text words f n) o.1 (gapped (codes " ") (fields_text words (next_after f n) fs ts)))))

-- All fields

all_bars : (words : List (List ℕ)) (fs : List Constant) (n : ℕ) (z : Bool) (os : List (Form × List ℕ)) → length fs ≡ length os
    → fields_left words (rest form.Bars fs n true z) os ≡ joined (codes "|") (bar_texts os)
all_bars words fs n z [] e = refl
all_bars words [] n z (o ∷ os) e = absurd (omega (arith, e))
all_bars words (f ∷ fs) n z (o ∷ os) e = ap (λ t. enclosed (is_bars o.0) o.1 ++ t) (further_bars words fs n z os (omega (arith, e)))

all_hashes : (words : List (List ℕ)) (fs : List Constant) (n : ℕ) (z : Bool) (os : List (Form × List ℕ)) → length fs ≡ length os
    → fields_left words (rest form.Hashes fs n true z) os ≡ joined (codes "#") (hash_texts os)
all_hashes words fs n z [] e = refl
all_hashes words [] n z (o ∷ os) e = absurd (omega (arith, e))
all_hashes words (f ∷ fs) n z (o ∷ os) e = ap (λ t. enclosed (is_chain o.0) o.1 ++ t) (further_hashes words fs n z os (omega (arith, e)))

all_fields : (words : List (List ℕ)) (fs : List Constant) (n : ℕ) (z : Bool) (os : List (Form × List ℕ)) → length fs ≡ length os
    → fields_left words (rest form.Other fs n true z) os ≡ joined (codes " ") (fields_text words n fs (map (λ (o : Form × List ℕ). o.1) os))
all_fields words [] n z [] e = refl
all_fields words (f ∷ fs) n z [] e = absurd (omega (arith, e))
all_fields words [] n z (o ∷ os) e = absurd (omega (arith, e))
all_fields words (f ∷ fs) n z (o ∷ os) e =
    let on = further_fields words fs (next_after f n) z os (omega (arith, e)) in
    let ts = map (λ (o : Form × List ℕ). o.1) os in
    rw (keyed words n f fs o.1 ts) (
    ap (λ t. key_text words f n ++ (o.1 ++ t)) on ∙ sym (append_assoc (key_text words f n) o.1 (gapped (codes " ") (fields_text words (next_after f n) fs ts))))

-- the beginning of a record, its fields and its end
pub record_law : (words : List (List ℕ)) (l : Literal) (f : Form) (fs : List Constant) (b : Bool) (os : List (Form × List ℕ)) → length fs ≡ length os → (is_chain f ≡ false → b ≡ false)
    → opening_text words l f b ++ (fields_left words (just_opened f fs b) os ++ end_text (not (is_chain f) || b)) ≡ enclosed b (text_as f words l fs os)
record_law words l form.Bars fs true os e h = ap (λ t. codes "(" ++ (t ++ codes ")")) (all_bars words fs 1 true os e)
record_law words l form.Bars fs false os e h = ap (λ t. t ++ []) (all_bars words fs 1 false os e) ∙ simp append-nil
record_law words l form.Hashes fs true os e h = ap (λ t. codes "(" ++ (t ++ codes ")")) (all_hashes words fs 1 true os e)
record_law words l form.Hashes fs false os e h = ap (λ t. t ++ []) (all_hashes words fs 1 false os e) ∙ simp append-nil
record_law words l form.Other fs true os e h = absurd (cc (h refl))
record_law words l form.Other fs false os e h =
    ap (λ t. (literal_text words l ++ codes "(") ++ (t ++ codes ")")) (all_fields words fs 1 true os e) ∙ simp append_assoc

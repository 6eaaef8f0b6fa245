-- Facts on printing that the functions' proofs cite.
use Rattle.std.proofs.Common.{◌≡◌, ◌∙◌, ℕ, zero, suc, ◌+◌, ◌≤◌, Bool, true, false, if◌then◌else◌, List, [], ◌∷◌, ◌++◌, Option, Some, None, Result, Ok, Err, IfOk, map, option_map, option_and_then, position, codes, pos, ap, ap₂, refl, sym, arith}
use Rattle.std.specs.List.{zip}
use Rattle.std.proofs.lemmas.List.{append_assoc}
use Rattle.oz_base.specs.Lists.{given_or}
use Rattle.oz_base.specs.declared.names.Ident.{Ident}
use Rattle.oz_language.specs.Constants.{constant_eq}
use Rattle.oz_domains.specs.Domains.{IntSet, only}
use Rattle.oz_semantics.specs.Store.{same, told_value, told_domain, domain_by, domain_of, value_of}
use Rattle.oz_language.specs.SimpleTexts.{text_as, bar_texts, hash_texts, enclosed, is_bars, is_chain, form_of, fields_text, gapped, joined, constant_text, literal_text}
use Rattle.oz_semantics.specs.Texts.{Printed, one_node, printed, undetermined_text, form_in, value_printed, record_or_up}
use Rattle.oz_language.specs.declared.kernel.Constant.{Constant}
use Rattle.oz_language.specs.declared.kernel.Constant.TheVariants as constant
use Rattle.oz_language.specs.declared.text.Form.{Form}
use Rattle.oz_language.specs.declared.text.Form.TheVariants as form
use Rattle.oz_language.specs.declared.token.Literal.{Literal}
use Rattle.oz_semantics.specs.Values.{integer}
use Rattle.oz_semantics.specs.declared.value.Tell.{Tell}
use Rattle.oz_semantics.specs.declared.value.Value.{Value}
use Rattle.oz_semantics.specs.declared.value.Value.TheVariants as value
use Rattle.oz_semantics.specs.declared.value.Record as records
use Rattle.simple_text.specs.Keys.{key_text, next_after}
use Rattle.term_text.specs.Operands.{gap_of, gap_before, opening, ending, left_paren, right_paren, keyed, is_enclosed, operand_texts, led_by, first_key, next_behind, features_behind}
use Rattle.term_text.specs.declared.printer.Open.{Open}
use Rattle.term_text.specs.declared.printer.Term.{Term}
use Rattle.term_text.specs.Pending.{variables_of, rest_printed, record_left, pending, with_rest, with_fields}

-- a term has a node at least
record_node : (words : List (List ℕ)) (forms : Ident → Form) (print : Ident → Printed) (t : records.Record) (up : Option ℕ) → 1 ≤ (record_or_up words forms print t up).nodes
record_node words forms print t None = omega arith
record_node words forms print t (Some k) = omega arith

value_node : (words : List (List ℕ)) (forms : Ident → Form) (print : Ident → Printed) (up : Option ℕ) (domain : Option IntSet) (v : Option Value) → 1 ≤ (value_printed words forms print up domain v).nodes
value_node words forms print up domain None = omega arith
value_node words forms print up domain (Some (value.Constant k)) = omega arith
value_node words forms print up domain (Some (value.Record t)) = record_node words forms print t up
value_node words forms print up domain (Some (value.Procedure p)) = omega arith
value_node words forms print up domain (Some (value.Builtin b)) = omega arith
value_node words forms print up domain (Some (value.Name n)) = omega arith
value_node words forms print up domain (Some (value.Cell c)) = omega arith
value_node words forms print up domain (Some (value.Port p)) = omega arith
value_node words forms print up domain (Some (value.Space s)) = omega arith

pub term_node : (words : List (List ℕ)) (view : List Tell) (n : ℕ) (up : List Ident) (x : Ident) → 1 ≤ (printed words view n up x).nodes
unfolding printed
term_node words view zero up x = omega arith
term_node words view (suc n) up x = value_node words (form_in words view (x ∷ up)) (printed words view n (x ∷ up)) (position (same view x) up) (domain_of view x) (value_of view x)

-- a term within a bound that is left, and at the end of the bound
pub printed_suc : (words : List (List ℕ)) (view : List Tell) (m n : ℕ) (up : List Ident) (x : Ident) → m ≡ suc n
    → printed words view m up x ≡ value_printed words (form_in words view (x ∷ up)) (printed words view n (x ∷ up)) (position (same view x) up) (domain_of view x) (value_of view x)
unfolding printed
printed_suc words view m n up x e = ap (λ k. printed words view k up x) e

pub printed_zero : (words : List (List ℕ)) (view : List Tell) (m : ℕ) (up : List Ident) (x : Ident) → m ≡ 0 → printed words view m up x ≡ record { bytes = []; nodes = 1 }
unfolding printed
printed_zero words view m up x e = ap (λ k. printed words view k up x) e

-- a variable that is not determined has the domain that its class was told
pub undetermined_domain : (view : List Tell) (x : Ident) → value_of view x ≡ None → domain_of view x ≡ told_domain view x
undetermined_domain view x e = by (told_value view x) e
  where
    by : (o : Option Value) → given_or o (option_map integer (option_and_then only (told_domain view x))) ≡ None → domain_by o (told_domain view x) ≡ told_domain view x
    by None k = refl
    by (Some v) k = cc

pub undetermined_printed : (words : List (List ℕ)) (forms : Ident → Form) (print : Ident → Printed) (up : Option ℕ) (view : List Tell) (x : Ident) (s : Option IntSet)
    → value_of view x ≡ None → s ≡ told_domain view x → value_printed words forms print up (domain_of view x) (value_of view x) ≡ one_node (undetermined_text s)
undetermined_printed words forms print up view x s e k = ap₂ (value_printed words forms print up) (undetermined_domain view x e ∙ sym k) e

-- Fields

append_none : (xs : List ℕ) → xs ++ [] ≡ xs
append_none [] = refl
append_none (x ∷ xs) = ap (λ ys. x ∷ ys) (append_none xs)

led_by_none : (gap : List ℕ) (ts : List (List ℕ)) → led_by [] gap ts ≡ joined gap ts
led_by_none gap [] = refl
led_by_none gap (t ∷ ts) = refl

led_by_gap : (gap : List ℕ) (ts : List (List ℕ)) → led_by gap gap ts ≡ gapped gap ts
led_by_gap gap [] = refl
led_by_gap gap (t ∷ ts) = sym (append_assoc gap t (gapped gap ts))

-- a text in parentheses, or not
in_parens : (e : Bool) (t : List ℕ) → enclosed e t ≡ left_paren e ++ (t ++ right_paren e)
in_parens true t = append_assoc (codes "(") t (codes ")")
in_parens false t = sym (append_none t)

-- the texts of all fields, by the form of the record
bare_texts : (forms : Ident → Form) (print : Ident → Printed) (xs : List Ident) → map (λ (p : Form × List ℕ). p.1) (zip (map forms xs) (map (λ (p : Printed). p.bytes) (map print xs))) ≡ operand_texts form.Bars false forms print xs
bare_texts forms print [] = refl
bare_texts forms print (x ∷ xs) = ap (λ ts. (print x).bytes ∷ ts) (bare_texts forms print xs)

other_texts : (first : Bool) (forms : Ident → Form) (print : Ident → Printed) (xs : List Ident)
    → map (λ (p : Form × List ℕ). p.1) (zip (map forms xs) (map (λ (p : Printed). p.bytes) (map print xs))) ≡ operand_texts form.Other first forms print xs
other_texts first forms print [] = refl
other_texts first forms print (x ∷ xs) = ap (λ ts. (print x).bytes ∷ ts) (other_texts false forms print xs)

bars_texts : (forms : Ident → Form) (print : Ident → Printed) (xs : List Ident) → bar_texts (zip (map forms xs) (map (λ (p : Printed). p.bytes) (map print xs))) ≡ operand_texts form.Bars true forms print xs
bars_texts forms print [] = refl
bars_texts forms print (x ∷ xs) = ap (λ ts. enclosed (is_bars (forms x)) (print x).bytes ∷ ts) (bare_texts forms print xs)

hashes_texts : (first : Bool) (forms : Ident → Form) (print : Ident → Printed) (xs : List Ident)
    → hash_texts (zip (map forms xs) (map (λ (p : Printed). p.bytes) (map print xs))) ≡ operand_texts form.Hashes first forms print xs
hashes_texts first forms print [] = refl
hashes_texts first forms print (x ∷ xs) = ap (λ ts. enclosed (is_chain (forms x)) (print x).bytes ∷ ts) (hashes_texts false forms print xs)

-- a record is what stands before its fields, these, and what stands behind them
text_parts : (g : Form) (words : List (List ℕ)) (l : Literal) (fs : List Constant) (forms : Ident → Form) (print : Ident → Printed) (xs : List Ident)
    → text_as g words l fs (zip (map forms xs) (map (λ (p : Printed). p.bytes) (map print xs)))
    ≡ (opening words g l ++ led_by [] (gap_of g) (fields_text words 1 (keyed g fs) (operand_texts g true forms print xs))) ++ ending g
text_parts form.Bars words l fs forms print xs =
    let ts = operand_texts form.Bars true forms print xs in
    ap (joined (codes "|")) (bars_texts forms print xs) ∙ sym (led_by_none (codes "|") ts) ∙ sym (append_none (led_by [] (codes "|") ts))
text_parts form.Hashes words l fs forms print xs =
    let ts = operand_texts form.Hashes true forms print xs in
    ap (joined (codes "#")) (hashes_texts true forms print xs) ∙ sym (led_by_none (codes "#") ts) ∙ sym (append_none (led_by [] (codes "#") ts))
text_parts form.Other words l fs forms print xs =
    let ts = fields_text words 1 fs (operand_texts form.Other true forms print xs) in
    ap (λ ops. ((literal_text words l ++ codes "(") ++ joined (codes " ") (fields_text words 1 fs ops)) ++ codes ")") (other_texts true forms print xs)
    ∙ ap (λ row. ((literal_text words l ++ codes "(") ++ row) ++ codes ")") (sym (led_by_none (codes " ") ts))

-- a field, and those that are left
key_before : (words : List (List ℕ)) (n : ℕ) (f : Constant) (fs : List Constant) (t : List ℕ) (ts : List (List ℕ))
    → fields_text words n (f ∷ fs) (t ∷ ts) ≡ (key_text words f n ++ t) ∷ fields_text words (next_after f n) fs ts
key_before words n f fs t ts = by (constant_eq f (constant.Int (pos n)))
  where
    by : (b : Bool) → (if b then t ∷ fields_text words (suc n) fs ts else (constant_text words f ++ codes ":" ++ t) ∷ fields_text words n fs ts)
        ≡ ((if b then [] else constant_text words f ++ codes ":") ++ t) ∷ fields_text words (if b then suc n else n) fs ts
    by true = refl
    by false = refl

field_text : (words : List (List ℕ)) (n : ℕ) (fs : List Constant) (t : List ℕ) (ts : List (List ℕ))
    → fields_text words n fs (t ∷ ts) ≡ (first_key words n fs ++ t) ∷ fields_text words (next_behind n fs) (features_behind fs) ts
field_text words n [] t ts = refl
field_text words n (f ∷ fs) t ts = key_before words n f fs t ts

-- no field is left
ended : (g : Form) (first owed : Bool) (words : List (List ℕ)) (n : ℕ) (fs : List Constant) (forms : Ident → Form) (print : Ident → Printed)
    → rest_printed g first owed words n fs forms print [] ≡ record { bytes = ending g ++ right_paren owed; nodes = 0 }
ended g first owed words n [] forms print = refl
ended g first owed words n (f ∷ fs) forms print = refl

-- a record has no field left, and is closed
pub closes : (words : List (List ℕ)) (view : List Tell) (first : Bool) (os os' : List Open) (o : Open) (old new : List ℕ)
    → o.fields.now ≡ [] → os' ≡ os → new ≡ old ++ (ending o.form ++ right_paren o.owed)
    → (new ++ (pending words view os').bytes ≡ old ++ (with_rest first words view os o).bytes) × (0 + (pending words view os').nodes ≡ (with_rest first words view os o).nodes)
closes words view first os os' o old new none same_open written =
    let forms = form_in words view (o.variable.now ∷ variables_of os) in
    let print = printed words view o.bound (o.variable.now ∷ variables_of os) in
    let end : List ℕ = ending o.form ++ right_paren o.owed in
    let left : record_left first words view os o ≡ record { bytes = end; nodes = 0 } =
    ap (λ ys. rest_printed o.form first o.owed words o.next o.features.now forms print ys) none ∙ ended o.form first o.owed words o.next o.features.now forms print in
    let after = pending words view os in (
      ap₂ (λ bs ps. bs ++ (pending words view ps).bytes) written same_open ∙ append_assoc old end after.bytes ∙ sym (ap (λ (p : Printed). old ++ (p.bytes ++ after.bytes)) left),
      ap (λ ps. 0 + (pending words view ps).nodes) same_open ∙ sym (ap (λ (p : Printed). p.nodes + after.nodes) left),
    )

regrouped : (old gap key left text right others end after : List ℕ)
    → (((old ++ gap) ++ key) ++ left) ++ ((text ++ right) ++ ((others ++ end) ++ after)) ≡ old ++ (((gap ++ ((key ++ (left ++ (text ++ right))) ++ others)) ++ end) ++ after)
regrouped old gap key left text right others end after = simp append_assoc

-- a record goes on with its next field, and stays open
pub goes_on : (words : List (List ℕ)) (view : List Tell) (first : Bool) (os os' : List Open) (o o' : Open) (y : Ident) (owed : Bool) (old new : List ℕ)
    → os' ≡ o' ∷ os → o.fields.now ≡ y ∷ o'.fields.now → o'.features.now ≡ features_behind o.features.now → o'.next ≡ next_behind o.next o.features.now
    → o'.variable.now ≡ o.variable.now → o'.form ≡ o.form → o'.owed ≡ o.owed → o'.bound ≡ o.bound
    → owed ≡ is_enclosed o.form first (form_in words view (variables_of os') y)
    → new ≡ ((old ++ gap_before o.form first) ++ first_key words o.next o.features.now) ++ left_paren owed
    → (new ++ (((printed words view o.bound (variables_of os') y).bytes ++ right_paren owed) ++ (pending words view os').bytes) ≡ old ++ (with_rest first words view os o).bytes)
    × (0 + ((printed words view o.bound (variables_of os') y).nodes + (pending words view os').nodes) ≡ (with_rest first words view os o).nodes)
goes_on words view first os os' o o' y owed old new opened fields features next variable same_form same_owed bound enclosing written =
    let up : List Ident = o.variable.now ∷ variables_of os in
    let forms = form_in words view up in
    let print = printed words view o.bound up in
    let text = (print y).bytes in
    let e = is_enclosed o.form first (forms y) in
    let others = operand_texts o.form false forms print o'.fields.now in
    let behind = fields_text words (next_behind o.next o.features.now) (features_behind o.features.now) others in
    let key = first_key words o.next o.features.now in
    let gap = gap_before o.form first in
    let end : List ℕ = ending o.form ++ right_paren o.owed in
    let after = pending words view os in
    let owing : owed ≡ e = enclosing ∙ ap (λ ps. is_enclosed o.form first (form_in words view (variables_of ps) y)) opened ∙ ap (λ x. is_enclosed o.form first (form_in words view (x ∷ variables_of os) y)) variable in
    rw (written, opened, owing, variable, same_form, same_owed, bound, next, fields, features) (
      ap (λ ts. (((old ++ gap) ++ key) ++ left_paren e) ++ ((text ++ right_paren e) ++ ((ts ++ end) ++ after.bytes))) (led_by_gap (gap_of o.form) behind)
          ∙ regrouped old gap key (left_paren e) text (right_paren e) (gapped (gap_of o.form) behind) end after.bytes
          ∙ ap (λ (t : List ℕ). old ++ (((gap ++ ((key ++ t) ++ gapped (gap_of o.form) behind)) ++ end) ++ after.bytes)) (sym (in_parens e text))
          ∙ sym (ap (λ ts. old ++ ((led_by gap (gap_of o.form) ts ++ end) ++ after.bytes)) (field_text words o.next o.features.now (enclosed e text) others)),
      omega arith,
    )

-- a record is opened: what stands before its fields is written, and all fields are left
opening_written : (g : Form) (words : List (List ℕ)) (l : Literal) (fs : List Constant) (forms : Ident → Form) (print : Ident → Printed) (xs : List Ident) (owed : Bool) (old after : List ℕ)
    → (old ++ opening words g l) ++ ((rest_printed g true owed words 1 (keyed g fs) forms print xs).bytes ++ after)
    ≡ old ++ ((text_as g words l fs (zip (map forms xs) (map (λ (p : Printed). p.bytes) (map print xs))) ++ right_paren owed) ++ after)
opening_written g words l fs forms print xs owed old after =
    rw (text_parts g words l fs forms print xs) (simp append_assoc)

pub opens : {E : Type 0} (r : Result (Option Term) E) (words : List (List ℕ)) (view : List Tell) (os : List Open) (o : Open) (t : Term) (v : records.Record) (old opened new : List ℕ) (after : Option Term → Printed)
    → opened ≡ old ++ opening words (form_of words v.label v.features) v.label
    → o.variable.now ≡ t.variable.now → o.form ≡ form_of words v.label v.features → o.owed ≡ t.owed → o.bound ≡ t.bound
    → o.next ≡ 1 → o.features.now ≡ keyed (form_of words v.label v.features) v.features → o.fields.now ≡ v.fields
    → IfOk r (λ next. (new ++ (after next).bytes ≡ opened ++ (with_rest true words view os o).bytes) × (0 + (after next).nodes ≡ (with_rest true words view os o).nodes))
    → IfOk r (λ next. (new ++ (after next).bytes ≡ old ++ (with_fields words view os t v).bytes) × (1 + (after next).nodes ≡ (with_fields words view os t v).nodes))
opens (Ok next) words view os o t v old opened new after written variable same_form owed bound first features fields h =
    let up : List Ident = t.variable.now ∷ variables_of os in
    let k = rw (written, variable, same_form, owed, bound, first, features, fields) at h in
    (k.0 ∙ opening_written (form_of words v.label v.features) words v.label v.features (form_in words view up) (printed words view t.bound up) v.fields t.owed old (pending words view os).bytes, omega (arith, k.1))
opens (Err e) words view os o t v old opened new after written variable same_form owed bound first features fields h = h

-- a node, and then what takes none
pub follows : {A E : Type 0} (r : Result A E) (old middle new : List ℕ) (left rest : Printed) (still : A → Printed)
    → (middle ++ rest.bytes ≡ old ++ left.bytes) × (1 + rest.nodes ≡ left.nodes)
    → IfOk r (λ a. (new ++ (still a).bytes ≡ middle ++ rest.bytes) × (0 + (still a).nodes ≡ rest.nodes))
    → IfOk r (λ a. (new ++ (still a).bytes ≡ old ++ left.bytes) × (1 + (still a).nodes ≡ left.nodes))
follows (Ok a) old middle new left rest still first h = (h.0 ∙ first.0, omega (arith, h.1, first.1))
follows (Err e) old middle new left rest still first h = h

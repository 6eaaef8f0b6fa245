-- The text of a term whose variables are determined.
use Rattle.std.proofs.Common.{◌≡◌, ℕ, suc, ◌<◌, true, if◌then◌else◌, List, [], ◌∷◌, length, map, Contains, All, Option, Some, None, option_map, position, refl, ◌∙◌, ap}
use Rattle.std.proofs.lemmas.List.Elements.{All-head, All-tail}
use Rattle.std.specs.List.{zip}
use Rattle.oz_base.specs.declared.names.Ident.{Ident}
use Rattle.oz_domains.specs.Domains.{is_single, least}
use Rattle.oz_domains.specs.Positions.{domain, all_single}
use Rattle.oz_language.specs.declared.text.Form.TheVariants as form
use Rattle.oz_language.specs.declared.token.Literal.{Literal}
use Rattle.oz_language.specs.declared.kernel.Constant.{Constant}
use Rattle.oz_language.specs.declared.kernel.Constant.TheVariants as constant
use Rattle.oz_language.specs.SimpleTexts.{integer_text, simple_text, record_text}
use Rattle.oz_semantics.specs.Values.{integer}
use Rattle.oz_semantics.specs.Store.{View, same, value_of, domain_of}
use Rattle.oz_semantics.specs.Texts.{Printed, form_unless_open, form_in, value_printed, printed, term_text}
use Rattle.oz_semantics.specs.declared.value.Value.{Value}
use Rattle.oz_semantics.specs.declared.value.Value.TheVariants as value
use Rattle.oz_semantics.specs.declared.value.Tell.{Tell}
use Rattle.fd_domain.proofs.SetLaws.{and_left, and_right}
use Rattle.fd_stores.specs.Stores.{Store, domains_at}
use Rattle.fd_stores.proofs.Lists.{contains_none}
use Rattle.fd_views.specs.Views.{variable_at, variables_at, StandsFor, HasValue}
use Rattle.fd_views.proofs.ValueLaws.{value_is}
use Rattle.fd_views.proofs.DeterminedLaws.{value_at}
use Rattle.fd_search.specs.Texts.{TextsLaw}

-- a view that tells something has a length
some_length : (view : View) (u : Tell) → Contains view u → (n : ℕ) × (length view ≡ suc n)
some_length [] u c = absurd (contains_none u c)
some_length (t ∷ view) u c = (length view, refl)

module _ (words : List (List ℕ)) (view : View) (xs : List Ident) (s : Store) (h : StandsFor view xs s) where
  single_value : (i : ℕ) → i < length xs → is_single (domain s i) ≡ true → value_of view (variable_at xs i) ≡ Some (integer (least (domain s i)))
  single_value i l e = value_at view xs s h i l ∙ ap (λ b. option_map integer (if b then Some (least (domain s i)) else None)) e

  -- ---- one variable

  single_text : (n : ℕ) (up : List Ident) (i : ℕ) → i < length xs → is_single (domain s i) ≡ true → (printed words view (suc n) up (variable_at xs i)).bytes ≡ integer_text (least (domain s i))
  unfolding printed
  single_text n up i l e =
      let v = variable_at xs i in
      ap (λ o. (value_printed words (form_in words view (v ∷ up)) (printed words view n (v ∷ up)) (position (same view v) up) (domain_of view v) o).bytes) (single_value i l e)

  single_form : (up : List Ident) (i : ℕ) → i < length xs → is_single (domain s i) ≡ true → form_in words view up (variable_at xs i) ≡ form.Other
  single_form up i l e = ap (form_unless_open words (position (same view (variable_at xs i)) up)) (single_value i l e) ∙ by (position (same view (variable_at xs i)) up) where
    by : (o : Option ℕ) → form_unless_open words o (Some (integer (least (domain s i)))) ≡ form.Other
    by None = refl
    by (Some k) = refl

  -- ---- several

  fields_text : (n : ℕ) (up : List Ident) (is : List ℕ) → All (λ i. i < length xs) is → all_single (domains_at s is) ≡ true
      → zip (map (form_in words view up) (variables_at xs is)) (map (λ (p : Printed). p.bytes) (map (printed words view (suc n) up) (variables_at xs is))) ≡ map (λ v. (form.Other, integer_text v)) (map least (domains_at s is))
  fields_text n up [] a e = refl
  fields_text n up (i ∷ is) a e =
      let l = All-head (λ j. j < length xs) i is a in
      let single = and_left _ _ e in
      let f = single_form up i l single in
      let t = single_text n up i l single in
      let rest = fields_text n up is (All-tail (λ j. j < length xs) i is a) (and_right (is_single (domain s i)) _ e) in
      λ k. (f k, t k) ∷ rest k

  -- ---- the root

  module _ (x : Ident) where
    root_value : (v : Value) → HasValue view x v → value_of view x ≡ Some v
    root_value v r = value_is view xs x v h.plain r

    root_text : (n : ℕ) (v : Value) → HasValue view x v → (printed words view (suc n) [] x).bytes ≡ (value_printed words (form_in words view (x ∷ [])) (printed words view n (x ∷ [])) None (domain_of view x) (Some v)).bytes
    unfolding printed
    root_text n v r = ap (λ o. (value_printed words (form_in words view (x ∷ [])) (printed words view n (x ∷ [])) None (domain_of view x) o).bytes) (root_value v r)

    pub record_shown : (l : Literal) (fs : List Constant) (is : List ℕ) → All (λ i. i < length xs) is → all_single (domains_at s is) ≡ true
        → HasValue view x (value.Record (record { label = l; features = fs; fields = variables_at xs is }))
        → (term_text words view x).bytes ≡ record_text words l fs (map (λ n. (form.Other, integer_text n)) (map least (domains_at s is)))
    record_shown l fs is a e r =
        let v = value.Record (record { label = l; features = fs; fields = variables_at xs is }) in
        let some = some_length view _ r.told in
        root_text (length view) v r
        ∙ ap (λ m. (value_printed words (form_in words view (x ∷ [])) (printed words view m (x ∷ [])) None (domain_of view x) (Some v)).bytes) some.1
        ∙ ap (record_text words l fs) (fields_text some.0 (x ∷ []) is a e)

    pub literal_shown : (l : Literal) → HasValue view x (value.Constant (constant.Literal l)) → (term_text words view x).bytes ≡ simple_text words (constant.Literal l)
    literal_shown l r = root_text (length view) (value.Constant (constant.Literal l)) r

pub texts_law : TextsLaw
texts_law words view xs s x h = record { of_record = record_shown words view xs s h x; of_literal = literal_shown words view xs s h x }

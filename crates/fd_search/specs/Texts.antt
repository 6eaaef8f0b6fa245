-- The text of a search's root variable, by which a solved space shows its solution (values, CTM 2.3; solutions of a script, CTM 12.2).
use Rattle.std.specs.Prelude.{◌≡◌, ◌<◌, ℕ, true, List, length, map, All}
use Rattle.oz_base.specs.declared.names.Ident.{Ident}
use Rattle.oz_domains.specs.Domains.{least}
use Rattle.oz_domains.specs.Positions.{all_single}
use Rattle.oz_language.specs.declared.text.Form.TheVariants as form
use Rattle.oz_language.specs.declared.token.Literal.{Literal}
use Rattle.oz_language.specs.declared.kernel.Constant.{Constant}
use Rattle.oz_language.specs.declared.kernel.Constant.TheVariants as constant
use Rattle.oz_language.specs.SimpleTexts.{integer_text, simple_text, record_text}
use Rattle.oz_semantics.specs.Store.{View}
use Rattle.oz_semantics.specs.Texts.{term_text}
use Rattle.oz_semantics.specs.declared.value.Value.TheVariants as value
use Rattle.fd_stores.specs.Stores.{Store, domains_at}
use Rattle.fd_views.specs.Views.{variables_at, StandsFor, HasValue}

-- the text of a record whose fields are determined variables has their values for its fields, and a literal is its own text
pub record TextLaw (words : List (List ℕ)) (view : View) (xs : List Ident) (s : Store) (x : Ident) : Type 0 where
  pub of_record : (l : Literal) (fs : List Constant) (is : List ℕ) → All (λ i. i < length xs) is → all_single (domains_at s is) ≡ true
      → HasValue view x (value.Record (record { label = l; features = fs; fields = variables_at xs is }))
      → (term_text words view x).bytes ≡ record_text words l fs (map (λ n. (form.Other, integer_text n)) (map least (domains_at s is)))
  pub of_literal : (l : Literal) → HasValue view x (value.Constant (constant.Literal l)) → (term_text words view x).bytes ≡ simple_text words (constant.Literal l)

-- and this holds in each view that stands for a store
abbrev pub TextsLaw : Type 0
TextsLaw = (words : List (List ℕ)) (view : View) (xs : List Ident) (s : Store) (x : Ident) → StandsFor view xs s → TextLaw words view xs s x

-- Operands, operators and fields, case by case as the code reads them.
use Rattle.std.proofs.Common.{◌≡◌, ℕ, Bool, Option, Some, None, [], ◌∷◌, true, false, refl}
use Rattle.std.specs.Prelude.{option_map}
use Rattle.oz_language.specs.Grammar.{Phrase, int}
use Rattle.oz_language.specs.declared.kernel.Constant.{Constant}
use Rattle.oz_language.specs.declared.token.Operator.{Operator}
use Rattle.oz_language.specs.declared.token.Token.{Token}
use Rattle.oz_language.specs.declared.token.Token.TheVariants.{Var}
use Rattle.expression_steps.specs.Operands.{term_begins, takes_term, key_of}
use Rattle.open_constructs.specs.View.{is_in_fields}
use Rattle.reader_law.specs.Machine.{Stack, guard, pattern_begins, add_term, left_of, relating, turn_key, key, fields, behind_value}

-- a pattern begins as what is read in one
pub pattern_as_term : (t : Token) (k : Stack) → pattern_begins t k ≡ term_begins true t k
pattern_as_term (Var name at) k = refl
pattern_as_term t k = refl

pub add_term_as : (op : Operator) (p : Phrase) (k : Stack) → add_term op p k ≡ guard (takes_term p k) (Some (left_of op p ∷ k))
add_term_as op p [] = refl
add_term_as op p (relating r a ∷ k) = refl
add_term_as op p (f ∷ k) = refl

pub turn_as : (e : Phrase) (in_pattern : Bool) (k : Stack) → turn_key e in_pattern k ≡ option_map (λ (p : Constant × ℕ). key in_pattern p.0 p.1 ∷ k) (key_of e)
turn_as (int i at) in_pattern k = refl
turn_as e in_pattern k = refl

pub behind_value_none : (t : Option Token) (v : Phrase) (j : Constant) (n : ℕ) (k : Stack) → is_in_fields k ≡ false → behind_value t v j n k ≡ None
behind_value_none t v j n [] h = refl
behind_value_none t v j n (fields in_pattern l at fs ∷ k) h = absurd (cc)
behind_value_none t v j n (f ∷ k) h = refl

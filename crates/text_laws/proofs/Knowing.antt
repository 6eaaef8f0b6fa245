-- What other words have of the words of tokens, and of terms.
use Rattle.std.proofs.Common.{◌≡◌, ℕ, suc, Bool, true, List, ◌∷◌, ◌++◌, Option, Some, None, refl, sym, ◌∙◌}
use Rattle.std.specs.Prelude.{map}
use Rattle.std.specs.List.{list_all, list_any}
use Rattle.std.proofs.lemmas.List.Folds.{list_all-append}
use Rattle.oz_base.specs.Lists.{list_eq}
use Rattle.oz_language.specs.Grammar.{Phrases, nothing, more, keyed, key_token, tokens_of, each, separated, led, is_more}
use Rattle.oz_language.specs.Refusals.{features}
use Rattle.oz_language.specs.Translation.{atom}
use Rattle.oz_language.specs.Wording.{bar_word, hash_word}
use Rattle.oz_language.specs.declared.token.Literal.{Literal}
use Rattle.oz_language.specs.declared.token.Literal.TheVariants as literal
use Rattle.oz_language.specs.declared.token.Token.{Token}
use Rattle.oz_language.specs.declared.token.Token.TheVariants as token
use Rattle.oz_language.specs.declared.kernel.Constant.{Constant}
use Rattle.oz_language.specs.declared.kernel.Constant.TheVariants as constant
use Rattle.text_laws.specs.Renaming.{has_literal, has_constant}
use Rattle.text_laws.proofs.Words.{token_word}
use Rattle.text_laws.proofs.Basics.{both, both_yes}

abbrev pub knows_word : List (List ℕ) → Option (List ℕ) → Bool
knows_word others None = true
knows_word others (Some word) = list_any (list_eq word) others

abbrev pub knows : List (List ℕ) → List (List ℕ) → Token → Bool
knows words others t = knows_word others (token_word words t)

-- the labels of chains have no token
pub record KnowsChains (words others : List (List ℕ)) : Type 0 where
  pub bar : has_literal words others (atom bar_word) ≡ true
  pub hash : has_literal words others (atom hash_word) ≡ true

-- ---- lists of tokens

module _ {X : Type 0} (p : X → Bool) where
  pub parts : (xs ys : List X) → list_all p (xs ++ ys) ≡ true → (list_all p xs ≡ true) × (list_all p ys ≡ true)
  parts xs ys h = both (list_all p xs) (list_all p ys) (sym (list_all-append p xs ys) ∙ h)

  pub whole : (xs ys : List X) → list_all p xs ≡ true → list_all p ys ≡ true → list_all p (xs ++ ys) ≡ true
  whole xs ys a b = list_all-append p xs ys ∙ both_yes (list_all p xs) (list_all p ys) a b

pub led_parts : (p : Token → Bool) (t : Token) (es : Phrases) → list_all p (led t es) ≡ true → list_all p (each es) ≡ true
led_parts p t nothing h = refl
led_parts p t (more e es) h =
    let a = parts p (tokens_of e) (led t es) (both (p t) (list_all p (tokens_of e ++ led t es)) h).1 in
    whole p (tokens_of e) (each es) a.0 (led_parts p t es a.1)

pub separated_parts : (p : Token → Bool) (t : Token) (es : Phrases) → list_all p (separated t es) ≡ true → list_all p (each es) ≡ true
separated_parts p t nothing h = refl
separated_parts p t (more e es) h =
    let a = parts p (tokens_of e) (led t es) h in
    whole p (tokens_of e) (each es) a.0 (led_parts p t es a.1)

pub led_separated : (t : Token) (es : Phrases) → is_more es ≡ true → led t es ≡ t ∷ separated t es
led_separated t nothing h = absurd (cc)
led_separated t (more e es) h = refl

-- ---- tokens of literals and keys

module _ (words others : List (List ℕ)) where
  pub literal_known : (l : Literal) (at : ℕ) → knows words others (token.Literal l at) ≡ true → has_literal words others l ≡ true
  literal_known (literal.Atom a) at h = h
  literal_known literal.True at h = refl
  literal_known literal.False at h = refl
  literal_known literal.Unit at h = refl

  pub label_known : (l : Literal) (at : ℕ) → knows words others (token.Label l at) ≡ true → has_literal words others l ≡ true
  label_known (literal.Atom a) at h = h
  label_known literal.True at h = refl
  label_known literal.False at h = refl
  label_known literal.Unit at h = refl

  key_known : (c : Constant) (at : ℕ) → knows words others (key_token c at) ≡ true → has_constant words others c ≡ true
  key_known (constant.Int i) at h = refl
  key_known (constant.Literal l) at h = literal_known l at h

  pub keys_known : (es : Phrases) (n : ℕ) → list_all (knows words others) (each es) ≡ true
      → list_all (has_constant words others) (map (λ (f : Constant × ℕ). f.0) (features n es)) ≡ true
  keys_known nothing n h = refl
  keys_known (more (keyed k at e) es) n h =
      let a = both (knows words others (key_token k at)) (list_all (knows words others) (tokens_of e ++ each es)) h in
      both_yes (has_constant words others k) _ (key_known k at a.0) (keys_known es n (parts (knows words others) (tokens_of e) (each es) a.1).1)
  keys_known (more e es) n h = keys_known es (suc n) (parts (knows words others) (tokens_of e) (each es) h).1

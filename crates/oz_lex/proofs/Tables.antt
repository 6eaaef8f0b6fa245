-- Texts that are looked up.
use Rattle.std.proofs.Common.{◌≡◌, ℕ, Bool, true, false, List, [], ◌∷◌, Some, refl, ap}
use Rattle.std.specs.Prelude.{map, find, option_map, unwrap_or, if◌then◌else◌}
use Rattle.oz_base.specs.Lists.{list_eq}
use Rattle.oz_language.specs.declared.token.Token.{Token}
use Rattle.oz_language.specs.declared.token.Token.TheVariants as token
use Rattle.oz_language.specs.Wording.{fixed, fixed_token}
use Rattle.oz_lex.specs.Lexing.{placed}

-- what stands beside the first key that passes a test, with the keys seen as they are or as something else
pub found_as : {A B C : Type 0} (see : A → B) (test : B → Bool) (ps : List (A × C))
    → option_map (λ (p : A × C). p.1) (find (λ (p : A × C). test (see p.0)) ps) ≡ option_map (λ (p : B × C). p.1) (find (λ (p : B × C). test p.0) (map (λ (p : A × C). (see p.0, p.1)) ps))
found_as see test [] = refl
found_as {A} {B} {C} see test (p ∷ ps) = by (test (see p.0)) (found_as see test ps)
  where
    by : (b : Bool) → option_map (λ (q : A × C). q.1) (find (λ (q : A × C). test (see q.0)) ps) ≡ option_map (λ (q : B × C). q.1) (find (λ (q : B × C). test q.0) (map (λ (q : A × C). (see q.0, q.1)) ps))
        → option_map (λ (q : A × C). q.1) (if b then Some p else find (λ (q : A × C). test (see q.0)) ps)
        ≡ option_map (λ (q : B × C). q.1) (if b then Some (see p.0, p.1) else find (λ (q : B × C). test q.0) (map (λ (q : A × C). (see q.0, q.1)) ps))
    by true rest = refl
    by false rest = rest

-- what is found stays where the values beside the keys change
pub found_after : {B C D : Type 0} (f : C → D) (test : B → Bool) (ps : List (B × C))
    → option_map (λ (p : B × D). p.1) (find (λ (p : B × D). test p.0) (map (λ (p : B × C). (p.0, f p.1)) ps))
    ≡ option_map f (option_map (λ (p : B × C). p.1) (find (λ (p : B × C). test p.0) ps))
found_after f test [] = refl
found_after {B} {C} {D} f test (p ∷ ps) = by (test p.0) (found_after f test ps)
  where
    by : (b : Bool)
        → option_map (λ (q : B × D). q.1) (find (λ (q : B × D). test q.0) (map (λ (q : B × C). (q.0, f q.1)) ps)) ≡ option_map f (option_map (λ (q : B × C). q.1) (find (λ (q : B × C). test q.0) ps))
        → option_map (λ (q : B × D). q.1) (if b then Some (p.0, f p.1) else find (λ (q : B × D). test q.0) (map (λ (q : B × C). (q.0, f q.1)) ps))
        ≡ option_map f (option_map (λ (q : B × C). q.1) (if b then Some p else find (λ (q : B × C). test q.0) ps))
    by true rest = refl
    by false rest = rest

-- the token of a text, by the one at its front
pub fixed_at : (at : ℕ) (bytes : List ℕ) → fixed_token at bytes ≡ unwrap_or (option_map (placed at) (option_map (λ (p : List ℕ × Token). p.1) (find (λ (p : List ℕ × Token). list_eq bytes p.0) (fixed 0)))) token.Other
fixed_at at bytes = ap (λ o. unwrap_or o token.Other) (found_after (placed at) (list_eq bytes) (fixed 0))

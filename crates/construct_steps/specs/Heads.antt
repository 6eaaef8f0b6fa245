-- Heads, case by case as the code reads them.
use Rattle.std.specs.Prelude.{ℕ, Bool, false, List, [], ◌∷◌, ◌++◌, Option, Some, None, nat_eq}
use Rattle.oz_language.specs.Wording.{lazy_word}
use Rattle.oz_language.specs.Grammar.{Phrase, Phrases, more, var, any, dollar, head, of_list, are_parameters}
use Rattle.oz_language.specs.declared.token.Token.{Token}
use Rattle.oz_language.specs.declared.token.Token.TheVariants.{Var, Any, CloseBrace}
use Rattle.reader_law.specs.Machine.{Maker, making_fun, Stack, guard, heading, heads, opened, made}

-- an atom where a head may begin
abbrev pub lazy_head : ℕ → ℕ → Maker → Stack → Option Stack
lazy_head n place (making_fun at None) k = guard (nat_eq n lazy_word) (Some (heading (making_fun at (Some place)) ∷ k))
lazy_head n place m k = None

-- behind the first name of a head
abbrev pub later_head : Option Token → Maker → ℕ → List Phrase → Stack → Option Stack
later_head (Some (Var name place)) m at hs k = Some (heads m at (hs ++ var name place ∷ []) ∷ k)
later_head (Some (Any place)) m at hs k = Some (heads m at (hs ++ any place ∷ []) ∷ k)
later_head (Some CloseBrace) m at hs k = Some (opened (made m (head at (of_list hs))) k)
later_head t m at hs k = None

-- a variable and parameters, and `$` and parameters
abbrev pub begins_with_name : Phrases → Bool
begins_with_name (more (var name place) hs) = are_parameters hs
begins_with_name hs = false

abbrev pub begins_with_dollar : Phrases → Bool
begins_with_dollar (more dollar hs) = are_parameters hs
begins_with_dollar hs = false

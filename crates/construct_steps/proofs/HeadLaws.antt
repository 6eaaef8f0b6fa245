-- What holds of heads, and of the phrases in them.
use Rattle.std.proofs.Common.{◌≡◌, ◌&&◌, ℕ, List, [], ◌∷◌, true, false, refl, ap, Option, Some}
use Rattle.std.specs.List.{list_all}
use Rattle.oz_language.specs.Grammar.{Phrase, Phrases, more, var, dollar, head, of_list, is_parameter, are_parameters, is_named_head, is_value_head}
use Rattle.oz_syntax.specs.declared.phrase.Phrase.{Phrase as Tree}
use Rattle.oz_syntax.specs.View.{view, views}
use Rattle.oz_language.specs.declared.token.Token.{Token}
use Rattle.oz_language.specs.declared.token.Token.TheVariants.{Var, Any, CloseBrace}
use Rattle.reader_law.specs.Machine.{Maker, Stack, is_some_item, first_head, next_head}
use Rattle.construct_steps.specs.Heads.{later_head, begins_with_name, begins_with_dollar}

pub head_begins : (t : Option Token) (m : Maker) (at : ℕ) (hs : List Phrase) (k : Stack) → is_some_item hs ≡ false → next_head t m at hs k ≡ first_head t m at k
head_begins t m at [] k h = refl
head_begins t m at (p ∷ hs) k h = absurd (cc)

pub head_goes_on : (t : Option Token) (m : Maker) (at : ℕ) (hs : List Phrase) (k : Stack) → is_some_item hs ≡ true → next_head t m at hs k ≡ later_head t m at hs k
head_goes_on t m at [] k h = absurd (cc)
head_goes_on (Some (Var name place)) m at (p ∷ hs) k h = refl
head_goes_on (Some (Any place)) m at (p ∷ hs) k h = refl
head_goes_on (Some CloseBrace) m at (p ∷ hs) k h = refl
head_goes_on t m at (p ∷ hs) k h = refl

pub named_names : (at : ℕ) (hs : Phrases) → is_named_head (head at hs) ≡ begins_with_name hs
named_names at (more (var name place) hs) = refl
named_names at hs = refl

pub valued_names : (at : ℕ) (hs : Phrases) → is_value_head (head at hs) ≡ begins_with_dollar hs
valued_names at (more dollar hs) = refl
valued_names at hs = refl

pub all_parameters : (ps : List Tree) → list_all (λ p. is_parameter (view p)) ps ≡ are_parameters (of_list (views ps))
all_parameters [] = refl
all_parameters (p ∷ ps) = ap (λ rest. is_parameter (view p) && rest) (all_parameters ps)

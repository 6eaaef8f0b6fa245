-- Numbers by their digits.
use Rattle.std.proofs.Common.{◌≡◌, ℕ, ◌+◌, ◌*◌, ◌^◌, ◌<◌, ◌≤◌, true, List, length, get_or, take, arith}
use Rattle.std.specs.List.{list_all}
use Rattle.std.specs.Char.{digit_value}
use Rattle.std.specs.Str.Parse.{digits_value}
use Rattle.std.proofs.lemmas.Bool.Decides.{nat_tests}
use Rattle.std.proofs.lemmas.List.Sums.{AllPass-from_list_all}
use Rattle.std.proofs.lemmas.Int.Digits.{digits_value_more}
use Rattle.std.proofs.lemmas.Str.{digit_value_digit}
use Rattle.std.proofs.lemmas.Str.Parse.{digits_value-take-le}
use Rattle.oz_language.specs.Tokens.{is_digit}

digit_is : (c : ℕ) → is_digit c ≡ true → digit_value c + 48 ≡ c
digit_is c h = grind (arith, nat_tests, digit_value_digit)

-- the value of a digit
pub digit_at : (ds : List ℕ) (i : ℕ) → list_all is_digit ds ≡ true → i < length ds → digit_value (get_or ds i 0) + 48 ≡ get_or ds i 0
digit_at ds i h l = digit_is (get_or ds i 0) (AllPass-from_list_all is_digit ds h i 0 l)

-- where the first digits do not fit, the whole does not
pub too_large : (ds : List ℕ) (i : ℕ) → i < length ds → 2 ^ 128 ≤ digits_value 10 (take i ds) * 10 + digit_value (get_or ds i 0) → 2 ^ 128 ≤ digits_value 10 ds
too_large ds i inside large = omega (arith, digits_value_more 10 ds i inside, digits_value-take-le 10 ds (i + 1) (omega arith))

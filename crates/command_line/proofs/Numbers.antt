-- What the getters of clap's matches read of an option that was given.
use Rattle.std.proofs.Common.{◌≡◌, ◌∙◌, ◌^◌, ◌<◌, ◌≤◌, ap, refl, sym, subst, arith, ℕ, Bool, true, false, true≢false, List, [], ◌∷◌, Option, Some, None, IfSome, cond, ◌&&◌, Result, Ok, Err, Global}
use Rattle.std.proofs.lemmas.Bool.{ltb-true, leb-true}
use Rattle.std.specs.Prelude.{option_map, option_and_then, find, unwrap_or, Box}
use Rattle.std.specs.List.{list_all}
use Rattle.std.specs.Box.{box_value}
use Rattle.std.specs.Char.{is_digit}
use Rattle.std.specs.Str.{bytes_eq}
use Rattle.std.specs.Str.Parse.{AllDigits, IsNumeral, ParsesUnsigned, digits_value, without_leading_plus}
use Rattle.clap.specs.Words.{Row, Text, one_of, subcommand_rows, subcommand_rows_of}
use Rattle.clap.specs.Matches.{ReadsOne, subcommand_name_of}
use Rattle.clap.specs.Walk.{row_text}
use Rattle.clap.specs.declared.parser.matches.ArgMatches.{ArgMatches}
use Rattle.clap.specs.declared.parser.matches.ArgMatches.TheViews.{out-ArgMatches, out-SubCommand}
use Rattle.clap.specs.declared.parser.matches.SubCommand.{SubCommand}
use Rattle.oz_commands.specs.declared.command.Command.{Command}
use Rattle.oz_commands.specs.Commands.{Given, InRange, IsSpelled, OptionName, Verb, all, run, best, kernel, workers, budget, command_by, default, fit, is_number, most, same_name, takes, value_in, verb_word}
use Rattle.command_line.specs.Reading.{number_in, verb_of}
use Rattle.command_line.specs.Table.{id_of, row_for, rows_for}
use Rattle.command_line.proofs.Uses.{has_plus, ids_same, most_fits, no_plus}
use Rattle.command_line.proofs.ReadingLaws.{no_digit}

-- the digits that were given for an option
abbrev pub text_in : List Given → OptionName → Option Text
text_in given n = option_map (λ (g : Given). g.number) (find (λ (g : Given). same_name g.name n) given)

pub one_given : (n : OptionName) (given : List Given) → one_of (id_of n) (rows_for given) ≡ text_in given n
one_given n [] = refl
one_given n (g ∷ gs) = ap (λ b. option_and_then row_text (cond b (Some (row_for g)) (find (λ r. bytes_eq r.id (id_of n)) (rows_for gs)))) (ids_same g.name n)
    ∙ go (same_name g.name n) (one_given n gs)
  where
    go : (b : Bool) → one_of (id_of n) (rows_for gs) ≡ text_in gs n
        → option_and_then row_text (cond b (Some (row_for g)) (find (λ r. bytes_eq r.id (id_of n)) (rows_for gs))) ≡ option_map (λ (h : Given). h.number) (cond b (Some g) (find (λ (h : Given). same_name h.name n) gs))
    go true e = refl
    go false e = e

pub number_text : (n : OptionName) (given : List Given) → option_map (digits_value 10) (text_in given n) ≡ number_in given n
number_text n given = go (find (λ (g : Given). same_name g.name n) given)
  where
    go : (o : Option Given) → option_map (digits_value 10) (option_map (λ (g : Given). g.number) o) ≡ option_map (λ (g : Given). digits_value 10 g.number) o
    go None = refl
    go (Some g) = refl

both : (a b : Bool) → (a && b) ≡ true → (a ≡ true) × (b ≡ true)
both true b e = (refl, e)
both false b e = absurd (true≢false (sym e))

digits : (ds : Text) → list_all (λ d. is_digit d 10) ds ≡ true → AllDigits 10 ds
digits [] e = tt
digits (d ∷ ds) e =
    let parts = both _ _ e in
    (ltb-true _ _ parts.0, digits ds parts.1)

digits_no_plus : (t : Text) → list_all (λ d. is_digit d 10) t ≡ true → has_plus t ≡ false
digits_no_plus t e = go (has_plus t) refl
  where
    go : (b : Bool) → has_plus t ≡ b → has_plus t ≡ false
    go true h = absurd (true≢false (sym e ∙ no_digit t h))
    go false h = h

number_most : (n : OptionName) (t : Text) → is_number n t ≡ true → digits_value 10 t ≤ most n
number_most n t e = leb-true _ _ (both _ _ e).1

number_least : (n : OptionName) (t : Text) → is_number n t ≡ true → 1 ≤ digits_value 10 t
number_least n t e = leb-true _ _ (both _ _ (both _ _ e).0).1

number_digits : (n : OptionName) (t : Text) → is_number n t ≡ true → list_all (λ d. is_digit d 10) t ≡ true
number_digits n t e = (both _ _ (both _ _ (both _ _ e).0).0).1

number_is_numeral : (n : OptionName) (t : Text) → is_number n t ≡ true → IsNumeral 10 t
number_is_numeral n t e = (ltb-true _ _ (both _ _ (both _ _ (both _ _ e).0).0).0, digits t (number_digits n t e))

-- digits that are the number of an option read as that number
pub reads_number : (n : OptionName) (t : Text) → is_number n t ≡ true → (E : Type 0) (r : Option ℕ) (gives : Text → Result ℕ E → Type 0)
    → ((x : Result ℕ E) → gives t x → ParsesUnsigned 64 10 t x) → ReadsOne gives t r → r ≡ Some (digits_value 10 t)
reads_number n t e E r gives parses h =
    let plain : without_leading_plus t ≡ t = no_plus t (digits_no_plus t (number_digits n t e)) in
    let fits : digits_value 10 t < 2 ^ 64 = omega (arith, number_most n t e, most_fits n) in
    go r plain (number_is_numeral n t e) fits h
  where
    go : (r : Option ℕ) → without_leading_plus t ≡ t → IsNumeral 10 t → digits_value 10 t < 2 ^ 64 → ReadsOne gives t r → r ≡ Some (digits_value 10 t)
    go (Some v) plain numeral fits h = ap Some ((parses (Ok v) h).1 ∙ ap (digits_value 10) plain)
    go None plain numeral fits (x, h) =
        let bad = parses (Err x) h in
        absurd (bad (rw plain (numeral, fits)))

names_same : (m n : OptionName) → same_name m n ≡ true → m ≡ n
names_same workers workers e = refl
names_same budget budget e = refl
names_same workers budget e = absurd (true≢false (sym e))
names_same budget workers e = absurd (true≢false (sym e))

pub text_is_number : (v : Verb) (n : OptionName) (given : List Given) (t : Text) → fit v given ≡ true → text_in given n ≡ Some t → is_number n t ≡ true
text_is_number v n [] t ok e = cc
text_is_number v n (g ∷ gs) t ok e =
    let parts = both (takes v g.name && is_number g.name g.number) (fit v gs) ok in
    go (same_name g.name n) refl e (both (takes v g.name) (is_number g.name g.number) parts.0).1 (text_is_number v n gs t parts.1)
  where
    go : (b : Bool) → same_name g.name n ≡ b → option_map (λ (h : Given). h.number) (cond b (Some g) (find (λ (h : Given). same_name h.name n) gs)) ≡ Some t
        → is_number g.name g.number ≡ true → (text_in gs n ≡ Some t → is_number n t ≡ true) → is_number n t ≡ true
    go true h e own more =
        let is : g.number ≡ t = cc in
        subst (λ (u : Text). is_number n u ≡ true) is (subst (λ m. is_number m g.number ≡ true) (names_same g.name n h) own)
    go false h e own more = more e

-- ---- the command

pub verbs_apart : (v w : Verb) → verb_word v ≡ verb_word w → v ≡ w
verbs_apart v w e =
    let one : Some v ≡ Some w = sym (verb_named v) ∙ ap verb_of e ∙ verb_named w in
    cc
  where
    verb_named : (v : Verb) → verb_of (verb_word v) ≡ Some v
    verb_named all = refl
    verb_named run = refl
    verb_named best = refl
    verb_named kernel = refl

named : (o : Option (Box SubCommand Global)) → option_map (λ b. (out-SubCommand (box_value b)).name.now) o ≡ option_map (λ (p : Text × List Row). p.0) (subcommand_rows o)
named None = refl
named (Some b) = refl

pub found_name : (m : ArgMatches) (n : Text) (v : Verb) (given : List Given) → Some n ≡ subcommand_name_of m → subcommand_rows_of m ≡ Some (verb_word v, rows_for given) → n ≡ verb_word v
found_name m n v given is rows =
    let one : Some n ≡ Some (verb_word v) = is ∙ named (out-ArgMatches m).subcommand ∙ ap (option_map (λ p. p.0)) rows in
    cc

pub found_rows : (m : ArgMatches) (rs : List Row) (v : Verb) (given : List Given) → Some rs ≡ option_map (λ p. p.1) (subcommand_rows_of m) → subcommand_rows_of m ≡ Some (verb_word v, rows_for given)
    → rs ≡ rows_for given
found_rows m rs v given is rows =
    let one : Some rs ≡ Some (rows_for given) = is ∙ ap (option_map (λ p. p.1)) rows in
    cc

default_most : (n : OptionName) → default n ≤ most n
default_most workers = omega arith
default_most budget = omega arith

default_least : (n : OptionName) → 1 ≤ default n
default_least workers = omega arith
default_least budget = omega arith

-- the number that an option has is at most its greatest
pub value_most : (v : Verb) (n : OptionName) (given : List Given) → fit v given ≡ true → value_in given n ≤ most n
value_most v n given ok = subst (λ o. unwrap_or o (default n) ≤ most n) (number_text n given) (go (text_in given n) refl)
  where
    go : (o : Option Text) → text_in given n ≡ o → unwrap_or (option_map (digits_value 10) o) (default n) ≤ most n
    go None e = default_most n
    go (Some t) e = number_most n t (text_is_number v n given t ok e)

-- and at least 1
pub value_least : (v : Verb) (n : OptionName) (given : List Given) → fit v given ≡ true → 1 ≤ value_in given n
value_least v n given ok = subst (λ o. 1 ≤ unwrap_or o (default n)) (number_text n given) (go (text_in given n) refl)
  where
    go : (o : Option Text) → text_in given n ≡ o → 1 ≤ unwrap_or (option_map (digits_value 10) o) (default n)
    go None e = default_least n
    go (Some t) e = number_least n t (text_is_number v n given t ok e)

-- so the numbers of a command that is spelled are in their ranges
pub fitting_ranges : (v : Verb) (given : List Given) → fit v given ≡ true → InRange (command_by v given)
fitting_ranges all given ok = (value_least all workers given ok, value_most all workers given ok, value_most all budget given ok)
fitting_ranges run given ok = value_most run budget given ok
fitting_ranges best given ok = (value_least best workers given ok, value_most best workers given ok, value_least best budget given ok, value_most best budget given ok)
fitting_ranges kernel given ok = tt

pub spelled_ranges : (words : List Text) (r : Option Command) → IsSpelled words r → IfSome r InRange
spelled_ranges words None s = tt
spelled_ranges words (Some c) s = subst InRange s.meant (fitting_ranges s.verb s.given s.fitting)

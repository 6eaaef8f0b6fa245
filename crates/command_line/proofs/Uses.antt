-- One use of an option in clap's rows, and the option that joins those given.
use Rattle.std.proofs.Common.{◌≡◌, ◌∙◌, ◌^◌, ◌<◌, ap, ap₂, refl, arith, ℕ, Bool, true, false, true≢false, List, [], ◌∷◌, ◌++◌, append-nil, Option, Some, None, cond, ◌&&◌, ◌||◌, ◌==◌, not, nat_lt}
use Rattle.std.proofs.lemmas.Bool.{leb-true, lt-ltb}
use Rattle.std.specs.Prelude.{nat_le}
use Rattle.std.specs.List.{list_any}
use Rattle.std.specs.Str.{bytes_eq}
use Rattle.std.specs.Str.Parse.{digits_value, without_leading_plus}
use Rattle.clap.specs.Words.{Row, Text}
use Rattle.clap.specs.Walk.{at_row, has_row, more_values, used, with_values, without}
use Rattle.clap.specs.ValueTests.{accepts}
use Rattle.clap.specs.Faults.{use_fault, values_fault}
use Rattle.clap.specs.Kinds.{Kinds, or_else, value_kinds}
use Rattle.clap.specs.Values.{refused_kind}
use Rattle.clap.specs.declared.error.ErrorKind.TheVariants.{ArgumentConflict}
use Rattle.clap.specs.declared.builder.ValueParser.TheVariants as parser
use Rattle.clap.specs.declared.parser.matches.ValueSource.TheVariants.{CommandLine}
use Rattle.clap.specs.declared.builder.value_parser.Reading.TheVariants as reading
use Rattle.oz_commands.specs.Commands.{Given, OptionName, Verb, workers, budget, is_number, most, same_name, takes}
use Rattle.command_line.specs.Reading.{is_given, with_option}
use Rattle.command_line.specs.Table.{id_of, row_for, rows_for}
use Rattle.command_line.proofs.Leaf.{rule_for, one_used}

pub ids_same : (m n : OptionName) → bytes_eq (id_of m) (id_of n) ≡ same_name m n
ids_same workers workers = refl
ids_same workers budget = refl
ids_same budget workers = refl
ids_same budget budget = refl

pub row_given : (n : OptionName) (given : List Given) → has_row (id_of n) (rows_for given) ≡ is_given n given
row_given n [] = refl
row_given n (g ∷ gs) = ap₂ (λ a b. a || b) (ids_same g.name n) (row_given n gs)

at_new : (id : Text) (change : Row → List Row) (missing : List Row) (rows : List Row) → has_row id rows ≡ false → at_row id change missing rows ≡ rows ++ missing
at_new id change missing [] e = refl
at_new id change missing (r ∷ rs) e = go (bytes_eq r.id id) refl e (at_new id change missing rs)
  where
    go : (b : Bool) → bytes_eq r.id id ≡ b → (b || has_row id rs) ≡ false → (has_row id rs ≡ false → at_row id change missing rs ≡ rs ++ missing)
        → at_row id change missing (r ∷ rs) ≡ r ∷ (rs ++ missing)
    go true h e more = absurd (true≢false e)
    go false h e more = rw h (ap (λ t. r ∷ t) (more e))

used_is : (n : OptionName) (t : Text) (rows : List Row) → used (rule_for n) (t ∷ []) rows ≡ with_values (id_of n) reading.AsWritten CommandLine (t ∷ []) (without (id_of n) rows)
used_is workers t rows = refl
used_is budget t rows = refl

map_more : (given : List Given) (g : Given) → rows_for given ++ row_for g ∷ [] ≡ rows_for (given ++ g ∷ [])
map_more [] g = refl
map_more (h ∷ hs) g = ap (λ t. row_for h ∷ t) (map_more hs g)

-- a first use of an option adds its row
used_new : (g : Given) (given : List Given) → is_given g.name given ≡ false → used (rule_for g.name) (g.number ∷ []) (rows_for given) ≡ rows_for (given ++ g ∷ [])
used_new g given e =
    let none : has_row (id_of g.name) (rows_for given) ≡ false = row_given g.name given ∙ e in
    let same : without (id_of g.name) (rows_for given) ≡ rows_for given = at_new (id_of g.name) (λ _. []) [] (rows_for given) none ∙ append-nil (rows_for given) in
    used_is g.name g.number (rows_for given) ∙ ap (with_values (id_of g.name) reading.AsWritten CommandLine (g.number ∷ [])) same
    ∙ at_new (id_of g.name) (more_values CommandLine (g.number ∷ [])) (row_for g ∷ []) (rows_for given) none ∙ map_more given g

-- ---- the number

abbrev pub has_plus : Text → Bool
has_plus t = list_any (λ c. c == 43) t

pub no_plus : (t : Text) → has_plus t ≡ false → without_leading_plus t ≡ t
no_plus [] e = refl
no_plus (x ∷ xs) e = go (x == 43) refl e
  where
    go : (b : Bool) → (x == 43) ≡ b → (b || has_plus xs) ≡ false → without_leading_plus (x ∷ xs) ≡ x ∷ xs
    go true h e = absurd (true≢false e)
    go false h e = rw h refl

-- the limit of `u64` says nothing where the greatest number is below it
limit : (a b : Bool) (n m : ℕ) → m < 2 ^ 64 → (a && (nat_lt n (2 ^ 64) && (b && nat_le n m))) ≡ ((a && b) && nat_le n m)
limit a b n m lt = go (nat_le n m) refl
  where
    all_there : (a b : Bool) → (a && (true && (b && true))) ≡ ((a && b) && true)
    all_there true true = refl
    all_there true false = refl
    all_there false b = refl

    all_false : (a l b : Bool) → (a && (l && (b && false))) ≡ ((a && b) && false)
    all_false true true true = refl
    all_false true true false = refl
    all_false true false true = refl
    all_false true false false = refl
    all_false false l b = refl

    go : (c : Bool) → nat_le n m ≡ c → (a && (nat_lt n (2 ^ 64) && (b && c))) ≡ ((a && b) && c)
    go true h = rw (lt-ltb n (2 ^ 64) (omega (arith, leb-true n m h))) (all_there a b)
    go false h = all_false a (nat_lt n (2 ^ 64)) b

pub most_fits : (n : OptionName) → most n < 2 ^ 64
most_fits workers = omega arith
most_fits budget = omega arith

accepts_number : (n : OptionName) (t : Text) → has_plus t ≡ false → accepts false (parser.Unsigned 1 (most n)) t ≡ is_number n t
accepts_number n t e = rw (no_plus t e) (limit _ _ (digits_value 10 t) (most n) (most_fits n))

values_is : (n : OptionName) (t : Text) → values_fault (rule_for n) (t ∷ []) ≡ or_else (value_kinds false (parser.Unsigned 1 (most n)) t) []
values_is workers t = refl
values_is budget t = refl

-- what clap makes of a use is what becomes of the options
abbrev pub Agrees : Kinds → List Row → Option (List Given) → Type 0
Agrees kinds rows None = kinds ≡ [] → ⊥
Agrees kinds rows (Some given) = (kinds ≡ []) × (rows ≡ rows_for given)

fault_is : (g : Given) (given : List Given) → has_plus g.number ≡ false → use_fault false (rule_for g.name) (g.number ∷ []) (rows_for given)
    ≡ or_else (cond (is_given g.name given && true) (ArgumentConflict ∷ []) []) (or_else (cond (is_number g.name g.number) [] (refused_kind (parser.Unsigned 1 (most g.name)) ∷ [])) [])
fault_is g given plus = one_used g.name g.number (rows_for given)
    ∙ ap₂ (λ b ks. or_else (cond (b && true) (ArgumentConflict ∷ []) []) ks) (row_given g.name given)
    (values_is g.name g.number ∙ ap (λ b. or_else (cond b [] (refused_kind (parser.Unsigned 1 (most g.name)) ∷ [])) []) (accepts_number g.name g.number plus))

pub one_agrees : (v : Verb) (g : Given) (given : List Given) → takes v g.name ≡ true → has_plus g.number ≡ false
    → Agrees (use_fault false (rule_for g.name) (g.number ∷ []) (rows_for given)) (used (rule_for g.name) (g.number ∷ []) (rows_for given)) (with_option v g given)
one_agrees v g given taken plus = rw (fault_is g given plus, taken) (go (is_given g.name given) refl (is_number g.name g.number))
  where
    go : (b : Bool) → is_given g.name given ≡ b → (c : Bool)
        → Agrees (or_else (cond (b && true) (ArgumentConflict ∷ []) []) (or_else (cond c [] (refused_kind (parser.Unsigned 1 (most g.name)) ∷ [])) []))
        (used (rule_for g.name) (g.number ∷ []) (rows_for given)) (cond (true && (not b && c)) (Some (given ++ g ∷ [])) None)
    go true is c = λ e. cc
    go false is true = (refl, used_new g given is)
    go false is false = λ e. cc
